-- Roots that were read are read back from what is printed of them.
use Rattle.std.proofs.Common.{◌≡◌, ℕ, suc, ◌+◌, ◌≤◌, Bool, true, false, cond, List, [], ◌∷◌, ◌++◌, map, length, Option, Some, None, Ok, refl, sym, ap, subst, ◌∙◌, append_assoc, length-append, arith}
use Rattle.std.proofs.lemmas.List.{append-nil, length-map}
use Rattle.std.specs.List.{flat_map, AllByRecursion}
use Rattle.wf_names.specs.declared.root.Root.{Root}
use Rattle.wf_names.specs.declared.root.Root.TheVariants.{StaticCall, Inst, Make}
use Rattle.wf_lines.specs.Lines.{is_nothing, line, lines_of, words_of}
use Rattle.wf_inputs.specs.declared.roots.RootLine.{RootLine}
use Rattle.wf_inputs.specs.declared.roots.Roots.{Roots}
use Rattle.wf_inputs.specs.Printing.{root_words, root_text, root_line, roots_text}
use Rattle.wf_inputs.specs.Reading.{Read, ◌>>=◌, read_on, root_on, roots_on, roots_of}
use Rattle.wf_inputs.specs.Saying.{Words, root_said}
use Rattle.wf_inputs.specs.Unnumbered.{unnumbered_root, unnumbered_roots, IsReadAsRoots}
use Rattle.wf_inputs.proofs.Again.{LineLaws, IsAgain, from_spelled, text_again, texts_again, all_append}
use Rattle.wf_inputs.proofs.Bounds.{bound, limited, unlimited}
use Rattle.wf_inputs.proofs.Spelled.{WordLaws, a_root}

abbrev pub IsRoot : Root → Type 0
IsRoot root = IsAgain root_words root_said root

-- ---- what was read

pub record AreRoots (lines : List RootLine) (most : ℕ) : Type 0 where
  each : AllByRecursion (λ (l : RootLine). IsRoot l.root) lines
  few : length lines ≤ most

one_read : WordLaws → (n : ℕ) (lines : List RootLine) (ws : Words) (o : Option Root) (next : List RootLine) (most : ℕ) → root_said ws ≡ o → root_on n lines o ≡ Ok next → AreRoots lines most → AreRoots next (suc most)
one_read laws n lines ws None next most said h a = absurd cc
one_read laws n lines ws (Some root) next most said h a =
    let P : RootLine → Type 0 = λ (l : RootLine). IsRoot l.root in
    let new : RootLine = record { line = n; root = root } in
    let is : lines ++ new ∷ [] ≡ next = cc in
    let here : IsRoot root = from_spelled root_words root_said root ws (a_root laws ws root said) said in
    let Q : List RootLine → Type 0 = λ ls. AreRoots ls (suc most) in
    subst Q is (record { each = all_append P lines (new ∷ []) a.each (here, tt); few = omega (arith, length-append lines (new ∷ []), a.few) })

line_read : WordLaws → (n : ℕ) (lines : List RootLine) (text : List ℕ) (next : List RootLine) (most : ℕ) → roots_on n lines text ≡ Ok next → AreRoots lines most → AreRoots next (suc most)
line_read laws n lines text next most h a = go (is_nothing text) h
  where
    go : (v : Bool) → cond v (Ok lines) (root_on n lines (root_said (words_of text))) ≡ Ok next → AreRoots next (suc most)
    go true k =
        let is : lines ≡ next = cc in
        let Q : List RootLine → Type 0 = λ ls. AreRoots ls (suc most) in
        subst Q is (record { each = a.each; few = omega (arith, a.few) })
    go false k = one_read laws n lines (words_of text) (root_said (words_of text)) next most refl k a

lines_read : WordLaws → (n : ℕ) (lines : List RootLine) (texts : List (List ℕ)) (next : List RootLine) (most : ℕ) → read_on roots_on n lines texts ≡ Ok next → AreRoots lines most → AreRoots next (most + length texts)
unfolding read_on
lines_read laws n lines [] next most h a =
    let is : lines ≡ next = cc in
    let Q : List RootLine → Type 0 = λ ls. AreRoots ls (most + 0) in
    subst Q is (record { each = a.each; few = omega (arith, a.few) })
lines_read laws n lines (text ∷ texts) next most h a =
    let b = bound (roots_on n lines text) (λ ls. read_on roots_on (n + 1) ls texts) next h in
    let rest : AreRoots next (suc most + length texts) = lines_read laws (n + 1) b.at texts next (suc most) b.rest (line_read laws n lines text b.at most b.is a) in
    record { each = rest.each; few = omega (arith, rest.few) }

-- ---- what is printed

abbrev numbered : ℕ → List RootLine → List RootLine
numbered n [] = []
numbered n (l ∷ ls) = record { line = n; root = l.root } ∷ numbered (n + 1) ls

says_something : (r : Root) → is_nothing (root_text r) ≡ false
says_something (StaticCall m) = refl
says_something (Inst n) = refl
says_something (Make n) = refl

one_again : LineLaws → (n : ℕ) (lines : List RootLine) (r : Root) → IsRoot r → roots_on n lines (root_text r) ≡ Ok (lines ++ record { line = n; root = r } ∷ [])
one_again laws n lines r is =
    ap (λ (v : Bool). cond v (Ok lines) (root_on n lines (root_said (words_of (root_text r))))) (says_something r)
    ∙ ap (λ (o : Option Root). root_on n lines o) (text_again root_words root_said r laws refl is)

lines_again : LineLaws → (n : ℕ) (lines ls : List RootLine) → AllByRecursion (λ (l : RootLine). IsRoot l.root) ls → read_on roots_on n lines (map (λ (l : RootLine). root_text l.root) ls) ≡ Ok (lines ++ numbered n ls)
unfolding read_on
lines_again laws n lines [] all = ap (λ (xs : List RootLine). Ok xs) (sym (append-nil lines))
lines_again laws n lines (l ∷ ls) all =
    ap (λ (r : Read (List RootLine)). r >>= λ next. read_on roots_on (n + 1) next (map (λ (x : RootLine). root_text x.root) ls)) (one_again laws n lines l.root all.0)
    ∙ lines_again laws (n + 1) (lines ++ record { line = n; root = l.root } ∷ []) ls all.1
    ∙ ap (λ (xs : List RootLine). Ok xs) (append_assoc lines (record { line = n; root = l.root } ∷ []) (numbered (n + 1) ls))

same_numbered : (n : ℕ) (ls : List RootLine) → map unnumbered_root (numbered n ls) ≡ map unnumbered_root ls
same_numbered n [] = refl
same_numbered n (l ∷ ls) = ap (λ (xs : List RootLine). unnumbered_root l ∷ xs) (same_numbered (n + 1) ls)

-- the text doesn't depend on line numbers
text_unnumbered : (ls : List RootLine) → flat_map root_line (map unnumbered_root ls) ≡ flat_map root_line ls
text_unnumbered [] = refl
text_unnumbered (l ∷ ls) = ap (λ (rest : List ℕ). root_line l ++ rest) (text_unnumbered ls)

roots_of_lines : (ls : List RootLine) → AllByRecursion (λ (l : RootLine). IsRoot l.root) ls → AllByRecursion IsRoot (map (λ (l : RootLine). l.root) ls)
roots_of_lines [] all = tt
roots_of_lines (l ∷ ls) all = (all.0, roots_of_lines ls all.1)

over_roots : (ls : List RootLine) → flat_map root_line ls ≡ flat_map (λ r. line (root_text r)) (map (λ (l : RootLine). l.root) ls)
over_roots [] = refl
over_roots (l ∷ ls) = ap (λ (rest : List ℕ). root_line l ++ rest) (over_roots ls)

over_texts : (ls : List RootLine) → map root_text (map (λ (l : RootLine). l.root) ls) ≡ map (λ (l : RootLine). root_text l.root) ls
over_texts [] = refl
over_texts (l ∷ ls) = ap (λ (rest : List (List ℕ)). root_text l.root ∷ rest) (over_texts ls)

printed_lines : LineLaws → (ls : List RootLine) → AllByRecursion (λ (l : RootLine). IsRoot l.root) ls → lines_of (flat_map root_line ls) ≡ map (λ (l : RootLine). root_text l.root) ls
printed_lines laws ls all =
    ap lines_of (over_roots ls) ∙ texts_again root_words root_said (map (λ (l : RootLine). l.root) ls) laws (roots_of_lines ls all) ∙ over_texts ls

read_again : LineLaws → (roots : Roots) → AllByRecursion (λ (l : RootLine). IsRoot l.root) roots.lines → lines_of (roots_text roots) ≡ map (λ (l : RootLine). root_text l.root) roots.lines → length (lines_of (roots_text roots)) ≤ 65536
    → roots_of (roots_text roots) ≡ Ok (record { lines = numbered 1 roots.lines })
read_again laws roots each cut few =
    unlimited (roots_text roots) (read_on roots_on 1 [] (lines_of (roots_text roots)) >>= λ ls. Ok (record { lines = ls })) few
    ∙ ap (λ (ts : List (List ℕ)). read_on roots_on 1 [] ts >>= λ ls. Ok (record { lines = ls })) cut
    ∙ ap (λ (r : Read (List RootLine)). r >>= λ ls. Ok (record { lines = ls })) (lines_again laws 1 [] roots.lines each)

pub roots_read_back : WordLaws → LineLaws → (bytes : List ℕ) (read printed : Roots) → roots_of bytes ≡ Ok read → unnumbered_roots printed ≡ unnumbered_roots read → IsReadAsRoots (roots_text printed) printed
roots_read_back words laws bytes read printed h same =
    let l = limited bytes (read_on roots_on 1 [] (lines_of bytes) >>= λ ls. Ok (record { lines = ls })) read h in
    let b = bound (read_on roots_on 1 [] (lines_of bytes)) (λ ls. Ok (record { lines = ls })) read l.1 in
    let lines : b.at ≡ read.lines = ap (λ (r : Roots). r.lines) (ok_is (record { lines = b.at }) read b.rest) in
    let P : List RootLine → Type 0 = λ ls. AreRoots ls (0 + length (lines_of bytes)) in
    let are : AreRoots read.lines (0 + length (lines_of bytes)) = subst P lines (lines_read words 1 [] (lines_of bytes) b.at 0 b.is (record { each = tt; few = omega arith })) in
    let text : roots_text printed ≡ roots_text read =
    sym (text_unnumbered printed.lines) ∙ ap (λ (r : Roots). flat_map root_line r.lines) same ∙ text_unnumbered read.lines in
    let cut : lines_of (roots_text read) ≡ map (λ (l : RootLine). root_text l.root) read.lines = printed_lines laws read.lines are.each in
    let few : length (lines_of (roots_text read)) ≤ 65536 = omega (arith, ap length cut, length-map read.lines (λ (l : RootLine). root_text l.root), are.few, l.0) in
    let again : roots_of (roots_text read) ≡ Ok (record { lines = numbered 1 read.lines }) =
    read_again laws read are.each cut few in
    record {
      again = record { lines = numbered 1 read.lines };
      read = ap roots_of text ∙ again;
      same = ap (λ (ls : List RootLine). record { lines = ls }) (same_numbered 1 read.lines) ∙ sym same;
    }
  where
    ok_is : (x y : Roots) → ◌≡◌ {A = Read Roots} (Ok x) (Ok y) → x ≡ y
    ok_is x y e = cc
