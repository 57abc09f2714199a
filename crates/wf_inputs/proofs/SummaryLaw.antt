-- A summary that was read is read back from what is printed of it.
use Rattle.std.proofs.Common.{◌≡◌, ℕ, suc, ◌+◌, ◌≤◌, Bool, true, false, cond, List, [], ◌∷◌, ◌++◌, map, length, Option, Some, None, Ok, Err, refl, sym, ap, subst, ◌∙◌, append_assoc, arith}
use Rattle.std.proofs.lemmas.List.{append-nil, map-append, length-map}
use Rattle.std.proofs.lemmas.List.Concat.{flat_map-append}
use Rattle.std.specs.List.{flat_map, AllByRecursion}
use Rattle.wf_names.specs.declared.member.MemberName.{MemberName}
use Rattle.wf_lines.specs.Lines.{is_nothing, line, lines_of, words_of}
use Rattle.wf_inputs.specs.declared.read.SoFar.{SoFar}
use Rattle.wf_inputs.specs.declared.said.Said.{Said}
use Rattle.wf_inputs.specs.declared.said.Said.TheVariants.{Opens, Does, Sets}
use Rattle.wf_inputs.specs.declared.summary.Block.{Block}
use Rattle.wf_inputs.specs.declared.summary.Effect.{Effect}
use Rattle.wf_inputs.specs.declared.summary.Effect.TheVariants.{ReturnsVoid, Returns, Makes, Writes, Copies}
use Rattle.wf_inputs.specs.declared.summary.EffectLine.{EffectLine}
use Rattle.wf_inputs.specs.declared.summary.Literal.{Literal}
use Rattle.wf_inputs.specs.declared.summary.Summary.{Summary}
use Rattle.wf_inputs.specs.declared.summary.Value.{Value}
use Rattle.wf_inputs.specs.Printing.{said_words, said_text, effect_text, block_text, literal_text, summary_text}
use Rattle.wf_inputs.specs.Reading.{Read, ◌>>=◌, read_on, closed, with_block, with_effect, with_literal, taken, said_on, summary_on, nothing_yet, summary_with, summary_of}
use Rattle.wf_inputs.specs.Saying.{line_said}
use Rattle.wf_inputs.specs.Unnumbered.{unnumbered_effect, unnumbered_block, unnumbered_literal, unnumbered, IsReadAsSummary}
use Rattle.wf_inputs.proofs.Again.{LineLaws, IsAgain, Inserts, from_spelled, text_again, texts_again, all_inserted, length_inserted}
use Rattle.wf_inputs.proofs.Bounds.{bound, limited, unlimited}
use Rattle.wf_inputs.proofs.Spelled.{WordLaws, a_line}

abbrev IsSaid : Said → Type 0
IsSaid said = IsAgain said_words line_said said

-- ---- what a summary says, line by line

abbrev effect_says : EffectLine → Said
effect_says e = Does e.effect

abbrev block_says : Block → List Said
block_says b = Opens b.replace b.method ∷ map effect_says b.effects

abbrev literal_says : Literal → Said
literal_says l = Sets l.field l.value

abbrev blocks_say : List Block → List Said
blocks_say blocks = flat_map block_says blocks

abbrev literals_say : List Literal → List Said
literals_say literals = map literal_says literals

abbrev says : List Block → List Literal → List Said
says blocks literals = blocks_say blocks ++ literals_say literals

abbrev says_so_far : SoFar → List Said
says_so_far s = says (closed s.blocks s.now) s.literals

-- ---- one line more

block_inserts : (n : ℕ) (replace : Bool) (m : MemberName) (s : SoFar) → Inserts (Opens replace m) (says_so_far s) (says_so_far (with_block n replace m s))
block_inserts n replace m s =
    let blocks = closed s.blocks s.now in
    let new : Block = record { line = n; replace = replace; method = m; effects = [] } in
    record {
      front = blocks_say blocks;
      back = literals_say s.literals;
      was = refl;
      is = ap (λ (xs : List Said). xs ++ literals_say s.literals) (flat_map-append block_says blocks (new ∷ [])) ∙ append_assoc (blocks_say blocks) (Opens replace m ∷ []) (literals_say s.literals);
    }

effect_inserts : (n : ℕ) (e : Effect) (blocks : List Block) (b : Block) (literals : List Literal)
    → Inserts (Does e) (says (blocks ++ b ∷ []) literals) (says (blocks ++ record { line = b.line; replace = b.replace; method = b.method; effects = b.effects ++ record { line = n; effect = e } ∷ [] } ∷ []) literals)
effect_inserts n e blocks b literals =
    let new : EffectLine = record { line = n; effect = e } in
    let later : Block = record { line = b.line; replace = b.replace; method = b.method; effects = b.effects ++ new ∷ [] } in
    let front = blocks_say blocks ++ block_says b in
    record {
      front = front;
      back = literals_say literals;
      was = ap (λ (xs : List Said). xs ++ literals_say literals) (flat_map-append block_says blocks (b ∷ []) ∙ ap (λ (xs : List Said). blocks_say blocks ++ xs) (append-nil (block_says b)));
      is = ap (λ (xs : List Said). xs ++ literals_say literals) (
          flat_map-append block_says blocks (later ∷ []) ∙ ap (λ (xs : List Said). blocks_say blocks ++ xs) (append-nil (block_says later) ∙ ap (λ (xs : List Said). Opens b.replace b.method ∷ xs) (map-append effect_says b.effects (new ∷ [])))
          ∙ sym (append_assoc (blocks_say blocks) (block_says b) (Does e ∷ [])))
          ∙ append_assoc front (Does e ∷ []) (literals_say literals);
    }

literal_inserts : (n : ℕ) (f : MemberName) (v : Value) (s : SoFar) → Inserts (Sets f v) (says_so_far s) (says_so_far (with_literal n f v s))
literal_inserts n f v s =
    let blocks = closed s.blocks s.now in
    let new : Literal = record { line = n; field = f; value = v } in
    record {
      front = says_so_far s;
      back = [];
      was = sym (append-nil (says_so_far s));
      is = ap (λ (xs : List Block). blocks_say xs ++ literals_say (s.literals ++ new ∷ [])) (append-nil blocks) ∙ ap (λ (xs : List Said). blocks_say blocks ++ xs) (map-append literal_says s.literals (new ∷ []))
          ∙ sym (append_assoc (blocks_say blocks) (literals_say s.literals) (Sets f v ∷ []));
    }

ok_is : {X : Type 0} (x y : X) → ◌≡◌ {A = Read X} (Ok x) (Ok y) → x ≡ y
ok_is x y e = cc

now_inserts : (n : ℕ) (e : Effect) (s : SoFar) (o : Option Block) (next : SoFar) → s.now ≡ o → with_effect n e s o ≡ Ok next → Inserts (Does e) (says_so_far s) (says_so_far next)
now_inserts n e s None next is h = absurd cc
now_inserts n e s (Some b) next is h =
    let P : SoFar → Type 0 = λ t. Inserts (Does e) (says_so_far s) (says_so_far t) in
    let Q : Option Block → Type 0 = λ now. Inserts (Does e) (says (closed s.blocks now) s.literals)
    (says (s.blocks ++ record { line = b.line; replace = b.replace; method = b.method; effects = b.effects ++ record { line = n; effect = e } ∷ [] } ∷ []) s.literals) in
    let made : SoFar = record {
      blocks = s.blocks;
      now = Some (record { line = b.line; replace = b.replace; method = b.method; effects = b.effects ++ record { line = n; effect = e } ∷ [] });
      literals = s.literals;
    } in
    subst P (ok_is made next h) (subst Q (sym is) (effect_inserts n e s.blocks b s.literals))

taken_inserts : (n : ℕ) (s : SoFar) (said : Said) (next : SoFar) → taken n s said ≡ Ok next → Inserts said (says_so_far s) (says_so_far next)
taken_inserts n s (Opens replace m) next h = let P : SoFar → Type 0 = λ t. Inserts (Opens replace m) (says_so_far s) (says_so_far t) in subst P (ok_is (with_block n replace m s) next h) (block_inserts n replace m s)
taken_inserts n s (Does e) next h = now_inserts n e s s.now next refl h
taken_inserts n s (Sets f v) next h = let P : SoFar → Type 0 = λ t. Inserts (Sets f v) (says_so_far s) (says_so_far t) in subst P (ok_is (with_literal n f v s) next h) (literal_inserts n f v s)

-- ---- what was read

-- all that was said is said again, and is no more than the lines that were read
record IsRead (s : SoFar) (most : ℕ) : Type 0 where
  each : AllByRecursion IsSaid (says_so_far s)
  few : length (says_so_far s) ≤ most

one_read : WordLaws → (n : ℕ) (s : SoFar) (ws : List (List ℕ)) (o : Option Said) (next : SoFar) (most : ℕ) → line_said ws ≡ o → said_on n s o ≡ Ok next → IsRead s most → IsRead next (suc most)
one_read laws n s ws None next most said h r = absurd cc
one_read laws n s ws (Some x) next most said h r =
    let i = taken_inserts n s x next h in
    record {
      each = all_inserted IsSaid x (says_so_far s) (says_so_far next) i (from_spelled said_words line_said x ws (a_line laws ws x said) said) r.each;
      few = omega (arith, length_inserted x (says_so_far s) (says_so_far next) i, r.few);
    }

line_read : WordLaws → (n : ℕ) (s : SoFar) (text : List ℕ) (next : SoFar) (most : ℕ) → summary_on n s text ≡ Ok next → IsRead s most → IsRead next (suc most)
line_read laws n s text next most h r = go (is_nothing text) h
  where
    go : (v : Bool) → cond v (Ok s) (said_on n s (line_said (words_of text))) ≡ Ok next → IsRead next (suc most)
    go true k =
        let P : SoFar → Type 0 = λ t. IsRead t (suc most) in
        subst P (ok_is s next k) (record { each = r.each; few = omega (arith, r.few) })
    go false k = one_read laws n s (words_of text) (line_said (words_of text)) next most refl k r

lines_read : WordLaws → (n : ℕ) (s : SoFar) (texts : List (List ℕ)) (next : SoFar) (most : ℕ) → read_on summary_on n s texts ≡ Ok next → IsRead s most → IsRead next (most + length texts)
unfolding read_on
lines_read laws n s [] next most h r =
    let P : SoFar → Type 0 = λ t. IsRead t (most + 0) in
    subst P (ok_is s next h) (record { each = r.each; few = omega (arith, r.few) })
lines_read laws n s (text ∷ texts) next most h r =
    let b = bound (summary_on n s text) (λ t. read_on summary_on (n + 1) t texts) next h in
    let rest : IsRead next (suc most + length texts) = lines_read laws (n + 1) b.at texts next (suc most) b.rest (line_read laws n s text b.at most b.is r) in
    record { each = rest.each; few = omega (arith, rest.few) }

-- ---- what is printed is said

says_something : (s : Said) → is_nothing (said_text s) ≡ false
says_something (Opens true m) = refl
says_something (Opens false m) = refl
says_something (Does ReturnsVoid) = refl
says_something (Does (Returns v)) = refl
says_something (Does (Makes n)) = refl
says_something (Does (Writes f v)) = refl
says_something (Does (Copies j k)) = refl
says_something (Sets f v) = refl

one_again : LineLaws → (n : ℕ) (s : SoFar) (x : Said) → IsSaid x → summary_on n s (said_text x) ≡ taken n s x
one_again laws n s x is =
    ap (λ (v : Bool). cond v (Ok s) (said_on n s (line_said (words_of (said_text x))))) (says_something x) ∙ ap (λ (o : Option Said). said_on n s o) (text_again said_words line_said x laws refl is)

-- what is said one after the other
run : ℕ → SoFar → List Said → Read SoFar
run n s [] = Ok s
run n s (x ∷ xs) = taken n s x >>= λ next. run (n + 1) next xs

reads : LineLaws → (n : ℕ) (s : SoFar) (xs : List Said) → AllByRecursion IsSaid xs → read_on summary_on n s (map said_text xs) ≡ run n s xs
unfolding read_on run
reads laws n s [] all = refl
reads laws n s (x ∷ xs) all =
    ap (λ (r : Read SoFar). r >>= λ next. read_on summary_on (n + 1) next (map said_text xs)) (one_again laws n s x all.0) ∙ same (taken n s x) (λ next. reads laws (n + 1) next xs all.1)
  where
    same : (r : Read SoFar) → ((next : SoFar) → read_on summary_on (n + 1) next (map said_text xs) ≡ run (n + 1) next xs) → (r >>= λ next. read_on summary_on (n + 1) next (map said_text xs)) ≡ (r >>= λ next. run (n + 1) next xs)
    same (Ok next) rest = rest next
    same (Err e) rest = refl

-- ---- the lines that are printed, numbered

abbrev after : {X : Type 0} → ℕ → List X → ℕ
after n [] = n
after n (x ∷ xs) = after (n + 1) xs

abbrev numbered_effects : ℕ → List EffectLine → List EffectLine
numbered_effects n [] = []
numbered_effects n (e ∷ es) = record { line = n; effect = e.effect } ∷ numbered_effects (n + 1) es

abbrev numbered_block : ℕ → Block → Block
numbered_block n b = record { line = n; replace = b.replace; method = b.method; effects = numbered_effects (n + 1) b.effects }

abbrev numbered_blocks : ℕ → List Block → List Block
numbered_blocks n [] = []
numbered_blocks n (b ∷ bs) = numbered_block n b ∷ numbered_blocks (after (n + 1) b.effects) bs

abbrev after_blocks : ℕ → List Block → ℕ
after_blocks n [] = n
after_blocks n (b ∷ bs) = after_blocks (after (n + 1) b.effects) bs

abbrev numbered_literals : ℕ → List Literal → List Literal
numbered_literals n [] = []
numbered_literals n (l ∷ ls) = record { line = n; field = l.field; value = l.value } ∷ numbered_literals (n + 1) ls

abbrev with_more : Block → List EffectLine → Block
with_more b es = record { line = b.line; replace = b.replace; method = b.method; effects = b.effects ++ es }

abbrev in_block : List Block → Block → List Literal → SoFar
in_block blocks b literals = record { blocks = blocks; now = Some b; literals = literals }

run_effects : (es : List EffectLine) (n : ℕ) (blocks : List Block) (b : Block) (literals : List Literal) (rest : List Said)
    → run n (in_block blocks b literals) (map effect_says es ++ rest) ≡ run (after n es) (in_block blocks (with_more b (numbered_effects n es)) literals) rest
unfolding run
run_effects [] n blocks b literals rest = ap (λ (es : List EffectLine). run n (in_block blocks (record { line = b.line; replace = b.replace; method = b.method; effects = es }) literals) rest) (sym (append-nil b.effects))
run_effects (e ∷ es) n blocks b literals rest =
    let new : EffectLine = record { line = n; effect = e.effect } in
    run_effects es (n + 1) blocks (with_more b (new ∷ [])) literals rest
    ∙ ap (λ (xs : List EffectLine). run (after (n + 1) es) (in_block blocks (record { line = b.line; replace = b.replace; method = b.method; effects = xs }) literals) rest) (append_assoc b.effects (new ∷ []) (numbered_effects (n + 1) es))

abbrev opened : ℕ → SoFar → Block → SoFar
opened n s b = in_block (closed s.blocks s.now) (numbered_block n b) s.literals

abbrev with_blocks : ℕ → SoFar → List Block → SoFar
with_blocks n s [] = s
with_blocks n s (b ∷ bs) = with_blocks (after (n + 1) b.effects) (opened n s b) bs

run_blocks : (bs : List Block) (n : ℕ) (s : SoFar) (rest : List Said) → run n s (blocks_say bs ++ rest) ≡ run (after_blocks n bs) (with_blocks n s bs) rest
unfolding run
run_blocks [] n s rest = refl
run_blocks (b ∷ bs) n s rest =
    let begun : Block = record { line = n; replace = b.replace; method = b.method; effects = [] } in
    ap (λ (xs : List Said). run (n + 1) (in_block (closed s.blocks s.now) begun s.literals) xs) (append_assoc (map effect_says b.effects) (blocks_say bs) rest)
    ∙ run_effects b.effects (n + 1) (closed s.blocks s.now) begun s.literals (blocks_say bs ++ rest) ∙ run_blocks bs (after (n + 1) b.effects) (opened n s b) rest

abbrev with_literals : ℕ → SoFar → List Literal → SoFar
with_literals n s [] = s
with_literals n s (l ∷ ls) = with_literals (n + 1) (with_literal n l.field l.value s) ls

run_literals : (ls : List Literal) (n : ℕ) (s : SoFar) → run n s (literals_say ls) ≡ Ok (with_literals n s ls)
unfolding run
run_literals [] n s = refl
run_literals (l ∷ ls) n s = run_literals ls (n + 1) (with_literal n l.field l.value s)

blocks_closed : (bs : List Block) (n : ℕ) (s : SoFar) → closed (with_blocks n s bs).blocks (with_blocks n s bs).now ≡ closed s.blocks s.now ++ numbered_blocks n bs
blocks_closed [] n s = sym (append-nil (closed s.blocks s.now))
blocks_closed (b ∷ bs) n s =
    blocks_closed bs (after (n + 1) b.effects) (opened n s b) ∙ append_assoc (closed s.blocks s.now) (numbered_block n b ∷ []) (numbered_blocks (after (n + 1) b.effects) bs)

blocks_keep : (bs : List Block) (n : ℕ) (s : SoFar) → (with_blocks n s bs).literals ≡ s.literals
blocks_keep [] n s = refl
blocks_keep (b ∷ bs) n s = blocks_keep bs (after (n + 1) b.effects) (opened n s b)

literals_closed : (ls : List Literal) (n : ℕ) (s : SoFar) → closed (with_literals n s ls).blocks (with_literals n s ls).now ≡ closed s.blocks s.now
literals_closed [] n s = refl
literals_closed (l ∷ ls) n s = literals_closed ls (n + 1) (with_literal n l.field l.value s) ∙ append-nil (closed s.blocks s.now)

literals_are : (ls : List Literal) (n : ℕ) (s : SoFar) → (with_literals n s ls).literals ≡ s.literals ++ numbered_literals n ls
literals_are [] n s = sym (append-nil s.literals)
literals_are (l ∷ ls) n s =
    let new : Literal = record { line = n; field = l.field; value = l.value } in
    literals_are ls (n + 1) (with_literal n l.field l.value s) ∙ append_assoc s.literals (new ∷ []) (numbered_literals (n + 1) ls)

abbrev numbered : Summary → Summary
numbered s = record { blocks = numbered_blocks 1 s.blocks; literals = numbered_literals (after_blocks 1 s.blocks) s.literals }

run_summary : (s : Summary) → (run 1 nothing_yet (says s.blocks s.literals) >>= λ t. Ok (summary_with t)) ≡ Ok (numbered s)
run_summary s =
    let m = after_blocks 1 s.blocks in
    let t = with_blocks 1 nothing_yet s.blocks in
    ap (λ (r : Read SoFar). r >>= λ u. Ok (summary_with u)) (run_blocks s.blocks 1 nothing_yet (literals_say s.literals) ∙ run_literals s.literals m t)
    ∙ ap (λ (bs : List Block). Ok (record { blocks = bs; literals = (with_literals m t s.literals).literals })) (literals_closed s.literals m t ∙ blocks_closed s.blocks 1 nothing_yet)
    ∙ ap (λ (ls : List Literal). Ok (record { blocks = numbered_blocks 1 s.blocks; literals = ls })) (literals_are s.literals m t ∙ ap (λ (ls : List Literal). ls ++ numbered_literals m s.literals) (blocks_keep s.blocks 1 nothing_yet))

-- ---- in all but the line numbers

same_effects : (n : ℕ) (es : List EffectLine) → map unnumbered_effect (numbered_effects n es) ≡ map unnumbered_effect es
same_effects n [] = refl
same_effects n (e ∷ es) = ap (λ (xs : List EffectLine). unnumbered_effect e ∷ xs) (same_effects (n + 1) es)

same_blocks : (n : ℕ) (bs : List Block) → map unnumbered_block (numbered_blocks n bs) ≡ map unnumbered_block bs
same_blocks n [] = refl
same_blocks n (b ∷ bs) =
    ap (λ (es : List EffectLine). record { line = 0; replace = b.replace; method = b.method; effects = es } ∷ map unnumbered_block (numbered_blocks (after (n + 1) b.effects) bs)) (same_effects (n + 1) b.effects)
    ∙ ap (λ (xs : List Block). unnumbered_block b ∷ xs) (same_blocks (after (n + 1) b.effects) bs)

same_literals : (n : ℕ) (ls : List Literal) → map unnumbered_literal (numbered_literals n ls) ≡ map unnumbered_literal ls
same_literals n [] = refl
same_literals n (l ∷ ls) = ap (λ (xs : List Literal). unnumbered_literal l ∷ xs) (same_literals (n + 1) ls)

same_numbered : (s : Summary) → unnumbered (numbered s) ≡ unnumbered s
same_numbered s =
    ap (λ (bs : List Block). record { blocks = bs; literals = map unnumbered_literal (numbered_literals (after_blocks 1 s.blocks) s.literals) }) (same_blocks 1 s.blocks)
    ∙ ap (λ (ls : List Literal). record { blocks = map unnumbered_block s.blocks; literals = ls }) (same_literals (after_blocks 1 s.blocks) s.literals)

effects_text : (es : List EffectLine) → flat_map effect_text (map unnumbered_effect es) ≡ flat_map effect_text es
effects_text [] = refl
effects_text (e ∷ es) = ap (λ (rest : List ℕ). effect_text e ++ rest) (effects_text es)

blocks_text : (bs : List Block) → flat_map block_text (map unnumbered_block bs) ≡ flat_map block_text bs
blocks_text [] = refl
blocks_text (b ∷ bs) =
    ap (λ (es : List ℕ). (line (said_text (Opens b.replace b.method)) ++ es) ++ flat_map block_text (map unnumbered_block bs)) (effects_text b.effects) ∙ ap (λ (rest : List ℕ). block_text b ++ rest) (blocks_text bs)

literals_text : (ls : List Literal) → flat_map literal_text (map unnumbered_literal ls) ≡ flat_map literal_text ls
literals_text [] = refl
literals_text (l ∷ ls) = ap (λ (rest : List ℕ). literal_text l ++ rest) (literals_text ls)

text_unnumbered : (s : Summary) → summary_text (unnumbered s) ≡ summary_text s
text_unnumbered s = ap (λ (t : List ℕ). t ++ flat_map literal_text (map unnumbered_literal s.literals)) (blocks_text s.blocks) ∙ ap (λ (t : List ℕ). flat_map block_text s.blocks ++ t) (literals_text s.literals)

-- ---- the text as lines that say something

abbrev said_line : Said → List ℕ
said_line x = line (said_text x)

over_effects : (es : List EffectLine) → flat_map effect_text es ≡ flat_map said_line (map effect_says es)
over_effects [] = refl
over_effects (e ∷ es) = ap (λ (rest : List ℕ). effect_text e ++ rest) (over_effects es)

over_blocks : (bs : List Block) → flat_map block_text bs ≡ flat_map said_line (blocks_say bs)
over_blocks [] = refl
over_blocks (b ∷ bs) =
    ap (λ (es : List ℕ). (line (said_text (Opens b.replace b.method)) ++ es) ++ flat_map block_text bs) (over_effects b.effects)
    ∙ ap (λ (rest : List ℕ). flat_map said_line (block_says b) ++ rest) (over_blocks bs) ∙ sym (flat_map-append said_line (block_says b) (blocks_say bs))

over_literals : (ls : List Literal) → flat_map literal_text ls ≡ flat_map said_line (literals_say ls)
over_literals [] = refl
over_literals (l ∷ ls) = ap (λ (rest : List ℕ). literal_text l ++ rest) (over_literals ls)

over_summary : (s : Summary) → summary_text s ≡ flat_map said_line (says s.blocks s.literals)
over_summary s =
    ap (λ (t : List ℕ). t ++ flat_map literal_text s.literals) (over_blocks s.blocks) ∙ ap (λ (t : List ℕ). flat_map said_line (blocks_say s.blocks) ++ t) (over_literals s.literals)
    ∙ sym (flat_map-append said_line (blocks_say s.blocks) (literals_say s.literals))

-- ---- the law

read_again : LineLaws → (s : Summary) → AllByRecursion IsSaid (says s.blocks s.literals) → length (says s.blocks s.literals) ≤ 65536 → summary_of (summary_text s) ≡ Ok (numbered s)
read_again laws s each few =
    let xs = says s.blocks s.literals in
    let cut : lines_of (summary_text s) ≡ map said_text xs = ap lines_of (over_summary s) ∙ texts_again said_words line_said xs laws each in
    let fits : length (lines_of (summary_text s)) ≤ 65536 = omega (arith, ap length cut, length-map xs said_text) in
    unlimited (summary_text s) (read_on summary_on 1 nothing_yet (lines_of (summary_text s)) >>= λ t. Ok (summary_with t)) fits
    ∙ ap (λ (ts : List (List ℕ)). read_on summary_on 1 nothing_yet ts >>= λ t. Ok (summary_with t)) cut
    ∙ ap (λ (r : Read SoFar). r >>= λ t. Ok (summary_with t)) (reads laws 1 nothing_yet xs each)
    ∙ run_summary s

pub summary_read_back : WordLaws → LineLaws → (bytes : List ℕ) (read printed : Summary) → summary_of bytes ≡ Ok read → unnumbered printed ≡ unnumbered read → IsReadAsSummary (summary_text printed) printed
summary_read_back words laws bytes read printed h same =
    let whole = read_on summary_on 1 nothing_yet (lines_of bytes) in
    let l = limited bytes (whole >>= λ s. Ok (summary_with s)) read h in
    let b = bound whole (λ s. Ok (summary_with s)) read l.1 in
    let is : summary_with b.at ≡ read = ok_is (summary_with b.at) read b.rest in
    let r : IsRead b.at (0 + length (lines_of bytes)) = lines_read words 1 nothing_yet (lines_of bytes) b.at 0 b.is (record { each = tt; few = omega arith }) in
    let P : Summary → Type 0 = λ s. AllByRecursion IsSaid (says s.blocks s.literals) in
    let each : AllByRecursion IsSaid (says read.blocks read.literals) = subst P is r.each in
    let few : length (says read.blocks read.literals) ≤ 65536 = omega (arith, ap (λ (s : Summary). length (says s.blocks s.literals)) is, r.few, l.0) in
    let text : summary_text printed ≡ summary_text read = sym (text_unnumbered printed) ∙ ap summary_text same ∙ text_unnumbered read in
    record {
      again = numbered read;
      read = ap summary_of text ∙ read_again laws read each few;
      same = same_numbered read ∙ sym same;
    }
