-- Reports are read back.
use Rattle.std.proofs.Common.{◌≡◌, ℕ, zero, suc, ◌+◌, ◌^◌, ◌<◌, ◌≤◌, Bool, true, false, cond, eqb, List, [], ◌∷◌, ◌++◌, length, Option, Some, Result, Ok, Err, refl, sym, ap, subst, ◌∙◌, append_assoc, length-append, arith}
use Rattle.std.proofs.lemmas.Bool.Decides.{nat_tests}
use Rattle.std.proofs.lemmas.List.{append-nil, nil_from_length}
use Rattle.std.proofs.lemmas.Slice.Eq.{bytes_eq-Decides}
use Rattle.std.specs.declared.cmp.Ordering.{Ordering}
use Rattle.std.specs.Fmt.{decimal}
use Rattle.std.specs.List.{flat_map, AllByRecursion}
use Rattle.std.specs.List.Sorted.{IsStrictlySortedBy}
use Rattle.std.specs.Prelude.{codes}
use Rattle.std.specs.Str.{bytes_eq}
use Rattle.wf_base.specs.Bytes.{IsBytes}
use Rattle.wf_names.specs.declared.member.MemberName.{MemberName}
use Rattle.wf_names.specs.declared.world.Unresolved.{Unresolved}
use Rattle.wf_names.specs.declared.world.World.{World}
use Rattle.wf_names.specs.NameForm.{escaped, member_text}
use Rattle.wf_lines.specs.Lines.{line, is_word}
use Rattle.wf_report.specs.Reading.{Place, spot, next, say, given, exactly, count_said, type_said, method_said, field_said, place_said, entries, section_at, whole, lists_at, end_at, world_of}
use Rattle.wf_report.specs.Report.{unresolved_text, count_line, section, report_text}
use Rattle.wf_report.specs.Worlds.{is_type_name, is_method, is_field, is_place, name_cmp, member_cmp, place_cmp, IsListing, HasText, IsMemberOfBytes, IsPlaceOfBytes, IsOfBytes}
use Rattle.wf_report.proofs.Cutting.{says_line, say_line}
use Rattle.wf_report.proofs.Forms.{Laws, Form, type_form, method_form, field_form, place_form, count_read, count_written, count_line_is}
use Rattle.wf_report.proofs.Orders.{sorted_push, sorted_behind}

-- ---- what is read, taken apart

record Bound {X Y : Type 0} (r : Result X ℕ) (f : X → Result Y ℕ) (y : Y) : Type 0 where
  at : X
  is : r ≡ Ok at
  rest : f at ≡ Ok y

bound : {X Y : Type 0} (r : Result X ℕ) (f : X → Result Y ℕ) (y : Y) → next r f ≡ Ok y → Bound r f y
bound (Ok x) f y h = record { at = x; is = refl; rest = h }
bound (Err e) f y h = absurd cc

ok_is : {X : Type 0} (x y : X) → ◌≡◌ {A = Result X ℕ} (Ok x) (Ok y) → x ≡ y
ok_is x y h = cc

all_append : {X : Type 0} (P : X → Type 0) (xs ys : List X) → AllByRecursion P xs → AllByRecursion P ys → AllByRecursion P (xs ++ ys)
all_append P [] ys a b = b
all_append P (x ∷ xs) ys a b = (a.0, all_append P xs ys a.1 b)

all_at : {X : Type 0} (P : X → Type 0) (xs : List X) (z : X) (zs : List X) → AllByRecursion P (xs ++ z ∷ zs) → P z
all_at P [] z zs all = all.0
all_at P (x ∷ xs) z zs all = all_at P xs z zs all.1

abbrev lines_text : {X : Type 0} → (X → List ℕ) → List X → List ℕ
lines_text text xs = flat_map (λ x. line (text x)) xs

-- ---- entries

record ReadsEntries {X : Type 0} (is : X → Bool) (cmp : X → X → Ordering) (text : X → List ℕ) (count : ℕ) (before : List X) (p : Place) (xs : List X) (q : Place) : Type 0 where
  more : List X
  all : xs ≡ before ++ more
  many : length more ≡ count
  front : p.left ≡ lines_text text more ++ q.left
  listing : IsListing is cmp xs

read_entries : {X : Type 0} (is : X → Bool) (cmp : X → X → Ordering) (text : X → List ℕ) (ok : X → Type 0) (said : List X → List ℕ → Option X) → Form is cmp text ok said
    → (count : ℕ) (before : List X) (p : Place) (xs : List X) (q : Place) → entries said count before p ≡ Ok (xs, q) → IsListing is cmp before → ReadsEntries is cmp text count before p xs q
unfolding entries
read_entries {X} is cmp text ok said form zero before p xs q h l =
    let pair : ◌≡◌ {A = List X × Place} (before, p) (xs, q) = ok_is (before, p) (xs, q) h in
    let same : before ≡ xs = ap (λ (r : List X × Place). r.0) pair in
    let P : List X → Type 0 = λ ys. IsListing is cmp ys in
    record { more = []; all = sym same ∙ sym (append-nil before); many = refl; front = ap (λ (r : List X × Place). r.1.left) pair; listing = subst P same l }
read_entries {X} is cmp text ok said form (suc count) before p xs q h l =
    let b = bound (say (said before) p) (λ x. entries said count (before ++ x.0 ∷ []) x.1) (xs, q) h in
    let x = b.at.0 in
    let s = says_line (said before) p x b.at.1 b.is in
    let r = form.reads before s.text x s.says in
    let longer : IsListing is cmp (before ++ x ∷ []) = record { allowed = all_append (λ y. is y ≡ true) before (x ∷ []) l.allowed (r.1, tt); ascend = sorted_push cmp form.total before x l.ascend r.2 } in
    let rest : ReadsEntries is cmp text count (before ++ x ∷ []) b.at.1 xs q = read_entries is cmp text ok said form count (before ++ x ∷ []) b.at.1 xs q b.rest longer in
    record {
      more = x ∷ rest.more;
      all = rest.all ∙ append_assoc before (x ∷ []) rest.more;
      many = ap suc rest.many;
      front = s.front ∙ ap (λ (t : List ℕ). line t ++ b.at.1.left) (sym r.0) ∙ ap (λ (t : List ℕ). line (text x) ++ t) rest.front ∙ sym (append_assoc (line (text x)) (lines_text text rest.more) q.left);
      listing = rest.listing;
    }

abbrev after : {X : Type 0} → ℕ → List X → ℕ
after n [] = n
after n (x ∷ xs) = after (n + 1) xs

write_entries : {X : Type 0} (is : X → Bool) (cmp : X → X → Ordering) (text : X → List ℕ) (ok : X → Type 0) (said : List X → List ℕ → Option X) → Form is cmp text ok said
    → (more before : List X) (n : ℕ) (rest : List ℕ) → AllByRecursion ok more → IsListing is cmp (before ++ more)
    → entries said (length more) before (spot n (lines_text text more ++ rest)) ≡ Ok (before ++ more, spot (after n more) rest)
unfolding entries
write_entries {X} is cmp text ok said form [] before n rest each l = ap (λ (xs : List X). Ok (xs, spot n rest)) (sym (append-nil before))
write_entries {X} is cmp text ok said form (x ∷ more) before n rest each l =
    let allowed : is x ≡ true = all_at (λ y. is y ≡ true) before x more l.allowed in
    let one : say (said before) (spot n (line (text x) ++ (lines_text text more ++ rest))) ≡ Ok (x, spot (n + 1) (lines_text text more ++ rest)) =
    say_line (said before) n (text x) (lines_text text more ++ rest) x (form.lines x each.0 allowed) (form.writes before x each.0 allowed (sorted_behind cmp before x more l.ascend)) in
    let P : List X → Type 0 = λ ys. IsListing is cmp ys in
    let regroup : before ++ x ∷ more ≡ (before ++ x ∷ []) ++ more = sym (append_assoc before (x ∷ []) more) in
    ap (λ (t : List ℕ). next (say (said before) (spot n t)) (λ y. entries said (length more) (before ++ y.0 ∷ []) y.1)) (append_assoc (line (text x)) (lines_text text more) rest)
    ∙ ap (λ (r : Result (X × Place) ℕ). next r (λ y. entries said (length more) (before ++ y.0 ∷ []) y.1)) one
    ∙ write_entries is cmp text ok said form more (before ++ x ∷ []) (n + 1) rest each.1 (subst P regroup l)
    ∙ ap (λ (xs : List X). Ok (xs, spot (after (n + 1) more) rest)) (sym regroup)

-- ---- sections

record ReadsSection {X : Type 0} (is : X → Bool) (cmp : X → X → Ordering) (title : List ℕ) (text : X → List ℕ) (p : Place) (xs : List X) (q : Place) : Type 0 where
  front : p.left ≡ section title text xs ++ q.left
  listing : IsListing is cmp xs

empty_listing : {X : Type 0} (is : X → Bool) (cmp : X → X → Ordering) → IsListing is cmp []
unfolding IsStrictlySortedBy
empty_listing is cmp = record { allowed = tt; ascend = tt }

read_section : {X : Type 0} (is : X → Bool) (cmp : X → X → Ordering) (text : X → List ℕ) (ok : X → Type 0) (said : List X → List ℕ → Option X) → Form is cmp text ok said → Laws
    → (title : List ℕ) (p : Place) (xs : List X) (q : Place) → section_at title said p ≡ Ok (xs, q) → ReadsSection is cmp title text p xs q
read_section {X} is cmp text ok said form laws title p xs q h =
    let b = bound (say (count_said title) p) (λ n. entries said n.0 [] n.1) (xs, q) h in
    let s = says_line (count_said title) p b.at.0 b.at.1 b.is in
    let e = read_entries is cmp text ok said form b.at.0 [] b.at.1 xs q b.rest (empty_listing is cmp) in
    let many : b.at.0 ≡ length xs = sym e.many ∙ ap length (sym e.all) in
    let head : line s.text ≡ count_line title (length xs) = ap line (sym (count_read laws title s.text b.at.0 s.says)) ∙ ap (λ (n : ℕ). count_line title n) many in
    record {
      front = s.front ∙ ap (λ (t : List ℕ). t ++ b.at.1.left) head ∙ ap (λ (t : List ℕ). count_line title (length xs) ++ t) (e.front ∙ ap (λ (ys : List X). lines_text text ys ++ q.left) (sym e.all))
          ∙ sym (append_assoc (count_line title (length xs)) (lines_text text xs) q.left);
      listing = e.listing;
    }

write_section : {X : Type 0} (is : X → Bool) (cmp : X → X → Ordering) (text : X → List ℕ) (ok : X → Type 0) (said : List X → List ℕ → Option X) → Form is cmp text ok said → Laws
    → (title : List ℕ) (n : ℕ) (xs : List X) (rest : List ℕ) → is_word title ≡ true → length xs < 2 ^ 64 → AllByRecursion ok xs → IsListing is cmp xs
    → section_at title said (spot n (section title text xs ++ rest)) ≡ Ok (xs, spot (after (n + 1) xs) rest)
write_section {X} is cmp text ok said form laws title n xs rest word lt each l =
    let head = title ++ 32 ∷ [] ++ decimal (length xs) in
    let one : say (count_said title) (spot n (line head ++ (lines_text text xs ++ rest))) ≡ Ok (length xs, spot (n + 1) (lines_text text xs ++ rest)) =
    say_line (count_said title) n head (lines_text text xs ++ rest) (length xs) (count_line_is laws title (length xs) word lt) (count_written laws title (length xs) word lt) in
    ap (λ (t : List ℕ). next (say (count_said title) (spot n t)) (λ k. entries said k.0 [] k.1)) (append_assoc (line head) (lines_text text xs) rest)
    ∙ ap (λ (r : Result (ℕ × Place) ℕ). next r (λ k. entries said k.0 [] k.1)) one
    ∙ write_entries is cmp text ok said form xs [] (n + 1) rest each l

-- ---- the lists of a world

abbrev lists_text : World → List ℕ
lists_text w =
    section (codes "types") escaped w.types ++ (section (codes "methods") member_text w.methods ++ (section (codes "fields") member_text w.fields ++ section (codes "unresolved") unresolved_text w.unresolved))

record ReadsLists (p : Place) (w : World) (q : Place) : Type 0 where
  front : p.left ≡ lists_text w ++ q.left
  text : HasText w

read_lists : Laws → (p : Place) (w : World) (q : Place) → lists_at p ≡ Ok (w, q) → ReadsLists p w q
read_lists laws p w q h =
    let a = bound (section_at (codes "types") type_said p) (λ types. next (section_at (codes "methods") method_said types.1) (λ methods. next (section_at (codes "fields") field_said methods.1) (λ fields.
    next (section_at (codes "unresolved") place_said fields.1) (λ unresolved. Ok (record { types = types.0; methods = methods.0; fields = fields.0; unresolved = unresolved.0 }, unresolved.1))))) (w, q) h in
    let b = bound (section_at (codes "methods") method_said a.at.1) (λ methods. next (section_at (codes "fields") field_said methods.1) (λ fields.
    next (section_at (codes "unresolved") place_said fields.1) (λ unresolved. Ok (record { types = a.at.0; methods = methods.0; fields = fields.0; unresolved = unresolved.0 }, unresolved.1)))) (w, q) a.rest in
    let c = bound (section_at (codes "fields") field_said b.at.1) (λ fields.
    next (section_at (codes "unresolved") place_said fields.1) (λ unresolved. Ok (record { types = a.at.0; methods = b.at.0; fields = fields.0; unresolved = unresolved.0 }, unresolved.1))) (w, q) b.rest in
    let d = bound (section_at (codes "unresolved") place_said c.at.1) (λ unresolved. Ok (record { types = a.at.0; methods = b.at.0; fields = c.at.0; unresolved = unresolved.0 }, unresolved.1)) (w, q) c.rest in
    let world : World = record { types = a.at.0; methods = b.at.0; fields = c.at.0; unresolved = d.at.0 } in
    let pair : ◌≡◌ {A = World × Place} (world, d.at.1) (w, q) = ok_is (world, d.at.1) (w, q) d.rest in
    let same : world ≡ w = ap (λ (r : World × Place). r.0) pair in
    let end : d.at.1.left ≡ q.left = ap (λ (r : World × Place). r.1.left) pair in
    let s = read_section is_type_name name_cmp escaped IsBytes type_said (type_form laws) laws (codes "types") p a.at.0 a.at.1 a.is in
    let t = read_section is_method member_cmp member_text IsMemberOfBytes method_said (method_form laws) laws (codes "methods") a.at.1 b.at.0 b.at.1 b.is in
    let u = read_section is_field member_cmp member_text IsMemberOfBytes field_said (field_form laws) laws (codes "fields") b.at.1 c.at.0 c.at.1 c.is in
    let v = read_section is_place place_cmp unresolved_text IsPlaceOfBytes place_said (place_form laws) laws (codes "unresolved") c.at.1 d.at.0 d.at.1 d.is in
    let P : World → Type 0 = λ x. HasText x in
    record {
      front = joined_up (section (codes "types") escaped a.at.0) (section (codes "methods") member_text b.at.0) (section (codes "fields") member_text c.at.0) (section (codes "unresolved") unresolved_text d.at.0)
          p.left a.at.1.left b.at.1.left c.at.1.left d.at.1.left q.left s.front t.front u.front v.front end ∙ ap (λ (x : World). lists_text x ++ q.left) same;
      text = subst P same (record { types = s.listing; methods = t.listing; fields = u.listing; unresolved = v.listing });
    }
  where
    joined_up : (s1 s2 s3 s4 t0 t1 t2 t3 t4 rest : List ℕ) → t0 ≡ s1 ++ t1 → t1 ≡ s2 ++ t2 → t2 ≡ s3 ++ t3 → t3 ≡ s4 ++ t4 → t4 ≡ rest → t0 ≡ (s1 ++ (s2 ++ (s3 ++ s4))) ++ rest
    joined_up s1 s2 s3 s4 t0 t1 t2 t3 t4 rest a b c d e =
        a ∙ ap (λ (t : List ℕ). s1 ++ t) (b ∙ ap (λ (t : List ℕ). s2 ++ t) (c ∙ ap (λ (t : List ℕ). s3 ++ t) (d ∙ ap (λ (t : List ℕ). s4 ++ t) e)))
        ∙ sym (append_assoc s1 (s2 ++ (s3 ++ s4)) rest ∙ ap (λ (t : List ℕ). s1 ++ t) (append_assoc s2 (s3 ++ s4) rest ∙ ap (λ (t : List ℕ). s2 ++ t) (append_assoc s3 s4 rest)))

-- ---- the report

abbrev begin : List ℕ
begin = line (codes "world 1")

abbrev finish : List ℕ
finish = line (codes "end")

report_is : (w : World) → begin ++ (lists_text w ++ finish) ≡ report_text w
report_is w = six begin (section (codes "types") escaped w.types) (section (codes "methods") member_text w.methods) (section (codes "fields") member_text w.fields) (section (codes "unresolved") unresolved_text w.unresolved) finish
  where
    six : (a b c d e f : List ℕ) → a ++ ((b ++ (c ++ (d ++ e))) ++ f) ≡ a ++ b ++ c ++ d ++ e ++ f
    six a b c d e f = simp append_assoc

exactly_read : (want t : List ℕ) (x : Unit {0}) → exactly want t ≡ Some x → t ≡ want
exactly_read want t x h = go (bytes_eq t want) refl h
  where
    go : (v : Bool) → bytes_eq t want ≡ v → given v tt ≡ Some x → t ≡ want
    go true e k = (bytes_eq-Decides t want).0 e
    go false e k = absurd cc

nothing_left : {X : Type 0} (x y : X) (p : Place) → whole x p ≡ Ok y → (p.left ≡ []) × (x ≡ y)
nothing_left {X} x y p h = go (eqb (length p.left) 0) refl h
  where
    go : (v : Bool) → eqb (length p.left) 0 ≡ v → cond v (Ok x) (Err p.line) ≡ Ok y → (p.left ≡ []) × (x ≡ y)
    go true e k = let none : length p.left ≡ 0 = grind (arith, nat_tests) in (nil_from_length p.left none, ok_is x y k)
    go false e k = absurd cc

pub world_read : Laws → (text : List ℕ) (w : World) → world_of text ≡ Ok w → HasText w × (report_text w ≡ text)
world_read laws text w h =
    let a = bound (say (exactly (codes "world 1")) (spot 1 text)) (λ begun. next (lists_at begun.1) (λ lists. end_at lists.0 lists.1)) w h in
    let b = bound (lists_at a.at.1) (λ lists. end_at lists.0 lists.1) w a.rest in
    let c = bound (say (exactly (codes "end")) b.at.1) (λ ended. whole b.at.0 ended.1) w b.rest in
    let s = says_line (exactly (codes "world 1")) (spot 1 text) a.at.0 a.at.1 a.is in
    let r = read_lists laws a.at.1 b.at.0 b.at.1 b.is in
    let e = says_line (exactly (codes "end")) b.at.1 c.at.0 c.at.1 c.is in
    let n = nothing_left b.at.0 w c.at.1 c.rest in
    let P : World → Type 0 = λ x. HasText x in
    let first : text ≡ begin ++ a.at.1.left = s.front ∙ ap (λ (t : List ℕ). line t ++ a.at.1.left) (exactly_read (codes "world 1") s.text a.at.0 s.says) in
    let last : b.at.1.left ≡ finish = e.front ∙ ap (λ (t : List ℕ). line t ++ c.at.1.left) (exactly_read (codes "end") e.text c.at.0 e.says) ∙ ap (λ (t : List ℕ). finish ++ t) n.0 ∙ append-nil finish in
    let whole_text : text ≡ begin ++ (lists_text b.at.0 ++ finish) = first ∙ ap (λ (t : List ℕ). begin ++ t) (r.front ∙ ap (λ (t : List ℕ). lists_text b.at.0 ++ t) last) in
    (subst P n.1 r.text, sym (whole_text ∙ report_is b.at.0 ∙ ap report_text n.1))

-- ---- writing

record Fits (w : World) : Type 0 where
  types : length w.types < 2 ^ 64
  methods : length w.methods < 2 ^ 64
  fields : length w.fields < 2 ^ 64
  unresolved : length w.unresolved < 2 ^ 64

-- a list has no more entries than its lines have bytes
lines_long : {X : Type 0} (text : X → List ℕ) (xs : List X) → length xs ≤ length (lines_text text xs)
lines_long text [] = omega arith
lines_long text (x ∷ xs) = omega (arith, length-append (line (text x)) (lines_text text xs), length-append (text x) (10 ∷ []), lines_long text xs)

section_long : {X : Type 0} (title : List ℕ) (text : X → List ℕ) (xs : List X) → length xs ≤ length (section title text xs)
section_long title text xs = omega (arith, length-append (count_line title (length xs)) (lines_text text xs), lines_long text xs)

fits : (w : World) → length (report_text w) < 2 ^ 64 → Fits w
fits w lt =
    let a = section (codes "types") escaped w.types in
    let b = section (codes "methods") member_text w.methods in
    let c = section (codes "fields") member_text w.fields in
    let d = section (codes "unresolved") unresolved_text w.unresolved in
    let e : length (report_text w) ≡ length begin + (length a + (length b + (length c + length d)) + length finish) =
    sym (ap length (report_is w)) ∙ length-append begin (lists_text w ++ finish) ∙ ap (λ (n : ℕ). length begin + n) (length-append (lists_text w) finish ∙ ap (λ (n : ℕ). n + length finish) (four a b c d)) in
    record {
      types = omega (arith, e, section_long (codes "types") escaped w.types);
      methods = omega (arith, e, section_long (codes "methods") member_text w.methods);
      fields = omega (arith, e, section_long (codes "fields") member_text w.fields);
      unresolved = omega (arith, e, section_long (codes "unresolved") unresolved_text w.unresolved);
    }
  where
    four : (a b c d : List ℕ) → length (a ++ (b ++ (c ++ d))) ≡ length a + (length b + (length c + length d))
    four a b c d = omega (arith, length-append a (b ++ (c ++ d)), length-append b (c ++ d), length-append c d)

write_lists : Laws → (n : ℕ) (w : World) (rest : List ℕ) → HasText w → IsOfBytes w → Fits w → (k : ℕ) × (lists_at (spot n (lists_text w ++ rest)) ≡ Ok (w, spot k rest))
write_lists laws n w rest has ok fit =
    let a = section (codes "types") escaped w.types in
    let b = section (codes "methods") member_text w.methods in
    let c = section (codes "fields") member_text w.fields in
    let d = section (codes "unresolved") unresolved_text w.unresolved in
    let n1 = after (n + 1) w.types in
    let n2 = after (n1 + 1) w.methods in
    let n3 = after (n2 + 1) w.fields in
    let n4 = after (n3 + 1) w.unresolved in (
      n4,
      ap (λ (t : List ℕ). lists_at (spot n t)) (regroup a b c d rest)
          ∙ ap (λ (r : Result (List (List ℕ) × Place) ℕ). next r (λ types. next (section_at (codes "methods") method_said types.1) (λ methods. next (section_at (codes "fields") field_said methods.1) (λ fields.
          next (section_at (codes "unresolved") place_said fields.1) (λ unresolved. Ok (record { types = types.0; methods = methods.0; fields = fields.0; unresolved = unresolved.0 }, unresolved.1))))))
          (write_section is_type_name name_cmp escaped IsBytes type_said (type_form laws) laws (codes "types") n w.types (b ++ (c ++ (d ++ rest))) refl fit.types ok.types has.types)
          ∙ ap (λ (r : Result (List MemberName × Place) ℕ). next r (λ methods. next (section_at (codes "fields") field_said methods.1) (λ fields.
          next (section_at (codes "unresolved") place_said fields.1) (λ unresolved. Ok (record { types = w.types; methods = methods.0; fields = fields.0; unresolved = unresolved.0 }, unresolved.1)))))
          (write_section is_method member_cmp member_text IsMemberOfBytes method_said (method_form laws) laws (codes "methods") n1 w.methods (c ++ (d ++ rest)) refl fit.methods ok.methods has.methods)
          ∙ ap (λ (r : Result (List MemberName × Place) ℕ). next r (λ fields.
          next (section_at (codes "unresolved") place_said fields.1) (λ unresolved. Ok (record { types = w.types; methods = w.methods; fields = fields.0; unresolved = unresolved.0 }, unresolved.1))))
          (write_section is_field member_cmp member_text IsMemberOfBytes field_said (field_form laws) laws (codes "fields") n2 w.fields (d ++ rest) refl fit.fields ok.fields has.fields)
          ∙ ap (λ (r : Result (List Unresolved × Place) ℕ). next r (λ unresolved. Ok (record { types = w.types; methods = w.methods; fields = w.fields; unresolved = unresolved.0 }, unresolved.1)))
          (write_section is_place place_cmp unresolved_text IsPlaceOfBytes place_said (place_form laws) laws (codes "unresolved") n3 w.unresolved rest refl fit.unresolved ok.unresolved has.unresolved),
    )
  where
    regroup : (a b c d rest : List ℕ) → (a ++ (b ++ (c ++ d))) ++ rest ≡ a ++ (b ++ (c ++ (d ++ rest)))
    regroup a b c d rest = simp append_assoc

end_written : (w : World) (k : ℕ) → end_at w (spot k finish) ≡ Ok w
end_written w k =
    ap (λ (t : List ℕ). end_at w (spot k t)) (sym (append-nil finish)) ∙ ap (λ (r : Result (Unit {0} × Place) ℕ). next r (λ ended. whole w ended.1)) (say_line (exactly (codes "end")) k (codes "end") [] tt refl refl)

pub world_written : Laws → (w : World) → HasText w → IsOfBytes w → length (report_text w) < 2 ^ 64 → world_of (report_text w) ≡ Ok w
world_written laws w has ok lt =
    let l = write_lists laws (1 + 1) w finish has ok (fits w lt) in
    ap world_of (sym (report_is w))
    ∙ ap (λ (r : Result (Unit {0} × Place) ℕ). next r (λ begun. next (lists_at begun.1) (λ lists. end_at lists.0 lists.1))) (say_line (exactly (codes "world 1")) 1 (codes "world 1") (lists_text w ++ finish) tt refl refl)
    ∙ ap (λ (r : Result (World × Place) ℕ). next r (λ lists. end_at lists.0 lists.1)) l.1
    ∙ end_written w l.0
