-- The functions that read instructions are exact for the grammar, form by form, and a code is read in one way.
use Rattle.std.proofs.Common.{◌≡◌, ℕ, ◌+◌, ◌^◌, ◌<◌, ◌&&◌, eqb, List, [], ◌∷◌, ◌++◌, length, Result, Ok, Err, refl, sym, ap, subst, ◌∙◌, append_assoc, arith}
use Rattle.std.specs.Prelude.{ℤ, int_le, nat_le, nat_lt}
use Rattle.std.specs.Int.{w16, w32, cast_signed}
use Rattle.std.proofs.lemmas.List.{append-nil, nil_from_length, length-append}
use Rattle.wf_data.specs.declared.instr.Instr.{Instr}
use Rattle.wf_data.specs.declared.instr.Placed.{Placed}
use Rattle.wf_bytes.specs.declared.fault.Why.TheVariants as why
use Rattle.wf_bytes.specs.Place.{Place, spot}
use Rattle.wf_base.specs.Bytes.{IsBytes}
use Rattle.wf_bytes.specs.Reading.{Fault}
use Rattle.wf_bytes.proofs.Exact.{Exact, fits_behind, ok_is, exact_u1, exact_u2, exact_u4, exact_run, exact_is, exact_then, exact_where, exact_given, exact_choice, exact_many, exact_many_on}
use Rattle.wf_opcode.specs.declared.fault.Stop.TheVariants.{NoInstruction}
use Rattle.wf_opcode.specs.declared.form.Form.{Form}
use Rattle.wf_opcode.specs.declared.form.Form.TheVariants as form
use Rattle.wf_opcode.specs.declared.form.Row.{Row}
use Rattle.wf_opcode.specs.Table.{row_of}
use Rattle.wf_opcode.specs.Instructions.{target_of, is_widened, entries, TargetIs, TableCase, LookupCase, TableIs, LookupIs, WideIs, OperandsAre, InstructionIs, placed_at, Instructions, no_more, one_more, NoneStarts, IsBadAt}
use Rattle.wf_opcode.specs.Decoding.{target, table_case, lookup_case, table_switch, lookup_switch, wide_iinc, wide_local, wide, jump2, jump4, iinc, invoke, new_array, multi_array, operands, instruction}
use Rattle.wf_opcode.specs.Readers.{Fails}

-- ---- one instruction

exact_target : (pc : ℕ) → Exact (TargetIs pc) (target pc)
unfolding target
exact_target pc = exact_then exact_u4 (λ far at. exact_given (target_of pc (cast_signed w32 far)) at why.Code (λ place. exact_is place))

exact_table_case : (pc : ℕ) (key : ℤ) → Exact (TableCase pc key) (table_case pc key)
unfolding table_case
exact_table_case pc key = exact_then (exact_target pc) (λ place _. exact_is _)

exact_lookup_case : (pc : ℕ) → Exact (LookupCase pc) (lookup_case pc)
unfolding lookup_case
exact_lookup_case pc = exact_then exact_u4 (λ key _. exact_then (exact_target pc) (λ place _. exact_is _))

exact_table : (pc op : ℕ) → Exact (TableIs pc op) (table_switch pc op)
unfolding table_switch
exact_table pc op =
    exact_then (exact_run _) (λ skipped _. exact_then (exact_target pc) (λ default _. exact_then exact_u4 (λ low _. exact_then exact_u4 (λ high at.
    exact_where (int_le (cast_signed w32 low) (cast_signed w32 high)) at why.Code (
    exact_then (exact_many_on (exact_table_case pc) (entries (cast_signed w32 low) (cast_signed w32 high)) (cast_signed w32 low)) (λ cases _. exact_is _))))))

exact_lookup : (pc op : ℕ) → Exact (LookupIs pc op) (lookup_switch pc op)
unfolding lookup_switch
exact_lookup pc op =
    exact_then (exact_run _) (λ skipped _. exact_then (exact_target pc) (λ default _. exact_then exact_u4 (λ count at.
    exact_where (nat_lt count (2 ^ 31)) at why.Code (exact_then (exact_many (exact_lookup_case pc) count) (λ cases _. exact_is _)))))

exact_wide : Exact WideIs wide
unfolding wide wide_iinc wide_local
exact_wide =
    exact_then exact_u1 (λ op at. exact_choice (eqb op 0x84)
    (exact_then exact_u2 (λ local _. exact_then exact_u2 (λ constant _. exact_is _)))
    (exact_where (is_widened op) at why.Code (exact_then exact_u2 (λ local _. exact_is _))))

exact_operands : (f : Form) (pc : ℕ) (row : Row) → Exact (OperandsAre f pc row) (operands f pc row)
unfolding operands jump2 jump4 iinc invoke new_array multi_array
exact_operands form.Alone pc row = exact_is _
exact_operands form.S1 pc row = exact_then exact_u1 (λ n _. exact_is _)
exact_operands form.S2 pc row = exact_then exact_u2 (λ n _. exact_is _)
exact_operands form.U1 pc row = exact_then exact_u1 (λ n _. exact_is _)
exact_operands form.U2 pc row = exact_then exact_u2 (λ n _. exact_is _)
exact_operands form.Jump2 pc row = exact_then exact_u2 (λ far at. exact_given (target_of pc (cast_signed w16 far)) at why.Code (λ place. exact_is _))
exact_operands form.Jump4 pc row = exact_then (exact_target pc) (λ place _. exact_is _)
exact_operands form.Iinc pc row = exact_then exact_u1 (λ local _. exact_then exact_u1 (λ constant _. exact_is _))
exact_operands form.Invoke pc row = exact_then exact_u2 (λ i _. exact_then (exact_run 2) (λ skipped _. exact_is _))
exact_operands form.NewArray pc row = exact_then exact_u1 (λ code at. exact_where (nat_le 4 code && nat_le code 11) at why.Code (exact_is _))
exact_operands form.MultiArray pc row = exact_then exact_u2 (λ i _. exact_then exact_u1 (λ count _. exact_is _))
exact_operands form.TableSwitch pc row = exact_table pc row.op
exact_operands form.LookupSwitch pc row = exact_lookup pc row.op
exact_operands form.Wide pc row = exact_wide

exact_instruction : (pc : ℕ) → Exact (InstructionIs pc) (instruction pc)
unfolding instruction
exact_instruction pc = exact_then exact_u1 (λ opcode at. exact_given (row_of opcode) at why.Code (λ row. exact_operands row.form pc row))

-- an instruction has bytes
some_bytes : (pc : ℕ) (bytes : List ℕ) (i : Instr) → InstructionIs pc bytes i → 0 < length bytes
some_bytes pc bytes i g = omega (arith, ap length g.parts, ap length g.front.spelled, length-append g.first g.second)

-- ---- a code

-- a reader of an instruction gave it
read_as : (pc : ℕ) (first rest : List ℕ) (i : Instr) → InstructionIs pc first i → instruction pc (spot 0 (first ++ rest)) ≡ Ok (i, spot (length first) rest)
read_as pc first rest i g = (exact_instruction pc).again 0 first rest i g ∙ ap (λ (n : ℕ). Ok (i, spot n rest)) (omega arith)

-- that of two readings of the same bytes
pub record SameFirst (i j : Instr) (a b x y : List ℕ) : Type 0 where
  pub instr : i ≡ j
  pub len : length a ≡ length b
  pub rest : x ≡ y

same_first : (p q : ℕ) (a b x y : List ℕ) (i j : Instr) → p ≡ q → a ++ x ≡ b ++ y → InstructionIs p a i → InstructionIs q b j → SameFirst i j a b x y
same_first p q a b x y i j place same g h =
    let one = read_as p a x i g in
    let two = read_as q b y j h in
    let equal : instruction p (spot 0 (a ++ x)) ≡ instruction q (spot 0 (b ++ y)) = ap (λ (n : ℕ). instruction n (spot 0 (a ++ x))) place ∙ ap (λ (bytes : List ℕ). instruction q (spot 0 bytes)) same in
    let both = ok_is (i, spot (length a) x) (j, spot (length b) y) (sym one ∙ equal ∙ two) in
    record { instr = ap (λ (z : Instr × Place). z.0) both; len = ap (λ (z : Instr × Place). z.1.at) both; rest = ap (λ (z : Instr × Place). z.1.left) both }

-- one instruction more at the end
followed : (pc : ℕ) (front first : List ℕ) (found : List Placed) (i : Instr) → Instructions pc front found → InstructionIs (pc + length front) first i
    → Instructions pc (front ++ first) (found ++ placed_at (pc + length front) i ∷ [])
followed _ _ first _ i (no_more pc) g =
    let here : pc + 0 ≡ pc = omega arith in
    let there : InstructionIs pc first i = subst (λ (n : ℕ). InstructionIs n first i) here g in
    let last : Instructions pc (first ++ []) (placed_at pc i ∷ []) = one_more pc first [] i [] there (no_more (pc + length first)) in
    subst (λ (n : ℕ). Instructions pc first (placed_at n i ∷ [])) (sym here) (subst (λ (bytes : List ℕ). Instructions pc bytes (placed_at pc i ∷ [])) (append-nil first) last)
followed _ _ first _ i (one_more pc one rest j others h more) g =
    let here : pc + length (one ++ rest) ≡ (pc + length one) + length rest = omega (arith, length-append one rest) in
    let there : InstructionIs ((pc + length one) + length rest) first i = subst (λ (n : ℕ). InstructionIs n first i) here g in
    let tail = followed (pc + length one) rest first others i more there in
    let whole : Instructions pc (one ++ (rest ++ first)) (placed_at pc j ∷ (others ++ placed_at ((pc + length one) + length rest) i ∷ [])) = one_more pc one (rest ++ first) j _ h tail in
    subst (λ (n : ℕ). Instructions pc ((one ++ rest) ++ first) (placed_at pc j ∷ (others ++ placed_at n i ∷ []))) (sym here)
    (subst (λ (bytes : List ℕ). Instructions pc bytes (placed_at pc j ∷ (others ++ placed_at ((pc + length one) + length rest) i ∷ []))) (sym (append_assoc one rest first)) whole)

-- an instruction does not end at once
not_ended : (pc : ℕ) (first rest : List ℕ) (i : Instr) → InstructionIs pc first i → [] ≡ first ++ rest → ⊥
not_ended pc first rest i g e = omega (arith, some_bytes pc first i g, ap length e, length-append first rest)

same_head : (p q : ℕ) (i j : Instr) (a b : List Placed) → p ≡ q → i ≡ j → a ≡ b → (placed_at p i ∷ a) ≡ (placed_at q j ∷ b)
same_head p q i j a b place instr rest = cc

same_list : (p q : ℕ) (x y : List ℕ) (a b : List Placed) → p ≡ q → x ≡ y → Instructions p x a → Instructions q y b → a ≡ b
same_list _ _ _ _ _ _ place e (no_more p) (no_more q) = refl
same_list _ _ _ _ _ _ place e (no_more p) (one_more q first rest i others g more) = absurd (not_ended q first rest i g e)
same_list _ _ _ _ _ _ place e (one_more p first rest i others g more) (no_more q) = absurd (not_ended p first rest i g (sym e))
same_list _ _ _ _ _ _ place e (one_more p first rest i others g more) (one_more q second behind j others' h more') =
    let s = same_first p q first second rest behind i j place e g h in
    let tail = same_list (p + length first) (q + length second) rest behind others others' (omega (arith, place, s.len)) s.rest more more' in
    same_head p q i j others others' place s.instr tail

-- Bytes are instructions in one way alone.
pub one_list : (code : List ℕ) (a b : List Placed) → Instructions 0 code a → Instructions 0 code b → a ≡ b
one_list code a b g h = same_list 0 0 code code a b refl refl g h

-- where no instruction starts, none does
not_stuck : (p q : ℕ) (rest first behind : List ℕ) (i : Instr) → p ≡ q → rest ≡ first ++ behind → NoneStarts p rest → InstructionIs q first i → ⊥
not_stuck p q rest first behind i place e s g = s.none first behind i e (subst (λ (n : ℕ). InstructionIs n first i) (sym place) g)

-- what follows instructions up to a place where none starts is no list of instructions
stuck_list : (p q : ℕ) (x y rest : List ℕ) (a b : List Placed) → p ≡ q → x ++ rest ≡ y → NoneStarts (p + length x) rest → Instructions p x a → Instructions q y b → ⊥
stuck_list _ _ _ _ rest _ _ place e s (no_more p) (no_more q) = omega (arith, s.more, ap length e)
stuck_list _ _ _ _ rest _ _ place e s (no_more p) (one_more q first behind i others g more) = not_stuck (p + 0) q rest first behind i (omega (arith, place)) e s g
stuck_list _ _ _ _ rest _ _ place e s (one_more p first x i others g more) (no_more q) = not_ended p first (x ++ rest) i g (sym e ∙ append_assoc first x rest)
stuck_list _ _ _ _ rest _ _ place e s (one_more p first x i others g more) (one_more q second y j others' h more') =
    let t = same_first p q first second (x ++ rest) y i j place (sym (append_assoc first x rest) ∙ e) g h in
    let far : p + length (first ++ x) ≡ (p + length first) + length x = omega (arith, length-append first x) in
    stuck_list (p + length first) (q + length second) x y rest others others' (omega (arith, place, t.len)) t.rest (subst (λ (n : ℕ). NoneStarts n rest) far s) more more'

pub not_both : (code : List ℕ) (pc : ℕ) (placed : List Placed) → IsBadAt code pc → Instructions 0 code placed → ⊥
not_both code pc placed bad g =
    let place : pc ≡ 0 + length bad.front = omega (arith, bad.place) in
    stuck_list 0 0 bad.front code bad.rest bad.before placed refl (sym bad.parts) (subst (λ (n : ℕ). NoneStarts n bad.rest) place bad.stuck) bad.whole g

-- two places where none starts, behind instructions, are one
same_place : (p q : ℕ) (x y rest left : List ℕ) (a b : List Placed) → p ≡ q → x ++ rest ≡ y ++ left → NoneStarts (p + length x) rest → NoneStarts (q + length y) left
    → Instructions p x a → Instructions q y b → length x ≡ length y
same_place _ _ _ _ rest left _ _ place e s t (no_more p) (no_more q) = refl
same_place _ _ _ _ rest left _ _ place e s t (no_more p) (one_more q first y i others g more) =
    absurd (not_stuck (p + 0) q rest first (y ++ left) i (omega (arith, place)) (e ∙ append_assoc first y left) s g)
same_place _ _ _ _ rest left _ _ place e s t (one_more p first x i others g more) (no_more q) =
    absurd (not_stuck (q + 0) p left first (x ++ rest) i (omega (arith, place)) (sym e ∙ append_assoc first x rest) t g)
same_place _ _ _ _ rest left _ _ place e s t (one_more p first x i others g more) (one_more q second y j others' h more') =
    let u = same_first p q first second (x ++ rest) (y ++ left) i j place (sym (append_assoc first x rest) ∙ e ∙ append_assoc second y left) g h in
    let far : p + length (first ++ x) ≡ (p + length first) + length x = omega (arith, length-append first x) in
    let near : q + length (second ++ y) ≡ (q + length second) + length y = omega (arith, length-append second y) in
    let tail = same_place (p + length first) (q + length second) x y rest left others others' (omega (arith, place, u.len)) u.rest (subst (λ (n : ℕ). NoneStarts n rest) far s) (subst (λ (n : ℕ). NoneStarts n left) near t) more more' in
    omega (arith, tail, u.len, length-append first x, length-append second y)

pub one_fault : (code : List ℕ) (p q : ℕ) → IsBadAt code p → IsBadAt code q → p ≡ q
one_fault code p q a b =
    let left : p ≡ 0 + length a.front = omega (arith, a.place) in
    let right : q ≡ 0 + length b.front = omega (arith, b.place) in
    let same = same_place 0 0 a.front b.front a.rest b.rest a.before b.before refl (sym a.parts ∙ b.parts) (subst (λ (n : ℕ). NoneStarts n a.rest) left a.stuck) (subst (λ (n : ℕ). NoneStarts n b.rest) right b.stuck) a.whole b.whole in
    omega (arith, same, left, right)

-- ---- the loop

-- what is found so far, and where the reader stands
pub record IsReached (code : List ℕ) (found : List Placed) (p : Place) : Type 0 where
  pub front : List ℕ
  pub parts : code ≡ front ++ p.left
  pub place : p.at ≡ length front
  pub size : p.at + length p.left ≡ length code
  pub whole : Instructions 0 front found
  pub fits : IsBytes p.left

pub begins : (code : List ℕ) → IsBytes code → IsReached code [] (spot 0 code)
begins code fits = record { front = []; parts = refl; place = refl; size = omega arith; whole = no_more 0; fits = fits }

pub goes_on : (code : List ℕ) (found : List Placed) (p q : Place) (i : Instr) → IsReached code found p → instruction p.at p ≡ Ok (i, q) → IsReached code (found ++ placed_at p.at i ∷ []) q
goes_on code found p q i r e =
    let t = (exact_instruction p.at).found p q i r.fits e in
    let place : p.at ≡ 0 + length r.front = omega (arith, r.place) in
    let here : InstructionIs (0 + length r.front) t.text i = subst (λ (n : ℕ). InstructionIs n t.text i) place t.spelled in
    let parts : code ≡ (r.front ++ t.text) ++ q.left = r.parts ∙ ap (λ (bytes : List ℕ). r.front ++ bytes) t.left ∙ sym (append_assoc r.front t.text q.left) in
    let all = followed 0 r.front t.text found i r.whole here in
    record {
      front = r.front ++ t.text;
      parts = parts;
      place = omega (arith, t.at, r.place, length-append r.front t.text);
      size = omega (arith, t.at, r.size, ap length t.left, length-append t.text q.left);
      whole = subst (λ (n : ℕ). Instructions 0 (r.front ++ t.text) (found ++ placed_at n i ∷ [])) (sym place) all;
      fits = fits_behind t r.fits;
    }

pub gets_smaller : (code : List ℕ) (found : List Placed) (p q : Place) (i : Instr) → IsReached code found p → instruction p.at p ≡ Ok (i, q) → length q.left < length p.left
gets_smaller code found p q i r e =
    let t = (exact_instruction p.at).found p q i r.fits e in
    omega (arith, ap length t.left, length-append t.text q.left, some_bytes p.at t.text i t.spelled)

pub ends : (code : List ℕ) (found : List Placed) (p : Place) → IsReached code found p → length p.left ≡ 0 → Instructions 0 code found
ends code found p r e =
    let whole : r.front ≡ code = sym (append-nil r.front) ∙ ap (λ (bytes : List ℕ). r.front ++ bytes) (sym (nil_from_length p.left e)) ∙ sym r.parts in
    subst (λ (bytes : List ℕ). Instructions 0 bytes found) whole r.whole

-- a reading that gave something did not fail
gave : (r : Result (Instr × Place) Fault) (x : Instr × Place) → r ≡ Ok x → Fails NoInstruction r → ⊥
gave (Ok y) x e h = h
gave (Err d) x e h = cc

pub stops : (code : List ℕ) (found : List Placed) (p : Place) → IsReached code found p → 0 < length p.left → Fails NoInstruction (instruction p.at p) → IsBadAt code p.at
stops code found p r more fails = record {
  front = r.front;
  rest = p.left;
  before = found;
  parts = r.parts;
  place = r.place;
  whole = r.whole;
  stuck = record {
    more = more;
    none = λ first behind i e g.
        gave (instruction p.at p) (i, spot (p.at + length first) behind)
        (ap (λ (bytes : List ℕ). instruction p.at (spot p.at bytes)) e ∙ (exact_instruction p.at).again p.at first behind i g) fails;
  };
}
