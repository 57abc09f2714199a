-- Arithmetic of the machine leads to what is worked out, and to nothing else.
use Rattle.std.proofs.Common.{◌≡◌, ℤ, Option, Some, None, refl, sym, ap, subst, ◌∙◌}
use Rattle.std.specs.Int.{w32, w64}
use Rattle.wf_operation.specs.declared.sort.Arithmetic.{Arithmetic}
use Rattle.wf_operation.specs.declared.sort.Sort.{Sort}
use Rattle.wf_operation.specs.declared.sort.Sort.TheVariants as sort
use Rattle.wf_machine.specs.Arithmetic.{combined, shifted, negative, int_op_value, long_op_value}
use Rattle.wf_machine.specs.Values.{Value, Int, Long}
use Rattle.wf_machine.specs.At.{At, Outcome, operand, gives}
use Rattle.wf_machine.specs.Computing.{Computes}
use Rattle.wf_machine.specs.Computing as computing
use Rattle.wf_machine.specs.Pieces.{AreInts, AreLongs, int_outcome, long_outcome}

same_int : (v : Value) (a b : ℤ) → v ≡ Int a → v ≡ Int b → a ≡ b
same_int v a b d e = cc

same_long : (v : Value) (a b : ℤ) → v ≡ Long a → v ≡ Long b → a ≡ b
same_long v a b d e = cc

-- ---- ints

ints_lead : (k : At) (op : Arithmetic) (a b : ℤ) (r : Option ℤ) → combined w32 op a b ≡ r → operand k 1 ≡ Int a → operand k 0 ≡ Int b → Computes k (sort.IntArithmetic op) (int_outcome k r)
ints_lead k op a b (Some c) e one two = computing.Computes.ints op a b c one two e
ints_lead k op a b None e one two = computing.Computes.ints_by_zero op a b one two e

pub int_leads : (k : At) (s : Sort) (a b : ℤ) (out : Outcome) → AreInts k s a b → out ≡ int_outcome k (int_op_value (Some s) a b) → Computes k s out
int_leads k (sort.IntArithmetic op) a b out are e = subst (Computes k (sort.IntArithmetic op)) (sym e) (ints_lead k op a b (combined w32 op a b) refl are.0 are.1)
int_leads k (sort.IntShift s) a b out are e = subst (Computes k (sort.IntShift s)) (sym e) (computing.Computes.int_shift s a b are.0 are.1)
int_leads k sort.IntNegate a b out are e = subst (Computes k sort.IntNegate) (sym e) (computing.Computes.int_negate a are)
int_leads k other a b out are e = absurd are

pub int_only : (k : At) (s : Sort) (a b : ℤ) (out : Outcome) → AreInts k s a b → Computes k s out → out ≡ int_outcome k (int_op_value (Some s) a b)
int_only k s a b out are (computing.Computes.ints op c d r one two e) =
    ap (int_outcome k) (sym e ∙ ap (λ (x : ℤ). combined w32 op x d) (same_int (operand k 1) c a one are.0) ∙ ap (λ (y : ℤ). combined w32 op a y) (same_int (operand k 0) d b two are.1))
int_only k s a b out are (computing.Computes.ints_by_zero op c d one two e) =
    ap (int_outcome k) (sym e ∙ ap (λ (x : ℤ). combined w32 op x d) (same_int (operand k 1) c a one are.0) ∙ ap (λ (y : ℤ). combined w32 op a y) (same_int (operand k 0) d b two are.1))
int_only k s a b out are (computing.Computes.int_shift t c d one two) =
    ap (λ (z : ℤ). gives k (Int z)) (ap (λ (x : ℤ). shifted w32 t x d) (same_int (operand k 1) c a one are.0) ∙ ap (λ (y : ℤ). shifted w32 t a y) (same_int (operand k 0) d b two are.1))
int_only k s a b out are (computing.Computes.int_negate c one) = ap (λ (z : ℤ). gives k (Int (negative w32 z))) (same_int (operand k 0) c a one are)
int_only k s a b out are other = absurd are

-- ---- longs

longs_lead : (k : At) (op : Arithmetic) (a b : ℤ) (r : Option ℤ) → combined w64 op a b ≡ r → operand k 3 ≡ Long a → operand k 1 ≡ Long b → Computes k (sort.LongArithmetic op) (long_outcome k r)
longs_lead k op a b (Some c) e one two = computing.Computes.longs op a b c one two e
longs_lead k op a b None e one two = computing.Computes.longs_by_zero op a b one two e

pub long_leads : (k : At) (s : Sort) (a b : ℤ) (out : Outcome) → AreLongs k s a b → out ≡ long_outcome k (long_op_value (Some s) a b) → Computes k s out
long_leads k (sort.LongArithmetic op) a b out are e = subst (Computes k (sort.LongArithmetic op)) (sym e) (longs_lead k op a b (combined w64 op a b) refl are.0 are.1)
long_leads k (sort.LongShift s) a b out are e = subst (Computes k (sort.LongShift s)) (sym e) (computing.Computes.long_shift s a b are.0 are.1)
long_leads k sort.LongNegate a b out are e = subst (Computes k sort.LongNegate) (sym e) (computing.Computes.long_negate a are)
long_leads k other a b out are e = absurd are

pub long_only : (k : At) (s : Sort) (a b : ℤ) (out : Outcome) → AreLongs k s a b → Computes k s out → out ≡ long_outcome k (long_op_value (Some s) a b)
long_only k s a b out are (computing.Computes.longs op c d r one two e) =
    ap (long_outcome k) (sym e ∙ ap (λ (x : ℤ). combined w64 op x d) (same_long (operand k 3) c a one are.0) ∙ ap (λ (y : ℤ). combined w64 op a y) (same_long (operand k 1) d b two are.1))
long_only k s a b out are (computing.Computes.longs_by_zero op c d one two e) =
    ap (long_outcome k) (sym e ∙ ap (λ (x : ℤ). combined w64 op x d) (same_long (operand k 3) c a one are.0) ∙ ap (λ (y : ℤ). combined w64 op a y) (same_long (operand k 1) d b two are.1))
long_only k s a b out are (computing.Computes.long_shift t c d one two) =
    ap (λ (z : ℤ). gives k (Long z)) (ap (λ (x : ℤ). shifted w64 t x d) (same_long (operand k 2) c a one are.0) ∙ ap (λ (y : ℤ). shifted w64 t a y) (same_int (operand k 0) d b two are.1))
long_only k s a b out are (computing.Computes.long_negate c one) = ap (λ (z : ℤ). gives k (Long (negative w64 z))) (same_long (operand k 1) c a one are)
long_only k s a b out are other = absurd are
