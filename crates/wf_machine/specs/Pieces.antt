-- What arithmetic on ints and longs leads to, by what is worked out (JVMS 6.5).
use Rattle.std.specs.Prelude.{◌≡◌, ℤ, Option, Some, None}
use Rattle.wf_operation.specs.declared.sort.Sort.{Sort}
use Rattle.wf_operation.specs.declared.sort.Sort.TheVariants as sort
use Rattle.wf_rows.specs.declared.throwable.Throwable.TheVariants as throwable
use Rattle.wf_machine.specs.Values.{Int, Long}
use Rattle.wf_machine.specs.At.{At, Outcome, Throws, operand, gives}

-- these are the operands of an operation on ints: a negation has one
abbrev pub AreInts : At → Sort → ℤ → ℤ → Type 0
AreInts k (sort.IntArithmetic op) a b = (operand k 1 ≡ Int a) × (operand k 0 ≡ Int b)
AreInts k (sort.IntShift s) a b = (operand k 1 ≡ Int a) × (operand k 0 ≡ Int b)
AreInts k sort.IntNegate a b = operand k 0 ≡ Int a
AreInts k other a b = ⊥

-- these are the operands of an operation on longs, of which a shift has an int on top
abbrev pub AreLongs : At → Sort → ℤ → ℤ → Type 0
AreLongs k (sort.LongArithmetic op) a b = (operand k 3 ≡ Long a) × (operand k 1 ≡ Long b)
AreLongs k (sort.LongShift s) a b = (operand k 2 ≡ Long a) × (operand k 0 ≡ Int b)
AreLongs k sort.LongNegate a b = operand k 1 ≡ Long a
AreLongs k other a b = ⊥

-- a number is given, or a division by 0 throws
abbrev pub int_outcome : At → Option ℤ → Outcome
int_outcome k (Some c) = gives k (Int c)
int_outcome k None = Throws throwable.Arithmetic

abbrev pub long_outcome : At → Option ℤ → Outcome
long_outcome k (Some c) = gives k (Long c)
long_outcome k None = Throws throwable.Arithmetic
