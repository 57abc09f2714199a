-- A key is passed on as the number that it is.
use Rattle.std.proofs.Common.{◌≡◌, ℕ, ◌<◌, ◌+◌, Ok, ap, ◌∙◌, arith, pos, ◌+ℤ◌, rules}
use Rattle.std.specs.Int.{w32}
use Rattle.std.specs.Int.RustNames.{FitsSigned}
use Rattle.std.proofs.lemmas.Int.{to_z-of_z, ints}
use Rattle.std.proofs.lemmas.Grind.{common_steps}
use Rattle.wf_opcode.specs.Decoding.{table_case}
use Rattle.wf_opcode.specs.Instructions.{entries}
use Rattle.wf_bytes.proofs.Loops.{is_done_on, goes_on_on}
use Rattle.wf_opcode.proofs.Loops.{ends_on}
use Rattle.wf_opcode.proofs.reader.Reader.table_cases.Goals as goal

pub returns : goal.returns
returns c =
    let low = c.args.low in
    let low_is = to_z-of_z w32 low c.ranges.low in
    let high_is = to_z-of_z w32 c.args.high c.ranges.high in
    let inv = rw (low_is, high_is) at c.loop-i.invariant in
    let count = rw (low_is, high_is) at c.abs_diff.ensures in
    let all : c.loop-i.i ≡ entries low c.args.high = omega (arith, count) in
    is_done_on (table_case c.args.pc) c.loop-i.cases.items (entries low c.args.high) c.loop-i.i (low +ℤ pos c.loop-i.i) c.loop-i.self.cursor _ (omega (arith, all)) inv
    ∙ ap (λ (n : ℕ). Ok ((c.loop-i.cases.items, low +ℤ pos n), c.loop-i.self.cursor)) all

pub returns-in_err-case : goal.returns-in_err-case
returns-in_err-case c =
    let low = c.args.low in
    let low_is = to_z-of_z w32 low c.ranges.low in
    let high_is = to_z-of_z w32 c.args.high c.ranges.high in
    let fits : FitsSigned w32 c.key_at-key.result = search rules in
    let key_is = to_z-of_z w32 c.key_at-key.result fits in
    let key = rw low_is at c.key_at-key.ensures in
    let inv = rw (low_is, high_is) at c.loop-i.invariant in
    let count = rw (low_is, high_is) at c.abs_diff.ensures in
    let less : c.loop-i.i < entries low c.args.high = omega (arith, count) in
    let fails = rw (key_is, key) at c.in_err-case.ensures in
    let all = ends_on c.in_err-case.field-0.0 (table_case c.args.pc) c.loop-i.cases.items (entries low c.args.high) c.loop-i.i (low +ℤ pos c.loop-i.i) c.loop-i.self.cursor _ less fails inv in
    grind (arith, common_steps, all)

pub loop-i-preserved : goal.loop-i-preserved
loop-i-preserved c =
    let low = c.args.low in
    let low_is = to_z-of_z w32 low c.ranges.low in
    let high_is = to_z-of_z w32 c.args.high c.ranges.high in
    let fits : FitsSigned w32 c.key_at-key.result = search rules in
    let key_is = to_z-of_z w32 c.key_at-key.result fits in
    let key = rw low_is at c.key_at-key.ensures in
    let inv = rw (low_is, high_is) at c.loop-i.invariant in
    let count = rw (low_is, high_is) at c.abs_diff.ensures in
    let less : c.loop-i.i < entries low c.args.high = omega (arith, count) in
    let case = rw (key_is, key) at c.in_ok-case.ensures in
    let next : (low +ℤ pos c.loop-i.i) +ℤ pos 1 ≡ low +ℤ pos (c.loop-i.i + 1) = omega (arith, ints) in
    let more = goes_on_on (table_case c.args.pc) c.loop-i.cases.items (entries low c.args.high) c.loop-i.i (low +ℤ pos c.loop-i.i) c.loop-i.self.cursor c.in_ok-case.case _ c.table_case.new.self.cursor _ less case inv in
    rw (low_is, high_is, c.in_ok-push.ensures.items, ← next) more
