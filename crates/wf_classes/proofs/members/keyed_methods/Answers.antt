use Rattle.std.proofs.Common.{◌≡◌, ◌∙◌, ap, map, length, refl, Some, arith}
use Rattle.std.specs.Prelude.{slice_get, option_map}
use Rattle.std.specs.Cmp.Lexicographic.{slice_cmp}
use Rattle.std.specs.Ordering.{nat_cmp}
use Rattle.std.proofs.lemmas.List.{length-map}
use Rattle.std.proofs.lemmas.Option.{slice_get_read, slice_get-map}
use Rattle.wf_classes.specs.declared.members.Keyed.{Keyed}
use Rattle.wf_classes.specs.Members.{method_key}
use Rattle.wf_classes.proofs.KeyLists.{keyed_more, keyed_sorted, before_by_two}
use Rattle.wf_classes.proofs.members.keyed_methods.Goals as goal

pub loop-i-preserved : goal.loop-i-preserved
loop-i-preserved c =
    let members = c.args.methods.now in
    let m = c.index-methods-i.result in
    let read = slice_get_read members (length members) c.loop-i.i m refl c.loop-i-test.true c.index-methods-i.is in
    let key : slice_get (map method_key members) c.loop-i.i ≡ Some (c.as_slice.result.now, c.as_slice-in-loop-i.result.now) =
    slice_get-map method_key members c.loop-i.i ∙ ap (option_map method_key) read ∙ rw (c.as_slice.ensures, c.as_slice-in-loop-i.ensures) refl in
    let k : Keyed = record { name = c.as_slice.result; desc = c.as_slice-in-loop-i.result; index = c.loop-i.i } in
    rw c.in_ok-push.ensures.items (keyed_more (map method_key members) c.loop-i.i c.loop-i.keyed.items k key refl c.loop-i.invariant)

pub returns : goal.returns
returns c =
    let members = c.args.methods.now in
    let size = length-map members method_key in
    keyed_sorted (map method_key members) c.loop-i.i c.loop-i.keyed.items c.sort_unstable.new.self.items _ (omega (arith, size))
    (λ a b e. before_by_two (slice_cmp nat_cmp a.name.now b.name.now) (slice_cmp nat_cmp a.desc.now b.desc.now) (nat_cmp a.index b.index) e)
    c.loop-i.invariant c.sort_unstable.ensures.permutation c.sort_unstable.ensures.sorted
