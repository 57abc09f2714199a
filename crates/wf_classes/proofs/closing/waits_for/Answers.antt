use Rattle.std.proofs.Common.{◌≡◌, true, false, ltb, leb, rules, List, take, drop, ◌∙◌, ap, sym, subst}
use Rattle.std.specs.List.Sorted.{IsPartitionPoint, IsPartitionedBy}
use Rattle.std.proofs.lemmas.List.{take_rest}
use Rattle.std.proofs.lemmas.List.Sorted.{IsPartitionPoint-from_clause, IsPartitionedBy-leb, IsPartitionedBy-ltb, IsNonDecreasingBy-drop}
use Rattle.wf_classes.specs.declared.waits.Wait.{Wait}
use Rattle.wf_classes.proofs.Worklist.{waits_between, tests_below, tests_upto}
use Rattle.wf_classes.proofs.closing.waits_for.Goals as goal

pub returns : goal.returns
returns c =
    let by = λ (w : Wait). w.above in
    let waits = c.args.waits.now in
    let first = c.partition_point-first.result in
    let end = c.partition_point-end.result in
    let rest = take_rest waits first in
    let rises = IsNonDecreasingBy-drop by first waits c.requires in
    let low = IsPartitionPoint-from_clause (λ (w : Wait). ltb w.above c.args.above) waits first c.partition_point-first.ensures.partitioned (IsPartitionedBy-ltb by waits c.args.above c.requires) (λ a r q k. search rules) in
    let high = IsPartitionPoint-from_clause (λ (w : Wait). leb w.above c.args.above) _ end c.partition_point-end.ensures.partitioned (subst (λ (ws : List Wait). IsPartitionedBy (λ (w : Wait). leb w.above c.args.above) ws) (sym rest) (IsPartitionedBy-leb by (drop first waits) c.args.above rises)) (λ a r q k. search rules) in
    ap (take end) rest ∙ waits_between waits c.args.above first end (tests_below c.args.above waits first low) (tests_upto c.args.above (drop first waits) end (subst (λ (ws : List Wait). IsPartitionPoint (λ (w : Wait). leb w.above c.args.above ≡ true) (λ (w : Wait). leb w.above c.args.above ≡ false) ws end) rest high))
