use Rattle.std.proofs.Common.{sym, ap, ◌∙◌, length, Some}
use Rattle.wf_blocks.specs.declared.body.Body.{Body}
use Rattle.wf_blocks.specs.Bodies.{operation_at}
use Rattle.wf_ssa.specs.Environments.{pc_at, along_edge, fails_there}
use Rattle.wf_ssa.specs.Keeping.{named, renamed_by}
use Rattle.std.specs.Option.{option_copied}
use Rattle.wf_ssa.proofs.BackLemmas.{known_count}
use Rattle.wf_ssa.proofs.MoveLemmas.{origin_is, origin_same}
use Rattle.wf_ssa.proofs.walk.trace.Goals as goal

pub returns : goal.returns
returns c =
    λ failing edge k last there. let b = c.args.blocks.now in
    let p = c.args.last in
    let after = along_edge b failing p edge k in
    let o = c.operation_at.ensures ∙ ap (λ (x : Body). operation_at x p) c.body-2.ensures in
    let pc = c.pc_at.ensures ∙ ap (λ (x : Body). pc_at x p) c.body.ensures in
    let n = known_count b failing p k c.slots.result c.slots.ensures.every c.slots.ensures.reached last in
    let m = known_count b failing c.args.place after c.slots-2.result c.slots-2.ensures.every c.slots-2.ensures.reached there in
    origin_is (operation_at b p) (pc_at b p) edge (fails_there failing (pc_at b p)) k c.args.slot
    ∙ ap (named (renamed_by (operation_at b p) (pc_at b p) edge k.names))
    (sym (c.origin_by.ensures ∙ origin_same c.pc_at.result (pc_at b p) (option_copied c.operation_at.result) (operation_at b p) c.slots.result (Some (length k.names)) c.slots-2.result (Some (length after.names)) c.args.slot pc o n m))
