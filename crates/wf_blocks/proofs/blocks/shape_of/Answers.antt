use Rattle.std.proofs.Common.{◌≡◌, List, Option, Ok, Result, ap, sym, subst, ◌∙◌}
use Rattle.std.specs.Prelude.{IfSome}
use Rattle.std.specs.declared.alloc.AllocError.{AllocError}
use Rattle.wf_data.specs.declared.class_info.PoolEntry.{PoolEntry}
use Rattle.wf_data.specs.declared.instr.Placed.{Placed}
use Rattle.wf_blocks.specs.declared.body.Body.{Body}
use Rattle.wf_blocks.specs.Bodies.{graph_of}
use Rattle.wf_blocks.specs.Graphs.{BadPaths}
use Rattle.wf_blocks.specs.Methods.{body_of, HasShape, no_body, bad_paths}
use Rattle.wf_blocks.proofs.AnswerLemmas.{bad_of}
use Rattle.wf_blocks.proofs.blocks.shape_of.Goals as goal

pub returns-in-None-clause-shape : goal.returns-in-None-clause-shape
returns-in-None-clause-shape c =
    λ e. let d = c.args.desc.now in
    let info = c.args.info.now in
    let is = c.in_ok-body_of.ensures.value
    ∙ ap (λ (p : List PoolEntry). body_of d c.args.is_static p info c.as_slice-2.result.now) c.as_slice-pool.ensures
    ∙ ap (λ (code : List Placed). body_of d c.args.is_static c.args.class.now.pool info code) c.as_slice-2.ensures in
    subst HasShape (sym c.in-None.is ∙ is) no_body

pub returns-in-None-2-clause-shape : goal.returns-in-None-2-clause-shape
returns-in-None-2-clause-shape c =
    λ e. let d = c.args.desc.now in
    let info = c.args.info.now in
    let is = c.in_ok-body_of.ensures.value
    ∙ ap (λ (p : List PoolEntry). body_of d c.args.is_static p info c.as_slice-2.result.now) c.as_slice-pool.ensures
    ∙ ap (λ (code : List Placed). body_of d c.args.is_static c.args.class.now.pool info code) c.as_slice-2.ensures in
    let ok : Option Body → Result (Option Body) AllocError = λ t. Ok t in
    subst HasShape (sym c.in-Some.is ∙ is) (bad_paths c.in-Some.body (c.in_ok-blocks_of-in-Some.ensures.bad (ap ok c.in-None-2.is)))

pub returns-in-Some-2-clause-fits : goal.returns-in-Some-2-clause-fits
returns-in-Some-2-clause-fits c =
    λ shape. let d = c.args.desc.now in
    let info = c.args.info.now in
    let b = c.in-Some.body in
    let is = c.in_ok-body_of.ensures.value
    ∙ ap (λ (p : List PoolEntry). body_of d c.args.is_static p info c.as_slice-2.result.now) c.as_slice-pool.ensures
    ∙ ap (λ (code : List Placed). body_of d c.args.is_static c.args.class.now.pool info code) c.as_slice-2.ensures in
    let found : (c.in-Some-2.blocks ≡ b) × (BadPaths (graph_of b) → ⊥) =
    subst (λ (o : Option Body). IfSome o (λ x. (x ≡ b) × (BadPaths (graph_of b) → ⊥))) c.in-Some-2.is c.in_ok-blocks_of-in-Some.ensures.found in
    found.1 (bad_of b (subst HasShape (sym is ∙ c.in-Some.is) shape))
