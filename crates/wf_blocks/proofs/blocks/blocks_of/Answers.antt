use Rattle.std.proofs.Common.{List, Option, Ok, Result, Vec, Global, ap, refl, subst}
use Rattle.std.specs.Prelude.{IfSome}
use Rattle.std.specs.declared.alloc.AllocError.{AllocError}
use Rattle.wf_blocks.specs.declared.seen.Seen.{Seen}
use Rattle.wf_blocks.specs.Answers.{AreRows}
use Rattle.wf_blocks.proofs.AnswerLemmas.{never_bad}
use Rattle.wf_blocks.proofs.blocks.blocks_of.Goals as goal

pub returns-in-None-clause-bad : goal.returns-in-None-clause-bad
returns-in-None-clause-bad c =
    λ e. let ok : Option (Vec (Option (List Seen)) Global) → Result (Option (Vec (Option (List Seen)) Global)) AllocError = λ t. Ok t in c.in_ok-settled_rows.ensures.bad (ap ok c.in-None.is)

pub returns-in_ok-ways-in-Some-clause-found : goal.returns-in_ok-ways-in-Some-clause-found
returns-in_ok-ways-in-Some-clause-found c =
    let are : AreRows c.args.body c.in-Some.rows.items =
    subst (λ (o : Option (Vec (Option (List Seen)) Global)). IfSome o (λ v. AreRows c.args.body v.items)) c.in-Some.is c.in_ok-settled_rows.ensures.settled in
    (refl, never_bad c.args.body c.in-Some.rows.items are)
