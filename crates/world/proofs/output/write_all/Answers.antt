use Rattle.std.proofs.Common.{◌∙◌, arith}
use Rattle.std.proofs.lemmas.List.{length-take, length-drop, take_rest}
use Rattle.world.proofs.OutputLaws.{more_taken}
use Rattle.world.proofs.output.write_all.Goals as goal

pub loop-done-preserved : goal.loop-done-preserved
loop-done-preserved g c = record {
  within = let h = simp (length-take, length-drop) at c.in-Ok.ensures.within in omega (arith, h, c.loop-done.invariant.within);
  taken = λ had h. rw take_rest at (c.in-Ok.ensures.took _ (c.loop-done.invariant.taken had h)) ∙ more_taken had c.args.bytes.now c.loop-done.done c.in-Ok.n;
  grows = omega (arith, c.loop-done.invariant.grows, c.in-Ok.ensures.grows);
}
