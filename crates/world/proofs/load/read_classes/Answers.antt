use Rattle.std.proofs.Common.{refl}
use Rattle.wf_runs.specs.Run.{Gives}
use Rattle.wf_runs.proofs.RunLaws.{here, then, answered, goes_on, stops, is_done, hands_on}
use Rattle.world.specs.declared.load.ReadSoFar.{ReadSoFar}
use Rattle.world.specs.Load.{load_file}
use Rattle.world.proofs.load.read_classes.Goals as goal

pub loop-path-init : goal.loop-path-init
loop-path-init g c = rw (c.as_slice-path-items.ensures, c.new.ensures) (here _ _)

pub loop-path-preserved : goal.loop-path-preserved
loop-path-preserved g c =
    goes_on (load_file c.args.dir.now) c.as_slice-path-items.result.now c.loop-path.path-index c.path-item.result c.loop-path.so_far c.loop-path-test.true c.path-item.is c.loop-path.invariant c.in_ok-load_file.ensures

pub returns-in_err-load_file : goal.returns-in_err-load_file
returns-in_err-load_file g c =
    hands_on (λ (r : ReadSoFar). Gives r.classes) _ c.from_residual.ensures.1 (here _ _)
    (stops (load_file c.args.dir.now) c.as_slice-path-items.result.now c.loop-path.path-index c.path-item.result c.loop-path.so_far c.loop-path-test.true c.path-item.is c.loop-path.invariant c.in_err-load_file.ensures)

pub returns : goal.returns
returns g c =
    answered (then (λ (r : ReadSoFar). Gives r.classes) (here _ _)
    (answered (is_done (load_file c.args.dir.now) c.as_slice-path-items.result.now c.loop-path.path-index c.loop-path.so_far c.loop-path-test.false c.loop-path.invariant) refl)) refl
