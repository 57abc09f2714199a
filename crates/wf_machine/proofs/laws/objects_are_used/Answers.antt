use Rattle.wf_machine.proofs.ObjectsRun.{uses_field_runs, gets_of_null_runs, uses_array_runs, makes_arrays_runs, tests_null_runs, loads_literals_runs}
use Rattle.wf_machine.proofs.laws.objects_are_used.Goals as goal

pub returns : goal.returns
returns c = record { uses_field = uses_field_runs; gets_of_null = gets_of_null_runs; uses_array = uses_array_runs; makes_arrays = makes_arrays_runs; tests_null = tests_null_runs; loads_literals = loads_literals_runs }
