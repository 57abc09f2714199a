use Rattle.wf_solve.proofs.tests.one_int.an_int_without_inequalities_stays.Given as goal

abbrev pub ghosts-solved : goal.ghosts-solved
ghosts-solved g a = record { name = a.blank.name; parts = a.blank.parts }
