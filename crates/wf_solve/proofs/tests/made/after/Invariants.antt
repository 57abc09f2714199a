use Rattle.wf_solve.proofs.tests.made.after.Given as goal

abbrev pub ghosts-solves : goal.ghosts-solves
ghosts-solves a = record { name = a.blank.name; parts = a.blank.parts }
