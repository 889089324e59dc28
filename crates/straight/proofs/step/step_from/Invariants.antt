use Rattle.straight.proofs.step.step_from.Given as goal

abbrev pub ghosts-make : goal.ghosts-make
ghosts-make g a = record { said = a.said.now }
