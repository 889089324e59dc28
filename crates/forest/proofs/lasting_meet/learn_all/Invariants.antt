use Rattle.forest.specs.LastingMeets.{AllLearn}
use Rattle.forest.proofs.lasting_meet.learn_all.Given as goal

abbrev pub ghosts-load_with : goal.ghosts-load_with
ghosts-load_with g a = record { learns = λ v n w. AllLearn g.S.Shape.allows v w }
