use Rattle.arena.specs.Words.{node}
use Rattle.arena.specs.declared.word.NodeWord.TheVariants.{Settled}
use Rattle.upkeep.specs.UpkeepSteps.{LearnsWord}
use Rattle.upkeep.proofs.leaf.load_part.Given as goal

abbrev pub ghosts-load_with : goal.ghosts-load_with
ghosts-load_with g a = record { learns = λ v n w. LearnsWord g.S.Shape.allows (node a.about.name (Settled a.about.part)) v n w }
