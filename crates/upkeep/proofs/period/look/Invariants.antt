use Rattle.tables.specs.LastingNotes.{memory_looked}
use Rattle.upkeep.specs.UpkeepSteps.{LearnsFrom}
use Rattle.upkeep.proofs.period.look.Given as goal

abbrev pub ghosts-load_with : goal.ghosts-load_with
ghosts-load_with g a = record { learns = λ v n w. LearnsFrom g.S.Shape.allows (λ m. memory_looked m a.about.0 n) v w }
