use Rattle.tables.specs.LastingNotes.{memory_away}
use Rattle.upkeep.specs.UpkeepSteps.{LearnsFrom}
use Rattle.upkeep.proofs.counter.leave.Given as goal

abbrev pub ghosts-store_with : goal.ghosts-store_with
ghosts-store_with g a = record { learns = λ v n w. LearnsFrom g.S.Shape.allows (λ m rows. memory_away m) v w }
