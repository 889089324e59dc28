use Rattle.tables.specs.LastingSlots.{memory_cleared}
use Rattle.upkeep.specs.UpkeepBook.{LearnsOf}
use Rattle.upkeep.proofs.clean.clear.Given as goal

abbrev pub ghosts-store_with : goal.ghosts-store_with
ghosts-store_with g a = record { learns = LearnsOf g.S.Shape.allows (λ m n rows. memory_cleared m a.about) }
