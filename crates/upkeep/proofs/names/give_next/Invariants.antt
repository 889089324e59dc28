use Rattle.upkeep.specs.UpkeepBook.{LearnsOf, name_numbered}
use Rattle.upkeep.specs.UpkeepDeals.{memory_given}
use Rattle.upkeep.proofs.names.give_next.Given as goal

abbrev pub ghosts-load_with : goal.ghosts-load_with
ghosts-load_with g a = record { learns = LearnsOf g.S.Shape.allows (λ m n rows. memory_given a.about.kind m 0 (name_numbered a.about.kind a.about.number) rows) }
