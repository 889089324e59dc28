use Rattle.tables.specs.LastingSlots.{memory_given_back}
use Rattle.upkeep.specs.UpkeepBook.{LearnsOf, name_numbered, slots_in}
use Rattle.upkeep.proofs.names.give_back.Given as goal

abbrev pub ghosts-load_with : goal.ghosts-load_with
ghosts-load_with g a = record { learns = LearnsOf g.S.Shape.allows (λ m n rows. memory_given_back (slots_in a.self.now) m (name_numbered a.about.kind a.about.number)) }
