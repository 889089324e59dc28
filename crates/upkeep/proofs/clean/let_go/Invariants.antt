use Rattle.tables.specs.LastingSlots.{memory_let_go}
use Rattle.upkeep.specs.UpkeepBook.{LearnsOf, name_numbered, slots_in}
use Rattle.upkeep.proofs.clean.let_go.Given as goal

abbrev pub ghosts-load_with : goal.ghosts-load_with
ghosts-load_with g a = record { learns = LearnsOf g.S.Shape.allows (λ m n rows. memory_let_go (slots_in a.self.now) m (name_numbered a.about.kind a.about.number)) }
