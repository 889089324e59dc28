use Rattle.tables.specs.LastingNotes.{memory_looked_at}
use Rattle.upkeep.specs.UpkeepBook.{LearnsOf}
use Rattle.upkeep.proofs.scx.is_let_go.Given as goal

abbrev pub ghosts-load_with : goal.ghosts-load_with
ghosts-load_with g a = record { learns = LearnsOf g.S.Shape.allows (λ m n rows. memory_looked_at m record { 0 = a.about.name } a.about.place n) }
