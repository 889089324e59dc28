use Rattle.tables.specs.LastingNotes.{memory_done}
use Rattle.upkeep.specs.UpkeepBook.{LearnsOf}
use Rattle.upkeep.proofs.scx.note_done.Given as goal

abbrev pub ghosts-load_with : goal.ghosts-load_with
ghosts-load_with g a = record { learns = LearnsOf g.S.Shape.allows (λ m n rows. memory_done m record { 0 = a.about.name } a.about.place) }
