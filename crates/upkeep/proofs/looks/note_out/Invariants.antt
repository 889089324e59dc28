use Rattle.tables.specs.LastingNotes.{memory_left}
use Rattle.upkeep.specs.UpkeepBook.{LearnsOf}
use Rattle.upkeep.proofs.looks.note_out.Given as goal

abbrev pub ghosts-load_with : goal.ghosts-load_with
ghosts-load_with g a = record { learns = LearnsOf g.S.Shape.allows (λ m n rows. memory_left m record { 0 = a.about } rows) }
