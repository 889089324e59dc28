use Rattle.upkeep.specs.UpkeepBook.{LearnsOf, memory_with_note, name_numbered}
use Rattle.tables.specs.declared.memory.NoteView.TheVariants.{OutOfReach}
use Rattle.upkeep.proofs.looks.note_gone.Given as goal

abbrev pub ghosts-load_with : goal.ghosts-load_with
ghosts-load_with g a = record { learns = LearnsOf g.S.Shape.allows (λ m n rows. memory_with_note m (name_numbered a.about.kind a.about.number) OutOfReach) }
