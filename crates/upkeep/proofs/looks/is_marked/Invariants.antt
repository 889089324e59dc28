use Rattle.tables.specs.LastingNotes.{memory_marked}
use Rattle.upkeep.specs.UpkeepBook.{LearnsOf, name_numbered}
use Rattle.upkeep.specs.declared.kind.RecordKind.TheVariants.{Node}
use Rattle.upkeep.proofs.looks.is_marked.Given as goal

abbrev pub ghosts-load_with : goal.ghosts-load_with
ghosts-load_with g a = record { learns = LearnsOf g.S.Shape.allows (λ m n. memory_marked m (name_numbered Node a.about) n) }
