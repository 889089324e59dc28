use Rattle.std.proofs.Common.{[], ◌∷◌, refl}
use Rattle.tables.specs.LastingNotes.{noted_as}
use Rattle.upkeep.specs.UpkeepBook.{memory_with_note, name_numbered, slots_in}
use Rattle.tables.specs.declared.memory.NoteView.TheVariants.{DeadBy, MarkedOrDead}
use Rattle.upkeep.proofs.UpkeepLooks.{has_learnt, inside, may_learn, passes_in}
use Rattle.upkeep.proofs.looks.note_dying.Goals as goal

pub load_with-requires-clause-inside : goal.load_with-requires-clause-inside
load_with-requires-clause-inside g c = inside c.args.words.now c.args.layout.now c.args.seat.now c.requires.0 c.args.at c.requires.2 c.requires.3

pub load_with-requires-clause-may : goal.load_with-requires-clause-may
load_with-requires-clause-may g c =
    let p = c.requires.0 in
    let at = c.requires.2 in
    let found = c.requires.5 in
    let name = name_numbered c.args.name.kind c.args.name.number in
    may_learn g.S.Shape.allows (λ m n rows. memory_with_note m name (DeadBy rows)) c.args.words.now c.args.layout.now c.args.seat.now p c.args.at c.args.at (λ n. n) at refl
    (c.looks_last.ensures.notes (slots_in c.args.words.now) c.args.words.now.table.shared.key.planting c.args.words.now.table.shared.table_id.slots c.args.seat.now.id c.args.seat.now.me p c.args.at c.requires.1 (noted_as name (MarkedOrDead found.rows) ∷ []) at.alone (passes_in c.args.words.now c.args.layout.now c.args.seat.now p at) c.requires.4.seen ((found.noted, found.before), tt))

pub returns-clause-looked : goal.returns-clause-looked
returns-clause-looked g c = has_learnt g.S.Shape.allows (λ m n rows. memory_with_note m (name_numbered c.args.name.kind c.args.name.number) (DeadBy rows)) c.args.seat.now.me.0 c.load_with.new.seat.me.0 c.load_with.result _ (λ m rows. refl) c.load_with.ensures.learnt
