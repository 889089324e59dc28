use Rattle.std.proofs.Common.{refl}
use Rattle.upkeep.specs.UpkeepBook.{memory_with_note, name_numbered, slots_in}
use Rattle.tables.specs.declared.memory.NoteView.TheVariants.{OutOfReach}
use Rattle.upkeep.proofs.UpkeepLooks.{has_learnt, inside, may_learn, passes_in}
use Rattle.upkeep.proofs.looks.note_unneeded.Goals as goal

pub load_with-requires-clause-inside : goal.load_with-requires-clause-inside
load_with-requires-clause-inside g c = let r = c.requires in inside c.args.words.now c.args.layout.now c.args.seat.now r.0 c.args.at r.1 r.2

pub load_with-requires-clause-may : goal.load_with-requires-clause-may
load_with-requires-clause-may g c =
    let r = c.requires in
    let words = c.args.words.now in
    let seat = c.args.seat.now in
    let name = name_numbered c.args.name.kind c.args.name.number in
    may_learn g.S.Shape.allows (λ m n rows. memory_with_note m name OutOfReach) words c.args.layout.now seat r.0 c.args.at c.args.at (λ n. n) r.1 refl
    (c.sights_last.ensures.unused (slots_in words) words.table.shared.key.planting words.table.shared.table_id.slots seat.id seat.me r.0 c.args.at name r.1.alone (passes_in words c.args.layout.now seat r.0 r.1) r.3 r.4)

pub returns-clause-looked : goal.returns-clause-looked
returns-clause-looked g c = has_learnt g.S.Shape.allows (λ m n rows. memory_with_note m (name_numbered c.args.name.kind c.args.name.number) OutOfReach) c.args.seat.now.me.0 c.load_with.new.seat.me.0 c.load_with.result _ (λ m rows. refl) c.load_with.ensures.learnt
