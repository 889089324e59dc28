use Rattle.std.proofs.Common.{refl}
use Rattle.tables.specs.LastingNotes.{memory_over}
use Rattle.upkeep.specs.UpkeepBook.{slots_in}
use Rattle.upkeep.proofs.UpkeepLooks.{has_learnt, inside, may_learn}
use Rattle.upkeep.proofs.scx.note_over.Goals as goal

pub load_with-requires-clause-inside : goal.load_with-requires-clause-inside
load_with-requires-clause-inside g c = let r = c.requires in inside c.args.words.now c.args.layout.now c.args.seat.now r.0 c.args.at r.2 r.3

pub load_with-requires-clause-may : goal.load_with-requires-clause-may
load_with-requires-clause-may g c =
    let r = c.requires in
    may_learn g.S.Shape.allows (λ m n rows. memory_over m record { 0 = c.args.name } rows) c.args.words.now c.args.layout.now c.args.seat.now r.0 c.args.at c.args.at (λ n. n) r.2 refl
    (c.finished_last.ensures.dead (slots_in c.args.words.now) c.args.words.now.table.shared.key.planting c.args.words.now.table.shared.table_id.slots c.args.seat.now.id c.args.seat.now.me r.0 record { 0 = c.args.name } c.args.at r.2.alone r.5 r.6 r.4.over r.7)

pub returns-clause-looked : goal.returns-clause-looked
returns-clause-looked g c = has_learnt g.S.Shape.allows (λ m n rows. memory_over m record { 0 = c.args.name } rows) c.args.seat.now.me.0 c.load_with.new.seat.me.0 c.load_with.result _ (λ m rows. refl) c.load_with.ensures.learnt
