use Rattle.std.proofs.Common.{refl}
use Rattle.tables.specs.LastingSlots.{memory_given_back}
use Rattle.upkeep.specs.UpkeepBook.{name_numbered, slots_in}
use Rattle.upkeep.proofs.UpkeepLooks.{has_learnt, inside, may_learn, passes_in}
use Rattle.upkeep.proofs.names.give_back.Goals as goal

pub load_with-requires-clause-inside : goal.load_with-requires-clause-inside
load_with-requires-clause-inside g c = let r = c.requires in inside c.args.words.now c.args.layout.now c.args.seat.now r.0 c.args.at r.2 r.3

pub load_with-requires-clause-may : goal.load_with-requires-clause-may
load_with-requires-clause-may g c =
    let r = c.requires in
    let t = slots_in c.args.words.now in
    let name = name_numbered c.args.name.kind c.args.name.number in
    may_learn g.S.Shape.allows (λ m n rows. memory_given_back t m name) c.args.words.now c.args.layout.now c.args.seat.now r.0 c.args.at c.args.at (λ n. n) r.2 refl
    (c.slots_last.ensures.gives_back t c.args.words.now.table.shared.key.planting c.args.words.now.table.shared.table_id.slots c.args.seat.now.id c.args.seat.now.me r.0 c.args.at name r.1 r.2.alone (passes_in c.args.words.now c.args.layout.now c.args.seat.now r.0 r.2) r.5 r.6 r.4.share r.7)

pub returns-clause-given : goal.returns-clause-given
returns-clause-given g c = has_learnt g.S.Shape.allows (λ m n rows. memory_given_back (slots_in c.args.words.now) m (name_numbered c.args.name.kind c.args.name.number)) c.args.seat.now.me.0 c.load_with.new.seat.me.0 c.load_with.result _ (λ m rows. refl) c.load_with.ensures.learnt
