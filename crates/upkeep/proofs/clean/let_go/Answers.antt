use Rattle.std.proofs.Common.{refl}
use Rattle.tables.specs.LastingSlots.{memory_let_go}
use Rattle.upkeep.specs.UpkeepBook.{name_numbered, slots_in}
use Rattle.upkeep.proofs.UpkeepLooks.{has_learnt, inside, may_learn}
use Rattle.upkeep.proofs.clean.let_go.Goals as goal

pub load_with-requires-clause-inside : goal.load_with-requires-clause-inside
load_with-requires-clause-inside g c = inside c.args.words.now c.args.layout.now c.args.seat.now c.requires.0 c.args.at c.requires.1 c.requires.2

pub load_with-requires-clause-may : goal.load_with-requires-clause-may
load_with-requires-clause-may g c =
    let p = c.requires.0 in
    let at = c.requires.1 in
    let t = slots_in c.args.words.now in
    let name = name_numbered c.args.name.kind c.args.name.number in
    may_learn g.S.Shape.allows (λ m n rows. memory_let_go t m name) c.args.words.now c.args.layout.now c.args.seat.now p c.args.at c.args.at (λ n. n) at refl
    (c.slots_last.ensures.lets_go t c.args.words.now.table.shared.key.planting c.args.words.now.table.shared.table_id.slots c.args.seat.now.id c.args.seat.now.me p c.args.at name at.alone c.requires.3 c.requires.4 c.requires.5)

pub returns-clause-looked : goal.returns-clause-looked
returns-clause-looked g c = has_learnt g.S.Shape.allows (λ m n rows. memory_let_go (slots_in c.args.words.now) m (name_numbered c.args.name.kind c.args.name.number)) c.args.seat.now.me.0 c.load_with.new.seat.me.0 c.load_with.result _ (λ m rows. refl) c.load_with.ensures.learnt
