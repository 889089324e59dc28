use Rattle.std.proofs.Common.{◌≡◌, Bool, true, false, eqb, not, if◌then◌else◌, refl, sym}
use Rattle.tables.specs.LastingNotes.{memory_looked_at}
use Rattle.upkeep.specs.UpkeepBook.{slots_in}
use Rattle.tables.specs.declared.memory.PassMemory.{PassMemory}
use Rattle.upkeep.proofs.UpkeepLooks.{has_learnt, inside, may_learn}
use Rattle.upkeep.proofs.scx.is_let_go.Goals as goal

pub load_with-requires-clause-inside : goal.load_with-requires-clause-inside
load_with-requires-clause-inside g c = let r = c.requires in inside c.args.words.now c.args.layout.now c.args.seat.now r.0 c.args.at r.3 r.4

pub load_with-requires-clause-may : goal.load_with-requires-clause-may
load_with-requires-clause-may g c =
    let r = c.requires in
    may_learn g.S.Shape.allows (λ m n rows. memory_looked_at m record { 0 = c.args.of.name } c.args.of.place n) c.args.words.now c.args.layout.now c.args.seat.now r.0 _ c.args.at (λ n. n) r.3 (sym r.6)
    (c.finished_last.ensures.looks (slots_in c.args.words.now) c.args.words.now.table.shared.key.planting c.args.words.now.table.shared.table_id.slots c.args.seat.now.id c.args.seat.now.me r.0 record { 0 = c.args.of.name } c.args.of.place r.2 r.3.alone r.8 r.9 r.5.over r.7)

unless : (b : Bool) (m k : PassMemory) → (if b then m else k) ≡ (if not b then k else m)
unless true m k = refl
unless false m k = refl

pub returns-clause-looked : goal.returns-clause-looked
returns-clause-looked g c = has_learnt g.S.Shape.allows (λ m n rows. memory_looked_at m record { 0 = c.args.of.name } c.args.of.place n) c.args.seat.now.me.0 c.load_with.new.seat.me.0 c.load_with.result _ (λ m rows. unless (eqb c.load_with.result c.args.of.name) m _) c.load_with.ensures.learnt
