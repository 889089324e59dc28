use Rattle.std.proofs.Common.{◌≡◌, Bool, true, false, eqb, not, if◌then◌else◌, refl, sym, ◌∙◌}
use Rattle.histories.specs.Common.{Marked}
use Rattle.tables.specs.LastingNotes.{memory_marked}
use Rattle.upkeep.specs.UpkeepBook.{name_numbered, slots_in}
use Rattle.tables.specs.declared.memory.PassMemory.{PassMemory}
use Rattle.upkeep.specs.declared.kind.RecordKind.TheVariants.{Node}
use Rattle.upkeep.proofs.UpkeepLooks.{has_learnt, may_learn, node_in_slot, passes_in, table_in}
use Rattle.upkeep.proofs.looks.is_marked.Goals as goal

pub load_with-requires-clause-may : goal.load_with-requires-clause-may
load_with-requires-clause-may g c =
    let p = c.requires.0 in
    let at = c.requires.1 in
    let site = c.args.words.now.table.shared.key in
    let t = slots_in c.args.words.now in
    may_learn g.S.Shape.allows (λ m n. memory_marked m (name_numbered Node c.args.name) n) c.args.words.now c.args.layout.now c.args.seat.now p _ c.place-at.result (λ n. n) at
    (node_in_slot t c.args.layout.now c.args.slot c.args.name Marked (table_in c.args.words.now c.args.layout.now c.args.seat.now p at) c.requires.3.slot_is ∙ sym c.place-at.ensures.place)
    (c.sights_last.ensures.marks t site.planting c.args.words.now.table.shared.table_id.slots c.args.seat.now.id c.args.seat.now.me p record { 0 = c.args.name } at.alone (passes_in c.args.words.now c.args.layout.now c.args.seat.now p at) c.requires.3.held c.requires.4)

unless : (b : Bool) (m k : PassMemory) → (if b then m else k) ≡ (if not b then k else m)
unless true m k = refl
unless false m k = refl

pub returns-clause-looked : goal.returns-clause-looked
returns-clause-looked g c = has_learnt g.S.Shape.allows (λ m n. memory_marked m (name_numbered Node c.args.name) n) c.args.seat.now.me.0 c.load_with.new.seat.me.0 c.load_with.result _ (λ m rows. unless (eqb c.load_with.result 0) m _) c.load_with.ensures.learnt
