use Rattle.std.proofs.Common.{◌≡◌, ◌≤◌, refl, arith}
use Rattle.atomic_table.specs.Table.{Allows}
use Rattle.histories.specs.Common.{Remaining}
use Rattle.tables.specs.LastingMemory.{record_at}
use Rattle.tables.specs.LastingNames.{MayGiveName}
use Rattle.tables.specs.LastingRule.{LearnsWith, TableLasts}
use Rattle.tables.specs.LastingSlots.{IsNotBefore}
use Rattle.upkeep.specs.UpkeepBook.{dealt_of, name_numbered, slots_in}
use Rattle.upkeep.specs.UpkeepDeals.{ahead, memory_given, next_of}
use Rattle.tables.specs.declared.memory.PassMemory.{PassMemory}
use Rattle.upkeep.specs.declared.kind.RecordKind.{RecordKind}
use Rattle.upkeep.specs.declared.kind.RecordKind.TheVariants.{Node, Scx}
use Rattle.upkeep.proofs.UpkeepDeals.{may_give}
use Rattle.upkeep.proofs.UpkeepLooks.{has_learnt, inside, may_learn, passes_in}
use Rattle.upkeep.proofs.names.give_next.Goals as goal

not_before : (kind : RecordKind) (left : Remaining) (m : PassMemory) → next_of kind left ≤ dealt_of kind m → IsNotBefore left (record_at (ahead kind m 0))
not_before Node left m less = omega (arith, less)
not_before Scx left m less = omega (arith, less)

pub load_with-requires-clause-inside : goal.load_with-requires-clause-inside
load_with-requires-clause-inside g c = let r = c.requires in inside c.args.words.now c.args.layout.now c.args.seat.now r.0 c.args.at r.2 r.3

pub load_with-requires-clause-may : goal.load_with-requires-clause-may
load_with-requires-clause-may g c =
    let r = c.requires in
    let allows = g.S.Shape.allows in
    let t = slots_in c.args.words.now in
    let planting = c.args.words.now.table.shared.key.planting in
    let slots = c.args.words.now.table.shared.table_id.slots in
    let id = c.args.seat.now.id in
    let me = c.args.seat.now.me in
    let law : (kind : RecordKind) → MayGiveName t r.0 r.1 (ahead kind r.0.memory 0) (name_numbered kind c.args.slot.number) → IsNotBefore r.1 (record_at (ahead kind r.0.memory 0)) → Allows (TableLasts allows t planting) slots id me c.args.at (λ n. n) (λ n w. LearnsWith allows (λ rows. memory_given kind r.0.memory 0 (name_numbered kind c.args.slot.number) rows) me.0 w.0 × (w.1 ≡ me.1)) = λ kind. elim kind as (λ (kind : RecordKind). MayGiveName t r.0 r.1 (ahead kind r.0.memory 0) (name_numbered kind c.args.slot.number) → IsNotBefore r.1 (record_at (ahead kind r.0.memory 0)) → Allows (TableLasts allows t planting) slots id me c.args.at (λ n. n) (λ n w. LearnsWith allows (λ rows. memory_given kind r.0.memory 0 (name_numbered kind c.args.slot.number) rows) me.0 w.0 × (w.1 ≡ me.1))) [
      | Node ↦ λ may not. c.names_last.ensures.next_node t planting slots id me r.0 c.args.at r.1 (name_numbered Node c.args.slot.number) r.2.alone may not
      | Scx ↦ λ may not. c.names_last.ensures.next_scx t planting slots id me r.0 c.args.at r.1 (name_numbered Scx c.args.slot.number) r.2.alone may not
    ] in
    may_learn allows (λ m n rows. memory_given c.args.slot.kind m 0 (name_numbered c.args.slot.kind c.args.slot.number) rows) c.args.words.now c.args.layout.now c.args.seat.now r.0 c.args.at c.args.at (λ n. n) r.2 refl
    (law c.args.slot.kind (may_give allows t r.0 r.1 c.args.slot.kind c.args.slot.number 0 (passes_in c.args.words.now c.args.layout.now c.args.seat.now r.0 r.2) r.4 r.6) (not_before c.args.slot.kind r.1 r.0.memory r.5))

pub returns-clause-given : goal.returns-clause-given
returns-clause-given g c = has_learnt g.S.Shape.allows (λ m n rows. memory_given c.args.slot.kind m 0 (name_numbered c.args.slot.kind c.args.slot.number) rows) c.args.seat.now.me.0 c.load_with.new.seat.me.0 c.load_with.result _ (λ m rows. refl) c.load_with.ensures.learnt
