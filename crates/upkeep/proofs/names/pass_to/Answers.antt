use Rattle.std.proofs.Common.{◌≡◌, refl}
use Rattle.atomic_table.specs.Table.{Allows}
use Rattle.tables.specs.LastingNames.{MayGiveName}
use Rattle.tables.specs.LastingRule.{GoesOnWith, TableLasts}
use Rattle.upkeep.specs.UpkeepBook.{dealt_of, name_numbered, slots_in}
use Rattle.upkeep.specs.UpkeepDeals.{LearnsPast, ahead, memory_given, next_of, past_names}
use Rattle.upkeep.specs.declared.kind.RecordKind.{RecordKind}
use Rattle.upkeep.specs.declared.kind.RecordKind.TheVariants.{Node, Scx}
use Rattle.upkeep.proofs.UpkeepDeals.{may_give, past_learnt}
use Rattle.upkeep.proofs.UpkeepLooks.{inside, passes_in}
use Rattle.upkeep.proofs.UpkeepSteps.{upkeep_allows}
use Rattle.upkeep.proofs.names.pass_to.Goals as goal

pub load_with-requires-clause-inside : goal.load_with-requires-clause-inside
load_with-requires-clause-inside g c = let r = c.requires in inside c.args.words.now c.args.layout.now c.args.seat.now r.0 c.args.at r.2 r.3

pub load_with-requires-clause-may : goal.load_with-requires-clause-may
load_with-requires-clause-may g c =
    let r = c.requires in
    let allows = g.S.Shape.allows in
    let t = slots_in c.args.words.now in
    let site = c.args.words.now.table.shared.key in
    let slots = c.args.words.now.table.shared.table_id.slots in
    let id = c.args.seat.now.id in
    let me = c.args.seat.now.me in
    let p = r.0 in
    let count = c.args.given.count in
    let slot = c.args.given.slot in
    let law : (kind : RecordKind) → MayGiveName t p r.1 (ahead kind p.memory count) (name_numbered kind slot) → next_of kind r.1 ≡ dealt_of kind p.memory → Allows (TableLasts allows t site.planting) slots id me c.args.at (λ n. n) (λ n w. GoesOnWith allows (past_names kind p.number.0 (dealt_of kind p.memory) count) (memory_given kind p.memory count (name_numbered kind slot)) me.0 w.0 × (w.1 ≡ me.1)) = λ kind. elim kind as (λ (kind : RecordKind). MayGiveName t p r.1 (ahead kind p.memory count) (name_numbered kind slot) → next_of kind r.1 ≡ dealt_of kind p.memory → Allows (TableLasts allows t site.planting) slots id me c.args.at (λ n. n) (λ n w. GoesOnWith allows (past_names kind p.number.0 (dealt_of kind p.memory) count) (memory_given kind p.memory count (name_numbered kind slot)) me.0 w.0 × (w.1 ≡ me.1))) [
      | Node ↦ λ may all. c.names_last.ensures.nodes t site.planting slots id me p c.args.at count r.1 (name_numbered Node slot) r.2.alone may all
      | Scx ↦ λ may all. c.names_last.ensures.scx t site.planting slots id me p c.args.at count r.1 (name_numbered Scx slot) r.2.alone may all
    ] in
    let turns = r.2.table.0 in
    upkeep_allows allows site turns.turns turns.comes_back slots id me c.args.at c.args.at (λ n. n) (λ n w. GoesOnWith allows (past_names c.args.given.kind p.number.0 (dealt_of c.args.given.kind p.memory) count) (memory_given c.args.given.kind p.memory count (name_numbered c.args.given.kind slot)) me.0 w) (λ n w. LearnsPast allows c.args.given.kind slot count me.0 w) refl (λ n w x. (p, r.2.alone, x))
    (law c.args.given.kind (may_give allows t p r.1 c.args.given.kind slot count (passes_in c.args.words.now c.args.layout.now c.args.seat.now p r.2) r.4 r.6) r.5)

pub returns-clause-given : goal.returns-clause-given
returns-clause-given g c = let x = c.load_with.ensures.learnt in past_learnt g.S.Shape.allows (slots_in c.args.words.now) c.args.given.kind c.args.given.slot c.args.given.count c.args.seat.now.me.0 c.load_with.new.seat.me.0 x.0 x.1 x.2
