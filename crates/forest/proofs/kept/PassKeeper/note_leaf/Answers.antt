use Rattle.std.proofs.Common.{◌∙◌, subst, sym}
use Rattle.slots.specs.Lasting.{Lasting}
use Rattle.tables.specs.Slotted.{in_turns}
use Rattle.upkeep.specs.UpkeepDeals.{DealsOn}
use Rattle.upkeep.specs.UpkeepKeeper.{IsSetNow}
use Rattle.forest.proofs.Rested.{set_kept, slots_kept}
use Rattle.upkeep.proofs.UpkeepDeals.{deals_not}
use Rattle.forest.proofs.kept.PassKeeper.note_leaf.Goals as goal

pub note_leaf-requires : goal.note_leaf-requires
note_leaf-requires g c =
    let shared = c.args.words.now.table.shared in
    let r = c.requires.pass in
    let is = c.is_of.ensures c.if-is_of.true in
    let set = set_kept g.S.Shape.allows shared.table_id shared.key c.args.layout.now c.args.self.now r.0 c.args.left.now r.1.table.0 (sym c.requires.turns ∙ is.0) is.1 r.2 in
    (r.0, r.4, r.1, set, r.3, r.5, r.6)

pub returns-then-is_of-clause-rests : goal.returns-then-is_of-clause-rests
returns-then-is_of-clause-rests g c =
    let shared = c.args.words.now.table.shared in
    let r = c.requires.pass in
    let is = c.is_of.ensures c.if-is_of.true in
    subst (λ (t : Lasting). DealsOn (IsSetNow g.S.Shape.allows t c.args.left.now c.note_leaf.new.self) c.args.seat.now.me.0 c.note_leaf.new.seat.me.0)
    (slots_kept shared.table_id shared.key c.args.layout.now c.args.self.now r.1.table.0 (sym c.requires.turns ∙ is.0) is.1) c.note_leaf.ensures.rests

pub returns-else-is_of-clause-rests : goal.returns-else-is_of-clause-rests
returns-else-is_of-clause-rests g c =
    let self = c.args.self.now in
    let r = c.requires.pass in
    deals_not (IsSetNow g.S.Shape.allows (in_turns self.layout self.turns) c.args.left.now self.keeper) r.0 c.args.seat.now.me.0 r.1.alone r.2
