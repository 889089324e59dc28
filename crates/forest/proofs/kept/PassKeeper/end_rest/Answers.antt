use Rattle.std.proofs.Common.{◌<◌, ◌≢◌, ◌∙◌, IfSome, subst, sym}
use Rattle.arena.specs.declared.number.PassNo.{PassNo}
use Rattle.histories.specs.Common.{Layout}
use Rattle.slots.specs.Lasting.{Lasting}
use Rattle.tables.specs.Slotted.{in_turns}
use Rattle.upkeep.specs.UpkeepBook.{slots_in}
use Rattle.upkeep.specs.UpkeepDeals.{DealsOn}
use Rattle.upkeep.specs.UpkeepKeeper.{IsSetNow}
use Rattle.forest.proofs.Rested.{set_kept, slots_kept}
use Rattle.tables.proofs.Slotted.{table_is}
use Rattle.upkeep.proofs.UpkeepDeals.{deals_not}
use Rattle.upkeep.proofs.UpkeepKeeper.{waits_for_other}
use Rattle.upkeep.proofs.UpkeepSet.{from_dealing}
use Rattle.forest.proofs.kept.PassKeeper.end_rest.Goals as goal

pub end_rest-requires : goal.end_rest-requires
end_rest-requires g c =
    let shared = c.args.words.now.table.shared in
    let r = c.requires.pass in
    let is = c.is_of.ensures c.if-not-is_of.false in
    (r.0, r.1, r.2, set_kept g.S.Shape.allows shared.table_id shared.key c.args.layout.now c.args.self.now r.0 c.args.left.now r.1.table.0 (sym c.requires.turns ∙ is.0) is.1 r.3, r.4)

pub returns-then-not-is_of-clause-rests : goal.returns-then-not-is_of-clause-rests
returns-then-not-is_of-clause-rests g c =
    let self = c.args.self.now in
    let r = c.requires.pass in
    deals_not (IsSetNow g.S.Shape.allows (in_turns self.layout self.turns) c.args.left.now self.keeper) r.0 c.args.seat.now.me.0 r.1.alone r.3

pub returns-clause-rests : goal.returns-clause-rests
returns-clause-rests g c =
    let shared = c.args.words.now.table.shared in
    let r = c.requires.pass in
    let is = c.is_of.ensures c.if-not-is_of.false in
    subst (λ (t : Lasting). DealsOn (IsSetNow g.S.Shape.allows t c.end_rest.new.left c.end_rest.new.self) c.args.seat.now.me.0 c.end_rest.new.seat.me.0)
    (slots_kept shared.table_id shared.key c.args.layout.now c.args.self.now r.1.table.0 (sym c.requires.turns ∙ is.0) is.1) c.end_rest.ensures.rests

pub returns-clause-waits : goal.returns-clause-waits
returns-clause-waits g c =
    let words = c.args.words.now in
    let shared = words.table.shared in
    let r = c.requires.pass in
    let d = c.end_rest.ensures.rests in
    let on = from_dealing (IsSetNow g.S.Shape.allows (slots_in words) c.end_rest.new.left c.end_rest.new.self) c.args.seat.now.me.0 c.end_rest.new.seat.me.0 r.0 r.1.alone d in
    let waits = waits_for_other (slots_in words) d.later c.end_rest.new.self on.1.kept c.waits_for.result c.waits_for.ensures in
    subst (λ (l : Layout). IfSome c.waits_for.result (λ other. (other.0 < l.passes) × (other.0 ≢ c.args.number.0))) (table_is shared.key.layout shared.key.turns ∙ r.1.table.0.layout)
    (subst (λ (n : PassNo). IfSome c.waits_for.result (λ other. (other.0 < (slots_in words).table.passes) × (other.0 ≢ n.0))) (on.0.number ∙ r.2) waits)
