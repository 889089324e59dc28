use Rattle.std.proofs.Common.{refl}
use Rattle.upkeep.specs.UpkeepBook.{slots_in}
use Rattle.upkeep.specs.UpkeepKeeper.{IsSetNow}
use Rattle.upkeep.specs.UpkeepLeaves.{HasReadLeafAt}
use Rattle.upkeep.proofs.UpkeepDeals.{deals_not, rests_deal}
use Rattle.upkeep.proofs.UpkeepKeeper.{loses_nothing}
use Rattle.upkeep.proofs.UpkeepLeaves.{keeper_as, leaf_read, set_again}
use Rattle.upkeep.proofs.UpkeepSet.{own_pass}
use Rattle.upkeep.proofs.UpkeepTurn.{known_as}
use Rattle.upkeep.proofs.keeper.Keeper.next_leaf.Goals as goal

pub returns-then-not-looks_up-clause-rests : goal.returns-then-not-looks_up-clause-rests
returns-then-not-looks_up-clause-rests g c =
    let r = c.requires in
    deals_not (IsSetNow g.S.Shape.allows (slots_in c.args.words.now) c.args.left.now c.args.self.now) r.0 c.args.seat.now.me.0 r.1.alone r.2

pub leaf_at-requires : goal.leaf_at-requires
leaf_at-requires g c =
    let r = c.requires in
    let old = c.args.self.now in
    (r.0, r.1, keeper_as (slots_in c.args.words.now) r.0 old (record old { next_look = c.behind-self.result }) refl refl refl refl refl r.2.kept)

pub returns-clause-rests : goal.returns-clause-rests
returns-clause-rests g c =
    let allows = g.S.Shape.allows in
    let t = slots_in c.args.words.now in
    let r = c.requires in
    let left = c.args.left.now in
    let old = c.args.self.now in
    let new = record old { next_look = c.behind-self.result } in
    let u = c.args.seat.now.me.0 in
    let v = c.leaf_at.new.seat.me.0 in
    let two = IsSetNow allows t left new in
    rests_deal allows two u v (known_as allows (HasReadLeafAt c.leaf_at.result) two u v r.0 r.1.alone
    (λ q goes x. set_again c.unborn_stays_out.ensures.none allows t old new left r.0 q goes (own_pass c.args.words.now c.args.layout.now c.args.seat.now r.0 r.1) r.2 r.3
    (leaf_read allows t r.0 q goes x.same old new refl refl refl refl refl r.2.has.there r.2.kept)
    (loses_nothing old new refl refl))
    c.leaf_at.ensures.read)
