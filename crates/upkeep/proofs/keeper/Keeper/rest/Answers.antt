use Rattle.upkeep.specs.UpkeepBook.{slots_in}
use Rattle.upkeep.specs.UpkeepKeeper.{HasTakenRest, IsSetNow}
use Rattle.upkeep.proofs.UpkeepDeals.{rests_deal}
use Rattle.upkeep.proofs.UpkeepLeaves.{between_calls, set_again}
use Rattle.upkeep.proofs.UpkeepSet.{own_pass}
use Rattle.upkeep.proofs.UpkeepTurn.{known_as}
use Rattle.upkeep.proofs.keeper.Keeper.rest.Goals as goal

pub take_rest-requires : goal.take_rest-requires
take_rest-requires g c = let r = c.requires in (r.0, r.1, r.2, r.3.has.run, between_calls g.S.Shape.allows (slots_in c.args.words.now) r.0 c.args.left.now c.args.self.now r.3, r.3.kept, r.4)

pub returns-clause-rests : goal.returns-clause-rests
returns-clause-rests g c =
    let allows = g.S.Shape.allows in
    let t = slots_in c.args.words.now in
    let r = c.requires in
    let left = c.args.left.now in
    let new = c.take_rest.new.self in
    let u = c.args.seat.now.me.0 in
    let v = c.take_rest.new.seat.me.0 in
    let one = HasTakenRest t new in
    let two = IsSetNow allows t left new in
    rests_deal allows two u v (known_as allows one two u v r.0 r.1.alone
    (λ q goes x. set_again c.unborn_stays_out.ensures.none allows t c.args.self.now new left r.0 q goes (own_pass c.args.words.now c.args.layout.now c.args.seat.now r.0 r.1) r.3 r.4 x c.take_rest.ensures.lost)
    c.take_rest.ensures.rests)
