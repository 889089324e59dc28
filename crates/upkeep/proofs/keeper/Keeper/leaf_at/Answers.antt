use Rattle.std.proofs.Common.{◌<◌, arith, length, refl}
use Rattle.upkeep.proofs.UpkeepSteps.{seat_still}
use Rattle.upkeep.proofs.UpkeepTurns.{read_at}
use Rattle.upkeep.proofs.keeper.Keeper.leaf_at.Goals as goal

pub returns-then-index-len-clause-read : goal.returns-then-index-len-clause-read
returns-then-index-len-clause-read g c = let r = c.requires in seat_still g.S.Shape.allows _ r.0 c.args.seat.now.me.0 r.1.alone record { same = refl; leaf = tt }

pub leaf_in-requires : goal.leaf_in-requires
leaf_in-requires g c =
    let r = c.requires in
    let slots = c.args.self.now.nodes.slots in
    let len = slots.ok.0 in
    let inside : c.args.index < length slots.items = omega (arith, c.if-index-len.false, c.len.ensures, len) in
    (r.0, r.1, r.2, read_at slots.items c.args.index c.index.result.now inside c.index.ensures)
