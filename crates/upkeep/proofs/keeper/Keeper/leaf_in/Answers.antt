use Rattle.std.proofs.Common.{Some, refl, ◌∙◌}
use Rattle.upkeep.specs.declared.book.OwnSlot.{OwnSlot}
use Rattle.upkeep.proofs.UpkeepSteps.{seat_still}
use Rattle.upkeep.proofs.keeper.Keeper.leaf_in.Goals as goal

pub read_leaf-requires : goal.read_leaf-requires
read_leaf-requires g c =
    let r = c.requires in
    (r.0, r.1, r.2, r.3 ∙ (λ i. let z : OwnSlot = record { name = c.args.known.name; known = c.in-Used.is i } in Some z), c.if-name-self.true)

pub returns-in_default-clause-read : goal.returns-in_default-clause-read
returns-in_default-clause-read g c = let r = c.requires in seat_still g.S.Shape.allows _ r.0 c.args.seat.now.me.0 r.1.alone record { same = refl; leaf = tt }

pub returns-in_default-2-clause-read : goal.returns-in_default-2-clause-read
returns-in_default-2-clause-read g c = let r = c.requires in seat_still g.S.Shape.allows _ r.0 c.args.seat.now.me.0 r.1.alone record { same = refl; leaf = tt }
