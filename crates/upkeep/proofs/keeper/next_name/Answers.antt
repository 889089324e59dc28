use Rattle.std.proofs.Common.{arith}
use Rattle.upkeep.specs.UpkeepBook.{slots_in}
use Rattle.upkeep.specs.UpkeepDeals.{HasDealt}
use Rattle.upkeep.proofs.UpkeepDeals.{rests_deal}
use Rattle.upkeep.proofs.UpkeepDealt.{dealt_not}
use Rattle.upkeep.proofs.UpkeepSteps.{seat_still}
use Rattle.upkeep.proofs.keeper.next_name.Goals as goal

pub returns-else-left-least-clause-given : goal.returns-else-left-least-clause-given
returns-else-left-least-clause-given g c =
    let r = c.requires.pass in
    let t = slots_in c.args.words.now in
    let own = c.args.own.now in
    let next = c.args.next in
    let dealt = c.requires.left in
    rests_deal g.S.Shape.allows (HasDealt g.S.Shape.allows t own own next next) c.args.seat.now.me.0 c.args.seat.now.me.0
    (seat_still g.S.Shape.allows (HasDealt g.S.Shape.allows t own own next next) r.0 c.args.seat.now.me.0 r.3.alone
    (dealt_not g.S.Shape.allows t own next r.0 r.2 r.6 r.3.names (omega (arith, dealt)) own.ends.0))
