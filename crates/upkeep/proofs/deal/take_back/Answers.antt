use Rattle.std.proofs.Common.{◌≤◌, arith}
use Rattle.upkeep.specs.UpkeepBook.{slots_in}
use Rattle.upkeep.specs.UpkeepDeals.{HasDealt}
use Rattle.upkeep.proofs.UpkeepDealt.{dealt_not}
use Rattle.upkeep.proofs.UpkeepSteps.{seat_still}
use Rattle.upkeep.proofs.deal.take_back.Goals as goal

pub returns-in-None-clause-given : goal.returns-in-None-clause-given
returns-in-None-clause-given g c = let r = c.requires.pass in let own = c.args.own.now in let less : c.args.next ≤ own.dealt = (let n = c.requires.next in omega (arith, n)) in
    seat_still g.S.Shape.allows (HasDealt g.S.Shape.allows (slots_in c.args.words.now) own own c.args.next c.args.next) r.0 c.args.seat.now.me.0 r.3.alone (dealt_not g.S.Shape.allows (slots_in c.args.words.now) own c.args.next r.0 r.2 r.6 r.3.names less own.ends.0)
