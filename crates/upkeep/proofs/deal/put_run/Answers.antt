use Rattle.std.proofs.Common.{arith}
use Rattle.upkeep.specs.UpkeepBook.{slots_in}
use Rattle.upkeep.specs.UpkeepDeals.{HasDealt}
use Rattle.upkeep.proofs.UpkeepDealt.{deals_more, dealt_not, pass_dealt, still_same, within}
use Rattle.upkeep.proofs.UpkeepDeals.{rests_deal}
use Rattle.upkeep.proofs.UpkeepSteps.{seat_still}
use Rattle.upkeep.proofs.deal.put_run.Goals as goal

pub names_before-requires : goal.names_before-requires
names_before-requires g c = let free = c.requires.slot in within c.args.own.now.slots.items c.args.i free.0 free.1

pub put_more-requires-clause-inside : goal.put_more-requires-clause-inside
put_more-requires-clause-inside g c = let free = c.requires.slot in let less = within c.args.own.now.slots.items c.args.i free.0 free.1 in let e = c.put_first.ensures.still.count in omega (arith, less, e)

pub put_more-requires-clause-pass : goal.put_more-requires-clause-pass
put_more-requires-clause-pass g c = let r = c.requires.pass in let e = c.put_first.ensures in
    pass_dealt g.S.Shape.allows c.args.words.now c.args.layout.now c.args.seat.now c.put_first.new.seat c.args.own.now c.put_first.new.own c.args.own.now.dealt _ r.0 r.1 r.2 r.3 r.4 r.5 r.6 e.table e.still e.given

pub returns-in-Some-clause-given : goal.returns-in-Some-clause-given
returns-in-Some-clause-given g c = let allows = g.S.Shape.allows in let t = slots_in c.args.words.now in let old = c.args.own.now in let mid = c.put_first.new.own in let new = c.put_more.new.own in
    deals_more allows t old mid new old.dealt _ _ c.args.seat.now.me.0 c.put_first.new.seat.me.0 c.put_more.new.seat.me.0 c.put_first.ensures.still c.put_first.ensures.given (rests_deal allows _ c.put_first.new.seat.me.0 c.put_more.new.seat.me.0 c.put_more.ensures.given)

pub returns-in-None-clause-still : goal.returns-in-None-clause-still
returns-in-None-clause-still g c = still_same c.args.own.now

pub returns-in-None-clause-given : goal.returns-in-None-clause-given
returns-in-None-clause-given g c = let r = c.requires.pass in let own = c.args.own.now in let allows = g.S.Shape.allows in let t = slots_in c.args.words.now in
    rests_deal allows (HasDealt allows t own own own.dealt own.dealt) c.args.seat.now.me.0 c.args.seat.now.me.0 (seat_still allows (HasDealt allows t own own own.dealt own.dealt) r.0 c.args.seat.now.me.0 r.3.alone (dealt_not allows t own own.dealt r.0 r.2 r.6 r.3.names (omega arith) own.ends.0))
