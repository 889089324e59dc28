use Rattle.std.proofs.Common.{Some, refl, sym, subst}
use Rattle.histories.specs.Common.{Layout}
use Rattle.upkeep.specs.UpkeepBook.{slots_in}
use Rattle.upkeep.specs.UpkeepKeeper.{HasTakenRest}
use Rattle.upkeep.specs.UpkeepPeriod.{BeginsPeriod}
use Rattle.upkeep.proofs.UpkeepKeeper.{begun, loses_nothing, not_begun, seat_of}
use Rattle.upkeep.proofs.UpkeepLooks.{table_in}
use Rattle.upkeep.proofs.UpkeepSteps.{seat_still}
use Rattle.upkeep.proofs.keeper.Keeper.begin.Goals as goal

pub returns-then-is_short-clause-rests : goal.returns-then-is_short-clause-rests
returns-then-is_short-clause-rests g c =
    let r = c.requires in
    let allows = g.S.Shape.allows in
    let t = slots_in c.args.words.now in
    let old = c.args.self.now in
    let x = c.begin.ensures.begins in
    seat_of allows (BeginsPeriod c.args.layout.now.passes c.begin.result) _ c.args.seat.now.me.0 c.begin.new.seat.me.0 r.0 r.1.alone x
    (λ goes begins. begun allows t r.0 x.later goes r.3.since old record old { period = Some c.begin.result } c.begin.result refl refl refl refl refl r.5 record { slots = r.3.slots; there = r.4 }
    (subst (λ (l : Layout). BeginsPeriod l.passes c.begin.result r.0 x.later) (sym (table_in c.args.words.now c.args.layout.now c.args.seat.now r.0 r.1)) begins))

pub returns-then-is_short-clause-lost : goal.returns-then-is_short-clause-lost
returns-then-is_short-clause-lost g c = let old = c.args.self.now in loses_nothing old record old { period = Some c.begin.result } refl refl

pub returns-else-is_none-clause-rests : goal.returns-else-is_none-clause-rests
returns-else-is_none-clause-rests g c =
    let r = c.requires in
    let t = slots_in c.args.words.now in
    let old = c.args.self.now in
    seat_still g.S.Shape.allows (HasTakenRest t old) r.0 c.args.seat.now.me.0 r.1.alone (not_begun t r.0 old r.3 r.4 r.5)

pub returns-else-is_none-clause-lost : goal.returns-else-is_none-clause-lost
returns-else-is_none-clause-lost g c = let old = c.args.self.now in loses_nothing old old refl refl
