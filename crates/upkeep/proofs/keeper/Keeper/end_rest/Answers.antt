use Rattle.std.proofs.Common.{arith, refl}
use Rattle.upkeep.specs.UpkeepBook.{slots_in}
use Rattle.upkeep.specs.UpkeepKeeper.{HasTakenRest, IsSetNow, IsStillSet}
use Rattle.upkeep.proofs.UpkeepDeals.{deals_as, deals_on, rests_deal}
use Rattle.upkeep.proofs.UpkeepKeeper.{loses_nothing, loses_on, lost_of, lost_on}
use Rattle.upkeep.proofs.UpkeepLeaves.{between_calls, books_as}
use Rattle.upkeep.proofs.UpkeepLooks.{at_now}
use Rattle.upkeep.proofs.UpkeepSet.{own_pass, set_rested}
use Rattle.upkeep.proofs.UpkeepStays.{map_then, stays_out}
use Rattle.upkeep.proofs.UpkeepTurn.{from_pass}
use Rattle.upkeep.proofs.keeper.Keeper.end_rest.Goals as goal

pub begin-requires : goal.begin-requires
begin-requires g c = let r = c.requires in (r.0, r.1, r.2, r.3.kept.books, r.3.has.there, r.3.kept.taken)

pub deal-requires : goal.deal-requires
deal-requires g c =
    let allows = g.S.Shape.allows in
    let words = c.args.words.now in
    let lay = c.args.layout.now in
    let t = slots_in words in
    let r = c.requires in
    let left = c.args.left.now in
    let x = c.begin.ensures.rests in
    let so = HasTakenRest t c.begin.new.self in
    let on = from_pass allows so c.args.seat.now.me.0 c.begin.new.seat.me.0 r.0 r.1.alone x in (
      x.later,
      at_now words lay allows so c.args.seat.now c.begin.new.seat r.0 r.1 c.begin.ensures.table x,
      set_rested allows t c.begin.new.self r.0 x.later left on.0 (own_pass words lay c.args.seat.now r.0 r.1) r.3.has.run (between_calls allows t r.0 left c.args.self.now r.3) r.3.ends on.1,
    )

pub returns-clause-rests : goal.returns-clause-rests
returns-clause-rests g c =
    let allows = g.S.Shape.allows in
    let words = c.args.words.now in
    let lay = c.args.layout.now in
    let t = slots_in words in
    let r = c.requires in
    let p = r.0 in
    let old = c.args.self.now in
    let mid = c.begin.new.self in
    let dealt = c.deal.new.self in
    let new = record dealt { taken = 0 } in
    let left = c.deal.new.left in
    let u = c.args.seat.now.me.0 in
    let v = c.begin.new.seat.me.0 in
    let w = c.deal.new.seat.me.0 in
    let one = HasTakenRest t mid in
    let two = IsStillSet allows t left dealt in
    deals_as two (IsSetNow allows t left new) u w p r.1.alone
    (λ q goes set.
    let out = stays_out c.unborn_stays_out.ensures.none p q goes (own_pass words lay c.args.seat.now p r.1) r.3.has.over r.3.has.run.lawful (map_then allows p.layout q goes.layout r.4 set.has.run) in record {
      kept = record {
        books = books_as t q dealt new refl refl refl refl set.kept;
        lost = lost_of q q.known old new (loses_on old dealt new (loses_on old mid dealt c.begin.ensures.lost c.deal.ensures.lost) (loses_nothing dealt new refl refl)) (lost_on p q goes.layout goes.number out old r.3.kept.lost);
        taken = λ n own less. absurd (omega (arith, less));
      };
      has = set.has;
      ends = set.ends;
    })
    (deals_on one two two u v w (λ a b d x y. y) (rests_deal allows one u v c.begin.ensures.rests) c.deal.ensures.set)
