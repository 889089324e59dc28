use Rattle.upkeep.specs.UpkeepBook.{slots_in}
use Rattle.upkeep.proofs.UpkeepLooks.{at_now, own_now}
use Rattle.upkeep.proofs.UpkeepSteps.{rests_on}
use Rattle.upkeep.proofs.UpkeepTurn.{empty_now, freed_on, from_pass}
use Rattle.upkeep.proofs.turn.empty.Goals as goal

pub let_go-requires : goal.let_go-requires
let_go-requires g c = let r = c.requires in (r.0, r.1, r.2, r.4.held, r.5, r.6)

pub clean-requires : goal.clean-requires
clean-requires g c =
    let r = c.requires in
    let allows = g.S.Shape.allows in
    let words = c.args.words.now in
    let lay = c.args.layout.now in
    let x = c.let_go.ensures.looked in
    let on = from_pass allows _ c.args.seat.now.me.0 c.let_go.new.seat.me.0 r.0 r.1.alone x in (
      x.later,
      at_now words lay allows _ c.args.seat.now c.let_go.new.seat r.0 r.1 c.let_go.ensures.table x,
      own_now words lay allows _ c.args.seat.now c.let_go.new.seat r.0 r.1 x _ r.3,
      (empty_now (slots_in words) c.args.kind c.args.slot allows r.0 x.later on.0 c.args.name r.4 on.1).0,
    )

pub returns-clause-freed : goal.returns-clause-freed
returns-clause-freed g c =
    let r = c.requires in
    let allows = g.S.Shape.allows in
    let t = slots_in c.args.words.now in
    let x = c.let_go.ensures.looked in
    let on = from_pass allows _ c.args.seat.now.me.0 c.let_go.new.seat.me.0 r.0 r.1.alone x in
    let y = c.clean.ensures.cleaned in
    let last = from_pass allows _ c.let_go.new.seat.me.0 c.clean.new.seat.me.0 x.later x.is y in
    record {
      pass = r.0;
      later = y.later;
      was = r.1.alone;
      is = y.is;
      goes_on = rests_on allows r.0 x.later y.later on.0 last.0;
      holds = freed_on t c.args.kind c.args.slot r.0 x.later y.later (empty_now t c.args.kind c.args.slot allows r.0 x.later on.0 c.args.name r.4 on.1).1 last.1;
    }
