use Rattle.std.proofs.Common.{◌≡◌, true, sym, arith}
use Rattle.template.specs.Walk.Places.{way_at}
use Rattle.template.specs.declared.walk.WalkAt.TheVariants.{More}
use Rattle.order.specs.declared.last_turns.LastTurns.{LastTurns}
use Rattle.straight.specs.CallKinds.{calls}
use Rattle.straight.specs.StraightWalk.{Walker, WalkerIsTold}
use Rattle.straight.specs.Hands.{names}
use Rattle.straight.proofs.StraightWalk.{to_more, finds_none}
use Rattle.straight.proofs.walk.end.Given.{Over}
use Rattle.straight.proofs.walk.end.Goals.{After-of-head, After-read-more}
use Rattle.straight.proofs.walk.end.Goals as goal

leaf : (g : Over) (c : After-of-head g) → c.of-head.result.leaf ≡ true
leaf g c = rw c.of-head.ensures c.requires.leaf

-- whichever call it is, it has got the count
told : (g : Over) (c : After-read-more g) (w : Walker (calls g.S.Shape g.M.Machine g.M.CallMachine.left_dealt (names c.args.hand) c.args.hand.number)) (turn : LastTurns)
    → WalkerIsTold w c.args.seat.now.me.0.passes (way_at c.args.way c.args.goal c.args.trail c.args.at) turn c.args.word
    → WalkerIsTold w c.read-more.new.seat.me.0.passes (way_at c.args.way c.args.goal c.args.trail (More c.of-head.result)) turn c.read-more.result
told g c w turn x = c.read-more.ensures.told w (way_at c.args.way c.args.goal c.args.trail (More c.of-head.result)) turn (to_more w _ c.args.way c.args.goal c.args.trail turn c.args.at c.args.word c.of-head.result c.requires.stands.place (sym c.of-head.ensures) (leaf g (goal.at.read-more-requires-clause-waits g c.before).After-of-head) c.if-head-eq0.true x)

pub read-more-requires-clause-waits : goal.read-more-requires-clause-waits
read-more-requires-clause-waits g c = let r = c.requires.told in
    (r.0, way_at c.args.way c.args.goal c.args.trail (More c.of-head.result), r.1, to_more r.0 _ c.args.way c.args.goal c.args.trail r.1 c.args.at c.args.word c.of-head.result c.requires.stands.place (sym c.of-head.ensures) (leaf g (goal.at.read-more-requires-clause-waits g c).After-of-head) c.if-head-eq0.true r.2)

pub end_from-requires-clause-told : goal.end_from-requires-clause-told
end_from-requires-clause-told g c = let r = c.requires.told in (r.0, r.1, told g (goal.at.end_from-requires-clause-told g c).After-read-more r.0 r.1 r.2)

pub returns-then-head-eq0-clause-finds : goal.returns-then-head-eq0-clause-finds
returns-then-head-eq0-clause-finds g c = λ w turn x. c.end_from.ensures.finds w turn (told g (goal.at.returns-then-head-eq0-clause-finds g c).After-read-more w turn x)

pub returns-then-head-eq0-clause-steps : goal.returns-then-head-eq0-clause-steps
returns-then-head-eq0-clause-steps g c = let one = c.read-more.ensures.one in let more = c.end_from.ensures.steps in omega (arith, one, more)

pub returns-clause-finds : goal.returns-clause-finds
returns-clause-finds g c = λ w turn x. rw c.asked_key.ensures (finds_none w _ c.args.way c.args.goal c.args.trail turn c.args.at c.args.word c.of-head.result c.requires.stands.place (sym c.of-head.ensures) (leaf g (goal.at.returns-clause-finds g c).After-of-head) c.if-head-eq0.false x)

pub end_from-requires-clause-first : goal.end_from-requires-clause-first
end_from-requires-clause-first g c = sym (c.requires.first c.read-more.result)
