use Rattle.template.specs.Walk.Places.{way_at}
use Rattle.template.specs.declared.walk.WalkAt.TheVariants.{Pair, Value, High}
use Rattle.order.specs.declared.last_turns.LastTurns.{LastTurns}
use Rattle.straight.specs.StraightWalk.{Walker, WalkerIsTold}
use Rattle.straight.specs.CallKinds.{calls}
use Rattle.straight.specs.Hands.{names}
use Rattle.straight.proofs.StraightWalk.{to_value, to_high, finds_value}
use Rattle.straight.proofs.node.end_with.Given.{Over}
use Rattle.straight.proofs.node.end_with.Goals.{After-read-low}
use Rattle.straight.proofs.node.end_with.Goals as goal

-- whichever call it is, it has got the value
told_low : (g : Over) (c : After-read-low g) (w : Walker (calls g.S.Shape g.M.Machine g.M.CallMachine.left_dealt (names c.args.hand) c.args.hand.number)) (turn : LastTurns)
    → WalkerIsTold w c.args.seat.now.me.0.passes (way_at c.args.way c.args.goal c.args.trail (Pair c.args.head c.args.more c.args.slot)) turn c.args.key
    → WalkerIsTold w c.read-low.new.seat.me.0.passes (way_at c.args.way c.args.goal c.args.trail (Value c.args.head c.args.more c.args.slot c.args.key)) turn c.read-low.result
told_low g c w turn x = c.read-low.ensures.told w (way_at c.args.way c.args.goal c.args.trail (Value c.args.head c.args.more c.args.slot c.args.key)) turn (to_value w _ c.args.way c.args.goal c.args.trail turn c.args.head c.args.more c.args.slot c.args.key c.requires.asked x)

pub read-low-requires-clause-waits : goal.read-low-requires-clause-waits
read-low-requires-clause-waits g c = let r = c.requires.told in
    (r.0, way_at c.args.way c.args.goal c.args.trail (Value c.args.head c.args.more c.args.slot c.args.key), r.1, to_value r.0 _ c.args.way c.args.goal c.args.trail r.1 c.args.head c.args.more c.args.slot c.args.key c.requires.asked r.2)

pub read-high-requires-clause-waits : goal.read-high-requires-clause-waits
read-high-requires-clause-waits g c = let r = c.requires.told in
    (r.0, way_at c.args.way c.args.goal c.args.trail (High c.args.head c.args.more c.args.slot c.args.key c.read-low.result), r.1, to_high r.0 _ c.args.way c.args.goal c.args.trail r.1 c.args.head c.args.more c.args.slot c.args.key c.read-low.result (told_low g (goal.at.read-high-requires-clause-waits g c).After-read-low r.0 r.1 r.2))

pub returns-clause-finds : goal.returns-clause-finds
returns-clause-finds g c = λ w turn x. rw c.wide_value.ensures
    (finds_value w _ c.args.way c.args.goal c.args.trail turn c.args.head c.args.more c.args.slot c.args.key c.read-low.result c.read-high.result
    (c.read-high.ensures.told w (way_at c.args.way c.args.goal c.args.trail (High c.args.head c.args.more c.args.slot c.args.key c.read-low.result)) turn (to_high w _ c.args.way c.args.goal c.args.trail turn c.args.head c.args.more c.args.slot c.args.key c.read-low.result (told_low g (goal.at.returns-clause-finds g c).After-read-low w turn x))))
