use Rattle.std.proofs.Common.{refl}
use Rattle.histories.specs.Common.{LoadSettled, Settled, Head as HeadWord, head_of, node}
use Rattle.straight.specs.StraightWalk.{Walker, WalkerGoesDown, WalkerIsTold, WalkerWaits}
use Rattle.straight.specs.CallKinds.{calls}
use Rattle.straight.specs.Hands.{names}
use Rattle.prims.specs.Llx.Known.{load}
use Rattle.template.specs.Walk.Places.{way_at, trail_below}
use Rattle.template.specs.declared.walk.WalkAt.TheVariants.{Child, Head}
use Rattle.straight.proofs.Inside.{waits_within}
use Rattle.straight.proofs.StraightWalk.{to_head, fits}
use Rattle.straight.proofs.node.descend.Given.{Over}
use Rattle.straight.proofs.node.descend.Goals.{After-read-child}
use Rattle.straight.proofs.node.descend.Goals as goal

-- whichever call it is, it has got the child
told : (g : Over) (c : After-read-child g) (w : Walker (calls g.S.Shape g.M.Machine g.M.CallMachine.left_dealt (names c.args.hand) c.args.hand.number))
    → WalkerGoesDown w c.args.seat.now.me.0.passes c.args.way c.args.goal c.args.place.trail (head_of c.args.word).level c.args.side c.args.place.turns
    → WalkerIsTold w c.read-child.new.seat.me.0.passes (way_at c.args.way c.args.goal c.args.place.trail (Child (head_of c.args.word).level c.args.side)) c.args.place.turns c.read-child.result
told g c w x = c.read-child.ensures.told w (way_at c.args.way c.args.goal c.args.place.trail (Child (head_of c.args.word).level c.args.side)) c.args.place.turns x

-- so that the head of the child is what the walk waits for, wherever its words begin
waits_below : (g : Over) (c : After-read-child g) (w : Walker (calls g.S.Shape g.M.Machine g.M.CallMachine.left_dealt (names c.args.hand) c.args.hand.number))
    → WalkerGoesDown w c.args.seat.now.me.0.passes c.args.way c.args.goal c.args.place.trail (head_of c.args.word).level c.args.side c.args.place.turns
    → WalkerWaits w c.read-child.new.seat.me.0.passes (way_at c.args.way c.args.goal (trail_below c.args.place.trail c.args.side c.read-child.result) (Head (head_of c.args.word).level)) c.args.place.turns (load LoadSettled (node c.read-child.result (Settled HeadWord)))
waits_below g c w x = to_head w _ c.args.way c.args.goal c.args.place.trail c.args.place.turns (head_of c.args.word).level c.args.side c.read-child.result (told g c w x)

pub read-child-requires-clause-waits : goal.read-child-requires-clause-waits
read-child-requires-clause-waits g c = let r = c.requires.waits in (r.0, way_at c.args.way c.args.goal c.args.place.trail (Child (head_of c.args.word).level c.args.side), c.args.place.turns, r.1)

pub start_for-start-requires-clause-node : goal.start_for-start-requires-clause-node
start_for-start-requires-clause-node g c = let r = c.requires.waits in waits_within r.0 _ g.met.M.Machine.lawful _ _ (waits_below g (goal.at.start_for-start-requires-clause-node g c).After-read-child r.0 r.1)

pub returns-clause-below : goal.returns-clause-below
returns-clause-below g c = record {
  at = rw c.of-head.ensures refl;
  deep = let r = c.requires.waits in fits r.0 _ (way_at c.args.way c.args.goal c.args.place.trail (Child (head_of c.args.word).level c.args.side)) c.args.place.turns c.read-child.result (told g (goal.at.returns-clause-below g c).After-read-child r.0 r.1);
  begins = c.start_for-start.ensures;
}

pub returns-clause-down : goal.returns-clause-down
returns-clause-down g c = λ w x. rw c.of-head.ensures (waits_below g (goal.at.returns-clause-down g c).After-read-child w x)
