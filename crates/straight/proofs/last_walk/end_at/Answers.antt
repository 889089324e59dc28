use Rattle.std.proofs.Common.{refl, sym, subst, arith}
use Rattle.histories.specs.Common.{LoadSettled, Settled, Key as KeyWord, Slot, node}
use Rattle.order.specs.declared.last_turns.LastTurns.{LastTurns}
use Rattle.template.specs.Common.{load, End}
use Rattle.template.specs.Walk.Places.{way_at}
use Rattle.template.specs.declared.walk.WalkAt.TheVariants.{More, Pair}
use Rattle.straight.specs.CallKinds.{calls}
use Rattle.straight.specs.StraightWalk.{Walker, WalkerIsTold, WalkerWaits}
use Rattle.straight.specs.Hands.{names}
use Rattle.straight.proofs.StraightWalk.{to_first}
use Rattle.straight.proofs.last_walk.end_at.Given.{Over}
use Rattle.straight.proofs.last_walk.end_at.Goals.{After-read-key}
use Rattle.straight.proofs.last_walk.end_at.Goals as goal

pub read-key-requires-clause-waits : goal.read-key-requires-clause-waits
read-key-requires-clause-waits g c = let r = c.requires.told in (
  r.0,
  way_at c.args.way (End c.args.side) c.args.trail (Pair c.args.head c.args.more c.args.slot),
  r.1,
  subst (λ (s : Slot). WalkerWaits r.0 c.args.seat.now.me.0.passes (way_at c.args.way (End c.args.side) c.args.trail (Pair c.args.head c.args.more s)) r.1 (load LoadSettled (node c.args.trail.node.0 (Settled (KeyWord s))))) (sym c.requires.slot)
      (to_first r.0 _ c.args.way (End c.args.side) c.args.trail r.1 c.args.head c.args.more r.2),
)

-- whichever call it is, it has got the key in this slot
told : (g : Over) (c : After-read-key g) (w : Walker (calls g.S.Shape g.M.Machine g.M.CallMachine.left_dealt (names c.args.hand) c.args.hand.number)) (turn : LastTurns)
    → WalkerIsTold w c.args.seat.now.me.0.passes (way_at c.args.way (End c.args.side) c.args.trail (More c.args.head)) turn c.args.more
    → WalkerIsTold w c.read-key.new.seat.me.0.passes (way_at c.args.way (End c.args.side) c.args.trail (Pair c.args.head c.args.more c.args.slot)) turn c.read-key.result
told g c w turn x = c.read-key.ensures.told w (way_at c.args.way (End c.args.side) c.args.trail (Pair c.args.head c.args.more c.args.slot)) turn
    (subst (λ (s : Slot). WalkerWaits w c.args.seat.now.me.0.passes (way_at c.args.way (End c.args.side) c.args.trail (Pair c.args.head c.args.more s)) turn (load LoadSettled (node c.args.trail.node.0 (Settled (KeyWord s))))) (sym c.requires.slot)
    (to_first w _ c.args.way (End c.args.side) c.args.trail turn c.args.head c.args.more x))

pub end_with-requires-clause-asked : goal.end_with-requires-clause-asked
end_with-requires-clause-asked g c = refl

pub end_with-requires-clause-told : goal.end_with-requires-clause-told
end_with-requires-clause-told g c = let r = c.requires.told in (r.0, r.1, told g (goal.at.end_with-requires-clause-told g c).After-read-key r.0 r.1 r.2)

pub returns-clause-steps : goal.returns-clause-steps
returns-clause-steps g c = let one = c.read-key.ensures.one in let two = c.end_with.ensures.steps in omega (arith, one, two)

pub returns-clause-finds : goal.returns-clause-finds
returns-clause-finds g c = λ w turn x. c.end_with.ensures.finds w turn (told g (goal.at.returns-clause-finds g c).After-read-key w turn x)
