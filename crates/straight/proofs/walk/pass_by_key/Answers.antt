use Rattle.std.proofs.Common.{refl, subst}
use Rattle.histories.specs.Common.{head_of}
use Rattle.order.specs.declared.last_turns.LastTurns.{LastTurns}
use Rattle.template.specs.Walk.Known.{EndsAt}
use Rattle.template.specs.Walk.Places.{way_at, way_from}
use Rattle.template.specs.declared.walk.WalkAt.TheVariants.{Key}
use Rattle.straight.specs.CallKinds.{calls}
use Rattle.straight.specs.StraightWalk.{Walker, WalkerIsTold}
use Rattle.straight.specs.Hands.{names}
use Rattle.straight.proofs.StraightWalk.{to_key, to_side, finds_fork}
use Rattle.straight.proofs.walk.pass_by_key.Given.{Over}
use Rattle.straight.proofs.walk.pass_by_key.Goals.{After-read-key}
use Rattle.straight.proofs.walk.pass_by_key.Goals as goal

pub read-key-requires-clause-waits : goal.read-key-requires-clause-waits
read-key-requires-clause-waits g c = let r = c.requires.told in
    (r.0, way_at c.args.way c.args.goal c.args.trail (Key (head_of c.args.word)), r.1, to_key r.0 _ c.args.way c.args.goal c.args.trail r.1 c.args.at c.args.word (head_of c.args.word) c.requires.stands.place refl c.requires.asks.fork c.requires.asks.asks r.2)

-- whichever call it is, it has got the key of the fork
told : (g : Over) (c : After-read-key g) (w : Walker (calls g.S.Shape g.M.Machine g.M.CallMachine.left_dealt (names c.args.hand) c.args.hand.number)) (turn : LastTurns)
    → WalkerIsTold w c.args.seat.now.me.0.passes (way_at c.args.way c.args.goal c.args.trail c.args.at) turn c.args.word
    → WalkerIsTold w c.read-key.new.seat.me.0.passes (way_at c.args.way c.args.goal c.args.trail (Key (head_of c.args.word))) turn c.read-key.result
told g c w turn x = c.read-key.ensures.told w (way_at c.args.way c.args.goal c.args.trail (Key (head_of c.args.word))) turn (to_key w _ c.args.way c.args.goal c.args.trail turn c.args.at c.args.word (head_of c.args.word) c.requires.stands.place refl c.requires.asks.fork c.requires.asks.asks x)

pub returns-then-ends_at-clause-finds : goal.returns-then-ends_at-clause-finds
returns-then-ends_at-clause-finds g c = λ w turn x. rw c.of-head.ensures (finds_fork w _ c.args.way c.args.goal c.args.trail turn (head_of c.args.word) c.read-key.result c.ends_at.ensures.small
    (subst (EndsAt (way_from c.args.way c.args.goal) c.read-key.result) c.if-ends_at.true c.ends_at.ensures.ends)
    (told g (goal.at.returns-then-ends_at-clause-finds g c).After-read-key w turn x))

pub returns-clause-down : goal.returns-clause-down
returns-clause-down g c = λ w turn x. to_side w _ c.args.way c.args.goal c.args.trail turn (head_of c.args.word) c.read-key.result c.side_of.result
    (subst (EndsAt (way_from c.args.way c.args.goal) c.read-key.result) c.if-ends_at.false c.ends_at.ensures.ends) c.side_of.ensures
    c.counts_below.result c.counts_below.ensures.yes
    (told g (goal.at.returns-clause-down g c).After-read-key w turn x)
