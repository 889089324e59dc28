use Rattle.straight.proofs.StraightLlx.{answers, begins_look, hands_over, looker}
use Rattle.straight.proofs.llx.call.Goals as goal
use Rattle.straight.specs.Hands.{names}

pub look-requires-clause-waits : goal.look-requires-clause-waits
look-requires-clause-waits g c = let r = c.requires.begins in (looker g.S.Shape.allows (names c.args.hand) c.args.hand.number r.0 r.1.0 r.1.1 c.args.node, begins_look g.S.Shape.allows (names c.args.hand) c.args.hand.number r.0 r.1.0 r.1.1 c.args.node _ r.2)

pub returns-in-Ok-clause-ends : goal.returns-in-Ok-clause-ends
returns-in-Ok-clause-ends g c = λ k fits x. answers g.S.Shape.allows (names c.args.hand) c.args.hand.number k fits.0 fits.1 c.args.node _ c.in-Ok.snap
    (c.in-Ok.ensures.snaps (looker g.S.Shape.allows (names c.args.hand) c.args.hand.number k fits.0 fits.1 c.args.node) (begins_look g.S.Shape.allows (names c.args.hand) c.args.hand.number k fits.0 fits.1 c.args.node _ x))

pub hand_over-requires-clause-waits : goal.hand_over-requires-clause-waits
hand_over-requires-clause-waits g c = let r = c.requires.begins in (
  r.0,
  r.1,
  hands_over g.S.Shape.allows (names c.args.hand) c.args.hand.number r.0 r.1.0 r.1.1 c.args.node _ c.in-Err.marked c.in-Err.scx
      (c.in-Err.ensures.waits (looker g.S.Shape.allows (names c.args.hand) c.args.hand.number r.0 r.1.0 r.1.1 c.args.node) (begins_look g.S.Shape.allows (names c.args.hand) c.args.hand.number r.0 r.1.0 r.1.1 c.args.node _ r.2)),
)

pub returns-in-Err-clause-ends : goal.returns-in-Err-clause-ends
returns-in-Err-clause-ends g c = λ k fits x. c.hand_over.ensures.ends k fits (hands_over g.S.Shape.allows (names c.args.hand) c.args.hand.number k fits.0 fits.1 c.args.node _ c.in-Err.marked c.in-Err.scx
    (c.in-Err.ensures.waits (looker g.S.Shape.allows (names c.args.hand) c.args.hand.number k fits.0 fits.1 c.args.node) (begins_look g.S.Shape.allows (names c.args.hand) c.args.hand.number k fits.0 fits.1 c.args.node _ x)))
