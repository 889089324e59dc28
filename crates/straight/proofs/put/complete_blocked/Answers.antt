use Rattle.prims.specs.Put.Known.{PutAnswers}
use Rattle.straight.proofs.Hosts.{own, own_ends}
use Rattle.straight.proofs.StraightPut.{put_calls, blocked_as}
use Rattle.straight.proofs.put.complete_blocked.Goals as goal
use Rattle.straight.specs.Hands.{names}

pub complete-requires-clause-stands : goal.complete-requires-clause-stands
complete-requires-clause-stands g c = let w = c.requires.waits in (own (put_calls g.S.Shape.allows (names c.args.hand) c.args.hand.number) PutAnswers w.0 w.2.0 w.2.1 w.1, blocked_as g.S.Shape.allows w.0 _ w.1 _ _ c.machine-run.ensures w.3)

pub returns-clause-ends : goal.returns-clause-ends
returns-clause-ends g c = λ k first fits x.
    let o = put_calls g.S.Shape.allows (names c.args.hand) c.args.hand.number in
    (c.complete.new.machine, own_ends o PutAnswers k fits.0 fits.1 first _ c.complete.new.machine c.complete.result (c.complete.ensures.ends (own o PutAnswers k fits.0 fits.1 first) (blocked_as g.S.Shape.allows k _ first _ _ c.machine-run.ensures x)))
