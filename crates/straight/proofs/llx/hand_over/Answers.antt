use Rattle.prims.specs.Llx.Known.{LlxAnswers}
use Rattle.prims.specs.declared.llx.LlxAt.TheVariants.{Start}
use Rattle.straight.specs.StraightLlx.{llx_at}
use Rattle.straight.specs.Hands.{names}
use Rattle.straight.proofs.Hosts.{own, own_ends}
use Rattle.straight.proofs.StraightLlx.{llx_calls}
use Rattle.straight.proofs.llx.hand_over.Goals as goal

pub complete-requires-clause-stands : goal.complete-requires-clause-stands
complete-requires-clause-stands g c = let w = c.requires.waits in (own (llx_calls g.S.Shape.allows (names c.args.hand) c.args.hand.number) LlxAnswers w.0 w.1.0 w.1.1 (llx_at c.args.node Start), rw c.load.ensures w.2)

pub returns-clause-ends : goal.returns-clause-ends
returns-clause-ends g c = λ k fits x.
    let o = llx_calls g.S.Shape.allows (names c.args.hand) c.args.hand.number in
    (c.complete.new.machine, own_ends o LlxAnswers k fits.0 fits.1 (llx_at c.args.node Start) _ c.complete.new.machine c.complete.result (c.complete.ensures.ends (own o LlxAnswers k fits.0 fits.1 (llx_at c.args.node Start)) (rw c.load.ensures x)))
