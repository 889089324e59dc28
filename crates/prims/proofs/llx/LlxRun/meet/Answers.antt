use Rattle.std.proofs.Common.{◌≡◌, true, false, eqb, eqb-true, eq-eqb, sym, ◌∙◌}
use Rattle.histories.specs.Common.{state, value}
use Rattle.prims.specs.Laws.InTheWay.{been_now}
use Rattle.prims.proofs.LlxTurns.{turn_helped, not_marked, new_help}
use Rattle.prims.proofs.llx.LlxRun.meet.Goals.{then-marked, else-marked}
use Rattle.prims.proofs.llx.LlxRun.meet.Goals as goal

pub returns-then-state-eq-IN_PROGRESS-clause-turn : goal.returns-then-state-eq-IN_PROGRESS-clause-turn
returns-then-state-eq-IN_PROGRESS-clause-turn g c d h x =
    c.help_on.ensures.turn d h (new_help g.S.Shape.allows d h x.run c.args.self.now.node.0 c.args.scx c.new.result x.opened x.since x.quiet x.stopped.met.held (x.state ∙ c.if-state-eq-IN_PROGRESS.true) c.new.ensures.scx c.new.ensures.start)
    (rw c.new.ensures.scx record { stopped = x.stopped; running = been_now h d.start _ x.since record { unfinished = x.state ∙ c.if-state-eq-IN_PROGRESS.true; named = (c.args.self.now.node.0, x.stopped.met.held) } })

pub returns-after-marked-clause-turn : goal.returns-after-marked-clause-turn
returns-after-marked-clause-turn g c d h x =
    turn_helped g.S.Shape.allows d h x.run c.args.self.now c.helped.new.self c.helped.result c.args.marked c.if-marked.helped c.args.scx x.opened x.since x.quiet x.stopped
    (λ t. elim c.if-marked.branch as (λ _. (c.args.marked ≡ true) × (value h (state c.args.scx.0) ≡ 1)) [
      | then-marked w ↦ (cc, x.state ∙ eqb-true c.args.state 1 (sym w.helped-is ∙ t))
      | else-marked w ↦ absurd (cc)
    ])
    (λ t. elim c.if-marked.branch as (λ _. c.args.marked ≡ false) [
      | then-marked w ↦ not_marked g.S.Shape.allows d h x.run c.args.self.now.node.0 c.args.scx.0 c.args.marked x.stopped.met (λ z. c.if-state-eq-IN_PROGRESS.false (sym x.state ∙ z)) (λ z. let q : eqb c.args.state 1 ≡ true = eq-eqb c.args.state 1 (sym x.state ∙ z) in let r = sym w.helped-is ∙ t in cc)
      | else-marked w ↦ w.if-marked.false
    ])
    c.helped.ensures.turn
