use Rattle.std.proofs.Common.{◌≡◌, true, false, sym, ◌∙◌, arith}
use Rattle.histories.specs.Common.{state, value}
use Rattle.prims.proofs.LlxTurns.{turn_helped, not_marked, committed_state, aborted_state}
use Rattle.prims.proofs.llx.LlxRun.help_on.Goals.{then-marked, else-marked}
use Rattle.prims.proofs.llx.LlxRun.help_on.Goals as goal

pub returns-after-marked-clause-turn : goal.returns-after-marked-clause-turn
returns-after-marked-clause-turn g c d h x met =
    turn_helped g.S.Shape.allows d h x.run c.args.self.now c.helped.new.self c.helped.result c.args.marked c.if-marked.helped c.args.help.scx x.opened x.since x.quiet met.stopped
    (λ t. elim c.if-marked.branch as (λ _. (c.args.marked ≡ true) × (value h (state c.args.help.scx.0) ≡ 1)) [
      | then-marked w ↦ (cc, committed_state d h c.in-Done.committed c.next.new.self c.args.help (c.in-Done.ensures.turn d h x.run x.ready) c.next.ensures.same (sym w.helped-is ∙ t))
      | else-marked w ↦ absurd (cc)
    ])
    (λ t. elim c.if-marked.branch as (λ _. c.args.marked ≡ false) [
      | then-marked w ↦
          let a = aborted_state d h c.in-Done.committed c.next.new.self c.args.help (c.in-Done.ensures.turn d h x.run x.ready) c.next.ensures.same (sym w.helped-is ∙ t) in
          not_marked g.S.Shape.allows d h x.run c.args.self.now.node.0 c.args.help.scx.0 c.args.marked met.stopped.met (λ z. omega arith) (λ z. omega arith)
      | else-marked w ↦ w.if-marked.false
    ])
    c.helped.ensures.turn

pub returns-in-Ask-clause-nearer : goal.returns-in-Ask-clause-nearer
returns-in-Ask-clause-nearer g c = let i = c.in-Ask.ensures.nearer 0 tt in omega (arith, i)
