use Rattle.std.proofs.Common.{map, subst, ◌∙◌, take_all}
use Rattle.arena.specs.declared.number.PassNo.{PassNo}
use Rattle.record.specs.LawfulRun.{IsLawfulRun}
use Rattle.player.specs.Player.{ScriptView}
use Rattle.player.proofs.Played.{reverse_map_more}
use Rattle.player.proofs.player.play.Goals as goal

pub loop-turn-preserved : goal.loop-turn-preserved
loop-turn-preserved c =
    let t = c.in_ok-step.ensures.turn in
    record {
      script = t.script ∙ c.loop-turn.invariant.script;
      turns = rw (t.turns, c.loop-turn.invariant.turns, reverse_map_more (λ (p : PassNo). p.0) c.args.turns.now c.loop-turn.turn-index (record { 0 = 0 }) c.loop-turn-test.true);
    }

pub returns-clause-lawful : goal.returns-clause-lawful
returns-clause-lawful c =
    let x = c.loop-turn.invariant in
    let asked = map (λ (p : PassNo). p.0) c.args.turns.now in
    subst (λ (s : ScriptView). IsLawfulRun s.layout s.limits.tries s.calls asked c.record.result.lines.items) x.script
    (c.record.ensures.lawful asked (rw (take_all c.loop-turn.turn-index c.args.turns.now c.loop-turn-test.false) at x.turns))
