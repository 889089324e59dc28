use Rattle.std.proofs.Common.{◌≡◌, Some, None, false, ◌∷◌, sym, subst, rules}
use Rattle.record.specs.declared.record.Line.{Line}
use Rattle.record.specs.declared.record.Line.TheVariants.{Log}
use Rattle.audit.specs.declared.run.Replay.{Replay}
use Rattle.audit.specs.After.{IsSoFar, layout_of, tries_of, calls_of, lines_of}
use Rattle.audit.specs.Trees.{IsMapSoFar}
use Rattle.audit.proofs.Fitting.{after_log}
use Rattle.audit.proofs.MapLines.{map_log}
use Rattle.audit.specs.Remembered.{AreRemembered}
use Rattle.audit.proofs.Remembering.{log_remembered}
use Rattle.audit.proofs.run.Replay.entry.Goals as goal

pub returns-clause-remembers : goal.returns-clause-remembers
returns-clause-remembers c =
    let run = c.args.self.now in
    let line : Line = Log c.args.entry.now in
    let owed : run.owed ≡ Some c.args.entry.now = search rules in
    let logged = after_log _ _ _ _ _ _ _ _ _ _ _ _ _ c.requires.after c.args.entry.now false owed c.in_ok-require.ensures in
    let kept = map_log _ _ _ run.record.now.script.of_mode _ _ _ c.requires.map c.change.new.self.places c.args.entry.now logged.in_order c.in_ok-change.ensures.change in
    record {
      after = subst (λ (r : Replay). IsSoFar (layout_of r) (tries_of r) (calls_of r) r.steps.judge r.clients.items r.turn c.args.entry.now.place r.last None false false false (line ∷ lines_of run)) (sym c.in_ok-change.ensures.rest) logged;
      map = subst (λ (r : Replay). IsMapSoFar (layout_of r) (calls_of r) r.edits.items c.change.new.self.places (line ∷ lines_of run)) (sym c.in_ok-change.ensures.rest) kept;
      remembered = subst (λ (r : Replay). AreRemembered (layout_of r) (calls_of r) (line ∷ lines_of run) r.steps) (sym c.in_ok-change.ensures.rest) (log_remembered (layout_of run) (calls_of run) (lines_of run) run.steps c.args.entry.now c.requires.remembered);
    }
