use Rattle.audit.proofs.Fitting.{lawful_run}
use Rattle.audit.proofs.MapLines.{map_whole}
use Rattle.audit.proofs.run.Replay.finish.Goals as goal

pub returns : goal.returns
returns c = lawful_run c.args.self.now c.requires.remembers.after c.requires.all c.laws_hold.ensures c.in_ok-settled.ensures (map_whole _ _ _ c.args.self.now.record.now.script.of_mode _ _ _ c.requires.remembers.map c.requires.remembers.after.in_order)
