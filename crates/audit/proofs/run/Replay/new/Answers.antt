use Rattle.std.proofs.Common.{rules}
use Rattle.audit.proofs.FirstLines.{after_start}
use Rattle.audit.proofs.MapLines.{map_start}
use Rattle.audit.proofs.run.Replay.new.Goals as goal

pub returns-clause-remembers : goal.returns-clause-remembers
returns-clause-remembers c =
    let script = c.args.judged.now.script in
    let begun = c.in_ok-vec.ensures.items_if_clones_equal (λ y p. search (rules, p)) in
    record {
      after = after_start _ _ _ _ _ c.in_ok-new.ensures.layout c.in_ok-new.ensures.start c.in_ok-clients.ensures.all c.in_ok-clients.ensures.clients;
      map = map_start script.layout script.limits.tries script.calls.items c.in_ok-vec.field-0.items c.in_ok-new-2.field-0 c.all_scx.result script.of_mode begun c.in_ok-new-2.ensures.none;
      remembered = c.in_ok-new.ensures.remembered _;
    }
