use Rattle.audit.proofs.AfterLines.{clients_more}
use Rattle.audit.proofs.run.clients.Goals as goal

pub loop-number-preserved : goal.loop-number-preserved
loop-number-preserved c = clients_more _ _ c.loop-number.clients.items _ c.loop-number.number c.new.result c.loop-number.invariant.0 c.loop-number.invariant.1 (rw c.as_slice.ensures.value at c.new.ensures.at) c.new.ensures.new c.in_ok-push.ensures.items
