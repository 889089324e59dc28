use Rattle.edits.proofs.Taking.{node_taken}
use Rattle.edits.proofs.update.UpdateRun.take.Goals as goal

pub returns-in-Some-clause-end : goal.returns-in-Some-clause-end
returns-in-Some-clause-end g c =
    let taken = rw c.in-Some.is at c.fresh.ensures.after_taking in
    node_taken c.args.self.now.share c.fresh.new.self taken.1 taken.2
