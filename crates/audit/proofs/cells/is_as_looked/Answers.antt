use Rattle.judge.specs.Histories.{seen_history}
use Rattle.audit.proofs.CellCallFacts.{as_looked}
use Rattle.audit.proofs.cells.is_as_looked.Goals as goal

pub returns-in-Some : goal.returns-in-Some
returns-in-Some c = λ k start linked x t. as_looked c.args.judge.now.layout k (seen_history c.args.judge.now) start linked c.args.memory.now x c.args.cell.0 c.in-Some.look c.in-Some.ensures (c.is_unchanged.ensures.last t) (c.is_unchanged.ensures.not_final t)
