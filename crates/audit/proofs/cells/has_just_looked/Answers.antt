use Rattle.std.proofs.Common.{◌∙◌}
use Rattle.judge.specs.Histories.{seen_history}
use Rattle.audit.proofs.CellCallFacts.{just_looked}
use Rattle.audit.proofs.cells.has_just_looked.Goals as goal

pub returns-then-look-steps-clause-look : goal.returns-then-look-steps-clause-look
returns-then-look-steps-clause-look c = λ k start linked steps x t. just_looked c.args.steps.now.judge.layout k (seen_history c.args.steps.now.judge) start linked c.args.memory.now x c.args.cell.0 c.in-Some.look c.in-Some.ensures (c.if-look-steps.true ∙ steps.count)
