use Rattle.std.proofs.Common.{◌∙◌, sym}
use Rattle.program.proofs.threaded.run_over.Goals as goal

pub returns-in-Err-clause-deserved : goal.returns-in-Err-clause-deserved
returns-in-Err-clause-deserved g c said tells one = (c.in-Err.fault, sym c.print.ensures ∙ one, c.in-Err.ensures.deserved said tells)

pub returns-in-Ok-clause-printed : goal.returns-in-Ok-clause-printed
returns-in-Ok-clause-printed g c said tells zero = c.in-Ok.ensures.printed said tells
