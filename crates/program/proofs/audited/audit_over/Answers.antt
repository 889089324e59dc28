use Rattle.std.proofs.Common.{◌∙◌, sym}
use Rattle.program.proofs.Audits.{row_refused}
use Rattle.program.proofs.audited.audit_over.Goals as goal

pub returns-in-Err-clause-deserved : goal.returns-in-Err-clause-deserved
returns-in-Err-clause-deserved g c bytes tells one = row_refused bytes c.in-Err.fault (c.in-Err.ensures.deserved bytes tells) (sym c.print.ensures ∙ one)
