use Rattle.std.proofs.Common.{[], codes, decimal, arith, rules}
use Rattle.report.proofs.Fields.{row_is}
use Rattle.report.proofs.LineRows.{idle_are}
use Rattle.report.proofs.read_line.idle_of.Goals as goal

pub returns-in_default-clause-none : goal.returns-in_default-clause-none
returns-in_default-clause-none c number client fits small is =
    let last = (idle_are c.args.fields (omega arith) number client is).six_is in search rules

pub returns-in_err-number_of-clause-none : goal.returns-in_err-number_of-clause-none
returns-in_err-number_of-clause-none c = rw c.from_residual.ensures (λ number client fits small is. c.in_err-number_of.ensures number fits (idle_are c.args.fields (omega arith) number client is).one_is)

pub returns-in_err-client_of-clause-none : goal.returns-in_err-client_of-clause-none
returns-in_err-client_of-clause-none c = rw c.from_residual-in_err-client_of.ensures (λ number client fits small is. c.in_err-client_of.ensures.none client small (idle_are c.args.fields (omega arith) number client is).two_is)

pub returns-clause-row : goal.returns-clause-row
returns-clause-row c = row_is c.args.fields (codes "step") (decimal c.in_ok-number_of.field-0) (decimal c.in_ok-client_of.field-0.0) (codes "idle") [] [] [] (omega arith)
    (search rules) c.in_ok-number_of.ensures c.in_ok-client_of.ensures.some (search rules) (search rules) (search rules) (search rules)
