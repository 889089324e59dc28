use Rattle.std.proofs.Common.{[], ◌++◌, codes, decimal, arith, rules}
use Rattle.report.proofs.Fields.{row_is}
use Rattle.report.proofs.LineRows.{entry_are}
use Rattle.report.proofs.read_line.entry_of.Goals as goal

pub returns-in_err-number_of-clause-none : goal.returns-in_err-number_of-clause-none
returns-in_err-number_of-clause-none c = rw c.from_residual.ensures (λ entry fits is. c.in_err-number_of.ensures entry.place fits.place (entry_are c.args.fields (omega arith) entry is).one_is)

pub returns-in_err-number_of-2-clause-none : goal.returns-in_err-number_of-2-clause-none
returns-in_err-number_of-2-clause-none c = rw c.from_residual-in_err-number_of-2.ensures (λ entry fits is. c.in_err-number_of-2.ensures entry.step fits.step (entry_are c.args.fields (omega arith) entry is).two_is)

pub returns-in_err-scx_of-clause-none : goal.returns-in_err-scx_of-clause-none
returns-in_err-scx_of-clause-none c = rw c.from_residual-in_err-scx_of.ensures (λ entry fits is. c.in_err-scx_of.ensures.none entry.scx.0 fits.scx (entry_are c.args.fields (omega arith) entry is).three_is)

pub returns-in_err-client_of-clause-none : goal.returns-in_err-client_of-clause-none
returns-in_err-client_of-clause-none c = rw c.from_residual-in_err-client_of.ensures (λ entry fits is. c.in_err-client_of.ensures.none entry.client.0 fits.client (entry_are c.args.fields (omega arith) entry is).four_is)

pub returns-in_err-number_of-3-clause-none : goal.returns-in_err-number_of-3-clause-none
returns-in_err-number_of-3-clause-none c = rw c.from_residual-in_err-number_of-3.ensures (λ entry fits is. c.in_err-number_of-3.ensures entry.call fits.call (entry_are c.args.fields (omega arith) entry is).five_is)

pub returns-clause-row : goal.returns-clause-row
returns-clause-row c = row_is c.args.fields (codes "log") (decimal c.in_ok-number_of.field-0) (decimal c.in_ok-number_of-2.field-0) (codes "s" ++ decimal c.in_ok-scx_of.field-0.0) (decimal c.in_ok-client_of.field-0.0) (decimal c.in_ok-number_of-3.field-0) [] (omega arith)
    (search rules) c.in_ok-number_of.ensures c.in_ok-number_of-2.ensures c.in_ok-scx_of.ensures.some c.in_ok-client_of.ensures.some c.in_ok-number_of-3.ensures (search rules)
