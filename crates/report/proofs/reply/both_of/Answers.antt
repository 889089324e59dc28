use Rattle.std.proofs.Common.{None, Some, decimal}
use Rattle.report.proofs.Cuts.{cut_there, number_has_no_space}
use Rattle.report.proofs.reply.both_of.Goals as goal

pub returns-in_err-first-clause-none : goal.returns-in_err-first-clause-none
returns-in_err-first-clause-none c = rw c.from_residual.ensures (λ first second fits small is.
    cut_there c.args.text.now (decimal first) (decimal second) None c.in_err-first.ensures.cases (number_has_no_space first fits) is)

pub returns-in_err-number_of-clause-none : goal.returns-in_err-number_of-clause-none
returns-in_err-number_of-clause-none c = rw c.from_residual-in_err-number_of.ensures (λ first second fits small is.
    c.in_err-number_of.ensures first fits
    (cut_there c.args.text.now (decimal first) (decimal second) (Some (c.in_ok-first.first, c.in_ok-first.second)) c.in_ok-first.ensures.cases (number_has_no_space first fits) is).0)

pub returns-in_err-number_of-2-clause-none : goal.returns-in_err-number_of-2-clause-none
returns-in_err-number_of-2-clause-none c = rw c.from_residual-in_err-number_of-2.ensures (λ first second fits small is.
    c.in_err-number_of-2.ensures second small
    (cut_there c.args.text.now (decimal first) (decimal second) (Some (c.in_ok-first.first, c.in_ok-first.second)) c.in_ok-first.ensures.cases (number_has_no_space first fits) is).1)
