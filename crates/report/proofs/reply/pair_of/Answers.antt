use Rattle.std.proofs.Common.{None, Some, decimal}
use Rattle.report.proofs.Cuts.{cut_there, number_has_no_space}
use Rattle.report.proofs.reply.pair_of.Goals as goal

pub returns-in_err-key-clause-none : goal.returns-in_err-key-clause-none
returns-in_err-key-clause-none c = rw c.from_residual.ensures (λ pair fits is.
    cut_there c.args.text.now (decimal pair.0) (decimal pair.1) None c.in_err-key.ensures.cases (number_has_no_space pair.0 fits.0) is)

pub returns-in_err-number_of-clause-none : goal.returns-in_err-number_of-clause-none
returns-in_err-number_of-clause-none c = rw c.from_residual-in_err-number_of.ensures (λ pair fits is.
    c.in_err-number_of.ensures pair.0 fits.0
    (cut_there c.args.text.now (decimal pair.0) (decimal pair.1) (Some (c.in_ok-key.key, c.in_ok-key.value)) c.in_ok-key.ensures.cases (number_has_no_space pair.0 fits.0) is).0)

pub returns-in_err-value_of-clause-none : goal.returns-in_err-value_of-clause-none
returns-in_err-value_of-clause-none c = rw c.from_residual-in_err-value_of.ensures (λ pair fits is.
    c.in_err-value_of.ensures pair.1 fits.1
    (cut_there c.args.text.now (decimal pair.0) (decimal pair.1) (Some (c.in_ok-key.key, c.in_ok-key.value)) c.in_ok-key.ensures.cases (number_has_no_space pair.0 fits.0) is).1)
