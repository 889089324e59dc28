use Rattle.std.proofs.Common.{None, decimal, lit<}
use Rattle.std.proofs.lemmas.Str.Pattern.{strip_prefix_char}
use Rattle.report.proofs.name.scx_of.Goals as goal

pub returns-in_err-strip_prefix-clause-none : goal.returns-in_err-strip_prefix-clause-none
returns-in_err-strip_prefix-clause-none c = rw c.from_residual.ensures (λ n fits is.
    strip_prefix_char 115 c.args.text.now None c.in_err-strip_prefix.ensures.cases (lit< tt) (decimal n) is)
