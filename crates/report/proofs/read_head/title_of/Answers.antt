use Rattle.std.proofs.Common.{[], codes, arith, rules}
use Rattle.report.proofs.Fields.{fields_are, row_is}
use Rattle.report.specs.Report.{mode_text}
use Rattle.report.specs.Versions.{version_text}
use Rattle.report.proofs.read_head.title_of.Goals as goal

pub returns-in_default : goal.returns-in_default
returns-in_default c version mode is =
    let last = (fields_are c.args.fields (codes "report") (version_text version) (mode_text mode) [] [] [] [] (omega arith) is).six_is in search rules

pub returns-in_err-named : goal.returns-in_err-named
returns-in_err-named c = rw c.from_residual.ensures (λ version mode is.
    c.in_err-named.ensures version (fields_are c.args.fields (codes "report") (version_text version) (mode_text mode) [] [] [] [] (omega arith) is).one_is)

pub returns-in_err-mode_of : goal.returns-in_err-mode_of
returns-in_err-mode_of c = rw c.from_residual-in_err-mode_of.ensures (λ version mode is.
    c.in_err-mode_of.ensures mode (fields_are c.args.fields (codes "report") (version_text version) (mode_text mode) [] [] [] [] (omega arith) is).two_is)

pub returns : goal.returns
returns c = row_is c.args.fields (codes "report") (version_text c.in_ok-named.field-0) (mode_text c.in_ok-mode_of.field-0) [] [] [] [] (omega arith)
    (search rules) c.in_ok-named.ensures c.in_ok-mode_of.ensures (search rules) (search rules) (search rules) (search rules)
