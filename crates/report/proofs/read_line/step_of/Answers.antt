use Rattle.std.proofs.Common.{codes, decimal, arith, rules, sym}
use Rattle.script.specs.Kinds.{kind_text}
use Rattle.report.specs.Words.{word_text}
use Rattle.report.proofs.Fields.{row_is}
use Rattle.report.proofs.LineRows.{made_are}
use Rattle.report.proofs.read_line.step_of.Goals as goal

pub returns-in_err-pass-clause-none : goal.returns-in_err-pass-clause-none
returns-in_err-pass-clause-none c = rw c.from_residual-in_err-pass.ensures (λ number row small fits is. c.in_err-pass.ensures.none row.pass.0 fits.pass (made_are c.args.fields (omega arith) number row is).two_is)

pub returns-in_err-kind_of-clause-none : goal.returns-in_err-kind_of-clause-none
returns-in_err-kind_of-clause-none c = rw c.from_residual-in_err-kind_of.ensures (λ number row small fits is. c.in_err-kind_of.ensures.none row.kind (sym (made_are c.args.fields (omega arith) number row is).three_is))

pub returns-in_err-word_of-clause-none : goal.returns-in_err-word_of-clause-none
returns-in_err-word_of-clause-none c = rw c.from_residual-in_err-word_of.ensures (λ number row small fits is. c.in_err-word_of.ensures row.word fits.word (made_are c.args.fields (omega arith) number row is).four_is)

pub returns-in_err-number_of-clause-none : goal.returns-in_err-number_of-clause-none
returns-in_err-number_of-clause-none c = rw c.from_residual-in_err-number_of.ensures (λ number row small fits is. c.in_err-number_of.ensures row.before fits.before (made_are c.args.fields (omega arith) number row is).five_is)

pub returns-in_err-number_of-2-clause-none : goal.returns-in_err-number_of-2-clause-none
returns-in_err-number_of-2-clause-none c = rw c.from_residual-in_err-number_of-2.ensures (λ number row small fits is. c.in_err-number_of-2.ensures row.after fits.after (made_are c.args.fields (omega arith) number row is).six_is)

pub returns-clause-row : goal.returns-clause-row
returns-clause-row c = row_is c.args.fields (codes "step") (decimal c.in_ok-number.number) (decimal c.in_ok-pass.pass.0) (kind_text c.in_ok-kind_of.field-0) (word_text c.in_ok-word_of.field-0) (decimal c.in_ok-number_of.field-0) (decimal c.in_ok-number_of-2.field-0) (omega arith)
    (search rules) c.in_ok-number.ensures c.in_ok-pass.ensures.some (sym c.in_ok-kind_of.ensures.some) c.in_ok-word_of.ensures.1 c.in_ok-number_of.ensures c.in_ok-number_of-2.ensures
