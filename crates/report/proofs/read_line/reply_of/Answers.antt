use Rattle.std.proofs.Common.{codes, decimal, arith, rules, sym, ◌∙◌}
use Rattle.report.specs.Answers.{answer_text}
use Rattle.report.specs.Report.{moment_text}
use Rattle.report.proofs.Fields.{last_text, row_is}
use Rattle.report.proofs.LineRows.{finished_are}
use Rattle.report.proofs.read_line.reply_of.Goals as goal

pub returns-in_err-call-clause-none : goal.returns-in_err-call-clause-none
returns-in_err-call-clause-none c = rw c.from_residual-in_err-call.ensures (λ version reply fits is. c.in_err-call.ensures reply.call fits.call (finished_are c.args.fields (omega arith) reply is).two_is)

pub returns-in_err-number_of-clause-none : goal.returns-in_err-number_of-clause-none
returns-in_err-number_of-clause-none c = rw c.from_residual-in_err-number_of.ensures (λ version reply fits is. c.in_err-number_of.ensures reply.begin fits.begin (finished_are c.args.fields (omega arith) reply is).three_is)

pub returns-in_err-number_of-2-clause-none : goal.returns-in_err-number_of-2-clause-none
returns-in_err-number_of-2-clause-none c = rw c.from_residual-in_err-number_of-2.ensures (λ version reply fits is. c.in_err-number_of-2.ensures reply.end fits.end (finished_are c.args.fields (omega arith) reply is).four_is)

pub returns-in_err-moment_of-clause-none : goal.returns-in_err-moment_of-clause-none
returns-in_err-moment_of-clause-none c = rw c.from_residual-in_err-moment_of.ensures (λ version reply fits is. c.in_err-moment_of.ensures reply.moment fits.moment (finished_are c.args.fields (omega arith) reply is).five_is)

pub returns-clause-row : goal.returns-clause-row
returns-clause-row c = row_is c.args.fields (codes "reply") (decimal c.in_ok-client.client.0) (decimal c.in_ok-call.call) (decimal c.in_ok-number_of.field-0) (decimal c.in_ok-number_of-2.field-0) (moment_text c.in_ok-moment_of.field-0) (answer_text c.fitted_to.result) (omega arith)
    (search rules) c.in_ok-client.ensures.some c.in_ok-call.ensures c.in_ok-number_of.ensures c.in_ok-number_of-2.ensures c.in_ok-moment_of.ensures
    (sym (last_text c.args.fields (omega arith)) ∙ c.requires.text ∙ sym c.fitted_to.ensures.text)

pub returns-clause-form : goal.returns-clause-form
returns-clause-form c = λ passes calls has below. rw (← (c.get.ensures passes calls has below)) c.fitted_to.ensures.fits
