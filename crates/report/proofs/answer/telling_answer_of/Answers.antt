use Rattle.std.proofs.Common.{rules}
use Rattle.report.proofs.Tellings.{other_answer}
use Rattle.report.proofs.answer.telling_answer_of.Goals as goal

pub returns-in_ok-node-in-lost : goal.returns-in_ok-node-in-lost
returns-in_ok-node-in-lost c = search rules

pub returns-in_err-telling_reply_of-in_default-clause-none : goal.returns-in_err-telling_reply_of-in_default-clause-none
returns-in_err-telling_reply_of-in_default-clause-none c free =
    let no = c.in_default in
    rw c.from_residual-in_err-telling_reply_of-in_default.ensures
    (other_answer c.args.name.now c.args.told.now free no.not-snap no.not-fail no.not-lost no.not-changed no.not-unlinked c.args.version (c.in_err-telling_reply_of-in_default.ensures.none free))
