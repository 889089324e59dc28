use Rattle.report.proofs.Tellings.{other_reply}
use Rattle.report.proofs.reply.telling_reply_of.Goals as goal

pub returns-in_default-clause-none : goal.returns-in_default-clause-none
returns-in_default-clause-none c free =
    let no = c.in_default in
    other_reply c.args.name.now c.args.told.now free no.not-some no.not-pair no.not-contended no.not-full c.args.version
