use Rattle.std.proofs.Common.{◌≡◌, codes, get_or, arith, rules}
use Rattle.report.proofs.Fields.{blank}
use Rattle.report.proofs.LineRows.{only_reply}
use Rattle.report.proofs.Texts.{if_none}
use Rattle.report.proofs.read_line.line_of.Goals as goal

pub returns-in-Some-clause-spelled : goal.returns-in-Some-clause-spelled
returns-in-Some-clause-spelled c = c.reply_of.ensures.spelled c.args.version (rw c.in-Some.is at c.in_ok-answer.ensures.spelled)

pub returns-in-Some-clause-none : goal.returns-in-Some-clause-none
returns-in-Some-clause-none c =
    let name : (get_or c.args.fields 0 blank).now ≡ codes "reply" = search rules in
    if_none c.reply_of.result (only_reply c.args.fields (omega arith) name c.args.version) c.reply_of.ensures.none
