use Rattle.std.proofs.Common.{rules}
use Rattle.report.proofs.Tellings.{pairs_cut}
use Rattle.report.proofs.answer.pairs_answer_of.Goals as goal

pub returns-then-ne-clause-none : goal.returns-then-ne-clause-none
returns-then-ne-clause-none c answer fits pairs is =
    let name = (pairs_cut c.args.text.now c.first_word_of.result.0.now c.first_word_of.result.1 c.first_word_of.ensures.free c.first_word_of.ensures.whole c.args.version answer fits pairs is).2 in search rules
