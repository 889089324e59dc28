use Rattle.report.proofs.Cuts.{front_has_no_space, whole_has_no_space}
use Rattle.report.proofs.reply.first_word_of.Goals as goal

pub returns-in-Some-clause-free : goal.returns-in-Some-clause-free
returns-in-Some-clause-free c = (front_has_no_space c.args.text.now (c.in-Some.word, c.in-Some.rest) c.in-Some.ensures.cases).1

pub returns-in-None-clause-free : goal.returns-in-None-clause-free
returns-in-None-clause-free c = whole_has_no_space c.args.text.now c.in-None.ensures.cases
