use Rattle.std.proofs.Common.{◌∙◌, sym}
use Rattle.report.proofs.Cuts.{front_has_no_space}
use Rattle.report.proofs.Tellings.{only_pairs}
use Rattle.report.proofs.Texts.{if_none}
use Rattle.report.proofs.answer.plain_answer_of.Goals as goal

pub returns-in_ok-name-in_default-clause-none : goal.returns-in_ok-name-in_default-clause-none
returns-in_ok-name-in_default-clause-none c =
    let no = c.in_default in
    let front = front_has_no_space c.args.text.now (c.in_ok-name-in_default.name, c.in_ok-name-in_default.told) c.in_ok-name-in_default.ensures.cases in
    if_none c.telling_answer_of.result
    (λ none. only_pairs c.args.text.now no.not-finalized no.not-done no.not-same no.not-none no.not-text c.args.version (λ answer fits is. none answer fits (sym front.0 ∙ is)))
    (c.telling_answer_of.ensures.none front.1)
