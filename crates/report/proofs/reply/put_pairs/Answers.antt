use Rattle.std.proofs.Common.{ℕ, ◌++◌, append_assoc, ap, codes, get_or, refl, rules, take, ◌∙◌}
use Rattle.std.proofs.lemmas.List.{take_all, take_more}
use Rattle.report.specs.Answers.{spaced_pairs}
use Rattle.texts.specs.Sheets.{sheet_text}
use Rattle.texts.proofs.Lemmas.{plain_append}
use Rattle.report.proofs.PairTexts.{pair_text, pairs_more}
use Rattle.report.proofs.PlainTexts.{pair_plain}
use Rattle.report.proofs.reply.put_pairs.Goals as goal

pub loop-key-init : goal.loop-key-init
unfolding spaced_pairs
loop-key-init c = record { text = search rules; plain = refl }

pub loop-key-preserved : goal.loop-key-preserved
loop-key-preserved c =
    let pairs = c.args.pairs.now in
    let i = c.loop-key.key-index in
    let none : ℕ × ℕ = (0, 0) in
    let pair = get_or pairs i none in
    let start = sheet_text c.args.sheet.now in
    let so_far = spaced_pairs (take i pairs) in
    let more = take_more pairs i none c.loop-key-test.true ∙ refl in
    let longer = pairs_more (take i pairs) pair in
    record {
      text = rw (more, longer) (c.in_ok-put_pair.ensures.text ∙ ap (λ text. text ++ pair_text pair) c.loop-key.invariant.text ∙ append_assoc start (codes "pairs" ++ so_far) (pair_text pair) ∙ ap (λ text. start ++ text) (append_assoc (codes "pairs") so_far (pair_text pair)));
      plain = rw (more, longer) (plain_append (spaced_pairs (take i pairs)) (pair_text pair) c.loop-key.invariant.plain (pair_plain pair c.in_ok-put_pair.ensures.key c.in_ok-put_pair.ensures.value));
    }

pub returns-clause-text : goal.returns-clause-text
returns-clause-text c =
    let all = take_all c.loop-key.key-index c.args.pairs.now c.loop-key-test.false in
    rw all at c.loop-key.invariant.text

pub returns-clause-plain : goal.returns-clause-plain
returns-clause-plain c =
    let all = take_all c.loop-key.key-index c.args.pairs.now c.loop-key-test.false in
    plain_append (codes "pairs") (spaced_pairs c.args.pairs.now) refl (rw all at c.loop-key.invariant.plain)
