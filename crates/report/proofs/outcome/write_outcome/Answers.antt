use Rattle.report.proofs.Parts.{end_sent, outcome_in_parts, part_of_end, part_of_first, part_of_head, part_of_second, second_sent}
use Rattle.report.proofs.Texts.{chunk_text, on_err, on_err_of, on_ok_of, so_far_sent}
use Rattle.report.proofs.outcome.write_outcome.Goals as goal

pub returns-in_err-send-clause-beginning : goal.returns-in_err-send-clause-beginning
returns-in_err-send-clause-beginning g c =
    on_err c.from_residual-in_err-send.result
    (part_of_head (outcome_in_parts c.args.missed c.args.replies.now c.args.pairs.now) _ _ (rw (chunk_text _ _ _ _ c.text.ensures c.in_ok-put_opening.ensures c.new-sheet.ensures.text) at c.in_err-send.ensures.beginning))

pub returns-in_err-count-clause-beginning : goal.returns-in_err-count-clause-beginning
returns-in_err-count-clause-beginning g c =
    on_err c.from_residual-in_err-count.result
    (part_of_first (outcome_in_parts c.args.missed c.args.replies.now c.args.pairs.now) _ _ _ (rw (chunk_text _ _ _ _ c.text.ensures c.in_ok-put_opening.ensures c.new-sheet.ensures.text) at c.in_ok-send.ensures.all) c.in_err-count.ensures.beginning)

pub returns-in_err-write_rows-clause-beginning : goal.returns-in_err-write_rows-clause-beginning
returns-in_err-write_rows-clause-beginning g c =
    on_err c.from_residual-in_err-write_rows.result
    (part_of_second (outcome_in_parts c.args.missed c.args.replies.now c.args.pairs.now) _ _ _ _ (rw (chunk_text _ _ _ _ c.text.ensures c.in_ok-put_opening.ensures c.new-sheet.ensures.text) at c.in_ok-send.ensures.all) c.in_ok-count.ensures.all c.in_err-write_rows.ensures.beginning)

pub returns-in_err-put_closing-clause-beginning : goal.returns-in_err-put_closing-clause-beginning
returns-in_err-put_closing-clause-beginning g c =
    on_err c.from_residual-in_err-put_closing.result
    (so_far_sent _ _ _ _ (second_sent (outcome_in_parts c.args.missed c.args.replies.now c.args.pairs.now) _ _ _ _ (rw (chunk_text _ _ _ _ c.text.ensures c.in_ok-put_opening.ensures c.new-sheet.ensures.text) at c.in_ok-send.ensures.all) c.in_ok-count.ensures.all c.in_ok-write_rows.ensures.all))

pub returns-clause-all : goal.returns-clause-all
returns-clause-all g c =
    on_ok_of c.send-2.result
    (λ all. end_sent (outcome_in_parts c.args.missed c.args.replies.now c.args.pairs.now) _ _ _ (second_sent (outcome_in_parts c.args.missed c.args.replies.now c.args.pairs.now) _ _ _ _ (rw (chunk_text _ _ _ _ c.text.ensures c.in_ok-put_opening.ensures c.new-sheet.ensures.text) at c.in_ok-send.ensures.all) c.in_ok-count.ensures.all c.in_ok-write_rows.ensures.all) all)
    (rw (chunk_text _ _ _ _ c.text-2.ensures c.in_ok-put_closing.ensures c.clear.ensures.text, c.in_ok-count.ensures.count) at c.send-2.ensures.all)

pub returns-clause-beginning : goal.returns-clause-beginning
returns-clause-beginning g c =
    on_err_of c.send-2.result
    (λ part. part_of_end (outcome_in_parts c.args.missed c.args.replies.now c.args.pairs.now) _ _ _ (second_sent (outcome_in_parts c.args.missed c.args.replies.now c.args.pairs.now) _ _ _ _ (rw (chunk_text _ _ _ _ c.text.ensures c.in_ok-put_opening.ensures c.new-sheet.ensures.text) at c.in_ok-send.ensures.all) c.in_ok-count.ensures.all c.in_ok-write_rows.ensures.all) part)
    (rw (chunk_text _ _ _ _ c.text-2.ensures c.in_ok-put_closing.ensures c.clear.ensures.text, c.in_ok-count.ensures.count) at c.send-2.ensures.beginning)
