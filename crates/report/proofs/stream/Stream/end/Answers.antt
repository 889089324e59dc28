use Rattle.std.proofs.Common.{◌∙◌}
use Rattle.report.proofs.Streams.{all_begins, both_out, end_row, first_of_both, part_of_second, text_whole, then_kept}
use Rattle.report.proofs.Texts.{chunk_text, on_err}
use Rattle.report.proofs.stream.Stream.end.Goals as goal

pub returns-in_err-put_end-clause-beginning : goal.returns-in_err-put_end-clause-beginning
returns-in_err-put_end-clause-beginning g c = λ start p script x same.
    on_err c.from_residual.result (first_of_both _ _ _ (text_whole p script same) _ _ x.text)

pub returns-in_err-send-clause-beginning : goal.returns-in_err-send-clause-beginning
returns-in_err-send-clause-beginning g c = λ start p script x same.
    on_err c.from_residual-in_err-send.result
    (part_of_second _ _ _ (text_whole p script same) _ _ _ x.text
    (rw (chunk_text _ _ _ _ c.text.ensures c.in_ok-put_end.ensures c.new-sheet.ensures.text ∙ end_row _ _ x.totals) at c.in_err-send.ensures.beginning))

pub returns-in_err-flush-clause-beginning : goal.returns-in_err-flush-clause-beginning
returns-in_err-flush-clause-beginning g c = λ start p script x same.
    on_err c.from_residual-in_err-flush.result
    (all_begins _ _ _ (then_kept _ _ _ _
    (both_out _ _ _ (text_whole p script same) _ _ _ x.text
    (rw (chunk_text _ _ _ _ c.text.ensures c.in_ok-put_end.ensures c.new-sheet.ensures.text ∙ end_row _ _ x.totals) at c.in_ok-send.ensures.all))
    c.flush.ensures.bytes))

pub returns-clause-all : goal.returns-clause-all
returns-clause-all g c = λ start p script x same.
    then_kept _ _ _ _
    (both_out _ _ _ (text_whole p script same) _ _ _ x.text
    (rw (chunk_text _ _ _ _ c.text.ensures c.in_ok-put_end.ensures c.new-sheet.ensures.text ∙ end_row _ _ x.totals) at c.in_ok-send.ensures.all))
    c.flush.ensures.bytes
