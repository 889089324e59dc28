use Rattle.report.specs.Report.{report_text}
use Rattle.report.proofs.Parts.{end_sent, part_of_end, part_of_first, part_of_head, part_of_second, report_in_parts, second_sent}
use Rattle.report.proofs.Texts.{IsSent, chunk_text, on_err, on_err_of, on_ok_of, so_far_sent}
use Rattle.report.proofs.write.write_record.Given.{Over}
use Rattle.report.proofs.write.write_record.Goals.{After-clear}
use Rattle.report.proofs.write.write_record.Goals as goal

pub returns-in_err-send-clause-beginning : goal.returns-in_err-send-clause-beginning
returns-in_err-send-clause-beginning g c =
    on_err c.from_residual-in_err-send.result
    (part_of_head (report_in_parts c.args.record.now.script c.args.record.now.lines.items) _ _ (rw (chunk_text _ _ _ _ c.text.ensures c.in_ok-put_head.ensures c.new-sheet.ensures.text) at c.in_err-send.ensures.beginning))

pub returns-in_err-write_calls-clause-beginning : goal.returns-in_err-write_calls-clause-beginning
returns-in_err-write_calls-clause-beginning g c =
    on_err c.from_residual-in_err-write_calls.result
    (part_of_first (report_in_parts c.args.record.now.script c.args.record.now.lines.items) _ _ _
    (rw (chunk_text _ _ _ _ c.text.ensures c.in_ok-put_head.ensures c.new-sheet.ensures.text) at c.in_ok-send.ensures.all)
    (rw c.as_slice.ensures.value at c.in_err-write_calls.ensures.beginning))

pub returns-in_err-write_rows-clause-beginning : goal.returns-in_err-write_rows-clause-beginning
returns-in_err-write_rows-clause-beginning g c =
    on_err c.from_residual-in_err-write_rows.result
    (part_of_second (report_in_parts c.args.record.now.script c.args.record.now.lines.items) _ _ _ _
    (rw (chunk_text _ _ _ _ c.text.ensures c.in_ok-put_head.ensures c.new-sheet.ensures.text) at c.in_ok-send.ensures.all)
    (rw c.as_slice.ensures.value at c.in_ok-write_calls.ensures.all)
    (rw c.as_slice-2.ensures.value at c.in_err-write_rows.ensures.beginning))

-- all but the last row is out
lines_sent : (g : Over) (c : After-clear g) → IsSent (g.W.Write.contents c.args.to.now.inner) (g.W.Write.contents c.write_rows.new.to.inner) (report_in_parts c.args.record.now.script c.args.record.now.lines.items).end (report_text c.args.record.now.script c.args.record.now.lines.items)
lines_sent g c =
    second_sent (report_in_parts c.args.record.now.script c.args.record.now.lines.items) _ _ _ _
    (rw (chunk_text _ _ _ _ c.text.ensures c.in_ok-put_head.ensures c.new-sheet.ensures.text) at c.in_ok-send.ensures.all)
    (rw c.as_slice.ensures.value at c.in_ok-write_calls.ensures.all)
    (rw c.as_slice-2.ensures.value at c.in_ok-write_rows.ensures.all)

pub returns-in_err-put_end-clause-beginning : goal.returns-in_err-put_end-clause-beginning
returns-in_err-put_end-clause-beginning g c =
    on_err c.from_residual-in_err-put_end.result
    (so_far_sent _ _ _ _ (lines_sent g (goal.at.returns-in_err-put_end-clause-beginning g c).After-clear))

pub returns-clause-all : goal.returns-clause-all
returns-clause-all g c =
    on_ok_of c.send-2.result
    (end_sent (report_in_parts c.args.record.now.script c.args.record.now.lines.items) _ _ _ (lines_sent g (goal.at.returns-clause-all g c).After-clear))
    (rw (chunk_text _ _ _ _ c.text-2.ensures c.in_ok-put_end.ensures c.clear.ensures.text, c.of.ensures.steps, c.of.ensures.replies, c.of.ensures.entries, c.as_slice-3.ensures.value) at c.send-2.ensures.all)

pub returns-clause-beginning : goal.returns-clause-beginning
returns-clause-beginning g c =
    on_err_of c.send-2.result
    (part_of_end (report_in_parts c.args.record.now.script c.args.record.now.lines.items) _ _ _ (lines_sent g (goal.at.returns-clause-beginning g c).After-clear))
    (rw (chunk_text _ _ _ _ c.text-2.ensures c.in_ok-put_end.ensures c.clear.ensures.text, c.of.ensures.steps, c.of.ensures.replies, c.of.ensures.entries, c.as_slice-3.ensures.value) at c.send-2.ensures.beginning)
