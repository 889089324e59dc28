use Rattle.std.proofs.Common.{[], refl}
use Rattle.player.specs.Player.{script_view}
use Rattle.report.specs.Streams.{text_so_far}
use Rattle.report.proofs.Streams.{all_begins, both_out, no_totals, part_of_first, part_of_second, text_at_first, then_kept}
use Rattle.report.proofs.Texts.{chunk_text, none_sent, on_err, so_far_sent}
use Rattle.report.proofs.stream.Stream.new.Goals as goal

pub returns-in_err-put_head-clause-beginning : goal.returns-in_err-put_head-clause-beginning
returns-in_err-put_head-clause-beginning g c =
    on_err c.from_residual-in_err-put_head.result
    (so_far_sent _ _ _ _ (none_sent _ (text_so_far record { script = script_view c.args.script.now; lines = [] })))

pub returns-in_err-send-clause-beginning : goal.returns-in_err-send-clause-beginning
returns-in_err-send-clause-beginning g c =
    on_err c.from_residual-in_err-send.result
    (part_of_first _ _ _ (text_at_first (script_view c.args.script.now)) _ _
    (rw (chunk_text _ _ _ _ c.text.ensures c.in_ok-put_head.ensures c.new-sheet.ensures.text) at c.in_err-send.ensures.beginning))

pub returns-in_err-write_calls-clause-beginning : goal.returns-in_err-write_calls-clause-beginning
returns-in_err-write_calls-clause-beginning g c =
    on_err c.from_residual-in_err-write_calls.result
    (part_of_second _ _ _ (text_at_first (script_view c.args.script.now)) _ _ _
    (rw (chunk_text _ _ _ _ c.text.ensures c.in_ok-put_head.ensures c.new-sheet.ensures.text) at c.in_ok-send.ensures.all)
    (rw c.as_slice.ensures.value at c.in_err-write_calls.ensures.beginning))

pub returns-in_err-flush-clause-beginning : goal.returns-in_err-flush-clause-beginning
returns-in_err-flush-clause-beginning g c =
    on_err c.from_residual-in_err-flush.result
    (all_begins _ _ _ (then_kept _ _ _ _
    (both_out _ _ _ (text_at_first (script_view c.args.script.now)) _ _ _
    (rw (chunk_text _ _ _ _ c.text.ensures c.in_ok-put_head.ensures c.new-sheet.ensures.text) at c.in_ok-send.ensures.all)
    (rw c.as_slice.ensures.value at c.in_ok-write_calls.ensures.all))
    c.flush.ensures.bytes))

pub returns-clause-begun : goal.returns-clause-begun
returns-clause-begun g c = record {
  goes_on = refl;
  stands = c.in_ok-core.ensures;
  totals = rw c.none.ensures no_totals;
  text = then_kept _ _ _ _
      (both_out _ _ _ (text_at_first (script_view c.args.script.now)) _ _ _
      (rw (chunk_text _ _ _ _ c.text.ensures c.in_ok-put_head.ensures c.new-sheet.ensures.text) at c.in_ok-send.ensures.all)
      (rw c.as_slice.ensures.value at c.in_ok-write_calls.ensures.all))
      c.flush.ensures.bytes;
}
