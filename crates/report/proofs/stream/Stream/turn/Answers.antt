use Rattle.std.proofs.Common.{◌∙◌, ap, map, refl, rules}
use Rattle.report.specs.Report.{line_row}
use Rattle.report.proofs.Streams.{all_begins, both_out, cut_off, first_of_both, part_of_second, text_more, then_kept, totals_more}
use Rattle.report.proofs.Texts.{chunk_text}
use Rattle.texts.specs.Pages.{rows_text}
use Rattle.report.proofs.stream.Stream.turn.Goals as goal

pub returns-in_err-put_rows-clause-says : goal.returns-in_err-put_rows-clause-says
returns-in_err-put_rows-clause-says g c = λ start p x.
    let made = c.in_ok-step_into.ensures in
    cut_off _ _ _ _ p _ c.step_into.new.more.items c.from_residual-in_err-put_rows.result refl (search rules) (made.turn p x.stands) (made.stands p x.stands)
    (first_of_both _ _ _ (text_more p c.step_into.new.more.items) _ _ x.text)

pub returns-in_err-send-clause-says : goal.returns-in_err-send-clause-says
returns-in_err-send-clause-says g c = λ start p x.
    let made = c.in_ok-step_into.ensures in
    let rows = chunk_text _ _ _ _ c.text.ensures c.in_ok-put_rows.ensures (c.make_room.ensures.text ∙ c.clear.ensures.text) ∙ ap (λ lines. rows_text 7 (map line_row lines)) c.as_slice.ensures.value in
    cut_off _ _ _ _ p _ c.step_into.new.more.items c.from_residual-in_err-send.result refl (search rules) (made.turn p x.stands) (made.stands p x.stands)
    (part_of_second _ _ _ (text_more p c.step_into.new.more.items) _ _ _ x.text (rw rows at c.in_err-send.ensures.beginning))

pub returns-in_err-flush-clause-says : goal.returns-in_err-flush-clause-says
returns-in_err-flush-clause-says g c = λ start p x.
    let made = c.in_ok-step_into.ensures in
    let rows = chunk_text _ _ _ _ c.text.ensures c.in_ok-put_rows.ensures (c.make_room.ensures.text ∙ c.clear.ensures.text) ∙ ap (λ lines. rows_text 7 (map line_row lines)) c.as_slice.ensures.value in
    cut_off _ _ _ _ p _ c.step_into.new.more.items c.from_residual-in_err-flush.result refl (search rules) (made.turn p x.stands) (made.stands p x.stands)
    (all_begins _ _ _ (then_kept _ _ _ _ (both_out _ _ _ (text_more p c.step_into.new.more.items) _ _ _ x.text (rw rows at c.in_ok-send.ensures.all)) c.flush.ensures.bytes))

pub returns-clause-says : goal.returns-clause-says
returns-clause-says g c = λ start p x.
    let rows = chunk_text _ _ _ _ c.text.ensures c.in_ok-put_rows.ensures (c.make_room.ensures.text ∙ c.clear.ensures.text) ∙ ap (λ lines. rows_text 7 (map line_row lines)) c.as_slice.ensures.value in
    let more = c.step_into.new.more.items in
    record {
      refused = tt;
      cut = tt;
      written = record {
        goes_on = refl;
        stands = c.in_ok-step_into.ensures.stands p x.stands;
        totals = totals_more c.args.self.now.totals c.count.new.self p c.args.client.0 more x.totals (c.in_ok-step_into.ensures.turn p x.stands)
            (rw x.stands.between.counted.turned at c.requires.steps)
            (rw c.as_slice-2.ensures.value at c.count.ensures.steps)
            (rw c.as_slice-2.ensures.value at c.count.ensures.replies)
            (rw c.as_slice-2.ensures.value at c.count.ensures.entries);
        text = then_kept _ _ _ _ (both_out _ _ _ (text_more p more) _ _ _ x.text (rw rows at c.in_ok-send.ensures.all)) c.flush.ensures.bytes;
      };
    }
