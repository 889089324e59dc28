use Rattle.std.proofs.Common.{[], ◌∷◌, ◌++◌, ◌∙◌, ap, append-nil, arith, map, sym, take}
use Rattle.std.proofs.lemmas.List.{take_all, take_more}
use Rattle.texts.specs.Pages.{line_of, rows_text}
use Rattle.texts.specs.Sheets.{sheet_text}
use Rattle.report.proofs.Texts.{rows_more, text_behind}
use Rattle.report.proofs.as_row.put_rows.Goals as goal

pub loop-thing-init : goal.loop-thing-init
unfolding rows_text
loop-thing-init g c = sym (append-nil (sheet_text c.args.sheet.now))

pub loop-thing-preserved : goal.loop-thing-preserved
loop-thing-preserved g c =
    let things = c.args.things.now in
    let i = c.loop-thing.thing-index in
    let thing = c.thing-item.result in
    let width = g.T.AsRow.width in
    let fields = g.T.AsRow.fields in
    let done = take i things in
    let more = take_more things i thing (omega arith) ∙ ap (λ x. done ++ x ∷ []) (sym c.thing-item.is) in
    rw (more, rows_more width fields done thing)
    (text_behind (sheet_text c.args.sheet.now) (rows_text width (map fields done)) (line_of width (fields thing)) _ _ c.in_ok-put_row.ensures c.loop-thing.invariant)

pub returns : goal.returns
returns g c =
    let all = take_all c.loop-thing.thing-index c.args.things.now c.loop-thing-test.false in
    rw all at c.loop-thing.invariant
