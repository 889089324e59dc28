use Rattle.std.proofs.Common.{◌++◌, ◌∙◌, ap, sym}
use Rattle.script.specs.Rows.{limits_row}
use Rattle.report.specs.Report.{title_row}
use Rattle.texts.specs.Pages.{line_of}
use Rattle.texts.specs.Sheets.{sheet_text}
use Rattle.report.proofs.Texts.{text_behind, two_rows}
use Rattle.report.proofs.head.put_head.Goals as goal

pub returns : goal.returns
returns c =
    let start = sheet_text c.args.sheet.now in
    let title = title_row c.args.script.now.layout.mode in
    let limits = limits_row c.args.script.now.limits in
    let titled = c.put_title.ensures ∙ ap (λ text. text ++ line_of 7 title) c.in_ok-make_room.ensures.text in
    text_behind start (line_of 7 title) (line_of 7 limits) _ _ c.put_limits.ensures (c.in_ok-make_room-2.ensures.text ∙ titled)
    ∙ ap (λ text. start ++ text) (sym (two_rows 7 title limits))
