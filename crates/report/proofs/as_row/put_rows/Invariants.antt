use Rattle.std.proofs.Common.{◌≡◌, ◌++◌, map, take}
use Rattle.texts.specs.Pages.{rows_text}
use Rattle.texts.specs.Sheets.{sheet_text}
use Rattle.report.proofs.as_row.put_rows.Given as goal

abbrev pub invariant-loop-thing : goal.invariant-loop-thing
invariant-loop-thing g l = sheet_text l.sheet ≡ sheet_text l.fn.sheet ++ rows_text g.T.AsRow.width (map g.T.AsRow.fields (take l.thing-index l.things))
