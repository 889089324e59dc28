use Rattle.std.proofs.Common.{◌≡◌, ◌+◌, ◌^◌, ◌<◌, List, ◌++◌, length, reverse, take}
use Rattle.script.specs.declared.call.Call.{Call}
use Rattle.report.specs.Counts.{HasCounted}
use Rattle.report.specs.Report.{call_rows}
use Rattle.texts.specs.Pages.{rows_text}
use Rattle.texts.specs.Sheets.{sheet_text}
use Rattle.report.proofs.call.put_calls.Given as goal

abbrev pub invariant-loop-call : goal.invariant-loop-call
invariant-loop-call l = record {
  rows : (earlier : List Call) → HasCounted l.fn.counts earlier → length earlier + length l.calls < 2 ^ 64 → sheet_text l.sheet ≡ sheet_text l.fn.sheet ++ rows_text 7 (call_rows earlier (take l.call-index l.calls));
  counted : (earlier : List Call) → HasCounted l.fn.counts earlier → length earlier + length l.calls < 2 ^ 64 → HasCounted l.counts (reverse (take l.call-index l.calls) ++ earlier);
}
