use Rattle.std.proofs.Common.{◌≡◌, ◌+◌, ◌^◌, ◌<◌, ◌++◌, length, take}
use Rattle.report.specs.Outcome.{reply_rows}
use Rattle.texts.specs.Pages.{rows_text}
use Rattle.texts.specs.Sheets.{sheet_text}
use Rattle.report.proofs.outcome.put_replies.Given as goal

abbrev pub invariant-loop-reply : goal.invariant-loop-reply
invariant-loop-reply l = record {
  call : l.fn.first + length l.replies < 2 ^ 64 → l.call ≡ l.fn.first + l.reply-index;
  text : l.fn.first + length l.replies < 2 ^ 64 → sheet_text l.sheet ≡ sheet_text l.fn.sheet ++ rows_text 4 (reply_rows l.fn.client l.fn.first (take l.reply-index l.replies));
}
