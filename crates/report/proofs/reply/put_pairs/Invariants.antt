use Rattle.std.proofs.Common.{◌≡◌, ◌++◌, codes, take}
use Rattle.report.specs.Answers.{spaced_pairs}
use Rattle.texts.specs.Sheets.{IsPlain, sheet_text}
use Rattle.report.proofs.reply.put_pairs.Given as goal

abbrev pub invariant-loop-key : goal.invariant-loop-key
invariant-loop-key l = record {
  text : sheet_text l.sheet ≡ sheet_text l.fn.sheet ++ (codes "pairs" ++ spaced_pairs (take l.key-index l.pairs));
  plain : IsPlain (spaced_pairs (take l.key-index l.pairs));
}
