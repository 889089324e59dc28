use Rattle.std.proofs.Common.{◌≡◌, string_bytes, take}
use Rattle.script.specs.Commands.{numbers_text}
use Rattle.texts.specs.Sheets.{IsPlain}
use Rattle.script.proofs.command_rows.cells_text.Given as goal

abbrev pub invariant-loop-place : goal.invariant-loop-place
invariant-loop-place l = record {
  text : string_bytes l.text ≡ numbers_text (take l.place l.cells);
  plain : IsPlain (numbers_text (take l.place l.cells));
}
