use Rattle.std.proofs.Common.{◌≡◌, ℕ, length, slice_get, Some}
use Rattle.judge.specs.Histories.{seen_history}
use Rattle.audit.specs.Remembering.{IsRememberedFinal}
use Rattle.audit.proofs.steps.Steps.note_finals.Given as goal

abbrev pub invariant-loop-place : goal.invariant-loop-place
invariant-loop-place l = record {
  same : l.self ≡ record l.fn.self { finals = l.self.finals };
  many : length l.self.finals.items ≡ length l.fn.self.finals.items;
  noted : (n rows : ℕ) → slice_get l.self.finals.items n ≡ Some rows → IsRememberedFinal l.fn.self.judge.layout (seen_history l.fn.self.judge) l.scx.0 l.place l.fn.self.count (slice_get l.fn.self.finals.items n) n rows;
}
