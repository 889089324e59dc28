use Rattle.std.proofs.Common.{◌≡◌, ◌+◌, true, length, slice_set}
use Rattle.judge.specs.Entering.{last_after, finals_after}
use Rattle.judge.proofs.entering.Entering.enter.Given as goal

abbrev pub invariant-loop-place : goal.invariant-loop-place
invariant-loop-place l = record {
  entries : l.self.entries ≡ l.fn.self.entries + 1;
  won : l.self.won.items ≡ slice_set l.fn.self.won.items l.scx.0 true;
  last : l.self.last.items ≡ last_after l.words l.scx.0 l.place (l.fn.self.entries + 1) l.fn.self.last.items;
  finals : l.self.finals.items ≡ finals_after l.words l.scx.0 l.place l.fn.self.finals.items;
  last_size : length l.self.last.items ≡ length l.fn.self.last.items;
  finals_size : length l.self.finals.items ≡ length l.fn.self.finals.items;
}
