use Rattle.std.proofs.Common.{◌≢◌, ℕ, ◌<◌}
use Rattle.arena.specs.ScxRecords.{member}
use Rattle.judge.specs.Histories.{seen_history}
use Rattle.judge.proofs.beginning.is_alone.Given as goal

abbrev pub invariant-loop-other : goal.invariant-loop-other
invariant-loop-other l = (k : ℕ) → k < l.other → l.place ≢ k → member (seen_history l.judge) l.scx l.place ≢ member (seen_history l.judge) l.scx k
