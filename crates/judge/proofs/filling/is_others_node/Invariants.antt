use Rattle.std.proofs.Common.{◌≢◌, ℕ, ◌<◌}
use Rattle.arena.specs.Fills.{IsOwnNode}
use Rattle.judge.proofs.filling.is_others_node.Given as goal

abbrev pub invariant-loop-other : goal.invariant-loop-other
invariant-loop-other l = (k : ℕ) → k < l.other → k ≢ l.pass.0 → ¬ IsOwnNode l.layout k l.node
