use Rattle.ordered_map.specs.Paths.{IsOnPath}
use Rattle.judge.specs.Histories.{seen_history}
use Rattle.audit.proofs.edits.is_on_path.Given as goal

abbrev pub invariant-loop-node : goal.invariant-loop-node
invariant-loop-node l = IsOnPath (seen_history l.judge) l.key l.node

abbrev pub decreases-loop-node : goal.decreases-loop-node
decreases-loop-node l = l.left
