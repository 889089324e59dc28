use Rattle.std.proofs.Common.{◌≡◌, map, take}
use Rattle.player.proofs.client.nodes.Given as goal

abbrev pub invariant-loop-cell : goal.invariant-loop-cell
invariant-loop-cell l = map (λ n. n.0) l.nodes.items ≡ take l.cell-index l.cells
