use Rattle.std.proofs.Common.{◌≡◌, ℕ, ◌<◌, map, take, get_or, IsSome}
use Rattle.player.specs.KeptSnaps.{kept_of, AllKept}
use Rattle.player.proofs.kept.Kept.linked.Given as goal

abbrev pub invariant-loop-cell : goal.invariant-loop-cell
invariant-loop-cell l =
    (map (λ s. s.node.0) l.snaps.items ≡ take l.cell-index l.cells)
    × AllKept l.self l.snaps.items
    × ((i : ℕ) → i < l.cell-index → IsSome (kept_of l.self (get_or l.cells i 0)))
