use Rattle.std.proofs.Common.{◌≡◌, ℕ, ◌==◌, if◌then◌else◌, take, None}
use Rattle.std.specs.List.{list_any}
use Rattle.player.specs.KeptSnaps.{kept_of}
use Rattle.player.proofs.kept.Kept.forget.Given as goal

abbrev pub invariant-loop-snap : goal.invariant-loop-snap
invariant-loop-snap l = (n : ℕ) → kept_of l.self n ≡ (if list_any (λ s. s.node.0 == n) (take l.snap-index l.snaps) then None else kept_of l.initial.self n)
