-- What an SCX covers was unmarked at a moment of its call.
use Rattle.std.specs.Prelude.{◌≡◌, ◌<◌, ℕ, length}
use Rattle.histories.specs.Common.{History, value, marked, Call}
use Rattle.prims.specs.Laws.InTheWay.{HasBeen}
use Rattle.prims.specs.Snap.{snap_at}
use Rattle.edits.specs.declared.update.UpdateAt.{UpdateAt}
use Rattle.edits.specs.declared.update.UpdateAt.TheVariants.{Scx}

-- at a moment of the call the node had no mark
abbrev pub WasUnmarked : Call → History → ℕ → Type 0
WasUnmarked c h n = HasBeen h c.start (λ m. value m (marked n) ≡ 0)

-- so it was with each node that the SCX of an update is to cover: its `v` words get no other
abbrev pub CoversUnmarked : Call → History → UpdateAt → Type 0
CoversUnmarked c h (Scx f scx) = (i : ℕ) → i < length scx.update.snaps → WasUnmarked c h (snap_at scx.update.snaps i).node.0
CoversUnmarked c h _ = Unit {0}
