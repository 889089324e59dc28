-- What an ordered read knows all the way of its pass, of the snapshots of its try, and of nodes
-- that it comes to.
use Rattle.std.specs.Prelude.{◌≡◌, ℕ, ◌<◌, false, List, length}
use Rattle.histories.specs.Common.{Layout, info, History, value, Extends, log, is_final, Call}
use Rattle.prims.specs.Laws.Idle.{IsQuietSince}
use Rattle.prims.specs.Laws.InTheWay.{HasBeen}
use Rattle.template.specs.Common.{IsSnapshot, AreFinished, snap_at, Snap, WasInTree, IsMapRun}

-- the snapshot was right at a moment of the call, by which its node had been in the tree in it
pub record HasSnapped (c : Call) (h : History) (snap : Snap) : Type 0 where
  pub moment : History
  pub within : Extends h moment
  pub since : Extends moment c.start
  pub stood : WasInTree moment snap.node.0
  pub in_call : Extends stood.moment c.start
  pub is : IsSnapshot c.layout moment snap.node.0 snap

-- each of these snapshots was
abbrev pub AreSnapped : Call → History → List Snap → Type 0
AreSnapped c h snaps = (i : ℕ) → i < length snaps → HasSnapped c h (snap_at snaps i)

-- What a read with these snapshots knows at any place: each SCX-record that its pass has taken is
-- finished, and none of them was in progress since the call began.
pub record Reads (c : Call) (h : History) (snaps : List Snap) : Type 0 where
  pub run : IsMapRun c.layout h
  pub since : Extends h c.start
  pub over : AreFinished c.layout c.pass 0 h
  pub quiet : IsQuietSince c.layout c.pass c.start h
  pub snapped : AreSnapped c h snaps

-- the infos of all these nodes name what their snapshots found
abbrev pub AllHold : History → List Snap → Type 0
AllHold b snaps = (i : ℕ) → i < length snaps → value b (info (snap_at snaps i).node.0) ≡ (snap_at snaps i).scx.0

-- P is true at each moment from now on at which they do
abbrev pub Whenever : Layout → History → List Snap → (History → Type 0) → Type 0
Whenever lay h snaps P = (b : History) → IsMapRun lay b → Extends b h → AllHold b snaps → P b

-- the node was in the tree at a moment of the call, and was not final at one
pub record HasStood (c : Call) (h : History) (n : ℕ) : Type 0 where
  pub stood : WasInTree h n
  pub in_call : Extends stood.moment c.start
  pub not_final : HasBeen h c.start (λ m. is_final (log c.layout m) n ≡ false)
