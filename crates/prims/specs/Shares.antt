-- What a pass has: what is left of its share, and snapshots that it may use.
use Rattle.std.specs.Prelude.{◌≡◌, ℕ, ◌+◌, ◌<◌, ◌≤◌}
use Rattle.arena.specs.Share.{whole_share}
use Rattle.histories.specs.Common.{Layout, first_node, first_scx, Remaining, History, IsOwnNode, IsOwnScx, IsTakenNode, IsTakenScx, IsUnmentioned}
use Rattle.prims.specs.Laws.Linked.{IsLinked}
use Rattle.prims.specs.Moments.{IsMoment}
use Rattle.prims.specs.declared.snap.Snap.{Snap}

-- Of pass c's own names, those from what is left on are untouched: of these it has been dealt what
-- is left, and perhaps not all. All before this node and this SCX-record are taken.
pub record IsShare (lay : Layout) (h : History) (c : ℕ) (left : Remaining) (node scx : ℕ) : Type 0 where
  -- what is left is of the pass's own
  pub from_node : first_node lay c ≤ left.next_node
  pub to_node : left.next_node + left.nodes ≤ first_node lay c + lay.nodes
  pub from_scx : first_scx lay c ≤ left.next_scx
  pub to_scx : left.next_scx + left.scx ≤ first_scx lay c + lay.scx
  pub taken_nodes : (n : ℕ) → IsOwnNode lay c n → n < node → IsTakenNode h n
  pub taken_scx : (s : ℕ) → IsOwnScx lay c s → s < scx → IsTakenScx h s
  -- no field and no SCX-record has ever held one of its nodes from what is left on
  pub unmentioned : (n : ℕ) → IsOwnNode lay c n → left.next_node ≤ n → IsUnmentioned h n
  pub untaken_nodes : (n : ℕ) → IsOwnNode lay c n → left.next_node ≤ n → ¬ IsTakenNode h n
  pub untaken : (s : ℕ) → IsOwnScx lay c s → left.next_scx ≤ s → ¬ IsTakenScx h s

-- where what is left ends: behind its last node, and behind its last SCX-record
unfoldable pub share_end : Remaining → ℕ × ℕ
share_end left = (left.next_node + left.nodes, left.next_scx + left.scx)

-- what is left is the upper end of pass c's names: it has been dealt all of them
abbrev pub IsUpperEnd : Layout → ℕ → Remaining → Type 0
IsUpperEnd lay c left = share_end left ≡ share_end (whole_share lay c)

-- the pass may use a snapshot of this moment: its node was then as it says, and is so as long as
-- its info is what the snapshot found
pub record IsUsable (lay : Layout) (h : History) (snap : Snap) (moment : History) : Type 0 where
  pub linked : IsLinked lay h snap
  pub found : IsMoment lay h snap moment
