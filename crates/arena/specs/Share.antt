-- What a pass owns, and what is left of it.
use Rattle.std.specs.Prelude.{◌≡◌, ℕ, ◌+◌, ◌-◌, ◌<◌, ◌≤◌}
use Rattle.arena.specs.declared.fault.Full.{Full}
use Rattle.arena.specs.declared.fault.Resource.{Resource}
use Rattle.arena.specs.declared.fault.Resource.TheVariants.{Nodes, Scx as ScxRecords}
use Rattle.arena.specs.declared.layout.Layout.{Layout}
use Rattle.arena.specs.Layout.{first_node, first_scx}

-- what is left of a share: the next node and SCX-record, and how many of each
pub record Remaining : Type 0 where
  pub next_node : ℕ
  pub nodes : ℕ
  pub next_scx : ℕ
  pub scx : ℕ

-- the whole share of a pass
abbrev pub whole_share : Layout → ℕ → Remaining
whole_share lay c = record { next_node = first_node lay c; nodes = lay.nodes; next_scx = first_scx lay c; scx = lay.scx }

-- node n is left in the share
pub record HasNode (left : Remaining) (n : ℕ) : Type 0 where
  pub from : left.next_node ≤ n
  pub below : n < left.next_node + left.nodes

-- SCX-record s is left in the share
pub record HasScx (left : Remaining) (s : ℕ) : Type 0 where
  pub from : left.next_scx ≤ s
  pub below : s < left.next_scx + left.scx

-- what is left once the next node and the next SCX-record are taken
abbrev pub after_taking : Remaining → Remaining
after_taking left = record { next_node = left.next_node + 1; nodes = left.nodes - 1; next_scx = left.next_scx + 1; scx = left.scx - 1 }

-- none is left of this resource, and k is 0; SCX-records are looked at only where some node is left
abbrev pub IsFullOf : Remaining → Resource → ℕ → Type 0
IsFullOf left Nodes k = (left.nodes ≡ 0) × (k ≡ 0)
IsFullOf left ScxRecords k = (0 < left.nodes) × (left.scx ≡ 0) × (k ≡ 0)

-- the refusal is right: it names the resource that has run out, and that none of it is left
abbrev pub IsFull : Remaining → Full → Type 0
IsFull left f = IsFullOf left f.what f.left
