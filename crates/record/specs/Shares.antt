-- What a call takes of its client's share, and what is left of that.
use Rattle.std.specs.Prelude.{◌≡◌, ◌⊎◌, ℕ, ◌+◌, ◌*◌, ◌<◌, ◌≤◌, ◌↔◌}
use Rattle.histories.specs.Common.{Layout, Resource, Nodes, first_node, first_scx, History, IsOwnNode, IsOwnScx, IsTakenNode, IsTakenScx}
use Rattle.arena.specs.declared.fault.Resource.TheVariants.{Scx as ScxRecords}
use Rattle.record.specs.Answers.{WasBlockedBy}

-- n is one of this many numbers that follow one another, from `first` on
abbrev pub IsInRow : ℕ → ℕ → ℕ → Type 0
IsInRow first many n = (first ≤ n) × (n < first + many)

-- since `start` the client has taken this node of its share
pub record IsNodeTakenSince (lay : Layout) (c : ℕ) (now start : History) (n : ℕ) : Type 0 where
  pub own : IsOwnNode lay c n
  pub not_then : ¬ IsTakenNode start n
  pub taken : IsTakenNode now n

-- since `start` it has taken this SCX-record of its share
pub record IsScxTakenSince (lay : Layout) (c : ℕ) (now start : History) (s : ℕ) : Type 0 where
  pub own : IsOwnScx lay c s
  pub not_then : ¬ IsTakenScx start s
  pub taken : IsTakenScx now s

-- since `start` the client has taken at most `most_scx` SCX-records of its share, and for each that
-- it has taken at most `nodes_each` nodes
pub record HasTakenAtMost (lay : Layout) (c : ℕ) (now start : History) (most_scx nodes_each : ℕ) : Type 0 where
  -- it has taken just this many SCX-records, which follow one another
  pub many : ℕ
  pub few : many ≤ most_scx
  pub lowest_scx : ℕ
  pub scx_records : (s : ℕ) → IsScxTakenSince lay c now start s ↔ IsInRow lowest_scx many s
  -- each node that it has taken is one of this many for each of them, which follow one another
  pub lowest_node : ℕ
  pub nodes : (n : ℕ) → IsNodeTakenSince lay c now start n → IsInRow lowest_node (nodes_each * many) n

-- this many nodes are left of the client's share: the last ones, which are not taken, while all
-- before them are
pub record HasNodesLeft (lay : Layout) (c : ℕ) (now : History) (left : ℕ) : Type 0 where
  pub within : left ≤ lay.nodes
  pub taken : (n : ℕ) → IsOwnNode lay c n → n + left < first_node lay c + lay.nodes → IsTakenNode now n
  pub untaken : (n : ℕ) → IsOwnNode lay c n → first_node lay c + lay.nodes ≤ n + left → ¬ IsTakenNode now n

-- this many SCX-records are left of it
pub record HasScxLeft (lay : Layout) (c : ℕ) (now : History) (left : ℕ) : Type 0 where
  pub within : left ≤ lay.scx
  pub taken : (s : ℕ) → IsOwnScx lay c s → s + left < first_scx lay c + lay.scx → IsTakenScx now s
  pub untaken : (s : ℕ) → IsOwnScx lay c s → first_scx lay c + lay.scx ≤ s + left → ¬ IsTakenScx now s

-- The client's share has too little for an update that needs this many nodes and an SCX-record: the
-- nodes left are too few; or some node is left, and no SCX-record. The last number is what is left.
abbrev pub HasTooFew : Layout → ℕ → History → ℕ → Resource → ℕ → Type 0
HasTooFew lay c now needed Nodes left = (left < needed) × HasNodesLeft lay c now left
HasTooFew lay c now needed ScxRecords left = (left ≡ 0) × HasScxLeft lay c now left × ((nodes : ℕ) × (0 < nodes) × HasNodesLeft lay c now nodes)

-- since the call's start another client's SCX-record was in progress over some node
abbrev pub WasBlocked : Layout → ℕ → History → History → Type 0
WasBlocked lay c now start = (node : ℕ) × (scx : ℕ) × WasBlockedBy lay c now start node scx

-- The share has too little for the next try of a call: it had too little for the first already, as
-- the call began, or another client was in the way since.
abbrev pub HasTooFewToTry : Layout → ℕ → History → History → ℕ → Resource → ℕ → Type 0
HasTooFewToTry lay c now start needed what left = HasTooFew lay c now needed what left × (HasTooFew lay c start needed what left ⊎ WasBlocked lay c now start)
