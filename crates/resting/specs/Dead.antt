-- Which nodes are marked, and which records are dead.
use Rattle.std.specs.Prelude.{◌≡◌, ◌≢◌, ◌⊎◌, ℕ, true, false}
use Rattle.histories.specs.Common.{Layout, Side, History, Extends, value, state, info, marked, child, count, member, new, log, is_final, IsOwnNode, IsOwnScx, IsTakenNode, IsTakenScx, IsNamedScx}
use Rattle.ordered_map.specs.Paths.{WasInTree}
use Rattle.ordered_map.specs.TreeWords.{is_leaf}
use Rattle.touching.specs.Kinds.{IsInTree}
use Rattle.touching.specs.Left.{HasLeft, IsNamedByLeft}
use Rattle.touching.specs.Rests.{IsLetGo}
use Rattle.resting.specs.Records.{Record, the_node, the_scx}

-- the node that was taken is marked: its remover can not be stopped, but may be in progress
pub record IsMarkedNode (t : History) (n : ℕ) : Type 0 where
  pub taken : IsTakenNode t n
  pub mark : value t (marked n) ≢ 0

-- and the remover is finished, which is what its info names
pub record IsRemovedNode (t : History) (n : ℕ) : Type 0 where
  pub taken : IsTakenNode t n
  pub mark : value t (marked n) ≢ 0
  pub finished : value t (state (value t (info n))) ≢ 0

-- the node that was taken has left the tree or the trie with no mark
pub record HasLeftUnmarked (t : History) (n : ℕ) : Type 0 where
  pub taken : IsTakenNode t n
  pub left : HasLeft t n
  pub mark : value t (marked n) ≡ 0

-- the SCX-record that was taken is finished, and only nodes name it that are final or have left
pub record IsLetGoScx (lay : Layout) (t : History) (s : ℕ) : Type 0 where
  pub real : s ≢ 0
  pub taken : IsTakenScx t s
  pub finished : value t (state s) ≢ 0
  pub named : IsNamedByLeft lay t s

-- at some moment the SCX-record s was finished, and done with its j-th node: it had let it go, or
-- the node was final, or had left
abbrev pub WasDoneWith : Layout → History → ℕ → ℕ → Type 0
WasDoneWith lay h s j = (m : History) × Extends h m × (value m (state s) ≢ 0) × (IsLetGo m s j ⊎ ((is_final (log lay m) (member m s j) ≡ true) ⊎ HasLeft m (member m s j)))

-- The node is what the SCX-record was to put in: its new node; or a leaf below that, where it
-- covers two nodes.
abbrev pub IsToBePutIn : History → ℕ → ℕ → Type 0
IsToBePutIn t s n = (n ≡ new t s) ⊎ ((count t s ≡ 2) × (is_leaf (value t) (new t s) ≡ false) × (side : Side) × (value t (child (new t s) side) ≡ n) × (is_leaf (value t) n ≡ true))

-- the node was taken by the pass o for an SCX-record that had begun and is aborted
pub record IsOfAborted (lay : Layout) (o : ℕ) (t : History) (n : ℕ) : Type 0 where
  pub own : IsOwnNode lay o n
  pub taken : IsTakenNode t n
  pub scx : ℕ
  pub real : scx ≢ 0
  pub begun : IsNamedScx t scx
  pub aborted : value t (state scx) ≡ 2
  pub put_in : IsToBePutIn t scx n

-- the node is the pass's own, which has taken it, and has never been in the tree or the trie
pub record IsUnborn (lay : Layout) (o : ℕ) (t : History) (n : ℕ) : Type 0 where
  pub own : IsOwnNode lay o n
  pub taken : IsTakenNode t n
  pub never : ¬ WasInTree t n

-- The node is the pass's own, which had taken it as it rested; and at the moment t since then it is
-- not in the tree or the trie. Whether it ever was there is left open.
pub record IsOut (lay : Layout) (o : ℕ) (rest t : History) (n : ℕ) : Type 0 where
  pub own : IsOwnNode lay o n
  pub taken : IsTakenNode rest n
  pub since : Extends t rest
  pub out : ¬ IsInTree t n

-- the SCX-record is the pass's own, which has taken it; it is finished, and no info has named it
pub record IsUnnamedScx (lay : Layout) (o : ℕ) (t : History) (s : ℕ) : Type 0 where
  pub own : IsOwnScx lay o s
  pub taken : IsTakenScx t s
  pub finished : value t (state s) ≢ 0
  pub unnamed : ¬ IsNamedScx t s

-- the record is a marked node
abbrev pub IsMarkedRecord : Record → History → Type 0
IsMarkedRecord (the_node n) t = IsMarkedNode t n
IsMarkedRecord (the_scx s) t = ⊥

-- The record is dead. A node that an aborted SCX-record was to put in is the pass p's own, and
-- waits until p has rested since; each other record, whosever it is, waits until each pass has.
abbrev pub IsDead : Layout → ℕ → Record → History → Type 0
IsDead lay p (the_node n) t = IsRemovedNode t n ⊎ (HasLeftUnmarked t n ⊎ IsOfAborted lay p t n)
IsDead lay p (the_scx s) t = IsLetGoScx lay t s
