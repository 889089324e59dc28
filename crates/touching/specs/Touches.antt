-- Which words a call touches: words of nodes and of SCX-records to which it may come.
use Rattle.std.specs.Prelude.{◌≡◌, ◌<◌, ℕ, List, length}
use Rattle.histories.specs.Common.{Layout, Word, Node, Scx, info, History, value, count, member, IsOwnNode, IsOwnScx, IsTakenNode, IsTakenScx, AreFrozen, IsInProgress, Call}
use Rattle.prims.specs.Laws.InTheWay.{HasBeen}
use Rattle.prims.specs.Snap.{snap_at}
use Rattle.prims.specs.declared.snap.Snap.{Snap}

-- at a moment of the call, from its start on, the SCX-record was in progress
abbrev pub WasInProgress : Call → History → ℕ → Type 0
WasInProgress c h s = HasBeen h c.start (λ m. IsInProgress m s)

-- the SCX-record covers the node, and all that it covers before that one it has frozen
pub record HasReached (h : History) (s n : ℕ) : Type 0 where
  pub index : ℕ
  pub within : index < count h s
  pub is : member h s index ≡ n
  pub earlier : AreFrozen h s index

-- so it was, and had reached this node
abbrev pub WasCovered : Call → History → ℕ → ℕ → Type 0
WasCovered c h s n = HasBeen h c.start (λ m. IsInProgress m s × HasReached m s n)

-- P says which nodes are so after a history: not final, or in the tree
module _ (P : Layout → History → ℕ → Type 0) where
  -- at a moment of the call the node was so
  abbrev pub WasSo : Call → History → ℕ → Type 0
  WasSo c h n = HasBeen h c.start (λ m. P c.layout m n)

  -- the call may come to the node
  pub data TouchesNode (c : Call) (h : History) (n : ℕ) : Type 0 where
    -- it was so at a moment of the call
    was_so : WasSo c h n → TouchesNode c h n
    -- an SCX-record covers it that was in progress at one, and had frozen all before it
    covered : (s : ℕ) → WasCovered c h s n → TouchesNode c h n
    -- it is the pass's own, and was not taken as the call began
    own_node : IsOwnNode c.layout c.pass n → ¬ IsTakenNode c.start n → TouchesNode c h n

  -- the call may come to the SCX-record
  pub data TouchesScx (c : Call) (h : History) (s : ℕ) : Type 0 where
    -- at a moment of the call the info of a node named it that was so at one
    named : (n : ℕ) → WasSo c h n → HasBeen h c.start (λ m. value m (info n) ≡ s) → TouchesScx c h s
    -- it was in progress at one
    in_progress : WasInProgress c h s → TouchesScx c h s
    -- it is the pass's own, and was not taken as the call began
    own_scx : IsOwnScx c.layout c.pass s → ¬ IsTakenScx c.start s → TouchesScx c h s

  -- the call may come to the word: its node or SCX-record is one of those
  abbrev pub Touches : Call → History → Word → Type 0
  Touches c h (Node n part) = TouchesNode c h n.0
  Touches c h (Scx s part) = TouchesScx c h s.0

  -- What a caller gives

  -- each of the nodes of these snapshots was so
  abbrev pub WereSo : Call → History → List Snap → Type 0
  WereSo c h snaps = (i : ℕ) → i < length snaps → WasSo c h (snap_at snaps i).node.0

  -- an SCX-record that may be helped: it was in progress in the call; or it is the pass's own, was
  -- not taken as the call began, and covers nodes that were so
  pub data MayBeHelped (c : Call) (h : History) (s : ℕ) : Type 0 where
    running : WasInProgress c h s → MayBeHelped c h s
    own : IsOwnScx c.layout c.pass s → ¬ IsTakenScx c.start s → ((j : ℕ) → j < count h s → WasSo c h (member h s j)) → MayBeHelped c h s
