-- What snapshots say of moments: when a node was as its
-- snapshot found it, and who was in the way since.
use Rattle.std.specs.Prelude.{◌≡◌, ◌≢◌, ℕ, ◌<◌, false, List, length}
use Rattle.histories.specs.Common.{Layout, Kind, info, state, History, value, Extends, IsNamed, IsOwnScx, IsOthersScx, IsTakenScx, log, last, is_final, IsMember, IsInProgress, WasInTheWay, HasFound}
use Rattle.prims.specs.Snap.{snap_at}
use Rattle.prims.specs.declared.snap.Snap.{Snap}

-- at the moment k of the history the node was as the snapshot found it: named and not final, with
-- an info that named the snapshot's SCX-record, which was finished
pub record IsMoment (lay : Layout) (h : History) (snap : Snap) (k : History) : Type 0 where
  pub within : Extends h k
  pub named : IsNamed lay k snap.node.0
  pub rest : value k (state snap.scx.0) ≢ 0
  pub info : value k (info snap.node.0) ≡ snap.scx.0
  pub not_final : is_final (log lay k) snap.node.0 ≡ false

-- at k the node is not final, and its last entry is still that of each
-- moment at which it was as the snapshot found it
pub record IsAsFound (lay : Layout) (h k : History) (snap : Snap) : Type 0 where
  pub last : (moment : History) → IsMoment lay h snap moment → last (log lay k) snap.node.0 ≡ last (log lay moment) snap.node.0
  pub not_final : is_final (log lay k) snap.node.0 ≡ false

-- the snapshot has a moment since which no SCX-record of the
-- pass c has covered its node while in progress
pub record IsLeftAlone (lay : Layout) (c : ℕ) (h : History) (snap : Snap) : Type 0 where
  pub moment : History
  pub found : IsMoment lay h snap moment
  pub idle : (k : History) → Extends h k → Extends k moment → (t : ℕ) → IsOwnScx lay c t → IsInProgress k t → ¬ IsMember k t snap.node.0

-- the pass c has left each of these snapshots alone
abbrev pub AreLeftAlone : Layout → ℕ → History → List Snap → Type 0
AreLeftAlone lay c h snaps = (i : ℕ) → i < length snaps → IsLeftAlone lay c h (snap_at snaps i)

-- each SCX-record that the pass c has taken is finished, but perhaps s
abbrev pub AreFinished : Layout → ℕ → ℕ → History → Type 0
AreFinished lay c s h = (t : ℕ) → IsOwnScx lay c t → t ≢ s → IsTakenScx h t → value h (state t) ≢ 0

-- since the moment `start` the pass c has taken no SCX-record of its own but s
abbrev pub HasTakenOnly : Layout → ℕ → ℕ → History → History → Type 0
HasTakenOnly lay c s start h = (t : ℕ) → IsOwnScx lay c t → t ≢ s → ¬ IsTakenScx start t → ¬ IsTakenScx h t

-- another SCX-record, s, has reached the node since the snapshot, by a call of the pass c that
-- began at `start`
pub record IsBlamed (lay : Layout) (c : ℕ) (now start : History) (snap : Snap) (s : ℕ) : Type 0 where
  -- at some step after each moment at which the node was as found, it was in progress over the
  -- node
  pub in_the_way : (moment : History) → IsMoment lay now snap moment → WasInTheWay now moment snap.node.0 s
  -- it is another pass's, where this one had left the snapshot alone as its call began
  pub others : IsLeftAlone lay c start snap → IsOthersScx lay c s

-- another SCX-record, s, has reached node n since the snapshot of it, one of these, was taken
pub record HasChanged (lay : Layout) (c : ℕ) (kind : Kind) (now start : History) (snaps : List Snap) (n s : ℕ) : Type 0 where
  pub index : ℕ
  pub within : index < length snaps
  pub is : (snap_at snaps index).node.0 ≡ n
  -- the call's last step of this kind has found it in the node's info
  pub found : HasFound c now start kind n s
  pub blamed : IsBlamed lay c now start (snap_at snaps index) s
