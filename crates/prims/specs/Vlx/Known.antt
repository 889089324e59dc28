-- When a run of VLX may continue, what it waits for, and what its answer says.
use Rattle.std.specs.Prelude.{◌≡◌, ◌≢◌, ℕ, suc, ◌<◌, ◌≤◌, List, length, Option, Some, None}
use Rattle.histories.specs.Common.{Layout, Step, LoadInfo, Turn, Ask, Done, info, History, value, Extends, HasFound, Call}
use Rattle.prims.specs.FoundThere.{HasFoundThere}
use Rattle.prims.specs.Laws.Linked.{IsLinked}
use Rattle.prims.specs.Snap.{snap_at}
use Rattle.prims.specs.Moments.{IsMoment, IsAsFound, AreFinished, HasTakenOnly, HasChanged}
use Rattle.prims.specs.Llx.Known.{load}
use Rattle.prims.specs.declared.snap.Snap.{Snap}
use Rattle.prims.specs.declared.vlx.Vlx.{Vlx}
use Rattle.prims.specs.declared.vlx.Vlx.TheVariants.{Same, Changed}

-- each snapshot of the list may be used
abbrev pub AllLinked : Layout → History → List Snap → Type 0
AllLinked lay h snaps = (i : ℕ) → i < length snaps → IsLinked lay h (snap_at snaps i)

-- what a pass knows as a call over snapshots begins: each SCX-record that it has taken is finished,
-- and each snapshot has a moment
pub record IsClear (lay : Layout) (c : ℕ) (h : History) (snaps : List Snap) : Type 0 where
  pub over : AreFinished lay c 0 h
  pub found : (i : ℕ) → i < length snaps → (moment : History) × IsMoment lay h (snap_at snaps i) moment

-- a call over snapshots is under way: since its start its pass has taken no SCX-record but s
pub record HasBegun (c : Call) (h : History) (s : ℕ) (snaps : List Snap) : Type 0 where
  pub since : Extends h c.start
  pub clear : IsClear c.layout c.pass c.start snaps
  pub only : HasTakenOnly c.layout c.pass s c.start h

-- since the moment `start` the pass c has itself found the SCX-records of the first k snapshots in
-- the infos of their nodes
abbrev pub HasFoundFirst : ℕ → History → History → List Snap → ℕ → Type 0
HasFoundFirst c h start snaps k = (i : ℕ) → i < k → HasFoundThere c h start (snap_at snaps i).node.0 (snap_at snaps i).scx.0

-- as the call began, all snapshots were usable, and the infos of the first k nodes were what they
-- had found; the call has looked at each of these
pub record HasFoundUnchanged (c : Call) (h : History) (snaps : List Snap) (k : ℕ) : Type 0 where
  pub begun : HasBegun c h 0 snaps
  pub linked : AllLinked c.layout c.start snaps
  pub same : (i : ℕ) → i < k → value c.start (info (snap_at snaps i).node.0) ≡ (snap_at snaps i).scx.0
  pub asked : HasFoundFirst c.pass h c.start snaps k

-- a run over these snapshots, which has asked for n infos, has asked for that of the k-th last
pub record LooksAtInfos (c : Call) (h : History) (snaps : List Snap) (n k : ℕ) : Type 0 where
  pub looked : HasFoundUnchanged c h snaps k
  pub within : k < length snaps
  pub is : n ≡ suc k

-- a run of VLX, having asked for n infos, waits for this step
pub record VlxWaits (snaps : List Snap) (n : ℕ) (c : Call) (h : History) (step : Step) : Type 0 where
  pub index : ℕ
  pub looks : LooksAtInfos c h snaps n index
  pub asked : step ≡ load LoadInfo (info (snap_at snaps index).node.0)

-- what holds once the run's last load of an info has found v
pub record VlxIsTold (snaps : List Snap) (n : ℕ) (c : Call) (h : History) (v : ℕ) : Type 0 where
  pub index : ℕ
  pub looks : LooksAtInfos c h snaps n index
  pub told : value h (info (snap_at snaps index).node.0) ≡ v
  pub found : HasFound c.pass h c.start LoadInfo (snap_at snaps index).node.0 v

-- the run begins at this moment, over some usable snapshots
pub record IsFirstLook (snaps : List Snap) (n : ℕ) (c : Call) (h : History) : Type 0 where
  pub asked : n ≡ 0
  pub some : 0 < length snaps
  pub linked : AllLinked c.layout h snaps
  pub begins : h ≡ c.start
  pub clear : IsClear c.layout c.pass h snaps

-- a run of VLX may be called with this: with nothing at its start, then with what its step found
abbrev pub VlxIsReady : List Snap → ℕ → Call → History → Option ℕ → Type 0
VlxIsReady snaps n c h None = IsFirstLook snaps n c h
VlxIsReady snaps n c h (Some v) = VlxIsTold snaps n c h v

-- the call's answer `Same` is right: it has looked at each node, and as it began, each was as its
-- snapshot found it
pub record IsSame (c : Call) (h : History) (snaps : List Snap) : Type 0 where
  pub since : Extends h c.start
  pub linked : AllLinked c.layout c.start snaps
  pub info : (i : ℕ) → i < length snaps → value c.start (info (snap_at snaps i).node.0) ≡ (snap_at snaps i).scx.0
  pub found : (i : ℕ) → i < length snaps → IsAsFound c.layout h c.start (snap_at snaps i)
  pub asked : HasFoundFirst c.pass h c.start snaps (length snaps)

-- the call's answer `Changed` is right: another
-- SCX-record, v, has reached the node n since its snapshot
pub record IsFirstChange (c : Call) (h : History) (snaps : List Snap) (n v : ℕ) : Type 0 where
  pub changed : HasChanged c.layout c.pass LoadInfo h c.start snaps n v
  -- the info of n names it, and the snapshot had not
  pub info : value h (info n) ≡ v
  pub other : (snap_at snaps changed.index).scx.0 ≢ v
  -- the nodes before it were as their snapshots found them as the call began, and the call has
  -- looked at each
  pub before : (i : ℕ) → i < changed.index → IsAsFound c.layout h c.start (snap_at snaps i)
  pub asked : HasFoundFirst c.pass h c.start snaps changed.index

-- what an answer of VLX says: that all nodes were as
-- found, or which one another SCX-record has reached
abbrev pub VlxAnswers : List Snap → Call → History → Vlx → Type 0
VlxAnswers snaps c h Same = IsSame c h snaps
VlxAnswers snaps c h (Changed node s) = IsFirstChange c h snaps node.0 s.0

-- there is a next snapshot, and the run asks for the info of its node
pub record AsksNext (snaps : List Snap) (old now : ℕ) (turn : Turn Vlx) : Type 0 where
  pub within : old < length snaps
  pub stands : now ≡ suc old
  pub asked : turn ≡ Ask (load LoadInfo (info (snap_at snaps old).node.0))

-- there is none, and the run ends with `Same`
pub record IsThrough (snaps : List Snap) (old now : ℕ) (turn : Turn Vlx) : Type 0 where
  pub through : length snaps ≤ old
  pub stands : now ≡ old
  pub done : turn ≡ Done Same
