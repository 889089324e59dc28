-- When a run of SCX may continue, what it waits for, and what its answer says.
use Rattle.std.specs.Prelude.{◌≡◌, ◌≢◌, ◌⊎◌, ℕ, suc, ◌<◌, if◌then◌else◌, List, [], ◌∷◌, length, map, Option, Some, None}
use Rattle.histories.specs.Common.{Layout, Row, Step, Store, Fill, Freeze, Side, ScxWord, Plan, New, Old, Member, Seen, member_index, scx, state, child, History, ◌⊳◌}
use Rattle.histories.specs.Common.{value, HasHeld, Extends, IsPlan, count_of, plan_finalizes, side_of, field_index_of, plan, new, old, member, seen, raw_count, IsOwnNode}
use Rattle.histories.specs.Common.{IsOwnScx, IsNamed, IsTakenScx, IsWin, HasWon, Entry, log, IsEntered, Turn, Ask, MemberIndex, ScxNo, Call, IsRun, MatchTurn, Descriptor}
use Rattle.arena.specs.declared.word.ScxWord.TheVariants.{Call as CallWord}
use Rattle.arena.specs.Fills.{IsOpenScx}
use Rattle.help.specs.declared.state.HelpRun.{HelpRun}
use Rattle.help.specs.Allowed.{IsAllowed}
use Rattle.help.specs.Help.Known.{IsBlocked, HelpIsReady, HelpWaits}
use Rattle.prims.specs.Snap.{child_of, snap_at}
use Rattle.prims.specs.Moments.{IsAsFound, HasChanged}
use Rattle.prims.specs.Vlx.Known.{AllLinked, HasBegun}
use Rattle.prims.specs.declared.snap.Snap.{Snap}
use Rattle.prims.specs.declared.scx.ScxRun.{ScxRun}
use Rattle.prims.specs.declared.scx.Scx.{Scx}
use Rattle.prims.specs.declared.scx.Scx.TheVariants.{Done, Lost}
use Rattle.prims.specs.declared.scx.ScxAt.{ScxAt}
use Rattle.prims.specs.declared.scx.ScxAt.TheVariants.{Start, Plan as AtPlan, New as AtNew, Old as AtOld, Member as AtMember, Seen as AtSeen, Call as AtCall, Help}
use Rattle.prims.specs.declared.update.Update.{Update}

-- what a run of SCX is to do: its SCX-record, the number of its call, and the update
pub record Job : Type 0 where
  pub scx : ScxNo
  pub call : ℕ
  pub update : Update

-- what this run is to do, whatever its place
abbrev pub job_of : ScxRun → Job
job_of m = record { scx = m.scx; call = m.call; update = m.update }

-- an update over different nodes, by a plan of as many, which
-- expects in its field what the snapshot found there
pub record IsUpdateOver (u : Update) : Type 0 where
  pub planned : IsPlan u.plan.0
  pub count : count_of u.plan.0 ≡ length u.snaps
  pub distinct : (i j : ℕ) → i < length u.snaps → j < length u.snaps → i ≢ j → (snap_at u.snaps i).node.0 ≢ (snap_at u.snaps j).node.0
  pub old : u.old.0 ≡ (child_of (snap_at u.snaps (field_index_of u.plan.0)) (side_of u.plan.0)).0

-- what each settled word of the SCX-record is to hold
abbrev pub wanted : Job → ScxWord → ℕ
wanted m Plan = m.update.plan.0
wanted m New = m.update.fresh.0
wanted m Old = m.update.old.0
wanted m (Member j) = (snap_at m.update.snaps j).node.0
wanted m (Seen j) = (snap_at m.update.snaps j).scx.0
wanted m CallWord = m.call
wanted m _ = 0

-- these settled words are what the SCX-record is to hold
pub record Says (d : Descriptor) (m : Job) : Type 0 where
  pub plan : d.plan ≡ m.update.plan.0
  pub new : d.new ≡ m.update.fresh.0
  pub old : d.old ≡ m.update.old.0
  pub member : (j : ℕ) → j < length m.update.snaps → d.member j ≡ (snap_at m.update.snaps j).node.0
  pub seen : (j : ℕ) → j < length m.update.snaps → d.seen j ≡ (snap_at m.update.snaps j).scx.0
  pub call : d.call ≡ m.call

-- what the pass c has in hand for an SCX: usable snapshots, an SCX-record and a fresh node of its
-- own that nothing names, and an update that the layer above allows
pub record InHand (allows : Layout → History → ℕ → Type 0) (lay : Layout) (c : ℕ) (h : History) (m : Job) : Type 0 where
  pub update : IsUpdateOver m.update
  pub linked : AllLinked lay h m.update.snaps
  pub is_open : IsOpenScx lay h c m.scx.0
  pub unfinished : value h (state m.scx.0) ≡ 0
  pub fresh : IsOwnNode lay c m.update.fresh.0
  pub unnamed : ¬ IsNamed lay h m.update.fresh.0
  pub in_no_field : (n : ℕ) (side : Side) → ¬ HasHeld h (child n side) m.update.fresh.0
  pub in_no_other : (u : ℕ) → u ≢ m.scx.0 → ¬ HasHeld h (scx u New) m.update.fresh.0
  pub allowed : (d : Descriptor) → Says d m → IsAllowed allows lay c h m.scx.0 d

-- a call over snapshots is on the SCX-record s, which was not taken as the call began
pub record IsUnderWay (c : Call) (h : History) (s : ℕ) (snaps : List Snap) : Type 0 where
  pub begun : HasBegun c h s snaps
  pub free : ¬ IsTakenScx c.start s

-- the word of the SCX-record that is filled at this place
abbrev pub part_at : ScxAt → ScxWord
part_at AtPlan = Plan
part_at AtNew = New
part_at AtOld = Old
part_at (AtMember j) = Member (member_index j)
part_at (AtSeen j) = Seen (member_index j)
part_at AtCall = CallWord
part_at _ = Plan

-- the words that are filled before this place, in an SCX-record over k nodes
abbrev pub IsFilled : ℕ → ScxAt → ScxWord → Type 0
IsFilled k AtNew Plan = Unit {0}
IsFilled k AtOld Plan = Unit {0}
IsFilled k AtOld New = Unit {0}
IsFilled k (AtMember j) Plan = Unit {0}
IsFilled k (AtMember j) New = Unit {0}
IsFilled k (AtMember j) Old = Unit {0}
IsFilled k (AtMember j) (Member i) = i < member_index j
IsFilled k (AtSeen j) Plan = Unit {0}
IsFilled k (AtSeen j) New = Unit {0}
IsFilled k (AtSeen j) Old = Unit {0}
IsFilled k (AtSeen j) (Member i) = i < k
IsFilled k (AtSeen j) (Seen i) = i < member_index j
IsFilled k AtCall Plan = Unit {0}
IsFilled k AtCall New = Unit {0}
IsFilled k AtCall Old = Unit {0}
IsFilled k AtCall (Member i) = i < k
IsFilled k AtCall (Seen i) = i < k
IsFilled k _ _ = ⊥

-- the words that are filled once the one of this place is too
abbrev pub IsFilledThen : ℕ → ScxAt → ScxWord → Type 0
IsFilledThen k at part = IsFilled k at part ⊎ (part_at at ≡ part)

-- those words of the SCX-record that are filled hold what they are to hold
abbrev pub HoldsWanted : History → Job → (ScxWord → Type 0) → Type 0
HoldsWanted h m P = (part : ScxWord) → P part → value h (scx m.scx.0 part) ≡ wanted m part

-- the place is one for the update's k nodes, where it is one for a node
abbrev pub IsWithin : ℕ → ScxAt → Type 0
IsWithin k (AtMember j) = member_index j < k
IsWithin k (AtSeen j) = member_index j < k
IsWithin k _ = Unit {0}

-- what holds while the run waits to fill the word of this place
pub record Fills (allows : Layout → History → ℕ → Type 0) (c : Call) (h : History) (m : Job) (at : ScxAt) : Type 0 where
  pub hand : InHand allows c.layout c.pass h m
  pub way : IsUnderWay c h m.scx.0 m.update.snaps
  pub within : IsWithin (length m.update.snaps) at
  pub filled : HoldsWanted h m (IsFilled (length m.update.snaps) at)

-- the fill of this word with what it is to hold
abbrev pub fill_step : Job → ScxWord → Step
fill_step m part = record { kind = Fill; word = scx m.scx.0 part; access = Store (wanted m part) }

-- the run waits for the fill of this place
pub record FillWaits (allows : Layout → History → ℕ → Type 0) (c : Call) (h : History) (m : Job) (at : ScxAt) (step : Step) : Type 0 where
  pub fills : Fills allows c h m at
  pub asked : step ≡ fill_step m (part_at at)

-- what holds once the word of this place is filled
pub record FillMade (allows : Layout → History → ℕ → Type 0) (c : Call) (h : History) (m : Job) (at : ScxAt) : Type 0 where
  pub hand : InHand allows c.layout c.pass h m
  pub way : IsUnderWay c h m.scx.0 m.update.snaps
  pub within : IsWithin (length m.update.snaps) at
  pub filled : HoldsWanted h m (IsFilledThen (length m.update.snaps) at)

-- the settled words of the pass's SCX-record s hold what the update wants
pub record HasFilled (c : Call) (h : History) (s number : ℕ) (u : Update) : Type 0 where
  pub own : IsOwnScx c.layout c.pass s
  pub way : IsUnderWay c h s u.snaps
  pub over : IsUpdateOver u
  pub planned : plan h s ≡ u.plan.0
  pub fresh : new h s ≡ u.fresh.0
  pub expected : old h s ≡ u.old.0
  pub members : (j : ℕ) → j < length u.snaps → member h s j ≡ (snap_at u.snaps j).node.0
  pub found : (j : ℕ) → j < length u.snaps → seen h s j ≡ (snap_at u.snaps j).scx.0
  pub called : value h (scx s CallWord) ≡ number

-- what holds while the run waits for this step at this place
abbrev pub ScxWaitsAt : (Layout → History → ℕ → Type 0) → Call → History → Job → ScxAt → Step → Type 0
ScxWaitsAt allows c h m Start step = ⊥
ScxWaitsAt allows c h m (Help help) step = HelpWaits allows c.layout c.pass help h step × (help.scx ≡ m.scx) × HasFilled c h m.scx.0 m.call m.update
ScxWaitsAt allows c h m at step = FillWaits allows c h m at step

-- what holds once the step of this place has found v
abbrev pub ScxIsToldAt : (Layout → History → ℕ → Type 0) → Call → History → Job → ScxAt → ℕ → Type 0
ScxIsToldAt allows c h m Start v = ⊥
ScxIsToldAt allows c h m (Help help) v = HelpIsReady allows c.layout c.pass help h (Some v) × (help.scx ≡ m.scx) × HasFilled c h m.scx.0 m.call m.update
ScxIsToldAt allows c h m at v = FillMade allows c h m at

-- the run of SCX waits for this step at its place
abbrev pub ScxWaits : (Layout → History → ℕ → Type 0) → ScxRun → Call → History → Step → Type 0
ScxWaits allows m c h step = ScxWaitsAt allows c h (job_of m) m.at step

-- the run of SCX may be called with this: with nothing at its start, then with what its step found
abbrev pub ScxIsReady : (Layout → History → ℕ → Type 0) → ScxRun → Call → History → Option ℕ → Type 0
ScxIsReady allows m c h None = (m.at ≡ Start) × InHand allows c.layout c.pass h (job_of m) × IsUnderWay c h m.scx.0 m.update.snaps
ScxIsReady allows m c h (Some v) = ScxIsToldAt allows c h (job_of m) m.at v

-- the nodes of the snapshots
abbrev pub nodes_of : List Snap → List ℕ
nodes_of snaps = map (λ (snap : Snap). snap.node.0) snaps

-- those of the snapshots' nodes that the plan word finalizes, where the first has the place j
abbrev pub removed_nodes : ℕ → List Snap → ℕ → List ℕ
removed_nodes p [] j = []
removed_nodes p (snap ∷ snaps) j =
    if plan_finalizes p j then snap.node.0 ∷ removed_nodes p snaps (suc j)
    else removed_nodes p snaps (suc j)

-- the entry of this update in the log, for a call of the pass c
abbrev pub update_entry : ℕ → ScxRun → Entry
update_entry c m =
    record {
      scx = m.scx.0;
      owner = c;
      call = m.call;
      members = nodes_of m.update.snaps;
      removed = removed_nodes m.update.plan.0 m.update.snaps 0;
      node = (snap_at m.update.snaps (field_index_of m.update.plan.0)).node.0;
      side = side_of m.update.plan.0;
      new = m.update.fresh.0;
    }

-- This row, made since the call's start, has put the update's entry into the log. Just before it
-- each node was as its snapshot found it, and the SCX-record said what the update is to do.
pub record IsEntryAt (c : Call) (h : History) (m : ScxRun) (row : Row) (before : History) : Type 0 where
  pub within : Extends h (row ⊳ before)
  pub since : Extends before c.start
  pub wins : IsWin before row m.scx.0
  pub logged : log c.layout (row ⊳ before) ≡ update_entry c.pass m ∷ log c.layout before
  pub found : (i : ℕ) → i < length m.update.snaps → IsAsFound c.layout h before (snap_at m.update.snaps i)
  pub planned : plan before m.scx.0 ≡ m.update.plan.0
  pub saw : (i : ℕ) → i < length m.update.snaps → seen before m.scx.0 i ≡ (snap_at m.update.snaps i).scx.0

-- the update's entry is in the log
pub record HasEntry (c : Call) (h : History) (m : ScxRun) : Type 0 where
  pub row : Row
  pub before : History
  pub is : IsEntryAt c h m row before

-- the SCX is done: it is committed, its update has won, and its entry is in the log
pub record IsDone (c : Call) (h : History) (m : ScxRun) : Type 0 where
  pub committed : value h (state m.scx.0) ≡ 1
  pub won : HasWon h m.scx.0
  pub entry : HasEntry c h m

-- the SCX is lost: it is aborted, has no entry, and another
-- SCX-record has reached the node n since its snapshot
pub record IsLost (c : Call) (h : History) (m : ScxRun) (n v : ℕ) : Type 0 where
  pub aborted : value h (state m.scx.0) ≡ 2
  pub no_entry : ¬ IsEntered (log c.layout h) m.scx.0
  pub blocked : IsBlocked c.pass h m.scx.0 n v
  pub changed : HasChanged c.layout c.pass Freeze h c.start m.update.snaps n v

-- what an answer of SCX says: its update is in the log,
-- or it is lost, at this node to this SCX-record
abbrev pub ScxAnswers : ScxRun → Call → History → Scx → Type 0
ScxAnswers m c h Done = IsDone c h m
ScxAnswers m c h (Lost node found) = IsLost c h m node.0 found.0

-- What its turns leave

-- the run goes to this place, keeps all else, and fills the word there
pub record FillsAt (old now : ScxRun) (turn : Turn Scx) (at : ScxAt) : Type 0 where
  pub stands : now ≡ record old { at = at }
  pub asked : turn ≡ Ask (fill_step (job_of old) (part_at at))

-- there is a node after the j-th, and the run fills its word next
pub record FillsNext (old now : ScxRun) (turn : Turn Scx) (j : MemberIndex) (place : MemberIndex → ScxAt) : Type 0 where
  pub next : MemberIndex
  pub is : member_index next ≡ suc (member_index j)
  pub within : member_index next < raw_count old.update.plan.0
  pub fills : FillsAt old now turn (place next)

-- the j-th node is the last, and the run fills the word after those of the nodes
pub record FillsLast (old now : ScxRun) (turn : Turn Scx) (j : MemberIndex) (at : ScxAt) : Type 0 where
  pub none : (member_index j < 3) × (suc (member_index j) < raw_count old.update.plan.0) → ⊥
  pub fills : FillsAt old now turn at

-- a turn of SCX is right: the run waits for the step that it asks, or the answer holds
abbrev pub ScxTurn : (Layout → History → ℕ → Type 0) → Call → History → ScxRun → Turn Scx → Type 0
ScxTurn allows c h m turn = MatchTurn turn (ScxWaits allows m c h) (ScxAnswers m c h)

-- a run of HELP of the SCX-record may be called with this, and its words hold what the update wants
pub record ScxHelps (allows : Layout → History → ℕ → Type 0) (c : Call) (h : History) (m : ScxRun) (help : HelpRun) (got : Option ℕ) : Type 0 where
  pub run : IsRun allows c.layout h
  pub ready : HelpIsReady allows c.layout c.pass help h got
  pub same : help.scx ≡ m.scx
  pub filled : HasFilled c h m.scx.0 m.call m.update
