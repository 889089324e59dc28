-- When a run of HELP may continue, what it waits for, and what its answer says.
use Rattle.std.specs.Prelude.{◌≡◌, ◌≢◌, ℕ, suc, ◌<◌, ◌≤◌, true, false, Bool, ◌⊎◌, List, Option, Some, None, slice_index_or}
use Rattle.histories.specs.Common.{Layout, NodeNo, MemberIndex, ScxNo, Turn, Ask, Row, Step, Load, Store, Exchange, LoadSettled, LoadAllFrozen, Freeze}
use Rattle.histories.specs.Common.{SetFrozen, Mark, Update, Commit, Abort, ScxWord, AllFrozen, Plan, New, Old, Member, Seen, member_index, scx, info}
use Rattle.histories.specs.Common.{marked, state, History, value, IsLastStep, plan, member, seen, new, old, count, scx_finalizes, field, raw_count}
use Rattle.histories.specs.Common.{plan_finalizes, IsNamed, IsNamedScx, IsOwnScx, AreFrozen, HasWon, log, IsEntered, descriptor, IsOver, IsStarted, IsStuck}
use Rattle.arena.specs.Lawful.{AllAreFrozen}
use Rattle.help.specs.Allowed.{IsPrepared}
use Rattle.help.specs.declared.state.HelpRun.{HelpRun}
use Rattle.help.specs.declared.state.HelpAt.{HelpAt}
use Rattle.help.specs.declared.state.HelpAt.TheVariants.{Start, Plan as AtPlan, Member as AtMember, Seen as AtSeen, Freeze as AtFreeze, AllFrozen as AtAllFrozen, Abort as AtAbort, SetFrozen as AtSetFrozen, Mark as AtMark, New as AtNew, Old as AtOld, Update as AtUpdate, Commit as AtCommit}

-- the run may continue with s: an info word names it or has named
-- it, or it is the owner's own and ready to begin
abbrev pub IsServed : (Layout → History → ℕ → Type 0) → Layout → ℕ → History → ℕ → Type 0
IsServed allows lay c h s = IsStarted h s ⊎ IsPrepared allows lay c h s

-- what a run of HELP has read of its SCX-record so far: the
-- plan word, and the nodes, one after the other
pub record Reading : Type 0 where
  pub scx : ℕ
  pub plan : ℕ
  pub members : List NodeNo

-- what a run of HELP has read, without its place
abbrev pub reading : HelpRun → Reading
reading m = record { scx = m.scx.0; plan = m.plan.0; members = m.members }

-- the number of the i-th node in the list, 0 beyond its end
abbrev pub node_at : List NodeNo → ℕ → ℕ
node_at nodes i = (slice_index_or nodes i record { 0 = 0 }).0

-- the first k nodes that the run has read are those of its SCX-record
abbrev pub HasReadMembers : Reading → History → ℕ → Type 0
HasReadMembers m h k = (i : ℕ) → i < k → node_at m.members i ≡ member h m.scx i

-- on its way to freeze the j-th node: those before it
-- were frozen, and the first k nodes have been read
pub record Freezes (allows : Layout → History → ℕ → Type 0) (lay : Layout) (c : ℕ) (h : History) (m : Reading) (j k : ℕ) : Type 0 where
  pub served : IsServed allows lay c h m.scx
  pub plan : plan h m.scx ≡ m.plan
  pub within : j < count h m.scx
  pub frozen : AreFrozen h m.scx j
  pub read : HasReadMembers m h k

-- the pass c owns s, which has never begun, and the info of its first node is no longer what the
-- snapshot found there: its first freeze is lost
pub record HasLostFirstFreeze (lay : Layout) (c : ℕ) (h : History) (s : ℕ) : Type 0 where
  pub own : IsOwnScx lay c s
  pub free : ¬ IsNamedScx h s
  pub some : 0 < count h s
  pub named : IsNamed lay h (member h s 0)
  pub rest : value h (state (seen h s 0)) ≢ 0
  pub passed : value h (info (member h s 0)) ≢ seen h s 0

-- the last freeze that the pass c has tried was of the node n, which s covers, and found v there,
-- which is neither what the snapshot had found nor s
pub record IsBlocked (c : ℕ) (h : History) (s n v : ℕ) : Type 0 where
  pub index : ℕ
  pub within : index < count h s
  pub is : member h s index ≡ n
  pub other : v ≢ seen h s index
  pub not_own : v ≢ s
  pub row : Row
  pub before : History
  pub last : IsLastStep c h Freeze n row before
  -- s covered that node already when the freeze was tried
  pub covered : index < count before s
  pub found : value before (info n) ≡ v

-- the freeze of the j-th node has failed, with v in its info, and s will win no freeze any more: it
-- can never freeze all its nodes or is committed, or its first freeze is lost
pub record Blocked (lay : Layout) (c : ℕ) (h : History) (m : Reading) (j v : ℕ) : Type 0 where
  pub over : (IsStarted h m.scx × IsOver h m.scx) ⊎ HasLostFirstFreeze lay c h m.scx
  pub blocked : IsBlocked c h m.scx (node_at m.members j) v

-- the same where s is not committed, so that it may be
-- aborted: one of its nodes can never be frozen
pub record Aborts (lay : Layout) (c : ℕ) (h : History) (m : Reading) (j v : ℕ) : Type 0 where
  pub stuck : (IsStarted h m.scx × IsStuck (descriptor h m.scx) h m.scx) ⊎ HasLostFirstFreeze lay c h m.scx
  pub blocked : IsBlocked c h m.scx (node_at m.members j) v

-- s has begun, all its nodes were frozen for it, and the run has read all of them
pub record Frozen (h : History) (m : Reading) : Type 0 where
  pub started : IsStarted h m.scx
  pub plan : plan h m.scx ≡ m.plan
  pub frozen : AllAreFrozen h m.scx
  pub read : HasReadMembers m h (count h m.scx)

-- `allfrozen` of s is set, and those of its first j nodes that it finalizes are marked
pub record Marks (h : History) (m : Reading) (j : ℕ) : Type 0 where
  pub started : IsStarted h m.scx
  pub plan : plan h m.scx ≡ m.plan
  pub read : HasReadMembers m h (count h m.scx)
  pub flag : value h (scx m.scx AllFrozen) ≡ 1
  pub marked : (i : ℕ) → i < j → i < count h m.scx → scx_finalizes h m.scx i ≡ true → value h (marked (member h m.scx i)) ≡ 1

-- `allfrozen` of s is set, and all nodes that it finalizes are marked
abbrev pub Marked : History → Reading → Type 0
Marked h m = Marks h m (count h m.scx)

-- what holds while the run waits at this place
abbrev pub HelpKnows : (Layout → History → ℕ → Type 0) → Layout → ℕ → History → Reading → HelpAt → Type 0
HelpKnows allows lay c h m Start = ⊥
HelpKnows allows lay c h m AtPlan = IsServed allows lay c h m.scx
HelpKnows allows lay c h m (AtMember j) = Freezes allows lay c h m (member_index j) (member_index j)
HelpKnows allows lay c h m (AtSeen j) = Freezes allows lay c h m (member_index j) (suc (member_index j))
HelpKnows allows lay c h m (AtFreeze j v) = Freezes allows lay c h m (member_index j) (suc (member_index j)) × (seen h m.scx (member_index j) ≡ v)
HelpKnows allows lay c h m (AtAllFrozen j v) = Blocked lay c h m (member_index j) v
HelpKnows allows lay c h m (AtAbort j v) = Aborts lay c h m (member_index j) v
HelpKnows allows lay c h m AtSetFrozen = Frozen h m
HelpKnows allows lay c h m (AtMark j) = Marks h m (member_index j) × (member_index j < count h m.scx) × (scx_finalizes h m.scx (member_index j) ≡ true)
HelpKnows allows lay c h m AtNew = Marked h m
HelpKnows allows lay c h m (AtOld v) = Marked h m × (new h m.scx ≡ v)
HelpKnows allows lay c h m AtUpdate = Marked h m
HelpKnows allows lay c h m AtCommit = IsStarted h m.scx × HasWon h m.scx

-- the load of a settled word of s
abbrev pub settled_load : ℕ → ScxWord → Step
settled_load s part = record { kind = LoadSettled; word = scx s part; access = Load }

-- the step that a run for s waits for at this place
abbrev pub help_step : History → ℕ → HelpAt → Step
help_step h s Start = settled_load s Plan
help_step h s AtPlan = settled_load s Plan
help_step h s (AtMember j) = settled_load s (Member (member_index j))
help_step h s (AtSeen j) = settled_load s (Seen (member_index j))
help_step h s (AtFreeze j v) = record { kind = Freeze; word = info (member h s (member_index j)); access = Exchange (seen h s (member_index j)) s }
help_step h s (AtAllFrozen j v) = record { kind = LoadAllFrozen; word = scx s AllFrozen; access = Load }
help_step h s (AtAbort j v) = record { kind = Abort; word = state s; access = Store 2 }
help_step h s AtSetFrozen = record { kind = SetFrozen; word = scx s AllFrozen; access = Store 1 }
help_step h s (AtMark j) = record { kind = Mark; word = marked (member h s (member_index j)); access = Store 1 }
help_step h s AtNew = settled_load s New
help_step h s (AtOld v) = settled_load s Old
help_step h s AtUpdate = record { kind = Update; word = field h s; access = Exchange (old h s) (new h s) }
help_step h s AtCommit = record { kind = Commit; word = state s; access = Store 1 }

-- at this place the run may wait for this step: what the
-- place needs holds, and the step is the place's
pub record HelpWaitsAt (allows : Layout → History → ℕ → Type 0) (lay : Layout) (c : ℕ) (h : History) (m : Reading) (at : HelpAt) (step : Step) : Type 0 where
  pub known : HelpKnows allows lay c h m at
  pub asked : step ≡ help_step h m.scx at

-- the run waits for this step at its place
abbrev pub HelpWaits : (Layout → History → ℕ → Type 0) → Layout → ℕ → HelpRun → History → Step → Type 0
HelpWaits allows lay c m h step = HelpWaitsAt allows lay c h (reading m) m.at step

-- the freeze of the j-th node has found v where `expected` was expected
pub record HasTried (lay : Layout) (c : ℕ) (h : History) (m : Reading) (j v expected : ℕ) : Type 0 where
  pub plan : plan h m.scx ≡ m.plan
  pub within : j < count h m.scx
  pub read : HasReadMembers m h (suc j)
  -- it was frozen for s, now or by another client before
  pub won : (v ≡ expected) ⊎ (v ≡ m.scx) → IsStarted h m.scx × AreFrozen h m.scx (suc j)
  pub lost : v ≢ expected → v ≢ m.scx → Blocked lay c h m j v

-- what holds once the step of this place has found v
abbrev pub HelpIsTold : (Layout → History → ℕ → Type 0) → Layout → ℕ → History → Reading → HelpAt → ℕ → Type 0
HelpIsTold allows lay c h m Start v = ⊥
HelpIsTold allows lay c h m AtPlan v = IsServed allows lay c h m.scx × (plan h m.scx ≡ v)
HelpIsTold allows lay c h m (AtMember j) v = Freezes allows lay c h m (member_index j) (member_index j) × (member h m.scx (member_index j) ≡ v)
HelpIsTold allows lay c h m (AtSeen j) v = Freezes allows lay c h m (member_index j) (suc (member_index j)) × (seen h m.scx (member_index j) ≡ v)
HelpIsTold allows lay c h m (AtFreeze j expected) v = HasTried lay c h m (member_index j) v expected
HelpIsTold allows lay c h m (AtAllFrozen j found) v = Blocked lay c h m (member_index j) found × (value h (scx m.scx AllFrozen) ≡ v)
HelpIsTold allows lay c h m (AtAbort j found) v = (value h (state m.scx) ≡ 2) × IsBlocked c h m.scx (node_at m.members (member_index j)) found
HelpIsTold allows lay c h m AtSetFrozen v = Marks h m 0
HelpIsTold allows lay c h m (AtMark j) v = Marks h m (suc (member_index j))
HelpIsTold allows lay c h m AtNew v = Marked h m × (new h m.scx ≡ v)
HelpIsTold allows lay c h m (AtOld found) v = Marked h m × (new h m.scx ≡ found) × (old h m.scx ≡ v)
HelpIsTold allows lay c h m AtUpdate v = IsStarted h m.scx × HasWon h m.scx
HelpIsTold allows lay c h m AtCommit v = value h (state m.scx) ≡ 1

-- the run may be called with this: with nothing at its start, then with what its step found
abbrev pub HelpIsReady : (Layout → History → ℕ → Type 0) → Layout → ℕ → HelpRun → History → Option ℕ → Type 0
HelpIsReady allows lay c m h None = (m.at ≡ Start) × IsServed allows lay c h m.scx.0
HelpIsReady allows lay c m h (Some v) = HelpIsTold allows lay c h (reading m) m.at v

-- the run is at its abort, and this is what kept it from freezing a node
abbrev pub HasNoted : ℕ → History → Reading → HelpAt → Type 0
HasNoted c h m (AtAbort j found) = IsBlocked c h m.scx (node_at m.members (member_index j)) found
HasNoted c h m _ = ⊥

-- the run has answered false: s is aborted, has no entry in the
-- log, and a freeze of one of its nodes has failed
pub record HasAborted (lay : Layout) (c : ℕ) (h : History) (m : Reading) (at : HelpAt) : Type 0 where
  pub aborted : value h (state m.scx) ≡ 2
  pub no_entry : ¬ IsEntered (log lay h) m.scx
  pub blocked : HasNoted c h m at

-- what the answer says: true, that s is committed; false, that it is aborted and why
abbrev pub HelpAnswers : Layout → ℕ → HelpRun → History → Bool → Type 0
HelpAnswers lay c m h true = value h (state m.scx.0) ≡ 1
HelpAnswers lay c m h false = HasAborted lay c h (reading m) m.at

-- the node that could not be frozen and the SCX-record that its info
-- named, once the run has aborted; else 0 and 0
abbrev pub blocked_at : List NodeNo → HelpAt → NodeNo × ScxNo
blocked_at nodes (AtAbort j found) = (slice_index_or nodes (member_index j) record { 0 = 0 }, record { 0 = found })
blocked_at nodes _ = (record { 0 = 0 }, record { 0 = 0 })

-- the run goes to this place, keeps all else, and asks for this step
pub record HelpAsks (old now : HelpRun) (turn : Turn Bool) (at : HelpAt) (step : Step) : Type 0 where
  pub stands : now ≡ record old { at = at }
  pub asked : turn ≡ Ask step

-- the number of this place among the four, or 4 for none
abbrev pub first_place : Option MemberIndex → ℕ
first_place None = 4
first_place (Some j) = member_index j

-- the plan covers a node after the j-th, and the run asks for its `v` word next
pub record HasNext (old now : HelpRun) (turn : Turn Bool) (j : MemberIndex) : Type 0 where
  pub next : MemberIndex
  pub is : member_index next ≡ suc (member_index j)
  pub within : member_index next < raw_count old.plan.0
  pub asks : HelpAsks old now turn (AtMember next) (settled_load old.scx.0 (Member (member_index next)))

-- the j-th node is the last that the plan covers, and the run asks to set `allfrozen` next
pub record IsLast (old now : HelpRun) (turn : Turn Bool) (j : MemberIndex) : Type 0 where
  pub none : (member_index j < 3) × (suc (member_index j) < raw_count old.plan.0) → ⊥
  pub asks : HelpAsks old now turn AtSetFrozen record { kind = SetFrozen; word = scx old.scx.0 AllFrozen; access = Store 1 }

-- the run asks to mark the first node to be finalized from the place `from` on
pub record MarksNext (old now : HelpRun) (turn : Turn Bool) (from : ℕ) : Type 0 where
  pub next : MemberIndex
  pub behind : from ≤ member_index next
  pub is : plan_finalizes old.plan.0 (member_index next) ≡ true
  pub first : (i : ℕ) → from ≤ i → i < member_index next → plan_finalizes old.plan.0 i ≡ false
  pub asks : HelpAsks old now turn (AtMark next) record { kind = Mark; word = marked (node_at old.members (member_index next)); access = Store 1 }

-- no node is to be finalized from the place `from` on, and the run asks for `new`
pub record MarksNone (old now : HelpRun) (turn : Turn Bool) (from : ℕ) : Type 0 where
  pub none : (i : ℕ) → from ≤ i → i < 4 → plan_finalizes old.plan.0 i ≡ false
  pub asks : HelpAsks old now turn AtNew (settled_load old.scx.0 New)
