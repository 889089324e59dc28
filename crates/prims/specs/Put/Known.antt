-- When a run of SCX with a fresh cell may continue, what it waits for, and what its answer says.
use Rattle.std.specs.Prelude.{◌≡◌, ℕ, ◌<◌, Option, Some, None}
use Rattle.histories.specs.Common.{Layout, Row, Step, Store, Fill, Side, node, child, first_value, History, ◌⊳◌, value, IsOwnNode, IsTakenNode, IsTakenScx, IsFillOfNode, Call, Descriptor}
use Rattle.help.specs.Allowed.{IsLater, IsAllowed}
use Rattle.prims.specs.BlankNodes.{IsBlank, WasBlank}
use Rattle.prims.specs.Cells.{AllowsAll}
use Rattle.prims.specs.Vlx.Known.{IsClear}
use Rattle.prims.specs.Scx.Known.{job_of, InHand, Says, IsUnderWay, IsDone, IsLost, ScxIsReady, ScxWaits}
use Rattle.prims.specs.declared.scx.ScxRun.{ScxRun}
use Rattle.prims.specs.declared.scx.Scx.{Scx as Answer}
use Rattle.prims.specs.declared.scx.Scx.TheVariants.{Done, Lost}
use Rattle.prims.specs.declared.scx.ScxAt.TheVariants.{Start as ScxStart}
use Rattle.prims.specs.declared.put.PutRun.{PutRun}
use Rattle.prims.specs.declared.put.PutAt.{PutAt}
use Rattle.prims.specs.declared.put.PutAt.TheVariants.{Start, Fill as AtFill, Scx}

-- what the pass has in hand before it fills its fresh node: an update
-- that the layer above will allow once that is done
pub record PutHand (allows : Layout → History → ℕ → Type 0) (lay : Layout) (c : ℕ) (h : History) (m : ScxRun) : Type 0 where
  pub hand : InHand AllowsAll lay c h (job_of m)
  pub start : m.at ≡ ScxStart
  pub in_order : (n : ℕ) → IsOwnNode lay c n → n < m.update.fresh.0 → IsTakenNode h n
  pub allowed : (k : History) (r : Row) (d : Descriptor) → IsLater c m.scx.0 h k → IsFillOfNode m.update.fresh.0 r → Says d (job_of m) → IsAllowed allows lay c (r ⊳ k) m.scx.0 d

-- the fill of the fresh node's value
abbrev pub put_step : PutRun → Step
put_step m = record { kind = Fill; word = node m.scx.update.fresh.0 first_value; access = Store m.value }

-- the fresh node n is of the pass's share and taken, has its value, and except for that was blank
-- since the call's start as long as no update of s had won
pub record HasValue (c : Call) (h : History) (s n v : ℕ) : Type 0 where
  pub own : IsOwnNode c.layout c.pass n
  pub taken : IsTakenNode h n
  pub value : value h (node n first_value) ≡ v
  pub blank : WasBlank c.start h s n

-- what holds while the run waits for this step at this place
abbrev pub PutWaitsAt : (Layout → History → ℕ → Type 0) → Call → History → PutRun → PutAt → Step → Type 0
PutWaitsAt allows c h m Start step = ⊥
PutWaitsAt allows c h m AtFill step = PutHand allows c.layout c.pass h m.scx × IsUnderWay c h m.scx.scx.0 m.scx.update.snaps × (step ≡ put_step m) × WasBlank c.start h m.scx.scx.0 m.scx.update.fresh.0
PutWaitsAt allows c h m Scx step = HasValue c h m.scx.scx.0 m.scx.update.fresh.0 m.value × ScxWaits allows m.scx c h step

-- what holds once the step of this place has found v
abbrev pub PutIsToldAt : (Layout → History → ℕ → Type 0) → Call → History → PutRun → PutAt → ℕ → Type 0
PutIsToldAt allows c h m Start v = ⊥
PutIsToldAt allows c h m AtFill v = HasValue c h m.scx.scx.0 m.scx.update.fresh.0 m.value × (m.scx.at ≡ ScxStart) × InHand allows c.layout c.pass h (job_of m.scx) × IsUnderWay c h m.scx.scx.0 m.scx.update.snaps
PutIsToldAt allows c h m Scx v = HasValue c h m.scx.scx.0 m.scx.update.fresh.0 m.value × ScxIsReady allows m.scx c h (Some v)

-- the run waits for this step at its place
abbrev pub PutWaits : (Layout → History → ℕ → Type 0) → PutRun → Call → History → Step → Type 0
PutWaits allows m c h step = PutWaitsAt allows c h m m.at step

-- the run begins at this moment, with a usable update in
-- hand, a blank node, and an SCX-record not taken
pub record IsFirstPut (allows : Layout → History → ℕ → Type 0) (m : PutRun) (c : Call) (h : History) : Type 0 where
  pub stands : m.at ≡ Start
  pub hand : PutHand allows c.layout c.pass h m.scx
  pub begins : h ≡ c.start
  pub clear : IsClear c.layout c.pass h m.scx.update.snaps
  pub free : ¬ IsTakenScx h m.scx.scx.0
  pub blank : IsBlank h m.scx.scx.0 m.scx.update.fresh.0

-- the run may be called with this: with nothing at its start, then with what its step found
abbrev pub PutIsReady : (Layout → History → ℕ → Type 0) → PutRun → Call → History → Option ℕ → Type 0
PutIsReady allows m c h None = IsFirstPut allows m c h
PutIsReady allows m c h (Some v) = PutIsToldAt allows c h m m.at v

-- the update is in the log; just before its entry the fields
-- of the fresh node were 0, and it had its value
pub record IsPut (c : Call) (h : History) (m : PutRun) : Type 0 where
  pub done : IsDone c h m.scx
  pub empty : (side : Side) → value done.entry.before (child m.scx.update.fresh.0 side) ≡ 0
  pub value : value done.entry.before (node m.scx.update.fresh.0 first_value) ≡ m.value

-- what the answer says of the SCX: its update is in the log, with the node as filled, or it is lost
abbrev pub PutEnds : PutRun → Call → History → Answer → Type 0
PutEnds m c h Done = IsPut c h m
PutEnds m c h (Lost node found) = IsLost c h m.scx node.0 found.0

-- what an answer says: the fresh node is taken and has its value, and the SCX has ended so
abbrev pub PutAnswers : PutRun → Call → History → Answer → Type 0
PutAnswers m c h a = HasValue c h m.scx.scx.0 m.scx.update.fresh.0 m.value × PutEnds m c h a
