-- Calls of an SCX with a fresh cell that are at a place of its machine.
use Rattle.std.specs.Prelude.{◌≡◌, ℕ, List}
use Rattle.histories.specs.Common.{Layout, Step, History, Call}
use Rattle.template.specs.Common.{PutIsReady, PutWaits, PutAnswers, PutRun, Scx, ScxAt, Snap}
use Rattle.prims.specs.declared.put.PutAt.TheVariants.{Start, Scx as AtScx}
use Rattle.prims.specs.declared.scx.ScxAt.TheVariants.{Start as ScxStart}
use Rattle.prims.specs.declared.put.PutAt.{PutAt}
use Rattle.straight.specs.declared.put.PutTask.{PutTask}
use Rattle.tables.specs.declared.view.SeatedPass.{SeatedPass}
use Rattle.tables.specs.CallSteps.{AnyLeft}
use Rattle.tables.specs.Traces.{CallBegins, Waits, Told, Ends}

-- the two runs are of one SCX: of one SCX-record, update, call and value
abbrev pub IsSamePut : PutRun → PutRun → Type 0
IsSamePut old now = (now.scx.scx ≡ old.scx.scx) × (now.scx.update ≡ old.scx.update) × (now.scx.call ≡ old.scx.call) × (now.value ≡ old.value)

-- the run over these snapshots of what is to be put, that is at these places
abbrev pub standing_put : List Snap → PutTask → ScxAt → PutAt → PutRun
standing_put snaps put scx at = let task = put.task in record { value = put.value; scx = record { scx = task.scx; call = task.call; update = record { snaps = snaps; plan = task.plan; old = task.old; fresh = task.fresh }; at = scx }; at = at }

-- the same run at its start
abbrev pub fresh_put : List Snap → PutTask → PutRun
fresh_put snaps put = standing_put snaps put ScxStart Start

-- a run with its SCX at a place
abbrev pub scx_at : PutRun → ScxAt → PutRun
scx_at m at = record { value = m.value; scx = record { scx = m.scx.scx; call = m.scx.call; update = m.scx.update; at = at }; at = AtScx }

module _ (allows : Layout → History → ℕ → Type 0) (c : Call) (ps : List SeatedPass) (first : PutRun) where
  -- a call of SCX with a fresh cell begins with the run `first`
  abbrev pub SeatPutBegins : Type 0
  SeatPutBegins = CallBegins allows (PutIsReady allows) AnyLeft c ps first

  -- the call waits for this step, with the run at its place
  abbrev pub SeatPutWaits : PutRun → Step → Type 0
  SeatPutWaits = Waits allows (PutWaits allows) IsSamePut AnyLeft c ps first

  -- the step of the place has found v
  abbrev pub SeatPutTold : PutRun → ℕ → Type 0
  SeatPutTold = Told allows (PutWaits allows) IsSamePut AnyLeft c ps first (PutIsReady allows)

  -- the call has ended with this answer
  abbrev pub SeatPutEnds : PutRun → Scx → Type 0
  SeatPutEnds = Ends allows (PutWaits allows) IsSamePut AnyLeft c ps first PutAnswers
