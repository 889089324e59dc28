-- LLXs that are at a place: as calls of their own, and of whatever machine looks at nodes.
use Rattle.std.specs.Prelude.{◌≡◌, ℕ, List, Bool, Some}
use Rattle.histories.specs.Common.{Layout, NodeNo, Step, History, Call, IsRun, ScxNo, LoadMarked, LoadState, marked, state}
use Rattle.template.specs.Common.{LlxIsReady, LlxWaits, LlxAnswers, load, HasJustLooked, IsSnapshot, Llx, LlxRun, LlxAt, HasFoundThere, Snap}
use Rattle.prims.specs.declared.llx.LlxAt.TheVariants.{Start, Marked, StateAgain}
use Rattle.tables.specs.declared.view.SeatedPass.{SeatedPass}
use Rattle.tables.specs.Traces.{CallBegins, Waits, Ends}
use Rattle.straight.specs.CallKinds.{Calls}
use Rattle.tables.specs.CallSteps.{AnyLeft}
use Rattle.straight.specs.Inside.{Inner, Inside, InnerIsTold, InnerWaits}

-- the run of LLX of the node that is at a place
abbrev pub llx_at : NodeNo → LlxAt → LlxRun
llx_at node at = record { node = node; at = at }

-- the two runs of LLX are of one node
abbrev pub IsSameNode : LlxRun → LlxRun → Type 0
IsSameNode old now = now.node ≡ old.node

module _ (allows : Layout → History → ℕ → Type 0) (c : Call) (ps : List SeatedPass) (node : NodeNo) where
  -- a call of LLX of the node begins
  abbrev pub SeatLlxBegins : Type 0
  SeatLlxBegins = CallBegins allows (LlxIsReady allows) AnyLeft c ps (llx_at node Start)

  -- the call waits for this step at this place
  abbrev pub SeatLlxWaits : LlxAt → Step → Type 0
  SeatLlxWaits at = Waits allows (LlxWaits allows) IsSameNode AnyLeft c ps (llx_at node Start) (llx_at node at)

  -- the call has ended with this answer
  abbrev pub SeatLlxEnds : Llx → Type 0
  SeatLlxEnds a = (m : LlxRun) × Ends allows (LlxWaits allows) IsSameNode AnyLeft c ps (llx_at node Start) LlxAnswers m a

-- an LLX of a node, in a call of its own, with its conditions for the runs that
-- `inner` allows
abbrev pub inner_llx : (Layout → History → ℕ → Type 0) → Inner LlxRun
inner_llx inner = record {
  Context = Call;
  told = λ d m h v. IsRun inner d.layout h × LlxIsReady inner m d h (Some v);
  waits = λ d m h s. LlxWaits inner m d h s;
  goes = λ old v now. now.node ≡ old.node;
}

-- a call of a machine that looks at nodes
abbrev pub Looker : {M : Type 0} → (Layout → History → ℕ → Type 0) → Calls M → Type 0
Looker inner o = Inside o (inner_llx inner)

module _ {M : Type 0} {inner : Layout → History → ℕ → Type 0} {o : Calls M} (k : Looker inner o) (ps : List SeatedPass) (node : NodeNo) where
  -- its LLX of the node waits to load the node's mark, with which it begins
  abbrev pub LoadsMark : Type 0
  LoadsMark = InnerWaits k ps (llx_at node Marked) (load LoadMarked (marked node.0))

  -- something was in the way, and it waits to load the state of this SCX-record again
  abbrev pub LoadsStateAgain : Bool → ScxNo → Type 0
  LoadsStateAgain b s = InnerWaits k ps (llx_at node (StateAgain b s)) (load LoadState (state s.0))

-- the last step of its LLX of the node has found what makes this snapshot right, and its
-- SCX-record one that the call has found in the node's info; the call has just looked at the node
pub record LookerSnaps {M : Type 0} {inner : Layout → History → ℕ → Type 0} {o : Calls M} (k : Looker inner o) (ps : List SeatedPass) (node : NodeNo) (snap : Snap) : Type 0 where
  pub of_node : snap.node ≡ node
  pub last : LlxRun
  pub is_node : last.node ≡ node
  pub told : ℕ
  pub snaps : (d : Call) (h : History) → IsRun inner d.layout h → LlxIsReady inner last d h (Some told) → IsSnapshot d.layout h node.0 snap
  pub found : (d : Call) (h : History) → IsRun inner d.layout h → LlxIsReady inner last d h (Some told) → HasFoundThere d.pass h d.start node.0 snap.scx.0
  pub looked : (d : Call) (h : History) → IsRun inner d.layout h → LlxIsReady inner last d h (Some told) → HasJustLooked d.pass h d.start node.0
  pub so : InnerIsTold k ps last told
