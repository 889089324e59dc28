-- What is true of the fields of every call that is held open.
use Rattle.template.specs.Balance.{map_mode, nodes_by}
use Rattle.std.specs.Prelude.{◌≡◌, ◌+◌, ◌-◌, ◌<◌, ◌≤◌, ℕ, Bool, true, false, None, List, [], ◌∷◌}
use Rattle.atomic_table.specs.declared.shared.Seat.{Seat}
use Rattle.histories.specs.Common.{Call, Layout, MatchTurn, first_scx}
use Rattle.dict.specs.Calls.{call_in, share_of, AsksForPairs}
use Rattle.dict.specs.DictKnown.{DictWaits, DictAnswers}
use Rattle.ordered_map.specs.CallRules.{most_steps}
use Rattle.dict.specs.Steps.{map_left}
use Rattle.dict.specs.Typed.{TypedAllows}
use Rattle.dict.specs.Words.{IsWordOf}
use Rattle.dict.specs.declared.dict.DictRun.{DictRun}
use Rattle.dict.specs.declared.shape.Dict.{Dict}
use Rattle.prims.specs.Shares.{share_end}
use Rattle.forest.specs.declared.open.OpenCall.TheInside.{Inside}
use Rattle.forest.specs.declared.pass.Pass.TheInside as pass
use Rattle.straight.specs.declared.room.Room.{Room}
use Rattle.tables.specs.declared.view.SeatView.{SeatView}
use Rattle.tables.specs.CallSteps.{HasDictLeft}
use Rattle.forest.specs.Opened.{OpenView}
use Rattle.tables.specs.Passes.{PassView, run_of, steps_of, taken_of}
use Rattle.forest.specs.PassInvariant.{IsPass}
use Rattle.straight.specs.StraightCalls.{IsSameDictCall}
use Rattle.tables.specs.TableRule.{dealt_up_to, seated_pass}
use Rattle.forest.specs.UpkeepKept.{KeepsRight}
use Rattle.tables.specs.Traces.{Stands, known_of, layout_at, memory_of, planting_of, seat_steps, shared_nodes, weight, KnowsAs}

-- what contracts see of a call that is held open
abbrev pub open_view : {K V B : Type 0} → Inside K V B → OpenView
open_view o = record {
  began = o.began.value;
  planting = planting_of o.seat.me.0.passes;
  known = known_of o.seat.me.0.passes;
  call = call_in o.run.run;
  tries = o.run.tries;
  made = seat_steps o.seat.me.0.passes - steps_of o.began.value;
  left = weight o.turn (map_left o.run.run (shared_nodes o.began.value.layout));
  over = o.over;
}

-- a seat that has this pass alone, as contracts see it
abbrev pub seat_as : PassView → Seat ℕ SeatView → Seat ℕ SeatView
seat_as p s = record s { table_id = p.table; me = (record { passes = seated_pass p.number p.layout p.planting (dealt_up_to (share_end p.share)) p.known ∷ [] }, []) }

-- The fields of this pass, at a seat that has it alone and with these lists, from what contracts
-- see of it, which is not when it rested last.
abbrev pub pass_as : {T : Type 0} → PassView → Seat ℕ SeatView → Room → pass.Inside T
pass_as p s room = record {
  number = record { 0 = p.number };
  first_scx = record { 0 = first_scx p.layout p.number };
  share = p.share;
  seat = seat_as p s;
  blamed = p.blamed;
  birth = record { value = seat_as p s; marker = record {} };
  room = room;
  kept = None;
  shape = record {};
}

-- the call that a pass begins next
abbrev pub next_call : (p : PassView) → p.number < p.layout.passes → Call
next_call p is_pass = record { layout = p.layout; pass = p.number; is_pass = is_pass; number = taken_of p; start = run_of p }

-- a call keeps what its pass had as it began: its number, the layout of its names, its first
-- SCX-record, which call comes next, and the list of what it blames
pub record KeepsPass (began : PassView) (n : ℕ) (lay : Layout) (first_of next : ℕ) (blames : List ℕ) : Type 0 where
  pub number : n ≡ began.number
  pub layout : lay ≡ began.layout
  pub first : first_of ≡ first_scx began.layout began.number
  pub call : next ≡ taken_of began
  pub blamed : blames ≡ began.blamed

-- what its pass keeps of its own was right as the call began, with what it remembers, and the call
-- knows which node its share gave next then
pub record KeepsOwn {K V B : Type 0} (o : Inside K V B) : Type 0 where
  pub from : o.from.0 ≡ o.began.value.share.next_node
  pub planting : planting_of o.seat.me.0.passes ≡ o.began.value.planting
  pub kept : KeepsRight o.kept (seated_pass o.number.0 (layout_at o.birth.value.me.0.passes) o.began.value.planting (memory_of o.seat.me.0.passes) o.began.value.known)

-- so it is where records come back
abbrev pub CallKeepsItsOwn : (lasts : Bool) {K V B : Type 0} → Inside K V B → Type 0
CallKeepsItsOwn lasts o = lasts ≡ true → KeepsOwn o

-- what holds of every call that is held open
pub record IsOpen {K V B : Type 0} (valid_key : K → Type 0) (key : K → ℕ) (valid_value : V → Type 0) (value : V → ℕ) (trie : Bool) (o : Inside K V B) : Type 0 where
  -- as it began its pass was one between two calls
  pub pass : IsPass (TypedAllows (IsWordOf valid_key key) (IsWordOf valid_value value)) (map_mode trie) (pass_as {T = Dict K V B} o.began.value o.seat o.room)
  -- only the seat and the share of it have changed
  pub table : o.seat.table_id ≡ o.began.value.table
  pub bare : o.seat.me.1 ≡ []
  pub kept : KeepsPass o.began.value o.number.0 (layout_at o.birth.value.me.0.passes) o.first_scx.0 o.call o.blamed
  -- its machine, which began with the share of the pass, waits for a step, or has answered
  pub first : DictRun K V
  pub had : share_of first.run ≡ o.began.value.share
  pub stands : Stands (TypedAllows (IsWordOf valid_key key) (IsWordOf valid_value value)) (DictWaits (IsWordOf valid_key key) (IsWordOf valid_value value)) (IsSameDictCall valid_key key valid_value value) HasDictLeft (next_call o.began.value pass.is_pass) o.seat.me.0.passes first (DictAnswers valid_key key valid_value value) o.run o.turn
  -- it has made no more steps than such a call may
  pub since : steps_of o.began.value ≤ seat_steps o.seat.me.0.passes
  pub steps : seat_steps o.seat.me.0.passes + weight o.turn (map_left o.run.run (shared_nodes o.began.value.layout)) ≤ steps_of o.began.value + most_steps (call_in o.run.run) o.run.tries (nodes_by trie (shared_nodes o.began.value.layout))
  -- It is over only where it has answered. A range that asks for no pairs has answered before its
  -- first step.
  pub over : o.over ≡ true → MatchTurn o.turn (λ _. ⊥) (λ _. Unit {0})
  pub none : o.over ≡ false → MatchTurn o.turn (λ _. Unit {0}) (λ _. (seat_steps o.seat.me.0.passes ≡ steps_of o.began.value) × ¬ AsksForPairs (call_in o.run.run))
  -- and so its pass knows what it knew before
  pub nothing : ¬ AsksForPairs (call_in o.run.run) → KnowsAs o.seat.me.0.passes o.began.value.planting o.began.value.known
