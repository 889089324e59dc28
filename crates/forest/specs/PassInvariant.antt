-- What is true of the fields of every pass.
use Rattle.std.specs.Prelude.{◌≡◌, ◌<◌, ℕ, Bool, true, List, []}
use Rattle.atomic_table.specs.declared.shared.Seat.{Seat}
use Rattle.arena.specs.Layout.{IsMap, first_scx}
use Rattle.arena.specs.Share.{Remaining}
use Rattle.histories.specs.Common.{Mode, Layout, History, IsRun}
use Rattle.forest.specs.declared.pass.Pass.TheInside.{Inside}
use Rattle.tables.specs.declared.view.SeatedPass.{SeatedPass}
use Rattle.tables.specs.declared.view.SeatView.{SeatView}
use Rattle.tables.specs.TableRule.{seated_pass}
use Rattle.forest.specs.UpkeepKept.{KeepsRight}
use Rattle.tables.specs.Traces.{IsSeated, known_of, layout_at, memory_of, planting_of, run_at}
use Rattle.tables.specs.Shares.{EndsAsDealt, HasFewNames, IsBetweenCalls}
use Rattle.tables.specs.Passes.{PassView, HasBlamed}

-- what contracts see of a pass of this layout and number
abbrev pub view_with : (lay : Layout) (number : ℕ) → Remaining → Seat ℕ SeatView → (blamed : List ℕ) → PassView
view_with lay number share seat blamed = record { table = seat.table_id; layout = lay; planting = planting_of seat.me.0.passes; number = number; share = share; known = known_of seat.me.0.passes; blamed = blamed }

-- the layout of a pass's names, as its first seat knew it
abbrev pub layout_in : {T : Type 0} → Inside T → Layout
layout_in p = layout_at p.birth.value.me.0.passes

abbrev pub pass_view : {T : Type 0} → Inside T → PassView
pass_view p = view_with (layout_in p) p.number.0 p.share p.seat p.blamed

-- what holds of every pass: its seat has it alone, as `Sits` says; in the run that it knows, a lawful
-- one of a table of this mode, it is between two calls
pub record IsPassWith (Sits : ℕ → Layout → List SeatedPass → Type 0) (allows : Layout → History → ℕ → Type 0) (mode : Mode) (lay : Layout) (number first : ℕ) (left : Remaining) (at : Seat ℕ SeatView) (blames : List ℕ) : Type 0 where
  pub seat : Sits number lay at.me.0.passes
  pub bare : at.me.1 ≡ []
  pub is_mode : lay.mode ≡ mode
  pub is_pass : number < lay.passes
  pub first_is : first ≡ first_scx lay number
  -- in a table of cells no record comes back
  pub few : (IsMap lay.mode → ⊥) → HasFewNames lay
  pub sound : IsRun allows lay (run_at at.me.0.passes)
  pub rest : IsBetweenCalls lay number (run_at at.me.0.passes) left
  -- in a map all that is left of its share is dealt
  pub dealt : IsMap lay.mode → EndsAsDealt left (memory_of at.me.0.passes)
  pub blamed : HasBlamed (view_with lay number left at blames)

-- the one pass of a seat, as the seat knows it
abbrev pub seated_at : Layout → (number : ℕ) → Seat ℕ SeatView → SeatedPass
seated_at lay number at = seated_pass number lay (planting_of at.me.0.passes) (memory_of at.me.0.passes) (known_of at.me.0.passes)

abbrev pub seated_in : {T : Type 0} → Inside T → SeatedPass
seated_in p = seated_at (layout_in p) p.number.0 p.seat

-- where records come back, what it keeps of them is right
abbrev pub KeepsItsOwn : (lasts : Bool) {T : Type 0} → Inside T → Type 0
KeepsItsOwn lasts p = lasts ≡ true → KeepsRight p.kept (seated_in p)

abbrev pub IsPass : (allows : Layout → History → ℕ → Type 0) (mode : Mode) {T : Type 0} → Inside T → Type 0
IsPass allows mode p = IsPassWith IsSeated allows mode (layout_in p) p.number.0 p.first_scx.0 p.share p.seat p.blamed
