-- The grammars of scripts and of schedules, and what their bytes say.
use Rattle.std.specs.Prelude.{ℕ, ◌≡◌, ◌≢◌, ◌<◌, ◌⊎◌, List, [], ◌∷◌}
use Rattle.arena.specs.Limits.{IsAccepted, IsLayoutOf}
use Rattle.arena.specs.declared.layout.Layout.{Layout}
use Rattle.arena.specs.declared.limits.Limits.{Limits}
use Rattle.arena.specs.declared.limits.Mode.{Mode}
use Rattle.script.specs.declared.call.Call.{Call}
use Rattle.script.specs.declared.fault.ScheduleCause.{ScheduleCause}
use Rattle.script.specs.declared.fault.ScheduleCause.TheVariants as schedule
use Rattle.script.specs.declared.fault.ScriptCause.{ScriptCause}
use Rattle.script.specs.declared.fault.ScriptCause.TheVariants as script
use Rattle.script.specs.declared.schedule.Order.{Order}
use Rattle.script.specs.Calls.{IsNoCall, call_row}
use Rattle.script.specs.Commands.{IsCommand, IsOfMode}
use Rattle.script.specs.Orders.{IsNoOrder, IsOrder, order_row}
use Rattle.script.specs.Rows.{limits_row}
use Rattle.texts.specs.Texts.{AreRows, BeginWithRows, Grammar, IsFirstFault, IsRow, SayEntries}

-- Schedules

-- how a schedule for this many clients says its orders: four fields a row, the rows of `order_row`
abbrev pub order_grammar : ℕ → Grammar Order ScheduleCause
order_grammar passes = record { width = 4; row_of = order_row; Accepts = IsOrder passes; IsNoEntry = IsNoOrder passes; fields = schedule.Fields; end = schedule.End; long = schedule.Long }

-- the bytes say these orders of this many clients, and nothing else
abbrev pub SayOrders : ℕ → List ℕ → List Order → Type 0
SayOrders passes bytes orders = SayEntries (order_grammar passes) bytes [] orders

-- the first faulty row of a schedule, and what is wrong with it first
abbrev pub IsScheduleFault : ℕ → List ℕ → ℕ → ScheduleCause → Type 0
IsScheduleFault passes bytes row cause = IsFirstFault (order_grammar passes) bytes [] row cause

-- Scripts

-- how a script says its calls, each of one of its clients: five fields a row, the rows of
-- `call_row`, of commands of the mode
abbrev pub call_grammar : Layout → Grammar Call ScriptCause
call_grammar layout = record { width = 5; row_of = call_row; Accepts = λ call. (call.client.0 < layout.passes) × (IsOfMode layout.mode call.command) × IsCommand call.command; IsNoEntry = IsNoCall layout; fields = script.Fields; end = script.End; long = script.Long }

-- the bytes say this script of the mode: its limits, its calls, and nothing else
pub record SayScript (mode : Mode) (bytes : List ℕ) (limits : Limits) (layout : Layout) (calls : List Call) : Type 0 where
  pub accepted : IsAccepted limits
  pub layout_is : IsLayoutOf limits mode layout
  pub calls_are : SayEntries (call_grammar layout) bytes (limits_row limits ∷ []) calls

-- the first row says no limits: there is none, or it is no row, or its limits are not accepted
abbrev pub IsHeadFault : List ℕ → ScriptCause → Type 0
IsHeadFault bytes cause =
    (AreRows bytes [] × (cause ≡ script.End))
    ⊎ ((fields : List (List ℕ)) × BeginWithRows bytes (fields ∷ []) × ¬ (IsRow 5 fields) × (cause ≡ script.Fields))
    ⊎ ((fields : List (List ℕ)) × BeginWithRows bytes (fields ∷ []) × IsRow 5 fields × ((limits : Limits) → IsAccepted limits → fields ≢ limits_row limits) × (cause ≡ script.Limits))

-- the first faulty row of a script, and what is wrong with it first: it is
-- the first one, or it comes after the limits
abbrev pub IsScriptFault : Mode → List ℕ → ℕ → ScriptCause → Type 0
IsScriptFault mode bytes row cause =
    ((row ≡ 1) × IsHeadFault bytes cause)
    ⊎ ((limits : Limits) × (layout : Layout) × IsAccepted limits × IsLayoutOf limits mode layout × IsFirstFault (call_grammar layout) bytes (limits_row limits ∷ []) row cause)
