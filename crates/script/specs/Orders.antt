-- What orders are accepted, how rows say them, and why a row says none.
use Rattle.std.specs.Prelude.{ℕ, ◌≡◌, ◌<◌, ◌≤◌, List, [], ◌∷◌, codes, decimal}
use Rattle.arena.specs.declared.step.Kind.{Kind}
use Rattle.script.specs.declared.fault.ScheduleCause.{ScheduleCause}
use Rattle.script.specs.declared.fault.ScheduleCause.TheVariants as cause
use Rattle.script.specs.declared.schedule.Order.{Order}
use Rattle.script.specs.declared.schedule.Order.TheVariants.{Step, Call, Until, Finish}
use Rattle.script.specs.declared.schedule.OrderKind.{OrderKind}
use Rattle.script.specs.declared.schedule.OrderKind.TheVariants as what
use Rattle.texts.specs.Fields.{field_of}
use Rattle.script.specs.Fields.{NamesClient}
use Rattle.script.specs.Kinds.{kind_text}
use Rattle.script.specs.OrderKind.{order_kind_text}

-- the order is accepted: its client is one of this many, and its turns or steps are 1 to 1,000,000
abbrev pub IsOrder : ℕ → Order → Type 0
IsOrder passes (Step client turns) = (client.0 < passes) × (1 ≤ turns) × (turns ≤ 1000000)
IsOrder passes (Call client) = client.0 < passes
IsOrder passes (Until client kind times) = (client.0 < passes) × (1 ≤ times) × (times ≤ 1000000)
IsOrder passes (Finish client) = client.0 < passes

-- the row of an order
abbrev pub order_row : Order → List (List ℕ)
order_row (Step client turns) = codes "step" ∷ decimal client.0 ∷ [] ∷ decimal turns ∷ []
order_row (Call client) = codes "call" ∷ decimal client.0 ∷ [] ∷ [] ∷ []
order_row (Until client kind times) = codes "until" ∷ decimal client.0 ∷ kind_text kind ∷ decimal times ∷ []
order_row (Finish client) = codes "finish" ∷ decimal client.0 ∷ [] ∷ [] ∷ []

-- the field names this order
abbrev pub NamesOrder : OrderKind → List ℕ → Type 0
NamesOrder order field = field ≡ order_kind_text order

-- the field is a kind of step where this order has one, and empty elsewhere
abbrev pub FitsAsKind : OrderKind → List ℕ → Type 0
FitsAsKind what.Step field = field ≡ []
FitsAsKind what.Call field = field ≡ []
FitsAsKind what.Until field = (kind : Kind) × (field ≡ kind_text kind)
FitsAsKind what.Finish field = field ≡ []

-- the field is a number from 1 to 1,000,000
abbrev pub NamesTimes : List ℕ → Type 0
NamesTimes field = (times : ℕ) × (1 ≤ times) × (times ≤ 1000000) × (field ≡ decimal times)

-- the field is a number from 1 to 1,000,000 where this order has one, and empty elsewhere
abbrev pub FitsAsNumber : OrderKind → List ℕ → Type 0
FitsAsNumber what.Step field = NamesTimes field
FitsAsNumber what.Call field = field ≡ []
FitsAsNumber what.Until field = NamesTimes field
FitsAsNumber what.Finish field = field ≡ []

-- why the last two fields of a row say nothing of this order: the first cause that fits
abbrev pub IsUnfit : OrderKind → List ℕ → List ℕ → ScheduleCause → Type 0
IsUnfit order kind number cause.Kind = ¬ (FitsAsKind order kind)
IsUnfit order kind number cause.Number = FitsAsKind order kind × ¬ (FitsAsNumber order number)
IsUnfit order kind number cause.Fields = ⊥
IsUnfit order kind number cause.Command = ⊥
IsUnfit order kind number cause.Client = ⊥
IsUnfit order kind number cause.End = ⊥
IsUnfit order kind number cause.Long = ⊥

-- why a row says no order: its first field names none; or its second
-- none of the clients; or the last two do not fit
abbrev pub IsNoOrder : ℕ → List (List ℕ) → ScheduleCause → Type 0
IsNoOrder passes fields cause.Command = (order : OrderKind) → ¬ (NamesOrder order (field_of fields 0))
IsNoOrder passes fields cause.Client = (order : OrderKind) × NamesOrder order (field_of fields 0) × ¬ (NamesClient passes (field_of fields 1))
IsNoOrder passes fields why = (order : OrderKind) × NamesOrder order (field_of fields 0) × NamesClient passes (field_of fields 1) × IsUnfit order (field_of fields 2) (field_of fields 3) why
