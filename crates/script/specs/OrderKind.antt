-- The names of what a row of a schedule orders.
use Rattle.std.specs.Prelude.{ℕ, List, codes}
use Rattle.script.specs.declared.schedule.OrderKind.{OrderKind}
use Rattle.script.specs.declared.schedule.OrderKind.TheVariants.{Step, Call, Until, Finish}

-- the word for an order in the first field of its row
abbrev pub order_kind_text : OrderKind → List ℕ
order_kind_text Step = codes "step"
order_kind_text Call = codes "call"
order_kind_text Until = codes "until"
order_kind_text Finish = codes "finish"
