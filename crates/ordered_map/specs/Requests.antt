-- Requests as calls of the map of words, and what calls answer.
use Rattle.std.specs.Prelude.{ℕ, ◌≤◌, Bool, false, Option, Some, None}
use Rattle.ordered_map.specs.OrderedMap.{MapCall, MapReply, Edit, Get, Range, changes_map, call_insert, call_delete, call_pop_first, call_pop_last, call_replace_if, call_insert_new, call_delete_if, call_successor, call_predecessor}
use Rattle.ordered_map.specs.declared.rule.Goal.{Goal}
use Rattle.ordered_map.specs.declared.rule.Goal.TheVariants.{Key}
use Rattle.ordered_map.specs.declared.rule.Rule.{Rule}
use Rattle.ordered_map.specs.declared.request.Request.{Request}
use Rattle.ordered_map.specs.declared.request.Request.TheVariants.{Insert as InsertOf, Delete as DeleteOf, PopFirst as PopFirstOf, PopLast as PopLastOf, ReplaceIf as ReplaceIfOf, InsertNew as InsertNewOf, DeleteIf as DeleteIfOf, Get as GetOf, Successor as SuccessorOf, Predecessor as PredecessorOf, Range as RangeOf}

-- a request as a call of the map of words,
-- where `key` and `value` give the words of keys and values
abbrev pub as_map_call : {K V : Type 0} → (K → ℕ) → (V → ℕ) → Request K V → MapCall
as_map_call key value (InsertOf k v) = call_insert (key k) (value v)
as_map_call key value (DeleteOf k) = call_delete (key k)
as_map_call key value PopFirstOf = call_pop_first
as_map_call key value PopLastOf = call_pop_last
as_map_call key value (ReplaceIfOf k e v) = call_replace_if (key k) (value e) (value v)
as_map_call key value (InsertNewOf k v) = call_insert_new (key k) (value v)
as_map_call key value (DeleteIfOf k e) = call_delete_if (key k) (value e)
as_map_call key value (GetOf k) = Get (key k)
as_map_call key value (SuccessorOf k) = call_successor (key k)
as_map_call key value (PredecessorOf k) = call_predecessor (key k)
as_map_call key value (RangeOf low high most) = Range (key low) (key high) most

-- a request of numbers as a call of the map
abbrev pub map_request : Request ℕ ℕ → MapCall
map_request = as_map_call (λ n. n) (λ n. n)

-- where a call goes and by which rule, if it is an edit
abbrev pub edit_in : MapCall → Option (Goal × Rule)
edit_in (Edit goal rule) = Some (goal, rule)
edit_in _ = None

-- the key whose value a call answers, if it answers one
abbrev pub key_told : MapCall → Option ℕ
key_told (Edit (Key k) rule) = Some k
key_told (Get k) = Some k
key_told _ = None

-- whether a call that has answered this, if it was not refused, says that it has changed the map
abbrev pub tells_change : MapCall → Option MapReply → Bool
tells_change call (Some told) = changes_map call told
tells_change call None = false

-- it asks for at most 64 pairs
abbrev pub AsksForFew : {K V : Type 0} → Request K V → Type 0
AsksForFew (RangeOf low high most) = most ≤ 64
AsksForFew _ = Unit {0}
