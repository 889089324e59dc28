-- The ordered map from keys to values: what each call replies, and the map that it leaves.
use Rattle.std.specs.Prelude.{ℕ, ◌<◌, ◌≤◌, Bool, true, false, if◌then◌else◌, ◌&&◌, ◌==◌, nat_le, nat_lt, List, [], ◌∷◌, take, Option, Some, None, is_none, is_some, unwrap_or}
use Rattle.histories.specs.Common.{Side, Left, Right}
use Rattle.ordered_map.specs.declared.pair.Pair.{Pair}
use Rattle.ordered_map.specs.declared.rule.Goal.{Goal}
use Rattle.ordered_map.specs.declared.rule.Goal.TheVariants.{Key, End}
use Rattle.ordered_map.specs.declared.rule.Rule.{Rule}
use Rattle.ordered_map.specs.declared.rule.Rule.TheVariants.{Put, Take, Swap, PutNew, TakeIf}

-- A map is the list of its pairs by rising key; the empty list is the empty map.

-- the pair of this key and this value
abbrev pub pair : ℕ → ℕ → Pair
pair k v = record { key = k; value = v }

-- all keys are above k
abbrev pub AllAbove : ℕ → List Pair → Type 0
AllAbove k [] = Unit {0}
AllAbove k (p ∷ ps) = (k < p.key) × AllAbove k ps

-- all keys are below k
abbrev pub AllBelow : ℕ → List Pair → Type 0
AllBelow k [] = Unit {0}
AllBelow k (p ∷ ps) = (p.key < k) × AllBelow k ps

-- all keys are k or above
abbrev pub AllFrom : ℕ → List Pair → Type 0
AllFrom k [] = Unit {0}
AllFrom k (p ∷ ps) = (k ≤ p.key) × AllFrom k ps

-- the keys rise
abbrev pub IsRising : List Pair → Type 0
IsRising [] = Unit {0}
IsRising (p ∷ ps) = AllAbove p.key ps × IsRising ps

-- the value of k, if it has one
abbrev pub get : ℕ → List Pair → Option ℕ
get k [] = None
get k (p ∷ ps) = if k == p.key then Some p.value else get k ps

-- the map with k at v
abbrev pub insert : ℕ → ℕ → List Pair → List Pair
insert k v [] = pair k v ∷ []
insert k v (p ∷ ps) =
    if nat_lt k p.key then pair k v ∷ p ∷ ps
    else (if k == p.key then pair k v ∷ ps else p ∷ insert k v ps)

-- the map without k
abbrev pub delete : ℕ → List Pair → List Pair
delete k [] = []
delete k (p ∷ ps) = if k == p.key then ps else p ∷ delete k ps

-- the pair with the least key, if there is one
abbrev pub first_pair : List Pair → Option Pair
first_pair [] = None
first_pair (p ∷ ps) = Some p

-- the pair with the greatest key, if there is one
abbrev pub last_pair : List Pair → Option Pair
last_pair [] = None
last_pair (p ∷ ps) = Some (unwrap_or (last_pair ps) p)

-- the pair at this end of a map, if there is one: on the left that with the least key
abbrev pub end_pair : Side → List Pair → Option Pair
end_pair Left = first_pair
end_pair Right = last_pair

-- whether this is the value answered
abbrev pub is_value : ℕ → Option ℕ → Bool
is_value v None = false
is_value v (Some told) = told == v

-- the pair with the least key above k, if there is one
abbrev pub successor : ℕ → List Pair → Option Pair
successor k [] = None
successor k (p ∷ ps) = if nat_lt k p.key then Some p else successor k ps

-- the pair with the greatest key below k, if there is one
abbrev pub predecessor : ℕ → List Pair → Option Pair
predecessor k [] = None
predecessor k (p ∷ ps) =
    if nat_lt p.key k then Some (unwrap_or (predecessor k ps) p) else predecessor k ps

-- the pair with the next key beyond k on this side, if there is one: on the left that with the
-- greatest key below k
abbrev pub neighbour : Side → ℕ → List Pair → Option Pair
neighbour Left = predecessor
neighbour Right = successor

-- the pairs with keys from `low` to `high`, both with them
abbrev pub between : ℕ → ℕ → List Pair → List Pair
between low high [] = []
between low high (p ∷ ps) =
    if nat_le low p.key && nat_le p.key high then p ∷ between low high ps
    else between low high ps

-- the first of these by key, at most `most`
abbrev pub range : ℕ → ℕ → ℕ → List Pair → List Pair
range low high most m = take most (between low high m)

-- Edits

-- the edits of a map: each change of it is one
pub data MapEdit : Type 0 where
  Insert : ℕ → ℕ → MapEdit
  Delete : ℕ → MapEdit

-- the key that an edit is about
abbrev pub edit_key : MapEdit → ℕ
edit_key (Insert k v) = k
edit_key (Delete k) = k

-- the value that an edit leaves to its key
abbrev pub value_left : MapEdit → Option ℕ
value_left (Insert k v) = Some v
value_left (Delete k) = None

-- the edit that leaves this value to the key, or none
abbrev pub edit_to : ℕ → Option ℕ → MapEdit
edit_to key None = Delete key
edit_to key (Some value) = Insert key value

-- the map that an edit leaves
abbrev pub edited : MapEdit → List Pair → List Pair
edited (Insert k v) m = insert k v m
edited (Delete k) m = delete k m

-- the map that is left where an edit is made, or none
abbrev pub after_edit : Option MapEdit → List Pair → List Pair
after_edit None m = m
after_edit (Some e) m = edited e m

-- whether a rule changes anything where it finds this value, or none: a put always does, a put of
-- what is new where there is none, a take where there is one, a swap and a take of one value where
-- it is the value expected
abbrev pub applies : Rule → Option ℕ → Bool
applies (Put v) found = true
applies Take found = is_some found
applies (Swap e v) found = is_value e found
applies (PutNew v) found = is_none found
applies (TakeIf e) found = is_value e found

-- the value that it leaves there, if it leaves one
abbrev pub leaves : Rule → Option ℕ
leaves (Put v) = Some v
leaves Take = None
leaves (Swap e v) = Some v
leaves (PutNew v) = Some v
leaves (TakeIf e) = None

-- the edit that a rule makes of a key that has this value, or none, if it makes one
abbrev pub edit_by : Rule → ℕ → Option ℕ → Option MapEdit
edit_by rule k found = if applies rule found then Some (edit_to k (leaves rule)) else None

-- Calls

-- All calls of a map. `Edit`: the rule at the goal; `Neighbour`: beyond this key on this side;
-- `Range`: from this key, to this key, at most so many pairs.
pub data MapCall : Type 0 where
  Edit : Goal → Rule → MapCall
  Get : ℕ → MapCall
  Neighbour : Side → ℕ → MapCall
  Range : ℕ → ℕ → ℕ → MapCall

-- the edits by their names: a key is to have this value; a key is to have none; the pair with the
-- least key goes, or that with the greatest; a key, where it has the value e, is to have v; a key,
-- where it has none, is to have this value; a key, where it has the value e, is to have none
abbrev pub call_insert : ℕ → ℕ → MapCall
call_insert k v = Edit (Key k) (Put v)

abbrev pub call_delete : ℕ → MapCall
call_delete k = Edit (Key k) Take

abbrev pub call_pop_first : MapCall
call_pop_first = Edit (End Left) Take

abbrev pub call_pop_last : MapCall
call_pop_last = Edit (End Right) Take

abbrev pub call_replace_if : ℕ → ℕ → ℕ → MapCall
call_replace_if k e v = Edit (Key k) (Swap e v)

abbrev pub call_insert_new : ℕ → ℕ → MapCall
call_insert_new k v = Edit (Key k) (PutNew v)

abbrev pub call_delete_if : ℕ → ℕ → MapCall
call_delete_if k e = Edit (Key k) (TakeIf e)

-- the searches for a pair beside a key by their names: the least key above it, the greatest below
abbrev pub call_successor : ℕ → MapCall
call_successor k = Neighbour Right k

abbrev pub call_predecessor : ℕ → MapCall
call_predecessor k = Neighbour Left k

-- the key of a goal, where `at_end` is the key at its end of the map, if there is one
abbrev pub goal_key : Goal → Option ℕ → Option ℕ
goal_key (Key k) at_end = Some k
goal_key (End side) at_end = at_end

-- what a call may reply: a value, or none; a pair; some pairs
pub data MapReply : Type 0 where
  OneValue : Option ℕ → MapReply
  OnePair : Pair → MapReply
  ManyPairs : List Pair → MapReply

-- the pair if there is one, and else none, which is the same reply for all calls
abbrev pub pair_or_none : Option Pair → MapReply
pair_or_none (Some p) = OnePair p
pair_or_none None = OneValue None

-- what an edit finds at its goal: the value of its key, if it has one, or the pair at its end
abbrev pub goal_told : Goal → List Pair → MapReply
goal_told (Key k) m = OneValue (get k m)
goal_told (End side) m = pair_or_none (end_pair side m)

-- what the call replies on the map m: an edit answers what it finds
abbrev pub reply : MapCall → List Pair → MapReply
reply (Edit goal rule) m = goal_told goal m
reply (Get k) m = OneValue (get k m)
reply (Neighbour side k) m = pair_or_none (neighbour side k m)
reply (Range low high most) m = ManyPairs (range low high most m)

-- the key at which an edit with this reply is, and what that has, if it has a value; there is none
-- where it looks for a pair and answers none
abbrev pub spot : Goal → MapReply → Option (ℕ × Option ℕ)
spot (Key k) (OneValue found) = Some (k, found)
spot (End side) (OnePair p) = Some (p.key, Some p.value)
spot _ _ = None

-- the edit that a rule makes there, if it makes one
abbrev pub edit_there : Rule → Option (ℕ × Option ℕ) → Option MapEdit
edit_there rule None = None
edit_there rule (Some s) = edit_by rule s.0 s.1

-- the edit of the map that a call with this reply has made, if it has made one; all calls but edits
-- are readings
abbrev pub edit_of : MapCall → MapReply → Option MapEdit
edit_of (Edit goal rule) told = edit_there rule (spot goal told)
edit_of _ told = None

-- whether a call with this reply has changed the map
abbrev pub changes_map : MapCall → MapReply → Bool
changes_map call told = is_some (edit_of call told)

-- the map that the call leaves: that of the edit that it makes, if it makes one
abbrev pub after : MapCall → List Pair → List Pair
after call m = after_edit (edit_of call (reply call m)) m
