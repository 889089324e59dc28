-- What a call replies, in words: what that says of the map, which form it has, and what machines'
-- answers are as such replies.
use Rattle.std.specs.Prelude.{ℕ, List, Option, Some, None, Result, Ok, Err, Vec}
use Rattle.std.specs.Global.{Global}
use Rattle.std.specs.Option.{option_map}
use Rattle.histories.specs.Common.{Full as FullOf, NodeNo, ScxNo}
use Rattle.order.specs.declared.refused.Refused.{Refused}
use Rattle.order.specs.declared.refused.Refused.TheVariants as refused
use Rattle.ordered_map.specs.CallRules.{Form}
use Rattle.template.specs.Common.{MapReply, OneValue, ManyPairs, pair, pair_or_none, Pair as PairOf, Goal, Key as ToKey, End}
use Rattle.edits.specs.declared.update.Updated.{Updated}
use Rattle.edits.specs.declared.update.Updated.TheVariants as updated

-- a value, a pair or pairs, in words; or why there is none
pub data WordReply : Type 0 where
  Value : Option ℕ → WordReply
  Pair : Option PairOf → WordReply
  Pairs : List PairOf → WordReply
  Contended : NodeNo → ScxNo → WordReply
  Full : FullOf → WordReply
  NoMemory : WordReply

-- what the map has replied, if the call was not refused
abbrev pub told_in : WordReply → Option MapReply
told_in (Value told) = Some (OneValue told)
told_in (Pair found) = Some (pair_or_none found)
told_in (Pairs found) = Some (ManyPairs found)
told_in (Contended node scx) = None
told_in (Full full) = None
told_in NoMemory = None

-- of which form it is
abbrev pub word_form : WordReply → Form
word_form (Value told) = Form.Value
word_form (Pair found) = Form.Pair
word_form (Pairs found) = Form.Pairs
word_form (Contended node scx) = Form.Contended
word_form (Full full) = Form.Full
word_form NoMemory = Form.NoMemory

-- what the leaf says at which an update is done: to an edit of a key the value that this had, to a
-- take at an end the pair
abbrev pub goal_reply : Goal → ℕ → Option ℕ → WordReply
goal_reply (ToKey k) key value = Value value
goal_reply (End side) key value = Pair (option_map (pair key) value)

-- what an edit replies that walks there
abbrev pub edit_reply : Goal → Updated → WordReply
edit_reply goal (updated.Done key value) = goal_reply goal key value
edit_reply goal (updated.Contended node scx) = Contended node scx
edit_reply goal (updated.Full full) = Full full

-- what an ordered read replies, if this is what it answers
abbrev pub read_reply : {A : Type 0} → (A → WordReply) → Result A Refused → WordReply
read_reply tells (Ok found) = tells found
read_reply tells (Err (refused.Contended node scx)) = Contended node scx
read_reply tells (Err refused.NoMemory) = NoMemory

-- a search for the pair beside a key the one that it has found
abbrev pub neighbour_reply : Result (Option PairOf) Refused → WordReply
neighbour_reply = read_reply Pair

-- a range its pairs
abbrev pub range_reply : Result (Vec PairOf Global) Refused → WordReply
range_reply = read_reply (λ (found : Vec PairOf Global). Pairs found.items)
