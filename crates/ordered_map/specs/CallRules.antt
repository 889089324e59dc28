-- What a call of the map may do, whoever makes it: how many steps and of which kinds, what it takes
-- of its pass's share, what it needs, and which form its reply has.
use Rattle.std.specs.Prelude.{if◌then◌else◌, ◌≡◌, ◌≢◌, ◌⊎◌, ℕ, ◌+◌, ◌*◌, ◌<◌, List, Option, Some, None}
use Rattle.histories.specs.Common.{Kind, Fill, LoadChild, LoadSettled}
use Rattle.ordered_map.specs.declared.pair.Pair.{Pair as PairOf}
use Rattle.ordered_map.specs.declared.reply.Reply.{Reply}
use Rattle.ordered_map.specs.declared.reply.Reply.TheVariants as replies
use Rattle.ordered_map.specs.OrderedMap.{MapCall, Edit, Get, Neighbour, Range, applies, goal_told, leaves, spot}
use Rattle.ordered_map.specs.declared.rule.Goal.{Goal}
use Rattle.ordered_map.specs.declared.rule.Goal.TheVariants.{Key, End}
use Rattle.ordered_map.specs.declared.rule.Rule.{Rule}

-- the form of a reply: a value, a pair or pairs, or a refusal
pub data Form : Type 0 where
  Value : Form
  Pair : Form
  Pairs : Form
  Contended : Form
  Full : Form
  NoMemory : Form

-- the form of this reply
abbrev pub form_of : {K V : Type 0} → Reply K V → Form
form_of (replies.Value told) = Value
form_of (replies.Pair found) = Pair
form_of (replies.Pairs found) = Pairs
form_of (replies.Contended node scx) = Contended
form_of (replies.Full full) = Full
form_of replies.NoMemory = NoMemory

-- what is said of one call of the map, whoever makes it
pub record CallRules : Type 1 where
  -- how many steps it makes at most, by the number of its tries, and of nodes taken when it ends
  pub most_steps : ℕ → ℕ → ℕ
  -- the kinds of step that it may make
  pub MayMake : Kind → Type 0
  -- how many SCX-records it takes at most in that many tries, and how many nodes for each
  pub most_scx : ℕ → ℕ
  pub most_nodes : ℕ
  -- how many nodes it needs on a map
  pub need : List PairOf → ℕ
  -- the forms of reply that it may give
  pub MayReply : Form → Type 0

-- Edits

-- how many nodes an edit needs whose rule changes something, at a key with this value: two leaves
-- and a fork over them at most, or a leaf in place of another, or a copy of its sibling
abbrev pub nodes_at : Option ℕ → ℕ
nodes_at None = 3
nodes_at (Some value) = 1

-- by a rule, at a key, if there is one
abbrev pub nodes_there : Rule → Option (ℕ × Option ℕ) → ℕ
nodes_there rule None = 0
nodes_there rule (Some s) = if applies rule s.1 then nodes_at s.1 else 0

-- and how many at most in a try, of one that changes nothing where there is no value
abbrev pub nodes_in_try : Rule → ℕ
nodes_in_try rule = if applies rule None then 3 else 1

-- how many steps at most after its walk in a try, by the value that it leaves: if it leaves none, a
-- leaf and the fork over it may go, and the leaf's sibling is copied
abbrev pub steps_behind : Option ℕ → ℕ
steps_behind (Some value) = 207
steps_behind None = 328

-- an edit of a key answers a value, or none, or is refused
abbrev pub IsFormOfValue : Form → Type 0
IsFormOfValue Value = Unit {0}
IsFormOfValue Contended = Unit {0}
IsFormOfValue Full = Unit {0}
IsFormOfValue _ = ⊥

-- one of the pair at an end answers a pair, or none, or is refused
abbrev pub IsFormOfPair : Form → Type 0
IsFormOfPair Pair = Unit {0}
IsFormOfPair Contended = Unit {0}
IsFormOfPair Full = Unit {0}
IsFormOfPair _ = ⊥

abbrev pub IsFormOfEdit : Goal → Form → Type 0
IsFormOfEdit (Key k) = IsFormOfValue
IsFormOfEdit (End side) = IsFormOfPair

-- Reads

-- a get answers what the key has, and is never refused
abbrev pub IsFormOfGet : Form → Type 0
IsFormOfGet Value = Unit {0}
IsFormOfGet _ = ⊥

-- a search for the pair beside a key tells it, or none, or is refused
abbrev pub IsFormOfNeighbour : Form → Type 0
IsFormOfNeighbour Pair = Unit {0}
IsFormOfNeighbour Contended = Unit {0}
IsFormOfNeighbour NoMemory = Unit {0}
IsFormOfNeighbour _ = ⊥

-- a range takes no pair, whatever the map has: none is asked for, or no key is from `low` to `high`
abbrev pub TakesNothing : ℕ → ℕ → ℕ → Type 0
TakesNothing low high most = (most ≡ 0) ⊎ (high < low)

-- it answers pairs, or is refused
abbrev pub IsFormOfRange : Form → Type 0
IsFormOfRange Pairs = Unit {0}
IsFormOfRange Contended = Unit {0}
IsFormOfRange NoMemory = Unit {0}
IsFormOfRange _ = ⊥

-- The one match from calls to their rules. A walk makes at most three steps for each level that the
-- tree may have, two more than nodes are taken, and five more at its leaf; an edit makes one walk
-- in a try, and takes at most one SCX-record; a search with snapshots makes 67 for each level, the
-- pair beside a key takes two of these after a walk, a range one for each pair that it may take and
-- two more.
abbrev pub call_rules : MapCall → CallRules
call_rules (Edit goal rule) = record {
  most_steps = λ tries nodes. tries * (3 * (2 + nodes) + steps_behind (leaves rule));
  MayMake = λ kind. Unit {0};
  most_scx = λ tries. tries;
  most_nodes = nodes_in_try rule;
  need = λ map. nodes_there rule (spot goal (goal_told goal map));
  MayReply = IsFormOfEdit goal;
}
call_rules (Get key) = record {
  most_steps = λ tries nodes. 3 * (2 + nodes) + 5;
  MayMake = λ kind. (kind ≡ LoadSettled) ⊎ (kind ≡ LoadChild);
  most_scx = λ tries. 0;
  most_nodes = 0;
  need = λ map. 0;
  MayReply = IsFormOfGet;
}
call_rules (Neighbour side key) = record {
  most_steps = λ tries nodes. tries * (137 * (2 + nodes));
  MayMake = λ kind. kind ≢ Fill;
  most_scx = λ tries. 0;
  most_nodes = 0;
  need = λ map. 0;
  MayReply = IsFormOfNeighbour;
}
call_rules (Range low high most) = record {
  most_steps = λ tries nodes. tries * ((most + 2) * (67 * (2 + nodes)));
  MayMake = λ kind. (kind ≢ Fill) × ¬ TakesNothing low high most;
  most_scx = λ tries. 0;
  most_nodes = 0;
  need = λ map. 0;
  MayReply = IsFormOfRange;
}

-- how many steps a call makes at most, by the number of its tries, and of nodes taken
abbrev pub most_steps : MapCall → ℕ → ℕ → ℕ
most_steps call = (call_rules call).most_steps

-- how many nodes at most for each SCX-record, of which a try takes one at most
abbrev pub most_nodes : MapCall → ℕ
most_nodes call = (call_rules call).most_nodes

-- how many SCX-records at most, by the number of its tries
abbrev pub most_scx : MapCall → ℕ → ℕ
most_scx call = (call_rules call).most_scx

-- how many nodes the call needs on this map
abbrev pub need : MapCall → List PairOf → ℕ
need call = (call_rules call).need

-- the call may give a reply of this form
abbrev pub MayReply : MapCall → Form → Type 0
MayReply call = (call_rules call).MayReply
