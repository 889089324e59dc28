-- The machine of a call of the map: what it is a call of, what it has left, and what such a call
-- may take of its share.
use Rattle.std.specs.Prelude.{◌≡◌, ℕ, ◌*◌, ◌+◌, ◌^◌, ◌<◌, ◌≤◌, Bool, true, false}
use Rattle.histories.specs.Common.{History, Call, Remaining}
use Rattle.template.specs.Common.{most_nodes, most_scx, MapCall, Edit, Get, Range, Goal, Key, End, Rule, tries_since, HasTriedAtMost}
use Rattle.prims.specs.Shares.{share_end}
use Rattle.template.specs.declared.walk.Way.{Way}
use Rattle.template.specs.declared.walk.Way.TheVariants.{InTree, InTrie, Within}
use Rattle.ordered_map.specs.declared.rule.Rule.TheVariants.{Take}
use Rattle.tree.specs.declared.key_edit.KeyEdit.{KeyEdit}
use Rattle.edits.specs.Known.{RestsWith}
use Rattle.dict.specs.declared.run.MapRun.{MapRun}
use Rattle.dict.specs.Inner.{InnerRun, Update, Get as GetWalk, Read as OrderedRead, inner}

-- what an edit is of, where `goal` and `rule` give its goal and its rule as values
abbrev pub edit_call : {G R : Type 0} → (G → Goal) → (R → Rule) → KeyEdit G R → MapCall
edit_call goal rule e = Edit (goal e.goal) (rule e.rule)

-- what a call is of whose inner machine this is
abbrev pub inner_call : InnerRun → MapCall
inner_call (Update m) = Edit m.edit.goal.goal m.edit.rule
inner_call (GetWalk key walk share) = Get key
inner_call (OrderedRead k m share) = k.means.call m.read

-- what it is a call of
abbrev pub call_in : MapRun → MapCall
call_in m = inner_call (inner m)

-- whether a walk to a leaf is in a trie
abbrev pub is_in_trie : Way → Bool
is_in_trie InTree = false
is_in_trie InTrie = true
is_in_trie Within = true

-- whether a call with this inner machine is
abbrev pub inner_trie : InnerRun → Bool
inner_trie (Update m) = m.edit.goal.balance
inner_trie (GetWalk key walk share) = is_in_trie walk.way
inner_trie (OrderedRead k m share) = m.trie

-- whether it is a call in a trie
abbrev pub trie_in : MapRun → Bool
trie_in m = inner_trie (inner m)

-- what is left of the share of a call with this inner machine
abbrev pub inner_share : InnerRun → Remaining
inner_share (Update m) = m.share
inner_share (GetWalk key walk share) = share
inner_share (OrderedRead k m share) = share

-- what is left of its share
abbrev pub share_of : MapRun → Remaining
share_of m = inner_share (inner m)

-- how many tries are left after this one to a call with this inner machine; a get has one alone
abbrev pub inner_tries : InnerRun → ℕ
inner_tries (Update m) = m.tries
inner_tries (GetWalk key walk share) = 0
inner_tries (OrderedRead k m share) = m.tries

-- how many to the machine
abbrev pub tries_behind : MapRun → ℕ
tries_behind m = inner_tries (inner m)

-- of the tries that were left after this one no more than one is gone
abbrev pub KeepsTriesButOne : MapRun → MapRun → Type 0
KeepsTriesButOne old now = (tries_behind now ≤ tries_behind old) × (tries_behind old ≤ tries_behind now + 1)

-- what is left of its share ends where it did: it takes from the lower end
abbrev pub KeepsEnd : MapRun → MapRun → Type 0
KeepsEnd old now = share_end (share_of now) ≡ share_end (share_of old)

-- the key of a call that may edit it, if it names one, is one of a word; at an end it takes what is
-- there
abbrev pub IsSmallCall : MapCall → Type 0
IsSmallCall (Edit (Key k) rule) = k < 2 ^ 64
IsSmallCall (Edit (End side) rule) = rule ≡ Take
IsSmallCall _ = Unit {0}

-- What a call may try and take

-- how many tries it may begin, if the limits allow this many: a get has one alone
abbrev pub most_tries : MapCall → ℕ → ℕ
most_tries (Get key) tries = 1
most_tries _ tries = tries

-- The call has begun no more tries than it may, each only as needed. Of the share with which it
-- began no more is gone than the tries that it has begun may take.
pub record HasSpent (c : Call) (h : History) (call : MapCall) (tries : ℕ) (share : Remaining) : Type 0 where
  pub tried : HasTriedAtMost c.layout c.pass h c.start (most_tries call tries)
  -- what there was as it began
  pub left : Remaining
  pub first : RestsWith c c.start left
  pub nodes : left.nodes ≤ share.nodes + most_nodes call * tries_since c.pass h c.start
  pub scx : left.scx ≤ share.scx + most_scx call (tries_since c.pass h c.start)
  -- and for each SCX-record that is gone at most this many nodes
  pub each : left.nodes + most_nodes call * share.scx ≤ share.nodes + most_nodes call * left.scx
  -- it was taken from the lower end
  pub end : share_end share ≡ share_end left

-- it takes some pairs, where it is a range
abbrev pub AsksForPairs : MapCall → Type 0
AsksForPairs (Range low high most) = (0 < most) × (low ≤ high)
AsksForPairs _ = Unit {0}

-- a range asks for at most 64 pairs
abbrev pub IsFewCall : MapCall → Type 0
IsFewCall (Range low high most) = most ≤ 64
IsFewCall _ = Unit {0}
