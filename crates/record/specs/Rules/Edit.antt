-- The rules of an edit.
use Rattle.std.specs.Prelude.{◌≡◌, ℕ, ◌<◌, Bool, true, false, List, Option, Some, None}
use Rattle.histories.specs.Common.{Layout, Tree, History, value}
use Rattle.ordered_map.specs.CallRules.{need}
use Rattle.ordered_map.specs.OrderedMap.{MapCall, Edit, MapEdit, MapReply, changes_map, edit_of, reply}
use Rattle.ordered_map.specs.Runs.{Makes}
use Rattle.ordered_map.specs.Spelled.{Spells}
use Rattle.ordered_map.specs.declared.pair.Pair.{Pair}
use Rattle.ordered_map.specs.declared.reply.Reply.TheVariants.{Contended, Full}
use Rattle.ordered_map.specs.declared.rule.Goal.TheVariants.{End}
use Rattle.record.specs.declared.record.Answer.{Answer}
use Rattle.record.specs.declared.record.Answer.TheVariants.{Map}
use Rattle.record.specs.Answers.{HasLostAllTries}
use Rattle.record.specs.MapRecord.{reply_told}
use Rattle.record.specs.Replied.{HasReplied}
use Rattle.record.specs.Rules.{MapRules}
use Rattle.record.specs.Shares.{HasTooFewToTry}

-- after some row since the call's start there was something for it to change, for which it needs
-- this many nodes
pub record HadToChange (lay : Layout) (now start : History) (call : MapCall) (nodes : ℕ) : Type 0 where
  pub told : MapReply
  pub replied : HasReplied lay now start call told
  pub needs : need call replied.map ≡ nodes
  pub some : 0 < nodes

-- What one says that answers this: if it has changed the map, its entry and where it took place say
-- all; else the map replied this after some row since the call's start.
abbrev pub HasChangedOrReplied : Bool → Layout → History → History → MapCall → MapReply → Type 0
HasChangedOrReplied true lay now start call told = Unit {0}
HasChangedOrReplied false lay now start call told = HasReplied lay now start call told

abbrev pub EditTells : MapCall → Layout → History → History → Option MapReply → Type 0
EditTells call lay now start (Some told) = HasChangedOrReplied (changes_map call told) lay now start call told
EditTells call lay now start None = ⊥

-- A try of the call is lost only where it has found something to change; but one that goes to an
-- end of a trie looks at node 2 first, and may be lost there.
abbrev pub FindsFirst : Layout → MapCall → Type 0
FindsFirst lay (Edit (End side) rule) = lay.mode ≡ Tree
FindsFirst lay _ = Unit {0}

-- what its answers say
abbrev pub EditIsRight : MapCall → Layout → ℕ → ℕ → History → History → (ℕ → Option History) → Answer → Type 0
-- all tries were lost, and there was something to change, if that is found first
EditIsRight call lay tries c now start linked (Map (Contended node scx)) = (FindsFirst lay call → (nodes : ℕ) × HadToChange lay now start call nodes) × HasLostAllTries lay tries c now start node.0 scx.0
-- there was something to change, for which the share has too little: already as the call began, or
-- another client was in the way since
EditIsRight call lay tries c now start linked (Map (Full full)) = (nodes : ℕ) × HadToChange lay now start call nodes × HasTooFewToTry lay c now start nodes full.what full.left
EditIsRight call lay tries c now start linked answer = EditTells call lay now start (reply_told answer)

-- its entry is of an SCX-record that makes the edit which the call makes of the map that the words
-- spell just before it
pub record IsEditEntry (call : MapCall) (lay : Layout) (before : History) (s : ℕ) : Type 0 where
  pub edit : MapEdit
  pub makes : Makes lay before s edit
  pub of_map : (map : List Pair) → Spells lay (value before) map → edit_of call (reply call map) ≡ Some edit

-- what a record says of an edit
abbrev pub edit_rules : MapCall → MapRules
edit_rules call = record {
  IsAtOnce = λ answer. ⊥;
  IsRight = EditIsRight call;
}
