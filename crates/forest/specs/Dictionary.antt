-- What the calls of a dictionary say of the pass that makes them.
use Rattle.template.specs.Balance.{map_mode, nodes_by}
use Rattle.std.specs.Prelude.{◌≡◌, ℕ, ◌+◌, ◌*◌, ◌<◌, ◌≤◌, ◌⊎◌, Bool, List, ◌∷◌, Option, Some, None, Result, Ok, Err}
use Rattle.histories.specs.Common.{Full as FullOf, Row, WasInTheWay, IsOthersScx, History, ◌⊳◌, value, Extends, Entry, log}
use Rattle.template.specs.Common.{Pair as PairOf, MapCall, MapReply, MapEdit, edited, reply, edit_of, Makes, Spells, tries_since}
use Rattle.template.specs.Common.{HasTriedAtMost, MayReply, form_of, most_nodes, most_scx, most_steps, told_of, Reply}
use Rattle.ordered_map.specs.declared.reply.Reply.TheVariants.{Contended, Full, NoMemory}
use Rattle.dict.specs.Calls.{AsksForPairs, most_tries}
use Rattle.dict.specs.Says.{HasLostSince, HasMadeRow, HasReadSince, HasTooLittleSince, KeepsLists}
use Rattle.dict.specs.Typed.{TypedAllows}
use Rattle.dict.specs.Words.{IsValidReply, IsWordOf}
use Rattle.forest.specs.declared.fault.OrderFault.{OrderFault}
use Rattle.forest.specs.declared.fault.OrderFault.TheVariants as reads
use Rattle.forest.specs.declared.fault.UpdateFault.{UpdateFault}
use Rattle.forest.specs.declared.fault.UpdateFault.TheVariants as updates
use Rattle.tables.specs.Passes.{Ground, HasGoneOn, IsOf, PassView, run_of, done_of, taken_of}
use Rattle.forest.specs.StepKinds.{HasKeptToKinds}
use Rattle.tables.specs.Traces.{shared_nodes}

-- The one history of a dictionary is the log of its run: each entry makes an edit of the map. A
-- version is the map that the words spell at a moment of the run. By the laws of trees and tries
-- there is one at each, and it is what the entries up to then make of the empty map, whatever edits
-- they are said to make.

-- at this moment of the run that the pass knows the map is m: the words spell it
abbrev pub IsVersion : PassView → History → List PairOf → Type 0
IsVersion p moment m = Spells p.layout (value moment) m

-- What a call says of the map

-- The call has made this edit: the pass has one entry more. Just before it the map gave this reply,
-- and just after it the map is what the edit leaves.
pub record IsChange (old new : PassView) (call : MapCall) (told : MapReply) (edit : MapEdit) : Type 0 where
  -- the row that has put the entry there, which may be another pass's, is after what was known
  -- before
  pub row : Row
  pub before : History
  pub within : Extends (run_of new) (row ⊳ before)
  pub since : Extends before (run_of old)
  -- it is after the call's first own row too
  pub own : HasMadeRow old.number (run_of old) before
  pub entry : Entry
  pub logged : log new.layout (row ⊳ before) ≡ entry ∷ log new.layout before
  -- it is the pass's only entry after what the pass had seen
  pub done : done_of new ≡ entry ∷ done_of old
  -- it is of this call, and may be said to make this edit
  pub of_pass : entry.owner ≡ old.number
  pub of_call : entry.call ≡ taken_of old
  pub makes : Makes new.layout (run_of new) entry.scx edit
  -- its SCX-record was left in the share, and is no more: the call has taken one at least
  pub was_left : old.share.next_scx ≤ entry.scx
  pub is_taken : entry.scx < new.share.next_scx
  pub took : new.share.scx < old.share.scx
  -- the maps just before it and just after it
  pub map : List PairOf
  pub was : IsVersion new before map
  pub gives : reply call map ≡ told
  pub is : IsVersion new (row ⊳ before) (edited edit map)

-- The call has read the map: at a moment from what was known before to what is known now it gave
-- this reply. The pass has no entry more.
pub record IsReading (old new : PassView) (call : MapCall) (told : MapReply) : Type 0 where
  pub read : HasReadSince new.layout new.number (run_of new) (run_of old) call told
  pub done : done_of new ≡ done_of old

-- a change by this edit, or a reading
abbrev pub IsChangeOrReading : Option MapEdit → PassView → PassView → MapCall → MapReply → Type 0
IsChangeOrReading (Some edit) old new call told = IsChange old new call told edit
IsChangeOrReading None old new call told = IsReading old new call told

-- What is answered of the map, if anything, is of a version of it. An insert has changed the map;
-- so have a delete that answers a value, a replacement that answers the value expected and a pop
-- that answers a pair; other calls have read it.
abbrev pub IsToldOf : PassView → PassView → MapCall → Option MapReply → Type 0
IsToldOf old new call (Some told) = IsChangeOrReading (edit_of call told) old new call told
IsToldOf old new call None = Unit {0}

-- Refusals

-- The call has made `tries` tries and lost them all, the newest over the node n to the SCX-record
-- s. The pass has no new entry.
pub record IsContendedCall (tries : ℕ) (old new : PassView) (call : MapCall) (n s : ℕ) : Type 0 where
  pub lost : HasLostSince new.layout new.number (run_of new) (run_of old) call tries n s
  pub done : done_of new ≡ done_of old

-- The share has too little left for the newest try of the call. The call has taken nothing of the
-- share, or another pass was in the way. The pass has no new entry.
pub record IsFullCall (old new : PassView) (call : MapCall) (full : FullOf) : Type 0 where
  pub short : HasTooLittleSince new.layout new.number (run_of new) (run_of old) call new.share full
  pub first : (new.share ≡ old.share) ⊎ ((n : ℕ) × (s : ℕ) × IsOthersScx new.layout new.number s × WasInTheWay (run_of new) (run_of old) n s)
  pub done : done_of new ≡ done_of old

-- why nothing is answered by a call that may make this many tries
abbrev pub IsRefusalOf : {K V : Type 0} → ℕ → PassView → PassView → MapCall → Reply K V → Type 0
IsRefusalOf tries old new call (Contended node scx) = IsContendedCall tries old new call node.0 scx.0
IsRefusalOf tries old new call (Full full) = IsFullCall old new call full
IsRefusalOf tries old new call NoMemory = KeepsLists call × (done_of new ≡ done_of old)
IsRefusalOf tries old new call _ = Unit {0}

-- What a call tries, takes and blames

-- The call, which may make `tries` tries, has begun no more, and each only as needed: each but the
-- newest was lost to another pass by the start of the next. Of the share no more is gone than the
-- tries that it has begun may take.
pub record HasSpentAtMost (old new : PassView) (call : MapCall) (tries : ℕ) : Type 0 where
  pub tried : HasTriedAtMost new.layout new.number (run_of new) (run_of old) (most_tries call tries)
  pub nodes : old.share.nodes ≤ new.share.nodes + most_nodes call * tries_since new.number (run_of new) (run_of old)
  pub scx : old.share.scx ≤ new.share.scx + most_scx call (tries_since new.number (run_of new) (run_of old))
  -- for each SCX-record that is gone no more nodes than a try may take
  pub each : old.share.nodes + most_nodes call * new.share.scx ≤ new.share.nodes + most_nodes call * old.share.scx
  -- and nothing is put back
  pub gone_nodes : new.share.nodes ≤ old.share.nodes
  pub gone_scx : new.share.scx ≤ old.share.scx
  -- what is left is the upper end of what there was
  pub end_nodes : new.share.next_node + new.share.nodes ≡ old.share.next_node + old.share.nodes
  pub end_scx : new.share.next_scx + new.share.scx ≡ old.share.next_scx + old.share.scx

-- the blame list after this reply: `Contended` blames its SCX-record
abbrev pub blamed_by_reply : {K V : Type 0} → Reply K V → List ℕ → List ℕ
blamed_by_reply (Contended node scx) blamed = scx.0 ∷ blamed
blamed_by_reply _ blamed = blamed

-- What a whole call says

-- The pass, which knew `old` as the call began and knows `new` at its end, has made this call of a
-- dictionary, a trie or a tree, and has this reply. `valid` says of a key or a value whether it is
-- one of its type, and the other two give their words.
pub record HasCalledIn {K V : Type 0} (trie : Bool) (valid_key : K → Type 0) (key : K → ℕ) (valid_value : V → Type 0) (value_word : V → ℕ) (forest : Ground) (old new : PassView) (call : MapCall) (reply : Reply K V) : Type 0 where
  -- it is of this forest still, whose words spell a map
  pub pass : IsOf forest new
  pub mode : new.layout.mode ≡ map_mode trie
  -- the run that it knows is lawful, and extends what it knew by no more steps of its own than
  -- such a call makes; it blames whom the reply names
  pub goes_on : HasGoneOn (TypedAllows (IsWordOf valid_key key) (IsWordOf valid_value value_word)) old new (taken_of old) (most_steps call forest.tries (nodes_by trie (shared_nodes forest.layout))) (blamed_by_reply reply old.blamed)
  -- it has begun tries only as needed, and spent no more of its share than these may
  pub spends : HasSpentAtMost old new call forest.tries
  -- its steps are of the kinds that such a call makes
  pub kinds : HasKeptToKinds old new call
  -- what the reply says of the map is of a version of it, and why it says nothing is so
  pub told : IsToldOf old new call (told_of key value_word reply)
  pub refused : IsRefusalOf forest.tries old new call reply
  -- the reply is of a form for such a call, and its keys and values are those of their types
  pub form : MayReply call (form_of reply)
  pub valid : IsValidReply valid_key valid_value reply
  -- a range that asks for no pairs has left the pass as it was
  pub nothing : ¬ AsksForPairs call → new ≡ old

-- the answer of an edit as a reply, if this is the reply that says what it says
abbrev pub update_reply : {A K V : Type 0} → (A → Reply K V) → Result A UpdateFault → Reply K V
update_reply told (Ok answer) = told answer
update_reply told (Err (updates.Contended node scx)) = Contended node scx
update_reply told (Err (updates.Full full)) = Full full

-- and that of an ordered read
abbrev pub order_reply : {A K V : Type 0} → (A → Reply K V) → Result A OrderFault → Reply K V
order_reply told (Ok answer) = told answer
order_reply told (Err (reads.Contended node scx)) = Contended node scx
order_reply told (Err reads.NoMemory) = NoMemory
