-- Which changes of the map the entries of a record's log are. Entries and changes have
-- the newest first here.
use Rattle.std.specs.Prelude.{◌≡◌, ℕ, ◌≤◌, List, [], ◌∷◌, Option, Some, None}
use Rattle.record.specs.Common.{Pair, MapCall, MapEdit, edit_key, edit_of, first_pair, get, reply, value_left, Call, map_call_of, written_log, map_of, map_at}
use Rattle.record.specs.declared.record.Line.{Line}
use Rattle.record.specs.declared.record.Entry.{Entry}
use Rattle.linearization.specs.declared.places.Change.{Change}

-- the change is that of this edit
abbrev pub IsChangeByEdit : Option MapEdit → Change → Type 0
IsChangeByEdit (Some edit) change = (change.key ≡ edit_key edit) × (change.value ≡ value_left edit)
IsChangeByEdit None change = ⊥

-- the change is that of an entry of this call, just before which the map was m
abbrev pub IsChangeBy : Option MapCall → List Pair → Change → Type 0
IsChangeBy (Some call) m change = IsChangeByEdit (edit_of call (reply call m)) change
IsChangeBy None m change = ⊥

-- the entries are of turns up to this one
abbrev pub AreUpTo : ℕ → List Entry → Type 0
AreUpTo turn [] = Unit {0}
AreUpTo turn (e ∷ es) = (e.step ≤ turn) × AreUpTo turn es

-- the change is that of the entry's call, in the entry's turn, after these older entries, which are
-- of turns up to it
abbrev pub IsChangeOf : List Call → List Entry → Entry → Change → Type 0
IsChangeOf calls older e change = (change.turn ≡ e.step) × IsChangeBy (map_call_of calls e.client.0 e.call) (map_of calls older) change × AreUpTo e.step older

-- the changes are those of the entries, one by one
abbrev pub AreChangesOf : List Call → List Entry → List Change → Type 0
AreChangesOf calls [] [] = Unit {0}
AreChangesOf calls (e ∷ es) (c ∷ cs) = IsChangeOf calls es e c × AreChangesOf calls es cs
AreChangesOf calls _ _ = ⊥

-- the changes are those of the log that the lines have written
abbrev pub AreEntries : List Call → List Line → List Change → Type 0
AreEntries calls lines changes = AreChangesOf calls (written_log lines) changes

-- after some turn from `first` to `last` the map had this at the key
abbrev pub HadWithin : List Call → List Line → ℕ → Option ℕ → ℕ → ℕ → Type 0
HadWithin calls lines key value first last = (m : ℕ) × (first ≤ m) × (m ≤ last) × (get key (map_at calls lines m) ≡ value)

-- after some turn from `first` to `last` the map had this first pair; or none, if it was empty
abbrev pub HadFirstWithin : List Call → List Line → Option Pair → ℕ → ℕ → Type 0
HadFirstWithin calls lines pair first last = (m : ℕ) × (first ≤ m) × (m ≤ last) × (first_pair (map_at calls lines m) ≡ pair)
