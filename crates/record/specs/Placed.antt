-- Where a call of the map is in the record, and what its reply says there.
use Rattle.std.specs.Prelude.{◌≡◌, ℕ, ◌<◌, ◌≤◌, List, ◌∷◌, ◌++◌, Bool, true, false, Option, Some, None}
use Rattle.ordered_map.specs.OrderedMap.{MapCall, MapReply, reply, changes_map}
use Rattle.script.specs.declared.call.Call.{Call}
use Rattle.record.specs.declared.record.Line.{Line}
use Rattle.record.specs.declared.record.Line.TheVariants.{Log}
use Rattle.record.specs.declared.record.Entry.{Entry}
use Rattle.record.specs.declared.record.Finished.{Finished}
use Rattle.record.specs.MapRecord.{reply_told, written_log, entries_of_call, map_of, map_at}

-- m is the greatest turn from `first` to `last` for which P holds
pub record IsGreatestTurn (P : ℕ → Type 0) (first last m : ℕ) : Type 0 where
  pub from : first ≤ m
  pub to : m ≤ last
  pub holds : P m
  pub none_later : (n : ℕ) → m < n → n ≤ last → ¬ P n

-- A changing call has one entry. Its moment is the entry's turn, and it answers what the map just
-- before that entry replies.
pub record IsPlacedChange (calls : List Call) (lines : List Line) (call : MapCall) (r : Finished) : Type 0 where
  pub entry : Entry
  pub newer : List Line
  pub older : List Line
  pub entered : lines ≡ newer ++ Log entry ∷ older
  pub client : entry.client.0 ≡ r.client.0
  pub number : entry.call ≡ r.call
  pub once : entries_of_call r.client.0 r.call (written_log lines) ≡ 1
  pub moment : r.moment ≡ Some entry.step
  pub replies : reply_told r.answer ≡ Some (reply call (map_of calls (written_log older)))

-- A reading call has no entry. Its moment is the greatest turn from its first to its last, whoever
-- made it, after which the map gives its reply.
pub record IsPlacedReading (calls : List Call) (lines : List Line) (call : MapCall) (r : Finished) : Type 0 where
  pub none : entries_of_call r.client.0 r.call (written_log lines) ≡ 0
  pub turn : ℕ
  pub moment : r.moment ≡ Some turn
  pub greatest : IsGreatestTurn (λ m. reply_told r.answer ≡ Some (reply call (map_at calls lines m))) r.begin r.end turn

-- A refused call has no entry and no moment.
pub record IsRefused (lines : List Line) (r : Finished) : Type 0 where
  pub none : entries_of_call r.client.0 r.call (written_log lines) ≡ 0
  pub moment : r.moment ≡ None

-- A call that says something has changed the map, or read it.
abbrev pub IsPlacedChangeOrReading : Bool → List Call → List Line → MapCall → Finished → Type 0
IsPlacedChangeOrReading true calls lines call r = IsPlacedChange calls lines call r
IsPlacedChangeOrReading false calls lines call r = IsPlacedReading calls lines call r

-- where a call of the map took place, by what it answers
abbrev pub IsPlacedOnMap : Option MapReply → List Call → List Line → MapCall → Finished → Type 0
IsPlacedOnMap (Some told) calls lines call r = IsPlacedChangeOrReading (changes_map call told) calls lines call r
IsPlacedOnMap None calls lines call r = IsRefused lines r
