-- The books of a pass as its table opens.
use Rattle.std.specs.Prelude.{◌≡◌, ◌+◌, ◌*◌, ◌^◌, ◌<◌, ◌≤◌, ℕ}
use Rattle.slots.specs.Lasting.{Lasting}
use Rattle.upkeep.specs.UpkeepBook.{count_own, first_own, turn_of}
use Rattle.upkeep.specs.declared.kind.RecordKind.{RecordKind}
use Rattle.upkeep.specs.declared.open.OwnPlaces.{OwnPlaces}

-- these are the slots of pass o of this kind, and its names
pub record ArePlacesOf (t : Lasting) (kind : RecordKind) (o : ℕ) (places : OwnPlaces) : Type 0 where
  pub first : places.first ≡ first_own kind t.table o
  pub count : places.count ≡ count_own kind t.table
  pub turn : places.turn ≡ turn_of kind t
  pub name : places.name ≡ first_own kind t.lay o
  pub end : places.end ≡ first_own kind t.lay o + count_own kind t.lay
  pub some : 0 < places.turn
  pub few : places.turn ≤ 2 ^ 60
  pub small : places.first < 2 ^ 32
  pub inside : places.end ≤ 2 ^ 60
  pub within : places.name + places.count ≤ places.end

-- so it is of so many slots each pass behind `start`
pub record AreNamesOf (start slots bits laps o : ℕ) (places : OwnPlaces) : Type 0 where
  pub first : places.first ≡ start + o * slots
  pub count : places.count ≡ slots
  pub turn : places.turn ≡ 2 ^ bits
  pub name : places.name ≡ start + o * (slots + laps * 2 ^ bits)
  pub end : places.end ≡ start + o * (slots + laps * 2 ^ bits) + (slots + laps * 2 ^ bits)
  pub some : 0 < places.turn
  pub few : places.turn ≤ 2 ^ 60
  pub small : places.first < 2 ^ 32
  pub inside : places.end ≤ 2 ^ 60
  pub within : places.name + places.count ≤ places.end
