-- What a pass has done by the end of several calls.
use Rattle.std.specs.Prelude.{◌≡◌, ℕ, Option, Some}
use Rattle.regnubas.specs.Dictionary.{IsChange, IsContendedCall, IsFullCall, IsReading}
use Rattle.regnubas.specs.OrderedMap.{Get, Insert, MapCall, OneValue, call_insert, edited, get}
use Rattle.regnubas.specs.Passes.{PassView, IsLaterView}
use Rattle.regnubas.specs.Types.{UpdateFault}
use Rattle.regnubas.specs.declared.UpdateFault.TheVariants.{Contended, Full}

-- one of the pass's calls has set k to v
pub record HasSet (old new : PassView) (k v : ℕ) : Type 0 where
  pub began : PassView
  pub ended : PassView
  pub from : IsLaterView old began
  pub told : Option ℕ
  pub set : IsChange began ended (call_insert k v) (OneValue told) (Insert k v)
  pub to : IsLaterView ended new

-- one of its calls has read that k has v
pub record HasReadValue (old new : PassView) (k v : ℕ) : Type 0 where
  pub began : PassView
  pub ended : PassView
  pub from : IsLaterView old began
  pub read : IsReading began ended (Get k) (OneValue (Some v))
  pub to : IsLaterView ended new

-- the call itself has set k to v, and told what k had just before: the map of its version, from
-- which its one entry is made, had that, and the map that it leaves has k at v
pub record HasSetAt (old new : PassView) (k v : ℕ) (told : Option ℕ) : Type 0 where
  pub set : IsChange old new (call_insert k v) (OneValue told) (Insert k v)
  pub had : get k set.map ≡ told
  pub has : get k (edited (Insert k v) set.map) ≡ Some v

-- why the call of a forest that allows so many tries has set nothing
abbrev pub IsUpdateRefused : ℕ → PassView → PassView → MapCall → UpdateFault → Type 0
IsUpdateRefused tries old new call (Contended node scx) = IsContendedCall tries old new call node.0 scx.0
IsUpdateRefused tries old new call (Full full) = IsFullCall old new call full
