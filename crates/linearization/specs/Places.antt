-- What callers know of the places of a run's changes.
use Rattle.std.specs.Prelude.{ℕ, ◌-◌, List, map, reverse, vec_len, IsSome, IfSome}
use Rattle.std.specs.Vec.{vec_capacity}
use Rattle.std.specs.Ordering.{nat_cmp}
use Rattle.std.specs.BTreeMap.{get}
use Rattle.script.specs.declared.command.Command.{Command}
use Rattle.linearization.specs.Changed.{changed_key}
use Rattle.linearization.specs.declared.places.Change.{Change}
use Rattle.linearization.specs.declared.places.Place.{Place}
use Rattle.linearization.specs.declared.places.Places.{Places}

-- the changes so far, the newest first
abbrev pub changes : Places → List Change
changes p = map (λ (q : Place). q.change) (reverse p.list.items)

-- how many changes fit without a growth
abbrev pub room_for_changes : Places → ℕ
room_for_changes p = vec_capacity p.list - vec_len p.list

-- a change of this key may be pushed
abbrev pub Knows : Places → ℕ → Type 0
Knows p key = IsSome (get nat_cmp p.newest key)

-- P holds of the key that a command may change, if it may change one
abbrev pub HoldsOfKey : (ℕ → Type 0) → Command → Type 0
HoldsOfKey P command = IfSome (changed_key command) P
