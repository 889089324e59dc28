-- How the changes of one key hang together. Places have the newest first here; the number of
-- a place is how many there are after it.
use Rattle.std.specs.Prelude.{◌≡◌, ℕ, if◌then◌else◌, ◌==◌, List, [], ◌∷◌, ◌++◌, length, Option, Some, None}
use Rattle.linearization.specs.declared.places.Change.{Change}
use Rattle.linearization.specs.declared.places.Place.{Place}

-- the number of the newest place of this key
abbrev pub latest : ℕ → List Place → Option ℕ
latest key [] = None
latest key (p ∷ ps) = if key == p.change.key then Some (length ps) else latest key ps

-- each place names the one before it of the same key
abbrev pub AreLinkedByKey : List Place → Type 0
AreLinkedByKey ps = (newer : List Place) (p : Place) (older : List Place) → ps ≡ newer ++ p ∷ older → p.before ≡ latest p.change.key older

-- the value of a key after these changes
abbrev pub newest_value : ℕ → List Change → Option ℕ
newest_value key [] = None
newest_value key (c ∷ cs) = if key == c.key then c.value else newest_value key cs
