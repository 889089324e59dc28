-- Ordered reads: which keys they look for, and what they answer of the map. A pop is one too: it
-- answers the first pair of all, or the last, or none.
use Rattle.std.specs.Prelude.{ℕ, ◌<◌, Bool, false, ◌&&◌, ◌||◌, not, nat_le, nat_lt, ◌⊎◌, ◌≡◌, suc, true, List, [], ◌∷◌, length, take, Option, Some, nat_eq}
use Rattle.std.specs.Option.{option_eq}
use Rattle.std.specs.List.{filter, list_any}
use Rattle.record.specs.Common.{Pair, get, MapReply, ManyPairs, Command, Map, PopFirst, Successor, Predecessor, Range}
use Rattle.ordered_map.specs.OrderedMap.{OnePair}
use Rattle.ordered_map.specs.declared.request.Request.TheVariants.{PopLast}
use Rattle.linearization.specs.declared.places.Change.{Change}

-- it is one
abbrev pub IsOrderedRead : Command → Type 0
IsOrderedRead (Map PopFirst) = Unit {0}
IsOrderedRead (Map PopLast) = Unit {0}
IsOrderedRead (Map (Successor key)) = Unit {0}
IsOrderedRead (Map (Predecessor key)) = Unit {0}
IsOrderedRead (Map (Range low high most)) = Unit {0}
IsOrderedRead _ = ⊥

-- whether what tells the last of some pairs, or none, looks for this key of one of them: it looks
-- whether there is another one behind the pair, or any
abbrev pub is_from : List Pair → ℕ → Bool
is_from [] key = true
is_from (p ∷ []) key = nat_le p.key key
is_from _ key = false

-- whether it looks for this key, if it answers these pairs
abbrev pub looks_for : Command → List Pair → ℕ → Bool
looks_for (Map PopFirst) told key = true
looks_for (Map PopLast) told key = is_from told key
looks_for (Map (Successor above)) told key = nat_lt above key
looks_for (Map (Predecessor below)) told key = nat_lt key below && is_from told key
looks_for (Map (Range low high most)) told key = nat_le low key && nat_le key high
looks_for _ told key = false

-- how many pairs it finds at most
abbrev pub most_told : Command → ℕ
most_told (Map PopFirst) = 1
most_told (Map PopLast) = 2
most_told (Map (Successor above)) = 1
most_told (Map (Predecessor below)) = 2
most_told (Map (Range low high most)) = most
most_told _ = 0

-- the pairs of the map m that it finds, if it answers these: the first of those that it looks for
abbrev pub pairs_read : Command → List Pair → List Pair → List Pair
pairs_read command told m = take (most_told command) (filter (λ p. looks_for command told p.key) m)

-- of the map m it answers just these pairs
abbrev pub AreReadPairs : Command → List Pair → List Pair → Type 0
AreReadPairs command told m = pairs_read command told m ≡ told

-- the pairs that a reply has
abbrev pub pairs_in : Option MapReply → List Pair
pairs_in (Some (OnePair p)) = p ∷ []
pairs_in (Some (ManyPairs ps)) = ps
pairs_in _ = []

-- whether these pairs, at most `most`, say what the key has: they are fewer, or go as far
abbrev pub reaches : ℕ → List Pair → ℕ → Bool
reaches most pairs key = nat_lt (length pairs) most || list_any (λ p. nat_le key p.key) pairs

-- whether a key of this value is not as these pairs say
abbrev pub is_unlike : Command → List Pair → ℕ → Option ℕ → Bool
is_unlike command pairs key value = looks_for command pairs key && (reaches (most_told command) pairs key && not (option_eq nat_eq (get key pairs) value))

-- the turns of the changes fall, the newest being below this one
abbrev pub FallFrom : ℕ → List Change → Type 0
FallFrom turn [] = Unit {0}
FallFrom turn (c ∷ cs) = (c.turn < turn) × FallFrom c.turn cs

-- What is known of a turn, the best so far, and of an older one, just before a change: which is
-- better, and how many keys more are not as answered after the older one. `was` says that the key
-- of the change was not so before it, and `is` that it is not so after it.
abbrev pub IsNextBest : Bool → Bool → ℕ → ℕ → ℕ → ℕ → ℕ → Type 0
IsNextBest true false older best more best' more' = (best' ≡ best) × (more' ≡ suc more)
IsNextBest false true older best more best' more' = ((more ≡ 0) × (best' ≡ older) × (more' ≡ 0)) ⊎ ((best' ≡ best) × (suc more' ≡ more))
IsNextBest _ _ older best more best' more' = (best' ≡ best) × (more' ≡ more)
