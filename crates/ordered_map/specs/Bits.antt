-- The shape of a trie: a fork parts keys at a bit, the lowest that its key has, and what stands
-- below it keeps to the keys of its side.
use Rattle.std.specs.Prelude.{min, max, bit_xor, ◌≡◌, ◌≢◌, ℕ, ◌+◌, ◌-◌, ◌*◌, ◌/◌, ◌%◌, ◌^◌, ◌<◌, ◌≤◌, true, false, if◌then◌else◌, ◌==◌}
use Rattle.std.specs.Int.Count.{count_leading_zeros}
use Rattle.ordered_map.specs.declared.fork_place.ForkPlace.{ForkPlace}
use Rattle.histories.specs.Common.{Side, Left, Right, Word, node, child, first_key}
use Rattle.ordered_map.specs.OrderedMap.{AllBelow, AllFrom}
use Rattle.ordered_map.specs.Holding.{held_pairs}
use Rattle.ordered_map.specs.TreeWords.{class, is_leaf, level}

-- Keys and levels, as numbers

-- how many keys each side of a fork of class 0 on this level has room for: one that parts keys at
-- bit b stands on level 65 - b
abbrev pub room_at : ℕ → ℕ
room_at level = 2 ^ (65 - level)

-- a fork of class 0 with this key may stand on this level, from 2 for bit 63 to 65 for bit 0: the
-- lowest bit that the key has is the level's
pub record IsForkKey (key level : ℕ) : Type 0 where
  pub high : 2 ≤ level
  pub deep : level ≤ 65
  pub lowest : key % (2 * room_at level) ≡ room_at level

-- k may stand below such a fork: it agrees with the fork's key in all bits above the level's
abbrev pub IsInSpan : ℕ → ℕ → ℕ → Type 0
IsInSpan key level k = (key - room_at level ≤ k) × (k < key + room_at level)

-- such a fork parts j and k, which are in its span: their highest differing bit is the level's
pub record PartsKeys (j k key level : ℕ) : Type 0 where
  pub fork : IsForkKey key level
  pub below : j < key
  pub above : key ≤ k
  pub first : IsInSpan key level j
  pub last : IsInSpan key level k

-- the highest bit in which two keys differ; of one key twice the lowest
abbrev pub bit_between : ℕ → ℕ → ℕ
bit_between j k = 63 - min (count_leading_zeros 64 (bit_xor j k)) 63

-- the fork between two keys goes by that bit, and has the greater of them without the bits below it
abbrev pub place_between : ℕ → ℕ → ForkPlace
place_between j k = record { key = max j k / 2 ^ bit_between j k * 2 ^ bit_between j k; level = 65 - bit_between j k }

-- The forks that words show; `f` says what each word holds

-- how many keys each side of the fork n of class 0 has room for
abbrev pub side_room : (Word → ℕ) → ℕ → ℕ
side_room f n = room_at (level f n)

-- The keys that may stand on a side of the fork n: from here to below there. Above all keys they
-- are all on the left.
abbrev pub side_from : (Word → ℕ) → ℕ → Side → ℕ
side_from f n Left = if class f n == 0 then f (node n first_key) - side_room f n else 0
side_from f n Right = if class f n == 0 then f (node n first_key) else 2 ^ 64

abbrev pub side_to : (Word → ℕ) → ℕ → Side → ℕ
side_to f n Left = if class f n == 0 then f (node n first_key) else 2 ^ 64
side_to f n Right = if class f n == 0 then f (node n first_key) + side_room f n else 2 ^ 64

-- k shares the fork n: it may stand below it
abbrev pub Shares : (Word → ℕ) → ℕ → ℕ → Type 0
Shares f n k = (side_from f n Left ≤ k) × (k < side_to f n Right)

-- the fork n stands on the level that it should: above all keys on 0 or 1, by its class, and else
-- on that of the lowest bit of its key
pub record IsParted (f : Word → ℕ) (n : ℕ) : Type 0 where
  pub top : class f n ≢ 0 → level f n + class f n ≡ 2
  pub key : class f n ≡ 0 → IsForkKey (f (node n first_key)) (level f n)

-- what stands below the fork n on this side keeps to the keys there: a fork of class 0 by all keys
-- that it shares, a leaf by those of its pairs. All leaves of class 0 are on level 66, the two
-- others on 1 or 2.
pub record Keeps (f : Word → ℕ) (n : ℕ) (side : Side) (m : ℕ) : Type 0 where
  pub fork : is_leaf f m ≡ false → class f m ≡ 0 → (side_from f n side ≤ side_from f m Left) × (side_to f m Right ≤ side_to f n side)
  pub leaf : is_leaf f m ≡ true → class f m ≡ 0 → (level f m ≡ 66) × AllFrom (side_from f n side) (held_pairs f m) × AllBelow (side_to f n side) (held_pairs f m)
  pub last : is_leaf f m ≡ true → class f m ≢ 0 → level f m + class f m ≤ 3

-- the fork n parts keys at a bit, and its children keep to its sides
abbrev pub IsTrieFork : (Word → ℕ) → ℕ → Type 0
IsTrieFork f n = is_leaf f n ≡ false → IsParted f n × ((side : Side) → Keeps f n side (f (child n side)))
