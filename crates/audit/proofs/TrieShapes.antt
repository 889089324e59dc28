-- Modes of a map, and which keys may stand below a fork of a trie.
use Rattle.std.proofs.Common.{◌≡◌, ◌≢◌, ℕ, ◌+◌, ◌-◌, ◌*◌, ◌%◌, ◌^◌, ◌<◌, ◌≤◌, ◌⊎◌, eqb, false, inl, inr, refl, sym, ◌∙◌, ap, arith, ne_eqb}
use Rattle.std.proofs.Math.Nat.{pow-le-pow_right}
use Rattle.std.proofs.lemmas.Nat.{one_shl}
use Rattle.arena.specs.Opening.{IsMap, is_map}
use Rattle.arena.specs.declared.limits.Mode.{Mode}
use Rattle.arena.specs.declared.limits.Mode.TheVariants.{Tree, Trie, Records}
use Rattle.histories.specs.Common.{Left, Right, Word, node, first_key}
use Rattle.ordered_map.specs.Bits.{side_room, room_at, side_from, side_to}
use Rattle.ordered_map.specs.TreeWords.{class}

-- a map's mode is a tree or a trie
pub tree_or_trie : (mode : Mode) → IsMap mode → (mode ≡ Tree) ⊎ (mode ≡ Trie)
tree_or_trie Tree e = inl refl
tree_or_trie Trie e = inr refl
tree_or_trie Records e = absurd cc

-- any other is that of cells
pub of_cells : (mode : Mode) → is_map mode ≡ false → mode ≡ Records
of_cells Records e = refl
of_cells Tree e = absurd cc
of_cells Trie e = absurd cc

-- the keys on the sides of a fork n of class 0, in the order of rising keys
pub record AreLowSides (f : Word → ℕ) (n : ℕ) : Type 0 where
  pub from : side_from f n Left ≡ f (node n first_key) - side_room f n
  pub to_middle : side_to f n Left ≡ f (node n first_key)
  pub from_middle : side_from f n Right ≡ f (node n first_key)
  pub to : side_to f n Right ≡ f (node n first_key) + side_room f n

pub low_sides : (f : Word → ℕ) (n : ℕ) → class f n ≡ 0 → AreLowSides f n
low_sides f n low = let e = ap (λ (c : ℕ). eqb c 0) low in record { from = rw e refl; to_middle = rw e refl; from_middle = rw e refl; to = rw e refl }

-- and of one above all keys
pub record AreHighSides (f : Word → ℕ) (n : ℕ) : Type 0 where
  pub from : side_from f n Left ≡ 0
  pub to_middle : side_to f n Left ≡ 2 ^ 64
  pub from_middle : side_from f n Right ≡ 2 ^ 64
  pub to : side_to f n Right ≡ 2 ^ 64

pub high_sides : (f : Word → ℕ) (n : ℕ) → class f n ≢ 0 → AreHighSides f n
high_sides f n high = let e = ne_eqb (class f n) 0 high in record { from = rw e refl; to_middle = rw e refl; from_middle = rw e refl; to = rw e refl }

-- the room of a level is no more than twice as many keys as there are
pub room_small : (level : ℕ) → room_at level < 2 ^ 66
room_small level =
    let two : 0 < 2 = omega arith in
    let fewer : 65 - level ≤ 65 = omega arith in
    let most : 2 ^ (65 - level) ≤ 2 ^ 65 = pow-le-pow_right two fewer in
    omega (arith, most)
