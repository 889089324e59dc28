-- Part of a tree that is planted: nodes in a row that show the pairs of a list.
use Rattle.std.specs.Prelude.{◌≡◌, ℕ, suc, ◌+◌, ◌*◌, ◌/◌, ◌^◌, ◌<◌, ◌≤◌, Bool, true, false, List, [], ◌∷◌, ◌++◌, length, take, drop}
use Rattle.histories.specs.Common.{Side, Left, Right, Word, Child, History, value}
use Rattle.edits.specs.declared.piece.Piece.{Piece}
use Rattle.edits.specs.Laws.PieceFills.{HoldsWords}
use Rattle.edits.specs.Pieces.{word_of}
use Rattle.ordered_map.specs.declared.pair.Pair.{Pair}
use Rattle.ordered_map.specs.OrderedMap.{AllBelow, AllFrom}
use Rattle.ordered_map.specs.TreeWords.{Tree, root, Shows, Has, class, level}
use Rattle.ordered_map.specs.Planted.{items}
use Rattle.ordered_map.specs.Bits.{IsParted, IsTrieFork, Keeps, PartsKeys, side_from, side_to}

-- The `many` nodes from `at` on are those of a tree with this root, whose leaves hold these pairs;
-- all are of class 0. In a tree the root is on the level `deep`, and none is more than `tall`
-- levels below it; in a trie each fork parts keys at a bit, and the root keeps to each side to
-- which the pairs do.
pub record IsGrove (trie : Bool) (f : Word → ℕ) (ps : List Pair) (deep tall at many top : ℕ) : Type 0 where
  pub tree : Tree
  pub is : root tree ≡ top
  pub there : (n : ℕ) → Has tree n → (at ≤ n) × (n < at + many)
  pub whole : (n : ℕ) → at ≤ n → n < at + many → Has tree n
  pub shows : (lo hi : ℕ) → AllFrom lo ps → AllBelow hi ps → Shows f lo hi tree
  pub items : items f tree ≡ ps
  pub low : (n : ℕ) → Has tree n → class f n ≡ 0
  pub deep_at : trie ≡ false → level f top ≡ deep
  pub tall_most : trie ≡ false → (n : ℕ) → Has tree n → level f n ≤ deep + tall
  pub forks : trie ≡ true → (n : ℕ) → Has tree n → IsTrieFork f n
  pub keeps : trie ≡ true → (n : ℕ) (side : Side) → IsParted f n → AllFrom (side_from f n side) ps → AllBelow (side_to f n side) ps → Keeps f n side top × (level f n < level f top)

-- how a fork of a trie parts its pairs: from the first key to the last
pub record IsParting (ls rs : List Pair) (key deep : ℕ) : Type 0 where
  pub first : ℕ
  pub last : ℕ
  pub parts : PartsKeys first last key deep
  pub from : AllFrom first ls
  pub below : AllBelow (suc last) rs
  pub between : (lo hi : ℕ) → AllFrom lo (ls ++ rs) → AllBelow hi (ls ++ rs) → (lo ≤ first) × (first < hi) × (lo ≤ last) × (last < hi)

-- Where pairs are parted by a fork with this key, on this level: those before the place `middle`
-- are below it. In a tree they are halved, those below it into full leaves, on the level that is
-- asked for; in a trie the fork is the one between the first and the last of them.
pub record IsPartedAt (trie : Bool) (ps : List Pair) (deep middle key here : ℕ) : Type 0 where
  pub some : 0 < middle
  pub less : middle < length ps
  pub below : AllBelow key (take middle ps)
  pub from : AllFrom key (drop middle ps)
  pub fits : here ≤ deep + 65
  pub full : trie ≡ false → middle ≡ 4 * (middle / 4)
  pub in_tree : trie ≡ false → (here ≡ deep) × ((t : ℕ) → length ps ≤ 4 * 2 ^ suc t → (middle ≤ 4 * 2 ^ t) × (length ps ≤ middle + 4 * 2 ^ t))
  pub in_trie : trie ≡ true → IsParting (take middle ps) (drop middle ps) key here

-- the nodes from `at` on hold these pieces
abbrev pub HoldsRow : History → ℕ → List Piece → Type 0
HoldsRow h at [] = Unit {0}
HoldsRow h at (p ∷ ps) = HoldsWords h at p × HoldsRow h (suc at) ps

-- each field of these pieces names a node below this one
abbrev pub NamesBelow : ℕ → List Piece → Type 0
NamesBelow most [] = Unit {0}
NamesBelow most (p ∷ ps) = (word_of p (Child Left) < most) × (word_of p (Child Right) < most) × NamesBelow most ps

-- Nodes for these pairs were added to the row, which begins at node 3, the top as the last:
-- whatever holds them shows the pairs. In a tree of n pairs no leaf is more than k levels below the
-- top if n is at most 4 times 2 ^ k, and all leaves but the last are full: there are as few as can
-- be, and a fork less.
pub record HasGrown (trie : Bool) (ps : List Pair) (deep : ℕ) (old new : List Piece) (top : ℕ) : Type 0 where
  pub more : List Piece
  pub is : new ≡ old ++ more
  pub few : length more < 2 * length ps
  pub enough : length ps ≤ 4 * length more
  pub full : trie ≡ false → length more + 1 ≡ 2 * ((length ps + 3) / 4)
  pub last : suc top ≡ 3 + length new
  pub names : NamesBelow (3 + length new) more
  pub grove : (h : History) (tall : ℕ) → HoldsRow h (3 + length old) more → (trie ≡ false → length ps ≤ 4 * 2 ^ tall) → IsGrove trie (value h) ps deep tall (3 + length old) (length more) top
