-- The bounds of an insert.
use Rattle.std.proofs.Common.{◌≡◌, ℕ, ◌+◌, ◌*◌, ◌<◌, ◌≤◌, Bool, true, false, ◌==◌, if◌then◌else◌, List, [], ◌∷◌, length, take, drop, Some, None, subst, arith}
use Rattle.arena.specs.declared.number.NodeNo.{NodeNo}
use Rattle.std.proofs.Math.Decide.{dec_lt}
use Rattle.template.specs.Common.{Snap, Pair, pair, insert}
use Rattle.template.specs.declared.walk.Found.{Found}
use Rattle.tree.specs.LeafEdit.{leaf_looks, leaf_reads}
use Rattle.tree.specs.Put.Means.{put_means, put_need, put_pieces, put_reads, put_work, put_work_by, above_pieces, next_node, parted_pieces, parts_by, place_among, splits, strays, lower, split_or_leaf, split_pieces, pairs_with, second_pairs}
use Rattle.tree.specs.Laws.PairLists.{parts_long}
use Rattle.edits.specs.declared.edit.Look.TheVariants.{At, Enough}
use Rattle.edits.specs.declared.edit.Nodes.{Nodes}
use Rattle.edits.specs.declared.piece.Piece.TheVariants.{Leaf}
use Rattle.edits.specs.declared.reading.Reading.{Reading}
use Rattle.edits.specs.Edits.{EditBounds}
use Rattle.edits.specs.Pairs.{below}
use Rattle.edits.specs.declared.edit.Nth.{Nth}
use Rattle.edits.specs.Laws.PieceFills.{the_same}
use Rattle.edits.specs.Pieces.{all_fills, many_fills}
use Rattle.edits.specs.Readings.{reads_left}
use Rattle.edits.proofs.Lemmas.{begun_left}

pub few_looks : (f : Found) (next : NodeNo) (snaps : List Snap) (n : NodeNo) → leaf_looks f next snaps ≡ At n → length snaps < 2
few_looks f next [] n e = omega arith
few_looks f next (p ∷ []) n e = omega arith
few_looks f next (p ∷ l ∷ snaps) n e = absurd (let d : Enough ≡ At n = e in cc)

few_by_split : (split : Bool) → put_need split ≤ 3
few_by_split true = omega arith
few_by_split false = omega arith

pub few_nodes : (trie : Bool) (f : Found) → (put_work trie f).need ≤ 3
few_nodes trie f = go (strays trie f)
  where
    go : (b : Bool) → (put_work_by b (splits f) f).need ≤ 3
    go true = omega arith
    go false = few_by_split (splits f)

-- and some
pub some_needed : (trie : Bool) (f : Found) → 0 < (put_work trie f).need
some_needed trie f = go (strays trie f) (splits f)
  where
    go : (a b : Bool) → 0 < (put_work_by a b f).need
    go true b = omega arith
    go false true = omega arith
    go false false = omega arith

few_reads : (trie : Bool) (f : Found) (x : NodeNo × Reading) → put_reads trie f ≡ Some x → reads_left x.1 ≤ 12
few_reads trie f x e = go (strays trie f) (f.head.class == 0) e
  where
    go : (a b : Bool) → (if a then None else (if b then Some (leaf_reads f) else None)) ≡ Some x → reads_left x.1 ≤ 12
    go true b d = absurd (let z : None ≡ Some x = d in cc)
    go false true d = subst (λ (y : NodeNo × Reading). reads_left y.1 ≤ 12) (the_same (leaf_reads f) x d) (begun_left f.head f.more)
    go false false d = absurd (let z : None ≡ Some x = d in cc)

-- a leaf of this many pairs
leaf_fills : (level class : ℕ) (ps : List Pair) (n : ℕ) → length ps ≤ n → n ≤ 4 → many_fills (Leaf level class ps) ≤ 2 + 3 * n
leaf_fills level class ps n few four = omega (arith, few, four)

any_leaf : (level class : ℕ) (ps : List Pair) → many_fills (Leaf level class ps) ≤ 14
any_leaf level class ps = omega arith

first_few : (ps : List Pair) → length (take 2 ps) ≤ 2
first_few [] = omega arith
first_few (a ∷ []) = omega arith
first_few (a ∷ b ∷ ps) = omega arith

rest_few : (ps : List Pair) → length (drop 2 (take 5 ps)) ≤ 3
rest_few [] = omega arith
rest_few (a ∷ []) = omega arith
rest_few (a ∷ b ∷ []) = omega arith
rest_few (a ∷ b ∷ c ∷ []) = omega arith
rest_few (a ∷ b ∷ c ∷ d ∷ []) = omega arith
rest_few (a ∷ b ∷ c ∷ d ∷ e ∷ ps) = omega arith

second_few : (k v : ℕ) (f : Found) (read : Reading) → length (second_pairs f (pairs_with k v f read)) ≤ 3
second_few k v f read = go (f.head.class == 0)
  where
    go : (b : Bool) → length (if b then drop 2 (if b then take 5 (insert k v read.pairs) else pair k v ∷ []) else pair 0 0 ∷ []) ≤ 3
    go true = rest_few (insert k v read.pairs)
    go false = omega arith

split_fills : (k v : ℕ) (f : Found) (ns : Nodes) (read : Reading) → all_fills 3 (split_pieces (pairs_with k v f read) f ns) ≤ 23
split_fills k v f ns read =
    let a = leaf_fills (lower f.head.level) 0 (take 2 (pairs_with k v f read)) 2 (first_few (pairs_with k v f read)) (omega arith) in
    let b = leaf_fills (lower f.head.level) f.head.class (second_pairs f (pairs_with k v f read)) 3 (second_few k v f read) (omega arith) in
    omega (arith, a, b)

-- in a trie both parts of five
leaf_by : (level class : ℕ) (ps : List Pair) → many_fills (Leaf level class ps) ≤ 2 + 3 * length ps
leaf_by level class ps = go (dec_lt 4 (length ps))
  where
    go : Dec (4 < length ps) → many_fills (Leaf level class ps) ≤ 2 + 3 * length ps
    go (yes l) = let a = any_leaf level class ps in omega (arith, a, l)
    go (no n) = leaf_fills level class ps (length ps) (omega arith) (omega (arith, n))

five_most : (ps : List Pair) → length (take 5 ps) ≤ 5
five_most [] = omega arith
five_most (a ∷ []) = omega arith
five_most (a ∷ b ∷ []) = omega arith
five_most (a ∷ b ∷ c ∷ []) = omega arith
five_most (a ∷ b ∷ c ∷ d ∷ []) = omega arith
five_most (a ∷ b ∷ c ∷ d ∷ e ∷ ps) = omega arith

parted_fills : (k v : ℕ) (f : Found) (ns : Nodes) (read : Reading) → all_fills 3 (parted_pieces (pairs_with k v f read) f ns) ≤ 23
parted_fills k v f ns read = go (f.head.class == 0)
  where
    go : (b : Bool) → let ps : List Pair = (if b then take 5 (insert k v read.pairs) else pair k v ∷ []) in all_fills 3 (parts_by b ps f ns) ≤ 23
    go true =
        let ps : List Pair = take 5 (insert k v read.pairs) in
        let n : ℕ = below (place_among ps).key ps in
        let a = leaf_by 66 0 (take n ps) in
        let b = leaf_by 66 0 (drop n ps) in
        let all = parts_long n ps in
        let five = five_most (insert k v read.pairs) in
        omega (arith, a, b, all, five)
    go false = let a = leaf_by 66 0 (pair k v ∷ []) in let b = leaf_by 2 f.head.class (pair 0 0 ∷ []) in omega (arith, a, b)

above_fills : (k v : ℕ) (f : Found) (ns : Nodes) → all_fills 2 (above_pieces k v f ns) ≤ 23
above_fills k v f ns = let a = leaf_by 66 0 (pair k v ∷ []) in omega (arith, a)

few_fills : (trie : Bool) (k v : ℕ) (f : Found) (ns : Nodes) (read : Reading) → all_fills (put_work trie f).need (put_pieces k v trie f ns read) ≤ 23
few_fills trie k v f ns read = go (strays trie f) (splits f) trie
  where
    go : (a b t : Bool) → all_fills (put_work_by a b f).need (λ (nth : Nth). if a then above_pieces k v f ns nth else split_or_leaf t b (pairs_with k v f read) f ns nth) ≤ 23
    go true b t = above_fills k v f ns
    go false false t = let a = any_leaf f.head.level 0 (pairs_with k v f read) in omega (arith, a)
    go false true true = parted_fills k v f ns read
    go false true false = split_fills k v f ns read

-- an insert looks at two nodes, takes at most three, reads at most twelve words and makes at most
-- 23 fills
pub put_bounds : EditBounds put_means
put_bounds = record {
  few_looks = λ e f snaps n d. few_looks f (next_node e.trie f) snaps n d;
  small = omega arith;
  few_nodes = λ e f. few_nodes e.trie f;
  some_nodes = omega arith;
  few_reads = λ e f snaps x d. few_reads e.trie f x d;
  few_fills = λ e f snaps ns read. few_fills e.trie e.key e.value f ns read;
}
