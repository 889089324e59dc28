-- Lists of pairs: the bounds of their keys, what an edit leaves of these, and parts of a list.
use Rattle.std.proofs.Common.{ℕ, ◌<◌, ◌≤◌, Bool, true, false, cond, eqb, ltb, List, [], ◌∷◌, ◌++◌, arith}
use Rattle.ordered_map.specs.declared.pair.Pair.{Pair}
use Rattle.ordered_map.specs.OrderedMap.{AllAbove, AllBelow, AllFrom, IsRising, insert, delete, MapEdit, Insert, Delete, edit_key, edited}

-- Two lists

pub above_join : (k : ℕ) (xs ys : List Pair) → AllAbove k xs → AllAbove k ys → AllAbove k (xs ++ ys)
above_join k [] ys a b = b
above_join k (x ∷ xs) ys a b = (a.0, above_join k xs ys a.1 b)

pub below_join : (k : ℕ) (xs ys : List Pair) → AllBelow k xs → AllBelow k ys → AllBelow k (xs ++ ys)
below_join k [] ys a b = b
below_join k (x ∷ xs) ys a b = (a.0, below_join k xs ys a.1 b)

pub above_split : (k : ℕ) (xs ys : List Pair) → AllAbove k (xs ++ ys) → AllAbove k xs × AllAbove k ys
above_split k [] ys a = (tt, a)
above_split k (x ∷ xs) ys a = let q = above_split k xs ys a.1 in ((a.0, q.0), q.1)

pub from_left : (k : ℕ) (xs ys : List Pair) → AllFrom k (xs ++ ys) → AllFrom k xs
from_left k [] ys a = tt
from_left k (x ∷ xs) ys a = (a.0, from_left k xs ys a.1)

pub below_left : (k : ℕ) (xs ys : List Pair) → AllBelow k (xs ++ ys) → AllBelow k xs
below_left k [] ys a = tt
below_left k (x ∷ xs) ys a = (a.0, below_left k xs ys a.1)

pub below_right : (k : ℕ) (xs ys : List Pair) → AllBelow k (xs ++ ys) → AllBelow k ys
below_right k [] ys a = a
below_right k (x ∷ xs) ys a = below_right k xs ys a.1

-- keys rise in both if they do in each, and some number is above the first's, below the others
pub rising_join : (m : ℕ) (xs ys : List Pair) → AllBelow m xs → IsRising xs → IsRising ys → ((k : ℕ) → k < m → AllAbove k ys) → IsRising (xs ++ ys)
rising_join m [] ys b r s a = s
rising_join m (x ∷ xs) ys b r s a = (above_join x.key xs ys r.0 (a x.key b.0), rising_join m xs ys b.1 r.1 s a)

pub rising_left : (xs ys : List Pair) → IsRising (xs ++ ys) → IsRising xs
rising_left [] ys r = tt
rising_left (x ∷ xs) ys r = ((above_split x.key xs ys r.0).0, rising_left xs ys r.1)

pub rising_right : (xs ys : List Pair) → IsRising (xs ++ ys) → IsRising ys
rising_right [] ys r = r
rising_right (x ∷ xs) ys r = rising_right xs ys r.1

-- Other bounds

pub above_from : (k lo : ℕ) (xs : List Pair) → k < lo → AllFrom lo xs → AllAbove k xs
above_from k lo [] l a = tt
above_from k lo (x ∷ xs) l a = ((let m = a.0 in omega (arith, l, m)), above_from k lo xs l a.1)

pub from_less : (j k : ℕ) (xs : List Pair) → j ≤ k → AllFrom k xs → AllFrom j xs
from_less j k [] l a = tt
from_less j k (x ∷ xs) l a = ((let m = a.0 in omega (arith, l, m)), from_less j k xs l a.1)

pub below_more : (j k : ℕ) (xs : List Pair) → j ≤ k → AllBelow j xs → AllBelow k xs
below_more j k [] l a = tt
below_more j k (x ∷ xs) l a = ((let m = a.0 in omega (arith, l, m)), below_more j k xs l a.1)

pub above_less : (j k : ℕ) (xs : List Pair) → j ≤ k → AllAbove k xs → AllAbove j xs
above_less j k [] l a = tt
above_less j k (x ∷ xs) l a = ((let m = a.0 in omega (arith, l, m)), above_less j k xs l a.1)

-- where keys rise all are from the first on
above_up : (lo k : ℕ) (xs : List Pair) → lo ≤ k → AllAbove k xs → AllFrom lo xs
above_up lo k [] l a = tt
above_up lo k (x ∷ xs) l a = ((let m = a.0 in omega (arith, l, m)), above_up lo k xs l a.1)

pub rising_from : (lo : ℕ) (x : Pair) (xs : List Pair) → lo ≤ x.key → IsRising (x ∷ xs) → AllFrom lo (x ∷ xs)
rising_from lo x xs l r = (l, above_up lo x.key xs l r.0)

-- one more in front
pub rising_cons : (x y : Pair) (ys : List Pair) → x.key < y.key → IsRising (y ∷ ys) → IsRising (x ∷ y ∷ ys)
rising_cons x y ys l r = ((l, above_less x.key y.key ys (omega (arith, l)) r.0), r)

-- An edit keeps bounds

either : (P : List Pair → Type 0) (b : Bool) (xs ys : List Pair) → P xs → P ys → P (cond b xs ys)
either P true xs ys x y = x
either P false xs ys x y = y

insert_from : (lo k v : ℕ) (m : List Pair) → AllFrom lo m → lo ≤ k → AllFrom lo (insert k v m)
insert_from lo k v [] a l = (l, tt)
insert_from lo k v (p ∷ ps) a l = either (AllFrom lo) (ltb k p.key) _ _ (l, (a.0, a.1)) (either (AllFrom lo) (eqb k p.key) _ _ (l, a.1) (a.0, insert_from lo k v ps a.1 l))

delete_from : (lo k : ℕ) (m : List Pair) → AllFrom lo m → AllFrom lo (delete k m)
delete_from lo k [] a = tt
delete_from lo k (p ∷ ps) a = either (AllFrom lo) (eqb k p.key) _ _ a.1 (a.0, delete_from lo k ps a.1)

pub edited_from : (e : MapEdit) (lo : ℕ) (m : List Pair) → AllFrom lo m → lo ≤ edit_key e → AllFrom lo (edited e m)
edited_from (Insert k v) lo m a l = insert_from lo k v m a l
edited_from (Delete k) lo m a l = delete_from lo k m a

insert_below : (hi k v : ℕ) (m : List Pair) → AllBelow hi m → k < hi → AllBelow hi (insert k v m)
insert_below hi k v [] a l = (l, tt)
insert_below hi k v (p ∷ ps) a l = either (AllBelow hi) (ltb k p.key) _ _ (l, (a.0, a.1)) (either (AllBelow hi) (eqb k p.key) _ _ (l, a.1) (a.0, insert_below hi k v ps a.1 l))

delete_below : (hi k : ℕ) (m : List Pair) → AllBelow hi m → AllBelow hi (delete k m)
delete_below hi k [] a = tt
delete_below hi k (p ∷ ps) a = either (AllBelow hi) (eqb k p.key) _ _ a.1 (a.0, delete_below hi k ps a.1)

pub edited_below : (e : MapEdit) (hi : ℕ) (m : List Pair) → AllBelow hi m → edit_key e < hi → AllBelow hi (edited e m)
edited_below (Insert k v) hi m a l = insert_below hi k v m a l
edited_below (Delete k) hi m a l = delete_below hi k m a
