-- The edits of a map read the node that was found, or one of which they have a snapshot.
use Rattle.std.proofs.Common.{◌≡◌, ◌<◌, ℕ, Bool, true, false, if◌then◌else◌, ◌==◌, inl, inr, List, [], ◌∷◌, length, Option, Some, None, sym, ap, arith}
use Rattle.std.specs.Prelude.{unwrap_or}
use Rattle.histories.specs.Common.{NodeNo, Side, Left, Right}
use Rattle.prims.specs.Snap.{child_of, snap_at}
use Rattle.prims.specs.declared.snap.Snap.{Snap}
use Rattle.template.specs.Common.{sibling_place, leaves, Goal, Rule}
use Rattle.template.specs.declared.walk.Found.{Found}
use Rattle.edits.specs.declared.edit.Look.TheVariants.{At, Enough}
use Rattle.edits.specs.declared.reading.Reading.{Reading}
use Rattle.edits.specs.Readings.{nothing_read}
use Rattle.tree.specs.LeafEdit.{leaf_looks, leaf_reads}
use Rattle.tree.specs.Laws.Looks.{not_enough}
use Rattle.tree.specs.Put.Means.{put_means, strays}
use Rattle.tree.specs.Take.Means.{take_means, has_more, join_looks, sibling_of}
use Rattle.tree.specs.Pop.Means.{pop_means, end_looks}
use Rattle.tree.specs.KeyEdit.Means.{leaving, key_means, is_trie_end, key_at}
use Rattle.touching.specs.Reads.{IsLookedAt, ReadsSeen}

same_some : (y x : NodeNo × Reading) → Some y ≡ Some x → x.0 ≡ y.0
same_some y x e = sym (ap (λ o. (unwrap_or o y).0) e)

put_seen : ReadsSeen put_means
put_seen ed f snaps x enough is = go (strays ed.trie f) (f.head.class == 0) is
  where
    go : (a b : Bool) → (if a then None else (if b then Some (leaf_reads f) else None)) ≡ Some x → IsLookedAt f snaps x.0
    go true b e = absurd (let d : None ≡ Some x = e in cc)
    go false false e = absurd (let d : None ≡ Some x = e in cc)
    go false true e = inl (same_some (leaf_reads f) x e)

-- a join has looked at four nodes
join_many : (f : Found) (snaps : List Snap) → join_looks f snaps ≡ Enough → 3 < length snaps
join_many f [] e = absurd (let d : At f.trail.grand ≡ Enough = e in cc)
join_many f (g ∷ []) e = absurd (not_enough ((child_of g f.trail.grand_side).0 == f.trail.parent.0) f.trail.parent g e)
join_many f (g ∷ p ∷ []) e = absurd (not_enough ((child_of p f.trail.side).0 == f.trail.node.0) p.left p e)
join_many f (g ∷ p ∷ l ∷ []) e = absurd (let d : At p.right ≡ Enough = e in cc)
join_many f (g ∷ p ∷ l ∷ r ∷ snaps) e = omega arith

sibling_few : (side : Side) → sibling_place side < 4
sibling_few Left = omega arith
sibling_few Right = omega arith

take_seen : ReadsSeen take_means
take_seen ed f snaps x enough is = go (has_more f) enough (same_some _ x is)
  where
    go : (b : Bool) → (if b then leaf_looks f f.trail.node snaps else join_looks f snaps) ≡ Enough → x.0 ≡ (if b then leaf_reads f else ((sibling_of f snaps).node, nothing_read)).0 → IsLookedAt f snaps x.0
    go true e q = inl q
    go false e q = inr (sibling_place f.trail.side, (let a = sibling_few f.trail.side in let b = join_many f snaps e in omega (arith, a, b)), q)

-- a join at an end has looked at three
end_many : (f : Found) (snaps : List Snap) → end_looks f snaps ≡ Enough → 2 < length snaps
end_many f [] e = absurd (let d : At f.trail.grand ≡ Enough = e in cc)
end_many f (g ∷ []) e = absurd (not_enough ((child_of g f.trail.grand_side).0 == f.trail.parent.0) f.trail.parent g e)
end_many f (g ∷ p ∷ []) e = absurd (not_enough ((child_of p f.trail.side).0 == f.trail.node.0) _ p e)
end_many f (g ∷ p ∷ z ∷ snaps) e = omega arith

pop_seen : ReadsSeen pop_means
pop_seen ed f snaps x enough is = go (has_more f) enough (same_some _ x is)
  where
    go : (b : Bool) → (if b then leaf_looks f f.trail.node snaps else end_looks f snaps) ≡ Enough → x.0 ≡ (if b then leaf_reads f else ((snap_at snaps 2).node, nothing_read)).0 → IsLookedAt f snaps x.0
    go true e q = inl q
    go false e q = inr (2, end_many f snaps e, q)

-- whatever it leaves to a key
leaving_seen : (end trie : Bool) (left : Option ℕ) → ReadsSeen (leaving end trie left)
leaving_seen end in_trie (Some value) key = put_seen record { key = key; value = value; trie = in_trie }
leaving_seen false in_trie None key = take_seen record { key = key; trie = in_trie }
leaving_seen true in_trie None key = pop_seen record { key = key }

pub key_seen : {G R : Type 0} (goal : G → Goal) (trie : G → Bool) (rule : R → Rule) → ReadsSeen (key_means goal trie rule)
key_seen goal trie rule ed f = leaving_seen (is_trie_end (goal ed.goal) (trie ed.goal)) (trie ed.goal) (leaves (rule ed.rule)) (key_at goal trie rule ed f) f
