-- Snapshots that an SCX may use: what they say of their node
-- holds as long as its info is what they found.
use Rattle.std.proofs.Common.{◌≡◌, ◌≢◌, ℕ, ◌<◌, inl, inr, sym, ◌∙◌, arith}
use Rattle.histories.specs.Common.{Layout, Row, Side, all_nodes, info, marked, child, state, History, ◌⊳◌, value, HasHeld, Extends, IsNamed, opening_node, by_field, IsInField, Lawful}
use Rattle.arena.proofs.Lemmas.{held_more}
use Rattle.histories.specs.Finalizing.{IsFinalizing}
use Rattle.histories.proofs.Lemmas.{Facts, Still, all_frozen_stays, descriptor_stays, facts, facts_before, finished_stays, named_more, removed_stays, since, some_is_real, still}
use Rattle.prims.specs.Snap.{child_of}
use Rattle.prims.specs.declared.snap.Snap.{Snap}

-- a snapshot that may be used: the info of its node has named the
-- SCX-record that it found there, which is finished
pub record IsLinked (lay : Layout) (h : History) (snap : Snap) : Type 0 where
  -- the node may be known to every pass
  pub in_field : IsInField lay h snap.node.0
  pub inside : snap.node.0 < all_nodes lay
  pub held : HasHeld h (info snap.node.0) snap.scx.0
  pub rest : value h (state snap.scx.0) ≢ 0
  -- while its info names that SCX-record, the node is not marked
  pub unmarked : value h (info snap.node.0) ≡ snap.scx.0 → value h (marked snap.node.0) ≡ 0
  -- its fields have held, and while its info names that SCX-record hold, what the snapshot found
  pub had : (side : Side) → HasHeld h (child snap.node.0 side) (child_of snap side).0
  pub fields : (side : Side) → value h (info snap.node.0) ≡ snap.scx.0 → value h (child snap.node.0 side) ≡ (child_of snap side).0

-- a node that a field has held counts as such after one more row
pub in_field_more : {lay : Layout} {h : History} (r : Row) (n : ℕ) → IsInField lay h n → IsInField lay (r ⊳ h) n
in_field_more r n (inl i) = inl i
in_field_more r n (inr x) = inr (x.0, x.1, named_more r x.2, held_more r _ _ n x.3)

-- a node that was there from the start or that a field has held is named
pub in_field_named : {lay : Layout} {h : History} (n : ℕ) → IsInField lay h n → IsNamed lay h n
in_field_named n (inl i) = opening_node i
in_field_named n (inr x) = by_field x.0 x.1 x.2 x.3

-- a field that was read under a finished SCX-record stays as it was while the info names that one
pub side_more : (lay : Layout) (h : History) (r : Row) (n s v : ℕ) (side : Side) → Lawful lay (r ⊳ h) → IsNamed lay h n → value h (state s) ≢ 0 → (value h (info n) ≡ s → value h (child n side) ≡ v) → value (r ⊳ h) (info n) ≡ s → value (r ⊳ h) (child n side) ≡ v
side_more lay h r n s v side l p d k e =
    let x : Still h (r ⊳ h) n s = still lay h r n s l p d e in
    x.fields side ∙ k x.info

-- a node that was not marked under a finished SCX-record stays so while the info names that one
pub unmarked_more : (lay : Layout) (h : History) (r : Row) (n s : ℕ) → Lawful lay (r ⊳ h) → IsNamed lay h n → value h (state s) ≢ 0 → (value h (info n) ≡ s → value h (marked n) ≡ 0) → value (r ⊳ h) (info n) ≡ s → value (r ⊳ h) (marked n) ≡ 0
unmarked_more lay h r n s l p d k e =
    let x : Still h (r ⊳ h) n s = still lay h r n s l p d e in
    x.mark ∙ k x.info

-- a snapshot stays usable whatever lawful row comes
pub linked_more : (lay : Layout) (h : History) (r : Row) (snap : Snap) → Lawful lay (r ⊳ h) → IsLinked lay h snap → IsLinked lay (r ⊳ h) snap
linked_more lay h r snap l x = record {
  in_field = in_field_more r snap.node.0 x.in_field;
  inside = x.inside;
  held = held_more r h (info snap.node.0) snap.scx.0 x.held;
  rest = finished_stays lay h r snap.scx.0 l x.rest;
  unmarked = unmarked_more lay h r snap.node.0 snap.scx.0 l (in_field_named snap.node.0 x.in_field) x.rest x.unmarked;
  had = λ side. held_more r h (child snap.node.0 side) (child_of snap side).0 (x.had side);
  fields = λ side. side_more lay h r snap.node.0 snap.scx.0 (child_of snap side).0 side l (in_field_named snap.node.0 x.in_field) x.rest (x.fields side);
}

-- a snapshot that was usable at a moment is usable ever after
pub linked_since : (lay : Layout) (h m : History) (snap : Snap) → Lawful lay h → Extends h m → IsLinked lay m snap → IsLinked lay h snap
linked_since lay h m snap = since (λ k. IsLinked lay k snap) lay (λ h r l x. linked_more lay h r snap l x) h m

-- an SCX-record that finalizes a node and cannot be stopped stays so
pub finalizing_more : (lay : Layout) (h : History) (r : Row) (n s : ℕ) → Lawful lay (r ⊳ h) → IsFinalizing h n s → IsFinalizing (r ⊳ h) n s
finalizing_more lay h r n s l x =
    let f : Facts lay h = facts_before lay h r l in
    let c = f.flagged s (λ e. let y = x.flag in omega arith) in
    record { flag = all_frozen_stays lay h r s l x.flag; removed = removed_stays h (r ⊳ h) n s (descriptor_stays lay h r s l (some_is_real f c.some) (_, c.frozen 0 c.some)) x.removed }

-- the SCX-record that the info of a marked node names finalizes it, and cannot be stopped
pub marker_named : (lay : Layout) (h : History) (n s : ℕ) → Lawful lay h → value h (marked n) ≢ 0 → value h (info n) ≡ s → IsFinalizing h n s
marker_named lay h n s l d e =
    let x = (facts lay h l).marked n d in
    rw (sym e ∙ x.1.holds) record { flag = x.1.flag; removed = record { index = x.1.index; within = x.1.within; is = x.1.is; removed = x.1.removed } }
