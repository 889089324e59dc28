-- The books of a pass as its table opens.
use Rattle.std.proofs.Common.{◌≡◌, ◌≢◌, ◌<◌, ◌+◌, ◌*◌, ◌++◌, ◌%◌, ℕ, zero, suc, List, [], ◌∷◌, Some, length, slice_get, inl, inr, refl, sym, ◌∙◌, ap, subst, arith}
use Rattle.histories.specs.Common.{Row, first_node, first_scx}
use Rattle.resting.specs.Records.{the_node, the_scx}
use Rattle.slots.specs.Lasting.{IsLasting, IsOwnRecord, Lasting}
use Rattle.slots.proofs.Lemmas.{node_lap, scx_lap}
use Rattle.tables.specs.LastingNotes.{IsAmongThese}
use Rattle.tables.specs.LastingOpening.{first_memory, nodes_from, scx_from}
use Rattle.tables.specs.LastingSlots.{slot_number}
use Rattle.upkeep.specs.UpkeepBook.{IsBook, IsNameIn, IsSlotSo, count_own, dealt_of, first_own, name_numbered, record_numbered, turn_of}
use Rattle.tables.specs.declared.memory.PassMemory.{PassMemory}
use Rattle.upkeep.specs.declared.book.SlotUse.{SlotUse}
use Rattle.upkeep.specs.declared.book.SlotUse.TheVariants.{Lost, Used}
use Rattle.upkeep.specs.declared.book.OwnSlot.{OwnSlot}
use Rattle.upkeep.specs.declared.book.OwnSlots.{OwnSlots}
use Rattle.upkeep.specs.declared.kind.RecordKind.{RecordKind}
use Rattle.upkeep.specs.declared.kind.RecordKind.TheVariants.{Node, Scx}
use Rattle.tables.specs.declared.view.SeatedPass.{SeatedPass}

-- Names that are held at first

among_first : {A : Type 0} (a : A) (xs ys : List A) → IsAmongThese a xs → IsAmongThese a (xs ++ ys)
among_first a [] ys i = absurd i
among_first a (x ∷ xs) ys (inl e) = inl e
among_first a (x ∷ xs) ys (inr i) = inr (among_first a xs ys i)

among_last : {A : Type 0} (a : A) (xs ys : List A) → IsAmongThese a ys → IsAmongThese a (xs ++ ys)
among_last a [] ys i = i
among_last a (x ∷ xs) ys i = inr (among_last a xs ys i)

node_among : (from count i : ℕ) → i < count → IsAmongThese (name_numbered Node (from + i)) (nodes_from from count)
node_among from zero i less = absurd (omega (arith, less))
node_among from (suc count) zero less = inl (ap (name_numbered Node) (omega arith))
node_among from (suc count) (suc i) less = inr (subst (λ n. IsAmongThese (name_numbered Node n) (nodes_from (suc from) count)) (omega arith) (node_among (suc from) count i (omega (arith, less))))

scx_among : (from count i : ℕ) → i < count → IsAmongThese (name_numbered Scx (from + i)) (scx_from from count)
scx_among from zero i less = absurd (omega (arith, less))
scx_among from (suc count) zero less = inl (ap (name_numbered Scx) (omega arith))
scx_among from (suc count) (suc i) less = inr (subst (λ n. IsAmongThese (name_numbered Scx n) (scx_from (suc from) count)) (omega arith) (scx_among (suc from) count i (omega (arith, less))))

first_held : (t : Lasting) (o : ℕ) (kind : RecordKind) (i : ℕ) → i < count_own kind t.table → IsAmongThese (name_numbered kind (first_own kind t.lay o + i)) (first_memory t o).holds
first_held t o Node i less = among_first (name_numbered Node (first_node t.lay o + i)) (nodes_from (first_node t.lay o) t.table.nodes) (scx_from (first_scx t.lay o) t.table.scx) (node_among (first_node t.lay o) t.table.nodes i less)
first_held t o Scx i less = among_last (name_numbered Scx (first_scx t.lay o + i)) (nodes_from (first_node t.lay o) t.table.nodes) (scx_from (first_scx t.lay o) t.table.scx) (scx_among (first_scx t.lay o) t.table.scx i less)

first_dealt : (t : Lasting) (o : ℕ) (kind : RecordKind) → dealt_of kind (first_memory t o) ≡ first_own kind t.lay o + count_own kind t.table
first_dealt t o Node = refl
first_dealt t o Scx = refl

node_number : (n k : ℕ) → the_node n ≡ the_node k → n ≡ k
node_number n k e = cc

scx_number : (n k : ℕ) → the_scx n ≡ the_scx k → n ≡ k
scx_number n k e = cc

-- each slot has its name of the first lap
record IsFirstName (t : Lasting) (o : ℕ) (kind : RecordKind) (i : ℕ) : Type 0 where
  own : IsOwnRecord t.lay o (record_numbered kind (first_own kind t.lay o + i))
  slot_is : slot_number t (name_numbered kind (first_own kind t.lay o + i)) ≡ name_numbered kind (first_own kind t.table o + i)

first_names : (t : Lasting) (fit : IsLasting t) (o : ℕ) → o < t.lay.passes → (kind : RecordKind) (i : ℕ) → i < count_own kind t.table → IsFirstName t o kind i
first_names t fit o is_pass Node i less = let x = node_lap t fit o 0 i is_pass (omega arith) less in let e : first_node t.lay o + (0 * t.node_turn + i) ≡ first_node t.lay o + i = omega arith in
    record { own = subst (λ n. IsOwnRecord t.lay o (the_node n)) e x.0.0; slot_is = ap (name_numbered Node) (subst (λ n. n % t.node_turn ≡ first_node t.table o + i) e (node_number _ _ x.1)) }
first_names t fit o is_pass Scx i less = let x = scx_lap t fit o 0 i is_pass (omega arith) less in let e : first_scx t.lay o + (0 * t.scx_turn + i) ≡ first_scx t.lay o + i = omega arith in
    record { own = subst (λ n. IsOwnRecord t.lay o (the_scx n)) e x.0.0; slot_is = ap (name_numbered Scx) (subst (λ n. n % t.scx_turn ≡ first_scx t.table o + i) e (scx_number _ _ x.1)) }

-- so the book of the pass is right
pub opens_book : (t : Lasting) (fit : IsLasting t) (p : SeatedPass) (since : List Row) (own : OwnSlots) → p.number.0 < t.lay.passes → p.memory ≡ first_memory t p.number.0 → own.first ≡ first_own own.kind t.table p.number.0 → own.turn ≡ turn_of own.kind t → own.end ≡ first_own own.kind t.lay p.number.0 + count_own own.kind t.lay → own.dealt ≡ first_own own.kind t.lay p.number.0 + count_own own.kind t.table → length own.slots.items ≡ count_own own.kind t.table
    → ((j : ℕ) (x : OwnSlot) → slice_get own.slots.items j ≡ Some x → x ≡ record { name = first_own own.kind t.lay p.number.0 + j; known = Used }) → IsBook t p since own
opens_book t fit p since own is_pass memory first turn end dealt count named = record {
  all = record { first = first; count = count; turn = turn; end = end; dealt = dealt ∙ sym (first_dealt t p.number.0 own.kind) ∙ ap (λ (m : PassMemory). dealt_of own.kind m) (sym memory) };
  slots = λ j x from to there. subst (λ (z : OwnSlot). IsSlotSo t p since own.kind (own.first + j) z) (sym (named j x there)) (at j (subst (λ n. j < n) count to));
}
  where
    at : (j : ℕ) → j < count_own own.kind t.table → IsNameIn t p.number.0 p.memory own.kind (own.first + j) (first_own own.kind t.lay p.number.0 + j)
    at j less = let x = first_names t fit p.number.0 is_pass own.kind j less in record {
      held = subst (λ (m : PassMemory). IsAmongThese (name_numbered own.kind (first_own own.kind t.lay p.number.0 + j)) m.holds) (sym memory) (first_held t p.number.0 own.kind j less);
      own = x.own;
      slot_is = x.slot_is ∙ ap (λ n. name_numbered own.kind (n + j)) (sym first);
    }

-- what is in use is not lost
pub used_apart : (k : SlotUse) → k ≡ Used → k ≢ Lost
used_apart k e is = let z : Used ≡ Lost = sym e ∙ is in cc
