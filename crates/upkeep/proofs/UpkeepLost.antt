-- How slots of names are lost, one after the other, and that what a pass keeps is right then.
use Rattle.std.proofs.Common.{◌≡◌, ◌<◌, ◌≤◌, ◌+◌, ◌⊎◌, ℕ, false, List, [], Some, inl, inr, arith, ap, length, refl, set, slice_get, subst, sym, ◌∙◌}
use native.Mathlib.Decide.{ℕ_discrete}
use Rattle.std.proofs.lemmas.List.{length-set}
use Rattle.histories.specs.Common.{History, Layout, Row}
use Rattle.slots.specs.Lasting.{Lasting}
use Rattle.tables.specs.TableRule.{past_of}
use Rattle.upkeep.specs.UpkeepBook.{AreLostBy, IsBook, IsKnownSo, IsLostBy, IsSlotSo, count_own, dealt_of, first_own, turn_of}
use Rattle.upkeep.specs.UpkeepDeals.{IsNameAt}
use Rattle.upkeep.specs.UpkeepKeeper.{HasTakenByRest, IsKeeper, KeepsBooks, RunsSince}
use Rattle.upkeep.specs.UpkeepLost.{AreUnborn, IsFromTo, IsOrLoses, LosesOnly}
use Rattle.upkeep.specs.declared.book.SlotUse.{SlotUse}
use Rattle.upkeep.specs.declared.book.SlotUse.TheVariants.{Lost, Used}
use Rattle.upkeep.specs.declared.book.OwnSlot.{OwnSlot}
use Rattle.upkeep.specs.declared.book.OwnSlots.{OwnSlots}
use Rattle.upkeep.specs.declared.keeper.Keeper.{Keeper}
use Rattle.upkeep.specs.declared.kind.RecordKind.{RecordKind}
use Rattle.upkeep.specs.declared.kind.RecordKind.TheVariants.{Node}
use Rattle.tables.specs.declared.view.SeatedPass.{SeatedPass}
use Rattle.upkeep.proofs.UpkeepTurns.{set_at, set_beside}

-- Slots

-- if none is
pub loses_none : (Are : ℕ → Type 0) (own : OwnSlots) → LosesOnly Are own own
loses_none Are own = record { kind = refl; first = refl; turn = refl; end = refl; dealt = refl; count = refl; slots = λ i x there. inl there }

-- if one is, in this list
pub one_lost : (own : OwnSlots) (name i : ℕ) → IsNameAt own name i → (j : ℕ) (x : OwnSlot) → slice_get (set own.slots.items i record { name = name; known = Lost }) j ≡ Some x → IsOrLoses (λ n. n ≡ name) own j x
one_lost own name i at j x there = go (ℕ_discrete j i)
  where
    new : OwnSlot
    new = record { name = name; known = Lost }

    was : slice_get own.slots.items i ≡ Some (record { name = name; known = Used })
    was = at.1 ∙ (λ k. let z : OwnSlot = record { name = at.3 k; known = at.2 k } in Some z)

    go : Dec (j ≡ i) → IsOrLoses (λ n. n ≡ name) own j x
    go (yes e) =
        let same : x ≡ new = set_at own.slots.items i new x (ap (slice_get (set own.slots.items i new)) (sym e) ∙ there) in
        subst (IsOrLoses (λ n. n ≡ name) own j) (sym same) (inr (ap (slice_get own.slots.items) e ∙ was, refl, refl))
    go (no d) = inl (sym (set_beside own.slots.items i j new d) ∙ there)

-- a slot that is in use is not lost
used_not_lost : (x : OwnSlot) → (record x { known = Used }).known ≡ Lost → ⊥
used_not_lost x e = let z : Used ≡ Lost = e in cc

-- if some are, and then more
pub loses_then : (A B C : ℕ → Type 0) (a b c : OwnSlots) → ((n : ℕ) → A n → C n) → ((n : ℕ) → B n → C n) → LosesOnly A a b → LosesOnly B b c → LosesOnly C a c
loses_then A B C a b c first then x y = record {
  kind = y.kind ∙ x.kind;
  first = y.first ∙ x.first;
  turn = y.turn ∙ x.turn;
  end = y.end ∙ x.end;
  dealt = y.dealt ∙ x.dealt;
  count = y.count ∙ x.count;
  slots = λ i s there. last i s (y.slots i s there);
}
  where
    wider : (i : ℕ) (s : OwnSlot) → IsOrLoses A a i s → IsOrLoses C a i s
    wider i s (inl z) = inl z
    wider i s (inr z) = inr (z.0, z.1, first s.name z.2)

    was_used : (i : ℕ) (s : OwnSlot) → s.known ≡ Lost → C s.name → IsOrLoses A a i (record s { known = Used }) → IsOrLoses C a i s
    was_used i s lost is (inl z) = inr (z, lost, is)
    was_used i s lost is (inr z) = absurd (used_not_lost s z.1)

    last : (i : ℕ) (s : OwnSlot) → IsOrLoses B b i s → IsOrLoses C a i s
    last i s (inl z) = wider i s (x.slots i s z)
    last i s (inr z) = was_used i s z.1 (then s.name z.2) (x.slots i (record s { known = Used }) z.0)

-- Books

module _ (Are : ℕ → Type 0) (old new : OwnSlots) (x : LosesOnly Are old new) where
  -- a book is right still
  module _ (t : Lasting) (p : SeatedPass) (since : List Row) (book : IsBook t p since old) where
    slot_lost : (i : ℕ) (s : OwnSlot) → i < length old.slots.items → IsOrLoses Are old i s → IsSlotSo t p since old.kind (old.first + i) s
    slot_lost i s inside (inl z) = book.slots i s (omega arith) inside z
    slot_lost i s inside (inr z) = subst (λ (k : SlotUse). IsKnownSo t p.planting p.number.0 p.memory since old.kind (old.first + i) s.name k) (sym z.1) (book.slots i (record s { known = Used }) (omega arith) inside z.0)

    pub book_lost : IsBook t p since new
    book_lost = record {
      all = record {
        first = x.first ∙ book.all.first ∙ ap (λ (k : RecordKind). first_own k t.table p.number.0) (sym x.kind);
        count = x.count ∙ book.all.count ∙ ap (λ (k : RecordKind). count_own k t.table) (sym x.kind);
        turn = x.turn ∙ book.all.turn ∙ ap (λ (k : RecordKind). turn_of k t) (sym x.kind);
        end = x.end ∙ book.all.end ∙ ap (λ (k : RecordKind). first_own k t.lay p.number.0 + count_own k t.lay) (sym x.kind);
        dealt = x.dealt ∙ book.all.dealt ∙ ap (λ (k : RecordKind). dealt_of k p.memory) (sym x.kind);
      };
      slots = λ i s from to there. subst (λ (k : RecordKind). IsSlotSo t p since k (new.first + i) s) (sym x.kind) (subst (λ n. IsSlotSo t p since old.kind (n + i) s) (sym x.first) (slot_lost i s (subst (λ n. i < n) x.count to) (x.slots i s there)));
    }

  -- and what is lost by a moment is so, if those are
  pub all_lost : (lay : Layout) (o : ℕ) (h : History) → ((n : ℕ) → Are n → IsLostBy lay o h old.kind n) → AreLostBy lay o h old → AreLostBy lay o h new
  all_lost lay o h are before i s there lost = subst (λ (k : RecordKind). IsLostBy lay o h k s.name) (sym x.kind) (go (x.slots i s there))
    where
      go : IsOrLoses Are old i s → IsLostBy lay o h old.kind s.name
      go (inl z) = before i s z lost
      go (inr z) = are s.name z.2

-- Keepers

-- what a pass keeps is right once its keeper has lost nodes that were never in the tree or the trie
pub keeper_lost : (t : Lasting) (p : SeatedPass) (from to : ℕ) (old new : Keeper) → LosesOnly (IsFromTo from to) old.nodes new.nodes → new.often ≡ old.often → new.period ≡ old.period → new.scxs ≡ old.scxs → new.taken ≡ old.taken → AreUnborn p from to → IsKeeper t p old → IsKeeper t p new
keeper_lost t p from to old new loses often period scxs taken out x = record {
  books = record {
    there = subst (λ n. (n < 4611686018427387904) ⊎ (p.memory.away ≡ false)) (sym often) books.there;
    since = books.since;
    slots = record {
      known = books.slots.known;
      rested = books.slots.rested;
      often = often ∙ books.slots.often;
      node_kind = loses.kind ∙ books.slots.node_kind;
      scx_kind = ap (λ (o : OwnSlots). o.kind) scxs ∙ books.slots.scx_kind;
      nodes = book_lost (IsFromTo from to) old.nodes new.nodes loses t p books.since books.slots.nodes;
      scxs = subst (IsBook t p books.since) (sym scxs) books.slots.scxs;
    };
    period = subst (RunsSince t.table.passes p books.since) (sym period) books.period;
  };
  lost = record {
    nodes = all_lost (IsFromTo from to) old.nodes new.nodes loses p.layout p.number.0 (past_of p []) (λ n is. subst (λ (k : RecordKind). IsLostBy p.layout p.number.0 (past_of p []) k n) (sym books.slots.node_kind) (out n is.0 is.1)) x.lost.nodes;
    scxs = subst (AreLostBy p.layout p.number.0 (past_of p [])) (sym scxs) x.lost.scxs;
  };
  taken = subst (HasTakenByRest p) (sym taken) x.taken;
}
  where
    books : KeepsBooks t p old
    books = x.books
