-- How own leaves are looked at while a pass rests, and what it keeps is right then.
use Rattle.std.proofs.Common.{◌≡◌, ◌<◌, ◌+◌, ◌⊎◌, ◌/◌, ◌%◌, ◌==◌, ℕ, true, zero, suc, false, List, [], ◌∷◌, Option, Some, None, IfSome, length, slice_get, set, inr, refl, sym, ◌∙◌, ap, subst, arith}
use native.Mathlib.Decide.{ℕ_discrete}
use Rattle.std.proofs.lemmas.List.{length-set}
use Rattle.arena.proofs.Lemmas.{ends_self, ends_trans}
use Rattle.arena.specs.declared.number.PassNo.{PassNo}
use Rattle.histories.specs.Common.{Extends, Head, History, IsOwnNode, IsRun, IsTakenNode, Layout, Remaining, Row, Settled, first_key, node, value}
use Rattle.ordered_map.specs.Paths.{IsAnswerAt}
use Rattle.ordered_map.specs.Runs.{IsMapRun}
use Rattle.ordered_map.specs.TreeWords.{class, is_leaf}
use Rattle.planting.specs.Plantings.{PlantingView}
use Rattle.resting.specs.Dead.{IsOut}
use Rattle.resting.specs.Lookups.{WasLeafOf}
use Rattle.slots.specs.Lasting.{IsOwnRecord, Lasting}
use Rattle.tables.specs.TableRule.{history_of, past_of}
use Rattle.upkeep.specs.UpkeepBook.{AreSameSlots, IsBook, IsKnownSo, IsNameIn, IsSlotSo, KnowsNow, LosesNoMore, SparesOthers, dealt_of, memory_with_note, name_numbered, record_numbered}
use Rattle.upkeep.specs.UpkeepDeals.{HasShareLeft}
use Rattle.upkeep.specs.UpkeepKeeper.{DealsNoMore, HasTakenByRest, HasTakenRest, IsBetween, IsKeeper, IsSetToCall, KeepsBooks, LosesNone, RunsSince, StaysOut}
use Rattle.upkeep.specs.UpkeepSteps.{HasGoneOnResting, KeepsSlots}
use Rattle.tables.specs.declared.memory.NoteView.TheVariants.{MarkedOrDead}
use Rattle.tables.specs.declared.memory.PassMemory.{PassMemory}
use Rattle.upkeep.specs.declared.book.SlotUse.{SlotUse}
use Rattle.upkeep.specs.declared.book.SlotUse.TheVariants.{Found, Lost, Used}
use Rattle.upkeep.specs.declared.book.OwnSlot.{OwnSlot}
use Rattle.upkeep.specs.declared.book.OwnSlots.{OwnSlots}
use Rattle.upkeep.specs.declared.keeper.Keeper.{Keeper}
use Rattle.upkeep.specs.declared.kind.RecordKind.{RecordKind}
use Rattle.upkeep.specs.declared.kind.RecordKind.TheVariants.{Node, Scx}
use Rattle.tables.specs.declared.view.SeatedPass.{SeatedPass}
use Rattle.upkeep.proofs.UpkeepBook.{spares_note}
use Rattle.upkeep.proofs.UpkeepDeals.{resting_deals}
use Rattle.upkeep.proofs.UpkeepKeeper.{book_on, looked_on, loses_nothing, lost_of, lost_on, taken_again}
use Rattle.upkeep.proofs.UpkeepSet.{ends_still, left_rested}
use Rattle.upkeep.proofs.UpkeepStays.{PutsInNone, map_then, stays_out}
use Rattle.upkeep.proofs.UpkeepTurn.{known_on, marked_now}
use Rattle.upkeep.proofs.UpkeepTurns.{lost_put, own_on, own_slot, rest_as, set_at, set_beside, slot_kept}

-- Keepers

-- what says of its slots and periods what another does, is right of them if that is
pub books_as : (t : Lasting) (p : SeatedPass) (old new : Keeper) → new.often ≡ old.often → new.period ≡ old.period → new.nodes ≡ old.nodes → new.scxs ≡ old.scxs → KeepsBooks t p old → KeepsBooks t p new
books_as t p old new often period nodes scxs x = record {
  there = subst (λ n. (n < 4611686018427387904) ⊎ (p.memory.away ≡ false)) (sym often) x.there;
  since = x.since;
  slots = record {
    known = x.slots.known;
    rested = x.slots.rested;
    often = often ∙ x.slots.often;
    node_kind = ap (λ (o : OwnSlots). o.kind) nodes ∙ x.slots.node_kind;
    scx_kind = ap (λ (o : OwnSlots). o.kind) scxs ∙ x.slots.scx_kind;
    nodes = subst (IsBook t p x.since) (sym nodes) x.slots.nodes;
    scxs = subst (IsBook t p x.since) (sym scxs) x.slots.scxs;
  };
  period = subst (RunsSince t.table.passes p x.since) (sym period) x.period;
}

-- and so it is of what is lost, and was taken as it rested
pub keeper_as : (t : Lasting) (p : SeatedPass) (old new : Keeper) → new.often ≡ old.often → new.period ≡ old.period → new.nodes ≡ old.nodes → new.scxs ≡ old.scxs → new.taken ≡ old.taken → IsKeeper t p old → IsKeeper t p new
keeper_as t p old new often period nodes scxs taken x = record {
  books = books_as t p old new often period nodes scxs x.books;
  lost = lost_of p p.known old new (loses_nothing old new nodes scxs) x.lost;
  taken = subst (HasTakenByRest p) (sym taken) x.taken;
}

-- a pass that has only read has taken its rest still
pub leaf_read : (allows : Layout → History → ℕ → Type 0) (t : Lasting) (p q : SeatedPass) → HasGoneOnResting allows p q → q.memory ≡ p.memory → (old new : Keeper) → new.often ≡ old.often → new.period ≡ old.period → new.nodes ≡ old.nodes → new.scxs ≡ old.scxs → new.taken ≡ old.taken → p.memory.away ≡ false → IsKeeper t p old → HasTakenRest t new p q
leaf_read allows t p q goes same old new often period nodes scxs taken there x =
    looked_on allows t p q goes (subst (KeepsSlots p.memory) (sym same) record { rested = refl; away = refl; often = refl; nodes_to = refl; scx_to = refl; notes = refl; holds = refl; empty = refl; zeros = refl }) old new often nodes scxs taken x.taken period (ap (λ (m : PassMemory). m.polls) same) there x.books

-- what is left of the share of a pass that is set to call
pub between_calls : (allows : Layout → History → ℕ → Type 0) (t : Lasting) (p : SeatedPass) (left : Remaining) (keeper : Keeper) → IsSetToCall allows t p left keeper → IsBetween p left
between_calls allows t p left keeper x = record { share = x.has.share; over = x.has.over }

-- a pass that was set to call is so again, once it has rested or looked
pub set_again : PutsInNone → (allows : Layout → History → ℕ → Type 0) (t : Lasting) (old new : Keeper) (left : Remaining) (p q : SeatedPass) → HasGoneOnResting allows p q → p.number.0 < p.layout.passes → IsSetToCall allows t p left old → ((h : History) → IsRun allows p.layout h → IsMapRun p.layout h) → HasTakenRest t new p q → LosesNone old new → IsSetToCall allows t q left new
set_again law allows t old new left p q goes is_pass was maps x none = record {
  kept = record {
    books = x.kept;
    lost = lost_of q q.known old new none (lost_on p q goes.layout goes.number out old was.kept.lost);
    taken = x.taken;
  };
  has = has;
  ends = ends_still p.memory q.memory left x.deals was.ends;
}
  where
    has : HasShareLeft allows q left
    has = left_rested allows p q left goes x.there is_pass was.has.run (between_calls allows t p left old was)

    out : StaysOut p q
    out = stays_out law p q (resting_deals p q goes) is_pass was.has.over was.has.run.lawful (map_then allows p.layout q goes.layout maps has.run)

-- Slots

-- a slot that is read is one of them
pub read_inside : (xs : List OwnSlot) (i : ℕ) (x : OwnSlot) → slice_get xs i ≡ Some x → i < length xs
read_inside [] i x e = absurd (let z : None ≡ Some x = e in cc)
read_inside (y ∷ ys) zero x e = omega arith
read_inside (y ∷ ys) (suc i) x e = let less = read_inside ys i x e in omega (arith, less)

module _ (t : Lasting) (p : SeatedPass) (since : List Row) (nodes : OwnSlots) (kind : nodes.kind ≡ Node) (book : IsBook t p since nodes) (i : ℕ) (x : OwnSlot) (is : slice_get nodes.slots.items i ≡ Some x) where
  -- a slot in use holds its name
  pub used_name : x.known ≡ Used → IsNameIn t p.number.0 p.memory Node (nodes.first + i) x.name
  used_name used = subst (λ (k : RecordKind). IsNameIn t p.number.0 p.memory k (nodes.first + i) x.name) kind
      (subst (λ (k : SlotUse). IsKnownSo t p.planting p.number.0 p.memory since nodes.kind (nodes.first + i) x.name k) used (book.slots i x (omega arith) (read_inside nodes.slots.items i x is) is))

  -- and is one of the pass's own
  pub slot_own : (lay : Layout) → t.table ≡ lay → IsOwnRecord lay p.number.0 (record_numbered Node (nodes.first + i))
  slot_own lay same = own_slot t lay p p nodes Node nodes.first i same book.all refl (sym kind) refl (read_inside nodes.slots.items i x is)

-- What is read

-- a node with such a head, and such a key, is a leaf of it
pub was_leaf : (h at_head at_key start : History) (n head key : ℕ) → Extends h at_key → Extends at_key at_head → Extends at_head start → value at_head (node n (Settled Head)) ≡ head → head / 4 % 2 == 1 ≡ true → head % 4 ≡ 0 → value at_key (node n first_key) ≡ key → WasLeafOf h start n key
was_leaf h at_head at_key start n head key last then first is_head leaf low is_key = record {
  head = record { moment = at_head; within = ends_trans h at_key at_head last then; since = first; was = (ap (λ w. w / 4 % 2 == 1) is_head ∙ leaf, ap (λ w. w % 4) is_head ∙ low) };
  key = record { moment = at_key; within = last; since = ends_trans at_key at_head start then first; was = is_key };
}

-- What is out

-- what looking a key up tells
abbrev pub LookUpTells : Type 0
LookUpTells = (lay : Layout) (h done start rest : History) (p n k : ℕ) → IsMapRun lay h → Extends h done → Extends start rest → IsAnswerAt lay done start k None → WasLeafOf h done n k → IsOwnNode lay p n → IsTakenNode rest n → (m : History) × Extends done m × IsOut lay p rest m n

pub leaf_out : LookUpTells → (allows : Layout → History → ℕ → Type 0) (p q : SeatedPass) → HasGoneOnResting allows p q → q.memory ≡ p.memory → IsMapRun p.layout (past_of q []) → (start : History) (n k : ℕ) → Extends start (history_of p.planting p.memory.rested) → IsAnswerAt p.layout (past_of p []) start k None → WasLeafOf (past_of q []) (past_of p []) n k → IsOwnNode p.layout p.number.0 n → IsTakenNode (history_of p.planting p.memory.rested) n
    → (m : History) × Extends (past_of q []) m × IsOut q.layout q.number.0 (history_of q.planting q.memory.rested) m n
leaf_out law allows p q goes same run start n k since answer leaf own taken =
    let x = law p.layout (past_of q []) (past_of p []) start (history_of p.planting p.memory.rested) p.number.0 n k run (known_on allows p q goes) since answer leaf own taken in (
      x.0,
      ends_trans (past_of q []) (past_of p []) x.0 (known_on allows p q goes) x.1,
      subst (λ (l : Layout). IsOut l q.number.0 (history_of q.planting q.memory.rested) x.0 n) (sym goes.layout)
          (subst (λ (k : PassNo). IsOut p.layout k.0 (history_of q.planting q.memory.rested) x.0 n) (sym goes.number)
          (subst (λ h. IsOut p.layout p.number.0 h x.0 n) (sym (rest_as p q goes.planting (ap (λ (m : PassMemory). m.rested) same))) x.2)),
    )

-- The leaf of this name is noted, and its slot is found.
module _ (allows : Layout → History → ℕ → Type 0) (t : Lasting) (p q : SeatedPass) (goes : HasGoneOnResting allows p q) (i name : ℕ) (e : q.memory ≡ memory_with_note p.memory (name_numbered Node name) (MarkedOrDead q.known)) (old new : Keeper) (often : new.often ≡ old.often) (none : new.period ≡ None) (scxs : new.scxs ≡ old.scxs) (taken : new.taken ≡ old.taken) (kind : new.nodes.kind ≡ old.nodes.kind) (first : new.nodes.first ≡ old.nodes.first) (turn : new.nodes.turn ≡ old.nodes.turn) (end : new.nodes.end ≡ old.nodes.end) (dealt : new.nodes.dealt ≡ old.nodes.dealt) (is : new.nodes.slots.items ≡ set old.nodes.slots.items i (record { name = name; known = Found })) (was : slice_get old.nodes.slots.items i ≡ Some (record { name = name; known = Used })) where
  abbrev found : OwnSlot
  found = record { name = name; known = Found }

  spares : SparesOthers t (λ r. ⊥) p.memory q.memory
  spares = subst (λ (m : PassMemory). SparesOthers t (λ r. ⊥) p.memory m) (sym e) (spares_note t (λ r. ⊥) p.memory (name_numbered Node name) (MarkedOrDead q.known))

  same_rested : q.memory.rested ≡ p.memory.rested
  same_rested = ap (λ (m : PassMemory). m.rested) e

  lost_same : LosesNoMore old.nodes new.nodes
  lost_same j y there lost = lost_put old.nodes i found (λ z. let u : Found ≡ Lost = z in cc) j y (ap (λ (l : List OwnSlot). slice_get l j) (sym is) ∙ there) lost

  same : AreSameSlots old.nodes new.nodes
  same = record { kind = kind; first = first; turn = turn; end = end; dealt = dealt; count = ap (λ (l : List OwnSlot). length l) is ∙ length-set old.nodes.slots.items i found; lost = lost_same }

  pub loses_no_leaf : LosesNone old new
  loses_no_leaf = record {
    node_kind = kind;
    scx_kind = ap (λ (o : OwnSlots). o.kind) scxs;
    nodes = lost_same;
    scxs = λ j x there lost. subst (λ (o : OwnSlots). slice_get o.slots.items j ≡ Some x) scxs there;
  }

  module _ (x : KeepsBooks t p old) where
    known_more : Extends (history_of p.planting q.known) (history_of p.planting x.since)
    known_more = ends_trans (history_of p.planting q.known) (history_of p.planting p.known) (history_of p.planting x.since)
        (subst (λ (l : PlantingView). Extends (history_of l q.known) (past_of p [])) goes.planting (known_on allows p q goes)) x.slots.known

    name_is : IsNameIn t p.number.0 p.memory Node (old.nodes.first + i) name
    name_is = used_name t p x.since old.nodes x.slots.node_kind x.slots.nodes i (record { name = name; known = Used }) was refl

    slot_now : (j : ℕ) (y : OwnSlot) → j < length new.nodes.slots.items → slice_get new.nodes.slots.items j ≡ Some y → Dec (j ≡ i) → IsSlotSo t q q.known old.nodes.kind (old.nodes.first + j) y
    slot_now j y less there (yes at) =
        let y_is : y ≡ found = set_at old.nodes.slots.items i found y (ap (λ (l : List OwnSlot). slice_get l i) (sym is) ∙ ap (slice_get new.nodes.slots.items) (sym at) ∙ there) in
        subst (λ k. IsSlotSo t q q.known old.nodes.kind (old.nodes.first + k) y) (sym at)
        (subst (λ (k : RecordKind). IsSlotSo t q q.known k (old.nodes.first + i) y) (sym x.slots.node_kind)
        (subst (IsSlotSo t q q.known Node (old.nodes.first + i)) (sym y_is) (marked_now t Node (old.nodes.first + i) allows p q goes name name_is e).so))
    slot_now j y less there (no d) = slot_kept t p q goes.number goes.planting (λ r. ⊥) spares old.nodes.kind (old.nodes.first + j) (λ z. z) x.since q.known known_more y
        (x.slots.nodes.slots j y (omega arith) (subst (λ n. j < n) same.count less) (sym (set_beside old.nodes.slots.items i j found d) ∙ ap (λ (l : List OwnSlot). slice_get l j) (sym is) ∙ there))

    nodes_now : IsBook t q q.known new.nodes
    nodes_now = record {
      all = own_on t p q old.nodes new.nodes same goes.number (same_dealt new.nodes.kind) x.slots.nodes.all;
      slots = λ j y from to there. subst (λ (k : RecordKind). IsSlotSo t q q.known k (new.nodes.first + j) y) (sym kind) (subst (λ n. IsSlotSo t q q.known old.nodes.kind (n + j) y) (sym first) (slot_now j y to there (ℕ_discrete j i)));
    }
      where
        same_dealt : (k : RecordKind) → dealt_of k q.memory ≡ dealt_of k p.memory
        same_dealt Node = ap (λ (m : PassMemory). m.nodes_to) e
        same_dealt Scx = ap (λ (m : PassMemory). m.scx_to) e

    pub leaf_found : p.memory.away ≡ false → HasTakenByRest p old.taken → HasTakenRest t new p q
    leaf_found there has = record {
      kept = record {
        there = inr still;
        since = q.known;
        slots = record {
          known = ends_self (past_of q []);
          rested = subst (λ l. Extends (past_of q []) (history_of q.planting l)) (sym same_rested)
              (subst (λ (l : PlantingView). Extends (past_of q []) (history_of l p.memory.rested)) (sym goes.planting) (ends_trans (past_of q []) (past_of p []) (history_of p.planting p.memory.rested) (known_on allows p q goes) x.slots.rested));
          often = often ∙ x.slots.often ∙ sym (ap (λ (m : PassMemory). m.often) e);
          node_kind = kind ∙ x.slots.node_kind;
          scx_kind = ap (λ (o : OwnSlots). o.kind) scxs ∙ x.slots.scx_kind;
          nodes = nodes_now;
          scxs = subst (IsBook t q q.known) (sym scxs) (book_on t p q goes.number goes.planting spares deals x.since q.known known_more old.scxs x.slots.scxs);
        };
        period = subst (RunsSince t.table.passes q q.known) (sym none) tt;
      };
      there = still;
      taken = subst (HasTakenByRest q) (sym taken) (taken_again p q goes.layout goes.number goes.planting same_rested old.taken has);
      deals = deals;
    }
      where
        still : q.memory.away ≡ false
        still = ap (λ (m : PassMemory). m.away) e ∙ there

        deals : DealsNoMore p.memory q.memory
        deals = record { nodes_to = ap (λ (m : PassMemory). m.nodes_to) e; scx_to = ap (λ (m : PassMemory). m.scx_to) e }
