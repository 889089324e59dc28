-- What is known of slots once some have got names.
use Rattle.std.proofs.Common.{◌≡◌, ◌≢◌, ◌<◌, ◌≤◌, ◌+◌, ◌-◌, ◌%◌, ℕ, zero, suc, List, [], ◌∷◌, Some, None, length, slice_get, set, inl, inr, refl, sym, ◌∙◌, ap, subst, arith}
use native.Mathlib.Decide.{ℕ_discrete}
use Rattle.atomic_table.specs.declared.shared.Seat.{Seat}
use Rattle.arena.proofs.Lemmas.{ends_self, ends_trans}
use Rattle.arena.specs.declared.number.PassNo.{PassNo}
use Rattle.histories.specs.Common.{Extends, History, Layout, Remaining, Row}
use Rattle.planting.specs.Plantings.{PlantingView}
use Rattle.prims.specs.Shares.{IsShare}
use Rattle.resting.specs.Records.{Record, record_of}
use Rattle.slots.specs.Lasting.{IsOwnName, IsOwnRecord, Lasting, slot_of}
use Rattle.tables.specs.LastingMemory.{record_at}
use Rattle.tables.specs.LastingNotes.{IsAmongThese}
use Rattle.tables.specs.LastingSlots.{IsLastDealt, IsNotBefore, memory_given_back, slot_number}
use Rattle.tables.specs.TableRule.{history_of, past_of}
use Rattle.upkeep.specs.UpkeepBook.{AreAllOwn, HasFreed, IsAtLasting, IsBook, IsKnownSo, IsNameIn, IsRecordOfKind, IsSlotSo, KeepsRests, KnowsRest, SparesOthers, count_own, dealt_of, first_own, name_numbered, record_numbered, slots_in, turn_of}
use Rattle.tables.specs.Seats.{IsSameSeat}
use Rattle.upkeep.specs.UpkeepSteps.{HasGoneOnResting, RestsOn}
use Rattle.upkeep.specs.UpkeepDeals.{AreSlotsStill, DealsOn, HasDealt, HasGoneOnDealing, HasShareLeft, HasNameFor, IsFreeAt, IsNameAt, KeepsPolls, MayGet, ahead, memory_given, next_of, with_left}
use Rattle.tables.specs.declared.memory.PassMemory.{PassMemory}
use Rattle.tables.specs.declared.memory.RecordNo.{RecordNo}
use Rattle.upkeep.specs.declared.book.SlotUse.{SlotUse}
use Rattle.upkeep.specs.declared.book.SlotUse.TheVariants.{Free, Used}
use Rattle.upkeep.specs.declared.book.OwnSlot.{OwnSlot}
use Rattle.upkeep.specs.declared.book.OwnSlots.{OwnSlots}
use Rattle.upkeep.specs.declared.kind.RecordKind.{RecordKind}
use Rattle.upkeep.specs.declared.kind.RecordKind.TheVariants.{Node, Scx}
use Rattle.tables.specs.declared.view.SeatedPass.{SeatedPass}
use Rattle.tables.specs.declared.view.SeatView.{SeatView}
use Rattle.tables.specs.declared.words.Words.{Words}
use Rattle.upkeep.proofs.UpkeepBook.{among_others, slot_record, spares_more, spares_on}
use Rattle.upkeep.proofs.UpkeepDeals.{deals_on, left_again, left_as, left_on, next_is}
use Rattle.tables.proofs.Ruled.{same_pass}
use Rattle.upkeep.proofs.UpkeepLooks.{at_now}
use Rattle.upkeep.proofs.UpkeepSteps.{rests_on, seat_on}
use Rattle.upkeep.proofs.UpkeepTurn.{from_pass, known_on}
use Rattle.upkeep.proofs.UpkeepTurns.{is_of_kind, numbered_apart, other_book, set_at, set_beside, slot_kept}

-- Before

pub within : (xs : List OwnSlot) (i : ℕ) (x : OwnSlot) → slice_get xs i ≡ Some x → i < length xs
within [] i x e = absurd (let z : None ≡ Some x = e in cc)
within (y ∷ ys) zero x e = omega arith
within (y ∷ ys) (suc i) x e = let less : i < length ys = within ys i x e in omega (arith, less)

ahead_is : (kind : RecordKind) (m : PassMemory) (count : ℕ) → ahead kind m count ≡ name_numbered kind (dealt_of kind m + count)
ahead_is Node m count = refl
ahead_is Scx m count = refl

-- what is left of a share begins with names of the pass's own
next_own : (kind : RecordKind) (lay : Layout) (h : History) (o : ℕ) (left : Remaining) → IsShare lay h o left left.next_node left.next_scx → first_own kind lay o ≤ next_of kind left
next_own Node lay h o left x = x.from_node
next_own Scx lay h o left x = x.from_scx

own_from : (kind : RecordKind) (lay : Layout) (o n : ℕ) → first_own kind lay o ≤ n → n < first_own kind lay o + count_own kind lay → IsOwnRecord lay o (record_numbered kind n)
own_from Node lay o n from below = record { from = from; below = below }
own_from Scx lay o n from below = record { from = from; below = below }

slot_in_turn : (kind : RecordKind) (t : Lasting) (n s : ℕ) → n % turn_of kind t ≡ s → slot_number t (name_numbered kind n) ≡ name_numbered kind s
slot_in_turn Node t n s e = ap (name_numbered Node) e
slot_in_turn Scx t n s e = ap (name_numbered Scx) e

module _ (allows : Layout → History → ℕ → Type 0) (t : Lasting) (p : SeatedPass) (left : Remaining) (since : List Row) (own : OwnSlots) (i count : ℕ) (layout : p.layout ≡ t.lay) (has : HasShareLeft allows p left) (less : next_of own.kind left ≤ dealt_of own.kind p.memory) (book : IsBook t p since own) (free : IsFreeAt own i) (name : HasNameFor own i count) where
  abbrev o : ℕ
  o = p.number.0

  abbrev n : ℕ
  n = dealt_of own.kind p.memory + count

  its_own : IsOwnRecord p.layout o (record_numbered own.kind n)
  its_own = own_from own.kind p.layout o n
      (let from = next_own own.kind p.layout (past_of p []) o left has.share in omega (arith, from, less))
      (subst (λ (l : Layout). n < first_own own.kind l o + count_own own.kind l) (sym layout) (let inside = name.inside in let e = book.all.dealt in let end = book.all.end in omega (arith, inside, e, end)))

  in_slot : slot_number t (name_numbered own.kind n) ≡ name_numbered own.kind (own.first + i)
  in_slot = slot_in_turn own.kind t n (own.first + i) (ap (λ k. n % k) (sym book.all.turn) ∙ ap (λ k. (k + count) % own.turn) (sym book.all.dealt) ∙ name.slot_is)

  slot_own : IsOwnRecord t.table o (record_numbered own.kind (own.first + i))
  slot_own = own_from own.kind t.table o (own.first + i) (let e = book.all.first in omega (arith, e)) (let less_len = within own.slots.items i free.0 free.1 in let e = book.all.first in let count_is = book.all.count in omega (arith, less_len, e, count_is))

  -- a free slot may get its next name
  pub may_get : MayGet t p own.kind (own.first + i) count
  may_get = record {
    own = subst (λ (n : RecordNo). IsOwnName t o (record_at n)) (sym (ahead_is own.kind p.memory count)) (subst (λ (l : Layout). IsOwnRecord l o (record_numbered own.kind n)) layout its_own, subst (IsOwnRecord t.table o) (sym (slot_record t own.kind (own.first + i) n in_slot)) slot_own);
    slot_is = ap (slot_number t) (ahead_is own.kind p.memory count) ∙ in_slot;
    clean = subst (λ (k : SlotUse). IsKnownSo t p.planting o p.memory since own.kind (own.first + i) free.0.name k) free.2 (book.slots i free.0 (omega arith) (within own.slots.items i free.0 free.1) free.1);
  }

-- After

-- what is remembered of other slots is so still
given_spares : (t : Lasting) (kind : RecordKind) (slot count : ℕ) (m : PassMemory) (rows : List Row) → SparesOthers t (λ r. r ≡ record_numbered kind slot) m (memory_given kind m count (name_numbered kind slot) rows)
given_spares t Node slot count m rows = record {
  notes = λ x i. i;
  holds = λ x i d. inr i;
  empty = λ x i d. among_others record_at (record_numbered Node slot) x m.empty i d;
  zeros = λ w i d. among_others record_of (record_numbered Node slot) w m.zeros i d;
}
given_spares t Scx slot count m rows = record {
  notes = λ x i. i;
  holds = λ x i d. inr i;
  empty = λ x i d. among_others record_at (record_numbered Scx slot) x m.empty i d;
  zeros = λ w i d. among_others record_of (record_numbered Scx slot) w m.zeros i d;
}

given_holds : (kind : RecordKind) (m : PassMemory) (count : ℕ) (slot : RecordNo) (rows : List Row) → IsAmongThese (ahead kind m count) (memory_given kind m count slot rows).holds
given_holds Node m count slot rows = inl refl
given_holds Scx m count slot rows = inl refl

given_dealt : (kind : RecordKind) (m : PassMemory) (count : ℕ) (slot : RecordNo) (rows : List Row) → dealt_of kind (memory_given kind m count slot rows) ≡ dealt_of kind m + suc count
given_dealt Node m count slot rows = refl
given_dealt Scx m count slot rows = refl

-- it rests then
given_rested : (kind : RecordKind) (m : PassMemory) (count : ℕ) (slot : RecordNo) (rows : List Row) → (memory_given kind m count slot rows).rested ≡ rows
given_rested Node m count slot rows = refl
given_rested Scx m count slot rows = refl

given_keeps : (kind : RecordKind) (m : PassMemory) (count : ℕ) (slot : RecordNo) (rows : List Row) → KeepsPolls kind m (memory_given kind m count slot rows)
given_keeps Node m count slot rows = record { away = refl; often = refl; polls = refl; others = others }
  where
    others : (other : RecordKind) → other ≢ Node → dealt_of other (memory_given Node m count slot rows) ≡ dealt_of other m
    others Node d = absurd (d refl)
    others Scx d = refl
given_keeps Scx m count slot rows = record { away = refl; often = refl; polls = refl; others = others }
  where
    others : (other : RecordKind) → other ≢ Scx → dealt_of other (memory_given Scx m count slot rows) ≡ dealt_of other m
    others Node d = refl
    others Scx d = absurd (d refl)

-- they are all slots of the pass still
all_still : (t : Lasting) (p q : SeatedPass) (old new : OwnSlots) → AreSlotsStill old new → q.number ≡ p.number → new.dealt ≡ dealt_of new.kind q.memory → AreAllOwn t p old → AreAllOwn t q new
all_still t p q old new still number dealt all = record {
  first = still.first ∙ all.first ∙ ap (λ (k : RecordKind). first_own k t.table p.number.0) (sym still.kind) ∙ ap (λ (n : PassNo). first_own new.kind t.table n.0) (sym number);
  count = still.count ∙ all.count ∙ ap (λ (k : RecordKind). count_own k t.table) (sym still.kind);
  turn = still.turn ∙ all.turn ∙ ap (λ (k : RecordKind). turn_of k t) (sym still.kind);
  end = still.end ∙ all.end ∙ ap (λ (k : RecordKind). first_own k t.lay p.number.0 + count_own k t.lay) (sym still.kind) ∙ ap (λ (n : PassNo). first_own new.kind t.lay n.0 + count_own new.kind t.lay) (sym number);
  dealt = dealt;
}

-- a slot has got its next name
module _ (t : Lasting) (old new : OwnSlots) (i count : ℕ) (p q : SeatedPass) (number : q.number ≡ p.number) (planting : q.planting ≡ p.planting) (memory : q.memory ≡ memory_given old.kind p.memory count (name_numbered old.kind (old.first + i)) q.known) (still : AreSlotsStill old new) (dealt : new.dealt ≡ old.dealt + count + 1) (slots : new.slots.items ≡ set old.slots.items i record { name = old.dealt + count; known = Used }) (may : MayGet t p old.kind (old.first + i) count) where
  abbrev kind : RecordKind
  kind = old.kind

  abbrev slot : ℕ
  slot = old.first + i

  pub keeps : KeepsPolls kind p.memory q.memory
  keeps = subst (λ (m : PassMemory). KeepsPolls kind p.memory m) (sym memory) (given_keeps kind p.memory count (name_numbered kind slot) q.known)

  pub knows : KnowsRest q
  knows = subst (λ l. Extends (past_of q []) (history_of q.planting l)) (sym (ap (λ (m : PassMemory). m.rested) memory ∙ given_rested kind p.memory count (name_numbered kind slot) q.known)) (ends_self (past_of q []))

  spares : SparesOthers t (λ r. r ≡ record_numbered kind slot) p.memory q.memory
  spares = subst (λ (m : PassMemory). SparesOthers t (λ r. r ≡ record_numbered kind slot) p.memory m) (sym memory) (given_spares t kind slot count p.memory q.known)

  spares_kind : SparesOthers t (IsRecordOfKind kind) p.memory q.memory
  spares_kind = spares_more t (λ r. r ≡ record_numbered kind slot) (IsRecordOfKind kind) p.memory q.memory (λ r e. subst (IsRecordOfKind kind) (sym e) (is_of_kind kind slot)) spares

  -- its slots of the other kind are as they were
  pub others : (other : OwnSlots) (since : List Row) → other.kind ≢ kind → IsBook t p since other → IsBook t q since other
  others other since apart = other_book t p q number planting kind spares_kind other since apart (keeps.others other.kind apart)

  module _ (since : List Row) (book : IsBook t p since old) where
    name_is : ahead kind p.memory count ≡ name_numbered kind (old.dealt + count)
    name_is = ahead_is kind p.memory count ∙ ap (λ n. name_numbered kind (n + count)) (sym book.all.dealt)

    named : IsNameIn t q.number.0 q.memory kind slot (old.dealt + count)
    named = record {
      held = subst (λ (n : RecordNo). IsAmongThese n q.memory.holds) name_is (subst (λ (m : PassMemory). IsAmongThese (ahead kind p.memory count) m.holds) (sym memory) (given_holds kind p.memory count (name_numbered kind slot) q.known));
      own = subst (λ (k : PassNo). IsOwnRecord t.lay k.0 (record_numbered kind (old.dealt + count))) (sym number) (subst (λ (n : RecordNo). IsOwnRecord t.lay p.number.0 (record_at n)) name_is may.own.0);
      slot_is = ap (slot_number t) (sym name_is) ∙ may.slot_is;
    }

    -- of this slot, or of another
    known : (j : ℕ) (x : OwnSlot) → slice_get new.slots.items j ≡ Some x → j < length old.slots.items → Dec (j ≡ i) → IsSlotSo t q since kind (old.first + j) x
    known j x there less (yes e) = subst (λ k. IsSlotSo t q since kind (old.first + k) x) (sym e)
        (subst (λ (z : OwnSlot). IsSlotSo t q since kind slot z) (sym (set_at old.slots.items i record { name = old.dealt + count; known = Used } x (ap (λ (l : List OwnSlot). slice_get l i) (sym slots) ∙ ap (slice_get new.slots.items) (sym e) ∙ there))) named)
    known j x there less (no d) = slot_kept t p q number planting (λ r. r ≡ record_numbered kind slot) spares kind (old.first + j) (numbered_apart kind (old.first + j) slot (λ e. d (omega (arith, e)))) since since (ends_self (history_of p.planting since)) x
        (book.slots j x (omega arith) less (sym (set_beside old.slots.items i j record { name = old.dealt + count; known = Used } d) ∙ ap (λ (l : List OwnSlot). slice_get l j) (sym slots) ∙ there))

    pub book_then : IsBook t q since new
    book_then = record {
      all = all_still t p q old new still number (dealt ∙ (let e = book.all.dealt in let z : old.dealt + count + 1 ≡ dealt_of kind p.memory + suc count = omega (arith, e) in z) ∙ sym (given_dealt kind p.memory count (name_numbered kind slot) q.known) ∙ ap (λ (m : PassMemory). dealt_of kind m) (sym memory) ∙ ap (λ (k : RecordKind). dealt_of k q.memory) (sym still.kind)) book.all;
      slots = λ j x from to there. subst (λ (k : RecordKind). IsSlotSo t q since k (new.first + j) x) (sym still.kind) (subst (λ n. IsSlotSo t q since kind (n + j) x) (sym still.first)
          (known j x there (subst (λ n. j < n) still.count to) (ℕ_discrete j i)));
    }

-- a slot has got the name behind those that are dealt, of which those from `next` on are left
pub next_dealt : (allows : Layout → History → ℕ → Type 0) (t : Lasting) (old new : OwnSlots) (i next : ℕ) (p q : SeatedPass) (since : List Row) → HasGoneOnResting allows p q → q.memory ≡ memory_given old.kind p.memory 0 (name_numbered old.kind (old.first + i)) q.known → AreSlotsStill old new → new.dealt ≡ old.dealt + 1 → new.slots.items ≡ set old.slots.items i record { name = old.dealt; known = Used } → MayGet t p old.kind (old.first + i) 0 → HasNameFor old i 0 → IsBook t p since old → p.layout ≡ t.lay → next ≤ old.dealt → HasDealt allows t old new next next p q
next_dealt allows t old new i next p q since goes memory still dealt slots may name book layout less = record {
  keeps = kept;
  rested = λ was. knows t old new i 0 p q goes.number goes.planting memory still dealt_is slots_are may;
  book = λ other before. book_then t old new i 0 p q goes.number goes.planting memory still dealt_is slots_are may other before;
  others = others t old new i 0 p q goes.number goes.planting memory still dealt_is slots_are may;
  left = λ left has same. left_as allows q left old.kind next (new.dealt - next) same few (left_on allows p q left goes kept.away has);
}
  where
    dealt_is : new.dealt ≡ old.dealt + 0 + 1
    dealt_is = omega (arith, dealt)

    slots_are : new.slots.items ≡ set old.slots.items i record { name = old.dealt + 0; known = Used }
    slots_are = slots ∙ ap (λ n. set old.slots.items i record { name = n; known = Used }) (omega arith)

    kept : KeepsPolls old.kind p.memory q.memory
    kept = keeps t old new i 0 p q goes.number goes.planting memory still dealt_is slots_are may

    few : next + (new.dealt - next) ≤ first_own old.kind q.layout q.number.0 + count_own old.kind q.layout
    few = subst (λ (l : Layout). next + (new.dealt - next) ≤ first_own old.kind l q.number.0 + count_own old.kind l) (sym (goes.layout ∙ layout))
        (subst (λ (k : PassNo). next + (new.dealt - next) ≤ first_own old.kind t.lay k.0 + count_own old.kind t.lay) (sym goes.number)
        (let inside = name.inside in let end = book.all.end in omega (arith, inside, end, dealt, less)))

-- Given back

pub last_dealt : (kind : RecordKind) (m : PassMemory) (name : ℕ) → dealt_of kind m ≡ suc name → IsLastDealt m (record_numbered kind name)
last_dealt Node m name e = e
last_dealt Scx m name e = e

pub is_left : (kind : RecordKind) (left : Remaining) (name : ℕ) → next_of kind left ≤ name → IsNotBefore left (record_numbered kind name)
is_left Node left name less = less
is_left Scx left name less = less

back_spares : (t : Lasting) (kind : RecordKind) (m : PassMemory) (name : ℕ) (slot : Record) → slot_of t (record_numbered kind name) ≡ slot → SparesOthers t (λ r. r ≡ slot) m (memory_given_back t m (name_numbered kind name))
back_spares t Node m name s is = record {
  notes = λ x i. i;
  holds = λ x i d. among_others record_at (record_numbered Node name) x m.holds i (λ e. d (ap (slot_of t) e ∙ is));
  empty = λ x i d. inr i;
  zeros = λ w i d. i;
}
back_spares t Scx m name s is = record {
  notes = λ x i. i;
  holds = λ x i d. among_others record_at (record_numbered Scx name) x m.holds i (λ e. d (ap (slot_of t) e ∙ is));
  empty = λ x i d. inr i;
  zeros = λ w i d. i;
}

back_empty : (t : Lasting) (kind : RecordKind) (m : PassMemory) (name : ℕ) → IsAmongThese (slot_number t (name_numbered kind name)) (memory_given_back t m (name_numbered kind name)).empty
back_empty t Node m name = inl refl
back_empty t Scx m name = inl refl

back_dealt : (t : Lasting) (kind : RecordKind) (m : PassMemory) (name : ℕ) → dealt_of kind (memory_given_back t m (name_numbered kind name)) ≡ name
back_dealt t Node m name = refl
back_dealt t Scx m name = refl

back_rested : (t : Lasting) (kind : RecordKind) (m : PassMemory) (name : ℕ) → (memory_given_back t m (name_numbered kind name)).rested ≡ m.rested
back_rested t Node m name = refl
back_rested t Scx m name = refl

back_keeps : (t : Lasting) (kind : RecordKind) (m : PassMemory) (name : ℕ) → KeepsPolls kind m (memory_given_back t m (name_numbered kind name))
back_keeps t Node m name = record { away = refl; often = refl; polls = refl; others = others }
  where
    others : (other : RecordKind) → other ≢ Node → dealt_of other (memory_given_back t m (name_numbered Node name)) ≡ dealt_of other m
    others Node d = absurd (d refl)
    others Scx d = refl
back_keeps t Scx m name = record { away = refl; often = refl; polls = refl; others = others }
  where
    others : (other : RecordKind) → other ≢ Scx → dealt_of other (memory_given_back t m (name_numbered Scx name)) ≡ dealt_of other m
    others Node d = refl
    others Scx d = absurd (d refl)

same_rests : (kind : RecordKind) (m n : PassMemory) → KeepsRests m n → dealt_of kind n ≡ dealt_of kind m
same_rests Node m n x = x.nodes_to
same_rests Scx m n x = x.scx_to

module _ (allows : Layout → History → ℕ → Type 0) (t : Lasting) (old new : OwnSlots) (i next name : ℕ) (p : SeatedPass) (since : List Row) (book : IsBook t p since old) (at : IsNameAt old name i) where
  -- the slot holds the name
  pub name_there : IsNameIn t p.number.0 p.memory old.kind (old.first + i) name
  name_there = subst (λ n. IsNameIn t p.number.0 p.memory old.kind (old.first + i) n) at.3
      (subst (λ (k : SlotUse). IsKnownSo t p.planting p.number.0 p.memory since old.kind (old.first + i) at.0.name k) at.2 (book.slots i at.0 (omega arith) (within old.slots.items i at.0 at.1) at.1))

  module _ (q : SeatedPass) (memory : q.memory ≡ memory_given_back t p.memory (name_numbered old.kind name)) where
    -- its slot is empty then
    pub empty_then : IsAmongThese (name_numbered old.kind (old.first + i)) q.memory.empty
    empty_then = subst (λ (m : PassMemory). IsAmongThese (name_numbered old.kind (old.first + i)) m.empty) (sym memory) (subst (λ (n : RecordNo). IsAmongThese n (memory_given_back t p.memory (name_numbered old.kind name)).empty) name_there.slot_is (back_empty t old.kind p.memory name))

    module _ (r : SeatedPass) (goes : HasGoneOnResting allows p q) (on : HasGoneOnResting allows q r) (freed : HasFreed t old.kind (old.first + i) q r) (still : AreSlotsStill old new) (dealt : new.dealt ≡ name) (slots : new.slots.items ≡ set old.slots.items i record { name = name; known = Free }) where
      number : r.number ≡ p.number
      number = on.number ∙ goes.number

      planting : r.planting ≡ p.planting
      planting = on.planting ∙ goes.planting

      back_kept : KeepsPolls old.kind p.memory r.memory
      back_kept = let x : KeepsPolls old.kind p.memory q.memory = subst (λ (m : PassMemory). KeepsPolls old.kind p.memory m) (sym memory) (back_keeps t old.kind p.memory name) in let y = freed.keeps.rests in record {
        away = y.away ∙ x.away;
        often = y.often ∙ x.often;
        polls = y.polls ∙ x.polls;
        others = λ other d. same_rests other q.memory r.memory y ∙ x.others other d;
      }

      back_knows : KnowsRest p → KnowsRest r
      back_knows was = subst (λ l. Extends (past_of r []) (history_of r.planting l)) (sym (freed.keeps.rests.rested ∙ ap (λ (m : PassMemory). m.rested) memory ∙ back_rested t old.kind p.memory name))
          (ends_trans (past_of r []) (past_of p []) (history_of r.planting p.memory.rested) (known_on allows p r (rests_on allows p q r goes on))
          (subst (λ (l : PlantingView). Extends (past_of p []) (history_of l p.memory.rested)) (sym planting) was))

      spared : SparesOthers t (λ k. k ≡ record_numbered old.kind (old.first + i)) p.memory r.memory
      spared = spares_on t (λ k. k ≡ record_numbered old.kind (old.first + i)) p.memory q.memory r.memory (subst (λ (m : PassMemory). SparesOthers t (λ k. k ≡ record_numbered old.kind (old.first + i)) p.memory m) (sym memory) (back_spares t old.kind p.memory name (record_numbered old.kind (old.first + i)) (slot_record t old.kind (old.first + i) name name_there.slot_is))) freed.keeps.others

      spared_kind : SparesOthers t (IsRecordOfKind old.kind) p.memory r.memory
      spared_kind = spares_more t (λ k. k ≡ record_numbered old.kind (old.first + i)) (IsRecordOfKind old.kind) p.memory r.memory (λ k e. subst (IsRecordOfKind old.kind) (sym e) (is_of_kind old.kind (old.first + i))) spared

      dealt_then : new.dealt ≡ dealt_of old.kind r.memory
      dealt_then = dealt ∙ sym (back_dealt t old.kind p.memory name) ∙ ap (λ (m : PassMemory). dealt_of old.kind m) (sym memory) ∙ sym (same_rests old.kind q.memory r.memory freed.keeps.rests)

      slot_then : (before : List Row) (b : IsBook t p before old) (j : ℕ) (x : OwnSlot) → slice_get new.slots.items j ≡ Some x → j < length old.slots.items → Dec (j ≡ i) → IsSlotSo t r before old.kind (old.first + j) x
      slot_then before b j x there less (yes e) = subst (λ k. IsSlotSo t r before old.kind (old.first + k) x) (sym e)
          (subst (λ (z : OwnSlot). IsSlotSo t r before old.kind (old.first + i) z) (sym (set_at old.slots.items i record { name = name; known = Free } x (ap (λ (l : List OwnSlot). slice_get l i) (sym slots) ∙ ap (slice_get new.slots.items) (sym e) ∙ there))) freed.clean)
      slot_then before b j x there less (no d) = slot_kept t p r number planting (λ k. k ≡ record_numbered old.kind (old.first + i)) spared old.kind (old.first + j) (numbered_apart old.kind (old.first + j) (old.first + i) (λ e. d (omega (arith, e)))) before before (ends_self (history_of p.planting before)) x
          (b.slots j x (omega arith) less (sym (set_beside old.slots.items i j record { name = name; known = Free } d) ∙ ap (λ (l : List OwnSlot). slice_get l j) (sym slots) ∙ there))

      book_back : (before : List Row) → IsBook t p before old → IsBook t r before new
      book_back before b = record {
        all = all_still t p r old new still number (dealt_then ∙ ap (λ (k : RecordKind). dealt_of k r.memory) (sym still.kind)) b.all;
        slots = λ j x from to there. subst (λ (k : RecordKind). IsSlotSo t r before k (new.first + j) x) (sym still.kind) (subst (λ n. IsSlotSo t r before old.kind (n + j) x) (sym still.first)
            (slot_then before b j x there (subst (λ n. j < n) still.count to) (ℕ_discrete j i)));
      }

      -- so the name is given back
      pub given_back : p.layout ≡ t.lay → next ≤ name → name < old.end → HasDealt allows t old new next next p r
      given_back layout less inside = record {
        keeps = back_kept;
        rested = back_knows;
        book = book_back;
        others = λ other before apart. other_book t p r number planting old.kind spared_kind other before apart (back_kept.others other.kind apart);
        left = λ left has same. left_as allows r left old.kind next (new.dealt - next) same few (left_on allows p r left (rests_on allows p q r goes on) back_kept.away has);
      }
        where
          few : next + (new.dealt - next) ≤ first_own old.kind r.layout r.number.0 + count_own old.kind r.layout
          few = subst (λ (l : Layout). next + (new.dealt - next) ≤ first_own old.kind l r.number.0 + count_own old.kind l) (sym (on.layout ∙ goes.layout ∙ layout))
              (subst (λ (k : PassNo). next + (new.dealt - next) ≤ first_own old.kind t.lay k.0 + count_own old.kind t.lay) (sym number)
              (let end = book.all.end in omega (arith, inside, end, dealt, less)))

-- if nothing was done
pub dealt_not : (allows : Layout → History → ℕ → Type 0) (t : Lasting) (own : OwnSlots) (next : ℕ) (p : SeatedPass) (since : List Row) → IsBook t p since own → p.layout ≡ t.lay → next ≤ own.dealt → own.dealt ≤ own.end → HasDealt allows t own own next next p p
dealt_not allows t own next p since book layout less ends = record {
  keeps = record { away = refl; often = refl; polls = refl; others = λ other d. refl };
  rested = λ was. was;
  book = λ before b. b;
  others = λ other before apart b. b;
  left = λ left has same. left_as allows p left own.kind next (own.dealt - next) same few has;
}
  where
    few : next + (own.dealt - next) ≤ first_own own.kind p.layout p.number.0 + count_own own.kind p.layout
    few = subst (λ (l : Layout). next + (own.dealt - next) ≤ first_own own.kind l p.number.0 + count_own own.kind l) (sym layout) (let end = book.all.end in omega (arith, end, less, ends))

-- One after the other

-- what is dealt then, is dealt from the same slots
pub dealt_on : (allows : Layout → History → ℕ → Type 0) (t : Lasting) (old mid new : OwnSlots) (a b c : ℕ) (p q r : SeatedPass) → mid.kind ≡ old.kind → HasDealt allows t old mid a b p q → HasDealt allows t mid new b c q r → HasDealt allows t old new a c p r
dealt_on allows t old mid new a b c p q r same x y = record {
  keeps = record {
    away = y.keeps.away ∙ x.keeps.away;
    often = y.keeps.often ∙ x.keeps.often;
    polls = y.keeps.polls ∙ x.keeps.polls;
    others = λ other d. y.keeps.others other (λ e. d (e ∙ same)) ∙ x.keeps.others other d;
  };
  rested = λ was. y.rested (x.rested was);
  book = λ since book. y.book since (x.book since book);
  others = λ other since d book. y.others other since (λ e. d (e ∙ same)) (x.others other since d book);
  left = λ left has is. subst (λ (l : Remaining). HasShareLeft allows r l) (left_again old.kind left b (mid.dealt - b) c (new.dealt - c))
      (subst (λ (k : RecordKind). HasShareLeft allows r (with_left k (with_left old.kind left b (mid.dealt - b)) c (new.dealt - c))) same
      (y.left (with_left old.kind left b (mid.dealt - b)) (x.left left has is) (ap (λ (k : RecordKind). next_of k (with_left old.kind left b (mid.dealt - b))) same ∙ next_is old.kind left b (mid.dealt - b))));
}

-- so it is of the one pass of a seat
pub seat_dealt : (allows : Layout → History → ℕ → Type 0) (t : Lasting) (old mid new : OwnSlots) (a b c : ℕ) (u v w : SeatView) → AreSlotsStill old mid → RestsOn allows (HasDealt allows t old mid a b) u v → RestsOn allows (HasDealt allows t mid new b c) v w → RestsOn allows (HasDealt allows t old new a c) u w
seat_dealt allows t old mid new a b c u v w still x y = seat_on allows (HasDealt allows t old mid a b) (HasDealt allows t mid new b c) (HasDealt allows t old new a c) u v w (λ p q r. dealt_on allows t old mid new a b c p q r still.kind) x y

pub still_on : (a b c : OwnSlots) → AreSlotsStill a b → AreSlotsStill b c → AreSlotsStill a c
still_on a b c x y = record { kind = y.kind ∙ x.kind; first = y.first ∙ x.first; turn = y.turn ∙ x.turn; end = y.end ∙ x.end; count = y.count ∙ x.count; lost = λ i s there is. x.lost i s (y.lost i s there is) is }

pub still_same : (a : OwnSlots) → AreSlotsStill a a
still_same a = record { kind = refl; first = refl; turn = refl; end = refl; count = refl; lost = λ i x there is. there }

-- what the pass has then, and what is known of its slots
module _ {S : Type 0} (allows : Layout → History → ℕ → Type 0) (words : Words S) (lay : Layout) (u v : Seat ℕ SeatView) (old own : OwnSlots) (next to : ℕ) (p : SeatedPass) (left : Remaining) (since : List Row) (here : IsAtLasting words lay u p) (has : HasShareLeft allows p left) (is : next_of old.kind left ≡ next) (book : IsBook (slots_in words) p since old) (stays : IsSameSeat u v) (still : AreSlotsStill old own) where
  abbrev AsksNow : Type 0
  AsksNow = (x : SeatedPass) × (x' : Remaining) × (x'' : List Row) × IsAtLasting words lay v x × HasShareLeft allows x x' × (next_of own.kind x' ≡ to) × IsBook (slots_in words) x x'' own

  pub pass_now : RestsOn allows (HasDealt allows (slots_in words) old own next to) u.me.0 v.me.0 → AsksNow
  pass_now so = let on = from_pass allows (HasDealt allows (slots_in words) old own next to) u.me.0 v.me.0 p here.alone so in (
    so.later,
    with_left old.kind left to (own.dealt - to),
    since,
    at_now words lay allows (HasDealt allows (slots_in words) old own next to) u v p here stays so,
    on.1.left left has is,
    ap (λ (k : RecordKind). next_of k (with_left old.kind left to (own.dealt - to))) still.kind ∙ next_is old.kind left to (own.dealt - to),
    on.1.book since book,
  )

  pub pass_dealt : DealsOn (HasDealt allows (slots_in words) old own next to) u.me.0 v.me.0 → AsksNow
  pass_dealt so =
      let on : HasGoneOnDealing p so.later × HasDealt allows (slots_in words) old own next to p so.later = subst (λ (k : SeatedPass). HasGoneOnDealing k so.later × HasDealt allows (slots_in words) old own next to k so.later) (same_pass u.me.0.passes p so.pass here.alone so.was) (so.goes_on, so.holds) in (
        so.later,
        with_left old.kind left to (own.dealt - to),
        since,
        record {
          table = (here.table.0, stays.0 ∙ here.table.1);
          alone = so.is;
          names = on.0.layout ∙ here.names;
          is_pass = subst (λ (k : PassNo). k.0 < lay.passes) (sym on.0.number) here.is_pass;
        },
        on.1.left left has is,
        ap (λ (k : RecordKind). next_of k (with_left old.kind left to (own.dealt - to))) still.kind ∙ next_is old.kind left to (own.dealt - to),
        on.1.book since book,
      )

-- names are dealt, and then more
pub deals_more : (allows : Layout → History → ℕ → Type 0) (t : Lasting) (old mid new : OwnSlots) (a b c : ℕ) (u v w : SeatView) → AreSlotsStill old mid → DealsOn (HasDealt allows t old mid a b) u v → DealsOn (HasDealt allows t mid new b c) v w → DealsOn (HasDealt allows t old new a c) u w
deals_more allows t old mid new a b c u v w still x y = deals_on (HasDealt allows t old mid a b) (HasDealt allows t mid new b c) (HasDealt allows t old new a c) u v w (λ p q r. dealt_on allows t old mid new a b c p q r still.kind) x y
