-- How the slots of a pass are gone through, one after the other, once a period has ended.
use Rattle.std.proofs.Common.{◌≡◌, ◌≢◌, ◌<◌, ◌+◌, ℕ, zero, suc, List, [], ◌∷◌, Some, None, length, slice_get, set, get_or, refl, sym, ◌∙◌, ap, subst, arith}
use native.Mathlib.Decide.{ℕ_discrete}
use Rattle.arena.proofs.Lemmas.{ends_self}
use Rattle.arena.specs.declared.number.PassNo.{PassNo}
use Rattle.histories.specs.Common.{Extends, History, Layout, Remaining, Row}
use Rattle.planting.specs.Plantings.{PlantingView}
use Rattle.resting.specs.Records.{Record}
use Rattle.slots.specs.Lasting.{IsOwnRecord, Lasting}
use Rattle.tables.specs.TableRule.{history_of, past_of}
use Rattle.upkeep.specs.UpkeepBook.{AreAllOwn, AreLostBy, AreSameSlots, AreSlotsSo, HasPeriodEnded, HasTakenBelow, HasTurnedBook, IsBook, IsKnownSo, IsLostBy, IsRecordOfKind, IsSlotSo, KeepsRests, KnowsNow, LosesNoMore, SparesOthers, count_own, dealt_of, first_own, record_numbered, turn_of}
use Rattle.upkeep.specs.UpkeepDeals.{HasShareLeft, next_of}
use Rattle.upkeep.specs.UpkeepSteps.{HasGoneOnResting}
use Rattle.upkeep.specs.declared.book.SlotUse.TheVariants.{Lost}
use Rattle.upkeep.specs.declared.book.OwnSlot.{OwnSlot}
use Rattle.upkeep.specs.declared.book.OwnSlots.{OwnSlots}
use Rattle.upkeep.specs.declared.kind.RecordKind.{RecordKind}
use Rattle.upkeep.specs.declared.kind.RecordKind.TheVariants.{Node, Scx}
use Rattle.tables.specs.declared.view.SeatedPass.{SeatedPass}
use Rattle.upkeep.proofs.UpkeepBook.{known_kept, rests_on, rests_same, spares_more, spares_on, spares_same}
use Rattle.upkeep.proofs.UpkeepTurn.{known_later, known_on, still_taken}

-- Lists

some_is : {A : Type 0} (x y : A) → Some x ≡ Some y → x ≡ y
some_is x y e = cc

pub set_at : (xs : List OwnSlot) (i : ℕ) (new y : OwnSlot) → slice_get (set xs i new) i ≡ Some y → y ≡ new
set_at [] i new y e = absurd (let z : None ≡ Some y = e in cc)
set_at (x ∷ xs) zero new y e = sym (some_is new y e)
set_at (x ∷ xs) (suc i) new y e = set_at xs i new y e

pub set_beside : (xs : List OwnSlot) (i j : ℕ) (new : OwnSlot) → j ≢ i → slice_get (set xs i new) j ≡ slice_get xs j
set_beside [] i j new d = refl
set_beside (x ∷ xs) zero zero new d = absurd (d refl)
set_beside (x ∷ xs) zero (suc j) new d = refl
set_beside (x ∷ xs) (suc i) zero new d = refl
set_beside (x ∷ xs) (suc i) (suc j) new d = set_beside xs i j new (λ e. d (ap suc e))

pub read_at : (xs : List OwnSlot) (i : ℕ) (x : OwnSlot) → i < length xs → x ≡ get_or xs i x → slice_get xs i ≡ Some x
read_at [] i x less e = absurd (omega (arith, less))
read_at (y ∷ ys) zero x less e = ap Some (sym e)
read_at (y ∷ ys) (suc i) x less e = read_at ys i x (omega (arith, less)) e

-- Slots

-- records of other numbers are others
pub numbered_apart : (kind : RecordKind) (n k : ℕ) → n ≢ k → record_numbered kind n ≢ record_numbered kind k
numbered_apart Node n k d e = d (let q : n ≡ k = cc in q)
numbered_apart Scx n k d e = d (let q : n ≡ k = cc in q)

-- they are all slots of the pass still
pub own_on : (t : Lasting) (p q : SeatedPass) (old own : OwnSlots) → AreSameSlots old own → q.number ≡ p.number → dealt_of own.kind q.memory ≡ dealt_of own.kind p.memory → AreAllOwn t p old → AreAllOwn t q own
own_on t p q old own same number dealt all = record {
  first = same.first ∙ all.first ∙ ap (λ (k : RecordKind). first_own k t.table p.number.0) (sym same.kind) ∙ ap (λ (n : PassNo). first_own own.kind t.table n.0) (sym number);
  count = same.count ∙ all.count ∙ ap (λ (k : RecordKind). count_own k t.table) (sym same.kind);
  turn = same.turn ∙ all.turn ∙ ap (λ (k : RecordKind). turn_of k t) (sym same.kind);
  end = same.end ∙ all.end ∙ ap (λ (k : RecordKind). first_own k t.lay p.number.0 + count_own k t.lay) (sym same.kind) ∙ ap (λ (n : PassNo). first_own own.kind t.lay n.0 + count_own own.kind t.lay) (sym number);
  dealt = same.dealt ∙ all.dealt ∙ ap (λ (k : RecordKind). dealt_of k p.memory) (sym same.kind) ∙ sym dealt;
}

-- what is known of a slot stays so while something is done with others
pub slot_kept : (t : Lasting) (q r : SeatedPass) → r.number ≡ q.number → r.planting ≡ q.planting → (Is : Record → Type 0) → SparesOthers t Is q.memory r.memory → (kind : RecordKind) (slot : ℕ) → ¬ Is (record_numbered kind slot) → (since later : List Row) → Extends (history_of q.planting later) (history_of q.planting since) → (x : OwnSlot) → IsSlotSo t q since kind slot x → IsSlotSo t r later kind slot x
slot_kept t q r number planting Is spares kind slot apart since later on x so =
    subst (λ (l : PlantingView). IsKnownSo t l r.number.0 r.memory later kind slot x.name x.known) (sym planting)
    (subst (λ (k : PassNo). IsKnownSo t q.planting k.0 r.memory later kind slot x.name x.known) (sym number)
    (known_kept t q.planting q.number.0 q.memory r.memory Is spares since later on kind slot x.name apart x.known so))

pub is_of_kind : (kind : RecordKind) (n : ℕ) → IsRecordOfKind kind (record_numbered kind n)
is_of_kind Node n = tt
is_of_kind Scx n = tt

pub other_kind : (kind other : RecordKind) (n : ℕ) → other ≢ kind → ¬ IsRecordOfKind kind (record_numbered other n)
other_kind Node Node n d x = d refl
other_kind Node Scx n d x = x
other_kind Scx Node n d x = x
other_kind Scx Scx n d x = d refl

-- what is known of its slots of another kind stays so while something is done with those of one
pub other_book : (t : Lasting) (q r : SeatedPass) → r.number ≡ q.number → r.planting ≡ q.planting → (kind : RecordKind) → SparesOthers t (IsRecordOfKind kind) q.memory r.memory → (other : OwnSlots) (since : List Row) → other.kind ≢ kind → dealt_of other.kind r.memory ≡ dealt_of other.kind q.memory → IsBook t q since other → IsBook t r since other
other_book t q r number planting kind spares other since apart dealt book = record {
  all = own_on t q r other other record { kind = refl; first = refl; turn = refl; end = refl; dealt = refl; count = refl; lost = λ i x there is. there } number dealt book.all;
  slots = λ i x from to is. slot_kept t q r number planting (IsRecordOfKind kind) spares other.kind (other.first + i) (other_kind kind other.kind (other.first + i) apart) since since (ends_self (history_of q.planting since)) x (book.slots i x from to is);
}

-- each of them is a record of the pass's own
pub own_slot : (t : Lasting) (lay : Layout) (p q : SeatedPass) (old : OwnSlots) (kind : RecordKind) (first i : ℕ) → t.table ≡ lay → AreAllOwn t p old → q.number ≡ p.number → kind ≡ old.kind → first ≡ old.first → i < length old.slots.items → IsOwnRecord lay q.number.0 (record_numbered kind (first + i))
own_slot t lay p q old kind first i same all number is_kind is_first inside =
    subst (λ (l : Layout). IsOwnRecord l q.number.0 (record_numbered kind (first + i))) same
    (subst (λ (k : PassNo). IsOwnRecord t.table k.0 (record_numbered kind (first + i))) (sym number)
    (subst (λ (k : RecordKind). IsOwnRecord t.table p.number.0 (record_numbered k (first + i))) (sym is_kind)
    (go old.kind (is_first ∙ all.first) (subst (λ n. i < n) all.count inside))))
  where
    go : (k : RecordKind) → first ≡ first_own k t.table p.number.0 → i < count_own k t.table → IsOwnRecord t.table p.number.0 (record_numbered k (first + i))
    go Node e less = record { from = omega (arith, e); below = omega (arith, e, less) }
    go Scx e less = record { from = omega (arith, e); below = omega (arith, e, less) }

-- names that were taken still are
pub taken_on : (allows : Layout → History → ℕ → Type 0) (p q : SeatedPass) → HasGoneOnResting allows p q → (kind old_kind : RecordKind) (next : ℕ) → kind ≡ old_kind → HasTakenBelow p old_kind next → HasTakenBelow q kind next
taken_on allows p q goes kind old_kind next same taken = subst (λ (k : RecordKind). HasTakenBelow q k next) (sym same) (λ n own below. still_taken allows p q goes (record_numbered old_kind n) (taken n
    (subst (λ (l : Layout). IsOwnRecord l p.number.0 (record_numbered old_kind n)) goes.layout (subst (λ (k : PassNo). IsOwnRecord q.layout k.0 (record_numbered old_kind n)) goes.number own)) below))

-- The slots before that one have been gone through, by which the pass p has become q.
pub record TurnsTo (t : Lasting) (old own : OwnSlots) (i : ℕ) (p q : SeatedPass) : Type 0 where
  pub rests : KeepsRests p.memory q.memory
  pub spares : SparesOthers t (IsRecordOfKind old.kind) p.memory q.memory
  pub turned : (since : List Row) → IsBook t p since old → HasPeriodEnded t p since → AreSlotsSo t q q.known own 0 i
  pub waits : (since : List Row) → IsBook t p since old → HasPeriodEnded t p since → AreSlotsSo t q since own i (length old.slots.items)

module _ (t : Lasting) (old : OwnSlots) where
  pub none_turned : (p : SeatedPass) → TurnsTo t old old 0 p p
  none_turned p = record {
    rests = rests_same p.memory;
    spares = spares_same t (IsRecordOfKind old.kind) p.memory;
    turned = λ since book ended i x from to is. absurd (omega (arith, to));
    waits = λ since book ended. book.slots;
  }

  module _ (allows : Layout → History → ℕ → Type 0) (own new : OwnSlots) (is_old : own.kind ≡ old.kind) (i : ℕ) (x : OwnSlot) (kind : new.kind ≡ own.kind) (first : new.first ≡ own.first) (is : new.slots.items ≡ set own.slots.items i x) (p q r : SeatedPass) (goes : HasGoneOnResting allows q r) (knows : KnowsNow t own.kind (own.first + i) x q r) where
    -- another slot is as it was
    beside : (since later : List Row) → Extends (history_of q.planting later) (history_of q.planting since) → (j : ℕ) (y : OwnSlot) → j ≢ i → slice_get new.slots.items j ≡ Some y → (slice_get own.slots.items j ≡ Some y → IsSlotSo t q since own.kind (own.first + j) y) → IsSlotSo t r later own.kind (own.first + j) y
    beside since later on j y d there so = slot_kept t q r goes.number goes.planting (λ k. k ≡ record_numbered own.kind (own.first + i)) knows.keeps.others own.kind (own.first + j) (numbered_apart own.kind (own.first + j) (own.first + i) (λ e. d (omega (arith, e)))) since later on y
        (so (sym (set_beside own.slots.items i j x d) ∙ ap (λ (l : List OwnSlot). slice_get l j) (sym is) ∙ there))

    known_more : Extends (history_of q.planting r.known) (history_of q.planting q.known)
    known_more = subst (λ (l : PlantingView). Extends (history_of l r.known) (past_of q [])) goes.planting (known_on allows q r goes)

    -- in words of the new slots
    as_new : (j : ℕ) (since : List Row) (y : OwnSlot) → IsSlotSo t r since own.kind (own.first + j) y → IsSlotSo t r since new.kind (new.first + j) y
    as_new j since y so = subst (λ (k : RecordKind). IsSlotSo t r since k (new.first + j) y) (sym kind) (subst (λ n. IsSlotSo t r since own.kind (n + j) y) (sym first) so)

    turned_at : (j : ℕ) (y : OwnSlot) → j < i + 1 → slice_get new.slots.items j ≡ Some y → (j < i → slice_get own.slots.items j ≡ Some y → IsSlotSo t q q.known own.kind (own.first + j) y) → Dec (j ≡ i) → IsSlotSo t r r.known own.kind (own.first + j) y
    turned_at j y to there so (yes e) = subst (λ k. IsSlotSo t r r.known own.kind (own.first + k) y) (sym e) (subst (λ (z : OwnSlot). IsSlotSo t r r.known own.kind (own.first + i) z) (sym (set_at own.slots.items i x y (ap (λ (l : List OwnSlot). slice_get l i) (sym is) ∙ ap (slice_get new.slots.items) (sym e) ∙ there))) knows.so)
    turned_at j y to there so (no d) = beside q.known r.known known_more j y d there (so (omega (arith, to, d)))

    -- one slot more
    pub one_turned : TurnsTo t old own i p q → TurnsTo t old new (i + 1) p r
    one_turned z = record {
      rests = rests_on p.memory q.memory r.memory z.rests knows.keeps.rests;
      spares = spares_on t (IsRecordOfKind old.kind) p.memory q.memory r.memory z.spares (spares_more t (λ k. k ≡ record_numbered own.kind (own.first + i)) (IsRecordOfKind old.kind) q.memory r.memory
          (λ k e. subst (IsRecordOfKind old.kind) (sym e) (subst (λ (l : RecordKind). IsRecordOfKind old.kind (record_numbered l (own.first + i))) (sym is_old) (is_of_kind old.kind (own.first + i)))) knows.keeps.others);
      turned = λ since book ended j y from to there. as_new j r.known y (turned_at j y to there (λ less. z.turned since book ended j y from less) (ℕ_discrete j i));
      waits = λ since book ended j y from to there. as_new j since y (beside since since (ends_self (history_of q.planting since)) j y (λ e. omega (arith, from, e)) there (z.waits since book ended j y (omega (arith, from)) to));
    }

  -- all
  pub all_turned : (own : OwnSlots) (i : ℕ) (p q : SeatedPass) (since : List Row) → AreSameSlots old own → i ≡ length old.slots.items → q.number ≡ p.number → q.planting ≡ p.planting → IsBook t p since old → HasPeriodEnded t p since → TurnsTo t old own i p q → HasTurnedBook t own p q
  all_turned own i p q since same all number planting book ended z = record {
    rests = z.rests;
    book = record {
      all = own_on t p q old own same number (dealt_same own.kind) book.all;
      slots = λ j x from to there. z.turned since book ended j x from (subst (λ n. j < n) (same.count ∙ sym all) to) there;
    };
    others = λ other before apart. other_book t p q number planting own.kind (subst (λ (k : RecordKind). SparesOthers t (IsRecordOfKind k) p.memory q.memory) (sym same.kind) z.spares) other before apart (dealt_same other.kind);
  }
    where
      dealt_same : (k : RecordKind) → dealt_of k q.memory ≡ dealt_of k p.memory
      dealt_same Node = z.rests.nodes_to
      dealt_same Scx = z.rests.scx_to

-- What is lost

-- in this list no slot is lost that was not
abbrev LostThere : OwnSlots → List OwnSlot → Type 0
LostThere old items = (j : ℕ) (y : OwnSlot) → slice_get items j ≡ Some y → y.known ≡ Lost → slice_get old.slots.items j ≡ Some y

-- so it is where one slot is set to what is not lost, or is as it was
pub lost_set : (old own : OwnSlots) (i : ℕ) (x : OwnSlot) → (x.known ≡ Lost → slice_get own.slots.items i ≡ Some x) → LosesNoMore old own → LostThere old (set own.slots.items i x)
lost_set old own i x at before j y there lost = before j y (go (ℕ_discrete j i)) lost
  where
    go : Dec (j ≡ i) → slice_get own.slots.items j ≡ Some y
    go (yes e) =
        let same : y ≡ x = set_at own.slots.items i x y (ap (slice_get (set own.slots.items i x)) (sym e) ∙ there) in
        ap (slice_get own.slots.items) e ∙ at (ap (λ (z : OwnSlot). z.known) (sym same) ∙ lost) ∙ ap Some (sym same)
    go (no d) = sym (set_beside own.slots.items i j x d) ∙ there

pub lost_put : (old : OwnSlots) (i : ℕ) (x : OwnSlot) → x.known ≢ Lost → LostThere old (set old.slots.items i x)
lost_put old i x other = lost_set old old i x (λ e. absurd (other e)) (λ j y there lost. there)

-- what was lost by the last rest was so in words of the pass that it is now
module _ (p q : SeatedPass) (layout : q.layout ≡ p.layout) (number : q.number ≡ p.number) (one two : History) (same : two ≡ one) where
  pub lost_as : (kind now : RecordKind) (name : ℕ) → now ≡ kind → IsLostBy p.layout p.number.0 one kind name → IsLostBy q.layout q.number.0 two now name
  lost_as kind now name is x =
      subst (λ (l : Layout). IsLostBy l q.number.0 two now name) (sym layout)
      (subst (λ (k : PassNo). IsLostBy p.layout k.0 two now name) (sym number)
      (subst (λ h. IsLostBy p.layout p.number.0 h now name) (sym same)
      (subst (λ (k : RecordKind). IsLostBy p.layout p.number.0 one k name) (sym is) x)))

  pub all_lost_as : (own : OwnSlots) → AreLostBy p.layout p.number.0 one own → AreLostBy q.layout q.number.0 two own
  all_lost_as own x i y there lost = lost_as own.kind own.kind y.name refl (x i y there lost)

-- the moment of the last rest
pub rest_as : (p q : SeatedPass) → q.planting ≡ p.planting → q.memory.rested ≡ p.memory.rested → history_of q.planting q.memory.rested ≡ history_of p.planting p.memory.rested
rest_as p q planting rested = (λ i. history_of (planting i) (rested i))

-- All slots

-- what is known by a moment is known by one behind it
pub book_later : (t : Lasting) (p : SeatedPass) (since later : List Row) (own : OwnSlots) → Extends (history_of p.planting later) (history_of p.planting since) → IsBook t p since own → IsBook t p later own
book_later t p since later own on book = record {
  all = book.all;
  slots = λ i x from to there. known_later t p.planting p.number.0 p.memory since later on own.kind (own.first + i) x.name x.known (book.slots i x from to there);
}

-- so it has taken what its share gave
pub taken_by_share : (allows : Layout → History → ℕ → Type 0) (p : SeatedPass) (left : Remaining) (kind : RecordKind) → HasShareLeft allows p left → HasTakenBelow p kind (next_of kind left)
taken_by_share allows p left Node has n own less = has.share.taken_nodes n own less
taken_by_share allows p left Scx has n own less = has.share.taken_scx n own less
