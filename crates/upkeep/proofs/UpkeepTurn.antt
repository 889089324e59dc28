-- How what is known of a slot goes on once a period has ended.
use Rattle.std.proofs.Common.{◌≡◌, ◌<◌, ◌+◌, ℕ, List, [], ◌∷◌, inl, inr, refl, sym, ◌∙◌, ap, subst, arith}
use native.Mathlib.Decide.{ℕ_discrete}
use Rattle.histories.specs.Common.{Layout, Row, History, Extends, IsWord, Word}
use Rattle.arena.proofs.Lemmas.{ends_self, ends_trans}
use Rattle.arena.specs.Words.{offset}
use Rattle.arena.specs.declared.number.PassNo.{PassNo}
use Rattle.planting.specs.Plantings.{PlantingView}
use Rattle.resting.specs.Records.{Record, record_of}
use Rattle.slots.specs.Lasting.{IsTaken, Lasting}
use Rattle.tables.specs.LastingNotes.{IsAmongThese, IsUnneeded, noted_as, rested_poll}
use Rattle.tables.specs.LastingSlots.{memory_cleared, memory_let_go}
use Rattle.tables.specs.TableRule.{history_of, past_of}
use Rattle.upkeep.specs.UpkeepBook.{HasPeriodEnded, HasFreed, IsKnownSo, IsLostBy, IsNameIn, IsSlotSo, KeepsOthers, KeepsRests, KnowsNow, NowRemembers, memory_with_note, name_numbered, record_numbered}
use Rattle.upkeep.specs.UpkeepSteps.{HasGoneOnResting, RestsOn}
use Rattle.tables.specs.declared.memory.NoteView.{NoteView}
use Rattle.tables.specs.declared.memory.NoteView.TheVariants.{DeadBy, MarkedOrDead, OutOfReach}
use Rattle.tables.specs.declared.memory.PassMemory.{PassMemory}
use Rattle.upkeep.specs.declared.book.SlotUse.{SlotUse}
use Rattle.upkeep.specs.declared.book.SlotUse.TheVariants.{Used, Found, Dying, Lost, Free}
use Rattle.upkeep.specs.declared.book.OwnSlot.{OwnSlot}
use Rattle.upkeep.specs.declared.kind.RecordKind.{RecordKind}
use Rattle.upkeep.specs.declared.kind.RecordKind.TheVariants.{Node, Scx}
use Rattle.tables.specs.declared.view.SeatedPass.{SeatedPass}
use Rattle.tables.specs.declared.view.SeatView.{SeatView}
use Rattle.tables.proofs.LastingSlots.{taken_since}
use Rattle.tables.proofs.Ruled.{same_pass}
use Rattle.upkeep.proofs.UpkeepBook.{rests_on, rests_same, slot_record, spares_cleared, spares_let_go, spares_note, spares_on, spares_same}
use Rattle.upkeep.proofs.UpkeepSteps.{knows_more}

-- Passes

module _ (allows : Layout → History → ℕ → Type 0) where
  -- what is so of the one pass of a seat, is so of p if it is that
  pub from_pass : (so : SeatedPass → SeatedPass → Type 0) (v w : SeatView) (p : SeatedPass) → v.passes ≡ p ∷ [] → (x : RestsOn allows so v w) → HasGoneOnResting allows p x.later × so p x.later
  from_pass so v w p one x = subst (λ (k : SeatedPass). HasGoneOnResting allows k x.later × so k x.later) (same_pass v.passes p x.pass one x.was) (x.goes_on, x.holds)

  module _ (p q : SeatedPass) (goes : HasGoneOnResting allows p q) where
    -- the run goes on
    pub known_on : Extends (past_of q []) (past_of p [])
    known_on = subst (λ (l : PlantingView). Extends (past_of q []) (history_of l p.known)) goes.planting (knows_more allows p q goes)

    pub still_taken : (x : Record) → IsTaken (past_of p []) x → IsTaken (past_of q []) x
    still_taken x taken = taken_since (past_of q []) (past_of p []) x known_on taken

    -- a name is in its slot as long as it is held there
    pub name_stays : (t : Lasting) (kind : RecordKind) (slot name : ℕ) → q.memory.holds ≡ p.memory.holds → IsNameIn t p.number.0 p.memory kind slot name → IsNameIn t q.number.0 q.memory kind slot name
    name_stays t kind slot name same x = subst (λ (k : PassNo). IsNameIn t k.0 q.memory kind slot name) (sym goes.number)
        record { held = subst (λ l. IsAmongThese (name_numbered kind name) l) (sym same) x.held; own = x.own; slot_is = x.slot_is }

    -- a period that has ended, still has
    pub ended_on : (t : Lasting) (since : List Row) → KeepsRests p.memory q.memory → HasPeriodEnded t p since → HasPeriodEnded t q since
    ended_on t since rests x = record {
      seen = record {
        there = rests.away ∙ x.seen.there;
        own = subst (λ (l : PlantingView). Extends (history_of l q.memory.rested) (history_of l since)) (sym goes.planting) (subst (λ rows. Extends (history_of p.planting rows) (history_of p.planting since)) (sym rests.rested) x.seen.own);
        others = λ k i d. let y = x.seen.others k i (λ e. d (e ∙ ap (λ (n : PassNo). n.0) (sym goes.number))) in (y.0, subst (λ l. IsAmongThese (rested_poll k y.0) l) (sym rests.polls) y.1, subst (λ (l : PlantingView). Extends (history_of l y.0) (history_of l since)) (sym goes.planting) y.2);
      };
      known = ends_trans _ _ _ known_on (subst (λ (l : PlantingView). Extends (past_of p []) (history_of l since)) (sym goes.planting) x.known);
    }

-- what is known of a slot is known later
pub known_later : (t : Lasting) (planting : PlantingView) (o : ℕ) (m : PassMemory) (since later : List Row) → Extends (history_of planting later) (history_of planting since) → (kind : RecordKind) (slot name : ℕ) (known : SlotUse) → IsKnownSo t planting o m since kind slot name known → IsKnownSo t planting o m later kind slot name known
known_later t planting o m since later on kind slot name Used x = x
known_later t planting o m since later on kind slot name Found x = (x.0, let f = x.1 in record { rows = f.rows; noted = f.noted; before = ends_trans _ _ _ on f.before })
known_later t planting o m since later on kind slot name Dying x = (x.0, let f = x.1 in record { rows = f.rows; noted = f.noted; before = ends_trans _ _ _ on f.before })
known_later t planting o m since later on kind slot name Lost x = x
known_later t planting o m since later on kind slot name Free x = x

-- what is lost is of no use any more
pub lost_unneeded : (lay : Layout) (o : ℕ) (rest : History) (kind : RecordKind) (name : ℕ) → IsLostBy lay o rest kind name → IsUnneeded lay o (record_numbered kind name) rest
lost_unneeded lay o rest Node name x = x
lost_unneeded lay o rest Scx name x = absurd x

-- One slot

module _ (t : Lasting) (kind : RecordKind) (slot : ℕ) where
  -- if nothing is done with it
  pub nothing_done : (p : SeatedPass) (since : List Row) (x : OwnSlot) → HasPeriodEnded t p since → IsSlotSo t p since kind slot x → KnowsNow t kind slot x p p
  nothing_done p since x ended so = record {
    keeps = record { rests = rests_same p.memory; others = spares_same t (λ r. r ≡ record_numbered kind slot) p.memory };
    so = known_later t p.planting p.number.0 p.memory since p.known ended.known kind slot x.name x.known so;
  }

  -- if it is in use, and not looked at
  pub used_still : (p : SeatedPass) (name : ℕ) → IsNameIn t p.number.0 p.memory kind slot name → KnowsNow t kind slot record { name = name; known = Used } p p
  used_still p name x = record { keeps = record { rests = rests_same p.memory; others = spares_same t (λ r. r ≡ record_numbered kind slot) p.memory }; so = x }

  module _ (allows : Layout → History → ℕ → Type 0) (p q : SeatedPass) (goes : HasGoneOnResting allows p q) (name : ℕ) (x : IsNameIn t p.number.0 p.memory kind slot name) where
    -- if it was looked at, and is not marked
    pub unmarked_now : NowRemembers (λ m rows. m) p q → KnowsNow t kind slot record { name = name; known = Used } p q
    unmarked_now e = record {
      keeps = subst (λ (m : PassMemory). KeepsOthers t (record_numbered kind slot) p record q { memory = m }) (sym e) record { rests = rests_same p.memory; others = spares_same t (λ r. r ≡ record_numbered kind slot) p.memory };
      so = name_stays allows p q goes t kind slot name (ap (λ (m : PassMemory). m.holds) e) x;
    }

    keeps_noted : (note : NoteView) → q.memory ≡ memory_with_note p.memory (name_numbered kind name) note → KeepsOthers t (record_numbered kind slot) p q
    keeps_noted note e = subst (λ (m : PassMemory). KeepsOthers t (record_numbered kind slot) p record q { memory = m }) (sym e)
        record { rests = record { rested = refl; away = refl; often = refl; polls = refl; nodes_to = refl; scx_to = refl }; others = spares_note t (λ r. r ≡ record_numbered kind slot) p.memory (name_numbered kind name) note }

    now_noted : (note : NoteView) → q.memory ≡ memory_with_note p.memory (name_numbered kind name) note → IsAmongThese (noted_as (name_numbered kind name) note) q.memory.notes
    now_noted note e = subst (λ (m : PassMemory). IsAmongThese (noted_as (name_numbered kind name) note) m.notes) (sym e) (inl refl)

    still_name : (note : NoteView) → q.memory ≡ memory_with_note p.memory (name_numbered kind name) note → IsNameIn t q.number.0 q.memory kind slot name
    still_name note e = name_stays allows p q goes t kind slot name (ap (λ (m : PassMemory). m.holds) e) x

    -- if it is marked
    pub marked_now : NowRemembers (λ m rows. memory_with_note m (name_numbered kind name) (MarkedOrDead rows)) p q → KnowsNow t kind slot record { name = name; known = Found } p q
    marked_now e = record {
      keeps = keeps_noted (MarkedOrDead q.known) e;
      so = (still_name (MarkedOrDead q.known) e, record { rows = q.known; noted = now_noted (MarkedOrDead q.known) e; before = ends_self (past_of q []) });
    }

    -- if it was found
    pub dying_now : NowRemembers (λ m rows. memory_with_note m (name_numbered kind name) (DeadBy rows)) p q → KnowsNow t kind slot record { name = name; known = Dying } p q
    dying_now e = record {
      keeps = keeps_noted (DeadBy q.known) e;
      so = (still_name (DeadBy q.known) e, record { rows = q.known; noted = now_noted (DeadBy q.known) e; before = ends_self (past_of q []) });
    }

    -- if it was dying, it can be let go
    pub gone_now : NowRemembers (λ m rows. memory_with_note m (name_numbered kind name) OutOfReach) p q → IsNameIn t q.number.0 q.memory kind slot name × IsAmongThese (noted_as (name_numbered kind name) OutOfReach) q.memory.notes × KeepsOthers t (record_numbered kind slot) p q
    gone_now e = (still_name OutOfReach e, now_noted OutOfReach e, keeps_noted OutOfReach e)

    -- if it was let go, it is empty
    pub empty_now : NowRemembers (λ m rows. memory_let_go t m (name_numbered kind name)) p q → IsAmongThese (name_numbered kind slot) q.memory.empty × KeepsOthers t (record_numbered kind slot) p q
    empty_now e = (
      subst (λ (m : PassMemory). IsAmongThese (name_numbered kind slot) m.empty) (sym e) (inl (sym x.slot_is)),
      subst (λ (m : PassMemory). KeepsOthers t (record_numbered kind slot) p record q { memory = m }) (sym e)
          record { rests = record { rested = refl; away = refl; often = refl; polls = refl; nodes_to = refl; scx_to = refl }; others = spares_let_go t p.memory (name_numbered kind name) (record_numbered kind slot) (slot_record t kind slot name x.slot_is) },
    )

-- what is so of the one pass of a seat, is so of p if it is that
pub known_as : (allows : Layout → History → ℕ → Type 0) (one two : SeatedPass → SeatedPass → Type 0) (v w : SeatView) (p : SeatedPass) → v.passes ≡ p ∷ [] → ((q : SeatedPass) → HasGoneOnResting allows p q → one p q → two p q) → RestsOn allows one v w → RestsOn allows two v w
known_as allows one two v w p alone to x = let y = from_pass allows one v w p alone x in record { pass = p; later = x.later; was = alone; is = x.is; goes_on = y.0; holds = to x.later y.0 y.1 }

-- what a look tells, is known of the slot
pub as_known : (allows : Layout → History → ℕ → Type 0) (t : Lasting) (kind : RecordKind) (slot : ℕ) (x : OwnSlot) (v w : SeatView) (so : SeatedPass → SeatedPass → Type 0) (p : SeatedPass) → v.passes ≡ p ∷ [] → ((q : SeatedPass) → HasGoneOnResting allows p q → so p q → KnowsNow t kind slot x p q) → RestsOn allows so v w → RestsOn allows (KnowsNow t kind slot x) v w
as_known allows t kind slot x v w so p one to y = let on = from_pass allows so v w p one y in record { pass = p; later = y.later; was = one; is = y.is; goes_on = on.0; holds = to y.later on.0 on.1 }

module _ (t : Lasting) (kind : RecordKind) (slot : ℕ) where
  pub keeps_on : (p q r : SeatedPass) → KeepsOthers t (record_numbered kind slot) p q → KeepsOthers t (record_numbered kind slot) q r → KeepsOthers t (record_numbered kind slot) p r
  keeps_on p q r x y = record { rests = rests_on p.memory q.memory r.memory x.rests y.rests; others = spares_on t (λ r. r ≡ record_numbered kind slot) p.memory q.memory r.memory x.others y.others }

  -- it was let go, and is clean
  pub freed_on : (p q r : SeatedPass) → KeepsOthers t (record_numbered kind slot) p q → HasFreed t kind slot q r → HasFreed t kind slot p r
  freed_on p q r x y = record { keeps = keeps_on p q r x y.keeps; clean = y.clean }

  -- Words of it are 0

  -- so are those that are before this place
  pub record IsClearedTo (place : ℕ) (p q : SeatedPass) : Type 0 where
    pub keeps : KeepsOthers t (record_numbered kind slot) p q
    pub empty : IsAmongThese (name_numbered kind slot) q.memory.empty
    pub zeros : (w : Word) → IsWord t.table w → record_of w ≡ record_numbered kind slot → offset w < place → IsAmongThese w q.memory.zeros

  pub none_cleared : (p : SeatedPass) → IsAmongThese (name_numbered kind slot) p.memory.empty → IsClearedTo 0 p p
  none_cleared p empty = record {
    keeps = record { rests = rests_same p.memory; others = spares_same t (λ r. r ≡ record_numbered kind slot) p.memory };
    empty = empty;
    zeros = λ w i e less. absurd (omega (arith, less));
  }

  pub one_cleared : (place : ℕ) (p q r : SeatedPass) (word : Word) → ((other : Word) → IsWord t.table other → record_of other ≡ record_numbered kind slot → offset other ≡ place → other ≡ word) → IsClearedTo place p q → NowRemembers (λ m rows. memory_cleared m word) q r → IsClearedTo (place + 1) p r
  one_cleared place p q r word only x e = subst (λ (m : PassMemory). IsClearedTo (place + 1) p record r { memory = m }) (sym e) record {
    keeps = keeps_on p q record r { memory = memory_cleared q.memory word } x.keeps record { rests = record { rested = refl; away = refl; often = refl; polls = refl; nodes_to = refl; scx_to = refl }; others = spares_cleared t (λ r. r ≡ record_numbered kind slot) q.memory word };
    empty = x.empty;
    zeros = λ w i same less. go w i same less (ℕ_discrete (offset w) place);
  }
    where
      go : (w : Word) → IsWord t.table w → record_of w ≡ record_numbered kind slot → offset w < place + 1 → Dec (offset w ≡ place) → IsAmongThese w (word ∷ q.memory.zeros)
      go w i same less (yes at) = inl (only w i same at)
      go w i same less (no d) = inr (x.zeros w i same (omega (arith, less, d)))

  pub all_cleared : (count : ℕ) → ((w : Word) → record_of w ≡ record_numbered kind slot → IsWord t.table w → offset w < count) → (p q : SeatedPass) → IsClearedTo count p q → HasFreed t kind slot p q
  all_cleared count few p q x = record { keeps = x.keeps; clean = record { empty = x.empty; zeros = λ w i same. x.zeros w i same (few w same i) } }
