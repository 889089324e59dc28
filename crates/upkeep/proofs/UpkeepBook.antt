-- What a pass knows of its slots stays so while it does something with another slot.
use Rattle.std.proofs.Common.{◌≡◌, ◌≢◌, ℕ, Bool, true, false, eqb-true, List, [], ◌∷◌, if◌then◌else◌, inl, inr, refl, sym, ◌∙◌, ap, subst}
use Rattle.histories.specs.Common.{Row, Extends, Word}
use Rattle.arena.proofs.Lemmas.{ends_trans}
use Rattle.planting.specs.Plantings.{PlantingView}
use Rattle.resting.specs.Records.{Record, the_node, the_scx}
use Rattle.slots.specs.Held.{same_record}
use Rattle.slots.specs.Lasting.{Lasting, slot_of}
use Rattle.tables.specs.LastingMemory.{record_at}
use Rattle.tables.specs.LastingNotes.{IsAmongThese}
use Rattle.tables.specs.LastingSlots.{memory_cleared, memory_let_go, of_others, slot_number}
use Rattle.tables.specs.TableRule.{history_of}
use Rattle.upkeep.specs.UpkeepBook.{IsKnownSo, IsNameIn, KeepsRests, SparesOthers, memory_with_note, name_numbered, record_numbered}
use Rattle.tables.specs.declared.memory.NoteView.{NoteView}
use Rattle.tables.specs.declared.memory.PassMemory.{PassMemory}
use Rattle.tables.specs.declared.memory.RecordNo.{RecordNo}
use Rattle.upkeep.specs.declared.book.SlotUse.{SlotUse}
use Rattle.upkeep.specs.declared.book.SlotUse.TheVariants.{Used, Found, Dying, Lost, Free}
use Rattle.upkeep.specs.declared.kind.RecordKind.{RecordKind}
use Rattle.tables.proofs.LastingSlots.{slot_number_is}

-- Lists

same_true : (x y : Record) → same_record x y ≡ true → x ≡ y
same_true (the_node n) (the_node m) e = ap the_node (eqb-true n m e)
same_true (the_scx s) (the_scx u) e = ap the_scx (eqb-true s u e)
same_true (the_node n) (the_scx s) e = absurd cc
same_true (the_scx s) (the_node n) e = absurd cc

-- what is of another record is among those that are
pub among_others : {A : Type 0} (of : A → Record) (x : Record) (a : A) (xs : List A) → IsAmongThese a xs → of a ≢ x → IsAmongThese a (of_others of x xs)
among_others of x a [] i d = absurd i
among_others of x a (y ∷ ys) i d = go (same_record (of y) x) refl i (λ j. among_others of x a ys j d)
  where
    go : (b : Bool) → same_record (of y) x ≡ b → IsAmongThese a (y ∷ ys) → (IsAmongThese a ys → IsAmongThese a (of_others of x ys)) → IsAmongThese a (if b then of_others of x ys else y ∷ of_others of x ys)
    go true e (inl q) rest = absurd (d (ap of q ∙ same_true (of y) x e))
    go true e (inr j) rest = rest j
    go false e (inl q) rest = inl q
    go false e (inr j) rest = inr (rest j)

-- Memories

pub rests_same : (m : PassMemory) → KeepsRests m m
rests_same m = record { rested = refl; away = refl; often = refl; polls = refl; nodes_to = refl; scx_to = refl }

pub rests_on : (a b c : PassMemory) → KeepsRests a b → KeepsRests b c → KeepsRests a c
rests_on a b c x y = record {
  rested = y.rested ∙ x.rested;
  away = y.away ∙ x.away;
  often = y.often ∙ x.often;
  polls = y.polls ∙ x.polls;
  nodes_to = y.nodes_to ∙ x.nodes_to;
  scx_to = y.scx_to ∙ x.scx_to;
}

pub spares_same : (t : Lasting) (Is : Record → Type 0) (m : PassMemory) → SparesOthers t Is m m
spares_same t Is m = record { notes = λ x i. i; holds = λ x i d. i; empty = λ x i d. i; zeros = λ w i d. i }

pub spares_on : (t : Lasting) (Is : Record → Type 0) (a b c : PassMemory) → SparesOthers t Is a b → SparesOthers t Is b c → SparesOthers t Is a c
spares_on t Is a b c x y = record {
  notes = λ n i. y.notes n (x.notes n i);
  holds = λ n i d. y.holds n (x.holds n i d) d;
  empty = λ n i d. y.empty n (x.empty n i d) d;
  zeros = λ w i d. y.zeros w (x.zeros w i d) d;
}

-- more are spared than these
pub spares_more : (t : Lasting) (Is More : Record → Type 0) (m n : PassMemory) → ((r : Record) → Is r → More r) → SparesOthers t Is m n → SparesOthers t More m n
spares_more t Is More m n to x = record {
  notes = x.notes;
  holds = λ y i d. x.holds y i (λ z. d (to _ z));
  empty = λ y i d. x.empty y i (λ z. d (to _ z));
  zeros = λ w i d. x.zeros w i (λ z. d (to _ z));
}

pub spares_note : (t : Lasting) (Is : Record → Type 0) (m : PassMemory) (name : RecordNo) (note : NoteView) → SparesOthers t Is m (memory_with_note m name note)
spares_note t Is m name note = record { notes = λ x i. inr i; holds = λ x i d. i; empty = λ x i d. i; zeros = λ w i d. i }

pub spares_let_go : (t : Lasting) (m : PassMemory) (name : RecordNo) (slot : Record) → slot_of t (record_at name) ≡ slot → SparesOthers t (λ r. r ≡ slot) m (memory_let_go t m name)
spares_let_go t m name slot is = record {
  notes = λ x i. i;
  holds = λ x i d. among_others record_at (record_at name) x m.holds i (λ e. d (ap (slot_of t) e ∙ is));
  empty = λ x i d. inr i;
  zeros = λ w i d. i;
}

pub spares_cleared : (t : Lasting) (Is : Record → Type 0) (m : PassMemory) (w : Word) → SparesOthers t Is m (memory_cleared m w)
spares_cleared t Is m w = record { notes = λ x i. i; holds = λ x i d. i; empty = λ x i d. i; zeros = λ u i d. inr i }

-- What is known of a slot

-- the slot that a name is in, as a record
pub slot_record : (t : Lasting) (kind : RecordKind) (slot name : ℕ) → slot_number t (name_numbered kind name) ≡ name_numbered kind slot → slot_of t (record_numbered kind name) ≡ record_numbered kind slot
slot_record t kind slot name is = sym (slot_number_is t (name_numbered kind name)) ∙ ap record_at is

module _ (t : Lasting) (planting : PlantingView) (o : ℕ) (m n : PassMemory) (Is : Record → Type 0) (spares : SparesOthers t Is m n) (since later : List Row) (on : Extends (history_of planting later) (history_of planting since)) (kind : RecordKind) (slot name : ℕ) (apart : ¬ Is (record_numbered kind slot)) where
  name_kept : IsNameIn t o m kind slot name → IsNameIn t o n kind slot name
  name_kept x = record {
    held = spares.holds (name_numbered kind name) x.held (λ e. apart (subst Is (slot_record t kind slot name x.slot_is) e));
    own = x.own;
    slot_is = x.slot_is;
  }

  -- it stays so while something is done with another slot
  pub known_kept : (known : SlotUse) → IsKnownSo t planting o m since kind slot name known → IsKnownSo t planting o n later kind slot name known
  known_kept Used x = name_kept x
  known_kept Found x = (name_kept x.0, let f = x.1 in record { rows = f.rows; noted = spares.notes _ f.noted; before = ends_trans _ _ _ on f.before })
  known_kept Dying x = (name_kept x.0, let f = x.1 in record { rows = f.rows; noted = spares.notes _ f.noted; before = ends_trans _ _ _ on f.before })
  known_kept Lost x = name_kept x
  known_kept Free x = record {
    empty = spares.empty (name_numbered kind slot) x.empty apart;
    zeros = λ w i e. spares.zeros w (x.zeros w i e) (λ q. apart (subst Is e q));
  }
