-- To let a slot go, and to store 0 in one that holds nothing, keep the rule of a table that lasts.
use Rattle.std.proofs.Common.{◌≡◌, ◌≢◌, ◌<◌, ◌⊎◌, ℕ, suc, Bool, true, false, true≢false, eq-eqb, List, [], ◌∷◌, Some, None, if◌then◌else◌, slice_index, slice_set, inl, inr, ⊎_elim, refl, sym, ◌∙◌, ap, subst, arith}
use Rattle.std.proofs.lemmas.List.{get_or-set_same, get_or-set_other}
use mathlib.Core.Option.{some}
use lib.ListN.{get_elem?}
use native.Mathlib.Decide.{ℕ_discrete}
use Rattle.atomic_table.specs.Table.{Me, Allows, keeps, State}
use Rattle.histories.specs.Common.{Extends, History, IsWord, Layout, Remaining, Word, place, IsTakenNode}
use Rattle.arena.proofs.Lemmas.{ends_self}
use Rattle.histories.proofs.Lemmas.{one_node_owner, one_scx_owner}
use Rattle.planting.specs.Plantings.{PlantingView}
use Rattle.prims.specs.Shares.{IsShare}
use Rattle.touching.proofs.Lemmas.{taken_scx_since}
use Rattle.resting.specs.Records.{Record, record_of, the_node, the_scx}
use Rattle.resting.specs.Reach.{IsOutOfReach}
use Rattle.resting.proofs.Lemmas.{taken_node_since}
use Rattle.slots.specs.Counts.{CountsRests}
use Rattle.slots.specs.Held.{Held, IsHeld, same_record, with_slot}
use Rattle.slots.specs.Lasting.{IsFirstRecord, IsOwnRecord, IsTaken, IsUntaken, Lasting, slot_of}
use Rattle.slots.specs.Window.{IsWindow}
use Rattle.slots.proofs.Lemmas.{cleans, counts_stores, lets_go, place_inside, record_discrete, with_other, with_same}
use Rattle.tables.specs.Passes.{Each}
use Rattle.tables.specs.TableRule.{history_of, past_of, seat_view}
use Rattle.tables.specs.LastingMemory.{AreHeldOrGone, IsDealt, IsEmptySlot, IsGoneRecord, IsHeldName, IsNoteSo, IsOutForGood, IsZeroWord, Present, RemembersNames, RemembersWell, StaysUnborn, present, record_at}
use Rattle.tables.specs.LastingNotes.{IsAmongThese, noted_as}
use Rattle.tables.specs.LastingRule.{LearnsWith, TableLasts}
use Rattle.tables.specs.LastingSlots.{IsLastDealt, IsNotBefore, memory_cleared, memory_given_back, memory_let_go, memory_without, of_others, slot_number}
use Rattle.tables.specs.declared.view.SeatView.{SeatView}
use Rattle.tables.specs.declared.memory.PassMemory.{PassMemory}
use Rattle.tables.specs.declared.memory.NoteView.TheVariants.{OutOfReach}
use Rattle.tables.specs.declared.memory.RecordNo.{RecordNo}
use Rattle.tables.specs.declared.memory.RecordNo.TheVariants.{Node, Scx}
use Rattle.tables.specs.declared.rule.Plot.{Plot}
use Rattle.tables.specs.declared.view.SeatedPass.{SeatedPass}
use Rattle.tables.proofs.LastingKept.{Later, Spares, each_kept, note_kept, poll_kept}
use Rattle.tables.proofs.LastingGhosts.{as_loaded, goes_on, in_each, later_moments, moments_stay, seen_by}
use Rattle.tables.proofs.LastingSeats.{aware, behind_known, learnt, now, own, share_now, well}

-- Records

pub own_not_first : (lay : Layout) (o : ℕ) (x : Record) → IsOwnRecord lay o x → ¬ IsFirstRecord lay x
own_not_first lay o (the_node n) own first = let from = own.from in omega (arith, from, first)
own_not_first lay o (the_scx s) own first = let from = own.from in omega (arith, from, first)

pub one_record_owner : (lay : Layout) (c d : ℕ) (x : Record) → IsOwnRecord lay c x → IsOwnRecord lay d x → c ≡ d
one_record_owner lay c d (the_node n) a b = one_node_owner lay c d n a b
one_record_owner lay c d (the_scx s) a b = one_scx_owner lay c d s a b

pub slot_number_is : (t : Lasting) (name : RecordNo) → record_at (slot_number t name) ≡ slot_of t (record_at name)
slot_number_is t (Node n) = refl
slot_number_is t (Scx s) = refl

not_taken : (lay : Layout) (h : History) (x : Record) → IsUntaken lay h x → IsTaken h x → ⊥
not_taken lay h (the_node n) free taken = free.1 taken
not_taken lay h (the_scx s) free taken = free.1 taken

pub taken_since : (h m : History) (x : Record) → Extends h m → IsTaken m x → IsTaken h x
taken_since h m (the_node n) e taken = taken_node_since h m n e taken
taken_since h m (the_scx s) e taken = taken_scx_since h m s e taken

pub same_self : (x : Record) → same_record x x ≡ true
same_self (the_node n) = eq-eqb n n refl
same_self (the_scx s) = eq-eqb s s refl

-- what is so of each, is so of those that are of other records, or becomes so
pub each_of_others : {A : Type 0} (of : A → Record) (P Q : A → Type 0) (x : Record) → ((a : A) → ¬ (of a ≡ x) → P a → Q a) → (xs : List A) → Each P xs → Each Q (of_others of x xs)
each_of_others of P Q x f [] y = tt
each_of_others of P Q x f (a ∷ xs) y = go (same_record (of a) x) refl (each_of_others of P Q x f xs y.1)
  where
    go : (b : Bool) → same_record (of a) x ≡ b → Each Q (of_others of x xs) → Each Q (if b then of_others of x xs else a ∷ of_others of x xs)
    go true e z = z
    go false e z = (f a (λ is. true≢false (sym (same_self x) ∙ ap (λ k. same_record k x) (sym is) ∙ e)) y.0, z)

-- as many are dealt as before
same_dealt : (t : Lasting) (m : PassMemory) (name : RecordNo) (y : Record) → IsDealt (memory_let_go t m name) y → IsDealt m y
same_dealt t m name (the_node n) d = d
same_dealt t m name (the_scx s) d = d

dealt_same : (t : Lasting) (m : PassMemory) (name : RecordNo) (y : Record) → IsDealt m y → IsDealt (memory_let_go t m name) y
dealt_same t m name (the_node n) d = d
dealt_same t m name (the_scx s) d = d

-- a number that is not below the last one of these, is that one or none of them
last_or_behind : (last j to : ℕ) → to ≡ suc last → ¬ (j < last) → (j ≡ last) ⊎ (¬ (j < to))
last_or_behind last j to e d = go (ℕ_discrete j last)
  where
    go : Dec (j ≡ last) → (j ≡ last) ⊎ (¬ (j < to))
    go (yes q) = inl q
    go (no q) = inr (λ z. d (omega (arith, z, e, q)))

-- what is not before what is left of a share, nobody has taken
pub left_untaken : (lay : Layout) (h : History) (o : ℕ) (left : Remaining) (x : Record) → IsOwnRecord lay o x → IsNotBefore left x → IsShare lay h o left left.next_node left.next_scx → IsUntaken lay h x
left_untaken lay h o left (the_node n) own is_left share = ((let a = own.from in omega (arith, a)), share.untaken_nodes n own is_left)
left_untaken lay h o left (the_scx s) own is_left share = ((λ e. let a = own.from in omega (arith, a, e)), share.untaken s own is_left)

-- What slots hold once one of them holds nothing

module _ (t : Lasting) (held : Held) (x : Record) (is : IsHeld t held x) where
  still_held : (y : Record) → ¬ (y ≡ x) → IsHeld t held y → IsHeld t (with_slot held (slot_of t x) None) y
  still_held y d z = with_other held (slot_of t x) (slot_of t y) None (λ e. d (let q : Some y ≡ Some x = sym z ∙ ap held e ∙ is in cc)) ∙ z

  never_held : (y : Record) → ¬ IsHeld t held y → ¬ IsHeld t (with_slot held (slot_of t x) None) y
  never_held y d z = go (record_discrete (slot_of t y) (slot_of t x))
    where
      go : Dec (slot_of t y ≡ slot_of t x) → ⊥
      go (yes e) = let q : None ≡ Some y = sym (with_same held (slot_of t x) None) ∙ ap (with_slot held (slot_of t x) None) (sym e) ∙ z in cc
      go (no e) = d (sym (with_other held (slot_of t x) (slot_of t y) None e) ∙ z)

  still_none : (s : Record) → held s ≡ None → with_slot held (slot_of t x) None s ≡ None
  still_none s none = go (record_discrete s (slot_of t x))
    where
      go : Dec (s ≡ slot_of t x) → with_slot held (slot_of t x) None s ≡ None
      go (yes e) = ap (with_slot held (slot_of t x) None) e ∙ with_same held (slot_of t x) None
      go (no d) = with_other held (slot_of t x) s None d ∙ none

-- The slot of the name x, which is held, holds nothing from now on; names up to these two are
-- dealt.
module _ (allows : Layout → History → ℕ → Type 0) (t : Lasting) (planting : PlantingView) (stays : StaysUnborn t.lay) (s : State ℕ SeatView) (kept : TableLasts allows t planting s) (id : ℕ) (v : SeatView) (fits : get_elem? s.views id ≡ some v) (p : SeatedPass) (one : v.passes ≡ p ∷ []) (at : ℕ) (name : RecordNo) (nodes_to scx_to : ℕ)
    (mine : IsHeldName t p.number.0 (now allows t planting s kept id v fits p one) name)
    (reason : IsUntaken t.lay (history_of planting kept.run.rows) (record_at name) ⊎ IsOutOfReach t.lay (history_of planting kept.run.rows) kept.run.last (record_at name))
    (gone_then : (n : ℕ) → IsTakenNode (history_of planting kept.run.rows) n → the_node n ≡ record_at name → IsOutForGood t.lay (history_of planting kept.run.rows) kept.run.last n)
    (dealt_then : (y : Record) → IsOwnRecord t.lay p.number.0 y → IsDealt (memory_without t p.memory name nodes_to scx_to) y → IsUntaken t.lay (history_of planting kept.run.rows) y → (¬ (y ≡ record_at name)) × IsDealt p.memory y)
    (undealt_then : (y : Record) → ¬ IsDealt (memory_without t p.memory name nodes_to scx_to) y → (y ≡ record_at name) ⊎ (¬ IsDealt p.memory y)) where
  abbrev o : ℕ
  o = p.number.0

  abbrev x : Record
  x = record_at name

  abbrev h : History
  h = history_of planting kept.run.rows

  abbrev before : Present
  before = now allows t planting s kept id v fits p one

  recalls : RemembersWell t planting before p.number.0 p.memory
  recalls = well allows t planting s kept id v fits p one

  abbrev held : Held
  held = with_slot kept.run.held (slot_of t (record_at name)) None

  window : IsWindow t s.words h kept.run.last held
  window = lets_go t s.words h kept.run.last kept.run.held kept.run.window x mine.1 (own_not_first t.lay o x mine.0.0) reason

  abbrev there : Present
  there = present s.words h kept.run.last held kept.run.tally

  later : Later t before there
  later = later_moments t before kept.run.last held (moments_stay t h kept.run.last kept.run.window.rested) window

  gone : AreHeldOrGone t there
  gone n z = go (record_discrete (the_node n) x) (kept.run.gone n z)
    where
      go : Dec (the_node n ≡ x) → IsHeld t kept.run.held (the_node n) ⊎ IsOutForGood t.lay h kept.run.last n → IsHeld t held (the_node n) ⊎ IsOutForGood t.lay h kept.run.last n
      go d (inr g) = inr g
      go (yes e) (inl is) = inr (gone_then n z e)
      go (no d) (inl is) = inl (still_held t kept.run.held x mine.1 (the_node n) d is)

  empty_kept : (q : ℕ) (k : RecordNo) → IsEmptySlot t q before k → IsEmptySlot t q there k
  empty_kept q k e = (e.0, still_none t kept.run.held x mine.1 (record_at k) e.1)

  zeros_kept : (q : ℕ) (u : Word) → IsZeroWord t q before u → IsZeroWord t q there u
  zeros_kept q u e = record { is_word = e.is_word; own = e.own; none = still_none t kept.run.held x mine.1 (record_of u) e.none; zero = e.zero }

  not_itself : ¬ IsHeld t held x
  not_itself is = let q : None ≡ Some x = sym (with_same kept.run.held (slot_of t x) None) ∙ is in cc

  names : RemembersNames t planting there o (memory_without t p.memory name nodes_to scx_to)
  names = record {
    dealt = λ y its_own d free. let k = dealt_then y its_own d free in still_held t kept.run.held x mine.1 y k.0 (recalls.names.dealt y its_own k.1 free);
    later = λ y its_own d is. ⊎_elim (λ e. not_itself (subst (IsHeld t held) e is)) (λ k. never_held t kept.run.held x mine.1 y (recalls.names.later y its_own k) is) (undealt_then y d);
    notes = each_kept _ _ (λ n. note_kept t planting before there later stays o (record_at n.name) n.note) p.memory.notes recalls.names.notes;
    polls = each_kept _ _ (poll_kept t planting before there later stays) p.memory.polls recalls.names.polls;
    holds = each_of_others record_at (IsHeldName t o before) (IsHeldName t o there) x (λ n d e. (e.0, still_held t kept.run.held x mine.1 (record_at n) d e.1)) p.memory.holds recalls.names.holds;
    empty = ((subst (IsOwnRecord t.table o) (sym (slot_number_is t name)) mine.0.1, ap held (slot_number_is t name) ∙ with_same kept.run.held (slot_of t x) None), each_kept _ _ (empty_kept o) p.memory.empty recalls.names.empty);
    zeros = each_kept _ _ (zeros_kept o) p.memory.zeros recalls.names.zeros;
  }

  spares : (q : ℕ) → q ≢ p.number.0 → Spares t planting before there later stays q
  spares q d = record {
    held = λ y its_own is. still_held t kept.run.held x mine.1 y (λ e. d (one_record_owner t.lay q o x (subst (IsOwnRecord t.lay q) e its_own) mine.0.0)) is;
    free = λ y its_own not. never_held t kept.run.held x mine.1 y not;
    empty = empty_kept q;
    zeros = zeros_kept q;
  }

  pub let_go_then : TableLasts allows t planting (seen_by allows t planting stays s kept id v fits p one at kept.run.rows (memory_without t p.memory name nodes_to scx_to))
  let_go_then = as_loaded allows t planting stays s kept id v fits p one at kept.run.rows (memory_without t p.memory name nodes_to scx_to)
      (goes_on allows t planting stays s kept id v fits p one at s.words record { rows = kept.run.rows; last = kept.run.last; held = held; tally = kept.run.tally; sound = kept.run.sound; window = window; counts = kept.run.counts; gone = gone } (memory_without t p.memory name nodes_to scx_to) later (λ q d. (refl, refl)) (λ q d z. refl)
      record { away = recalls.away; often = recalls.often; rested = recalls.rested; names = names }
      spares (λ j d ps y. y))

module _ (allows : Layout → History → ℕ → Type 0) (t : Lasting) (planting : PlantingView) (stays : StaysUnborn t.lay) (slots id : ℕ) (me : Me ℕ SeatView) (p : SeatedPass) (one : me.0.passes ≡ p ∷ []) where
  -- the slot of a name that is out of reach holds nothing from now on, at a load of any word
  pub lasting_lets_go : (at : ℕ) (name : RecordNo) → IsAmongThese name p.memory.holds → IsAmongThese (noted_as name OutOfReach) p.memory.notes → IsTaken (past_of p []) (record_at name) → Allows (TableLasts allows t planting) slots id me at (λ n. n) (λ n w. LearnsWith allows (λ rows. memory_let_go t p.memory name) me.0 w.0 × (w.1 ≡ me.1))
  lasting_lets_go at name held_name noted_so taken s kept sized fits small =
      let o : ℕ = p.number.0 in
      let x : Record = record_at name in
      let h : History = history_of planting kept.run.rows in
      let before : Present = now allows t planting s kept id me.0 fits p one in
      let recalls : RemembersWell t planting before o p.memory = well allows t planting s kept id me.0 fits p one in
      let mine : IsHeldName t o before name = in_each (IsHeldName t o before) name p.memory.holds held_name recalls.names.holds in
      let out : IsNoteSo t.lay planting o before x OutOfReach = in_each (λ n. IsNoteSo t.lay planting o before (record_at n.name) n.note) (noted_as name OutOfReach) p.memory.notes noted_so recalls.names.notes in
      let was_taken : IsTaken h x = taken_since h (history_of planting p.known) x (behind_known allows t planting s kept id me.0 fits p one) (subst (λ (g : Plot). IsTaken (history_of g.planting p.known) x) (own allows t planting s kept id me.0 fits p one).1 taken) in (
        seat_view (aware allows t planting s kept id me.0 fits p one (memory_let_go t p.memory name) ∷ []),
        keeps,
        tt,
        let_go_then allows t planting stays s kept id me.0 fits p one at name p.memory.nodes_to p.memory.scx_to mine (inr out.0)
            (λ n z e. subst (IsGoneRecord t.lay h kept.run.last) (sym e) out.1)
            (λ y its_own d free. ((λ e. not_taken t.lay h y free (subst (IsTaken h) (sym e) was_taken)), same_dealt t p.memory name y d))
            (λ y d. inr (λ z. d (dealt_same t p.memory name y z))),
        ((kept.run.rows, learnt allows t planting s kept id me.0 fits p one refl), refl),
      )

  -- The last name that is dealt is given back, if the pass has it left of its share.
  pub lasting_gives_back : (at : ℕ) (name : RecordNo) (left : Remaining) → p.number.0 < t.lay.passes → IsAmongThese name p.memory.holds → IsLastDealt p.memory (record_at name) → IsShare p.layout (past_of p []) p.number.0 left left.next_node left.next_scx → IsNotBefore left (record_at name) → Allows (TableLasts allows t planting) slots id me at (λ n. n) (λ n w. LearnsWith allows (λ rows. memory_given_back t p.memory name) me.0 w.0 × (w.1 ≡ me.1))
  lasting_gives_back at name left is_pass held_name is_last share its_left s kept sized fits small = (
    seat_view (aware allows t planting s kept id me.0 fits p one (memory_given_back t p.memory name) ∷ []),
    keeps,
    tt,
    given name its_left is_last mine untaken,
    ((kept.run.rows, learnt allows t planting s kept id me.0 fits p one refl), refl),
  )
    where
      o : ℕ
      o = p.number.0

      h : History
      h = history_of planting kept.run.rows

      before : Present
      before = now allows t planting s kept id me.0 fits p one

      mine : IsHeldName t o before name
      mine = in_each (IsHeldName t o before) name p.memory.holds held_name (well allows t planting s kept id me.0 fits p one).names.holds

      untaken : IsUntaken t.lay h (record_at name)
      untaken = left_untaken t.lay h o left (record_at name) mine.0.0 its_left (share_now allows t planting s kept id me.0 fits p one left is_pass share)

      given : (k : RecordNo) → IsNotBefore left (record_at k) → IsLastDealt p.memory (record_at k) → IsHeldName t o before k → IsUntaken t.lay h (record_at k) → TableLasts allows t planting (seen_by allows t planting stays s kept id me.0 fits p one at kept.run.rows (memory_given_back t p.memory k))
      given (Node n) is_left last its free = let_go_then allows t planting stays s kept id me.0 fits p one at (Node n) n.0 p.memory.scx_to its (inl free)
          (λ i z e. absurd (free.1 (subst (IsTakenNode h) (one_number i n.0 e) z)))
          (λ y its_own d k. node_dealt n.0 last y d)
          (λ y d. node_undealt n.0 last y d)
        where
          one_number : (i j : ℕ) → the_node i ≡ the_node j → i ≡ j
          one_number i j e = cc

          node_dealt : (i : ℕ) → p.memory.nodes_to ≡ suc i → (y : Record) → IsDealt (memory_without t p.memory (Node n) i p.memory.scx_to) y → (¬ (y ≡ the_node i)) × IsDealt p.memory y
          node_dealt i e (the_node j) d = ((λ q. let z : j ≡ i = one_number j i q in omega (arith, z, d)), omega (arith, d, e))
          node_dealt i e (the_scx j) d = ((λ q. let z : the_scx j ≡ the_node i = q in cc), d)

          node_undealt : (i : ℕ) → p.memory.nodes_to ≡ suc i → (y : Record) → ¬ IsDealt (memory_without t p.memory (Node n) i p.memory.scx_to) y → (y ≡ the_node i) ⊎ (¬ IsDealt p.memory y)
          node_undealt i e (the_node j) d = ⊎_elim (λ q. inl (ap the_node q)) inr (last_or_behind i j p.memory.nodes_to e d)
          node_undealt i e (the_scx j) d = inr d
      given (Scx n) is_left last its free = let_go_then allows t planting stays s kept id me.0 fits p one at (Scx n) p.memory.nodes_to n.0 its (inl free)
          (λ i z e. absurd (let q : the_node i ≡ the_scx n.0 = e in cc))
          (λ y its_own d k. scx_dealt n.0 last y d)
          (λ y d. scx_undealt n.0 last y d)
        where
          one_number : (i j : ℕ) → the_scx i ≡ the_scx j → i ≡ j
          one_number i j e = cc

          scx_dealt : (i : ℕ) → p.memory.scx_to ≡ suc i → (y : Record) → IsDealt (memory_without t p.memory (Scx n) p.memory.nodes_to i) y → (¬ (y ≡ the_scx i)) × IsDealt p.memory y
          scx_dealt i e (the_scx j) d = ((λ q. let z : j ≡ i = one_number j i q in omega (arith, z, d)), omega (arith, d, e))
          scx_dealt i e (the_node j) d = ((λ q. let z : the_node j ≡ the_scx i = q in cc), d)

          scx_undealt : (i : ℕ) → p.memory.scx_to ≡ suc i → (y : Record) → ¬ IsDealt (memory_without t p.memory (Scx n) p.memory.nodes_to i) y → (y ≡ the_scx i) ⊎ (¬ IsDealt p.memory y)
          scx_undealt i e (the_scx j) d = ⊎_elim (λ q. inl (ap the_scx q)) inr (last_or_behind i j p.memory.scx_to e d)
          scx_undealt i e (the_node j) d = inr d

  -- a word of a slot that holds nothing is stored 0
  pub lasting_clears : (u : Word) (slot : RecordNo) → IsAmongThese slot p.memory.empty → record_at slot ≡ record_of u → IsWord t.table u → Allows (TableLasts allows t planting) slots id me (place t.table u) (λ n. 0) (λ n w. LearnsWith allows (λ rows. memory_cleared p.memory u) me.0 w.0 × (w.1 ≡ me.1))
  lasting_clears u slot empty of_slot is_word s kept sized fits small = (
    seat_view (aware allows t planting s kept id me.0 fits p one (memory_cleared p.memory u) ∷ []),
    keeps,
    tt,
    goes_on allows t planting stays s kept id me.0 fits p one at words record { rows = kept.run.rows; last = kept.run.last; held = kept.run.held; tally = kept.run.tally; sound = kept.run.sound; window = window; counts = counts; gone = gone } (memory_cleared p.memory u) later (λ q d. (refl, refl)) (λ q d z. refl)
        record { away = recalls.away; often = recalls.often; rested = recalls.rested; names = names }
        (λ q d. spares q) (λ j d ps y. y),
    ((kept.run.rows, learnt allows t planting s kept id me.0 fits p one refl), refl),
  )
    where
      o : ℕ
      o = p.number.0

      at : ℕ
      at = place t.table u

      h : History
      h = history_of planting kept.run.rows

      before : Present
      before = now allows t planting s kept id me.0 fits p one

      recalls : RemembersWell t planting before o p.memory
      recalls = well allows t planting s kept id me.0 fits p one

      mine : IsEmptySlot t o before slot
      mine = in_each (IsEmptySlot t o before) slot p.memory.empty empty recalls.names.empty

      none : kept.run.held (record_of u) ≡ None
      none = ap kept.run.held (sym of_slot) ∙ mine.1

      words : List ℕ
      words = slice_set s.words at 0

      window : IsWindow t words h kept.run.last kept.run.held
      window = cleans t s.words h kept.run.last kept.run.held kept.run.window u 0 is_word none

      counts : CountsRests t words h kept.run.tally
      counts = counts_stores t s.words h kept.run.tally kept.run.counts at 0 (place_inside t.table u is_word)

      there : Present
      there = present words h kept.run.last kept.run.held kept.run.tally

      later : Later t before there
      later = record { run = window.run; within = ends_self h; moved = moments_stay t h kept.run.last kept.run.window.rested; seen = λ q k n i y. y }

      gone : AreHeldOrGone t there
      gone n z = kept.run.gone n z

      cleared : slice_index words at ≡ 0
      cleared = get_or-set_same s.words at 0 0 (let inside = place_inside t.table u is_word in let size = kept.run.window.size in omega (arith, inside, size))

      zero_kept : (k : Word) → slice_index s.words (place t.table k) ≡ 0 → slice_index words (place t.table k) ≡ 0
      zero_kept k zero = go (ℕ_discrete (place t.table k) at)
        where
          go : Dec (place t.table k ≡ at) → slice_index words (place t.table k) ≡ 0
          go (yes e) = ap (slice_index words) e ∙ cleared
          go (no d) = get_or-set_other s.words at (place t.table k) 0 0 d ∙ zero

      zeros_kept : (q : ℕ) (k : Word) → IsZeroWord t q before k → IsZeroWord t q there k
      zeros_kept q k e = record { is_word = e.is_word; own = e.own; none = e.none; zero = zero_kept k e.zero }

      names : RemembersNames t planting there o (memory_cleared p.memory u)
      names = record {
        dealt = recalls.names.dealt;
        later = recalls.names.later;
        notes = each_kept _ _ (λ n. note_kept t planting before there later stays o (record_at n.name) n.note) p.memory.notes recalls.names.notes;
        polls = each_kept _ _ (poll_kept t planting before there later stays) p.memory.polls recalls.names.polls;
        holds = recalls.names.holds;
        empty = recalls.names.empty;
        zeros = (record { is_word = is_word; own = subst (IsOwnRecord t.table o) of_slot mine.0; none = none; zero = cleared }, each_kept _ _ (zeros_kept o) p.memory.zeros recalls.names.zeros);
      }

      spares : (q : ℕ) → Spares t planting before there later stays q
      spares q = record { held = λ y its_own is. is; free = λ y its_own not. not; empty = λ k e. e; zeros = zeros_kept q }
