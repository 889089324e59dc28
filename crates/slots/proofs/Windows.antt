-- What keeps a window: its opening, steps, rests, stores beside held records, and what slots hold.
use Rattle.std.proofs.Common.{◌≡◌, ◌<◌, ◌≤◌, ◌⊎◌, ◌%◌, ℕ, Bool, true, false, List, length, slice_index, slice_set, length-set, inl, inr, ⊎_elim, refl, sym, ◌∙◌, ap, subst, arith}
use Rattle.std.proofs.lemmas.List.{get_or-set_same, get_or-set_other}
use Rattle.std.specs.Prelude.{Option, Some, None}
use native.Mathlib.Decide.{dec_lt}
use Rattle.histories.specs.Common.{Layout, Word, Node, Scx, Row, Opening, History, Opened, ◌⊳◌, value, same_word, place, table_size, node, scx, IsWord, IsTakenNode, IsTakenScx, opening_nodes}
use Rattle.arena.proofs.Lemmas.{ends_self, value_at, value_other, word_same, word_apart}
use Rattle.histories.proofs.Lemmas.{lawful_row}
use Rattle.ordered_map.specs.Runs.{IsMapRun}
use Rattle.resting.specs.Reach.{IsOutOfReach}
use Rattle.resting.specs.Records.{Record, record_of, the_node, the_scx}
use Rattle.resting.specs.Rests.{HaveMovedOn, HaveRestedAt, IsRowSince}
use Rattle.resting.proofs.Lemmas.{next_not_out, out_anew, out_since, rested_now, row_keeps}
use Rattle.slots.specs.Held.{Held, IsHeld, AreNames, with_slot}
use Rattle.slots.specs.Lasting.{Lasting, IsLasting, IsFirstRecord, IsNameOf, IsRecord, IsUntaken, slot_of, slot_word, table_place, IsOwnName, IsOwnRecord}
use Rattle.slots.specs.Window.{AreShown, IsWindow, IsHeldStep}
use Rattle.slots.proofs.Places.{place_inside}
use Rattle.slots.proofs.Slots.{WordOfSlot, empty_apart, first_slot, held_apart, held_inside, name_inside, name_record, number_of, one_found, record_discrete, same_start, slot_record, untaken_more, untaken_not_first, with_other, with_same, word_inside, word_of_slot, word_record}
use Rattle.slots.proofs.Untaken.{untaken_own}
use Rattle.slots.proofs.Zeros.{untaken_zero}

-- The opening

none_taken_node : (o : Opening) (n : ℕ) → ¬ IsTakenNode (Opened o) n
unfolding IsTakenNode
none_taken_node o n t = t

none_taken_scx : (o : Opening) (s : ℕ) → ¬ IsTakenScx (Opened o) s
unfolding IsTakenScx
none_taken_scx o s t = t

none_taken : (lay : Layout) (o : Opening) (x : Record) → IsFirstRecord lay x ⊎ IsUntaken lay (Opened o) x
none_taken lay o (the_node n) = go (dec_lt n (opening_nodes lay))
  where
    go : Dec (n < opening_nodes lay) → IsFirstRecord lay (the_node n) ⊎ IsUntaken lay (Opened o) (the_node n)
    go (yes i) = inl i
    go (no d) = inr (omega (arith, d), none_taken_node o n)
none_taken lay o (the_scx s) = go (record_discrete (the_scx s) (the_scx 0))
  where
    go : Dec (the_scx s ≡ the_scx 0) → IsFirstRecord lay (the_scx s) ⊎ IsUntaken lay (Opened o) (the_scx s)
    go (yes e) = inl (let q : s ≡ 0 = cc in q)
    go (no d) = inr ((λ e. d (ap the_scx e)), none_taken_scx o s)

-- the words of the table are those of the opening: so each slot may hold any name of its own
module _ (t : Lasting) (fit : IsLasting t) (words : List ℕ) (o : Opening) (held : Held) (run : IsMapRun t.lay (Opened o)) (size : table_size t.table ≤ length words) (names : AreNames t held) (laid : (w : Word) → IsWord t.table w → slice_index words (place t.table w) ≡ value (Opened o) w) where
  first_shown : (w : Word) → IsFirstRecord t.lay (record_of w) → slot_word t w ≡ w
  first_shown (Node n part) first = λ i. node (number_of (first_slot t fit (the_node n.0) first i)) part
  first_shown (Scx s part) first = λ i. scx (number_of (first_slot t fit (the_scx s.0) first i)) part

  -- the slot of a pass's own is no first record
  own_late : (pass : ℕ) (x : Record) → IsOwnName t pass x → IsUntaken t.lay (Opened o) (slot_of t x)
  own_late pass (the_node n) own = ((let from = own.1.from in let same = same_start t fit in omega (arith, from, same)), none_taken_node o (n % t.node_turn))
  own_late pass (the_scx s) own = ((λ e. let from = own.1.from in omega (arith, from, e)), none_taken_scx o (s % t.scx_turn))

  own_free : (pass : ℕ) (x : Record) → IsOwnName t pass x → IsUntaken t.lay (Opened o) x
  own_free pass (the_node n) own = ((let from = own.0.from in omega (arith, from)), none_taken_node o n)
  own_free pass (the_scx s) own = ((λ e. let from = own.0.from in omega (arith, from, e)), none_taken_scx o s)

  opens_shown : AreShown t words (Opened o) held
  opens_shown w i is = laid (slot_word t w) (held_inside t fit held names w i is) ∙ go (names.own (slot_of t (record_of w)) (record_of w) is).name
    where
      go : IsFirstRecord t.lay (record_of w) ⊎ ((pass : ℕ) × (pass < t.lay.passes) × IsOwnName t pass (record_of w)) → value (Opened o) (slot_word t w) ≡ value (Opened o) w
      go (inl first) = ap (value (Opened o)) (first_shown w first)
      go (inr own) =
          let late : IsUntaken t.lay (Opened o) (slot_of t (record_of w)) = own_late own.0 (record_of w) own.2 in
          untaken_zero t.lay (Opened o) (slot_word t w) run (subst (IsUntaken t.lay (Opened o)) (sym (slot_record t w)) late)
          ∙ sym (untaken_zero t.lay (Opened o) w run (own_free own.0 (record_of w) own.2))

  pub opens : IsWindow t words (Opened o) (λ pass. Opened o) held
  opens = record {
    lasting = fit;
    run = run;
    rested = λ pass i. rested_now t.lay (Opened o) pass (λ s own real taken. absurd (none_taken_scx o s taken));
    size = size;
    names = names;
    shows = opens_shown;
    every = λ x i. ⊎_elim (λ first. inl (names.first x first)) (λ free. inr (inl free)) (none_taken t.lay o x);
  }

-- Stores beside what is held

module _ (t : Lasting) (words : List ℕ) (h : History) (last : ℕ → History) (held : Held) (x : IsWindow t words h last held) where
  -- a store at a place of no held record's word
  pub stores : (at v : ℕ) → ((w : Word) → IsWord t.lay w → IsHeld t held (record_of w) → ¬ (table_place t w ≡ at)) → IsWindow t (slice_set words at v) h last held
  stores at v beside = record {
    lasting = x.lasting;
    run = x.run;
    rested = x.rested;
    names = x.names;
    every = x.every;
    size = rw (length-set words at v) x.size;
    shows = λ w i is. get_or-set_other words at (table_place t w) v 0 (beside w i is) ∙ x.shows w i is;
  }

  -- of a word of an empty slot
  pub cleans : (w : Word) (v : ℕ) → IsWord t.table w → held (record_of w) ≡ None → IsWindow t (slice_set words (place t.table w) v) h last held
  cleans w v i none = stores (place t.table w) v (λ u j is. empty_apart t x.lasting held x.names w u i none j is)

  -- of a word behind the table's
  pub stores_behind : (at v : ℕ) → table_size t.table ≤ at → IsWindow t (slice_set words at v) h last held
  stores_behind at v behind = stores at v (λ w i is e. let inside = place_inside t.table (slot_word t w) (held_inside t x.lasting held x.names w i is) in omega (arith, behind, e, inside))

  -- Rests

  pub moves : (next : ℕ → History) → HaveMovedOn t.lay h last next → HaveRestedAt t.lay h next → IsWindow t words h next held
  moves next moved rested = record {
    lasting = x.lasting;
    run = x.run;
    rested = rested;
    size = x.size;
    names = x.names;
    shows = x.shows;
    every = λ y i. ⊎_elim inl (λ z. inr (⊎_elim inl (λ out. inr (out_anew t.lay h last next y moved out)) z)) (x.every y i);
  }

  -- Steps

  module _ (r : Row) (run : IsMapRun t.lay (r ⊳ h)) (since : IsRowSince t.lay r.pass.0 (last r.pass.0) h r) (own_held : IsUntaken t.lay h (record_of r.word) → IsOwnRecord t.lay r.pass.0 (record_of r.word) → IsHeld t held (record_of r.word)) where
    inside : IsWord t.lay r.word
    inside = (lawful_row t.lay h r run.1.lawful).word

    -- it is held, since a row is of no record that is out of reach
    step_held : IsHeld t held (record_of r.word)
    step_held = ⊎_elim (λ is. is) (λ y. ⊎_elim (λ free. own_held free (untaken_own t.lay h r (last r.pass.0) run since free)) (λ out. absurd (next_not_out t.lay h r last (record_of r.word) run x.rested since out refl)) y) (x.every (record_of r.word) (word_record t.lay r.word inside))

    step_inside : table_place t r.word < table_size t.table
    step_inside = place_inside t.table (slot_word t r.word) (held_inside t x.lasting held x.names r.word inside step_held)

    step_shown : AreShown t (slice_set words (table_place t r.word) r.after) (r ⊳ h) held
    step_shown w i is = go (same_word r.word w) refl
      where
        go : (b : Bool) → same_word r.word w ≡ b → slice_index (slice_set words (table_place t r.word) r.after) (table_place t w) ≡ value (r ⊳ h) w
        go true e =
            ap (slice_index (slice_set words (table_place t r.word) r.after)) (ap (table_place t) (sym (word_same r.word w e)))
            ∙ get_or-set_same words (table_place t r.word) r.after 0 (let small = step_inside in let size = x.size in omega (arith, small, size))
            ∙ sym (value_at r h w (word_same r.word w e))
        go false e =
            get_or-set_other words (table_place t r.word) (table_place t w) r.after 0 (λ q. word_apart r.word w e (sym (held_apart t x.lasting held x.names r.word w inside step_held i is (sym q))))
            ∙ x.shows w i is
            ∙ sym (value_other r h w e)

    step_every : (y : Record) → IsRecord t.lay y → IsHeld t held y ⊎ (IsUntaken t.lay (r ⊳ h) y ⊎ IsOutOfReach t.lay (r ⊳ h) last y)
    step_every y i = go (record_discrete (record_of r.word) y) (x.every y i)
      where
        go : Dec (record_of r.word ≡ y) → IsHeld t held y ⊎ (IsUntaken t.lay h y ⊎ IsOutOfReach t.lay h last y) → IsHeld t held y ⊎ (IsUntaken t.lay (r ⊳ h) y ⊎ IsOutOfReach t.lay (r ⊳ h) last y)
        go (yes e) z = inl (subst (IsHeld t held) e step_held)
        go (no d) (inl is) = inl is
        go (no d) (inr (inl free)) = inr (inl (untaken_more t.lay h r y d free))
        go (no d) (inr (inr out)) = inr (inr (out_since t.lay h (r ⊳ h) last y (inr (ends_self h)) out))

    pub steps : IsHeldStep t words h last held r
    steps = record {
      held = step_held;
      inside = step_inside;
      found = x.shows r.word inside step_held;
      after = record {
        lasting = x.lasting;
        names = x.names;
        run = run;
        rested = row_keeps t.lay h r last x.rested since;
        size = rw (length-set words (table_place t r.word) r.after) x.size;
        shows = step_shown;
        every = step_every;
      };
    }

  -- What slots hold

  -- a slot that held nothing, or what is untaken or out of reach, may hold what is found there
  module _ (slot : Record) (found : Option Record)
      (old : (y : Record) → held slot ≡ Some y → (¬ IsFirstRecord t.lay y) × (IsUntaken t.lay h y ⊎ IsOutOfReach t.lay h last y))
      (new : (y : Record) → found ≡ Some y → IsNameOf t slot y)
      (shown : (w : Word) → IsWord t.lay w → found ≡ Some (record_of w) → slice_index words (table_place t w) ≡ value h w) where
    slot_own : (k y : Record) → with_slot held slot found k ≡ Some y → IsNameOf t k y
    slot_own k y is = go (record_discrete k slot)
      where
        go : Dec (k ≡ slot) → IsNameOf t k y
        go (yes e) = subst (λ j. IsNameOf t j y) (sym e) (new y (sym (with_same held slot found) ∙ ap (with_slot held slot found) (sym e) ∙ is))
        go (no d) = x.names.own k y (sym (with_other held slot k found d) ∙ is)

    slot_first : (y : Record) → IsFirstRecord t.lay y → IsHeld t (with_slot held slot found) y
    slot_first y first = with_other held slot (slot_of t y) found (λ e. (old y (ap held (sym e) ∙ x.names.first y first)).0 first) ∙ x.names.first y first

    slot_shown : AreShown t words h (with_slot held slot found)
    slot_shown w i is = go (record_discrete (slot_of t (record_of w)) slot)
      where
        go : Dec (slot_of t (record_of w) ≡ slot) → slice_index words (table_place t w) ≡ value h w
        go (yes e) = shown w i (sym (with_same held slot found) ∙ ap (with_slot held slot found) (sym e) ∙ is)
        go (no d) = x.shows w i (sym (with_other held slot (slot_of t (record_of w)) found d) ∙ is)

    slot_every : (y : Record) → IsRecord t.lay y → IsHeld t (with_slot held slot found) y ⊎ (IsUntaken t.lay h y ⊎ IsOutOfReach t.lay h last y)
    slot_every y i = go (record_discrete (slot_of t y) slot) (x.every y i)
      where
        go : Dec (slot_of t y ≡ slot) → IsHeld t held y ⊎ (IsUntaken t.lay h y ⊎ IsOutOfReach t.lay h last y) → IsHeld t (with_slot held slot found) y ⊎ (IsUntaken t.lay h y ⊎ IsOutOfReach t.lay h last y)
        go d (inr z) = inr z
        go (yes e) (inl is) = inr (old y (ap held (sym e) ∙ is)).1
        go (no d) (inl is) = inl (with_other held slot (slot_of t y) found d ∙ is)

    pub holds : IsWindow t words h last (with_slot held slot found)
    holds = record { lasting = x.lasting; run = x.run; rested = x.rested; size = x.size; names = record { own = slot_own; first = slot_first }; shows = slot_shown; every = slot_every }

  pub lets_go : (y : Record) → IsHeld t held y → ¬ IsFirstRecord t.lay y → IsUntaken t.lay h y ⊎ IsOutOfReach t.lay h last y → IsWindow t words h last (with_slot held (slot_of t y) None)
  lets_go y is late out = holds (slot_of t y) None old (λ z e. absurd (let d : None ≡ Some z = e in cc)) (λ w i e. absurd (let d : None ≡ Some (record_of w) = e in cc))
    where
      old : (z : Record) → held (slot_of t y) ≡ Some z → (¬ IsFirstRecord t.lay z) × (IsUntaken t.lay h z ⊎ IsOutOfReach t.lay h last z)
      old z e = subst (λ k. (¬ IsFirstRecord t.lay k) × (IsUntaken t.lay h k ⊎ IsOutOfReach t.lay h last k)) (one_found y z (sym is ∙ e)) (late, out)

  -- an untaken name, in whose slot all words are 0
  names_anew : (slot y : Record) → IsNameOf t slot y → IsUntaken t.lay h y → ((z : Record) → held slot ≡ Some z → IsUntaken t.lay h z) → ((w : Word) → IsWord t.table w → record_of w ≡ slot → slice_index words (place t.table w) ≡ 0) → IsWindow t words h last (with_slot held slot (Some y))
  names_anew slot y name free before clean = holds slot (Some y) (λ z e. (untaken_not_first t.lay h z (before z e), inl (before z e))) (λ z e. subst (IsNameOf t slot) (one_found y z e) name) shown
    where
      shown : (w : Word) → IsWord t.lay w → Some y ≡ Some (record_of w) → slice_index words (table_place t w) ≡ value h w
      shown w i e =
          let same : y ≡ record_of w = one_found y (record_of w) e in
          let there : IsNameOf t slot (record_of w) = subst (IsNameOf t slot) same name in
          clean (slot_word t w) (word_inside t x.lasting w i (name_inside t x.lasting slot (record_of w) there)) (slot_record t w ∙ there.slot_is)
          ∙ sym (untaken_zero t.lay h w x.run (subst (IsUntaken t.lay h) same free))

  pub takes : (slot y : Record) → held slot ≡ None → IsNameOf t slot y → IsUntaken t.lay h y → ((w : Word) → IsWord t.table w → record_of w ≡ slot → slice_index words (place t.table w) ≡ 0) → IsWindow t words h last (with_slot held slot (Some y))
  takes slot y none name free clean = names_anew slot y name free (λ z e. absurd (let d : None ≡ Some z = sym none ∙ e in cc)) clean

  -- what is untaken, in the place of what is so
  pub renames : (slot y z : Record) → held slot ≡ Some y → IsUntaken t.lay h y → IsNameOf t slot z → IsUntaken t.lay h z → IsWindow t words h last (with_slot held slot (Some z))
  renames slot y z is before name free = names_anew slot z name free (λ k e. subst (IsUntaken t.lay h) (one_found y k (sym is ∙ e)) before) clean
    where
      clean : (w : Word) → IsWord t.table w → record_of w ≡ slot → slice_index words (place t.table w) ≡ 0
      clean w i e =
          let was : IsNameOf t slot y = x.names.own slot y is in
          let u : WordOfSlot t y w = word_of_slot t x.lasting y w i (name_record t x.lasting slot y was) (e ∙ sym was.slot_is) in
          ap (λ k. slice_index words (place t.table k)) (sym u.slot_is)
          ∙ x.shows u.word u.is_word (ap (λ k. held (slot_of t k)) u.record_is ∙ ap held was.slot_is ∙ is ∙ ap (λ (k : Record). Some k) (sym u.record_is))
          ∙ untaken_zero t.lay h u.word x.run (subst (IsUntaken t.lay h) (sym u.record_is) before)
