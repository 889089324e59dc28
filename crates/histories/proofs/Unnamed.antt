-- A node of a pass's own share that is not named is its own: rows of others leave its words, and do
-- not name it.
use Rattle.std.proofs.Common.{◌≡◌, ◌≢◌, ℕ, ◌<◌, Bool, true, false, ◌⊎◌, inl, inr, ⊎_elim, refl, sym, ◌∙◌, arith, subst}
use native.Mathlib.Decide.{ℕ_discrete, dec_lt}
use Rattle.histories.specs.Common.{Layout, Side, NodeWord, Child, Info, Marked, ScxWord, State, AllFrozen, Plan, New, Old, Member, Seen, Row}
use Rattle.histories.specs.Common.{nodes_at_start, same_word, node, scx, info, marked, child, state, History, Opening, Opened, ◌⊳◌, value, HasHeld, plan, side_of, member, new}
use Rattle.histories.specs.Common.{field_index, field, IsOwnNode, IsOwnScx, IsNamed, opening_node, by_field, by_scx, IsInField, IsNamedScx, MayFill, Lawful, descriptor}
use Rattle.arena.specs.declared.word.ScxWord.TheVariants.{Call}
use Rattle.arena.specs.Fills.{IsOthersNode, NamesNode}
use Rattle.arena.proofs.Lemmas.{word_same, value_at, value_quiet, value_apart, value_other, held_at, held_split, held_start, opening_scx, node_apart, scx_word_apart}
use Rattle.histories.proofs.Changes.{Change, IsScxFill, nothing, fills_node, fills_scx, freezes, sets_frozen, marks, updates, commits, aborts, FreezeWins, change, lawful_tail, lawful_row}
use Rattle.histories.proofs.Quiet.{not_flag, not_state}
use Rattle.histories.proofs.Facts.{IsFlagged, Facts, member_named, child_node}
use Rattle.histories.proofs.Updates.{update_flagged}
use Rattle.histories.proofs.Always.{facts_before}
use Rattle.histories.proofs.Openings.{some_open, start_nodes}
use Rattle.histories.proofs.Moments.{named_more}
use Rattle.histories.proofs.Owners.{one_scx_owner, one_node_owner, named_scx_back}

in_field_named : {lay : Layout} {h : History} (n : ℕ) → IsInField lay h n → IsNamed lay h n
in_field_named n (inl i) = opening_node i
in_field_named n (inr x) = by_field x.0 x.1 x.2 x.3

-- Who wrote a number

-- the number that names n is 0, or the field's node is named, or the pass that owns that node may
-- have written it
abbrev pub IsWritten : Layout → History → ℕ → ℕ → Type 0
IsWritten lay h m n = (n ≡ 0) ⊎ (IsNamed lay h m ⊎ ((d : ℕ) × IsOwnNode lay d m × (IsOthersNode lay d n → IsNamed lay h n)))

written_more : {lay : Layout} {h : History} (r : Row) (m n : ℕ) → IsWritten lay h m n → IsWritten lay (r ⊳ h) m n
written_more r m n (inl e) = inl e
written_more r m n (inr (inl p)) = inr (inl (named_more r p))
written_more r m n (inr (inr x)) = inr (inr (x.0, x.1, λ o. named_more r (x.2 o)))

-- a field that is not 0 at the start is of a node that is there
opening_field : (o : Opening) (m : ℕ) (side : Side) → (value (Opened o) (child m side) ≡ 0) ⊎ (m < nodes_at_start o.mode o.planted)
unfolding value
opening_field o m side = go (dec_lt m (nodes_at_start o.mode o.planted))
  where
    go : Dec (m < nodes_at_start o.mode o.planted) → (o.words (child m side) ≡ 0) ⊎ (m < nodes_at_start o.mode o.planted)
    go (yes i) = inr i
    go (no d) = inl (o.beyond m (Child side) (omega (arith, d)))

pub field_written : (lay : Layout) (h : History) (m : ℕ) (side : Side) (n : ℕ) → Lawful lay h → HasHeld h (child m side) n → IsWritten lay h m n
field_written lay (Opened o) m side n l p =
    ⊎_elim (λ e. inl (sym (held_start o (child m side) n p) ∙ e)) (λ i. inr (inl (opening_node (let few = start_nodes lay o l in omega (arith, i, few))))) (opening_field o m side)
field_written lay (r ⊳ h) m side n l p = go (held_split r h (child m side) n p) (λ q. written_more r m n (field_written lay h m side n (lawful_tail lay h r l) q))
  where
    by_word : value (r ⊳ h) (child m side) ≡ n → (HasHeld h (child m side) n → IsWritten lay (r ⊳ h) m n) → r.word ≡ child m side → Change lay h r → IsWritten lay (r ⊳ h) m n
    by_word q before e (nothing i a) = before (held_at h _ _ (sym (value_quiet r h (lawful_row lay h r l).before a (child m side)) ∙ q))
    by_word q before e (fills_node k part x) =
        let may : MayFill lay h r.pass.0 (child m side) r.after = subst (λ w. MayFill lay h r.pass.0 w r.after) (sym x.word ∙ e) x.may in
        let stored : r.after ≡ n = sym (value_at r h (child m side) e) ∙ q in
        inr (inr (r.pass.0, may.0.own, λ o. named_more r (in_field_named n (rw stored at (may.1 (rw stored o))))))
    by_word q before e (updates u w) =
        let named : IsNamed lay h (member h u (field_index h u)) = member_named lay h u _ (field_index h u) ((update_flagged (facts_before lay h r l) w).frozen 0 (update_flagged (facts_before lay h r l) w).some) in
        let same : member h u (field_index h u) ≡ m = child_node _ _ _ _ (sym w.update.word ∙ e) in
        inr (inl (named_more r (rw same at named)))
    by_word q before e (fills_scx u part x) = let y : scx u part ≡ child m side = sym x.word ∙ e in cc
    by_word q before e (freezes u j w) = let y : info (member h u j) ≡ child m side = sym w.freeze.word ∙ e in cc
    by_word q before e (sets_frozen u k x) = let y : scx u AllFrozen ≡ child m side = sym x.word ∙ e in cc
    by_word q before e (marks u j k x) = let y : marked (member h u j) ≡ child m side = sym x.word ∙ e in cc
    by_word q before e (commits u k x) = let y : state u ≡ child m side = sym x.word ∙ e in cc
    by_word q before e (aborts u j k x) = let y : state u ≡ child m side = sym x.word ∙ e in cc

    go : (value (r ⊳ h) (child m side) ≡ n) ⊎ HasHeld h (child m side) n → (HasHeld h (child m side) n → IsWritten lay (r ⊳ h) m n) → IsWritten lay (r ⊳ h) m n
    go (inr q) before = before q
    go (inl q) before = test (same_word r.word (child m side)) refl
      where
        test : (t : Bool) → same_word r.word (child m side) ≡ t → IsWritten lay (r ⊳ h) m n
        test false e = before (held_at h _ _ (sym (value_other r h (child m side) e) ∙ q))
        test true e = by_word q before (word_same r.word (child m side) e) (change lay h r l)

-- the number in a word of an SCX-record is 0, or the pass that owns the SCX-record may have written
-- it
abbrev pub IsScxWritten : Layout → History → ℕ → ℕ → Type 0
IsScxWritten lay h s n = (n ≡ 0) ⊎ ((d : ℕ) × IsOwnScx lay d s × (IsOthersNode lay d n → IsNamed lay h n))

scx_written_more : {lay : Layout} {h : History} (r : Row) (s n : ℕ) → IsScxWritten lay h s n → IsScxWritten lay (r ⊳ h) s n
scx_written_more r s n (inl e) = inl e
scx_written_more r s n (inr x) = inr (x.0, x.1, λ o. named_more r (x.2 o))

may_name : (lay : Layout) (h : History) (c s : ℕ) (part : ScxWord) (n : ℕ) → NamesNode part → MayFill lay h c (scx s part) n → IsOwnScx lay c s × (IsOthersNode lay c n → IsNamed lay h n)
may_name lay h c s New n i m = (m.0.own, λ o. absurd (m.1 o))
may_name lay h c s Old n i m = (m.0.own, λ o. in_field_named n (m.1 o))
may_name lay h c s (Member j) n i m = (m.0.own, λ o. in_field_named n (m.1 o))
may_name lay h c s State n i m = absurd i
may_name lay h c s AllFrozen n i m = absurd i
may_name lay h c s Plan n i m = absurd i
may_name lay h c s (Seen j) n i m = absurd i
may_name lay h c s Call n i m = absurd i

-- a word that names nodes may be filled
pub names_fill : (part : ScxWord) → NamesNode part → IsScxFill part
names_fill State i = absurd i
names_fill AllFrozen i = absurd i
names_fill _ i = tt

pub scx_written : (lay : Layout) (h : History) (s : ℕ) (part : ScxWord) (n : ℕ) → Lawful lay h → NamesNode part → HasHeld h (scx s part) n → IsScxWritten lay h s n
scx_written lay (Opened o) s part n l i p = inl (sym (held_start o (scx s part) n p) ∙ opening_scx o s part (not_state part (names_fill part i)))
scx_written lay (r ⊳ h) s part n l i p = go (held_split r h (scx s part) n p) (λ q. scx_written_more r s n (scx_written lay h s part n (lawful_tail lay h r l) i q))
  where
    go : (value (r ⊳ h) (scx s part) ≡ n) ⊎ HasHeld h (scx s part) n → (HasHeld h (scx s part) n → IsScxWritten lay (r ⊳ h) s n) → IsScxWritten lay (r ⊳ h) s n
    go (inr q) before = before q
    go (inl q) before = by_change (change lay h r l)
      where
        same : value (r ⊳ h) (scx s part) ≡ value h (scx s part) → IsScxWritten lay (r ⊳ h) s n
        same e = before (held_at h _ _ (sym e ∙ q))

        by_fill : (u : ℕ) (b : ScxWord) → r.word ≡ scx u b → MayFill lay h r.pass.0 (scx u b) r.after → (t : Bool) → same_word (scx u b) (scx s part) ≡ t → IsScxWritten lay (r ⊳ h) s n
        by_fill u b e m false t = same (value_apart r h (scx u b) (scx s part) e t)
        by_fill u b e m true t =
            let w : scx u b ≡ scx s part = word_same _ _ t in
            let stored : r.after ≡ n = sym (value_at r h (scx s part) (e ∙ w)) ∙ q in
            let may : MayFill lay h r.pass.0 (scx s part) n = rw stored at (subst (λ v. MayFill lay h r.pass.0 v r.after) w m) in
            let x : IsOwnScx lay r.pass.0 s × (IsOthersNode lay r.pass.0 n → IsNamed lay h n) = may_name lay h r.pass.0 s part n i may in
            inr (r.pass.0, x.0, λ o. named_more r (x.1 o))

        by_change : Change lay h r → IsScxWritten lay (r ⊳ h) s n
        by_change (nothing _ e) = same (value_quiet r h (lawful_row lay h r l).before e (scx s part))
        by_change (fills_node m a x) = same (value_apart r h (node m a) (scx s part) x.word refl)
        by_change (fills_scx u b x) = by_fill u b x.word x.may (same_word (scx u b) (scx s part)) refl
        by_change (freezes u j w) = same (value_apart r h (info (member h u j)) (scx s part) w.freeze.word refl)
        by_change (sets_frozen u k x) = same (value_apart r h (scx u AllFrozen) (scx s part) x.word (scx_word_apart u s AllFrozen part (not_flag part (names_fill part i))))
        by_change (marks u j k x) = same (value_apart r h (marked (member h u j)) (scx s part) x.word refl)
        by_change (updates u w) = same (value_apart r h (field h u) (scx s part) w.update.word refl)
        by_change (commits u k x) = same (value_apart r h (state u) (scx s part) x.word (scx_word_apart u s State part (not_state part (names_fill part i))))
        by_change (aborts u j k x) = same (value_apart r h (state u) (scx s part) x.word (scx_word_apart u s State part (not_state part (names_fill part i))))

-- Rows of others

module _ (lay : Layout) (h : History) (r : Row) (c : ℕ) (l : Lawful lay (r ⊳ h)) (is_pass : c < lay.passes) (other : r.pass.0 ≢ c) where
  others : (d n : ℕ) → d ≢ c → IsOwnNode lay c n → IsOthersNode lay d n
  others d n e o = record { pass = c; is_pass = is_pass; is_other = λ q. e (sym q); owns = o }

  zero_named : (n : ℕ) → n ≡ 0 → IsNamed lay h n
  zero_named n e = opening_node (rw e (some_open lay))

  -- a field of another comes to name a node only where the node was named, or was in that field
  -- before
  pub field_back : (m : ℕ) (side : Side) (n : ℕ) → IsOwnNode lay c n → HasHeld (r ⊳ h) (child m side) n → IsNamed lay h n ⊎ HasHeld h (child m side) n
  field_back m side n own p = go (held_split r h (child m side) n p)
    where
      by_word : value (r ⊳ h) (child m side) ≡ n → r.word ≡ child m side → Change lay h r → IsNamed lay h n ⊎ HasHeld h (child m side) n
      by_word q e (nothing i a) = inr (held_at h _ _ (sym (value_quiet r h (lawful_row lay h r l).before a (child m side)) ∙ q))
      by_word q e (fills_node k part x) =
          let may : MayFill lay h r.pass.0 (child m side) r.after = subst (λ w. MayFill lay h r.pass.0 w r.after) (sym x.word ∙ e) x.may in
          let stored : r.after ≡ n = sym (value_at r h (child m side) e) ∙ q in
          inl (in_field_named n (rw stored at (may.1 (rw stored (others r.pass.0 n other own)))))
      by_word q e (updates u w) =
          let named : IsNamedScx h u = (member h u 0, (update_flagged (facts_before lay h r l) w).frozen 0 (update_flagged (facts_before lay h r l) w).some) in
          let stored : new h u ≡ n = sym w.stored ∙ sym (value_at r h (child m side) e) ∙ q in
          inl (by_scx u New named tt (held_at h _ _ stored))
      by_word q e (fills_scx u part x) = let y : scx u part ≡ child m side = sym x.word ∙ e in cc
      by_word q e (freezes u j w) = let y : info (member h u j) ≡ child m side = sym w.freeze.word ∙ e in cc
      by_word q e (sets_frozen u k x) = let y : scx u AllFrozen ≡ child m side = sym x.word ∙ e in cc
      by_word q e (marks u j k x) = let y : marked (member h u j) ≡ child m side = sym x.word ∙ e in cc
      by_word q e (commits u k x) = let y : state u ≡ child m side = sym x.word ∙ e in cc
      by_word q e (aborts u j k x) = let y : state u ≡ child m side = sym x.word ∙ e in cc

      go : (value (r ⊳ h) (child m side) ≡ n) ⊎ HasHeld h (child m side) n → IsNamed lay h n ⊎ HasHeld h (child m side) n
      go (inr q) = inr q
      go (inl q) = test (same_word r.word (child m side)) refl
        where
          test : (t : Bool) → same_word r.word (child m side) ≡ t → IsNamed lay h n ⊎ HasHeld h (child m side) n
          test false e = inr (held_at h _ _ (sym (value_other r h (child m side) e) ∙ q))
          test true e = by_word q (word_same r.word (child m side) e) (change lay h r l)

  by_old_field : (m : ℕ) (side : Side) (n : ℕ) → IsOwnNode lay c n → (IsOwnNode lay c m → IsNamed lay h m) → HasHeld h (child m side) n → IsWritten lay h m n → IsNamed lay h n
  by_old_field m side n own back p (inl e) = zero_named n e
  by_old_field m side n own back p (inr (inl q)) = by_field m side q p
  by_old_field m side n own back p (inr (inr x)) = go (ℕ_discrete x.0 c)
    where
      go : Dec (x.0 ≡ c) → IsNamed lay h n
      go (yes e) = by_field m side (back (rw e at x.1)) p
      go (no e) = x.2 (others x.0 n e own)

  by_old_word : (s : ℕ) (part : ScxWord) (n : ℕ) → NamesNode part → IsOwnNode lay c n → HasHeld h (scx s part) n → IsNamedScx h s ⊎ IsOwnScx lay r.pass.0 s → IsScxWritten lay h s n → IsNamed lay h n
  by_old_word s part n i own p (inl q) _ = by_scx s part q i p
  by_old_word s part n i own p (inr o) (inl e) = zero_named n e
  by_old_word s part n i own p (inr o) (inr x) = x.2 (others x.0 n (λ e. other (one_scx_owner lay r.pass.0 x.0 s o x.1 ∙ e)) own)

  -- a word of an SCX-record comes to name a node only where the node was named, or was in that word
  -- before
  pub word_back : (s : ℕ) (part : ScxWord) (n : ℕ) → NamesNode part → IsOwnNode lay c n → HasHeld (r ⊳ h) (scx s part) n → IsNamed lay h n ⊎ HasHeld h (scx s part) n
  word_back s part n i own p = go (held_split r h (scx s part) n p)
    where
      go : (value (r ⊳ h) (scx s part) ≡ n) ⊎ HasHeld h (scx s part) n → IsNamed lay h n ⊎ HasHeld h (scx s part) n
      go (inr x) = inr x
      go (inl x) = by_change (change lay h r l)
        where
          same : value (r ⊳ h) (scx s part) ≡ value h (scx s part) → IsNamed lay h n ⊎ HasHeld h (scx s part) n
          same e = inr (held_at h _ _ (sym e ∙ x))

          by_fill : (u : ℕ) (b : ScxWord) → r.word ≡ scx u b → MayFill lay h r.pass.0 (scx u b) r.after → (t : Bool) → same_word (scx u b) (scx s part) ≡ t → IsNamed lay h n ⊎ HasHeld h (scx s part) n
          by_fill u b e m false t = same (value_apart r h (scx u b) (scx s part) e t)
          by_fill u b e m true t =
              let w : scx u b ≡ scx s part = word_same _ _ t in
              let stored : r.after ≡ n = sym (value_at r h (scx s part) (e ∙ w)) ∙ x in
              let may : MayFill lay h r.pass.0 (scx s part) n = rw stored at (subst (λ v. MayFill lay h r.pass.0 v r.after) w m) in
              inl ((may_name lay h r.pass.0 s part n i may).1 (others r.pass.0 n other own))

          by_change : Change lay h r → IsNamed lay h n ⊎ HasHeld h (scx s part) n
          by_change (nothing _ e) = same (value_quiet r h (lawful_row lay h r l).before e (scx s part))
          by_change (fills_node m a y) = same (value_apart r h (node m a) (scx s part) y.word refl)
          by_change (fills_scx u b y) = by_fill u b y.word y.may (same_word (scx u b) (scx s part)) refl
          by_change (freezes u j w) = same (value_apart r h (info (member h u j)) (scx s part) w.freeze.word refl)
          by_change (sets_frozen u k y) = same (value_apart r h (scx u AllFrozen) (scx s part) y.word (scx_word_apart u s AllFrozen part (not_flag part (names_fill part i))))
          by_change (marks u j k y) = same (value_apart r h (marked (member h u j)) (scx s part) y.word refl)
          by_change (updates u w) = same (value_apart r h (field h u) (scx s part) w.update.word refl)
          by_change (commits u k y) = same (value_apart r h (state u) (scx s part) y.word (scx_word_apart u s State part (not_state part (names_fill part i))))
          by_change (aborts u j k y) = same (value_apart r h (state u) (scx s part) y.word (scx_word_apart u s State part (not_state part (names_fill part i))))

  -- an SCX-record of another comes to name a node only where it was named before
  scx_back : (s : ℕ) (part : ScxWord) (n : ℕ) → NamesNode part → IsOwnNode lay c n → HasHeld (r ⊳ h) (scx s part) n → IsNamedScx h s ⊎ IsOwnScx lay r.pass.0 s → IsNamed lay h n
  scx_back s part n i own p q =
      ⊎_elim (λ x. x) (λ x. by_old_word s part n i own x q (scx_written lay h s part n (lawful_tail lay h r l) i x)) (word_back s part n i own p)

  -- so a node of c's share that is named after the row was named before it
  pub named_back : {n : ℕ} → IsOwnNode lay c n → IsNamed lay (r ⊳ h) n → IsNamed lay h n
  named_back own (opening_node i) = opening_node i
  named_back {n} own (by_field m side p q) =
      ⊎_elim (λ x. x) (λ x. by_old_field m side n own (λ o. named_back o p) x (field_written lay h m side n (lawful_tail lay h r l) x)) (field_back m side n own q)
  named_back {n} own (by_scx s part p i q) = scx_back s part n i own q (named_scx_back lay h r s l p)

  pub stays_unnamed : (n : ℕ) → IsOwnNode lay c n → ¬ IsNamed lay h n → ¬ IsNamed lay (r ⊳ h) n
  stays_unnamed n own d p = d (named_back own p)

  -- and the row leaves the words of a node that is not named
  pub unnamed_stays : (n : ℕ) (a : NodeWord) → IsOwnNode lay c n → ¬ IsNamed lay h n → value (r ⊳ h) (node n a) ≡ value h (node n a)
  unnamed_stays n a own d = go (change lay h r l)
    where
      f : Facts lay h
      f = facts_before lay h r l

      unless : (m : ℕ) (b : NodeWord) → r.word ≡ node m b → (m ≡ n → ⊥) → value (r ⊳ h) (node n a) ≡ value h (node n a)
      unless m b e x = value_apart r h (node m b) (node n a) e (node_apart m n b a x)

      -- a node that an SCX-record of another freezes is named
      frozen : (u j : ℕ) → FreezeWins lay h r u j → member h u j ≡ n → Dec (j ≡ 0) → ⊥
      frozen u j w q (no z) = d (rw q at (member_named lay h u _ j (w.freeze.earlier 0 (omega arith))))
      frozen u j w q (yes z) =
          let p : HasHeld h (scx u (Member j)) n = held_at h _ _ q in
          d (by_old_word u (Member j) n tt own p (inr ((w.freeze.may_win w.found).1 z).own) (scx_written lay h u (Member j) n (lawful_tail lay h r l) tt p))

      go : Change lay h r → value (r ⊳ h) (node n a) ≡ value h (node n a)
      go (nothing _ e) = value_quiet r h (lawful_row lay h r l).before e (node n a)
      go (fills_node m b x) = unless m b x.word (λ q. other (one_node_owner lay r.pass.0 c n (rw q at x.is_open.own) own))
      go (fills_scx u b x) = value_apart r h (scx u b) (node n a) x.word refl
      go (freezes u j w) = unless (member h u j) Info w.freeze.word (λ q. frozen u j w q (ℕ_discrete j 0))
      go (sets_frozen u k x) = value_apart r h (scx u AllFrozen) (node n a) x.word refl
      go (marks u j k x) =
          let c : IsFlagged (descriptor h u) h u = f.flagged u (λ e. let y = x.all_frozen in omega arith) in
          unless (member h u j) Marked x.word (λ q. d (rw q at (member_named lay h u _ j (c.frozen 0 c.some))))
      go (updates u w) = unless (member h u (field_index h u)) (Child (side_of (plan h u))) w.update.word (λ q. d (rw q at (member_named lay h u _ (field_index h u) ((update_flagged f w).frozen 0 (update_flagged f w).some))))
      go (commits u k x) = value_apart r h (state u) (node n a) x.word refl
      go (aborts u j k x) = value_apart r h (state u) (node n a) x.word refl
