-- A lawful row, and how many nodes were ever frozen for each SCX-record.
use Rattle.std.proofs.Common.{◌≡◌, ◌≢◌, ◌↔◌, ℕ, zero, suc, ◌+◌, ◌<◌, ◌≤◌, ◌⊎◌, ⊎_elim, Bool, true, false, cond, List, length, refl, sym, ◌∙◌, ap, subst, arith, get_or-set_other, get_or-set_same, ne_eqb, eq-eqb, eqb}
use Rattle.std.proofs.Math.ListN.{length-set}
use Rattle.std.specs.Prelude.{◌&&◌, not, slice_set}
use Rattle.histories.specs.Common.{Layout, NodeWord, Info, Marked, Child, ScxWord, State, AllFrozen, Plan, Member, Row, Kind, Fill, SetFrozen, Mark, Update, Commit, Abort, all_scx}
use Rattle.histories.specs.Common.{node, scx, info, same_node_word, History, Start, empty, ◌⊳◌, value, HasHeld, IsNamedScx, Lawful, IsFrozen, count, count_of, plan, member, seen, field_index}
use Rattle.arena.specs.Words.{same_scx_word}
use Rattle.arena.proofs.Lemmas.{value_at, value_apart, value_quiet, held_at, held_back, held_more, opening_scx, node_word_apart, scx_word_apart, scx_apart, plan_counted}
use Rattle.histories.proofs.Lemmas.{Change, FreezeWins, IsNodeFill, nothing, fills_node, fills_scx, freezes, sets_frozen, marks, updates, commits, aborts, change, facts_before, Facts, lawful_row, named_scx_inside, named_scx_more, freeze_is_new, freeze_held, freeze_distinct, freeze_keeps_scx, freeze_rest, freeze_in_progress}
use Rattle.judge.specs.Freezing.{frozen_of, frozen_after, is_freeze, freezes as freezes_row, MayFreeze, FreezingStands}
use Rattle.judge.proofs.Spreading.{same_or}

-- no SCX-record covers more than four
pub few : (h : History) (s : ℕ) → count h s ≤ 4
few h s = ⊎_elim (λ z. omega (z, arith)) (λ d. let c = plan_counted (plan h s) (omega (d, arith)) in omega (c.count, c.few, arith)) (same_or (count h s) 0)

-- a row that changes no info word, and of SCX-record s neither the plan nor the nodes
keeps_frozen : (r : Row) (h : History) (s j : ℕ) → ((n : ℕ) → value (r ⊳ h) (info n) ≡ value h (info n)) → member (r ⊳ h) s j ≡ member h s j → IsFrozen (r ⊳ h) s j ↔ IsFrozen h s j
keeps_frozen r h s j infos same =
    let P : ℕ → Type 0 = λ n. HasHeld (r ⊳ h) (info n) s in
    (λ p. held_back r h (info (member h s j)) s (infos (member h s j)) (subst P same p), λ p. subst P (sym same) (held_more r h (info (member h s j)) s p))

keeps_named : (r : Row) (h : History) (s : ℕ) → ((n : ℕ) → value (r ⊳ h) (info n) ≡ value h (info n)) → IsNamedScx (r ⊳ h) s → IsNamedScx h s
keeps_named r h s infos (n, p) = (n, held_back r h (info n) s (infos n) p)

not_named : (r : Row) (h : History) (s : ℕ) → ¬ IsNamedScx (r ⊳ h) s → ¬ IsNamedScx h s
not_named r h s d q = d (named_scx_more r h s q)

-- Rows that freeze nothing

freezes_not : (r : Row) (k : Kind) → r.kind ≡ k → is_freeze k ≡ false → freezes_row r ≡ false
freezes_not r k e f = ap (λ (x : Kind). is_freeze x && not (eqb r.before r.after)) e ∙ rw f refl

freezes_nothing : (r : Row) → r.after ≡ r.before → freezes_row r ≡ false
freezes_nothing r e = go (is_freeze r.kind)
  where
    go : (b : Bool) → b && not (eqb r.before r.after) ≡ false
    go false = refl
    go true = rw (eq-eqb r.before r.after (sym e)) refl

-- the row changes no info word, no plan and no node of an SCX-record
record KeepsFrozen (r : Row) (h : History) (s : ℕ) : Type 0 where
  infos : (n : ℕ) → value (r ⊳ h) (info n) ≡ value h (info n)
  plan : plan (r ⊳ h) s ≡ plan h s
  members : (j : ℕ) → member (r ⊳ h) s j ≡ member h s j

module _ (lay : Layout) (h : History) (r : Row) (frozen : List ℕ) (n : FreezingStands lay h frozen) where
  -- of one SCX-record
  first_same : (s j : ℕ) → KeepsFrozen r h s → j < count (r ⊳ h) s → IsFrozen (r ⊳ h) s j ↔ (j < frozen_of frozen s)
  first_same s j k l =
      let within : j < count h s = rw (← (ap count_of k.plan)) l in
      let old = n.first s j within in
      let both = keeps_frozen r h s j k.infos (k.members j) in
      (λ p. old.0 (both.0 p), λ e. both.1 (old.1 e))

  none_same : (s : ℕ) → ¬ IsNamedScx (r ⊳ h) s → frozen_of frozen s ≡ 0
  none_same s d = n.none s (not_named r h s d)

  all_same : ((s : ℕ) → KeepsFrozen r h s) → FreezingStands lay (r ⊳ h) frozen
  all_same k = record {
    size = n.size;
    first = λ s j l. first_same s j (k s) l;
    none = none_same;
  }

  -- a word of an SCX-record that is not named is filled
  at_fill : (u : ℕ) (part : ScxWord) → r.word ≡ scx u part → ¬ IsNamedScx h u → FreezingStands lay (r ⊳ h) frozen
  at_fill u part word unnamed = record {
    size = n.size;
    first = λ s j l. ⊎_elim
        (λ e.
        let free : ¬ IsNamedScx (r ⊳ h) s = λ q. unnamed (subst (λ (t : ℕ). IsNamedScx h t) e (keeps_named r h s infos q)) in
        let zero_is = none_same s free in
        (λ p. absurd (free (member (r ⊳ h) s j, p)), λ i. absurd (omega (i, zero_is, arith))))
        (λ d. first_same s j (record { infos = infos; plan = others s d Plan; members = λ i. others s d (Member i) }) l)
        (same_or s u);
    none = none_same;
  }
    where
      infos : (m : ℕ) → value (r ⊳ h) (info m) ≡ value h (info m)
      infos m = value_apart r h (scx u part) (info m) word refl

      others : (s : ℕ) → s ≢ u → (a : ScxWord) → value (r ⊳ h) (scx s a) ≡ value h (scx s a)
      others s d a = value_apart r h (scx u part) (scx s a) word (scx_apart u s part a (λ e. d (sym e)))

  -- a word of a node, and no info
  at_node : (m : ℕ) (part : NodeWord) → r.word ≡ node m part → same_node_word part Info ≡ false → FreezingStands lay (r ⊳ h) frozen
  at_node m part word d = all_same (λ s. record {
    infos = λ i. value_apart r h (node m part) (info i) word (node_word_apart m i part Info d);
    plan = value_apart r h (node m part) (scx s Plan) word refl;
    members = λ j. value_apart r h (node m part) (scx s (Member j)) word refl;
  })

  -- a word of an SCX-record that fills never change
  at_state : (u : ℕ) (part : ScxWord) → r.word ≡ scx u part → same_scx_word part Plan ≡ false → ((j : ℕ) → same_scx_word part (Member j) ≡ false) → FreezingStands lay (r ⊳ h) frozen
  at_state u part word d e = all_same (λ s. record {
    infos = λ i. value_apart r h (scx u part) (info i) word refl;
    plan = value_apart r h (scx u part) (scx s Plan) word (scx_word_apart u s part Plan d);
    members = λ j. value_apart r h (scx u part) (scx s (Member j)) word (scx_word_apart u s part (Member j) (e j));
  })

  at_nothing : r.before ≡ value h r.word → r.after ≡ r.before → FreezingStands lay (r ⊳ h) frozen
  at_nothing b e = let same = value_quiet r h b e in all_same (λ s. record { infos = λ i. same (info i); plan = same (scx s Plan); members = λ j. same (scx s (Member j)) })

  -- Rows that freeze

  module _ (lawful : Lawful lay (r ⊳ h)) (s j : ℕ) (w : FreezeWins lay h r s j) where
    known : Facts lay h
    known = facts_before lay h r lawful

    -- this many were frozen before it
    number : frozen_of frozen s ≡ j
    number =
        let at = n.first s j w.freeze.within in
        let below : j < frozen_of frozen s → ⊥ = λ e. freeze_is_new known w (at.1 e) in
        let above : j ≤ frozen_of frozen s = up j refl in
        ⊎_elim (λ e. e) (λ d. absurd (below (omega (above, d, arith)))) (same_or (frozen_of frozen s) j)
      where
        up : (i : ℕ) → i ≡ j → i ≤ frozen_of frozen s
        up zero e = omega arith
        up (suc i) e =
            let l : i < j = omega (e, arith) in
            let k : i < count h s = omega (l, w.freeze.within, arith) in
            let q = (n.first s i k).0 (w.freeze.earlier i l) in
            omega (q, arith)

    inside : s < all_scx lay
    inside = named_scx_inside lay (r ⊳ h) s lawful (member h s j, held_at (r ⊳ h) (info (member h s j)) s (value_at r h (info (member h s j)) w.freeze.word ∙ w.stored))

    changes : r.before ≢ r.after
    changes e =
        let same : seen h s j ≡ s = sym w.found ∙ e ∙ w.stored in
        freeze_rest known w j w.freeze.within (rw same (freeze_in_progress known w))

    freezes_it : freezes_row r ≡ true
    freezes_it = ap (λ (x : Kind). is_freeze x && not (eqb r.before r.after)) w.kind ∙ rw (ne_eqb r.before r.after changes) refl

    room : (r.after < length frozen) × (frozen_of frozen r.after < 4)
    room =
        let size = n.size in
        let most = few h s in
        (omega (inside, size, w.stored, arith), rw w.stored (omega (number, w.freeze.within, most, arith)))

    more : List ℕ
    more = slice_set frozen s (frozen_of frozen s + 1)

    here : frozen_of more s ≡ j + 1
    unfolding more
    here = get_or-set_same frozen s (frozen_of frozen s + 1) 0 (rw n.size inside) ∙ ap (λ k. k + 1) number

    there : (t : ℕ) → t ≢ s → frozen_of more t ≡ frozen_of frozen t
    unfolding more
    there t d = get_or-set_other frozen s t (frozen_of frozen s + 1) 0 d

    held_one : IsFrozen (r ⊳ h) s j
    held_one = subst (λ (m : ℕ). HasHeld (r ⊳ h) (info m) s) (sym (freeze_keeps_scx known w s (Member j))) (held_at (r ⊳ h) (info (member h s j)) s (value_at r h (info (member h s j)) w.freeze.word ∙ w.stored))

    old_one : (t i : ℕ) → IsFrozen h t i → IsFrozen (r ⊳ h) t i
    old_one t i p = subst (λ (m : ℕ). HasHeld (r ⊳ h) (info m) t) (sym (freeze_keeps_scx known w t (Member i))) (held_more r h (info (member h t i)) t p)

    split_one : (t i : ℕ) → IsFrozen (r ⊳ h) t i → ((t ≡ s) × (member h s j ≡ member h t i)) ⊎ IsFrozen h t i
    split_one t i p = freeze_held known w (member h t i) t (subst (λ (m : ℕ). HasHeld (r ⊳ h) (info m) t) (freeze_keeps_scx known w t (Member i)) p)

    of_it : (i : ℕ) → i < count h s → IsFrozen (r ⊳ h) s i ↔ (i < frozen_of more s)
    of_it i l =
        let old = n.first s i l in (
          λ p. ⊎_elim (λ e. ⊎_elim (λ same. omega (same, here, arith)) (λ d. absurd (freeze_distinct known w j i w.freeze.within l (λ same. d (sym same)) e.1)) (same_or i j)) (λ q. let k = old.0 q in omega (k, number, here, arith)) (split_one s i p),
          λ e. ⊎_elim (λ same. subst (λ (k : ℕ). IsFrozen (r ⊳ h) s k) (sym same) held_one) (λ d. old_one s i (old.1 (omega (e, here, number, d, arith)))) (same_or i j),
        )

    of_other : (t i : ℕ) → t ≢ s → i < count h t → IsFrozen (r ⊳ h) t i ↔ (i < frozen_of more t)
    of_other t i d l =
        let old = n.first t i l in
        let same = there t d in (
          λ p. ⊎_elim (λ e. absurd (d e.0)) (λ q. let k = old.0 q in omega (k, same, arith)) (split_one t i p),
          λ e. old_one t i (old.1 (omega (e, same, arith))),
        )

    after_freeze : FreezingStands lay (r ⊳ h) more
    unfolding more
    after_freeze = record {
      size = length-set frozen s (frozen_of frozen s + 1) ∙ n.size;
      first = λ t i l.
          let within : i < count h t = rw (← (ap count_of (freeze_keeps_scx known w t Plan))) l in
          ⊎_elim
          (λ e. let k : i < count h s = rw (← e) within in let P : ℕ → Type 0 = λ u. IsFrozen (r ⊳ h) u i ↔ (i < frozen_of more u) in subst P (sym e) (of_it i k))
          (λ d. of_other t i d within)
          (same_or t s);
      none = λ t free. ⊎_elim
          (λ e. absurd (free (subst (λ (u : ℕ). IsNamedScx (r ⊳ h) u) (sym e) (member (r ⊳ h) s j, held_one))))
          (λ d. there t d ∙ none_same t free)
          (same_or t s);
    }

    is_more : frozen_after r frozen ≡ more
    unfolding more
    is_more = ap (λ b. cond b (slice_set frozen r.after (frozen_of frozen r.after + 1)) frozen) freezes_it ∙ rw w.stored refl

fill_is_no_info : (part : NodeWord) → IsNodeFill part → same_node_word part Info ≡ false
fill_is_no_info Info p = absurd p
fill_is_no_info Marked p = absurd p
fill_is_no_info _ p = refl

-- A row, by its kind

record After (lay : Layout) (h : History) (r : Row) (frozen : List ℕ) : Type 0 where
  numbers : FreezingStands lay (r ⊳ h) (frozen_after r frozen)
  may : MayFreeze frozen r

unfrozen : (lay : Layout) (h : History) (r : Row) (frozen : List ℕ) → freezes_row r ≡ false → FreezingStands lay (r ⊳ h) frozen → After lay h r frozen
unfrozen lay h r frozen e n = record {
  numbers = rw (ap (λ b. cond b (slice_set frozen r.after (frozen_of frozen r.after + 1)) frozen) e) n;
  may = λ t. absurd (let both : true ≡ false = sym t ∙ e in cc);
}

after_row : (lay : Layout) (h : History) (r : Row) (frozen : List ℕ) → Lawful lay (r ⊳ h) → FreezingStands lay h frozen → Change lay h r → After lay h r frozen
after_row lay h r frozen l n (nothing i e) = unfrozen lay h r frozen (freezes_nothing r e) (at_nothing lay h r frozen n (lawful_row lay h r l).before e)
after_row lay h r frozen l n (fills_node m part x) = unfrozen lay h r frozen (freezes_not r Fill x.kind refl) (at_node lay h r frozen n m part x.word (fill_is_no_info part x.fill))
after_row lay h r frozen l n (fills_scx u part x) = unfrozen lay h r frozen (freezes_not r Fill x.kind refl) (at_fill lay h r frozen n u part x.word x.is_open.unnamed)
after_row lay h r frozen l n (freezes s j w) = record {
  numbers = rw (is_more lay h r frozen n l s j w) (after_freeze lay h r frozen n l s j w);
  may = λ t. room lay h r frozen n l s j w;
}
after_row lay h r frozen l n (sets_frozen s k x) = unfrozen lay h r frozen (freezes_not r SetFrozen k refl) (at_state lay h r frozen n s AllFrozen x.word refl (λ j. refl))
after_row lay h r frozen l n (marks s j k x) = unfrozen lay h r frozen (freezes_not r Mark k refl) (at_node lay h r frozen n (member h s j) Marked x.word refl)
after_row lay h r frozen l n (updates s x) = unfrozen lay h r frozen (freezes_not r Update x.kind refl) (at_node lay h r frozen n (member h s (field_index h s)) (Child _) x.update.word refl)
after_row lay h r frozen l n (commits s k x) = unfrozen lay h r frozen (freezes_not r Commit k refl) (at_state lay h r frozen n s State x.word refl (λ j. refl))
after_row lay h r frozen l n (aborts s j k x) = unfrozen lay h r frozen (freezes_not r Abort k refl) (at_state lay h r frozen n s State x.word refl (λ i. refl))

pub frozen_more : (lay : Layout) (h : History) (r : Row) (frozen : List ℕ) → Lawful lay (r ⊳ h) → FreezingStands lay h frozen → FreezingStands lay (r ⊳ h) (frozen_after r frozen)
frozen_more lay h r frozen l n = (after_row lay h r frozen l n (change lay h r l)).numbers

pub may_freeze : (lay : Layout) (h : History) (r : Row) (frozen : List ℕ) → Lawful lay (r ⊳ h) → FreezingStands lay h frozen → MayFreeze frozen r
may_freeze lay h r frozen l n = (after_row lay h r frozen l n (change lay h r l)).may

-- at the start the dummy alone is named, and no SCX-record covers a node
pub frozen_start : (lay : Layout) (frozen : List ℕ) → length frozen ≡ all_scx lay → ((s : ℕ) → frozen_of frozen s ≡ 0) → FreezingStands lay (Start lay.mode) frozen
frozen_start lay frozen size zeros = record {
  size = size;
  first = λ s j l. absurd (let z : count (Start lay.mode) s ≡ 0 = ap count_of (opening_scx (empty lay.mode) s Plan refl) in omega (l, z, arith));
  none = λ s d. zeros s;
}
