-- A lawful row, and what is remembered of the log.
use Rattle.std.proofs.Common.{◌≡◌, ℕ, zero, suc, ◌+◌, ◌<◌, ◌≤◌, ◌⊎◌, inl, inr, ⊎_elim, Bool, true, false, ◌||◌, cond, eqb, eq-eqb, ne_eqb, replicate, List, [], ◌∷◌, length, refl, sym, ◌∙◌, ap, subst, arith, get_or-set_other, get_or-set_same}
use Rattle.std.proofs.Math.ListN.{length-set}
use Rattle.std.proofs.Math.Nat.{mul-le-mul_left}
use Rattle.std.proofs.lemmas.List.{length-replicate}
use Rattle.std.specs.Prelude.{◌&&◌, not, slice_set, slice_index_or}
use Rattle.histories.specs.Common.{Layout, Mode, Plan, Member, Word, Kind, Fill, Freeze, SetFrozen, Mark, Commit, Abort, Row, all_nodes, all_scx, IsWord, info, scx, History, Start, ◌⊳◌, value}
use Rattle.histories.specs.Common.{Lawful, HasWon, log, last, has, members_from, finalized_from, Contents, word_at, count, count_of, plan, member, field_index, scx_finalizes, plan_finalizes}
use Rattle.arena.proofs.Lemmas.{or_right}
use Rattle.histories.proofs.Lemmas.{Change, UpdateWins, nothing, fills_node, fills_scx, freezes, sets_frozen, marks, updates, commits, aborts, change, facts_before, facts, Facts, lawful_row, Logs, logs, same, wins, log_wins, update_changes, update_holds, update_about, update_is_first, update_won, update_split, named_scx_inside, won_named, won_more}
use Rattle.judge.specs.Graph.{has_flag}
use Rattle.judge.specs.Enters.{is_field_update, makes_entry}
use Rattle.judge.specs.Entering.{plan_in, member_in, holder_in, last_after, finals_after, MayEnter, EnteringStands}
use Rattle.judge.specs.declared.entering.Entering.{Entering}
use Rattle.judge.proofs.Counts.{set_here, set_there, unset_less, no_flags, all_unset, zeros, zero_list}
use Rattle.judge.proofs.Spreading.{same_or}
use Rattle.judge.proofs.Frozen.{few}

-- Which rows make an entry

enters_not : (r : Row) (k : Kind) → r.kind ≡ k → is_field_update k r.word ≡ false → makes_entry r ≡ false
enters_not r k e f = ap (λ (x : Kind). is_field_update x r.word && not (eqb r.before r.after)) e ∙ rw f refl

enters_nothing : (r : Row) → r.after ≡ r.before → makes_entry r ≡ false
enters_nothing r e = go (is_field_update r.kind r.word)
  where
    go : (b : Bool) → b && not (eqb r.before r.after) ≡ false
    go false = refl
    go true = rw (eq-eqb r.before r.after (sym e)) refl

enters_win : (lay : Layout) (h : History) (r : Row) (s : ℕ) → Facts lay h → UpdateWins h r s → makes_entry r ≡ true
enters_win lay h r s f w = rw (w.kind, w.update.word, ne_eqb r.before r.after (update_changes f w)) refl

abbrev Entries : Layout → History → Row → Type 0
Entries lay h r = ((makes_entry r ≡ false) × (log lay (r ⊳ h) ≡ log lay h) × ((s : ℕ) → HasWon (r ⊳ h) s → HasWon h s)) ⊎ ((s : ℕ) × UpdateWins h r s)

entries_of : (lay : Layout) (h : History) (r : Row) → Lawful lay (r ⊳ h) → Entries lay h r
entries_of lay h r l = by (change lay h r l) (logs lay h r l)
  where
    quiet : makes_entry r ≡ false → Logs lay h r → Entries lay h r
    quiet e (same a b) = inl (e, a, b)
    quiet e (wins u w a) = inr (u, w)

    by : Change lay h r → Logs lay h r → Entries lay h r
    by (nothing i e) g = quiet (enters_nothing r e) g
    by (fills_node m part x) g = quiet (enters_not r Fill x.kind refl) g
    by (fills_scx u part x) g = quiet (enters_not r Fill x.kind refl) g
    by (freezes s j w) g = quiet (enters_not r Freeze w.kind refl) g
    by (sets_frozen s k x) g = quiet (enters_not r SetFrozen k refl) g
    by (marks s j k x) g = quiet (enters_not r Mark k refl) g
    by (updates s x) g = inr (s, x)
    by (commits s k x) g = quiet (enters_not r Commit k refl) g
    by (aborts s j k x) g = quiet (enters_not r Abort k refl) g

-- The members of an entry, one by one

or_assoc : (a b c : Bool) → a || (b || c) ≡ (a || b) || c
or_assoc true b c = refl
or_assoc false b c = refl

or_false : (a : Bool) → a || false ≡ a
or_false true = refl
or_false false = refl

plus_suc : (j k : ℕ) → suc j + k ≡ j + suc k
plus_suc j k = omega arith

plus_zero : (j : ℕ) → j ≡ j + 0
plus_zero j = omega arith

from_zero : (k : ℕ) → 0 + k ≡ k
from_zero k = omega arith

-- each of them by itself: where P says of an index whether it is there
module _ (h : History) (s n : ℕ) where
  abbrev is_at : ℕ → Bool
  is_at i = eqb (member h s i) n

  abbrev is_gone : ℕ → Bool
  is_gone i = scx_finalizes h s i && eqb (member h s i) n

  members_last : (j k : ℕ) → has (members_from h s j (suc k)) n ≡ (has (members_from h s j k) n || is_at (j + k))
  members_last j zero = or_false (is_at j) ∙ ap is_at (plus_zero j)
  members_last j (suc k) = ap (λ b. is_at j || b) (members_last (suc j) k) ∙ or_assoc (is_at j) (has (members_from h s (suc j) k) n) (is_at (suc j + k)) ∙ ap (λ i. (is_at j || has (members_from h s (suc j) k) n) || is_at i) (plus_suc j k)

  has_if : (b : Bool) (m : ℕ) (ms : List ℕ) → has (cond b (m ∷ ms) ms) n ≡ ((b && eqb m n) || has ms n)
  has_if true m ms = refl
  has_if false m ms = refl

  gone_last : (j k : ℕ) → has (finalized_from h s j (suc k)) n ≡ (has (finalized_from h s j k) n || is_gone (j + k))
  gone_last j zero = has_if (scx_finalizes h s j) (member h s j) [] ∙ or_false (is_gone j) ∙ ap is_gone (plus_zero j)
  gone_last j (suc k) =
      let front = has_if (scx_finalizes h s j) (member h s j) (finalized_from h s (suc j) (suc k)) in
      let back = has_if (scx_finalizes h s j) (member h s j) (finalized_from h s (suc j) k) in
      front ∙ ap (λ b. is_gone j || b) (gone_last (suc j) k) ∙ or_assoc (is_gone j) (has (finalized_from h s (suc j) k) n) (is_gone (suc j + k)) ∙ ap (λ i. (is_gone j || has (finalized_from h s (suc j) k) n) || is_gone i) (plus_suc j k) ∙ ap (λ b. b || is_gone (j + suc k)) (sym back)

  members_next : (k : ℕ) → has (members_from h s 0 (suc k)) n ≡ (has (members_from h s 0 k) n || is_at k)
  members_next k = members_last 0 k ∙ ap (λ i. has (members_from h s 0 k) n || is_at i) (from_zero k)

  gone_next : (k : ℕ) → has (finalized_from h s 0 (suc k)) n ≡ (has (finalized_from h s 0 k) n || is_gone k)
  gone_next k = gone_last 0 k ∙ ap (λ i. has (finalized_from h s 0 k) n || is_gone i) (from_zero k)

-- What the code does, by the lists of the entry

last_long : (c : Contents) (s k e : ℕ) (places : List ℕ) → length (last_after c s k e places) ≡ length places
last_long c s zero e places = refl
last_long c s (suc k) e places = length-set (last_after c s k e places) (member_in c s k) e ∙ last_long c s k e places

set_long : (b : Bool) (flags : List Bool) (m size : ℕ) → length flags ≡ size → length (cond b (slice_set flags m true) flags) ≡ size
set_long true flags m size e = length-set flags m true ∙ e
set_long false flags m size e = e

finals_long : (c : Contents) (s k : ℕ) (finals : List Bool) → length (finals_after c s k finals) ≡ length finals
finals_long c s zero finals = refl
finals_long c s (suc k) finals = set_long (plan_finalizes (plan_in c s) k) (finals_after c s k finals) (member_in c s k) (length finals) (finals_long c s k finals)

or_true : (a : Bool) → a || true ≡ true
or_true true = refl
or_true false = refl

finals_step : (b : Bool) (flags : List Bool) (m n : ℕ) (x y : Bool) → m < length flags → has_flag flags n ≡ (x || y) → has_flag (cond b (slice_set flags m true) flags) n ≡ ((x || (b && eqb m n)) || y)
finals_step false flags m n x y l e = e ∙ ap (λ z. z || y) (sym (or_false x))
finals_step true flags m n x y l e = ⊎_elim
    (λ q. ap (has_flag (slice_set flags m true)) q ∙ set_here flags m l ∙ sym (ap (λ z. (x || z) || y) (eq-eqb m n (sym q)) ∙ ap (λ z. z || y) (or_true x)))
    (λ d. set_there flags m n d ∙ e ∙ sym (ap (λ z. (x || z) || y) (ne_eqb m n (λ q. d (sym q))) ∙ ap (λ z. z || y) (or_false x)))
    (same_or n m)

module _ (c : Contents) (h : History) (s : ℕ) (agrees : (j : ℕ) → j < 4 → member_in c s j ≡ member h s j) (planned : plan_in c s ≡ plan h s) where
  last_is : (k e : ℕ) (places : List ℕ) (n : ℕ) → k ≤ 4 → ((j : ℕ) → j < k → member h s j < length places) → slice_index_or (last_after c s k e places) n 0 ≡ cond (has (members_from h s 0 k) n) e (slice_index_or places n 0)
  last_is zero e places n few inside = refl
  last_is (suc k) e places n few inside =
      let before = last_is k e places n (omega (few, arith)) (λ j l. inside j (omega (l, arith))) in
      let at = agrees k (omega (few, arith)) in
      let next = members_next h s n k in
      rw (at, next) (⊎_elim
      (λ m.
      let here : slice_index_or (slice_set (last_after c s k e places) (member h s k) e) n 0 ≡ e = rw m (get_or-set_same (last_after c s k e places) (member h s k) e 0 (let i = inside k (omega arith) in rw (last_long c s k e places) i)) in
      let there : (has (members_from h s 0 k) n || eqb (member h s k) n) ≡ true = or_right (has (members_from h s 0 k) n) (eqb (member h s k) n) (eq-eqb (member h s k) n (sym m)) in
      here ∙ sym (ap (λ b. cond b e (slice_index_or places n 0)) there))
      (λ d.
      let other = get_or-set_other (last_after c s k e places) (member h s k) n e 0 d in
      let not_there : (has (members_from h s 0 k) n || eqb (member h s k) n) ≡ has (members_from h s 0 k) n = ap (λ b. has (members_from h s 0 k) n || b) (ne_eqb (member h s k) n (λ q. d (sym q))) ∙ or_false (has (members_from h s 0 k) n) in
      other ∙ before ∙ sym (ap (λ b. cond b e (slice_index_or places n 0)) not_there))
      (same_or n (member h s k)))

  finals_is : (k : ℕ) (finals : List Bool) (n : ℕ) → k ≤ 4 → ((j : ℕ) → j < k → member h s j < length finals) → has_flag (finals_after c s k finals) n ≡ (has (finalized_from h s 0 k) n || has_flag finals n)
  finals_is zero finals n few inside = refl
  finals_is (suc k) finals n few inside =
      let before = finals_is k finals n (omega (few, arith)) (λ j l. inside j (omega (l, arith))) in
      let at = agrees k (omega (few, arith)) in
      let i : member_in c s k < length (finals_after c s k finals) = rw (at, finals_long c s k finals) (inside k (omega arith)) in
      let step = finals_step (plan_finalizes (plan_in c s) k) (finals_after c s k finals) (member_in c s k) n (has (finalized_from h s 0 k) n) (has_flag finals n) i before in
      let gone : (plan_finalizes (plan_in c s) k && eqb (member_in c s k) n) ≡ (scx_finalizes h s k && eqb (member h s k) n) = rw (planned, at) refl in
      step ∙ ap (λ z. (has (finalized_from h s 0 k) n || z) || has_flag finals n) gone ∙ ap (λ z. z || has_flag finals n) (sym (gone_next h s n k))

-- A row

scx_fit : (lay : Layout) → all_scx lay ≤ 36028797018963969
scx_fit lay = let most = mul-le-mul_left lay.passes lay.scx_fit in let few_passes = lay.passes_fit in omega (most, few_passes, arith)

abbrev Agrees : Layout → Contents → History → Type 0
Agrees lay c h = (w : Word) → IsWord lay w → word_at c w ≡ value h w

module _ (lay : Layout) (h : History) (r : Row) (lawful : Lawful lay (r ⊳ h)) (c : Contents) (table : c.layout ≡ lay) (holds : Agrees lay c h) (e new : Entering) (old : EnteringStands lay h e) where
  known : Facts lay h
  known = facts_before lay h r lawful

  module _ (s : ℕ) (w : UpdateWins h r s) where
    -- the info of the field's node names it
    is_holder : holder_in c r.word ≡ s
    is_holder =
        let n = member h s (field_index h s) in
        let inside : IsWord lay r.word = (lawful_row lay h r lawful).word in
        let at : IsWord lay (info n) = subst (λ (x : Word). IsWord lay x) w.update.word inside in
        ap (holder_in c) w.update.word ∙ holds (info n) at ∙ update_holds known w

    inside_scx : s < all_scx lay
    inside_scx = named_scx_inside lay (r ⊳ h) s lawful (won_named s (facts_before_row) (update_won known w))
      where
        facts_before_row : Facts lay (r ⊳ h)
        facts_before_row = facts lay (r ⊳ h) lawful

    agrees : (j : ℕ) → j < 4 → member_in c s j ≡ member h s j
    agrees j l = holds (scx s (Member j)) (inside_scx, l)

    planned : plan_in c s ≡ plan h s
    planned = holds (scx s Plan) (inside_scx, tt)

    members : (j : ℕ) → j < count h s → member h s j < all_nodes lay
    members j l = (update_about known w).inside j l

    counts : count_of (plan_in c s) ≡ count h s
    counts = ap count_of planned

    unset : has_flag e.won.items s ≡ false
    unset = not_true (has_flag e.won.items s) (λ q. update_is_first known w ((old.won s).0 q))
      where
        not_true : (b : Bool) → (b ≡ true → ⊥) → b ≡ false
        not_true true d = absurd (d refl)
        not_true false d = refl

    may_win : MayEnter c e s
    may_win = record {
      inside = rw table inside_scx;
      won_size = rw table old.won_size;
      last_size = rw table old.last_size;
      finals_size = rw table old.finals_size;
      members = λ j l. let k : j < count h s = rw (← counts) l in let m = members j k in let most = few h s in rw (agrees j (omega (k, most, arith)), table) m;
      fits = let all = old.counted in let small = scx_fit lay in omega (all, small, arith);
    }

  pub may_enter : makes_entry r ≡ true → MayEnter c e (holder_in c r.word)
  may_enter t = ⊎_elim (λ q. absurd (let both : true ≡ false = sym t ∙ q.0 in cc)) (λ q. rw (is_holder q.0 q.1) (may_win q.0 q.1)) (entries_of lay h r lawful)

  pub entering_more : new.entries ≡ cond (makes_entry r) (e.entries + 1) e.entries → new.won.items ≡ cond (makes_entry r) (slice_set e.won.items (holder_in c r.word) true) e.won.items → new.last.items ≡ cond (makes_entry r) (last_after c (holder_in c r.word) (count_of (plan_in c (holder_in c r.word))) (e.entries + 1) e.last.items) e.last.items → new.finals.items ≡ cond (makes_entry r) (finals_after c (holder_in c r.word) (count_of (plan_in c (holder_in c r.word))) e.finals.items) e.finals.items → EnteringStands lay (r ⊳ h) new
  entering_more a b d f = ⊎_elim quiet win (entries_of lay h r lawful)
    where
      quiet : (makes_entry r ≡ false) × (log lay (r ⊳ h) ≡ log lay h) × ((s : ℕ) → HasWon (r ⊳ h) s → HasWon h s) → EnteringStands lay (r ⊳ h) new
      quiet q =
          let entries : new.entries ≡ e.entries = a ∙ ap (λ t. cond t (e.entries + 1) e.entries) q.0 in
          let won : new.won.items ≡ e.won.items = b ∙ ap (λ t. cond t (slice_set e.won.items (holder_in c r.word) true) e.won.items) q.0 in
          let places : new.last.items ≡ e.last.items = d ∙ ap (λ t. cond t (last_after c (holder_in c r.word) (count_of (plan_in c (holder_in c r.word))) (e.entries + 1) e.last.items) e.last.items) q.0 in
          let finals : new.finals.items ≡ e.finals.items = f ∙ ap (λ t. cond t (finals_after c (holder_in c r.word) (count_of (plan_in c (holder_in c r.word))) e.finals.items) e.finals.items) q.0 in
          record {
            won_size = rw won old.won_size;
            last_size = rw places old.last_size;
            finals_size = rw finals old.finals_size;
            entries = entries ∙ old.entries ∙ ap length (sym q.1);
            counted = rw (entries, won) old.counted;
            won = λ s. let o = old.won s in (λ t. won_more r h s (o.0 (rw (← won) t)), λ t. rw won (o.1 (q.2 s t)));
            last = λ n. rw (places, q.1) (old.last n);
            finals = λ n. rw (finals, q.1) (old.finals n);
          }

      win : (s : ℕ) × UpdateWins h r s → EnteringStands lay (r ⊳ h) new
      win (s, w) =
          let t = enters_win lay h r s known w in
          let holder = is_holder s w in
          let entries : new.entries ≡ e.entries + 1 = a ∙ ap (λ t. cond t (e.entries + 1) e.entries) t in
          let won : new.won.items ≡ slice_set e.won.items s true = b ∙ rw (t, holder) refl in
          let places : new.last.items ≡ last_after c s (count h s) (e.entries + 1) e.last.items = d ∙ rw (t, holder, counts s w) refl in
          let finals : new.finals.items ≡ finals_after c s (count h s) e.finals.items = f ∙ rw (t, holder, counts s w) refl in
          let list = log_wins known w in
          let most = few h s in
          let within : s < length e.won.items = rw old.won_size (inside_scx s w) in
          let less = unset_less e.won.items s within (unset s w) in
          let before = old.counted in
          let number : new.entries ≡ suc (length (log lay h)) = entries ∙ rw old.entries (plus_one (length (log lay h))) in
          record {
            won_size = rw (won, length-set) old.won_size;
            last_size = rw (places, last_long) old.last_size;
            finals_size = rw (finals, finals_long) old.finals_size;
            entries = number ∙ ap length (sym list);
            counted = rw (entries, won) (omega (less, before, arith));
            won = λ u. rw won (⊎_elim
                (λ m. (λ q. rw m (update_won known w), λ q. rw m (set_here e.won.items s within)))
                (λ m. let o = old.won u in let there = set_there e.won.items s u m in (λ q. won_more r h u (o.0 (sym there ∙ q)), λ q. there ∙ o.1 (⊎_elim (λ k. absurd (m k)) (λ k. k) (update_split known w u q))))
                (same_or u s));
            last = λ n. rw (places, list) (last_is c h s (agrees s w) (planned s w) (count h s) (e.entries + 1) e.last.items n most (λ j l. rw old.last_size (members s w j l)) ∙ parts n (has (members_from h s 0 (count h s)) n) (sym entries ∙ number) (old.last n));
            finals = λ n. rw (finals, list) (finals_is c h s (agrees s w) (planned s w) (count h s) e.finals.items n most (λ j l. rw old.finals_size (members s w j l)) ∙ ap (λ z. has (finalized_from h s 0 (count h s)) n || z) (old.finals n));
          }
        where
          plus_one : (n : ℕ) → n + 1 ≡ suc n
          plus_one n = omega arith

          parts : (n : ℕ) (b : Bool) → e.entries + 1 ≡ suc (length (log lay h)) → slice_index_or e.last.items n 0 ≡ last (log lay h) n → cond b (e.entries + 1) (slice_index_or e.last.items n 0) ≡ cond b (suc (length (log lay h))) (last (log lay h) n)
          parts n true p q = p
          parts n false p q = q

-- at the start the log is empty

none_won : (mode : Mode) (s : ℕ) → ¬ HasWon (Start mode) s
unfolding HasWon
none_won mode s w = w

pub entering_start : (lay : Layout) (e : Entering) → e.entries ≡ 0 → e.won.items ≡ replicate (all_scx lay) false → e.last.items ≡ zero_list (all_nodes lay) → e.finals.items ≡ replicate (all_nodes lay) false → EnteringStands lay (Start lay.mode) e
unfolding log
entering_start lay e a b d f = record {
  won_size = rw (b, length-replicate) refl;
  last_size = rw (d, length-replicate) refl;
  finals_size = rw (f, length-replicate) refl;
  entries = a;
  counted = rw (a, b) (let all = all_unset (all_scx lay) in omega (all, arith));
  won = λ s. (λ q. absurd (let none = no_flags (all_scx lay) s in let both : false ≡ true = sym none ∙ (rw (← b) q) in cc), λ w. absurd (none_won lay.mode s w));
  last = λ n. rw d (zeros (all_nodes lay) n);
  finals = λ n. rw f (no_flags (all_nodes lay) n);
}
