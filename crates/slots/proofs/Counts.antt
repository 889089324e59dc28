-- Rests that are counted in words, and what others learn there.
use Rattle.std.proofs.Common.{◌≡◌, ◌≢◌, ◌+◌, ◌*◌, ◌<◌, ◌≤◌, ℕ, suc, Bool, true, false, eq-eqb, ne_eqb, List, length, slice_index, slice_set, length-set, inr, refl, sym, ◌∙◌, ap, subst, arith}
use Rattle.std.proofs.lemmas.List.{get_or-set_same, get_or-set_other}
use native.Mathlib.Decide.{ℕ_discrete}
use Rattle.arena.specs.ScxRecords.{bit}
use Rattle.histories.specs.Common.{Row, History, ◌⊳◌, Extends, table_size, Lawful}
use Rattle.arena.proofs.Lemmas.{ends_self, ends_trans}
use Rattle.prims.specs.Moments.{AreFinished}
use Rattle.resting.specs.Rests.{HasRestedAt, HaveMovedOn, HaveRestedAt}
use Rattle.resting.proofs.Lemmas.{away_more, away_now, rested_away, rested_now}
use Rattle.slots.specs.Counts.{Tally, no_rests, rests_place, rests_word, CountsRests, after_rest, after_leaving, with_rest, HasSeenRests, HasPolled}
use Rattle.slots.specs.Held.{Held}
use Rattle.slots.specs.Lasting.{Lasting}
use Rattle.slots.specs.Window.{IsWindow}
use Rattle.slots.proofs.Windows.{moves, stores_behind}

-- Moments

pub rest_same : (last : ℕ → History) (o : ℕ) (m : History) → with_rest last o m o ≡ m
rest_same last o m = rw (eq-eqb o o refl) refl

pub rest_other : (last : ℕ → History) (o : ℕ) (m : History) (p : ℕ) → p ≢ o → with_rest last o m p ≡ last p
rest_other last o m p d = rw (ne_eqb p o d) refl

-- a pass that is between two calls may rest now
module _ (t : Lasting) (h : History) (last : ℕ → History) (o : ℕ) (rested : HaveRestedAt t.lay h last) (over : AreFinished t.lay o 0 h) where
  pub rests_now : HaveRestedAt t.lay h (with_rest last o h)
  rests_now p i = go (ℕ_discrete p o)
    where
      go : Dec (p ≡ o) → HasRestedAt t.lay h p (with_rest last o h p)
      go (yes e) = subst (λ q. HasRestedAt t.lay h q (with_rest last o h q)) (sym e) (subst (HasRestedAt t.lay h o) (sym (rest_same last o h)) (rested_now t.lay h o over))
      go (no d) = subst (HasRestedAt t.lay h p) (sym (rest_other last o h p d)) (rested p i)

  pub moves_now : HaveMovedOn t.lay h last (with_rest last o h)
  moves_now = record { rested = rested; within = λ p i. (rests_now p i).within; later = later }
    where
      later : (p : ℕ) → p < t.lay.passes → Extends (with_rest last o h p) (last p)
      later p i = go (ℕ_discrete p o)
        where
          go : Dec (p ≡ o) → Extends (with_rest last o h p) (last p)
          go (yes e) = subst (λ m. Extends m (last p)) (sym (ap (with_rest last o h) e ∙ rest_same last o h)) (rested p i).within
          go (no d) = subst (λ m. Extends m (last p)) (sym (rest_other last o h p d)) (ends_self (last p))

-- Counts

pub counts_open : (t : Lasting) (words : List ℕ) (h : History) → table_size t.table + 8 * t.lay.passes ≤ length words → ((o : ℕ) → o < t.lay.passes → slice_index words (rests_place t.table o) ≡ 0) → CountsRests t words h no_rests
counts_open t words h room zeros = record { room = room; holds = zeros; between = λ o i e. absurd (let d : false ≡ true = e in cc) }

module _ (t : Lasting) (words : List ℕ) (h : History) (tally : Tally) (x : CountsRests t words h tally) where
  -- what is stored in the table does not count
  pub counts_stores : (at v : ℕ) → at < table_size t.table → CountsRests t (slice_set words at v) h tally
  counts_stores at v small = record {
    room = rw (length-set words at v) x.room;
    holds = λ o i. get_or-set_other words at (rests_place t.table o) v 0 (λ e. omega (arith, small, e)) ∙ x.holds o i;
    between = x.between;
  }

  -- a row of a pass that is there
  pub counts_rows : (r : Row) → Lawful t.lay (r ⊳ h) → tally.away r.pass.0 ≡ false → CountsRests t words (r ⊳ h) tally
  counts_rows r l there = record {
    room = x.room;
    holds = x.holds;
    between = λ o i away.
        let other : ¬ (r.pass.0 ≡ o) = (λ e. let d : true ≡ false = sym away ∙ ap tally.away (sym e) ∙ there in cc) in
        (rested_away t.lay (r ⊳ h) o h (r ⊳ h) l (away_more t.lay h r o h other (away_now t.lay h o (x.between o i away))) (ends_self (r ⊳ h)) (inr (ends_self h))).over;
  }

  module _ (o : ℕ) (is_pass : o < t.lay.passes) (over : AreFinished t.lay o 0 h) where
    inside : rests_place t.table o < length words
    inside = let room = x.room in omega (arith, room, is_pass)

    -- a word is stored, and counts for the pass alone
    stored : (v : ℕ) (next : Tally) → v ≡ rests_word next o → ((p : ℕ) → p ≢ o → rests_word next p ≡ rests_word tally p) → ((p : ℕ) → p ≢ o → next.away p ≡ tally.away p) → CountsRests t (slice_set words (rests_place t.table o) v) h next
    stored v next is same left = record {
      room = rw (length-set words (rests_place t.table o) v) x.room;
      holds = λ p i. holds p i (ℕ_discrete p o);
      between = λ p i away. between p i away (ℕ_discrete p o);
    }
      where
        holds : (p : ℕ) → p < t.lay.passes → Dec (p ≡ o) → slice_index (slice_set words (rests_place t.table o) v) (rests_place t.table p) ≡ rests_word next p
        holds p i (yes e) = subst (λ q. slice_index (slice_set words (rests_place t.table o) v) (rests_place t.table q) ≡ rests_word next q) (sym e) (get_or-set_same words (rests_place t.table o) v 0 inside ∙ is)
        holds p i (no d) = get_or-set_other words (rests_place t.table o) (rests_place t.table p) v 0 (λ e. d (omega (arith, e))) ∙ x.holds p i ∙ sym (same p d)

        between : (p : ℕ) → p < t.lay.passes → next.away p ≡ true → Dec (p ≡ o) → AreFinished t.lay p 0 h
        between p i away (yes e) = subst (λ q. AreFinished t.lay q 0 h) (sym e) over
        between p i away (no d) = x.between p i (sym (left p d) ∙ away)

    pub counts_rest : CountsRests t (slice_set words (rests_place t.table o) (2 * suc (tally.count o))) h (after_rest tally o)
    counts_rest = stored (2 * suc (tally.count o)) (after_rest tally o) (rw (eq-eqb o o refl) (omega arith)) (λ p d. rw (ne_eqb p o d) refl) (λ p d. rw (ne_eqb p o d) refl)

    pub counts_leave : CountsRests t (slice_set words (rests_place t.table o) (2 * tally.count o + 1)) h (after_leaving tally o)
    counts_leave = stored (2 * tally.count o + 1) (after_leaving tally o) (rw (eq-eqb o o refl) refl) (λ p d. rw (ne_eqb p o d) refl) (λ p d. rw (ne_eqb p o d) refl)

module _ (t : Lasting) (words : List ℕ) (h : History) (last : ℕ → History) (held : Held) (tally : Tally) (x : IsWindow t words h last held) where
  pub rests_more : (o : ℕ) → CountsRests t words h tally → o < t.lay.passes → AreFinished t.lay o 0 h
      → IsWindow t (slice_set words (rests_place t.table o) (2 * suc (tally.count o))) h (with_rest last o h) held × CountsRests t (slice_set words (rests_place t.table o) (2 * suc (tally.count o))) h (after_rest tally o)
  rests_more o c i over = (
    stores_behind t words h (with_rest last o h) held (moves t words h last held x (with_rest last o h) (moves_now t h last o x.rested over) (rests_now t h last o x.rested over)) (rests_place t.table o) (2 * suc (tally.count o)) (omega arith),
    counts_rest t words h tally c o i over,
  )

  pub leaves : (o : ℕ) → CountsRests t words h tally → o < t.lay.passes → AreFinished t.lay o 0 h
      → IsWindow t (slice_set words (rests_place t.table o) (2 * tally.count o + 1)) h last held × CountsRests t (slice_set words (rests_place t.table o) (2 * tally.count o + 1)) h (after_leaving tally o)
  leaves o c i over = (stores_behind t words h last held x (rests_place t.table o) (2 * tally.count o + 1) (omega arith), counts_leave t words h tally c o i over)

  -- a pass that is away rests now
  polled_away : (o : ℕ) (m : History) → CountsRests t words h tally → o < t.lay.passes → tally.away o ≡ true → Extends h m → HasPolled t words h last held tally o m
  polled_away o m c i away within =
      let over : AreFinished t.lay o 0 h = c.between o i away in
      record {
        next = with_rest last o h;
        moved = moves_now t h last o x.rested over;
        window = moves t words h last held x (with_rest last o h) (moves_now t h last o x.rested over) (rests_now t h last o x.rested over);
        since = subst (λ k. Extends k m) (sym (rest_same last o h)) within;
        others = λ p d. rest_other last o h p d;
        stays = λ e. absurd (let here : true ≡ false = sym away ∙ e in cc);
      }

  pub polls : (o seen : ℕ) (m : History) → CountsRests t words h tally → o < t.lay.passes → HasSeenRests h last tally o m seen → slice_index words (rests_place t.table o) ≢ 2 * seen → HasPolled t words h last held tally o m
  polls o seen m c i y other = go (tally.away o) refl
    where
      go : (b : Bool) → tally.away o ≡ b → HasPolled t words h last held tally o m
      go true e = polled_away o m c i e y.within
      go false e = record {
        next = last;
        moved = record { rested = x.rested; within = λ p j. (x.rested p j).within; later = λ p j. ends_self (last p) };
        window = x;
        since = y.since (
            let word : slice_index words (rests_place t.table o) ≡ 2 * tally.count o + 0 = c.holds o i ∙ ap (λ b. 2 * tally.count o + bit b) e in
            let often = y.so_often in
            omega (arith, word, often, other)
            );
        others = λ p d. refl;
        stays = λ e. refl;
      }

  pub finds_away : (o k : ℕ) → CountsRests t words h tally → o < t.lay.passes → slice_index words (rests_place t.table o) ≡ 2 * k + 1 → HasPolled t words h last held tally o h
  finds_away o k c i odd = go (tally.away o) refl
    where
      go : (b : Bool) → tally.away o ≡ b → HasPolled t words h last held tally o h
      go true e = polled_away o h c i e (ends_self h)
      go false e = absurd (let word : slice_index words (rests_place t.table o) ≡ 2 * tally.count o + 0 = c.holds o i ∙ ap (λ b. 2 * tally.count o + bit b) e in omega (arith, word, odd))

-- What was seen

module _ (h : History) (last : ℕ → History) (tally : Tally) (o : ℕ) (m : History) where
  pub seen_now : Extends h m → HasSeenRests h last tally o m (tally.count o)
  seen_now within = record { within = within; so_often = omega arith; since = λ z. absurd (omega (arith, z)) }

  module _ (seen : ℕ) (x : HasSeenRests h last tally o m seen) where
    pub seen_rows : (r : Row) → HasSeenRests (r ⊳ h) last tally o m seen
    seen_rows r = record { within = inr x.within; so_often = x.so_often; since = x.since }

    pub seen_moves : (t : Lasting) (next : ℕ → History) → o < t.lay.passes → HaveMovedOn t.lay h last next → HasSeenRests h next tally o m seen
    seen_moves t next i moved = record { within = x.within; so_often = x.so_often; since = λ z. ends_trans (next o) (last o) m (moved.later o i) (x.since z) }

    pub seen_rests : (p : ℕ) → HasSeenRests h (with_rest last p h) (after_rest tally p) o m seen
    seen_rests p = go (ℕ_discrete o p)
      where
        go : Dec (o ≡ p) → HasSeenRests h (with_rest last p h) (after_rest tally p) o m seen
        go (yes e) = record {
          within = x.within;
          so_often = rw (eq-eqb o p e) (let often = x.so_often in omega (arith, often));
          since = λ z. subst (λ k. Extends k m) (sym (ap (with_rest last p h) e ∙ rest_same last p h)) x.within;
        }
        go (no d) = record {
          within = x.within;
          so_often = rw (ne_eqb o p d) x.so_often;
          since = λ z. subst (λ k. Extends k m) (sym (rest_other last p h o d)) (x.since (rw (ne_eqb o p d) at z));
        }

    pub seen_leaves : (p : ℕ) → HasSeenRests h last (after_leaving tally p) o m seen
    seen_leaves p = record { within = x.within; so_often = x.so_often; since = x.since }
