-- What is out of reach stays so; by periods a note goes on.
use Rattle.std.proofs.Common.{◌≡◌, ◌<◌, ◌⊎◌, ℕ, inl, inr, ⊎_elim}
use Rattle.histories.specs.Common.{Layout, Row, History, ◌⊳◌, Extends, Lawful}
use Rattle.arena.proofs.Lemmas.{ends_self, ends_trans}
use Rattle.histories.proofs.Lemmas.{lawful_row, lawful_since}
use Rattle.ordered_map.specs.Runs.{IsMapRun}
use Rattle.ordered_map.proofs.MapLemmas.{run_since}
use Rattle.resting.specs.Dead.{HasLeftUnmarked, IsDead, IsMarkedNode, IsMarkedRecord, IsOut, IsUnborn}
use Rattle.resting.specs.Periods.{IsPeriod, WasDead, Note, marked_or_dead, dead_by, out_of_reach, IsRightNote}
use Rattle.resting.specs.Reach.{IsOutOfReach}
use Rattle.resting.specs.Records.{Record, record_of, the_node, the_scx}
use Rattle.resting.specs.Rests.{HaveRestedAt, HaveMovedOn, IsRowSince, AreSince}
use Rattle.resting.proofs.Resting.{rested_before, row_keeps}
use Rattle.resting.proofs.Outside.{out_sorts}
use Rattle.resting.proofs.Removed.{removed_after, removed_out}
use Rattle.resting.proofs.StaysUnborn.{unborn_out}
use Rattle.resting.proofs.Touched.{left_out, let_go_out}
use Rattle.resting.proofs.Unborn.{aborted_out}

-- rows keep it
pub out_since : (lay : Layout) (h m : History) (last : ℕ → History) (x : Record) → Extends m h → IsOutOfReach lay h last x → IsOutOfReach lay m last x
out_since lay h m last x e out k g r within = out k g r (ends_trans k m h within e)

-- rests keep it
pub out_anew : (lay : Layout) (h : History) (last next : ℕ → History) (x : Record) → HaveMovedOn lay h last next → IsOutOfReach lay h last x → IsOutOfReach lay h next x
out_anew lay h last next x a out k g r e run rested within since = out k g r e run before within (ends_trans g (next r.pass.0) (last r.pass.0) since (a.later r.pass.0 i))
  where
    i : r.pass.0 < lay.passes
    i = (lawful_row lay g r (lawful_since lay k (r ⊳ g) run.1.lawful within)).pass

    before : HaveRestedAt lay k last
    before o j = rested_before lay h k o (last o) (next o) e (a.rested o j) (rested o j) (a.within o j) (a.later o j)

-- no row that its pass may make is of it
pub next_not_out : (lay : Layout) (h : History) (r : Row) (last : ℕ → History) (x : Record) → IsMapRun lay (r ⊳ h) → HaveRestedAt lay h last → IsRowSince lay r.pass.0 (last r.pass.0) h r → IsOutOfReach lay h last x → ¬ (record_of r.word ≡ x)
next_not_out lay h r last x run rested new out = out (r ⊳ h) h r (inr (ends_self h)) run (row_keeps lay h r last rested new) (ends_self (r ⊳ h)) (rested r.pass.0 (lawful_row lay h r run.1.lawful).pass).within

-- what is dead is out of reach when a period is over
pub dead_out : (lay : Layout) (h : History) (last : ℕ → History) (p : ℕ) (t : History) (x : Record) → IsMapRun lay h → p < lay.passes → HaveRestedAt lay h last → AreSince lay last t → IsDead lay p x t → IsOutOfReach lay h last x
dead_out lay h last p t (the_node n) run is_pass rested since (inl d) = removed_out lay h last t since n d
dead_out lay h last p t (the_node n) run is_pass rested since (inr (inl d)) = left_out lay h last t since n d
dead_out lay h last p t (the_node n) run is_pass rested since (inr (inr d)) = aborted_out lay h last t p n run (ends_trans h (last p) t (rested p is_pass).within (since p is_pass)) d (since p is_pass)
dead_out lay h last p t (the_scx s) run is_pass rested since d = let_go_out lay h last t since s d

-- Periods and notes

pub period_over : (lay : Layout) (h : History) (last : ℕ → History) (snapshot : History) → Extends h snapshot → HaveRestedAt lay h last → AreSince lay last snapshot → IsPeriod lay snapshot h
period_over lay h last snapshot within rested since = record { ordered = within; rested = λ o i. record { rest = last o; since = since o i; by = (rested o i).within; over = (rested o i).over } }

-- what is marked is dead after a period
marked_dead : (lay : Layout) (p : ℕ) (x : Record) (t snapshot end : History) → Lawful lay end → Extends snapshot t → IsPeriod lay snapshot end → IsMarkedRecord x t → IsDead lay p x end
marked_dead lay p (the_node n) t snapshot end l after period d = inl (removed_after lay t snapshot end n l d after period)
marked_dead lay p (the_scx s) t snapshot end l after period d = absurd d

module _ (lay : Layout) (p : ℕ) (x : Record) (h : History) (last : ℕ → History) where
  pub note_since : (m : History) (n : Note) → Extends m h → IsRightNote lay p x h last n → IsRightNote lay p x m last n
  note_since m (marked_or_dead t) e y = (ends_trans m h t e y.0, ⊎_elim inl (λ z. inr (⊎_elim inl (λ out. inr (out_since lay h m last x e out)) z)) y.1)
  note_since m (dead_by end) e y = (ends_trans m h end e y.0, ⊎_elim inl (λ out. inr (out_since lay h m last x e out)) y.1)
  note_since m out_of_reach e y = out_since lay h m last x e y

  pub note_anew : (next : ℕ → History) (n : Note) → HaveMovedOn lay h last next → IsRightNote lay p x h last n → IsRightNote lay p x h next n
  note_anew next (marked_or_dead t) a y = (y.0, ⊎_elim inl (λ z. inr (⊎_elim inl (λ out. inr (out_anew lay h last next x a out)) z)) y.1)
  note_anew next (dead_by end) a y = (y.0, ⊎_elim inl (λ out. inr (out_anew lay h last next x a out)) y.1)
  note_anew next out_of_reach a y = out_anew lay h last next x a y

  -- marked or dead before the snapshot: one period
  pub note_once : (t snapshot : History) → Lawful lay h → Extends snapshot t → IsPeriod lay snapshot h → IsRightNote lay p x h last (marked_or_dead t) → IsRightNote lay p x h last (dead_by h)
  note_once t snapshot l after period y = (ends_self h, go y.1)
    where
      go : IsMarkedRecord x t ⊎ (IsDead lay p x t ⊎ IsOutOfReach lay h last x) → WasDead lay p x h ⊎ IsOutOfReach lay h last x
      go (inl d) = inl record { moment = h; within = ends_self h; dead = marked_dead lay p x t snapshot h l after period d }
      go (inr (inl d)) = inl record { moment = t; within = ends_trans h snapshot t period.ordered after; dead = d }
      go (inr (inr out)) = inr out

  -- the first was over before the second snapshot: two
  pub note_free : (end snapshot : History) → IsMapRun lay h → p < lay.passes → HaveRestedAt lay h last → AreSince lay last snapshot → Extends snapshot end → IsRightNote lay p x h last (dead_by end) → IsRightNote lay p x h last out_of_reach
  note_free end snapshot run is_pass rested since after y = ⊎_elim over (λ out. out) y.1
    where
      over : WasDead lay p x end → IsOutOfReach lay h last x
      over z = dead_out lay h last p z.moment x run is_pass rested (λ o i. ends_trans (last o) snapshot z.moment (since o i) (ends_trans snapshot end z.moment after z.within)) z.dead

-- What is a pass's own and out since its rest it may note as marked or dead: so it is, or out of
-- reach already.
pub note_out : (lay : Layout) (h : History) (last : ℕ → History) (p : ℕ) (t : History) (n : ℕ) → IsMapRun lay h → p < lay.passes → Extends h t → IsOut lay p (last p) t n → IsRightNote lay p (the_node n) h last (marked_or_dead t)
note_out lay h last p t n run is_pass within x = (within, go (out_sorts lay p (last p) t n x (run_since lay h t run within)))
  where
    go : IsMarkedNode t n ⊎ (HasLeftUnmarked t n ⊎ IsUnborn lay p (last p) n) → IsMarkedNode t n ⊎ (IsDead lay p (the_node n) t ⊎ IsOutOfReach lay h last (the_node n))
    go (inl m) = inl m
    go (inr (inl d)) = inr (inl (inr (inl d)))
    go (inr (inr u)) = inr (inr (unborn_out lay h last p n is_pass u))
