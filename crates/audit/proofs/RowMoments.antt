-- Moments of a history, by how many rows there were.
use Rattle.std.proofs.Common.{◌≡◌, ◌≢◌, ℕ, suc, ◌<◌, ◌≤◌, inl, inr, refl, sym, ◌∙◌, ap, subst, arith}
use Rattle.histories.specs.Common.{Layout, Row, Plan, Member, state, IsMember, IsInProgress, WasInTheWay, History, Opened, ◌⊳◌, Extends, value, Lawful, count_of, member}
use Rattle.arena.proofs.Lemmas.{ends_self, ends_trans}
use Rattle.histories.proofs.Lemmas.{facts, lawful_since, scx_since}
use Rattle.audit.specs.Remembered.{row_count, IsMomentAt, WasRunningAt}

-- a moment has no more rows than the history
pub rows_within : (h g : History) → Extends h g → row_count g ≤ row_count h
rows_within (Opened o) g e = rw e (omega arith)
rows_within (r ⊳ h) g (inl e) = rw e (omega arith)
rows_within (r ⊳ h) g (inr e) = let x = rows_within h g e in omega arith

-- of two moments that with no more rows is one of the other
pub moment_before : (h m g : History) → Extends h m → Extends h g → row_count g ≤ row_count m → Extends m g
moment_before (Opened o) m g e f i = subst (λ (k : History). Extends k g) (sym e) f
moment_before (r ⊳ h) m g (inl e) f i = subst (λ (k : History). Extends k g) (sym e) f
moment_before (r ⊳ h) m g (inr e) (inr f) i = moment_before h m g e f i
moment_before (r ⊳ h) m g (inr e) (inl f) i =
    let x = rows_within h m e in
    let y : row_count g ≡ suc (row_count h) = ap row_count f in
    absurd (omega arith)

-- the last row of a moment, and what was before it
pub record HasRow (m : History) : Type 0 where
  pub row : Row
  pub before : History
  pub is : m ≡ row ⊳ before

pub some_row : (m : History) → 0 < row_count m → HasRow m
some_row (Opened o) i = absurd (omega arith)
some_row (r ⊳ h) i = record { row = r; before = h; is = refl }

-- an SCX-record in progress is not the dummy
pub running_is_real : (lay : Layout) (m : History) (s : ℕ) → Lawful lay m → IsInProgress m s → s ≢ 0
running_is_real lay m s l x e =
    let dummy : value m (state 0) ≡ 2 = (facts lay m l).dummy in
    let here : value m (state 0) ≡ 0 = subst (λ (k : ℕ). value m (state k) ≡ 0) e x.unfinished in
    absurd (omega arith)

module _ (lay : Layout) (h g : History) (s after last : ℕ) (l : Lawful lay h) (start : IsMomentAt h after g) (later : after < last) (running : WasRunningAt h last s) where
  abbrev now : History
  now = running.0

  lawful : Lawful lay now
  lawful = lawful_since lay h now l running.1.within

  real : s ≢ 0
  real = running_is_real lay now s lawful running.2

  -- what it covered then it covers now, and the other way
  member_kept : (n : ℕ) → IsMember h s n → IsMember now s n
  member_kept n c = record {
    index = c.index;
    within = subst (λ (p : ℕ). c.index < count_of p) (scx_since lay h now s l running.1.within real running.2.named Plan tt) c.within;
    is = sym (scx_since lay h now s l running.1.within real running.2.named (Member c.index) tt) ∙ c.is;
  }

  in_the_way : (n : ℕ) → IsMember now s n → WasInTheWay h g n s
  in_the_way n c =
      let many : row_count now ≡ last = running.1.many in
      let rows : row_count g ≡ after = start.many in
      let x = some_row now (omega arith) in
      let same : row_count now ≡ suc (row_count x.before) = ap row_count x.is in
      let within : Extends h (x.row ⊳ x.before) = subst (λ (k : History). Extends h k) x.is running.1.within in
      let own : Extends (x.row ⊳ x.before) x.before = inr (ends_self x.before) in
      record {
        row = x.row;
        before = x.before;
        within = within;
        since = moment_before h x.before g (ends_trans h (x.row ⊳ x.before) x.before within own) start.within (omega arith);
        running = subst (λ (k : History). IsInProgress k s) x.is running.2;
        covers = subst (λ (k : History). IsMember k s n) x.is c;
      }

  -- an SCX-record that covers a node was in its way
  pub way_since : (n : ℕ) → IsMember h s n → WasInTheWay h g n s
  way_since n c = in_the_way n (member_kept n c)

  -- an SCX-record that was in progress was in the way of some node
  pub some_way : (n : ℕ) × WasInTheWay h g n s
  some_way =
      let about = (facts lay now lawful).about s running.2.named.0 real running.2.named.1 in (
        member now s 0,
        in_the_way (member now s 0) record { index = 0; within = about.planned.some; is = refl },
      )
