-- The row at which an update has won: its entry, and the last entries of its nodes until then.
use Rattle.std.proofs.Common.{◌≡◌, ◌≢◌, ℕ, ◌<◌, false, ◌⊎◌, inl, inr, ⊎_elim, ◌∷◌, refl, sym, ◌∙◌, ap, subst}
use native.Mathlib.Decide.{ℕ_discrete}
use Rattle.histories.specs.Common.{Layout, Row, Freeze, Update, ScxWord, Plan, Member, Seen, scx, info, state, History, Opened, ◌⊳◌, value, HasHeld, Extends}
use Rattle.histories.specs.Common.{count, count_of, member, seen, IsNamed, IsNamedScx, IsWin, HasWon, Lawful, IsMember, log, last, is_final, descriptor}
use Rattle.arena.proofs.Lemmas.{ends_self, ends_trans, held_at, held_since}
use Rattle.histories.proofs.Lemmas.{About, Effect, Facts, FreezeWins, IsScxFill, UpdateWins, effect, entry_of, facts, facts_before, freeze, freeze_finds, freeze_keeps_info, freeze_keeps_scx, freeze_stores, holds_member, last_since, last_waits, lawful_row, lawful_since, lawful_tail, log_same, log_wins, quiet, scx_since, scx_stays, some_is_real, update, update_flagged, update_is_first, update_keeps_info, win_not_final, won_more, won_since}

-- Moments

-- of two moments one comes before the other
pub ends_either : (h a b : History) → Extends h a → Extends h b → Extends a b ⊎ Extends b a
ends_either (Opened o) a b p q = inl (subst (λ k. Extends k b) (sym p) q)
ends_either (r ⊳ h) a b (inl p) q = inl (subst (λ k. Extends k b) (sym p) q)
ends_either (r ⊳ h) a b (inr p) (inl q) = inr (subst (λ k. Extends k a) (sym q) (inr p))
ends_either (r ⊳ h) a b (inr p) (inr q) = ends_either h a b p q

-- The i-th node of an SCX-record: what was seen there, and what holds it

-- before an update of s has won, and while s holds its i-th node n, the last entry of n is that of
-- each moment at which the info of n was what the snapshot found there
pub last_held : (lay : Layout) (h m : History) (s i n q : ℕ) → Lawful lay h → s ≢ 0 → i < count h s → member h s i ≡ n → seen h s i ≡ q → value h (info n) ≡ s → ¬ HasWon h s → Extends h m → IsNamed lay m n → value m (state q) ≢ 0 → value m (info n) ≡ q → last (log lay h) n ≡ last (log lay m) n
last_held lay (Opened o) m s i n q l real w is_n is_q held waits e named rest here = ap (λ k. last (log lay k) n) (sym e)
last_held lay (r ⊳ h) m s i n q l real w is_n is_q held waits (inl e) named rest here = ap (λ k. last (log lay k) n) (sym e)
last_held lay (r ⊳ h) m s i n q l real w is_n is_q held waits (inr e) named rest here = go (ℕ_discrete (value h (info n)) s) (λ w' is_n' is_q' held' waits'. last_held lay h m s i n q (lawful_tail lay h r l) real w' is_n' is_q' held' waits' e named rest here)
  where
    f : Facts lay h
    f = facts_before lay h r l

    before : value h (info n) ≡ s → (i < count h s → member h s i ≡ n → seen h s i ≡ q → value h (info n) ≡ s → ¬ HasWon h s → last (log lay h) n ≡ last (log lay m) n) → last (log lay (r ⊳ h)) n ≡ last (log lay m) n
    before p more =
        let words : (a : ScxWord) → IsScxFill a → value (r ⊳ h) (scx s a) ≡ value h (scx s a) = scx_stays lay h r s l real (n, held_at h (info n) s p) in
        (last_waits lay h r n s l p waits).last
        ∙ more (rw (ap count_of (words Plan tt)) at w) (sym (words (Member i) tt) ∙ is_n) (sym (words (Seen i) tt) ∙ is_q) p (λ y. waits (won_more r h s y))

    -- this row has frozen n
    by_freeze : (u j : ℕ) → FreezeWins lay h r u j → u ≡ s → member h u j ≡ n → Dec (i ≡ j) → last (log lay (r ⊳ h)) n ≡ last (log lay m) n
    by_freeze u j x a b (no d) =
        let about : About lay (descriptor (r ⊳ h) s) (r ⊳ h) s = (facts lay (r ⊳ h) l).about s n real (held_at (r ⊳ h) (info n) s held) in
        let same : (c : ScxWord) → value (r ⊳ h) (scx s c) ≡ value h (scx s c) = λ c. freeze_keeps_scx f x s c in
        let k : j < count (r ⊳ h) s = rw (ap count_of (same Plan), sym a) x.freeze.within in
        absurd (about.distinct i j w k d (is_n ∙ sym b ∙ ap (λ t. member h t j) a ∙ sym (same (Member j))))
    by_freeze u j x a b (yes d) =
        let same : value (r ⊳ h) (scx s (Seen i)) ≡ value h (scx s (Seen i)) = freeze_keeps_scx f x s (Seen i) in
        let found : value h (info n) ≡ q = rw b at (freeze_finds f x) ∙ rw (a, sym d) (sym same) ∙ is_q in
        ap (λ es. last es n) (log_same lay h r (λ z. absurd (let y : Freeze ≡ Update = sym x.kind ∙ z in cc)))
        ∙ (last_since lay h m n q (lawful_tail lay h r l) e named rest found).last

    go : Dec (value h (info n) ≡ s) → (i < count h s → member h s i ≡ n → seen h s i ≡ q → value h (info n) ≡ s → ¬ HasWon h s → last (log lay h) n ≡ last (log lay m) n) → last (log lay (r ⊳ h)) n ≡ last (log lay m) n
    go (yes p) more = before p more
    go (no d) more = by_effect (effect lay h r l)
      where
        by_effect : Effect lay h r → last (log lay (r ⊳ h)) n ≡ last (log lay m) n
        by_effect (quiet k) = absurd (d (sym (k.info n) ∙ held))
        by_effect (update u x) = absurd (d (sym (update_keeps_info f x n) ∙ held))
        by_effect (freeze u j x) = at_node (ℕ_discrete (member h u j) n)
          where
            at_node : Dec (member h u j ≡ n) → last (log lay (r ⊳ h)) n ≡ last (log lay m) n
            at_node (no p) = absurd (d (sym (freeze_keeps_info f x n p) ∙ held))
            at_node (yes p) = by_freeze u j x (sym (freeze_stores f x) ∙ rw (← p) at held) p (ℕ_discrete i j)

-- The row at which it has won

-- the row of the history at which an update of s has won
pub record IsWonAt (lay : Layout) (h : History) (s : ℕ) : Type 0 where
  pub row : Row
  pub before : History
  pub within : Extends h (row ⊳ before)
  pub wins : IsWin before row s

-- a row that is a winning update of s makes that s has won
pub won_by : (r : Row) (h : History) (s : ℕ) → IsWin h r s → HasWon (r ⊳ h) s
unfolding HasWon
won_by r h s w = inl w

-- where s has won, there is such a row
pub won_at : (lay : Layout) (h : History) (s : ℕ) → HasWon h s → IsWonAt lay h s
unfolding HasWon
won_at lay (Opened o) s w = absurd w
won_at lay (r ⊳ h) s (inl w) = record { row = r; before = h; within = inl refl; wins = w }
won_at lay (r ⊳ h) s (inr w) = let x = won_at lay h s w in record { row = x.row; before = x.before; within = inr x.within; wins = x.wins }

module _ (lay : Layout) (h : History) (s : ℕ) (l : Lawful lay h) (x : IsWonAt lay h s) where
  -- the row is lawful
  row_lawful : Lawful lay (x.row ⊳ x.before)
  row_lawful = lawful_since lay h (x.row ⊳ x.before) l x.within

  before_facts : Facts lay x.before
  before_facts = facts_before lay x.before x.row row_lawful

  row_wins : UpdateWins x.before x.row s
  row_wins = record { kind = x.wins.kind; update = x.wins.update; before = (lawful_row lay x.before x.row row_lawful).before; found = x.wins.found; stored = x.wins.update.exchange.won x.wins.found }

  -- the row adds the entry to the log
  pub won_logged : log lay (x.row ⊳ x.before) ≡ entry_of lay x.before s ∷ log lay x.before
  won_logged = log_wins before_facts row_wins

  won_is_real : s ≢ 0
  won_is_real = some_is_real before_facts (update_flagged before_facts row_wins).some

  -- it is later than the moment before
  before_ends : Extends h x.before
  before_ends = ends_trans h (x.row ⊳ x.before) x.before x.within (inr (ends_self x.before))

  -- s was named before the row
  pub won_was_named : IsNamedScx x.before s
  won_was_named = (member x.before s 0, (update_flagged before_facts row_wins).frozen 0 (update_flagged before_facts row_wins).some)

  -- the settled words of s are the same ever since the row
  pub won_words : (a : ScxWord) → IsScxFill a → value h (scx s a) ≡ value x.before (scx s a)
  won_words = scx_since lay h x.before s l before_ends won_is_real won_was_named

  module _ (i : ℕ) (w : i < count x.before s) where
    covers : IsMember x.before s (member x.before s i)
    covers = record { index = i; within = w; is = refl }

    holds : value x.before (info (member x.before s i)) ≡ s
    holds = holds_member before_facts row_wins covers

    -- none of its nodes was final just before the row
    pub won_not_final : is_final (log lay x.before) (member x.before s i) ≡ false
    won_not_final = win_not_final lay x.before x.row s (member x.before s i) row_lawful row_wins covers

    -- the last entry of each was then that of every moment
    -- at which its info was what the snapshot found
    pub won_last : (m : History) → Extends h m → IsNamed lay m (member x.before s i) → value m (state (seen x.before s i)) ≢ 0 → value m (info (member x.before s i)) ≡ seen x.before s i → last (log lay x.before) (member x.before s i) ≡ last (log lay m) (member x.before s i)
    won_last m e named rest here = ⊎_elim
        (λ p. last_held lay x.before m s i (member x.before s i) (seen x.before s i) (lawful_tail lay x.before x.row row_lawful) won_is_real w refl refl holds (update_is_first before_facts row_wins) p named rest here)
        (λ p. absurd (gone p))
        (ends_either h x.before m before_ends e)
      where
        -- what was seen is never there again
        gone : Extends m x.before → ⊥
        gone p =
            let lm : Lawful lay m = lawful_since lay h m l e in
            let same : (a : ScxWord) → IsScxFill a → value m (scx s a) ≡ value x.before (scx s a) = scx_since lay m x.before s lm p won_is_real won_was_named in
            let held : HasHeld m (info (member x.before s i)) s = held_since m x.before (info (member x.before s i)) s p (held_at x.before (info (member x.before s i)) s holds) in
            let about : About lay (descriptor m s) m s = (facts lay m lm).about s (member x.before s i) won_is_real held in
            about.gone i (rw (ap count_of (same Plan tt)) w) (rw (same (Member i) tt) held) (rw (same (Member i) tt, same (Seen i) tt) here)

  -- the row is later than every moment at which s had not won
  pub won_since_start : (m : History) → Extends h m → ¬ HasWon m s → Extends x.before m
  won_since_start m e d = ⊎_elim behind (λ p. absurd (d (won_since lay m (x.row ⊳ x.before) s (lawful_since lay h m l e) p row_won))) (ends_either h (x.row ⊳ x.before) m x.within e)
    where
      row_won : HasWon (x.row ⊳ x.before) s
      row_won = won_by x.row x.before s x.wins

      behind : Extends (x.row ⊳ x.before) m → Extends x.before m
      behind (inl p) = absurd (d (subst (λ k. HasWon k s) (sym p) row_won))
      behind (inr p) = p
