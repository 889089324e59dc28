-- Rests: what a pass does keeps them, a later one makes the earlier good, and a pass that is away
-- rests all the while.
use Rattle.std.proofs.Common.{◌≡◌, ◌⊎◌, ℕ, inl, inr, sym, ◌∙◌, ap, subst}
use Rattle.histories.specs.Common.{Layout, Row, History, Opened, ◌⊳◌, Extends, IsOwnScx, IsTakenScx, Lawful}
use Rattle.arena.proofs.Lemmas.{ends_self, ends_trans}
use Rattle.histories.proofs.Lemmas.{lawful_since, state_since, untaken_by_others}
use Rattle.prims.specs.Moments.{AreFinished}
use Rattle.touching.proofs.Lemmas.{one_first, taken_scx_since}
use Rattle.resting.specs.Rests.{past_node, past_scx, IsRowSince, HasRestedAt, IsAway, HaveRestedAt}
use Rattle.resting.proofs.Rows.{no_row_behind, taken_node_since}

-- between two calls a pass may rest
pub rested_now : (lay : Layout) (h : History) (o : ℕ) → AreFinished lay o 0 h → HasRestedAt lay h o h
rested_now lay h o over = record { within = ends_self h; over = over; rows = λ r g within since own. absurd (no_row_behind h g r within since) }

-- what was done since a rest was done since each earlier
wider : (lay : Layout) (o : ℕ) (l q h : History) (r : Row) → Extends l q → IsRowSince lay o l h r → IsRowSince lay o q h r
wider lay o l q h r e (inl x) = inl record { call = x.call; layout = x.layout; pass = x.pass; since = ends_trans x.call.start l q x.since e; step = x.step }
wider lay o l q h r e (inr (past_node n free kind word)) = inr (past_node n (λ t. free (taken_node_since l q n e t)) kind word)
wider lay o l q h r e (inr (past_scx s part own free word)) = inr (past_scx s part own (λ t. free (taken_scx_since l q s e t)) word)

-- a rest is good as long as a later one is
pub rested_before : (lay : Layout) (h k : History) (o : ℕ) (q l : History) → Extends k h → HasRestedAt lay h o q → HasRestedAt lay k o l → Extends h l → Extends l q → HasRestedAt lay k o q
rested_before lay h k o q l e x y here later = record { within = ends_trans k h q e x.within; over = x.over; rows = rows }
  where
    rows : (r : Row) (g : History) → Extends k (r ⊳ g) → Extends g q → r.pass.0 ≡ o → IsRowSince lay o q g r
    rows r g within since own = go (one_first k (r ⊳ g) l within y.within)
      where
        go : Extends (r ⊳ g) l ⊎ Extends l (r ⊳ g) → IsRowSince lay o q g r
        go (inl (inl a)) = x.rows r g (subst (Extends h) a here) since own
        go (inl (inr a)) = wider lay o l q g r later (y.rows r g within a own)
        go (inr a) = x.rows r g (ends_trans h l (r ⊳ g) here a) since own

-- nor does it depend on what came later
pub rested_within : (lay : Layout) (h m : History) (o : ℕ) (rest : History) → Extends h m → Extends m rest → HasRestedAt lay h o rest → HasRestedAt lay m o rest
rested_within lay h m o rest e later x = record { within = later; over = x.over; rows = λ r g within since own. x.rows r g (ends_trans h m (r ⊳ g) e within) since own }

-- what is asked of the newest row
abbrev KeepsRow : Layout → ℕ → History → History → Type 0
KeepsRow lay o rest (Opened p) = Unit {0}
KeepsRow lay o rest (r ⊳ h) = r.pass.0 ≡ o → IsRowSince lay o rest h r

-- a row that its pass may make keeps each pass's rest
pub row_keeps : (lay : Layout) (h : History) (r : Row) (last : ℕ → History) → HaveRestedAt lay h last → IsRowSince lay r.pass.0 (last r.pass.0) h r → HaveRestedAt lay (r ⊳ h) last
row_keeps lay h r last rested new o i = record { within = inr (rested o i).within; over = (rested o i).over; rows = rows }
  where
    now : KeepsRow lay o (last o) (r ⊳ h)
    now own = subst (λ p. IsRowSince lay p (last p) h r) own new

    rows : (q : Row) (g : History) → Extends (r ⊳ h) (q ⊳ g) → Extends g (last o) → q.pass.0 ≡ o → IsRowSince lay o (last o) g q
    rows q g (inl e) since own = subst (KeepsRow lay o (last o)) (sym e) now own
    rows q g (inr e) since own = (rested o i).rows q g e since own

-- Away

pub away_now : (lay : Layout) (h : History) (o : ℕ) → AreFinished lay o 0 h → IsAway lay h o h
away_now lay h o over = record { within = ends_self h; over = over; still = λ r g within since own. no_row_behind h g r within since }

abbrev pass_of : ℕ → History → ℕ
pass_of o (Opened p) = o
pass_of o (r ⊳ h) = r.pass.0

pub away_more : (lay : Layout) (h : History) (r : Row) (o : ℕ) (since : History) → ¬ (r.pass.0 ≡ o) → IsAway lay h o since → IsAway lay (r ⊳ h) o since
away_more lay h r o since other x = record { within = inr x.within; over = x.over; still = still }
  where
    still : (q : Row) (g : History) → Extends (r ⊳ h) (q ⊳ g) → Extends g since → ¬ (q.pass.0 ≡ o)
    still q g (inl e) behind own = other (sym (ap (pass_of o) e) ∙ own)
    still q g (inr e) behind own = x.still q g e behind own

-- who is away takes nothing
module _ (lay : Layout) (h : History) (o : ℕ) (since : History) (l : Lawful lay h) (x : IsAway lay h o since) where
  untaken : (m : History) (s : ℕ) → Extends h m → Extends m since → IsOwnScx lay o s → ¬ IsTakenScx since s → ¬ IsTakenScx m s
  untaken (Opened p) s within e own free t = free (subst (λ k. IsTakenScx k s) (sym e) t)
  untaken (r ⊳ g) s within (inl e) own free t = free (subst (λ k. IsTakenScx k s) (sym e) t)
  untaken (r ⊳ g) s within (inr e) own free t = untaken_by_others lay g r o s (lawful_since lay h (r ⊳ g) l within) (x.still r g within e) own (untaken g s (ends_trans h (r ⊳ g) g within (inr (ends_self g))) e own free) t

  over_then : (m : History) → Extends h m → Extends m since → AreFinished lay o 0 m
  over_then m within e s own real taken z = untaken m s within e own (λ t. x.over s own real t (sym (state_since lay m since s (lawful_since lay h m l within) e (x.over s own real t)) ∙ z)) taken

-- so it rests at each moment
pub rested_away : (lay : Layout) (h : History) (o : ℕ) (since m : History) → Lawful lay h → IsAway lay h o since → Extends h m → Extends m since → HasRestedAt lay h o m
rested_away lay h o since m l x within e = record { within = within; over = over_then lay h o since l x m within e; rows = λ r g a b own. absurd (x.still r g a (ends_trans g m since b e) own) }
