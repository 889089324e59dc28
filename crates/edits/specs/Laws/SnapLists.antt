-- Lists of snapshots with one more behind them.
use Rattle.std.proofs.Common.{◌≡◌, ℕ, zero, suc, ◌<◌, ◌⊎◌, List, [], ◌∷◌, ◌++◌, length, inl, inr, ⊎_elim, refl, ap, arith}
use Rattle.template.specs.Common.{snap_at, Snap}

-- a place in the longer list is one of the shorter, or the last
pub at_end : (snaps : List Snap) (s : Snap) (i : ℕ) → i < length (snaps ++ s ∷ []) → ((i < length snaps) × (snap_at (snaps ++ s ∷ []) i ≡ snap_at snaps i)) ⊎ ((i ≡ length snaps) × (snap_at (snaps ++ s ∷ []) i ≡ s))
at_end [] s zero p = inr (refl, refl)
at_end [] s (suc i) p = absurd (omega (arith, p))
at_end (t ∷ snaps) s zero p = inl (omega arith, refl)
at_end (t ∷ snaps) s (suc i) p = ⊎_elim (λ x. inl ((let y = x.0 in omega (arith, y)), x.1)) (λ x. inr ((let y = x.0 in omega (arith, y)), x.1)) (at_end snaps s i (omega (arith, p)))

-- the last is there
pub last_there : (snaps : List Snap) (s : Snap) → length snaps < length (snaps ++ s ∷ [])
last_there [] s = omega arith
last_there (t ∷ snaps) s = let x = last_there snaps s in omega (arith, x)

pub last_is : (snaps : List Snap) (s : Snap) → snap_at (snaps ++ s ∷ []) (length snaps) ≡ s
last_is [] s = refl
last_is (t ∷ snaps) s = last_is snaps s

-- and so are those before it
pub others_there : (snaps : List Snap) (s : Snap) (i : ℕ) → i < length snaps → snap_at (snaps ++ s ∷ []) i ≡ snap_at snaps i
others_there [] s i p = absurd (omega (arith, p))
others_there (t ∷ snaps) s zero p = refl
others_there (t ∷ snaps) s (suc i) p = others_there snaps s i (omega (arith, p))

pub one_longer : (snaps : List Snap) (s : Snap) → length (snaps ++ s ∷ []) ≡ suc (length snaps)
one_longer [] s = refl
one_longer (t ∷ snaps) s = ap suc (one_longer snaps s)
