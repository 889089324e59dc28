-- Up to four snapshots in four slots.
use Rattle.std.proofs.Common.{◌≡◌, ◌≤◌, List, [], ◌∷◌, length, take, sym, ap, arith, length-take-le}
use Rattle.prims.specs.declared.snap.Snap.{Snap}
use Rattle.prims.specs.declared.snaps.Snaps.TheInside.{Inside}
use Rattle.prims.specs.Snap.{snap_at}

-- the four slots of a list of at most four snapshots: those after the last are blank
abbrev pub slots_of : List Snap → List Snap
slots_of snaps = snap_at snaps 0 ∷ snap_at snaps 1 ∷ snap_at snaps 2 ∷ snap_at snaps 3 ∷ []

-- slots with blanks after the last are those of the list that they hold
pub slots_back : (s : Inside) → (s.count ≤ 4) × (s.slots ≡ slots_of (take s.count s.slots)) → record { slots = slots_of (take s.count s.slots); count = length (take s.count s.slots) } ≡ s
slots_back s x =
    let four : length s.slots ≡ 4 = ap length x.1 in
    let count : length (take s.count s.slots) ≡ s.count = length-take-le s.count s.slots (omega (arith, x.0)) in
    λ i. record { slots = sym x.1 i; count = count i }
