-- What an edit reads.
use Rattle.std.specs.Prelude.{◌≡◌, ◌<◌, ◌⊎◌, ℕ, List, length, Some}
use Rattle.histories.specs.Common.{NodeNo}
use Rattle.prims.specs.Snap.{snap_at}
use Rattle.prims.specs.declared.snap.Snap.{Snap}
use Rattle.template.specs.declared.walk.Found.{Found}
use Rattle.edits.specs.declared.edit.Look.TheVariants.{Enough}
use Rattle.edits.specs.declared.reading.Reading.{Reading}
use Rattle.edits.specs.Edits.{EditMeaning}

-- the node is the one that was found, or that of one of these snapshots
abbrev pub IsLookedAt : Found → List Snap → NodeNo → Type 0
IsLookedAt f snaps n = (n ≡ f.trail.node) ⊎ ((i : ℕ) × (i < length snaps) × (n ≡ (snap_at snaps i).node))

-- the edit reads no other, once it has looked at enough
abbrev pub ReadsSeen : {E : Type 0} → EditMeaning E → Type 0
ReadsSeen {E} e = (ed : E) (f : Found) (snaps : List Snap) (x : NodeNo × Reading) → e.looks ed f snaps ≡ Enough → e.reads ed f snaps ≡ Some x → IsLookedAt f snaps x.0
