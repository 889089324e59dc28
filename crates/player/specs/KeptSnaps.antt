-- What a client keeps of the snapshots that it took.
use Rattle.std.specs.Prelude.{◌≡◌, ℕ, ◌<◌, ◌≤◌, List, length, slice_index_or, Option, Some, None, IsSome}
use Rattle.histories.specs.Common.{Layout, History}
use Rattle.template.specs.Common.{IsLeftAlone, IsUsable, snap_at, Snap, Llx, Snapshot, Finalized, Fail}
use Rattle.record.specs.Snapshots.{IsBehindAll}
use Rattle.player.specs.declared.kept.KeptSnapshot.{KeptSnapshot}
use Rattle.player.specs.declared.kept.Kept.{Kept}

-- what the client keeps of node n: what its last LLX found there, if it keeps that
abbrev pub kept_of : Kept → ℕ → Option KeptSnapshot
kept_of kept n = slice_index_or kept.found n None

-- the snapshot of node n that found this there
abbrev pub snap_of : ℕ → KeptSnapshot → Snap
snap_of n found = record { node = record { 0 = n }; scx = found.scx; left = found.left; right = found.right }

-- what a snapshot has found at its node: the SCX-record and the fields
abbrev pub parts : Snap → KeptSnapshot
parts snap = record { scx = snap.scx; left = snap.left; right = snap.right }

-- a snapshot of this moment that the client may use, and since which
-- no SCX-record of its own has reached the node
pub record IsUnspent (lay : Layout) (c : ℕ) (h : History) (snap : Snap) (moment : History) : Type 0 where
  pub usable : IsUsable lay h snap moment
  pub alone : IsLeftAlone lay c h snap

-- all snapshots that the client keeps are unspent, and each is of the moment that the lines say
abbrev pub AreKept : Layout → ℕ → History → (ℕ → Option History) → Kept → Type 0
AreKept lay c h linked kept = (n : ℕ) (found : KeptSnapshot) → kept_of kept n ≡ Some found → (moment : History) × (linked n ≡ Some moment) × IsUnspent lay c h (snap_of n found) moment

-- the node that an answer of LLX is about
abbrev pub node_of : Llx → ℕ
node_of (Snapshot snap) = snap.node.0
node_of (Finalized node scx) = node.0
node_of (Fail node scx) = node.0

-- what an LLX leaves to keep of its node: what its snapshot found, or nothing
abbrev pub found_of : Llx → Option KeptSnapshot
found_of (Snapshot snap) = Some (parts snap)
found_of (Finalized node scx) = None
found_of (Fail node scx) = None

-- the client keeps each of these snapshots
abbrev pub AllKept : Kept → List Snap → Type 0
AllKept kept snaps = (i : ℕ) → i < length snaps → kept_of kept (snap_at snaps i).node.0 ≡ Some (parts (snap_at snaps i))

-- the node is the first of the cells without a kept snapshot
abbrev pub IsFirstUnkept : Kept → List ℕ → ℕ → Type 0
IsFirstUnkept kept cells node = (node ≤ 8) × (kept_of kept node ≡ None) × IsBehindAll (λ n. IsSome (kept_of kept n)) cells node
