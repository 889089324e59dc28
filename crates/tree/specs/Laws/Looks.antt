-- What the edits of the tree have in common: what their looks name, and how these go on behind a
-- snapshot.
use Rattle.std.proofs.Common.{◌≡◌, Bool, true, false, if◌then◌else◌, refl, ap}
use Rattle.histories.specs.Common.{NodeNo, ScxNo}
use Rattle.prims.specs.declared.snap.Snap.{Snap}
use Rattle.edits.specs.declared.edit.Look.{Look}
use Rattle.edits.specs.declared.edit.Look.TheVariants.{At, Differs, Enough}

-- the node of a look
abbrev pub looked_node : Look → NodeNo
looked_node (At n) = n
looked_node (Differs n s) = n
looked_node Enough = record { 0 = 0 }

-- the SCX-record of one that differs
abbrev pub scx_of : Look → ScxNo
scx_of (Differs n s) = s
scx_of _ = record { 0 = 0 }

pub same_node : (a b : NodeNo) → At a ≡ At b → a ≡ b
same_node a b e = ap looked_node e

-- A look that continues with the next node, if the snapshot shows what it is to show

-- continues only if it does
pub goes_on : (b : Bool) (next : NodeNo) (p : Snap) (n : NodeNo) → (if b then At next else Differs p.node p.scx) ≡ At n → (b ≡ true) × (next ≡ n)
goes_on true next p n e = (refl, same_node next n e)
goes_on false next p n e = absurd (let d : Differs p.node p.scx ≡ At n = e in cc)

-- never has enough
pub not_enough : (b : Bool) (next : NodeNo) (p : Snap) → (if b then At next else Differs p.node p.scx) ≡ Enough → ⊥
not_enough true next p e = let d : At next ≡ Enough = e in cc
not_enough false next p e = let d : Differs p.node p.scx ≡ Enough = e in cc

-- and otherwise names the snapshot's node and SCX-record
pub is_other : (b : Bool) (next : NodeNo) (p : Snap) (n : NodeNo) (s : ScxNo) → (if b then At next else Differs p.node p.scx) ≡ Differs n s → (b ≡ false) × (p.node ≡ n) × (p.scx ≡ s)
is_other true next p n s e = absurd (let d : At next ≡ Differs n s = e in cc)
is_other false next p n s e = (refl, ap looked_node e, ap scx_of e)
