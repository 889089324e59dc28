-- Which nodes the snapshots, and the nodes of a list, are.
use Rattle.std.proofs.Common.{◌≡◌, ℕ, zero, suc, true, eqb, eqb-true, eq-eqb, List, [], ◌∷◌, map, ⊎_elim, arith}
use Rattle.std.proofs.lemmas.Bool.{or_left}
use Rattle.std.specs.List.{Contains}
use Rattle.arena.specs.declared.number.NodeNo.{NodeNo}
use Rattle.arena.proofs.Lemmas.{or_right, or_split}
use Rattle.prims.specs.Snaps.{IsAmong, ListsNode, has_node}
use Rattle.prims.specs.declared.snap.Snap.{Snap}

-- the test finds a node of the list
pub has_from : (nodes : List NodeNo) (n : ℕ) → has_node nodes n ≡ true → ListsNode nodes n
has_from [] n e = cc
has_from (m ∷ ms) n e = ⊎_elim (λ q. (0, omega arith, eqb-true m.0 n q)) (λ q. let x = has_from ms n q in (suc x.0, omega (arith, x.1), x.2)) (or_split (eqb m.0 n) (has_node ms n) e)

-- and each of them
pub has_to : (nodes : List NodeNo) (n : ℕ) → ListsNode nodes n → has_node nodes n ≡ true
has_to [] n x = absurd (let i = x.1 in omega arith)
has_to (m ∷ ms) n (zero, i, e) = or_left (eqb m.0 n) (has_node ms n) (eq-eqb m.0 n e)
has_to (m ∷ ms) n (suc k, i, e) = or_right (eqb m.0 n) (has_node ms n) (has_to ms n (k, omega arith, e))

-- a node that is among those of the snapshots is that of one of them
pub among : (snaps : List Snap) (n : ℕ) → Contains (map (λ (s : Snap). s.node.0) snaps) n → IsAmong snaps n
among [] n x = absurd (let i = x.1 in omega arith)
among (s ∷ ss) n (zero, i, e) = record { at = 0; within = omega arith; is = e }
among (s ∷ ss) n (suc k, i, e) = let x = among ss n (k, omega arith, e) in record { at = suc x.at; within = let y = x.within in omega arith; is = x.is }
