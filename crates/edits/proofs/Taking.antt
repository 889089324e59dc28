-- What an update takes of its share it takes from the lower end.
use Rattle.std.proofs.Common.{◌≡◌, ◌<◌, ◌+◌, ◌-◌, refl, arith}
use Rattle.histories.specs.Common.{Remaining}
use Rattle.prims.specs.Shares.{share_end}
use Rattle.prims.proofs.Lemmas.{ends_there}
use Rattle.edits.specs.Pieces.{less_a_node}

-- a node
pub node_taken : (left now : Remaining) → 0 < left.nodes → now ≡ less_a_node left → share_end now ≡ share_end left
node_taken left now some is = rw is (ends_there (less_a_node left) left (omega (arith, some)) refl)

-- an SCX-record
pub record_taken : (left now : Remaining) → 0 < left.scx → now ≡ record left { next_scx = left.next_scx + 1; scx = left.scx - 1 } → share_end now ≡ share_end left
record_taken left now some is = rw is (ends_there (record left { next_scx = left.next_scx + 1; scx = left.scx - 1 }) left refl (omega (arith, some)))
