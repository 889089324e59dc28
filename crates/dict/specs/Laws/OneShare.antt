-- A pass at rest has one share left: two that it rests with, and that end at the same place, are
-- the same.
use Rattle.std.proofs.Common.{◌≡◌, ℕ, ◌<◌, arith}
use Rattle.histories.specs.Common.{Layout, History, Call, Remaining, IsOwnNode, IsOwnScx}
use Rattle.prims.specs.Shares.{IsShare, share_end}
use Rattle.prims.proofs.Lemmas.{one_end}
use Rattle.edits.specs.Known.{RestsWith}

module _ (lay : Layout) (h : History) (c : ℕ) (a b : Remaining) (x : IsShare lay h c a a.next_node a.next_scx) (y : IsShare lay h c b b.next_node b.next_scx) where
  -- what is left is not taken, so none has taken more
  node_first : a.next_node < b.next_node → ⊥
  node_first i =
      let own : IsOwnNode lay c a.next_node = record { from = x.from_node; below = let f = y.to_node in omega (arith, f, i) } in
      x.untaken_nodes a.next_node own (omega arith) (y.taken_nodes a.next_node own i)

  scx_first : a.next_scx < b.next_scx → ⊥
  scx_first i =
      let own : IsOwnScx lay c a.next_scx = record { from = x.from_scx; below = let f = y.to_scx in omega (arith, f, i) } in
      x.untaken a.next_scx own (omega arith) (y.taken_scx a.next_scx own i)

-- two shares of a pass at rest that end at the same place are the same
pub one_share : (c : Call) (h : History) (a b : Remaining) → share_end a ≡ share_end b → RestsWith c h a → RestsWith c h b → a ≡ b
one_share c h a b end p q =
    let x = p.share in
    let y = q.share in
    let node_less : ¬ (a.next_node < b.next_node) = node_first c.layout h c.pass a b x y in
    let node_more : ¬ (b.next_node < a.next_node) = node_first c.layout h c.pass b a y x in
    let scx_less : ¬ (a.next_scx < b.next_scx) = scx_first c.layout h c.pass a b x y in
    let scx_more : ¬ (b.next_scx < a.next_scx) = scx_first c.layout h c.pass b a y x in
    let next_node : a.next_node ≡ b.next_node = omega (arith, node_less, node_more) in
    let next_scx : a.next_scx ≡ b.next_scx = omega (arith, scx_less, scx_more) in
    let nodes : a.nodes ≡ b.nodes = let e = (one_end a b end).0 in omega (arith, e, next_node) in
    let scx : a.scx ≡ b.scx = let e = (one_end a b end).1 in omega (arith, e, next_scx) in
    λ i. record { next_node = next_node i; nodes = nodes i; next_scx = next_scx i; scx = scx i }
