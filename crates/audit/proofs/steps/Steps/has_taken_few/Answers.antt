use Rattle.std.proofs.Common.{ℕ, ◌+◌, ◌-◌, ◌*◌, ◌<◌, ◌≤◌, subst, leb-true, arith}
use Rattle.std.proofs.Math.Nat.{min-le_left}
use Rattle.histories.specs.Common.{History, Layout}
use Rattle.record.specs.Shares.{HasNodesLeft, HasScxLeft}
use Rattle.audit.proofs.CellEntries.{own_memory, to_lines}
use Rattle.audit.proofs.LeftShares.{taken_few}
use Rattle.audit.proofs.steps.Steps.has_taken_few.Goals as goal

pub returns-then-taken-most_scx : goal.returns-then-taken-most_scx
returns-then-taken-most_scx c lay calls lines x inside some few =
    let all = c.args.self.now in
    let p = c.args.pass.0 in
    let memory = c.memory-memory.result in
    let inside_now : p < all.judge.layout.passes = rw x.steps.layout inside in
    let begun = (x.memories p memory (own_memory lay calls lines all x p memory inside_now c.memory-memory.ensures)).begins some in
    let nodes = to_lines lay calls lines all x (λ (l : Layout) (h : History). HasNodesLeft l p h c.nodes_left.result) (c.nodes_left.ensures inside_now) in
    let scx = to_lines lay calls lines all x (λ (l : Layout) (h : History). HasScxLeft l p h c.scx_left.result) (c.scx_left.ensures inside_now) in
    let i = c.saturating_sub-taken.ensures in
    let j = c.if-taken-most_scx.true in
    let k = c.most_scx.ensures in
    let l = c.saturating_sub-nodes.ensures in
    let m = leb-true _ _ few in
    let n = c.saturating_mul.ensures in
    let product : memory.nodes ≤ c.nodes_left.result + c.nodes_each.result * c.saturating_sub-taken.result = omega (arith, min-le_left) in
    taken_few lay p _ _ memory.nodes c.nodes_left.result memory.scx c.scx_left.result _ _ begun.nodes nodes begun.scx scx (omega arith) (subst (λ (e : ℕ). memory.nodes ≤ c.nodes_left.result + e * (memory.scx - c.scx_left.result)) c.nodes_each.ensures (subst (λ (t : ℕ). memory.nodes ≤ c.nodes_left.result + c.nodes_each.result * t) i product))
