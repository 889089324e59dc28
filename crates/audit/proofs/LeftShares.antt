-- What calls have taken, by what was left of a share before and is left now.
use Rattle.std.proofs.Common.{ℕ, ◌+◌, ◌-◌, ◌*◌, ◌<◌, ◌≤◌, arith}
use Rattle.histories.specs.Common.{Layout, IsOwnScx, History, first_node, first_scx}
use Rattle.record.specs.Shares.{HasNodesLeft, HasScxLeft, HasTakenAtMost}

-- what a call has taken is the difference
pub taken_few : (lay : Layout) (c : ℕ) (now start : History) (nodes_then nodes scx_then scx most_scx each : ℕ) → HasNodesLeft lay c start nodes_then → HasNodesLeft lay c now nodes → HasScxLeft lay c start scx_then → HasScxLeft lay c now scx → scx_then ≤ scx + most_scx → nodes_then ≤ nodes + each * (scx_then - scx) → HasTakenAtMost lay c now start most_scx each
taken_few lay c now start nodes_then nodes scx_then scx most_scx each a b d e few i = record {
  many = scx_then - scx;
  few = omega arith;
  lowest_scx = (first_scx lay c + lay.scx) - scx_then;
  scx_records = λ s. (
    λ x.
        let from : s + scx_then < first_scx lay c + lay.scx → ⊥ = λ k. x.not_then (d.taken s x.own k) in
        let to : first_scx lay c + lay.scx ≤ s + scx → ⊥ = λ k. e.untaken s x.own k x.taken in
        let within = d.within in
        (omega arith, omega arith),
    λ x.
        let from = x.0 in
        let below = x.1 in
        let within = d.within in
        let own : IsOwnScx lay c s = record { from = omega arith; below = omega arith } in
        record { own = own; not_then = d.untaken s own (omega arith); taken = e.taken s own (omega arith) },
  );
  lowest_node = (first_node lay c + lay.nodes) - nodes_then;
  nodes = λ n x.
      let from : n + nodes_then < first_node lay c + lay.nodes → ⊥ = λ k. x.not_then (a.taken n x.own k) in
      let to : first_node lay c + lay.nodes ≤ n + nodes → ⊥ = λ k. b.untaken n x.own k x.taken in
      let within = a.within in
      (omega arith, omega arith);
}
