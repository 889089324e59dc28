-- What is not filled is 0: a node of a share that is not taken yet holds 0 in all its settled words
-- and fields.
use Rattle.std.proofs.Common.{◌≡◌, ℕ, inl, ◌∙◌, arith}
use Rattle.histories.specs.Common.{Layout, NodeWord, Member, Row, Remaining}
use Rattle.histories.specs.Common.{HasNode, node, scx, child, History, Opened, ◌⊳◌, value, IsOwnNode, IsFillOfNode, IsTakenNode, Lawful, IsUnmentioned}
use Rattle.arena.proofs.Lemmas.{held_at, held_more, taken_node_more}
use Rattle.histories.proofs.Lemmas.{IsNodeFill, lawful_tail, start_nodes, value_start}
use Rattle.prims.specs.Laws.Unfilled.{node_unfilled}
use Rattle.prims.specs.Shares.{IsShare}
use Rattle.prims.proofs.Shares.{left_own_node}

-- what nothing mentions now nothing has mentioned before
unmentioned_before : (h : History) (r : Row) (n : ℕ) → IsUnmentioned (r ⊳ h) n → IsUnmentioned h n
unmentioned_before h r n u = record {
  in_no_field = λ m side p. u.in_no_field m side (held_more r h (child m side) n p);
  in_no_scx = λ s part i p. u.in_no_scx s part i (held_more r h (scx s part) n p);
}

taken_now : (h : History) (r : Row) (n : ℕ) → IsFillOfNode n r → IsTakenNode (r ⊳ h) n
unfolding IsTakenNode
taken_now h r n x = inl x

-- a node of a pass's own that is not taken, and that nothing mentions
untaken_zero : (lay : Layout) (h : History) (c n : ℕ) (part : NodeWord) → Lawful lay h → IsOwnNode lay c n → IsUnmentioned h n → ¬ IsTakenNode h n → IsNodeFill part → value h (node n part) ≡ 0
untaken_zero lay (Opened o) c n part l own u free fill = value_start o (node n part) ∙ o.beyond n part (let few = start_nodes lay o l in let a = own.from in omega (arith, few, a))
untaken_zero lay (r ⊳ h) c n part l own u free fill =
    let before : IsUnmentioned h n = unmentioned_before h r n u in
    node_unfilled lay h r n part l (λ q x. free (taken_now h r n (q, x.kind, x.word))) fill (λ side e t j z. before.in_no_scx t (Member j) tt (held_at h (scx t (Member j)) n z))
    ∙ untaken_zero lay h c n part (lawful_tail lay h r l) own before (λ t. free (taken_node_more r h n t)) fill

-- so does each node that is left of a share
pub left_zero : (lay : Layout) (h : History) (c : ℕ) (left : Remaining) (first scx n : ℕ) (part : NodeWord) → Lawful lay h → IsShare lay h c left first scx → HasNode left n → IsNodeFill part → value h (node n part) ≡ 0
left_zero lay h c left first scx n part l x p fill = let own = left_own_node lay h c left first scx n x p in untaken_zero lay h c n part l own (x.unmentioned n own p.from) (x.untaken_nodes n own p.from) fill
