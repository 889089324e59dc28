use Rattle.std.proofs.Common.{None, Some, codes, decimal, ◌++◌, arith}
use Rattle.report.proofs.Cuts.{cut_there, name_has_no_space}
use Rattle.report.proofs.name.blame_of.Goals as goal

pub returns-in_err-node-clause-none : goal.returns-in_err-node-clause-none
returns-in_err-node-clause-none c = rw c.from_residual.ensures (λ node scx fits small is.
    cut_there c.args.text.now (codes "n" ++ decimal node) (codes "s" ++ decimal scx) None c.in_err-node.ensures.cases (name_has_no_space 110 node (λ e. omega (arith, e)) fits) is)

pub returns-in_err-node_of-clause-none : goal.returns-in_err-node_of-clause-none
returns-in_err-node_of-clause-none c = rw c.from_residual-in_err-node_of.ensures (λ node scx fits small is.
    c.in_err-node_of.ensures.none node fits
    (cut_there c.args.text.now (codes "n" ++ decimal node) (codes "s" ++ decimal scx) (Some (c.in_ok-node.node, c.in_ok-node.scx)) c.in_ok-node.ensures.cases (name_has_no_space 110 node (λ e. omega (arith, e)) fits) is).0)

pub returns-in_err-scx_of-clause-none : goal.returns-in_err-scx_of-clause-none
returns-in_err-scx_of-clause-none c = rw c.from_residual-in_err-scx_of.ensures (λ node scx fits small is.
    c.in_err-scx_of.ensures.none scx small
    (cut_there c.args.text.now (codes "n" ++ decimal node) (codes "s" ++ decimal scx) (Some (c.in_ok-node.node, c.in_ok-node.scx)) c.in_ok-node.ensures.cases (name_has_no_space 110 node (λ e. omega (arith, e)) fits) is).1)
