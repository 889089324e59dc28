use Rattle.slots.proofs.PassingRows.{node_rests, none_passed, passes_node, passes_scx, scx_rests}
use Rattle.slots.proofs.laws.names_pass.Goals as goal

pub returns-clause-none : goal.returns-clause-none
returns-clause-none g = none_passed

pub returns-clause-node : goal.returns-clause-node
returns-clause-node g = passes_node

pub returns-clause-scx : goal.returns-clause-scx
returns-clause-scx g = passes_scx

pub returns-clause-node_rests : goal.returns-clause-node_rests
returns-clause-node_rests g = node_rests

pub returns-clause-scx_rests : goal.returns-clause-scx_rests
returns-clause-scx_rests g = scx_rests
