use Rattle.touching.proofs.Stepping.{no_dead_node, no_dead_scx, no_left_node}
use Rattle.touching.proofs.Storing.{paused_rested}
use Rattle.touching.proofs.untouched.dead_is_out_of_reach.Goals as goal

pub returns-clause-rested : goal.returns-clause-rested
returns-clause-rested g = paused_rested

pub returns-clause-nodes : goal.returns-clause-nodes
returns-clause-nodes g = no_dead_node

pub returns-clause-leaves : goal.returns-clause-leaves
returns-clause-leaves g = no_left_node

pub returns-clause-scx : goal.returns-clause-scx
returns-clause-scx g = no_dead_scx
