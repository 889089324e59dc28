use Rattle.std.proofs.Common.{refl}
use Rattle.slots.proofs.FirstNames.{first_names, first_nodes_held, first_scx_held}
use Rattle.slots.proofs.Slots.{node_lap, scx_lap}
use Rattle.slots.proofs.laws.names_hold.Goals as goal

pub returns-clause-lasts : goal.returns-clause-lasts
returns-clause-lasts g table node_turn scx_turn laps few_nodes few_scx nodes scx = record { mode = refl; passes = refl; planted = refl; nodes = refl; scx = refl; node_room = nodes; scx_room = scx }

pub returns-clause-nodes : goal.returns-clause-nodes
returns-clause-nodes g t o lap i fit = node_lap t fit o lap i

pub returns-clause-scx : goal.returns-clause-scx
returns-clause-scx g t o lap i fit = scx_lap t fit o lap i

pub returns-clause-first : goal.returns-clause-first
returns-clause-first g = first_names

pub returns-clause-first_nodes : goal.returns-clause-first_nodes
returns-clause-first_nodes g t o i fit = first_nodes_held t fit o i

pub returns-clause-first_scx : goal.returns-clause-first_scx
returns-clause-first_scx g t o i fit = first_scx_held t fit o i
