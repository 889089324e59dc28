use Rattle.std.proofs.Common.{◌≤◌, arith}
use Rattle.tables.proofs.LastingTables.{turns_fit}
use Rattle.tables.proofs.rule.Turns.of.Goals as goal

pub overflow_sub-max : goal.overflow_sub-max
overflow_sub-max c =
    let most = c.max.ensures in
    let node_bits = c.bits_for-node_bits.ensures.few 32 (omega arith) c.all_nodes.type_inv in
    let scx_bits = c.bits_for-scx_bits.ensures.few 32 (omega arith) c.all_scx.type_inv in
    omega (arith, most, node_bits, scx_bits)

pub returns-clause-may : goal.returns-clause-may
returns-clause-may c =
    let nodes = c.bits_for-node_bits.ensures in
    let scx = c.bits_for-scx_bits.ensures in
    let most = c.max.ensures in
    let all_nodes = c.all_nodes.ensures.nodes in
    let all_scx = c.all_scx.ensures in
    let below = c.requires in
    let node_bits : c.bits_for-node_bits.result ≤ 26 = nodes.few 26 (omega arith) (omega (arith, all_nodes, below)) in
    let scx_bits : c.bits_for-scx_bits.result ≤ 29 = scx.few 29 (omega arith) (omega (arith, all_scx.fits)) in
    turns_fit c.args.layout.now c.bits_for-node_bits.result c.bits_for-scx_bits.result c.max.result c.power_of_two.result (omega (arith, nodes.enough, all_nodes)) (omega (arith, scx.enough, all_scx.scx)) node_bits scx_bits (omega (arith, most)) (omega (arith, most)) (omega (arith, most, node_bits, scx_bits)) c.power_of_two.ensures
