use Rattle.std.proofs.Common.{◌∙◌, ap, arith, Ok}
use Rattle.order.specs.declared.load.ReadLoad.TheVariants.{Head}
use Rattle.order.specs.declared.read.ReadNext.TheVariants.{Load}
use Rattle.straight.specs.StraightReads.{ReadGoesOn}
use Rattle.straight.proofs.StraightHands.{at_copy, reads_by_copy, reads_own}
use Rattle.straight.proofs.StraightReading.{reads_as, reads_end, reads_from, reads_on}
use Rattle.straight.proofs.ordered_read.go_on.Given.{Over}
use Rattle.straight.proofs.ordered_read.go_on.Goals.{In-Load-Head}
use Rattle.straight.proofs.ordered_read.go_on.Goals as goal

-- it continues with the head of a node
at_node : (g : Over) (c : In-Load-Head g) → ReadGoesOn g.S.Shape g.M.Machine g.M.CallMachine.left_dealt g.R.Read.means c.args.hand 0 c.args.seat.now c.args.run.now (Ok c.args.first) c.loop-next.seat c.loop-next.run (Ok (Load (Head c.in-Load-Head.above c.in-Load-Head.node)))
at_node g c = reads_on c.loop-next.invariant.goes_on (reads_as (c.in-Load-Head.is ∙ ap Load (rw c.in-Load-Head.is at c.in-Load-Head.field-0-is)))

pub look_next-requires-clause-table : goal.look_next-requires-clause-table
look_next-requires-clause-table g c = at_copy c.by_copy-own.result c.args.hand c.by_copy-own.ensures.words c.args.seat.now c.by_copy-own.ensures.plan c.requires.table

pub look_next-requires-clause-waits : goal.look_next-requires-clause-waits
look_next-requires-clause-waits g c = reads_by_copy c.by_copy-own.result c.args.hand c.by_copy-own.ensures.words c.by_copy-own.ensures.number g.S.Shape g.M.Machine g.M.CallMachine.left_dealt g.R.Read.means c.args.seat.now c.args.run.now c.args.first c.requires.waits

pub leave-requires-clause-stops : goal.leave-requires-clause-stops
leave-requires-clause-stops g c = let w = c.requires.waits in (w.0, (reads_own c.by_copy-own.result c.args.hand c.by_copy-own.ensures.words c.by_copy-own.ensures.number c.in-Err.ensures).to w.0 w.1)

pub returns-in-Err : goal.returns-in-Err
returns-in-Err g c = reads_end (reads_own c.by_copy-own.result c.args.hand c.by_copy-own.ensures.words c.by_copy-own.ensures.number c.in-Err.ensures) c.leave.ensures

pub loop-next-init : goal.loop-next-init
loop-next-init g c = record { goes_on = reads_own c.by_copy-own.result c.args.hand c.by_copy-own.ensures.words c.by_copy-own.ensures.number c.in-Ok.ensures }

pub read_node-requires-clause-waits : goal.read_node-requires-clause-waits
read_node-requires-clause-waits g c = let w = c.requires.waits in reads_by_copy c.by_copy-own.result c.args.hand c.by_copy-own.ensures.words c.by_copy-own.ensures.number g.S.Shape g.M.Machine g.M.CallMachine.left_dealt g.R.Read.means c.loop-next.seat c.loop-next.run (Load (Head c.in-Load-Head.above c.in-Load-Head.node)) (w.0, (at_node g (goal.at.read_node-requires-clause-waits g c).In-Load-Head).to w.0 w.1)

pub leave-requires-in-Err-read_node-clause-stops : goal.leave-requires-in-Err-read_node-clause-stops
leave-requires-in-Err-read_node-clause-stops g c = let w = c.requires.waits in (w.0, (reads_on (at_node g (goal.at.leave-requires-in-Err-read_node-clause-stops g c).In-Load-Head) (reads_own c.by_copy-own.result c.args.hand c.by_copy-own.ensures.words c.by_copy-own.ensures.number c.in-Err-read_node.ensures)).to w.0 w.1)

pub returns-in-Err-read_node : goal.returns-in-Err-read_node
returns-in-Err-read_node g c = reads_end (reads_on (at_node g (goal.at.returns-in-Err-read_node g c).In-Load-Head) (reads_own c.by_copy-own.result c.args.hand c.by_copy-own.ensures.words c.by_copy-own.ensures.number c.in-Err-read_node.ensures)) c.leave-in-Err-read_node.ensures

pub read_pairs-requires-clause-waits : goal.read_pairs-requires-clause-waits
read_pairs-requires-clause-waits g c = let w = c.requires.waits in reads_by_copy c.by_copy-own.result c.args.hand c.by_copy-own.ensures.words c.by_copy-own.ensures.number g.S.Shape g.M.Machine g.M.CallMachine.left_dealt g.R.Read.means c.read_node.new.seat c.read_node.new.run c.in-Ok-read_node.behind (w.0, (reads_on (at_node g (goal.at.read_pairs-requires-clause-waits g c).In-Load-Head) (reads_own c.by_copy-own.result c.args.hand c.by_copy-own.ensures.words c.by_copy-own.ensures.number c.in-Ok-read_node.ensures)).to w.0 w.1)

pub leave-requires-in-Err-read_pairs-clause-stops : goal.leave-requires-in-Err-read_pairs-clause-stops
leave-requires-in-Err-read_pairs-clause-stops g c = let w = c.requires.waits in (w.0, (reads_on (at_node g (goal.at.leave-requires-in-Err-read_pairs-clause-stops g c).In-Load-Head) (reads_own c.by_copy-own.result c.args.hand c.by_copy-own.ensures.words c.by_copy-own.ensures.number (reads_on c.in-Ok-read_node.ensures c.in-Err-read_pairs.ensures))).to w.0 w.1)

pub returns-in-Err-read_pairs : goal.returns-in-Err-read_pairs
returns-in-Err-read_pairs g c = reads_end (reads_on (at_node g (goal.at.returns-in-Err-read_pairs g c).In-Load-Head) (reads_own c.by_copy-own.result c.args.hand c.by_copy-own.ensures.words c.by_copy-own.ensures.number (reads_on c.in-Ok-read_node.ensures c.in-Err-read_pairs.ensures))) c.leave-in-Err-read_pairs.ensures

pub look_next-requires-in-Load-Head-clause-waits : goal.look_next-requires-in-Load-Head-clause-waits
look_next-requires-in-Load-Head-clause-waits g c = let w = c.requires.waits in reads_by_copy c.by_copy-own.result c.args.hand c.by_copy-own.ensures.words c.by_copy-own.ensures.number g.S.Shape g.M.Machine g.M.CallMachine.left_dealt g.R.Read.means c.read_pairs.new.seat c.read_pairs.new.run c.in-Ok-read_pairs.behind (w.0, (reads_on (at_node g (goal.at.look_next-requires-in-Load-Head-clause-waits g c).In-Load-Head) (reads_own c.by_copy-own.result c.args.hand c.by_copy-own.ensures.words c.by_copy-own.ensures.number (reads_on c.in-Ok-read_node.ensures c.in-Ok-read_pairs.ensures))).to w.0 w.1)

pub leave-requires-in-Err-look_next-clause-stops : goal.leave-requires-in-Err-look_next-clause-stops
leave-requires-in-Err-look_next-clause-stops g c = let w = c.requires.waits in (w.0, (reads_on (at_node g (goal.at.leave-requires-in-Err-look_next-clause-stops g c).In-Load-Head) (reads_own c.by_copy-own.result c.args.hand c.by_copy-own.ensures.words c.by_copy-own.ensures.number (reads_on c.in-Ok-read_node.ensures (reads_on c.in-Ok-read_pairs.ensures c.in-Err-look_next.ensures)))).to w.0 w.1)

pub returns-in-Err-look_next : goal.returns-in-Err-look_next
returns-in-Err-look_next g c = reads_end (reads_on (at_node g (goal.at.returns-in-Err-look_next g c).In-Load-Head) (reads_own c.by_copy-own.result c.args.hand c.by_copy-own.ensures.words c.by_copy-own.ensures.number (reads_on c.in-Ok-read_node.ensures (reads_on c.in-Ok-read_pairs.ensures c.in-Err-look_next.ensures)))) c.leave-in-Err-look_next.ensures

pub loop-next-preserved : goal.loop-next-preserved
loop-next-preserved g c = record { goes_on = reads_on (at_node g (goal.at.loop-next-preserved g c).In-Load-Head) (reads_own c.by_copy-own.result c.args.hand c.by_copy-own.ensures.words c.by_copy-own.ensures.number (reads_on c.in-Ok-read_node.ensures (reads_on c.in-Ok-read_pairs.ensures c.in-Ok-look_next.ensures))) }

pub loop-next-smaller : goal.loop-next-smaller
loop-next-smaller g c = let n = (reads_from (c.in-Load-Head.is ∙ ap Load (rw c.in-Load-Head.is at c.in-Load-Head.field-0-is)) (reads_own c.by_copy-own.result c.args.hand c.by_copy-own.ensures.words c.by_copy-own.ensures.number (reads_on c.in-Ok-read_node.ensures (reads_on c.in-Ok-read_pairs.ensures c.in-Ok-look_next.ensures)))).nearer in omega (arith, n)

pub rest-requires-clause-waits : goal.rest-requires-clause-waits
rest-requires-clause-waits g c = let w = c.requires.waits in (w.0, c.loop-next.invariant.goes_on.to w.0 w.1)

pub returns-in_default : goal.returns-in_default
returns-in_default g c = reads_end c.loop-next.invariant.goes_on c.rest.ensures
