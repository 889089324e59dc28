use Rattle.std.proofs.Common.{arith}
use Rattle.arena.specs.Machines.{begun_at}
use Rattle.order.proofs.Looking.{walk_found}
use Rattle.order.proofs.Turns.{near_less, near_turns, reading, stands_nearer, stands_there}
use Rattle.order.specs.LastTurns.{first_children, turn_to}
use Rattle.order.specs.declared.read.ReadNext.TheVariants.{Look}
use Rattle.order.proofs.run.ReadRun.walked.Goals as goal

pub returns-in-Some-clause-turn : goal.returns-in-Some-clause-turn
returns-in-Some-clause-turn g c d begin h key try goes to last found = near_turns g.R.Read.means c.args.self.now d begin h c.in-Some.near (first_children c.args.side (turn_to c.args.side c.args.turns).0) (turn_to c.args.side c.args.turns) try goes
    (record { looks = walk_found g.R.Read.means c.args.self.now.read c.args.self.now.snaps.items (begun_at d begin) h (reading g.R.Read.means c.args.self.now (begun_at d begin) h goes) key c.args.side c.args.turns c.args.found to last found; search = c.nearby.ensures.knows (begun_at d begin) h key c.args.side c.in-Some.near c.in-Some.is goes to last found })
    c.near.new.self c.near.result (rw (c.children-children.ensures, c.to-fork.ensures) at c.near.ensures.stands) c.near.ensures.asked

pub returns-in-None-clause-turn : goal.returns-in-None-clause-turn
returns-in-None-clause-turn g c d begin h key try goes to last found = stands_there g.R.Read.means c.args.self.now c.look.new.self d h c.look.result (Look (first_children c.args.side (turn_to c.args.side c.args.turns).0) 0 (turn_to c.args.side c.args.turns)) (rw (c.children-children.ensures, c.to-fork.ensures) at c.look.ensures.stands) (rw c.to-fork.ensures at c.look.ensures.asked)
    (begin, try, (goes, walk_found g.R.Read.means c.args.self.now.read c.args.self.now.snaps.items (begun_at d begin) h (reading g.R.Read.means c.args.self.now (begun_at d begin) h goes) key c.args.side c.args.turns c.args.found to last found))

pub returns-in-Some-clause-nearer : goal.returns-in-Some-clause-nearer
returns-in-Some-clause-nearer g c nodes = near_less g.R.Read.means c.args.self.now c.near.new.self c.near.result _ c.in-Some.near _ _ nodes _ c.near.ensures.stands c.near.ensures.asked (rw (c.nearby.ensures.first c.in-Some.near c.in-Some.is) (omega arith))

pub returns-in-None-clause-nearer : goal.returns-in-None-clause-nearer
returns-in-None-clause-nearer g c nodes = stands_nearer g.R.Read.means c.args.self.now c.look.new.self c.look.result (Look (first_children c.args.side (turn_to c.args.side c.args.turns).0) 0 (turn_to c.args.side c.args.turns)) _ nodes _ (rw (c.children-children.ensures, c.to-fork.ensures) at c.look.ensures.stands) (rw c.to-fork.ensures at c.look.ensures.asked) (omega arith) (omega arith, omega arith)
