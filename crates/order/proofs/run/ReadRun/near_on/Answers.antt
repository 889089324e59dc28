use Rattle.std.proofs.Common.{arith}
use Rattle.arena.specs.Machines.{begun_at}
use Rattle.order.proofs.Nearby.{found_then}
use Rattle.order.proofs.Turns.{near_answers, near_goes_on, near_less, near_looks, stands_nearer, stands_there}
use Rattle.order.specs.declared.read.ReadNext.TheVariants.{Look}
use Rattle.order.proofs.run.ReadRun.near_on.Goals as goal

pub returns-in-Load-clause-turn : goal.returns-in-Load-clause-turn
returns-in-Load-clause-turn g c d begin h try goes x told = near_goes_on g.R.Read.means c.args.self.now d begin h c.args.near c.args.children c.args.fork try goes x c.in-Load.now c.near.new.self c.near.result (rw c.in-Load.is at (c.found.ensures.stands x.search.1.moment x.search.1.stands (found_then g.R.Read.means c.args.self.now (begun_at d begin) h goes c.args.near c.args.children c.args.fork x c.args.value told))) c.near.ensures.stands c.near.ensures.asked

pub returns-in-Found-clause-turn : goal.returns-in-Found-clause-turn
returns-in-Found-clause-turn g c d begin h try goes x told = near_answers g.R.Read.means c.args.self.now d begin h c.args.near c.args.children c.args.fork try goes x c.in-Found.pair c.tell.result (rw c.in-Found.is at (c.found.ensures.stands x.search.1.moment x.search.1.stands (found_then g.R.Read.means c.args.self.now (begun_at d begin) h goes c.args.near c.args.children c.args.fork x c.args.value told))) (c.tell.ensures c.args.near.key c.args.near.side x.search.0)

pub returns-in-Nothing-clause-turn : goal.returns-in-Nothing-clause-turn
returns-in-Nothing-clause-turn g c d begin h try goes x told = stands_there g.R.Read.means c.args.self.now c.look.new.self d h c.look.result (Look c.args.children 0 c.args.fork) c.look.ensures.stands c.look.ensures.asked (near_looks g.R.Read.means c.args.self.now d begin h c.args.near c.args.children c.args.fork try goes x)

pub returns-in-Load-clause-nearer : goal.returns-in-Load-clause-nearer
returns-in-Load-clause-nearer g c nodes = near_less g.R.Read.means c.args.self.now c.near.new.self c.near.result _ c.in-Load.now c.args.children c.args.fork nodes _ c.near.ensures.stands c.near.ensures.asked (rw c.in-Load.is at c.found.ensures.nearer)

pub returns-in-Nothing-clause-nearer : goal.returns-in-Nothing-clause-nearer
returns-in-Nothing-clause-nearer g c nodes = stands_nearer g.R.Read.means c.args.self.now c.look.new.self c.look.result (Look c.args.children 0 c.args.fork) _ nodes _ c.look.ensures.stands c.look.ensures.asked (omega arith) (omega arith, omega arith)
