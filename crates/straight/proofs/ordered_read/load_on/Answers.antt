use Rattle.std.proofs.Common.{◌<◌, arith}
use Rattle.template.specs.Balance.{nodes_by}
use Rattle.order.specs.Places.{placed}
use Rattle.order.specs.declared.read.ReadNext.TheVariants.{Load}
use Rattle.tables.specs.Traces.{shared_nodes}
use Rattle.straight.specs.Hands.{names}
use Rattle.order.specs.Steps.{read_left}
use Rattle.straight.proofs.StraightReads.{load_goes_on, load_last, load_lighter, one_step}
use Rattle.straight.proofs.ordered_read.load_on.Given.{Over}
use Rattle.straight.proofs.ordered_read.load_on.Goals.{In-Ok}
use Rattle.straight.proofs.ordered_read.load_on.Goals as goal

pub read-value-requires-clause-waits : goal.read-value-requires-clause-waits
read-value-requires-clause-waits g c = let w = c.requires.waits in (w.0, placed c.args.run.now (Load (g.L.KnownLoad.load c.args.load.now)), rw c.word.ensures w.1)

-- after it there are fewer steps left
lighter : (g : Over) (c : In-Ok g) → read_left g.R.Read.means (placed c.found.new.run c.in-Ok.next) (nodes_by c.found.new.run.trie (shared_nodes (names c.args.hand))) < read_left g.R.Read.means (placed c.args.run.now (Load (g.L.KnownLoad.load c.args.load.now))) (nodes_by c.args.run.now.trie (shared_nodes (names c.args.hand)))
lighter g c = let w = c.requires.waits in load_lighter w.0 c.args.run.now c.found.new.run (g.L.KnownLoad.load c.args.load.now) c.found.ensures.same c.found.ensures.tries _ c.read-value.result c.in-Ok.next (rw c.in-Ok.is at c.found.ensures.goes_on) (rw c.in-Ok.is at c.found.ensures.nearer) (c.read-value.ensures.told w.0 (placed c.args.run.now (Load (g.L.KnownLoad.load c.args.load.now))) (rw c.word.ensures w.1))

pub returns-in-Ok : goal.returns-in-Ok
returns-in-Ok g c = let light = lighter g (goal.at.returns-in-Ok g c).In-Ok in record {
  table = c.read-value.ensures.table;
  to = λ r x. load_goes_on r c.args.run.now c.found.new.run (g.L.KnownLoad.load c.args.load.now) c.found.ensures.same c.found.ensures.tries _ c.read-value.result c.in-Ok.next (rw c.in-Ok.is at c.found.ensures.goes_on) (c.read-value.ensures.told r (placed c.args.run.now (Load (g.L.KnownLoad.load c.args.load.now))) (rw c.word.ensures x));
  nearer = omega (arith, light);
  steps = one_step _ _ _ _ c.read-value.ensures.one light;
}

pub returns-in-Err : goal.returns-in-Err
returns-in-Err g c = record {
  table = c.read-value.ensures.table;
  to = λ r x. load_last r c.args.run.now c.found.new.run (g.L.KnownLoad.load c.args.load.now) c.found.ensures.same c.found.ensures.tries _ c.read-value.result c.in-Err.refused (rw c.in-Err.is at c.found.ensures.goes_on) (c.read-value.ensures.told r (placed c.args.run.now (Load (g.L.KnownLoad.load c.args.load.now))) (rw c.word.ensures x));
  nearer = omega arith;
  steps = (let one = c.read-value.ensures.one in omega (arith, one));
}
