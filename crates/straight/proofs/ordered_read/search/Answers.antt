use Rattle.std.proofs.Common.{◌∙◌, refl, arith}
use Rattle.straight.specs.CallKinds.{calls}
use Rattle.straight.specs.Hands.{names}
use Rattle.straight.specs.Hosts.{HostedIsTold}
use Rattle.straight.specs.StraightReads.{Reader, ReaderSearches, searching}
use Rattle.straight.proofs.StraightReads.{search_ends, search_looks, search_next}
use Rattle.straight.proofs.ordered_read.search.Given.{Over}
use Rattle.straight.proofs.ordered_read.search.Goals.{After-read-value}
use Rattle.straight.proofs.ordered_read.search.Goals as goal

-- whichever call it is, it has got the word
told : (g : Over) (c : After-read-value g) (r : Reader (calls g.S.Shape g.M.Machine g.M.CallMachine.left_dealt (names c.args.hand) c.args.hand.number) g.R.Read.means) → ReaderSearches r c.args.seat.now.me.0.passes c.args.run.now c.args.near c.args.children c.args.fork → HostedIsTold r c.read-value.new.seat.me.0.passes (searching c.args.run.now c.loop-next.current c.args.children c.args.fork) c.read-value.result
told g c r x = c.read-value.ensures.told r (searching c.args.run.now c.loop-next.current c.args.children c.args.fork) (rw c.word.ensures (c.loop-next.invariant.waits r x))

pub loop-next-init : goal.loop-next-init
loop-next-init g c = record { here = (refl, refl, refl); steps = omega arith; waits = λ r x. x }

pub read-value-requires-clause-waits : goal.read-value-requires-clause-waits
read-value-requires-clause-waits g c = let w = c.requires.waits in (w.0, searching c.args.run.now c.loop-next.current c.args.children c.args.fork, rw c.word.ensures (c.loop-next.invariant.waits w.0 w.1))

pub loop-next-preserved : goal.loop-next-preserved
loop-next-preserved g c = record {
  here = (c.read-value.ensures.table.0 ∙ c.loop-next.invariant.here.0, c.read-value.ensures.table.1 ∙ c.loop-next.invariant.here.1, c.read-value.ensures.table.2 ∙ c.loop-next.invariant.here.2);
  steps = (let one = c.read-value.ensures.one in let old = c.loop-next.invariant.steps in let less = rw c.in-Load.is at c.found.ensures.nearer in omega (arith, one, old, less));
  waits = λ r x. search_next r c.args.run.now c.args.children c.args.fork c.loop-next.current _ c.read-value.result (told g (goal.at.loop-next-preserved g c).After-read-value r x) c.in-Load.next (rw c.in-Load.is at c.found.ensures.stands);
}

pub loop-next-smaller : goal.loop-next-smaller
loop-next-smaller g c = rw c.in-Load.is at c.found.ensures.nearer

pub returns-in-Found-clause-found : goal.returns-in-Found-clause-found
returns-in-Found-clause-found g c = λ r x. search_ends r c.args.run.now c.args.children c.args.fork c.loop-next.current _ c.read-value.result (told g (goal.at.returns-in-Found-clause-found g c).After-read-value r x) c.in-Found.pair c.tell.result (rw c.in-Found.is at c.found.ensures.stands) c.tell.ensures

pub returns-in-Nothing-clause-nothing : goal.returns-in-Nothing-clause-nothing
returns-in-Nothing-clause-nothing g c = λ none r x. search_looks r c.args.run.now c.args.children c.args.fork c.loop-next.current _ c.read-value.result (told g (goal.at.returns-in-Nothing-clause-nothing g c).After-read-value r x)

pub returns-in-Found-clause-steps : goal.returns-in-Found-clause-steps
returns-in-Found-clause-steps g c = let one = c.read-value.ensures.one in let old = c.loop-next.invariant.steps in omega (arith, one, old)

pub returns-in-Nothing-clause-steps : goal.returns-in-Nothing-clause-steps
returns-in-Nothing-clause-steps g c = let one = c.read-value.ensures.one in let old = c.loop-next.invariant.steps in omega (arith, one, old)
