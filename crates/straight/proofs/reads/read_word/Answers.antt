use Rattle.std.proofs.Common.{arith, Ok}
use Rattle.edits.specs.Next.{placed}
use Rattle.edits.specs.declared.update.Next.TheVariants.{Read}
use Rattle.tables.specs.Traces.{shared_nodes}
use Rattle.straight.specs.Hands.{names}
use Rattle.straight.proofs.StraightUpdate.{reads_next, reads_on, read_steps}
use Rattle.straight.proofs.reads.read_word.Goals as goal

pub step-told-requires-clause-waits : goal.step-told-requires-clause-waits
step-told-requires-clause-waits g c = let r = c.requires.tries in let u = r.0 in
    (u.call, u.first, u.with_run (placed g.E.Edit.means c.args.run.now c.args.found.now (Read c.args.node c.args.part)), (u.is_layout, u.is_number), r.1)

pub returns-clause-goes_on : goal.returns-clause-goes_on
returns-clause-goes_on g c = record {
  table = c.step-told.ensures.table;
  to = λ u x. reads_on u _ c.args.run.now c.read_on.new.self c.args.found.now c.args.node c.args.part c.step-told.result (Ok c.read_on.result) c.read_on.ensures.same c.read_on.ensures.tries c.read_on.ensures.spends (λ b h. c.read_on.ensures.turn u.call b h)
      (c.step-told.ensures.told u.call u.first (u.with_run (placed g.E.Edit.means c.args.run.now c.args.found.now (Read c.args.node c.args.part))) (u.is_layout, u.is_number) x);
  later = (let one = c.step-told.ensures.one in omega (arith, one));
  steps = (
      let r = c.requires.tries in
      let known = reads_next r.0 _ c.args.run.now c.args.found.now c.args.node c.args.part r.1 in
      read_steps _ _ _ _ _ _ c.step-told.ensures.one (c.read_on.ensures.nearer known.0 (shared_nodes (names c.args.hand)) known.1));
}
