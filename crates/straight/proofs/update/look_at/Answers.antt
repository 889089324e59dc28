use Rattle.std.proofs.Common.{arith}
use Rattle.tables.specs.Traces.{shared_nodes}
use Rattle.straight.specs.Hands.{names}
use Rattle.edits.proofs.Lemmas.{weighs_next}
use Rattle.straight.proofs.StraightUpdate.{looker, begins_look, looks_asked, looks_on, looks_again, look_steps}
use Rattle.straight.proofs.update.look_at.Goals as goal

pub look-requires-clause-waits : goal.look-requires-clause-waits
look-requires-clause-waits g c = let r = c.requires.tries in let u = r.0 in
    (looker u c.args.run.now c.args.found.now, begins_look u _ c.args.run.now c.args.found.now c.args.node r.1)

pub returns-in-Ok-clause-goes_on : goal.returns-in-Ok-clause-goes_on
returns-in-Ok-clause-goes_on g c = record {
  table = c.look.ensures.table;
  to = λ u x. looks_on u _ c.args.run.now c.looked.new.self c.args.found.now c.args.node c.in-Ok.snap c.looked.result c.looked.ensures.same c.looked.ensures.tries c.looked.ensures.spends (λ b h. c.looked.ensures.turn u.call b h)
      (c.in-Ok.ensures.snaps (looker u c.args.run.now c.args.found.now) (begins_look u _ c.args.run.now c.args.found.now c.args.node x));
  later = (let moves = c.look.ensures.moves in omega (arith, moves));
  steps = look_steps _ _ _ _ _ _ c.look.ensures.steps (weighs_next g.E.Edit.means c.looked.new.self c.args.found.now c.looked.result _ _ (c.looked.ensures.nearer (let r = c.requires.tries in looks_asked r.0 _ c.args.run.now c.args.found.now c.args.node r.1) (shared_nodes (names c.args.hand))));
}

pub returns-in-Err-clause-goes_on : goal.returns-in-Err-clause-goes_on
returns-in-Err-clause-goes_on g c = record {
  table = c.look.ensures.table;
  to = λ u x. looks_again u _ c.args.run.now c.args.found.now c.args.node c.in-Err.marked c.in-Err.scx
      (c.in-Err.ensures.waits (looker u c.args.run.now c.args.found.now) (begins_look u _ c.args.run.now c.args.found.now c.args.node x));
  later = (let moves = c.look.ensures.moves in omega (arith, moves));
  steps = (let steps = c.look.ensures.steps in omega (arith, steps));
}
