use Rattle.std.proofs.Common.{◌≡◌, ◌∙◌, false, true, refl, sym}
use Rattle.template.specs.Walk.Steps.{room}
use Rattle.tables.specs.Traces.{shared_nodes}
use Rattle.straight.specs.Hands.{hand_slots, names}
use Rattle.tables.proofs.Slotted.{root_begins}
use Rattle.straight.proofs.StraightGuard.{root_steps, roots}
use Rattle.straight.proofs.guard.begin.Goals as goal

pub returns-clause-walks : goal.returns-clause-walks
returns-clause-walks g c =
    let plain = sym c.guard.ensures ∙ c.if-guard.false in record {
      table = (refl, refl, refl);
      to = λ u x. rw c.root.ensures (λ has. absurd (let z : false ≡ true = sym plain ∙ has in cc), roots u c.args.run.now c.args.way c.args.goal _ c.requires.goes.0 c.requires.goes.1 x);
      is = refl;
      stands = rw c.root.ensures record { place = tt; begins = root_begins (hand_slots c.args.hand) };
      steps = rw c.root.ensures (root_steps (g.E.Edit.means.guard c.args.run.now.edit) _ (room c.args.way (shared_nodes (names c.args.hand))) (g.E.Edit.means.most_looks c.args.run.now.edit) plain);
    }
