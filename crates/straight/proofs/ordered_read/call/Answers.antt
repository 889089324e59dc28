use Rattle.std.proofs.Common.{◌≡◌, ◌∙◌, ap, ◌+◌, ◌≤◌, suc, arith, refl, sym, subst}
use Rattle.template.specs.Balance.{leaf_way, nodes_by}
use Rattle.order.specs.LastTurns.{first_children, turn_to}
use Rattle.order.specs.Near.{near_most}
use Rattle.order.specs.Places.{placed}
use Rattle.order.specs.Steps.{read_left}
use Rattle.order.specs.declared.read.ReadNext.TheVariants.{Look as LookNext}
use Rattle.straight.specs.Leads.{steps_made}
use Rattle.straight.specs.StraightReads.{at_root}
use Rattle.tables.specs.Traces.{shared_nodes}
use Rattle.straight.specs.Hands.{names}
use Rattle.straight.proofs.StraightReads.{ends_at_once, root_in_try, roots, walk_ends, walk_in_try, walker, walks}
use Rattle.straight.proofs.StraightWalk.{leaf_steps}
use Rattle.straight.proofs.ordered_read.call.Given.{Over}
use Rattle.straight.proofs.ordered_read.call.Goals.{After-leaf_way-way}
use Rattle.straight.proofs.ordered_read.call.Goals as goal

-- its walk is by the way of its map
is_way : (g : Over) (c : After-leaf_way-way g) → c.leaf_way-way.result ≡ leaf_way c.start.new.self.trie
is_way g c = c.leaf_way-way.ensures ∙ ap leaf_way (c.in_trie.ensures ∙ sym (c.start.ensures.same.4 ∙ c.requires.trie))

pub to_goal-requires-clause-waits : goal.to_goal-requires-clause-waits
to_goal-requires-clause-waits g c = let b = c.requires.begins in (walker b.0 c.start.new.self c.in-Walk.key c.in-Walk.side c.in-Walk.ensures.begins, rw (is_way g (goal.at.to_goal-requires-clause-waits g c).After-leaf_way-way) (walks b.0 c.start.new.self c.in-Walk.key c.in-Walk.side c.in-Walk.ensures.begins _ c.args.run.now c.start.ensures.same c.start.ensures.tries c.start.ensures.empty b.1))

pub behind_walk-requires-clause-walked : goal.behind_walk-requires-clause-walked
behind_walk-requires-clause-walked g c = let b = c.requires.begins in (b.0, walk_ends b.0 c.start.new.self c.in-Walk.key c.in-Walk.side c.in-Walk.ensures.begins _ c.to_goal.result.0 c.to_goal.result.1 (rw (is_way g (goal.at.behind_walk-requires-clause-walked g c).After-leaf_way-way) at (c.to_goal.ensures.finds (walker b.0 c.start.new.self c.in-Walk.key c.in-Walk.side c.in-Walk.ensures.begins) (rw (is_way g (goal.at.behind_walk-requires-clause-walked g c).After-leaf_way-way) (walks b.0 c.start.new.self c.in-Walk.key c.in-Walk.side c.in-Walk.ensures.begins _ c.args.run.now c.start.ensures.same c.start.ensures.tries c.start.ensures.empty b.1)))))

pub returns-in-Walk-clause-leads : goal.returns-in-Walk-clause-leads
returns-in-Walk-clause-leads g c = record {
  table = (c.behind_walk.ensures.table.0 ∙ c.to_goal.ensures.table.0, c.behind_walk.ensures.table.1 ∙ c.to_goal.ensures.table.1, c.behind_walk.ensures.table.2 ∙ c.to_goal.ensures.table.2);
  to = λ r x. c.behind_walk.ensures.to r (walk_ends r c.start.new.self c.in-Walk.key c.in-Walk.side c.in-Walk.ensures.begins _ c.to_goal.result.0 c.to_goal.result.1 (rw (is_way g (goal.at.returns-in-Walk-clause-leads g c).After-leaf_way-way) at (c.to_goal.ensures.finds (walker r c.start.new.self c.in-Walk.key c.in-Walk.side c.in-Walk.ensures.begins) (rw (is_way g (goal.at.returns-in-Walk-clause-leads g c).After-leaf_way-way) (walks r c.start.new.self c.in-Walk.key c.in-Walk.side c.in-Walk.ensures.begins _ c.args.run.now c.start.ensures.same c.start.ensures.tries c.start.ensures.empty x)))));
  steps = (let b = c.requires.begins in walk_in_try g.R.Read.means c.args.run.now c.start.new.self c.start.ensures.same c.start.ensures.tries c.start.ensures.empty (b.0.tells c.args.run.now _ _ b.1.so.0).1 _ _ _ (first_children c.in-Walk.side (turn_to c.in-Walk.side c.to_goal.result.1).0) (turn_to c.in-Walk.side c.to_goal.result.1) c.in-Walk.key _ c.in-Walk.side (c.in-Walk.ensures.nearer _)
      (leaf_steps c.args.run.now.trie _ _ _ (shared_nodes (names c.args.hand)) (is_way g (goal.at.returns-in-Walk-clause-leads g c).After-leaf_way-way ∙ ap leaf_way c.start.ensures.same.4) c.to_goal.ensures.steps)
      (subst (λ t. steps_made c.behind_walk.new.seat ≤ steps_made c.to_goal.new.seat + (near_most + suc (read_left g.R.Read.means (placed c.start.new.self (LookNext (first_children c.in-Walk.side (turn_to c.in-Walk.side c.to_goal.result.1).0) 0 (turn_to c.in-Walk.side c.to_goal.result.1))) (nodes_by t (shared_nodes (names c.args.hand)))))) c.start.ensures.same.4 c.behind_walk.ensures.steps));
}

pub returns-in-Walk-clause-nothing : goal.returns-in-Walk-clause-nothing
returns-in-Walk-clause-nothing g c = λ none. absurd (none (rw c.start.ensures.same.0 at c.in-Walk.ensures.begins.asks))

pub from_root-requires-clause-waits : goal.from_root-requires-clause-waits
from_root-requires-clause-waits g c = let b = c.requires.begins in (b.0, roots b.0 _ c.args.run.now c.start.new.self c.start.ensures.same c.start.ensures.tries c.start.ensures.empty c.in-Root.ensures.begins b.1)

pub returns-in-Root-clause-leads : goal.returns-in-Root-clause-leads
returns-in-Root-clause-leads g c = record {
  table = c.from_root.ensures.table;
  to = λ r x. c.from_root.ensures.to r (roots r _ c.args.run.now c.start.new.self c.start.ensures.same c.start.ensures.tries c.start.ensures.empty c.in-Root.ensures.begins x);
  steps = (let b = c.requires.begins in root_in_try g.R.Read.means c.args.run.now c.start.new.self c.start.ensures.same c.start.ensures.tries c.start.ensures.empty (b.0.tells c.args.run.now _ _ b.1.so.0).1 _ _ _ (c.in-Root.ensures.nearer _)
      (subst (λ t. steps_made c.from_root.new.seat ≤ steps_made c.args.seat.now + suc (read_left g.R.Read.means (at_root c.start.new.self) (nodes_by t (shared_nodes (names c.args.hand))))) c.start.ensures.same.4 c.from_root.ensures.steps));
}

pub returns-in-Root-clause-nothing : goal.returns-in-Root-clause-nothing
returns-in-Root-clause-nothing g c = λ none. absurd (none (rw c.start.ensures.same.0 at c.in-Root.ensures.begins.asks))

pub returns-in-Answer-clause-leads : goal.returns-in-Answer-clause-leads
returns-in-Answer-clause-leads g c = record {
  table = (refl, refl, refl);
  to = λ r x. ends_at_once r _ c.args.run.now c.start.new.self c.start.ensures.same c.in-Answer.answer c.in-Answer.ensures.begins x;
  steps = omega arith;
}

pub to_goal-requires-clause-first : goal.to_goal-requires-clause-first
to_goal-requires-clause-first g c = λ more. refl
