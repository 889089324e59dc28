use Rattle.std.proofs.Common.{sym, ℕ, ◌+◌, ◌-◌, ◌*◌, ◌<◌, length, subst, arith}
use Rattle.template.specs.Balance.{nodes_by}
use Rattle.order.specs.Places.{RunComesNearer, placed}
use Rattle.order.specs.Steps.{read_left, tries_left}
use Rattle.order.proofs.Lemmas.{placed_nearer}
use Rattle.tables.specs.Traces.{shared_nodes}
use Rattle.straight.specs.Hands.{names}
use Rattle.straight.proofs.StraightReads.{begins_look, level_fits, looker, looks_again, looks_last, looks_on}
use Rattle.straight.proofs.ordered_read.look_on.Given.{Over}
use Rattle.straight.proofs.ordered_read.look_on.Goals.{In-Ok-looked}
use Rattle.straight.proofs.ordered_read.look_on.Goals as goal

pub look-requires-clause-waits : goal.look-requires-clause-waits
look-requires-clause-waits g c = let w = c.requires.waits in (looker w.0 c.args.run.now c.args.children c.args.level, begins_look w.0 c.args.run.now c.args.children c.args.level _ c.args.node w.1)

-- with its snapshot it has fewer steps left in this try
lighter : (g : Over) (c : In-Ok-looked g) → read_left g.R.Read.means (placed c.looked.new.self c.in-Ok-looked.next) (nodes_by c.looked.new.self.trie (shared_nodes (names c.args.hand))) < tries_left g.R.Read.means c.args.run.now (nodes_by c.args.run.now.trie (shared_nodes (names c.args.hand))) + (length c.args.run.now.snaps.items + 1 + 67 * (1 + nodes_by c.args.run.now.trie (shared_nodes (names c.args.hand)) - c.args.level) + g.R.Read.means.behind c.args.run.now.read (nodes_by c.args.run.now.trie (shared_nodes (names c.args.hand))))
lighter g c =
    let w = c.requires.waits in
    let nodes = nodes_by c.args.run.now.trie (shared_nodes (names c.args.hand)) in
    let most = length c.args.run.now.snaps.items + 1 + 67 * (1 + nodes - c.args.level) + g.R.Read.means.behind c.args.run.now.read nodes in
    let fits = level_fits w.0 c.args.run.now c.args.children c.args.level _ c.args.node c.in-Ok.snap (c.in-Ok.ensures.snaps (looker w.0 c.args.run.now c.args.children c.args.level) (begins_look w.0 c.args.run.now c.args.children c.args.level _ c.args.node w.1)) in
    let near : RunComesNearer g.R.Read.means c.looked.new.self nodes c.in-Ok-looked.next most = rw c.in-Ok-looked.is at (c.looked.ensures.nearer nodes fits) in
    subst (λ t. read_left g.R.Read.means (placed c.looked.new.self c.in-Ok-looked.next) (nodes_by t (shared_nodes (names c.args.hand))) < tries_left g.R.Read.means c.args.run.now nodes + most) (sym c.looked.ensures.same.4)
    (subst (λ (t : ℕ). read_left g.R.Read.means (placed c.looked.new.self c.in-Ok-looked.next) nodes < t * g.R.Read.means.try_left (g.R.Read.means.call c.args.run.now.read) nodes + most) c.looked.ensures.tries
    (subst (λ k. read_left g.R.Read.means (placed c.looked.new.self c.in-Ok-looked.next) nodes < c.looked.new.self.tries * g.R.Read.means.try_left k nodes + most) c.looked.ensures.same.0 (placed_nearer g.R.Read.means c.looked.new.self c.in-Ok-looked.next nodes most (omega arith) near)))

pub returns-in-Ok-looked : goal.returns-in-Ok-looked
returns-in-Ok-looked g c = let n = lighter g (goal.at.returns-in-Ok-looked g c).In-Ok-looked in record {
  table = c.look.ensures.table;
  to = λ r x. looks_on r c.args.run.now c.args.children c.args.level _ c.looked.new.self c.args.node c.in-Ok.snap c.in-Ok-looked.next c.looked.ensures.tries c.looked.ensures.same (rw c.in-Ok-looked.is at c.looked.ensures.goes_on)
      (c.in-Ok.ensures.snaps (looker r c.args.run.now c.args.children c.args.level) (begins_look r c.args.run.now c.args.children c.args.level _ c.args.node x));
  nearer = omega (arith, n);
  steps = (let few = c.look.ensures.steps in omega (arith, n, few));
}

pub returns-in-Err-looked : goal.returns-in-Err-looked
returns-in-Err-looked g c = record {
  table = c.look.ensures.table;
  to = λ r x. looks_last r c.args.run.now c.args.children c.args.level _ c.looked.new.self c.args.node c.in-Ok.snap c.in-Err-looked.refused c.looked.ensures.same (rw c.in-Err-looked.is at c.looked.ensures.goes_on)
      (c.in-Ok.ensures.snaps (looker r c.args.run.now c.args.children c.args.level) (begins_look r c.args.run.now c.args.children c.args.level _ c.args.node x));
  nearer = omega arith;
  steps = (let few = c.look.ensures.steps in omega (arith, few));
}

pub returns-in-Err : goal.returns-in-Err
returns-in-Err g c = record {
  table = c.look.ensures.table;
  to = λ r x. looks_again r c.args.run.now c.args.children c.args.level _ c.args.node c.in-Err.marked c.in-Err.scx (c.in-Err.ensures.waits (looker r c.args.run.now c.args.children c.args.level) (begins_look r c.args.run.now c.args.children c.args.level _ c.args.node x));
  nearer = omega arith;
  steps = (let few = c.look.ensures.steps in omega (arith, few));
}
