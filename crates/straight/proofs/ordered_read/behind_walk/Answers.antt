use Rattle.std.proofs.Common.{◌≤◌, ◌∙◌, ◌+◌, suc, refl, arith}
use Rattle.straight.proofs.ordered_read.behind_walk.Goals as goal

pub in_leaf-requires-clause-walked : goal.in_leaf-requires-clause-walked
in_leaf-requires-clause-walked g c = c.requires.walked

pub go_on-requires-clause-waits : goal.go_on-requires-clause-waits
go_on-requires-clause-waits g c = let w = c.requires.walked in (w.0, rw (c.children-children.ensures, c.to-node.ensures) (c.in-None.ensures.nothing refl w.0 w.1))

pub returns-in-Some : goal.returns-in-Some
returns-in-Some g c = record { table = c.in_leaf.ensures.table; to = λ r x. c.in-Some.ensures.found r x; steps = (let few = c.in_leaf.ensures.steps in omega (arith, few)) }

pub returns-in-None : goal.returns-in-None
returns-in-None g c = record {
  table = (c.go_on.ensures.table.0 ∙ c.in_leaf.ensures.table.0, c.go_on.ensures.table.1 ∙ c.in_leaf.ensures.table.1, c.go_on.ensures.table.2 ∙ c.in_leaf.ensures.table.2);
  to = λ r x. c.go_on.ensures.to r (rw (c.children-children.ensures, c.to-node.ensures) (c.in-None.ensures.nothing refl r x));
  steps = (let few = c.in_leaf.ensures.steps in let rest = rw (c.children-children.ensures, c.to-node.ensures) at c.go_on.ensures.steps in omega (arith, few, rest));
}
