use Rattle.std.proofs.Common.{ap, sym, ◌∙◌, arith}
use Rattle.arena.specs.declared.head.Head.{Head as HeadParts}
use Rattle.order.proofs.RangeVisits.{high_behind, high_looks, starts_in}
use Rattle.order.proofs.range.RangeRead.head_on.Goals as goal

pub returns-in-true-true-clause-goes_on : goal.returns-in-true-true-clause-goes_on
returns-in-true-true-clause-goes_on c snaps d h reading own x is = starts_in c.args.self.now snaps d h c.args.node reading x (ap (λ (w : HeadParts). w.leaf) is ∙ c.in-true-true.is-0) (ap (λ (w : HeadParts). w.class) is ∙ c.in-true-true.is-1)

pub returns-in-true-false-clause-goes_on : goal.returns-in-true-false-clause-goes_on
returns-in-true-false-clause-goes_on c snaps d h reading own x is = c.visited.ensures.goes_on snaps d h (high_behind c.args.self.now snaps d h c.args.node.0 reading x own (ap (λ (w : HeadParts). w.leaf) is ∙ c.in-true-false.is-0) (λ z. c.in-true-false.is-1 (sym (ap (λ (w : HeadParts). w.class) is) ∙ z)))

pub returns-in-true-false-clause-nearer : goal.returns-in-true-false-clause-nearer
returns-in-true-false-clause-nearer c nodes fits = let n = c.visited.ensures.nearer nodes in let i = fits.0 in let j = n.1 in (n.0, omega (arith, i, j))

pub returns-in-false-false-clause-goes_on : goal.returns-in-false-false-clause-goes_on
returns-in-false-false-clause-goes_on c snaps d h reading own x is = high_looks c.args.self.now snaps d h c.args.node.0 reading x c.args.head is c.in-false-false.is-0 c.in-false-false.is-1
