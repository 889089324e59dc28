use Rattle.std.proofs.Common.{◌∙◌, min, arith}
use Rattle.edits.proofs.PairPlaces.{below_few, below_here, few_listed}
use Rattle.edits.proofs.pairs.Pairs.below.Goals as goal

pub returns-clause-is : goal.returns-clause-is
returns-clause-is c = c.min.ensures ∙ (λ i. min (c.run.ensures i) c.self.inside.count) ∙ below_here c.self.inside c.args.self.now c.self.view_is c.self.invariant c.args.key

pub returns-clause-few : goal.returns-clause-few
returns-clause-few c =
    let is = c.min.ensures ∙ (λ i. min (c.run.ensures i) c.self.inside.count) ∙ below_here c.self.inside c.args.self.now c.self.view_is c.self.invariant c.args.key in
    let few = below_few c.args.key c.args.self.now in
    let five = few_listed c.self.inside c.args.self.now c.self.view_is c.self.invariant in
    omega (arith, is, few, five)
