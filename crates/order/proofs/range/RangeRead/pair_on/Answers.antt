use Rattle.std.proofs.Common.{◌<◌, ◌⊎◌, inl, inr, sym, ◌∙◌, arith, rules}
use Rattle.order.proofs.RangeVisits.{lt_of, pair_passed}
use Rattle.order.specs.Range.{range_means}
use Rattle.order.proofs.Placing.{takes_here}
use Rattle.order.proofs.range.RangeRead.pair_on.Goals as goal
use Rattle.order.proofs.range.RangeRead.pair_on.Goals.{then-self-key, else-self-key}

pub returns-then-key-self-clause-goes_on : goal.returns-then-key-self-clause-goes_on
returns-then-key-self-clause-goes_on c snaps d h reading own x is =
    let out : (c.args.key < c.args.self.now.low) ⊎ (c.args.self.now.high < c.args.key) = elim c.if-self-key.branch [
      | then-self-key w ↦ inl w.if-self-key.true
      | else-self-key w ↦ inr (lt_of _ _ (sym w.value-is ∙ c.if-key-self.true))
    ] in
    c.go_on.ensures.goes_on snaps d h (pair_passed c.args.self.now snaps d h c.args.place c.args.key own x is out)

pub returns-then-key-self-clause-nearer : goal.returns-then-key-self-clause-nearer
returns-then-key-self-clause-nearer c nodes = let n = c.go_on.ensures.nearer nodes in let i = n.1 in (n.0, omega (arith, i))

pub returns-else-key-self-clause-goes_on : goal.returns-else-key-self-clause-goes_on
returns-else-key-self-clause-goes_on c snaps d h reading own x is = takes_here range_means c.args.self.now snaps d h c.args.place c.args.key x is (search rules)
