use Rattle.std.proofs.Common.{◌<◌, ◌==◌, ◌∙◌, ap, subst, arith}
use Rattle.ordered_map.specs.declared.pair.Pair.{Pair}
use Rattle.edits.proofs.PairPlaces.{has_beyond, has_there}
use Rattle.edits.proofs.pairs.Pairs.has_at.Goals as goal

pub returns-then-at-len : goal.returns-then-at-len
returns-then-at-len c = ap (λ (p : Pair). p.key == c.args.key) c.place.ensures ∙ has_there c.args.key c.args.at c.args.self.now (subst (λ n. c.args.at < n) c.len.ensures.length c.if-at-len.true)

pub returns-else-at-len : goal.returns-else-at-len
returns-else-at-len c = has_beyond c.args.key c.args.at c.args.self.now (let n = c.if-at-len.false in let e = c.len.ensures.length in omega (arith, n, e))
