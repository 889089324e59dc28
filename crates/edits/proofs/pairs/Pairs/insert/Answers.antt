use Rattle.std.proofs.Common.{◌≡◌, ◌∷◌, ◌++◌, take, drop, true, false, sym, ◌∙◌, ap, subst, slice_set}
use Rattle.ordered_map.specs.OrderedMap.{pair}
use Rattle.edits.specs.Pairs.{has_at}
use Rattle.edits.proofs.PairPlaces.{few_listed, put_there, set_there}
use Rattle.edits.proofs.pairs.Pairs.insert.Goals as goal

pub returns-then-has_at : goal.returns-then-has_at
returns-then-has_at c = c.set.ensures ∙ ap (λ at. slice_set c.args.self at (pair c.args.key c.args.value)) c.below-at.ensures.is ∙ set_there c.args.key c.args.value c.args.self (few_listed c.self.inside c.args.self c.self.view_is c.self.invariant)
    (subst (λ at. has_at c.args.key at c.args.self ≡ true) c.below-at.ensures.is (sym c.has_at.ensures ∙ c.if-has_at.true))

pub returns-else-has_at : goal.returns-else-has_at
returns-else-has_at c = c.put.ensures ∙ ap (λ at. take 5 (take at c.args.self ++ pair c.args.key c.args.value ∷ drop at c.args.self)) c.below-at.ensures.is ∙ put_there c.args.key c.args.value c.args.self
    (subst (λ at. has_at c.args.key at c.args.self ≡ false) c.below-at.ensures.is (sym c.has_at.ensures ∙ c.if-has_at.false))
