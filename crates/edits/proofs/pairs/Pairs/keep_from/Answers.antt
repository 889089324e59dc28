use Rattle.edits.specs.Laws.PairPlaces.{listed}
use Rattle.std.proofs.Common.{◌∙◌, ◌≤◌, ap, subst, sym, drop, length}
use Rattle.edits.proofs.PairPlaces.{below_few, left_is}
use Rattle.edits.proofs.pairs.Pairs.keep_from.Goals as goal

pub returns : goal.returns
returns c = (λ i. listed record { first = c.place.ensures i; second = c.place-2.ensures i; third = c.place-3.ensures i; fourth = c.place-4.ensures i; fifth = c.place-5.ensures i; count = c.saturating_sub.ensures i })
    ∙ left_is c.self.inside c.args.self c.self.view_is c.self.invariant c.below-at.result (subst (λ n. n ≤ length c.args.self) (sym c.below-at.ensures.is) (below_few c.args.key c.args.self))
    ∙ ap (λ n. drop n c.args.self) c.below-at.ensures.is
