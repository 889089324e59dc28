use Rattle.edits.specs.Laws.PairPlaces.{listed}
use Rattle.std.proofs.Common.{◌∙◌, ◌≤◌, ap, subst, sym, take, length}
use Rattle.edits.proofs.PairPlaces.{below_few, kept_is}
use Rattle.edits.proofs.pairs.Pairs.keep_below.Goals as goal

pub returns : goal.returns
returns c = (λ i. listed record { first = c.moved_back.ensures i; second = c.moved_back-2.ensures i; third = c.moved_back-3.ensures i; fourth = c.moved_back-4.ensures i; fifth = c.moved_back-5.ensures i; count = c.below-at.result })
    ∙ kept_is c.self.inside c.args.self c.self.view_is c.self.invariant c.below-at.result (subst (λ n. n ≤ length c.args.self) (sym c.below-at.ensures.is) (below_few c.args.key c.args.self))
    ∙ ap (λ n. take n c.args.self) c.below-at.ensures.is
