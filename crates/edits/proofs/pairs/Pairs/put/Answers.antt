use Rattle.edits.specs.Laws.PairPlaces.{listed}
use Rattle.std.proofs.Common.{◌∙◌}
use Rattle.edits.proofs.PairPlaces.{put_is}
use Rattle.edits.proofs.pairs.Pairs.put.Goals as goal

pub returns : goal.returns
returns c = (λ i. listed record { first = c.moved_on.ensures i; second = c.moved_on-2.ensures i; third = c.moved_on-3.ensures i; fourth = c.moved_on-4.ensures i; fifth = c.moved_on-5.ensures i; count = c.min.ensures i }) ∙ put_is c.self.inside c.args.self c.self.view_is c.self.invariant c.args.at c.requires c.args.pair
