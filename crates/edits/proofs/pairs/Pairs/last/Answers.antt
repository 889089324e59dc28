use Rattle.std.proofs.Common.{◌∙◌, ◌-◌, ap}
use Rattle.edits.specs.Pairs.{pair_at}
use Rattle.edits.proofs.PairPlaces.{last_at}
use Rattle.edits.proofs.pairs.Pairs.last.Goals as goal

pub returns : goal.returns
returns c = c.place.ensures ∙ ap (pair_at c.args.self.now) (c.saturating_sub.ensures ∙ ap (λ n. n - 1) c.len.ensures.length) ∙ last_at c.args.self.now
