use Rattle.edits.specs.Laws.PairPlaces.{listed}
use Rattle.std.proofs.Common.{◌≡◌, ◌-◌, ◌∙◌, rules, nat_lt, if◌then◌else◌}
use Rattle.edits.proofs.PairPlaces.{out_is}
use Rattle.edits.proofs.pairs.Pairs.without.Goals as goal

pub returns : goal.returns
returns c = (λ i. listed record { first = c.moved_back.ensures i; second = c.moved_back-2.ensures i; third = c.moved_back-3.ensures i; fourth = c.moved_back-4.ensures i; fifth = c.moved_back-5.ensures i; count = c.if-at-self.result }) ∙ out_is c.self.inside c.args.self c.self.view_is c.self.invariant c.args.at c.requires c.if-at-self.result count
  where
    count : c.if-at-self.result ≡ (if nat_lt c.args.at c.self.inside.count then c.self.inside.count - 1 else c.self.inside.count)
    count = search rules
