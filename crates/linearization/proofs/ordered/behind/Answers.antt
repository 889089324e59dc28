use Rattle.std.proofs.Common.{◌≡◌, ◌∷◌, ap, rules}
use Rattle.record.specs.Common.{word_pair, number_pairs}
use Rattle.linearization.proofs.ordered.behind.Goals as goal

pub returns-then-first-value-clause-some : goal.returns-then-first-value-clause-some
returns-then-first-value-clause-some c =
    let is : c.args.pairs.now ≡ c.in_ok-first.first.now ∷ c.in_ok-first.rest.now = search (rules, c.in_ok-first.ensures) in
    (word_pair (λ n. n) (λ n. n) c.in_ok-first.first.now, c.if-first-key.true, c.if-first-value.true, ap number_pairs is)
