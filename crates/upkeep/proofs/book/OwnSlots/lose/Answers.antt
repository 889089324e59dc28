use Rattle.std.proofs.Common.{◌≡◌, ◌<◌, ◌≤◌, ◌+◌, ℕ, arith}
use Rattle.upkeep.specs.UpkeepLost.{IsFromTo}
use Rattle.upkeep.proofs.UpkeepLost.{loses_none, loses_then}
use Rattle.upkeep.proofs.book.OwnSlots.lose.Goals as goal

pub loop-name-init : goal.loop-name-init
loop-name-init c = record { loses = loses_none _ c.args.self.now; none = λ less. omega arith }

pub loop-name-preserved : goal.loop-name-preserved
loop-name-preserved c =
    let from = c.loop-name.auto.name in
    let before = c.loop-name-test.true in record {
      loses = loses_then (IsFromTo c.args.from c.loop-name.name) (λ n. n ≡ c.loop-name.name) (IsFromTo c.args.from (c.loop-name.name + 1)) c.args.self.now c.loop-name.self c.lose_one.new.self
          (λ n is. (is.0, let less = is.1 in omega (arith, less)))
          (λ n e. (omega (arith, from, e), omega (arith, e)))
          c.loop-name.invariant.loses c.lose_one.ensures;
      none = λ less. omega (arith, less, from, before);
    }

below : (from to name n : ℕ) → (to ≤ from → name ≤ from) → (from ≤ to → name ≤ to) → from ≤ n → n < name → n < to
below from to name n none end a b = grind arith

pub returns : goal.returns
returns c =
    let none = c.loop-name.invariant.none in
    let end = c.loop-name.auto.name-end in
    loses_then (IsFromTo c.args.from c.loop-name.name) (IsFromTo c.args.from c.args.to) (IsFromTo c.args.from c.args.to) c.args.self.now c.loop-name.self c.loop-name.self
    (λ n is. (is.0, below c.args.from c.args.to c.loop-name.name n none end is.0 is.1))
    (λ n is. is)
    c.loop-name.invariant.loses (loses_none _ c.loop-name.self)
