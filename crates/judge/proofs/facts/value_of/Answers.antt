use Rattle.std.proofs.Common.{◌≡◌, true, sym}
use Rattle.judge.proofs.Words.{value_outside}
use Rattle.judge.proofs.facts.value_of.Goals as goal

pub returns-else-has : goal.returns-else-has
returns-else-has c = rw (← c.judge.view_is) (sym (value_outside _ _ c.args.word c.judge.invariant.lawful (λ i. let t : c.has.result ≡ true = c.has.ensures.1 (rw c.layout.ensures i) in let f = c.if-has.false in cc)))
