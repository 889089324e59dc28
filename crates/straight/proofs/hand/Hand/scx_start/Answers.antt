use Rattle.std.proofs.Common.{◌≡◌, ◌+◌, ◌<◌, ◌*◌, ◌%◌, ◌∙◌, arith, subst, sym}
use Rattle.straight.specs.Hands.{hand_slots}
use Rattle.tables.proofs.Slotted.{scx_begins_at, scx_begins_low, scx_masked, scx_unmasked}
use Rattle.straight.proofs.hand.Hand.scx_start.Given.{Over}
use Rattle.straight.proofs.hand.Hand.scx_start.Goals as goal
use Rattle.straight.proofs.hand.Hand.scx_start.Goals.{then-lasts, else-lasts}

slot_is : (g : Over) (c : goal.After-row_known-1 g) → c.if-lasts.slot ≡ c.args.scx.0 % (hand_slots c.args.self).scx_turn
slot_is g c = elim c.if-lasts.branch [ then-lasts w ↦ w.slot-is ∙ scx_masked c.requires.table c.args.scx c.requires.scx (sym c.lasts.ensures ∙ w.if-lasts.true) | else-lasts w ↦ w.slot-is ∙ scx_unmasked c.requires.table c.args.scx c.requires.scx (sym c.lasts.ensures ∙ w.if-lasts.false) ]

pub returns-clause-start : goal.returns-clause-start
returns-clause-start g c = scx_begins_at c.requires.table c.args.scx c.requires.scx c.scx_start.result c.if-lasts.slot c.scx_start.ensures (slot_is g c)

low : (g : Over) (c : goal.After-row_known-1 g) → c.scx_start.result + 14 * c.if-lasts.slot < 1099511627776
low g c = subst (λ n. n < 1099511627776) (sym (scx_begins_at c.requires.table c.args.scx c.requires.scx c.scx_start.result c.if-lasts.slot c.scx_start.ensures (slot_is g c))) (scx_begins_low c.requires.table c.args.scx c.requires.scx)

pub returns-clause-fits : goal.returns-clause-fits
returns-clause-fits = low

pub overflow_mul-result : goal.overflow_mul-result
overflow_mul-result g c = let small = low g c in omega (arith, small)

pub overflow_add-result : goal.overflow_add-result
overflow_add-result g c = let small = low g c in omega (arith, small)
