use Rattle.std.proofs.Common.{refl, sym, ◌∙◌}
use Rattle.order.proofs.Nearby.{at_last, to_next}
use Rattle.order.proofs.near.NearRun.behind.Goals as goal

pub returns-in-Some-clause-stands : goal.returns-in-Some-clause-stands
returns-in-Some-clause-stands c b rest is x = (refl, (rest, is, to_next c.args.self b c.args.slot rest x c.in-Some.slot (sym c.slot_behind.ensures ∙ c.in-Some.is)))

pub returns-in-None-clause-stands : goal.returns-in-None-clause-stands
returns-in-None-clause-stands c b rest is x = c.take.ensures.stands b rest is (at_last c.args.self b c.args.slot rest x (sym c.slot_behind.ensures ∙ c.in-None.is))
