use Rattle.order.proofs.Undisturbed.{alone_next, alone_range, alone_try, never_contended, one_never_contended}
use Rattle.order.specs.Range.{range_means}
use Rattle.order.specs.Neighbour.{neighbour_means}
use Rattle.order.proofs.alone.alone_holds.Goals as goal

pub returns-clause-neighbour : goal.returns-clause-neighbour
returns-clause-neighbour f old now turn c h got map alone spells ready is x = alone_next c h alone map spells old now turn got ready is x

pub returns-clause-range : goal.returns-clause-range
returns-clause-range f old now turn c h got map alone spells ready is x = alone_range c h alone map spells old now turn got ready is x

pub returns-clause-neighbour_try : goal.returns-clause-neighbour_try
returns-clause-neighbour_try f old now turn c h nodes run alone is keeps near = alone_try c h run alone nodes neighbour_means old now turn is keeps near

pub returns-clause-range_try : goal.returns-clause-range_try
returns-clause-range_try f old now turn c h nodes run alone is keeps near = alone_try c h run alone nodes range_means old now turn is keeps near

pub returns-clause-undisturbed : goal.returns-clause-undisturbed
returns-clause-undisturbed f c h n s run alone x = never_contended c h run alone n s x

pub returns-clause-one_pass : goal.returns-clause-one_pass
returns-clause-one_pass f c h n s one x = one_never_contended c h n s one x
