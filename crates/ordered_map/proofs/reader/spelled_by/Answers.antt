use Rattle.std.proofs.Common.{refl}
use Rattle.std.proofs.lemmas.Result.{IfOk-weaker}
use Rattle.std.proofs.lemmas.Option.{IfSome_then}
use Rattle.ordered_map.proofs.LeafLists.{none_then, leaves_inside, others_inside, leaves_spell, spells_ends, spells_holds}
use Rattle.ordered_map.proofs.reader.spelled_by.Goals as goal

pub take_ends-requires : goal.take_ends-requires
take_ends-requires c = leaves_inside c.args.words.now c.args.leaves.items c.requires

pub pairs-requires : goal.pairs-requires
pairs-requires c = rw c.as_slice.ensures.value (others_inside c.args.words.now c.args.leaves.items c.take_ends.new.leaves.items (leaves_inside c.args.words.now c.args.leaves.items c.requires) (c.if-take_ends.ensures.ends refl))

pub returns-then-take_ends-clause-spells : goal.returns-then-take_ends-clause-spells
returns-then-take_ends-clause-spells c = IfOk-weaker c.pairs.result _ _
    (λ o held_pairs. IfSome_then o held_pairs (λ m h. leaves_spell c.args.words.now c.args.leaves.items c.take_ends.new.leaves.items m.items c.requires (c.if-take_ends.ensures.ends refl) (rw c.as_slice.ensures.value at h)))
    c.pairs.ensures.low

pub returns-then-take_ends-clause-none : goal.returns-then-take_ends-clause-none
returns-then-take_ends-clause-none c = IfOk-weaker c.pairs.result _ _
    (λ o none. none_then o none (λ no m x. no m (rw c.as_slice.ensures.value (spells_holds c.args.words.now c.args.leaves.items c.take_ends.new.leaves.items m c.requires (c.if-take_ends.ensures.ends refl) x))))
    c.pairs.ensures.none

pub returns-clause-none : goal.returns-clause-none
returns-clause-none c m x = c.if-take_ends.ensures.others (λ e. cc) x.others (spells_ends c.args.words.now c.args.leaves.items m c.requires x)
