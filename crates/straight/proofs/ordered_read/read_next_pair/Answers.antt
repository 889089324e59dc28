use Rattle.std.proofs.Common.{◌≡◌, ◌∙◌, ap, refl, rules, sym}
use denote.Enum.Bare.{same_true}
use Rattle.arena.specs.contracts.word.Slot.{the_type}
use Rattle.order.specs.declared.load.ReadLoad.TheVariants.{Pair}
use Rattle.order.specs.declared.read.ReadNext.TheVariants.{Load}
use Rattle.straight.proofs.StraightReading.{reads_as, reads_on}
use Rattle.straight.proofs.ordered_read.read_next_pair.Given.{Over}
use Rattle.straight.proofs.ordered_read.read_next_pair.Goals.{Then-eq}
use Rattle.straight.proofs.ordered_read.read_next_pair.Goals as goal

-- a pair comes next
is_pair : (g : Over) (c : Then-eq g) → c.args.next ≡ Load (Pair c.in-Load-Pair.place)
is_pair g c =
    let load = c.in-Load-Pair.is in
    let pair = rw load at c.in-Load-Pair.field-0-is in
    load ∙ ap Load (pair ∙ ap Pair (rw (load, pair) at c.in-Load-Pair.place-is))

-- in this slot
is_slot : (g : Over) (c : Then-eq g) → c.in-Load-Pair.place.slot ≡ c.args.slot
is_slot g c = rw (is_pair g c) at (same_true the_type (search rules) _ _ (sym c.if-eq.ensures))

-- and so that of this slot
is_here : (g : Over) (c : Then-eq g) → c.args.next ≡ Load (Pair record c.in-Load-Pair.place { slot = c.args.slot })
is_here g c = is_pair g c ∙ ap (λ s. Load (Pair record c.in-Load-Pair.place { slot = s })) (is_slot g c)

pub read_pair-requires-clause-waits : goal.read_pair-requires-clause-waits
read_pair-requires-clause-waits g c = let w = c.requires.waits in let k = (goal.at.read_pair-requires-clause-waits g c).Then-eq in (w.0, rw (is_pair g k) (rw (is_here g k) at w.1))

pub returns-in-Load-Pair : goal.returns-in-Load-Pair
returns-in-Load-Pair g c = let k = (goal.at.returns-in-Load-Pair g c).Then-eq in reads_on (reads_as (is_here g k)) (rw (is_pair g k) at c.read_pair.ensures)

pub returns-in_default : goal.returns-in_default
returns-in_default g c = reads_as refl
