use Rattle.std.proofs.Common.{◌≡◌, ◌∙◌, ℕ, List, [], Some, ap, arith, subst, rules}
use Rattle.arena.specs.declared.word.Slot.TheVariants.{First}
use Rattle.ordered_map.specs.Holding.{slot_behind}
use Rattle.audit.specs.Edits.{word_now}
use Rattle.audit.proofs.ListEdits.{AreReadTo, read_none, read_one, read_room, read_all}
use Rattle.audit.proofs.leaves.held.Goals.{In-Some}
use Rattle.audit.proofs.leaves.held.Goals as goal

-- the pairs in front of the slot were read
stands : (c : In-Some) → AreReadTo (word_now c.args.judge.now) c.args.leaf c.loop-next.pairs.items (Some c.in-Some.slot)
stands c = subst (AreReadTo (word_now c.args.judge.now) c.args.leaf c.loop-next.pairs.items) c.in-Some.is c.loop-next.invariant

pub loop-next-init : goal.loop-next-init
loop-next-init c =
    let none : [] ≡ c.new-pairs.result.items = search rules in
    subst (λ (ps : List (ℕ × ℕ)). AreReadTo (word_now c.args.judge.now) c.args.leaf ps (Some First)) none (read_none (word_now c.args.judge.now) c.args.leaf c.requires)

pub push-requires : goal.push-requires
push-requires c = let room = read_room (word_now c.args.judge.now) c.args.leaf c.loop-next.pairs.items c.in-Some.slot (stands (goal.at.push-requires c).In-Some) in omega (arith, room)

pub loop-next-preserved : goal.loop-next-preserved
loop-next-preserved c =
    let f = word_now c.args.judge.now in
    read_one f c.args.leaf c.loop-next.pairs.items _ c.pair_in.result c.in-Some.slot _ c.push.ensures.items c.pair_in.ensures
    (c.slot_behind-next.ensures ∙ ap (λ m. slot_behind m c.in-Some.slot) c.settled-more.ensures) (stands (goal.at.loop-next-preserved c).In-Some)

pub loop-next-smaller : goal.loop-next-smaller
loop-next-smaller c = let room = read_room (word_now c.args.judge.now) c.args.leaf c.loop-next.pairs.items c.in-Some.slot (stands (goal.at.loop-next-smaller c).In-Some) in let many = c.push.ensures.len in omega (arith, room, many)

pub returns-clause-pairs : goal.returns-clause-pairs
returns-clause-pairs c = (read_all (word_now c.args.judge.now) c.args.leaf c.loop-next.pairs.items (search rules)).0

pub returns-clause-few : goal.returns-clause-few
returns-clause-few c = (read_all (word_now c.args.judge.now) c.args.leaf c.loop-next.pairs.items (search rules)).1
