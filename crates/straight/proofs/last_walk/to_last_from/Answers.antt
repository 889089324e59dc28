use Rattle.histories.specs.Common.{Right}
use Rattle.template.specs.Common.{End}
use Rattle.std.proofs.Common.{◌+◌, ◌≤◌, ◌∙◌, refl, sym, subst, arith}
use Rattle.histories.specs.Common.{head_of}
use Rattle.straight.specs.StraightWalk.{Walker, WalkerIsTold, WalkerIsAt}
use Rattle.tables.specs.Traces.{shared_nodes}
use Rattle.straight.specs.CallKinds.{calls}
use Rattle.straight.specs.Hands.{names}
use Rattle.template.specs.Walk.Places.{way_at, LoadsHead}
use Rattle.template.specs.Walk.Steps.{room, WalkFitsAt, walk_left}
use Rattle.straight.proofs.StraightWalk.{fits, fewer, some_left}
use Rattle.straight.proofs.last_walk.to_last_from.Given.{Over}
use Rattle.straight.proofs.last_walk.to_last_from.Goals.{After-read-head, After-descend_right-word, After-descend-place}
use Rattle.straight.proofs.last_walk.to_last_from.Goals as goal

-- whichever call it is, it has got the head of this node
told : (g : Over) (c : After-read-head g) (w : Walker (calls g.S.Shape g.M.Machine g.M.CallMachine.left_dealt (names c.args.hand) c.args.hand.number))
    → WalkerIsAt w c.args.seat.now.me.0.passes c.args.way (End Right) c.args.first
    → WalkerIsTold w c.read-head.new.seat.me.0.passes (way_at c.args.way (End Right) c.loop-side.place.trail c.loop-side.place.at) c.loop-side.place.turns c.read-head.result
told g c w x = c.read-head.ensures.told w (way_at c.args.way (End Right) c.loop-side.place.trail c.loop-side.place.at) c.loop-side.place.turns (c.loop-side.invariant.waits w x)

-- and that of the node where it may not go right without a key
told_last : (g : Over) (c : After-descend_right-word g) (w : Walker (calls g.S.Shape g.M.Machine g.M.CallMachine.left_dealt (names c.args.hand) c.args.hand.number))
    → WalkerIsAt w c.args.seat.now.me.0.passes c.args.way (End Right) c.args.first
    → WalkerIsTold w c.descend_right-word.new.seat.me.0.passes (way_at c.args.way (End Right) c.descend_right-word.result.0.trail c.descend_right-word.result.0.at) c.descend_right-word.result.0.turns c.descend_right-word.result.1
told_last g c w x = c.descend_right-word.ensures.told w (told g (goal.at.descend_right-word-requires-clause-told g c.before).After-read-head w x)

head_fits : (g : Over) (c : After-descend_right-word g) → WalkFitsAt c.descend_right-word.result.0.at c.descend_right-word.result.1 (room c.args.way (shared_nodes (names c.args.hand)))
head_fits g c = let r = c.requires.waits in fits r.0 _ (way_at c.args.way (End Right) c.descend_right-word.result.0.trail c.descend_right-word.result.0.at) c.descend_right-word.result.0.turns c.descend_right-word.result.1 (told_last g c r.0 r.1)

-- a node's head, and what is loaded after it, take at most three steps
less : (g : Over) (c : After-descend-place g) → 3 + walk_left c.descend-place.result.at (room c.args.way (shared_nodes (names c.args.hand))) ≤ walk_left c.loop-side.place.at (room c.args.way (shared_nodes (names c.args.hand)))
less g c =
    let few = fewer c.descend_right-word.result.0.at c.descend_right-word.result.1 (room c.args.way (shared_nodes (names c.args.hand))) (head_of c.descend_right-word.result.1) c.descend_right-word.ensures.stands.place refl (head_fits g (goal.at.descend-place-requires-clause-waits g c.before).After-descend_right-word) c.descend-place.ensures.below.deep in
    let near = c.descend_right-word.ensures.nearer.nearer in
    subst (λ p. 3 + walk_left p (room c.args.way (shared_nodes (names c.args.hand))) ≤ walk_left c.loop-side.place.at (room c.args.way (shared_nodes (names c.args.hand)))) (sym c.descend-place.ensures.below.at) (omega (arith, few, near))

pub read-head-requires-clause-waits : goal.read-head-requires-clause-waits
read-head-requires-clause-waits g c = let r = c.requires.waits in (r.0, way_at c.args.way (End Right) c.loop-side.place.trail c.loop-side.place.at, c.loop-side.place.turns, c.loop-side.invariant.waits r.0 r.1)

pub descend_right-word-requires-clause-told : goal.descend_right-word-requires-clause-told
descend_right-word-requires-clause-told g c = let r = c.requires.waits in (r.0, told g (goal.at.descend_right-word-requires-clause-told g c).After-read-head r.0 r.1)

pub pass_last-requires-clause-told : goal.pass_last-requires-clause-told
pass_last-requires-clause-told g c = let r = c.requires.waits in (r.0, c.descend_right-word.result.0.turns, told_last g (goal.at.pass_last-requires-clause-told g c).After-descend_right-word r.0 r.1)

pub returns-in-Err-clause-steps : goal.returns-in-Err-clause-steps
returns-in-Err-clause-steps g c =
    let few = some_left c.descend_right-word.result.0.at c.descend_right-word.result.1 (room c.args.way (shared_nodes (names c.args.hand))) c.descend_right-word.ensures.stands.place (head_fits g (goal.at.returns-in-Err-clause-steps g c).After-descend_right-word) in
    let one = c.read-head.ensures.one in let more = c.descend_right-word.ensures.nearer.steps in let last = c.in-Err.ensures.steps in let old = c.loop-side.invariant.steps in
    omega (arith, few, one, more, last, old)

pub returns-in-Err-clause-finds : goal.returns-in-Err-clause-finds
returns-in-Err-clause-finds g c = λ w x. c.in-Err.ensures.finds w c.descend_right-word.result.0.turns (told_last g (goal.at.returns-in-Err-clause-finds g c).After-descend_right-word w x)

pub descend-place-requires-clause-waits : goal.descend-place-requires-clause-waits
descend-place-requires-clause-waits g c = let r = c.requires.waits in (r.0, c.in-Ok.ensures.down r.0 c.descend_right-word.result.0.turns (told_last g (goal.at.descend-place-requires-clause-waits g c).After-descend_right-word r.0 r.1))

pub loop-side-smaller : goal.loop-side-smaller
loop-side-smaller g c = let few = less g (goal.at.loop-side-smaller g c).After-descend-place in omega (arith, few)

pub loop-side-preserved : goal.loop-side-preserved
loop-side-preserved g c = record {
  here = (c.descend-place.ensures.table.0 ∙ c.in-Ok.ensures.table.0 ∙ c.descend_right-word.ensures.table.0 ∙ c.read-head.ensures.table.0 ∙ c.loop-side.invariant.here.0, c.descend-place.ensures.table.1 ∙ c.in-Ok.ensures.table.1 ∙ c.descend_right-word.ensures.table.1 ∙ c.read-head.ensures.table.1 ∙ c.loop-side.invariant.here.1, c.descend-place.ensures.table.2 ∙ c.in-Ok.ensures.table.2 ∙ c.descend_right-word.ensures.table.2 ∙ c.read-head.ensures.table.2 ∙ c.loop-side.invariant.here.2);
  loads = subst LoadsHead (sym c.descend-place.ensures.below.at) tt;
  start = c.descend-place.ensures.below.begins;
  steps = (
      let few = fewer c.descend_right-word.result.0.at c.descend_right-word.result.1 (room c.args.way (shared_nodes (names c.args.hand))) (head_of c.descend_right-word.result.1) c.descend_right-word.ensures.stands.place refl (head_fits g (goal.at.loop-side-preserved g c).After-descend_right-word) c.descend-place.ensures.below.deep in
      let one = c.read-head.ensures.one in let more = c.descend_right-word.ensures.nearer.steps in let side = c.in-Ok.ensures.steps in let last = c.descend-place.ensures.one in let old = c.loop-side.invariant.steps in
      rw c.descend-place.ensures.below.at (omega (arith, few, one, more, side, last, old))
      );
  waits = λ w x. c.descend-place.ensures.down w (c.in-Ok.ensures.down w c.descend_right-word.result.0.turns (told_last g (goal.at.loop-side-preserved g c).After-descend_right-word w x));
}

pub pass_last-requires-clause-left : goal.pass_last-requires-clause-left
pass_last-requires-clause-left g c = c.descend_right-word.ensures.left

pub descend_right-word-requires-clause-stands : goal.descend_right-word-requires-clause-stands
descend_right-word-requires-clause-stands g c = record { place = c.loop-side.invariant.loads; begins = c.loop-side.invariant.start }
