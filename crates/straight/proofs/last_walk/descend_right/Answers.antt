use Rattle.std.proofs.Common.{◌≡◌, ◌+◌, ◌≤◌, ◌∙◌, true, refl, sym, subst, arith}
use Rattle.histories.specs.Common.{Right, head_of}
use Rattle.straight.specs.StraightWalk.{Walker, WalkerGoesDown, WalkerIsTold}
use Rattle.tables.specs.Traces.{shared_nodes}
use Rattle.straight.specs.CallKinds.{calls}
use Rattle.straight.specs.Hands.{names}
use Rattle.template.specs.Common.{End}
use Rattle.template.specs.Walk.Places.{way_at, LoadsHead}
use Rattle.template.specs.Walk.Steps.{room, walk_left}
use Rattle.straight.proofs.StraightWalk.{to_known, fits, fewer}
use Rattle.straight.proofs.last_walk.descend_right.Given.{Over}
use Rattle.straight.proofs.last_walk.descend_right.Goals.{After-goes_right, After-descend-place}
use Rattle.straight.proofs.last_walk.descend_right.Goals as goal

-- whichever call it is, it goes right
down : (g : Over) (c : After-goes_right g) → c.goes_right.result ≡ true → (w : Walker (calls g.S.Shape g.M.Machine g.M.CallMachine.left_dealt (names c.args.hand) c.args.hand.number))
    → WalkerIsTold w c.args.seat.now.me.0.passes (way_at c.args.way (End Right) c.args.first.trail c.args.first.at) c.args.first.turns c.args.head
    → WalkerGoesDown w c.loop-way.seat.me.0.passes c.args.way (End Right) c.loop-way.place.trail (head_of c.loop-way.word).level Right c.loop-way.place.turns
down g c known w x = to_known w _ c.args.way (End Right) c.loop-way.place.trail c.loop-way.place.turns c.loop-way.place.at c.loop-way.word (head_of c.loop-way.word) c.loop-way.invariant.loads refl Right (c.goes_right.ensures.fork known) refl (c.goes_right.ensures.right known) (c.loop-way.invariant.told w x)

-- a node's head, and the child that is loaded after it, take at most three steps
less : (g : Over) (c : After-descend-place g) → 3 + walk_left c.descend-place.result.at (room c.args.way (shared_nodes (names c.args.hand))) ≤ walk_left c.loop-way.place.at (room c.args.way (shared_nodes (names c.args.hand)))
less g c =
    let r = c.requires.told in
    subst (λ p. 3 + walk_left p (room c.args.way (shared_nodes (names c.args.hand))) ≤ walk_left c.loop-way.place.at (room c.args.way (shared_nodes (names c.args.hand)))) (sym c.descend-place.ensures.below.at)
    (fewer c.loop-way.place.at c.loop-way.word (room c.args.way (shared_nodes (names c.args.hand))) (head_of c.loop-way.word) c.loop-way.invariant.loads refl (fits r.0 _ (way_at c.args.way (End Right) c.loop-way.place.trail c.loop-way.place.at) c.loop-way.place.turns c.loop-way.word (c.loop-way.invariant.told r.0 r.1)) c.descend-place.ensures.below.deep)

pub loop-way-init : goal.loop-way-init
loop-way-init g c = record { here = (refl, refl, refl); loads = c.requires.stands.place; start = c.requires.stands.begins; nearer = omega arith; steps = omega arith; told = λ w x. x }

pub descend-place-requires-clause-waits : goal.descend-place-requires-clause-waits
descend-place-requires-clause-waits g c = let r = c.requires.told in (r.0, down g (goal.at.descend-place-requires-clause-waits g c).After-goes_right c.loop-way-test.true r.0 r.1)

pub read-word-requires-clause-waits : goal.read-word-requires-clause-waits
read-word-requires-clause-waits g c = let r = c.requires.told in (r.0, way_at c.args.way (End Right) c.descend-place.result.trail c.descend-place.result.at, c.descend-place.result.turns, c.descend-place.ensures.down r.0 (down g (goal.at.read-word-requires-clause-waits g c).After-goes_right c.loop-way-test.true r.0 r.1))

pub loop-way-preserved : goal.loop-way-preserved
loop-way-preserved g c =
    let few = less g (goal.at.loop-way-preserved g c).After-descend-place in
    let one = c.descend-place.ensures.one in let two = c.read-word.ensures.one in let near = c.loop-way.invariant.nearer in let old = c.loop-way.invariant.steps in
    record {
      here = (c.read-word.ensures.table.0 ∙ c.descend-place.ensures.table.0 ∙ c.loop-way.invariant.here.0, c.read-word.ensures.table.1 ∙ c.descend-place.ensures.table.1 ∙ c.loop-way.invariant.here.1, c.read-word.ensures.table.2 ∙ c.descend-place.ensures.table.2 ∙ c.loop-way.invariant.here.2);
      loads = subst LoadsHead (sym c.descend-place.ensures.below.at) tt;
      start = c.descend-place.ensures.below.begins;
      nearer = omega (arith, few, near);
      steps = omega (arith, few, one, two, old);
      told = λ w x. c.read-word.ensures.told w (way_at c.args.way (End Right) c.descend-place.result.trail c.descend-place.result.at) c.descend-place.result.turns (c.descend-place.ensures.down w (down g (goal.at.loop-way-preserved g c).After-goes_right c.loop-way-test.true w x));
    }

pub loop-way-smaller : goal.loop-way-smaller
loop-way-smaller g c = let few = less g (goal.at.loop-way-smaller g c).After-descend-place in omega (arith, few)

pub returns-clause-stands : goal.returns-clause-stands
returns-clause-stands g c = record { place = c.loop-way.invariant.loads; begins = c.loop-way.invariant.start }

pub returns-clause-nearer : goal.returns-clause-nearer
returns-clause-nearer g c = record { nearer = c.loop-way.invariant.nearer; steps = c.loop-way.invariant.steps }
