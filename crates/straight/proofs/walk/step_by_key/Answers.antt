use Rattle.std.proofs.Common.{◌+◌, ◌≤◌, refl, sym, subst}
use Rattle.histories.specs.Common.{head_of}
use Rattle.tables.specs.Traces.{shared_nodes}
use Rattle.straight.specs.Hands.{names}
use Rattle.template.specs.Walk.Places.{way_at}
use Rattle.template.specs.Walk.Steps.{room, walk_left}
use Rattle.straight.proofs.StraightWalk.{fits, fewer}
use Rattle.straight.proofs.walk.step_by_key.Goals as goal

pub descend-below-requires-clause-waits : goal.descend-below-requires-clause-waits
descend-below-requires-clause-waits g c = let r = c.requires.told in (r.1, rw c.with_turn-turns.ensures (c.in-Ok.ensures.down r.1 c.args.place.turns r.2))

pub read-head-requires-clause-waits : goal.read-head-requires-clause-waits
read-head-requires-clause-waits g c = let r = c.requires.told in
    (r.1, way_at c.args.way c.args.goal c.descend-below.result.trail c.descend-below.result.at, c.descend-below.result.turns, c.descend-below.ensures.down r.1 (rw c.with_turn-turns.ensures (c.in-Ok.ensures.down r.1 c.args.place.turns r.2)))

-- a node's head, and what is loaded after it, take at most three steps
pub returns-clause-nearer : goal.returns-clause-nearer
returns-clause-nearer g c = let r = c.requires.told in
    subst (λ p. 3 + walk_left p (room c.args.way (shared_nodes (names c.args.hand))) ≤ walk_left c.args.place.at (room c.args.way (shared_nodes (names c.args.hand)))) (sym c.descend-below.ensures.below.at)
    (fewer c.args.place.at c.args.word (room c.args.way (shared_nodes (names c.args.hand))) (head_of c.args.word) c.requires.stands.place refl (fits r.1 _ (way_at c.args.way c.args.goal c.args.place.trail c.args.place.at) c.args.place.turns c.args.word r.2) c.descend-below.ensures.below.deep)

pub returns-clause-goes : goal.returns-clause-goes
returns-clause-goes g c = λ w x. c.read-head.ensures.told w (way_at c.args.way c.args.goal c.descend-below.result.trail c.descend-below.result.at) c.descend-below.result.turns (c.descend-below.ensures.down w (rw c.with_turn-turns.ensures (c.in-Ok.ensures.down w c.args.place.turns x)))
