use Rattle.std.proofs.Common.{◌∙◌, refl, sym, subst, arith}
use Rattle.histories.specs.Common.{head_of}
use Rattle.straight.specs.StraightWalk.{Walker, WalkerHasHead, WalkerIsAt}
use Rattle.tables.specs.Traces.{shared_nodes}
use Rattle.straight.specs.CallKinds.{calls}
use Rattle.straight.specs.Hands.{names}
use Rattle.template.specs.Walk.Places.{way_at, LoadsHead}
use Rattle.template.specs.Walk.Steps.{room}
use Rattle.straight.proofs.StraightWalk.{fits, fewer, some_left}
use Rattle.straight.proofs.walk.to_goal_from.Given.{Over}
use Rattle.straight.proofs.walk.to_goal_from.Goals.{After-read-head}
use Rattle.straight.proofs.walk.to_goal_from.Goals as goal

-- whichever call it is, it has got the head of this node
told : (g : Over) (c : After-read-head g) (w : Walker (calls g.S.Shape g.M.Machine g.M.CallMachine.left_dealt (names c.args.hand) c.args.hand.number))
    → WalkerIsAt w c.args.seat.now.me.0.passes c.args.way c.args.goal c.args.first
    → WalkerHasHead w c.read-head.new.seat.me.0.passes c.args.way c.args.goal c.loop-below.place c.read-head.result
told g c w x = c.read-head.ensures.told w (way_at c.args.way c.args.goal c.loop-below.place.trail c.loop-below.place.at) c.loop-below.place.turns (c.loop-below.invariant.waits w x)

pub loop-below-init : goal.loop-below-init
loop-below-init g c = record { here = (refl, refl, refl); loads = c.requires.stands.place; start = c.requires.stands.begins; steps = omega arith; waits = λ w x. x }

pub read-head-requires-clause-start : goal.read-head-requires-clause-start
read-head-requires-clause-start g c = c.loop-below.invariant.start

pub read-head-requires-clause-waits : goal.read-head-requires-clause-waits
read-head-requires-clause-waits g c = let r = c.requires.waits in (r.0, way_at c.args.way c.args.goal c.loop-below.place.trail c.loop-below.place.at, c.loop-below.place.turns, c.loop-below.invariant.waits r.0 r.1)

pub descend_by_keys-requires-clause-stands : goal.descend_by_keys-requires-clause-stands
descend_by_keys-requires-clause-stands g c = record { place = c.loop-below.invariant.loads; begins = c.loop-below.invariant.start }

pub descend_by_keys-requires-clause-told : goal.descend_by_keys-requires-clause-told
descend_by_keys-requires-clause-told g c = let r = c.requires.waits in (r.0, told g (goal.at.descend_by_keys-requires-clause-told g c).After-read-head r.0 r.1)

pub returns-in-Err-clause-steps : goal.returns-in-Err-clause-steps
returns-in-Err-clause-steps g c = let one = c.read-head.ensures.one in let last = c.in-Err.ensures.nearer in let old = c.loop-below.invariant.steps in omega (arith, one, last, old)

pub returns-in-Err-clause-finds : goal.returns-in-Err-clause-finds
returns-in-Err-clause-finds g c = λ w x. c.in-Err.ensures.goes w (told g (goal.at.returns-in-Err-clause-finds g c).After-read-head w x)

pub pass_open-requires-clause-told : goal.pass_open-requires-clause-told
pass_open-requires-clause-told g c = let r = c.requires.waits in (r.0, c.in-Ok.below.0.turns, c.in-Ok.ensures.goes r.0 (told g (goal.at.pass_open-requires-clause-told g c).After-read-head r.0 r.1))

pub returns-in-Err-pass_open-clause-steps : goal.returns-in-Err-pass_open-clause-steps
returns-in-Err-pass_open-clause-steps g c =
    let r = c.requires.waits in
    let few = some_left c.in-Ok.below.0.at c.in-Ok.below.1 (room c.args.way (shared_nodes (names c.args.hand))) c.in-Ok.ensures.stands.place
    (fits r.0 _ (way_at c.args.way c.args.goal c.in-Ok.below.0.trail c.in-Ok.below.0.at) c.in-Ok.below.0.turns c.in-Ok.below.1 (c.in-Ok.ensures.goes r.0 (told g (goal.at.returns-in-Err-pass_open-clause-steps g c).After-read-head r.0 r.1))) in
    let one = c.read-head.ensures.one in let more = c.in-Ok.ensures.nearer.steps in let last = c.in-Err-pass_open.ensures.steps in let old = c.loop-below.invariant.steps in
    omega (arith, few, one, more, last, old)

pub returns-in-Err-pass_open-clause-finds : goal.returns-in-Err-pass_open-clause-finds
returns-in-Err-pass_open-clause-finds g c = λ w x. c.in-Err-pass_open.ensures.goes w c.in-Ok.below.0.turns (c.in-Ok.ensures.goes w (told g (goal.at.returns-in-Err-pass_open-clause-finds g c).After-read-head w x))

pub descend-place-requires-clause-waits : goal.descend-place-requires-clause-waits
descend-place-requires-clause-waits g c = let r = c.requires.waits in
    (r.0, rw c.with_turn-turns.ensures (c.in-Ok-pass_open.ensures.goes r.0 c.in-Ok.below.0.turns (c.in-Ok.ensures.goes r.0 (told g (goal.at.descend-place-requires-clause-waits g c).After-read-head r.0 r.1))))

pub loop-below-smaller : goal.loop-below-smaller
loop-below-smaller g c =
    let r = c.requires.waits in
    let few = fewer c.in-Ok.below.0.at c.in-Ok.below.1 (room c.args.way (shared_nodes (names c.args.hand))) (head_of c.in-Ok.below.1) c.in-Ok.ensures.stands.place refl
    (fits r.0 _ (way_at c.args.way c.args.goal c.in-Ok.below.0.trail c.in-Ok.below.0.at) c.in-Ok.below.0.turns c.in-Ok.below.1 (c.in-Ok.ensures.goes r.0 (told g (goal.at.loop-below-smaller g c).After-read-head r.0 r.1))) c.descend-place.ensures.below.deep in
    let near = c.in-Ok.ensures.nearer.nearer in
    rw c.descend-place.ensures.below.at (omega (arith, few, near))

pub loop-below-preserved : goal.loop-below-preserved
loop-below-preserved g c = record {
  here = (c.descend-place.ensures.table.0 ∙ c.in-Ok-pass_open.ensures.table.0 ∙ c.in-Ok.ensures.table.0 ∙ c.read-head.ensures.table.0 ∙ c.loop-below.invariant.here.0, c.descend-place.ensures.table.1 ∙ c.in-Ok-pass_open.ensures.table.1 ∙ c.in-Ok.ensures.table.1 ∙ c.read-head.ensures.table.1 ∙ c.loop-below.invariant.here.1, c.descend-place.ensures.table.2 ∙ c.in-Ok-pass_open.ensures.table.2 ∙ c.in-Ok.ensures.table.2 ∙ c.read-head.ensures.table.2 ∙ c.loop-below.invariant.here.2);
  loads = subst LoadsHead (sym c.descend-place.ensures.below.at) tt;
  start = c.descend-place.ensures.below.begins;
  steps = (
      let r = c.requires.waits in
      let few = fewer c.in-Ok.below.0.at c.in-Ok.below.1 (room c.args.way (shared_nodes (names c.args.hand))) (head_of c.in-Ok.below.1) c.in-Ok.ensures.stands.place refl
      (fits r.0 _ (way_at c.args.way c.args.goal c.in-Ok.below.0.trail c.in-Ok.below.0.at) c.in-Ok.below.0.turns c.in-Ok.below.1 (c.in-Ok.ensures.goes r.0 (told g (goal.at.loop-below-preserved g c).After-read-head r.0 r.1))) c.descend-place.ensures.below.deep in
      let one = c.read-head.ensures.one in let more = c.in-Ok.ensures.nearer.steps in let side = c.in-Ok-pass_open.ensures.steps in let last = c.descend-place.ensures.one in let old = c.loop-below.invariant.steps in
      rw c.descend-place.ensures.below.at (omega (arith, few, one, more, side, last, old))
      );
  waits = λ w x. c.descend-place.ensures.down w (rw c.with_turn-turns.ensures (c.in-Ok-pass_open.ensures.goes w c.in-Ok.below.0.turns (c.in-Ok.ensures.goes w (told g (goal.at.loop-below-preserved g c).After-read-head w x))));
}
