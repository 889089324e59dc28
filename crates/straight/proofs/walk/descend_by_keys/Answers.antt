use Rattle.std.proofs.Common.{◌∙◌, refl, arith, rules}
use Rattle.tables.specs.Traces.{shared_nodes}
use Rattle.straight.specs.Hands.{names}
use Rattle.template.specs.Walk.Places.{way_at}
use Rattle.template.specs.Walk.Steps.{room}
use Rattle.straight.proofs.StraightWalk.{fits, some_left}
use Rattle.straight.proofs.walk.descend_by_keys.Goals as goal

pub loop-way-init : goal.loop-way-init
loop-way-init g c = record { here = (refl, refl, refl); loads = c.requires.stands.place; start = c.requires.stands.begins; nearer = omega arith; steps = omega arith; told = λ w x. x }

pub step_by_key-requires-clause-stands : goal.step_by_key-requires-clause-stands
step_by_key-requires-clause-stands g c = record { place = c.loop-way.invariant.loads; begins = c.loop-way.invariant.start }

pub step_by_key-requires-clause-told : goal.step_by_key-requires-clause-told
step_by_key-requires-clause-told g c = let r = c.requires.told in (search rules, r.0, c.loop-way.invariant.told r.0 r.1)

pub loop-way-smaller : goal.loop-way-smaller
loop-way-smaller g c = let few = c.in-Ok.ensures.nearer in omega (arith, few)

pub loop-way-preserved : goal.loop-way-preserved
loop-way-preserved g c =
    let few = c.in-Ok.ensures.nearer in let all = c.in-Ok.ensures.steps in let near = c.loop-way.invariant.nearer in let old = c.loop-way.invariant.steps in
    record {
      here = (c.in-Ok.ensures.table.0 ∙ c.loop-way.invariant.here.0, c.in-Ok.ensures.table.1 ∙ c.loop-way.invariant.here.1, c.in-Ok.ensures.table.2 ∙ c.loop-way.invariant.here.2);
      loads = c.in-Ok.ensures.stands.place;
      start = c.in-Ok.ensures.stands.begins;
      nearer = omega (arith, few, near);
      steps = omega (arith, few, all, old);
      told = λ w x. c.in-Ok.ensures.goes w (c.loop-way.invariant.told w x);
    }

pub returns-in-Err-clause-nearer : goal.returns-in-Err-clause-nearer
returns-in-Err-clause-nearer g c =
    let r = c.requires.told in
    let few = some_left c.loop-way.place.at c.loop-way.word (room c.args.way (shared_nodes (names c.args.hand))) c.loop-way.invariant.loads (fits r.0 _ (way_at c.args.way c.args.goal c.loop-way.place.trail c.loop-way.place.at) c.loop-way.place.turns c.loop-way.word (c.loop-way.invariant.told r.0 r.1)) in
    let one = c.in-Err.ensures.steps in let old = c.loop-way.invariant.steps in
    omega (arith, few, one, old)

pub returns-in-Err-clause-goes : goal.returns-in-Err-clause-goes
returns-in-Err-clause-goes g c = λ w x. c.in-Err.ensures.goes w (c.loop-way.invariant.told w x)

pub returns-clause-stands : goal.returns-clause-stands
returns-clause-stands g c = record { place = c.loop-way.invariant.loads; begins = c.loop-way.invariant.start }

pub returns-clause-nearer : goal.returns-clause-nearer
returns-clause-nearer g c = record { nearer = c.loop-way.invariant.nearer; steps = c.loop-way.invariant.steps }

pub returns-clause-goes : goal.returns-clause-goes
returns-clause-goes g c = λ w x. c.loop-way.invariant.told w x
