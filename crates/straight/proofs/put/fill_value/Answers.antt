use Rattle.prims.specs.declared.put.PutAt.TheVariants.{Fill as AtFill}
use Rattle.straight.specs.StraightPut.{fresh_put}
use Rattle.straight.proofs.StraightPut.{to_value, to_plan}
use Rattle.straight.proofs.put.fill_value.Goals as goal

pub step-requires-clause-waits : goal.step-requires-clause-waits
step-requires-clause-waits g c = let r = c.requires.begins in let u = (fresh_put c.args.snaps.now c.args.put) in (r.0, u, record u { at = AtFill }, r.1, to_value g.S.Shape.allows r.0 _ u r.2)

pub returns-clause-waits : goal.returns-clause-waits
returns-clause-waits g c = let u = (fresh_put c.args.snaps.now c.args.put) in λ k fits x. to_plan g.S.Shape.allows k _ u c.step.result (c.step.ensures.told k u (record u { at = AtFill }) fits (to_value g.S.Shape.allows k _ u x))
