use Rattle.std.proofs.Common.{◌<◌, arith, rules}
use Rattle.straight.proofs.StraightHelp.{to_new}
use Rattle.straight.proofs.helps.mark_all.Goals as goal

pub mark-requires-2-clause-marks : goal.mark-requires-2-clause-marks
mark-requires-2-clause-marks g c = let r = c.requires.marks in (r.0, c.mark.ensures.to r.0 r.1)

pub mark-requires-3-clause-marks : goal.mark-requires-3-clause-marks
mark-requires-3-clause-marks g c = let r = c.requires.marks in (r.0, c.mark-2.ensures.to r.0 (c.mark.ensures.to r.0 r.1))

pub mark-requires-4-clause-marks : goal.mark-requires-4-clause-marks
mark-requires-4-clause-marks g c = let r = c.requires.marks in (r.0, c.mark-3.ensures.to r.0 (c.mark-2.ensures.to r.0 (c.mark.ensures.to r.0 r.1)))

pub returns : goal.returns
returns g c = record {
  table = search rules;
  to = λ k x. to_new k _ c.args.run.now 4 (λ i a b. absurd (let z : i < i = omega (arith, a, b) in omega (arith, z))) (c.mark-4.ensures.to k (c.mark-3.ensures.to k (c.mark-2.ensures.to k (c.mark.ensures.to k x))));
  steps = (let a = c.mark.ensures.steps in let b = c.mark-2.ensures.steps in let d = c.mark-3.ensures.steps in let e = c.mark-4.ensures.steps in omega (arith, a, b, d, e));
}
