use Rattle.std.proofs.Common.{subst, sym}
use Rattle.tables.specs.Passes.{PassView, IsOf}
use Rattle.dict_tests.proofs.sharing.held.rest.Goals as goal

pub returns-in-Done-Some : goal.returns-in-Done-Some
returns-in-Done-Some c = record {
  pass = c.finish.ensures.pass c.args.forest.now (subst (λ (p : PassView). IsOf c.args.forest.now p) (sym c.step.ensures.same.began) c.loop-kind.invariant.0);
}

pub returns-in-Done-None : goal.returns-in-Done-None
returns-in-Done-None c = record {
  pass = c.finish-in-Done-None.ensures.pass c.args.forest.now (subst (λ (p : PassView). IsOf c.args.forest.now p) (sym c.step.ensures.same.began) c.loop-kind.invariant.0);
}
