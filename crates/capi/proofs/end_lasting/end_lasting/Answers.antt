use Rattle.std.proofs.Common.{List, subst}
use Rattle.tables.specs.Passes.{PassView, AreAllBack}
use Rattle.capi.proofs.end_lasting.end_lasting.Goals as goal

pub close-requires-clause-all : goal.close-requires-clause-all
close-requires-clause-all g c = subst (λ (ps : List PassView). AreAllBack c.args.forest.layout ps) c.deref.ensures.value (c.all_back.ensures.0 c.if-not-all_back.false)

pub returns-in-Ok : goal.returns-in-Ok
returns-in-Ok g c = record {
  layouts = λ k d inside. (c.requires k d inside).1;
  all = subst (λ (ps : List PassView). AreAllBack c.args.forest.layout ps) c.deref.ensures.value (c.all_back.ensures.0 c.if-not-all_back.false);
  words = c.close.result;
  closed = c.close.ensures.closed;
  spelled = c.in-Ok.ensures.pairs c.args.forest.layout c.args.passes.items c.close.ensures.closed;
}
