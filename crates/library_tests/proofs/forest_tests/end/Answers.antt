use Rattle.std.proofs.Common.{List, subst}
use Rattle.tables.specs.Passes.{PassView, AreAllBack}
use Rattle.library_tests.proofs.forest_tests.end.Goals as goal

pub close-requires-clause-all : goal.close-requires-clause-all
close-requires-clause-all c = subst (λ (ps : List PassView). AreAllBack c.args.forest.layout ps) c.deref.ensures.value (c.all_back.ensures.0 c.if-all_back.true)
