use Rattle.std.proofs.Common.{[], ◌∷◌, ◌++◌}
use Rattle.std.proofs.lemmas.List.Elements.{All-rest, All-same, All-push}
use Rattle.tables.specs.Passes.{IsOf}
use Rattle.library_tests.proofs.forest_tests.threads.look_all.Goals as goal

pub loop-pass-preserved : goal.loop-pass-preserved
loop-pass-preserved c =
    let inv = c.loop-pass.invariant in (
      tt,
      tt,
      All-rest (IsOf c.args.forest.now) c.in-Some.pass c.next.new.self.rest.items c.loop-pass.pass-iterator.rest.items c.in-Some.ensures.steps.0 inv.2,
      All-same (IsOf c.args.forest.now) c.push-in-loop-pass.new.self.items (c.loop-pass.back.items ++ c.look.new.pass ∷ []) c.in_ok-push-2.ensures.items (All-push (IsOf c.args.forest.now) c.loop-pass.back.items c.look.new.pass inv.3 c.look.ensures),
    )
