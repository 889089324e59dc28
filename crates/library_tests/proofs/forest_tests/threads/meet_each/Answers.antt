use Rattle.std.proofs.Common.{[], ◌∷◌, ◌++◌}
use Rattle.std.proofs.lemmas.List.Elements.{All-rest, All-same, All-push}
use Rattle.tables.specs.Passes.{IsOf}
use Rattle.library_tests.proofs.forest_tests.threads.meet_each.Goals as goal

pub loop-pass-preserved : goal.loop-pass-preserved
loop-pass-preserved c =
    let inv = c.loop-pass.invariant in (
      tt,
      tt,
      c.meet.ensures.passes.0,
      All-rest (IsOf c.args.forest.now) c.in-Some.pass c.next.new.self.rest.items c.loop-pass.pass-iterator.rest.items c.in-Some.ensures.steps.0 inv.3,
      All-same (IsOf c.args.forest.now) c.push.new.self.items (c.loop-pass.met.items ++ c.meet.new.other ∷ []) c.in_ok-push.ensures.items (All-push (IsOf c.args.forest.now) c.loop-pass.met.items c.meet.new.other inv.4 c.meet.ensures.passes.1),
    )
