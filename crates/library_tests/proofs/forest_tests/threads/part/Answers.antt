use Rattle.std.proofs.Common.{[], ◌∷◌, ◌++◌, sym}
use Rattle.std.proofs.lemmas.List.Elements.{All-head, All-rest, All-same, All-push}
use Rattle.tables.specs.Passes.{PassView, IsOf}
use Rattle.library_tests.specs.declared.forest_tests.threads.Tally.{Tally}
use Rattle.library_tests.proofs.forest_tests.threads.part.Goals as goal

pub loop-pass-preserved : goal.loop-pass-preserved
loop-pass-preserved c =
    let inv = c.loop-pass.invariant in (
      tt,
      tt,
      All-rest (λ (w : PassView × Tally). IsOf c.args.forest.now w.0) (c.in-Some.pass, c.in-Some.tally) c.next.new.self.rest.items c.loop-pass.pass-iterator.rest.items c.in-Some.ensures.steps.0 inv.2,
      All-same (IsOf c.args.forest.now) c.push.new.self.items (c.loop-pass.passes.items ++ c.in-Some.pass ∷ []) c.in_ok-push.ensures.items (All-push (IsOf c.args.forest.now) c.loop-pass.passes.items c.in-Some.pass inv.3
          (All-head (λ (w : PassView × Tally). IsOf c.args.forest.now w.0) (c.in-Some.pass, c.in-Some.tally) c.next.new.self.rest.items (All-same (λ (w : PassView × Tally). IsOf c.args.forest.now w.0) _ _ (sym c.in-Some.ensures.steps.0) inv.2))),
    )
