use Rattle.std.proofs.Common.{[], ◌∷◌, ◌++◌, sym}
use Rattle.std.proofs.lemmas.List.Elements.{All-nil, All-head, All-rest, All-same, All-push}
use Rattle.tables.specs.Passes.{PassView, IsOf}
use Rattle.dict_tests.proofs.sharing.threads.part.Goals as goal

pub loop-pass-preserved : goal.loop-pass-preserved
loop-pass-preserved g c =
    let P : PassView → Type 0 = IsOf c.args.forest.now in
    let inv = c.loop-pass.invariant in (
      tt,
      tt,
      All-rest (λ (w : PassView × g.row.T.Denot). P w.0) (c.in-Some.pass, c.in-Some.outs) c.next.new.self.rest.items c.loop-pass.pass-iterator.rest.items c.in-Some.ensures.steps.0 inv.2,
      All-same P c.push.new.self.items (c.loop-pass.passes.items ++ c.in-Some.pass ∷ []) c.in_ok-push.ensures.items (All-push P c.loop-pass.passes.items c.in-Some.pass inv.3
          (All-head (λ (w : PassView × g.row.T.Denot). P w.0) (c.in-Some.pass, c.in-Some.outs) c.next.new.self.rest.items (All-same (λ (w : PassView × g.row.T.Denot). P w.0) _ _ (sym c.in-Some.ensures.steps.0) inv.2))),
    )

pub loop-pass-init : goal.loop-pass-init
loop-pass-init g c =
    let P : PassView → Type 0 = IsOf c.args.forest.now in (
      tt,
      tt,
      All-same (λ (w : PassView × g.row.T.Denot). P w.0) c.into_iter-pass-iterator.result.rest.items c.args.workers.items c.into_iter-pass-iterator.ensures.into_iter_gives.0 c.requires,
      All-same P c.new-passes.result.items [] c.new-passes.ensures.items (All-nil P),
    )
