use Rattle.std.proofs.Common.{◌≡◌, ◌∙◌, List, [], ◌∷◌, ◌++◌, sym, subst, IfOk}
use Rattle.script.specs.declared.call.Call.{Call}
use Rattle.tables.specs.Passes.{Ground, PassView}
use Rattle.runner.specs.Calls.{HasWorked, HaveWorked}
use Rattle.runner.proofs.Gathered.{first_too, rest_too, joined, all_joined}
use Rattle.runner.proofs.thread.join_all.Goals as goal

pub loop-thread-preserved : goal.loop-thread-preserved
loop-thread-preserved g c = (
  tt,
  tt,
  λ f calls all.
      let inv = c.loop-thread.invariant.2 f calls all in
      let rest = c.loop-thread.thread-iterator.rest.items in
      let more = c.next.new.self.rest.items in
      let step = c.in-Some.ensures.steps.0 in
      let duty = first_too rest more c.in-Some.thread step (λ t. (t.promise.forest.now ≡ f) × (t.promise.calls.now ≡ calls)) inv.0 in
      let old : PassView = c.in-Some.thread.promise.pass.value in
      let kept : IfOk c.join.result (λ w. HasWorked f calls old w.0 w.1.items) =
      subst (λ (k : Ground). IfOk c.join.result (λ w. HasWorked k calls old w.0 w.1.items)) duty.0
      (subst (λ (xs : List Call). IfOk c.join.result (λ w. HasWorked c.in-Some.thread.promise.forest.now xs old w.0 w.1.items)) duty.1 c.join.ensures) in (
        rest_too rest more c.in-Some.thread step (λ t. (t.promise.forest.now ≡ f) × (t.promise.calls.now ≡ calls)) inv.0,
        (
          inv.1.0 ++ old ∷ [],
          joined rest more c.in-Some.thread step (λ t. t.promise.pass.value) inv.1.0 _ inv.1.1,
          c.with_work-works.ensures f calls inv.1.0 old inv.1.2 kept,
        ),
      ),
)

pub returns : goal.returns
returns g c = λ f calls all.
    let inv = c.loop-thread.invariant.2 f calls all in
    subst (λ (olds : List PassView). IfOk c.loop-thread.works (λ r. HaveWorked f calls olds r.0.items r.1.items)) (all_joined c.loop-thread.thread-iterator.rest.items (sym c.loop-thread.thread-iterator.rest.ok.0 ∙ c.in-None.ensures.steps.0) (λ t. t.promise.pass.value) inv.1.0 _ inv.1.1) inv.1.2
