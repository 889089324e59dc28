use denote.Param.Send.{sendable}
use Rattle.std.proofs.Common.{◌≡◌, ◌∙◌, ◌+◌, suc, ◌∷◌, ◌++◌, [], arith, ap, length, length-append}
use Rattle.std.proofs.lemmas.List.Elements.{All-same, All-push}
use Rattle.tables.specs.Passes.{IsOf}
use Rattle.runner.specs.declared.thread.Duty.{Duty}
use Rattle.runner.proofs.Gathered.{first_too, rest_too, started}
use Rattle.runner.proofs.thread.start_all.Goals as goal

pub loop-pass-preserved : goal.loop-pass-preserved
loop-pass-preserved g c =
    let inv = c.loop-pass.invariant in
    let step = c.in-Some.ensures.steps.0 in
    let items = c.in-Ok-push.ensures.items in
    let threads = c.loop-pass.threads.items in
    let grown = c.push.new.self.items in
    let t = c.in-Ok.thread in
    let duty = c.in-Ok.ensures.ok in (
      tt,
      tt,
      rest_too c.loop-pass.pass-iterator.rest.items c.next.new.self.rest.items c.in-Some.pass step (IsOf c.args.forest.now) inv.2,
      All-same (λ t. (t.promise.forest.now ≡ c.args.forest.now) × (t.promise.calls.now ≡ c.args.calls.now)) grown (threads ++ t ∷ []) items
          (All-push (λ t. (t.promise.forest.now ≡ c.args.forest.now) × (t.promise.calls.now ≡ c.args.calls.now)) threads t inv.3 (ap (λ (d : Duty _). d.forest.now) duty, ap (λ (d : Duty _). d.calls.now) duty)),
      started threads grown t (λ t. t.promise.pass.value) c.in-Some.pass c.loop-pass.pass-iterator.rest.items c.next.new.self.rest.items c.args.passes.items items (ap (λ (d : Duty _). d.pass.value) duty ∙ c.of-pass_then.ensures) step inv.4,
      (let room = inv.5 in
          let capacity = c.in-Ok-push.ensures.capacity in
          let long : length grown ≡ length threads + 1 = ap length items ∙ length-append threads (t ∷ []) in
          let left : length c.loop-pass.pass-iterator.rest.items ≡ suc (length c.next.new.self.rest.items) = ap length step in
          omega (arith, room, capacity, long, left)),
    )

pub spawn_with-requires-clause-runs : goal.spawn_with-requires-clause-runs
spawn_with-requires-clause-runs g c κs within = (
  first_too c.loop-pass.pass-iterator.rest.items c.next.new.self.rest.items c.in-Some.pass c.in-Some.ensures.steps.0 (IsOf c.args.forest.now) c.loop-pass.invariant.2,
  (
    c.requires.asks,
    (search (c.type_bounds.send-B, sendable) depth 20, search (c.type_bounds.sync-G, sendable) depth 20),
  ),
)
