use Rattle.std.proofs.Common.{ℕ, sym, [], ◌∷◌, ◌++◌}
use Rattle.std.proofs.lemmas.List.Elements.{All-head, All-rest, All-same, All-push}
use Rattle.tables.specs.Passes.{PassView, IsOf}
use Rattle.bench.proofs.repetition.numbered.Goals as goal

pub loop-pass-preserved : goal.loop-pass-preserved
loop-pass-preserved g c =
    let P : PassView → Type 0 = IsOf c.args.forest.now in
    let Q : ℕ × PassView → Type 0 = λ p. P p.1 in
    let inv = c.loop-pass.invariant in (
      tt,
      tt,
      All-rest P c.in-Some.pass c.next.new.self.rest.items c.loop-pass.pass-iterator.rest.items c.in-Some.ensures.steps.0 inv.2,
      All-same Q c.push.new.self.items (c.loop-pass.all.items ++ (c.loop-pass.number, c.in-Some.pass) ∷ []) c.in_ok-push.ensures.items (All-push Q c.loop-pass.all.items (c.loop-pass.number, c.in-Some.pass) inv.3
          (All-head P c.in-Some.pass c.next.new.self.rest.items (All-same P _ _ (sym c.in-Some.ensures.steps.0) inv.2))),
    )
