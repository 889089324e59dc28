use Rattle.std.proofs.Common.{rules, ◌≡◌, [], slice_get, ap, sym, ◌∙◌}
use Rattle.player.specs.ClientView.{client_view, Rests}
use Rattle.prims.proofs.Lemmas.{get_more}
use Rattle.player.proofs.interleaving.clients.Goals as goal

pub loop-pass-preserved : goal.loop-pass-preserved
loop-pass-preserved c = record {
  count = search rules;
  each = λ j d get. get_more (λ k d. (d.pass.0 ≡ k) × Rests (client_view c.args.script.now.layout c.args.script.now.limits.tries c.args.script.now.calls.items [] k) d) c.loop-pass.clients.items c.new.result c.loop-pass.pass
      (sym c.loop-pass.clients.ok.0 ∙ c.loop-pass.invariant.count)
      c.loop-pass.invariant.each
      (ap (λ p. p.0) c.new.ensures.pass, rw c.deref.ensures.value at c.new.ensures.rests)
      j d (sym (ap (λ l. slice_get l j) c.in_ok-push.ensures.items) ∙ get);
}
