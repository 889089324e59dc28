use Rattle.std.proofs.Common.{◌≡◌, ℕ, [], Some, slice_get, vec_len}
use Rattle.player.specs.declared.client.Client.{Client}
use Rattle.player.specs.ClientView.{client_view, Rests}
use Rattle.player.proofs.interleaving.clients.Given as goal

abbrev pub invariant-loop-pass : goal.invariant-loop-pass
invariant-loop-pass l = record {
  count : vec_len l.clients ≡ l.pass;
  each : (j : ℕ) (d : Client) → slice_get l.clients.items j ≡ Some d → (d.pass.0 ≡ j) × Rests (client_view l.script.layout l.script.limits.tries l.script.calls.items [] j) d;
}
