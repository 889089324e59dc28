use Rattle.std.proofs.Common.{◌+◌, ◌-◌, ◌^◌, ℕ, Err, ap, inl, min, sym, true≢false, ◌∙◌}
use Rattle.player.specs.Core.{with_lines}
use Rattle.player.proofs.Lemmas.{stands_played, told}
use Rattle.report.proofs.Streams.{all_begins, stopped_in}
use Rattle.report.proofs.stream.StreamPlaysMetered.turn.Goals as goal

pub returns-then-steps-eq18446744073709551615-clause-broken : goal.returns-then-steps-eq18446744073709551615-clause-broken
returns-then-steps-eq18446744073709551615-clause-broken g c = λ start p x. record {
  played = stands_played _ p x.0.stands;
  text = inl (all_begins _ _ _ x.0.text);
  not_ended = λ e. cc;
  no_memory = λ e. x.1;
  write = λ e. absurd cc;
}

pub returns-in_err-turn-clause-broken : goal.returns-in_err-turn-clause-broken
returns-in_err-turn-clause-broken g c = λ start p x.
    let says = c.in_err-turn.ensures.says _ p x.0 in
    told c.from_residual.result c.in_err-turn.field-0.0 _ c.from_residual.ensures.1
    (record {
      played = stands_played _ p x.0.stands;
      text = stopped_in c.turn.new.self _ _ p c.args.client.0 (λ on. (says.refused on).0) says.cut;
      not_ended = λ e. true≢false (sym (c.in_err-turn.ensures.ends.why (ap (λ f. Err f) e)) ∙ x.0.goes_on);
      no_memory = λ e. c.in_err-turn.ensures.failures.no_memory (ap (λ f. Err f) e) ∙ x.1;
      write = λ e. c.in_err-turn.ensures.failures.write (ap (λ f. Err f) e) ∙ ap (λ (n : ℕ). min (n + 1) (2 ^ 64 - 1)) x.1;
    })

pub returns-clause-turned : goal.returns-clause-turned
returns-clause-turned g c = λ start p x.
    let t = c.in_ok-turn.ensures.turn p x.0.stands in
    let w = (c.in_ok-turn.ensures.says _ p x.0).written in
    (with_lines p c.turn.new.self.lines.items, t.row, (rw c.lines.ensures at c.of.ensures) p c.args.client.0 t (stands_played _ _ w.stands), (w, c.in_ok-turn.ensures.failures.ok ∙ x.1))
