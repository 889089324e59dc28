use Rattle.std.proofs.Common.{◌≡◌, reverse, sym, ◌∙◌, ap, subst}
use Rattle.std.proofs.lemmas.List.{reverse-reverse}
use Rattle.player.specs.Player.{PlayerView, IsPlayed}
use Rattle.player.proofs.Played.{stands_played, asked_run}
use Rattle.player.proofs.player.Player.record.Goals as goal

pub returns : goal.returns
returns c =
    let view = c.self.view_is in
    let lines : c.self.inside.lines.items ≡ reverse c.args.self.lines = sym (reverse-reverse c.self.inside.lines.items) ∙ ap (λ (p : PlayerView). reverse p.lines) view in
    record {
      script = c.into_script.ensures _ c.self.invariant ∙ ap (λ (p : PlayerView). p.script) view;
      lines = lines;
      lawful = λ asked e. rw lines (asked_run c.args.self (subst IsPlayed view (stands_played c.self.inside.core _ c.self.invariant)) asked e);
    }
