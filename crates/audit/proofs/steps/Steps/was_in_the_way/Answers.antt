use Rattle.std.proofs.Common.{◌<◌, ◌≤◌, ltb-true, sym, ◌∙◌, subst, arith}
use Rattle.histories.specs.Common.{IsMember, History, Layout, Lawful}
use Rattle.judge.specs.Histories.{seen_history}
use Rattle.audit.proofs.RowMoments.{way_since}
use Rattle.audit.proofs.steps.Steps.was_in_the_way.Goals as goal
use Rattle.audit.proofs.steps.Steps.was_in_the_way.Goals.{then-after-last_in_progress, else-after-last_in_progress}

pub returns-then-is_others-clause-way : goal.returns-then-is_others-clause-way
returns-then-is_others-clause-way c lay h g x start covers =
    let lawful : Lawful lay h = subst (λ (k : History). Lawful lay k) x.is_seen (subst (λ (l : Layout). Lawful l (seen_history c.args.self.now.judge)) x.layout c.laws_hold.ensures) in
    elim c.if-after-last_in_progress.branch [
      | then-after-last_in_progress w ↦ (let later : c.args.after < c.last_in_progress.result = w.if-after-last_in_progress.true in way_since lay h g c.args.blamed.1.0 c.args.after c.last_in_progress.result lawful start later (c.last_in_progress.ensures lay h x (omega arith)) c.args.blamed.0.0 (subst (λ (k : History). IsMember k c.args.blamed.1.0 c.args.blamed.0.0) x.is_seen (c.covers.ensures covers)))
      | else-after-last_in_progress w ↦ (let i = ltb-true c.args.after c.last_in_progress.result (sym w.value-is ∙ c.if-is_others.true) in let j : c.last_in_progress.result ≤ c.args.after = w.if-after-last_in_progress.false in absurd (omega arith))
    ]
