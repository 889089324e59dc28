use Rattle.std.proofs.Common.{◌<◌, refl, subst, arith}
use Rattle.histories.specs.Common.{IsOthersScx, History, Layout, Lawful}
use Rattle.judge.specs.Histories.{seen_history}
use Rattle.audit.proofs.RowMoments.{some_way}
use Rattle.audit.proofs.steps.Steps.was_blocked.Goals as goal

pub returns-then-is_others : goal.returns-then-is_others
returns-then-is_others c lay h g x start told =
    let lawful : Lawful lay h = subst (λ (k : History). Lawful lay k) x.is_seen (subst (λ (l : Layout). Lawful l (seen_history c.args.self.now.judge)) x.layout c.laws_hold.ensures) in
    let later : c.args.after < c.last_in_progress.result = c.if-after-last_in_progress.true in
    let way = some_way lay h g c.from.result c.args.after c.last_in_progress.result lawful start later (c.last_in_progress.ensures lay h x (omega arith)) in
    (way.0, c.from.result, (subst (λ (l : Layout). IsOthersScx l c.args.pass.0 c.from.result) x.layout (c.if-is_others.ensures refl), way.1))
