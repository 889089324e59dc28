use Rattle.std.proofs.Common.{ℕ, Some, sym, ◌∙◌, ap}
use Rattle.record.specs.Common.{reply, map_request, map_at}
use Rattle.audit.proofs.map.had_before.Goals as goal

pub returns-in-Some : goal.returns-in-Some
returns-in-Some c calls lines are it =
    let m = map_at calls lines c.saturating_sub-before.result in
    c.tells_of.ensures calls lines are it ∙ ap (λ t. Some t) (sym (c.told_key.ensures c.in-Some.key c.in-Some.is m)) ∙ ap (λ (n : ℕ). Some (reply (map_request c.args.request.now) (map_at calls lines n))) c.saturating_sub-before.ensures

pub returns-in-None : goal.returns-in-None
returns-in-None c calls lines are it = c.tells_at.ensures.told calls lines are it ∙ ap (λ (n : ℕ). Some (reply (map_request c.args.request.now) (map_at calls lines n))) c.saturating_sub-before.ensures
