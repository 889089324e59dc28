use Rattle.std.proofs.Common.{◌≡◌, Some, refl, sym, subst, rules}
use Rattle.record.specs.Common.{reply, map_request, map_at, reply_told, IsGreatestTurn}
use Rattle.audit.proofs.map.is_read_at.Goals as goal

pub returns-then-eq : goal.returns-then-eq
returns-then-eq c calls lines are falls less it =
    let turn = c.latest_reply-turn.result in
    let call = map_request c.args.request.now in
    let moment : c.args.reply.now.moment ≡ Some turn = search rules in
    let within = c.latest_reply-turn.ensures.within less falls in
    record {
      turn = turn;
      moment = moment;
      greatest = subst (λ a. IsGreatestTurn (λ n. reply_told a ≡ Some (reply call (map_at calls lines n))) c.args.reply.now.begin c.args.reply.now.end turn) (sym c.requires) (c.latest_reply-turn.ensures.greatest calls lines call turn are falls (c.tells_at.ensures.ordered it) refl within.0 within.1 (c.tells_at.ensures.told calls lines are it));
    }
