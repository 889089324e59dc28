use Rattle.std.proofs.Common.{refl, sym, ◌∙◌}
use Rattle.record.specs.Common.{map_request, Map as MapCommand, map_at}
use Rattle.linearization.specs.Places.{changes}
use Rattle.linearization.proofs.Lemmas.{map_rises, reply_tells}
use Rattle.audit.proofs.map.tells_at.Goals as goal

pub returns-then-tells_pairs-clause-told : goal.returns-then-tells_pairs-clause-told
returns-then-tells_pairs-clause-told c calls lines are it =
    let request = c.args.request.now in
    let m = map_at calls lines c.args.turn in
    let form = c.tells_pairs.ensures.form c.if-tells_pairs.true in
    let ordered = c.tells_pairs.ensures.ordered c.if-tells_pairs.true in
    let tells = reply_tells (MapCommand request) (map_request request) _ m ordered refl (map_rises calls lines (changes c.args.places.now) c.args.turn are) in
    form m (sym c.pairs_told.ensures ∙ sym (tells.0 (c.tells.ensures.told calls lines are it)))
