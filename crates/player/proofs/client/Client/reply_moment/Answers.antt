use Rattle.std.proofs.Common.{◌≡◌, ℕ, Bool, true, false, Option, refl, sym, ◌∙◌, ap, subst}
use Rattle.record.specs.Common.{number_reply, map_request, tells_change, Call, Command, Map}
use Rattle.ordered_map.specs.Requests.{key_told}
use Rattle.record.specs.declared.record.Answer.TheVariants.{Map as MapAnswer}
use Rattle.linearization.specs.Places.{changes}
use Rattle.player.specs.Moments.{IsMomentBy, IsReadingMoment, IsReplyMoment, IsWonOrRead}
use Rattle.player.proofs.client.Client.reply_moment.Goals as goal

pub returns : goal.returns
returns c call at lines next there = subst (λ (command : Command). IsMomentBy c.args.calls.now lines (changes c.args.places.now) command (MapAnswer c.args.reply.now) c.args.self.now.begin c.args.turn c.args.won c.reading_moment.result) (sym c.in-Map.is ∙ ap (λ (k : Call). k.command) same) replied
  where
    same : c.in_ok-command.field-0 ≡ call
    same = let e = c.in_ok-command.ensures.here at call next there in cc

    of_key : IsReadingMoment c.args.calls.now lines (changes c.args.places.now) (Map c.in-Map.request) c.args.reply.now (key_told (map_request c.in-Map.request)) (number_reply c.args.reply.now) c.args.self.now.begin c.args.turn c.reading_moment.result
    of_key = subst (λ (key : Option ℕ). IsReadingMoment c.args.calls.now lines (changes c.args.places.now) (Map c.in-Map.request) c.args.reply.now key (number_reply c.args.reply.now) c.args.self.now.begin c.args.turn c.reading_moment.result) c.key.ensures (c.reading_moment.ensures c.args.calls.now lines)

    unchanged : false ≡ tells_change (map_request c.in-Map.request) (number_reply c.args.reply.now)
    unchanged = sym c.if-changes.false ∙ c.changes.ensures

    replied : IsReplyMoment c.args.calls.now lines (changes c.args.places.now) (Map c.in-Map.request) (map_request c.in-Map.request) c.args.reply.now c.args.self.now.begin c.args.turn c.args.won c.reading_moment.result
    replied = subst (λ (b : Bool). IsWonOrRead b (IsReadingMoment c.args.calls.now lines (changes c.args.places.now) (Map c.in-Map.request) c.args.reply.now (key_told (map_request c.in-Map.request)) (number_reply c.args.reply.now) c.args.self.now.begin c.args.turn c.reading_moment.result) c.args.won c.reading_moment.result) unchanged of_key

pub returns-then-changes : goal.returns-then-changes
returns-then-changes c call at lines next there = subst (λ (command : Command). IsMomentBy c.args.calls.now lines (changes c.args.places.now) command (MapAnswer c.args.reply.now) c.args.self.now.begin c.args.turn c.args.won c.args.won) (sym c.in-Map.is ∙ ap (λ (k : Call). k.command) same) entered
  where
    same : c.in_ok-command.field-0 ≡ call
    same = let e = c.in_ok-command.ensures.here at call next there in cc

    changed : true ≡ tells_change (map_request c.in-Map.request) (number_reply c.args.reply.now)
    changed = sym c.if-changes.true ∙ c.changes.ensures

    entered : IsReplyMoment c.args.calls.now lines (changes c.args.places.now) (Map c.in-Map.request) (map_request c.in-Map.request) c.args.reply.now c.args.self.now.begin c.args.turn c.args.won c.args.won
    entered = subst (λ (b : Bool). IsWonOrRead b (IsReadingMoment c.args.calls.now lines (changes c.args.places.now) (Map c.in-Map.request) c.args.reply.now (key_told (map_request c.in-Map.request)) (number_reply c.args.reply.now) c.args.self.now.begin c.args.turn c.args.won) c.args.won c.args.won) changed refl
