use Rattle.std.proofs.Common.{◌≡◌, Some, ◌∙◌, ap, rules}
use Rattle.record.specs.Common.{Map as MapCommand, reply_told}
use Rattle.linearization.specs.Places.{changes}
use Rattle.audit.proofs.EachCall.{change_answered, read_answered}
use Rattle.audit.proofs.MapAnswers.{changes_fall, some_turns}
use Rattle.audit.proofs.map.is_placed.Goals as goal

pub returns-then-eq-clause-right : goal.returns-then-eq-clause-right
returns-then-eq-clause-right c lay tries calls lines x it =
    let moment : c.args.reply.now.moment ≡ Some c.in-Some.turn = search rules in
    (change_answered lay tries calls lines (changes c.args.places.now) c.args.client.now c.args.request.now c.args.reply.now x c.in-Some.turn c.in-Some.is moment (ap reply_told c.requires ∙ c.had_before.ensures calls lines x.entries it)).right

pub returns-then-eq-clause-placed : goal.returns-then-eq-clause-placed
returns-then-eq-clause-placed c lay tries calls lines x it =
    let moment : c.args.reply.now.moment ≡ Some c.in-Some.turn = search rules in
    (change_answered lay tries calls lines (changes c.args.places.now) c.args.client.now c.args.request.now c.args.reply.now x c.in-Some.turn c.in-Some.is moment (ap reply_told c.requires ∙ c.had_before.ensures calls lines x.entries it)).placed

pub returns-in-None-clause-right : goal.returns-in-None-clause-right
returns-in-None-clause-right c lay tries calls lines x it =
    let falls = changes_fall lay tries calls lines (changes c.args.places.now) c.args.client.now (MapCommand c.args.request.now) c.args.reply.now x in
    let some = some_turns lay tries calls lines (changes c.args.places.now) c.args.client.now (MapCommand c.args.request.now) c.args.reply.now x in
    (read_answered lay tries calls lines (changes c.args.places.now) c.args.client.now c.args.request.now c.args.reply.now x c.in-None.is (c.is_read.ensures calls lines x.entries falls some it)).right

pub returns-in-None-clause-placed : goal.returns-in-None-clause-placed
returns-in-None-clause-placed c lay tries calls lines x it =
    let falls = changes_fall lay tries calls lines (changes c.args.places.now) c.args.client.now (MapCommand c.args.request.now) c.args.reply.now x in
    let some = some_turns lay tries calls lines (changes c.args.places.now) c.args.client.now (MapCommand c.args.request.now) c.args.reply.now x in
    (read_answered lay tries calls lines (changes c.args.places.now) c.args.client.now c.args.request.now c.args.reply.now x c.in-None.is (c.is_read.ensures calls lines x.entries falls some it)).placed
