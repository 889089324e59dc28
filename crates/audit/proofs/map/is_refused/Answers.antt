use Rattle.std.proofs.Common.{sym, subst, ◌∙◌, ap}
use Rattle.record.specs.Common.{Map as MapCommand, IsRight, linked, history, start}
use Rattle.record.specs.declared.record.Answer.TheVariants.{Map as MapAnswer}
use Rattle.linearization.specs.Places.{changes}
use Rattle.audit.proofs.Refusals.{right_contended, right_no_memory}
use Rattle.audit.proofs.map.is_refused.Goals as goal

pub returns-then-has_lost_all_tries-clause-right : goal.returns-then-has_lost_all_tries-clause-right
returns-then-has_lost_all_tries-clause-right c lay calls lines x kept it = right_contended lay c.args.tries calls lines (changes c.args.places.now) c.args.client.now c.args.request.now c.args.reply.now x c.in-Contended.node c.in-Contended.scx (c.requires.answer ∙ ap MapAnswer c.in-Contended.is) (λ some. c.has_lost_all_tries.ensures lay calls lines kept some c.if-has_lost_all_tries.true) (λ finds. c.found_something.ensures lay calls lines kept x.entries it finds)

pub returns-in-Full-clause-right : goal.returns-in-Full-clause-right
returns-in-Full-clause-right c lay calls lines x kept it = subst (IsRight lay c.args.tries c.args.reply.now.client.0 (history lay.mode lines) (start lay.mode lines c.args.reply.now.client.0) (linked calls lay.mode lines c.args.reply.now.client.0) (MapCommand c.args.request.now)) (sym (c.requires.answer ∙ ap MapAnswer c.in-Full.is)) (c.is_full.ensures lay c.args.tries calls lines x kept it)

pub returns-in-NoMemory-clause-right : goal.returns-in-NoMemory-clause-right
returns-in-NoMemory-clause-right c lay calls lines x kept it = right_no_memory lay c.args.tries calls lines (changes c.args.places.now) c.args.client.now c.args.request.now c.args.reply.now x (c.requires.answer ∙ ap MapAnswer c.in-NoMemory.is)
