use Rattle.linearization.specs.Places.{changes}
use Rattle.audit.proofs.MapAnswers.{none_by}
use Rattle.audit.proofs.Refusals.{refused_placed}
use Rattle.audit.proofs.map.is_right.Goals as goal

pub returns-then-is_none-clause-placed : goal.returns-then-is_none-clause-placed
returns-then-is_none-clause-placed c lay calls lines x it = refused_placed lay c.args.tries calls lines (changes c.args.places.now) c.args.client.now c.args.command.now c.args.reply.now x (c.is_refused.ensures.tells_nothing it) (none_by c.args.reply.now.moment c.if-is_none.ensures)
