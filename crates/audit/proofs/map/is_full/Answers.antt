use Rattle.std.proofs.Common.{arith}
use Rattle.linearization.specs.Places.{changes}
use Rattle.audit.proofs.Refusals.{right_full}
use Rattle.audit.proofs.map.is_full.Goals as goal

pub returns-then-needed_one : goal.returns-then-needed_one
returns-then-needed_one c lay tries calls lines x kept it = right_full lay tries calls lines (changes c.args.places.now) c.args.client.now c.args.request.now c.args.reply.now x 1 c.args.full.0 c.args.full.1 (omega arith) (c.needed_one.ensures calls lines x.entries c.if-needed_one.true) (λ some. c.has_too_few_to_try.ensures lay calls lines kept some c.if-has_too_few_to_try.true)

pub returns-then-has_too_few_to_try-2 : goal.returns-then-has_too_few_to_try-2
returns-then-has_too_few_to_try-2 c lay tries calls lines x kept it = right_full lay tries calls lines (changes c.args.places.now) c.args.client.now c.args.request.now c.args.reply.now x 3 c.args.full.0 c.args.full.1 (omega arith) (c.needed_three.ensures calls lines x.entries it) (λ some. c.has_too_few_to_try-2.ensures lay calls lines kept some c.if-has_too_few_to_try-2.true)
