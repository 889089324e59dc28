use Rattle.std.proofs.Common.{◌≡◌, ℕ, false, is_some, Option, Some, None, IfSome, refl, subst}
use Rattle.audit.specs.declared.memory.Memory.{Memory}
use Rattle.audit.proofs.Remembering.{begun_remembered}
use Rattle.audit.proofs.steps.Steps.begin.Goals as goal

none_is : (o : Option ℕ) → is_some o ≡ false → o ≡ None
none_is None e = refl
none_is (Some k) e = cc

pub returns-then-is_none-clause-remembered : goal.returns-then-is_none-clause-remembered
returns-then-is_none-clause-remembered c lay lines x client = begun_remembered c.args.self.now c.put.new.self c.args.client.now.pass.0 c.memory_begun-memory.result c.put.ensures.same c.put.ensures.memories lay c.args.calls.now lines x (λ before there. subst (λ (o : Option Memory). IfSome o (λ m. c.memory_begun-memory.result ≡ record m { begun = c.memory_begun-memory.result.begun; nodes = c.memory_begun-memory.result.nodes; scx = c.memory_begun-memory.result.scx; tries = c.memory_begun-memory.result.tries; same = c.memory_begun-memory.result.same })) there c.memory_begun-memory.ensures.same) (c.memory_begun-memory.ensures.begun lay lines x client (none_is c.args.client.now.begun c.if-is_none.ensures))
