use Rattle.std.proofs.Common.{◌≡◌, ◌<◌, ◌*◌, ◌∙◌, arith, bit_and, refl, subst, sym}
use Rattle.arena.specs.Opening.{node_size}
use Rattle.histories.specs.Common.{Layout, all_nodes}
use Rattle.straight.specs.Hands.{hand_slots}
use Rattle.tables.specs.Slotted.{node_begins}
use Rattle.tables.proofs.Slotted.{names_are, node_begins_at, node_begins_soon, node_masked, node_unmasked, once_by}
use Rattle.straight.proofs.hand.Hand.node_start.Given.{Over}
use Rattle.straight.proofs.hand.Hand.node_start.Goals as goal

-- where records come back
begins : (g : Over) (c : goal.After-struct_known-1 g) → c.args.self.size * bit_and c.args.node.0 c.args.self.plan.now.node_mask ≡ node_begins (hand_slots c.args.self) c.args.node
begins g c = node_begins_at c.requires.table c.args.node c.requires.node c.args.self.size (bit_and c.args.node.0 c.args.self.plan.now.node_mask) c.args.self.of_size (node_masked c.requires.table c.args.node c.requires.node (sym c.lasts.ensures ∙ c.if-lasts.true))

low : (g : Over) (c : goal.After-struct_known-1 g) → c.args.self.size * bit_and c.args.node.0 c.args.self.plan.now.node_mask < 4294967296
low g c = subst (λ n. n < 4294967296) (sym (begins g c)) (node_begins_soon c.requires.table c.args.node c.requires.node (sym c.lasts.ensures ∙ c.if-lasts.true))

pub returns-then-lasts-clause-start : goal.returns-then-lasts-clause-start
returns-then-lasts-clause-start = begins

pub returns-then-lasts-clause-fits : goal.returns-then-lasts-clause-fits
returns-then-lasts-clause-fits = low

pub overflow_mul-result : goal.overflow_mul-result
overflow_mul-result g c = let small = low g c in omega (arith, small)

-- where they do not
pub node_start-requires-clause-there : goal.node_start-requires-clause-there
node_start-requires-clause-there g c = subst (λ (l : Layout). c.args.node.0 < all_nodes l) (names_are c.args.self.words.now.table.shared.key c.args.self.plan.now.layout c.requires.table.layout (once_by c.requires.table (sym c.lasts.ensures ∙ c.if-lasts.false))) c.requires.node

pub returns-else-lasts-clause-start : goal.returns-else-lasts-clause-start
returns-else-lasts-clause-start g c = c.node_start.ensures.start ∙ node_begins_at c.requires.table c.args.node c.requires.node (node_size c.args.self.plan.now.layout.mode) c.args.node.0 refl (node_unmasked c.requires.table c.args.node c.requires.node (sym c.lasts.ensures ∙ c.if-lasts.false))
