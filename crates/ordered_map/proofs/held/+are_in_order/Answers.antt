use Rattle.std.proofs.Common.{◌<◌, ◌^◌, ◌∙◌, sym, arith, Some, None}
use Rattle.arena.specs.PlainWords.{word_at}
use Rattle.ordered_map.specs.Holding.{pair_in}
use Rattle.ordered_map.proofs.Reading.{in_order, order_here, order_behind}
use Rattle.ordered_map.proofs.held.+are_in_order.Goals as goal

pub returns-then-from-high : goal.returns-then-from-high
returns-then-from-high t c = (λ e. cc, λ x. absurd (let low = order_here (word_at c.args.words.now) c.args.leaf.0 c.args.high c.args.slot x in grind (arith, low, c.if-from-high.true, c.from.ensures, c.settled-key.ensures)))

pub returns-then-key-settled : goal.returns-then-key-settled
returns-then-key-settled t c =
    let f = word_at c.args.words.now in
    let next = sym c.behind.ensures ∙ c.in-Some.is in
    let below : (pair_in f c.args.leaf.0 c.args.slot).key < c.args.high = omega (arith, c.if-from-high.false, c.from.ensures, c.settled-key.ensures) in
    let word : (pair_in f c.args.leaf.0 c.args.slot).key < 2 ^ 64 = omega (arith, c.settled-key.ensures) in
    let above : (pair_in f c.args.leaf.0 c.args.slot).key < (pair_in f c.args.leaf.0 c.in-Some.next).key = omega (arith, c.if-key-settled.true, c.settled-key.ensures, c.settled.ensures) in (
      λ e. in_order f c.args.leaf.0 c.args.high c.args.slot (Some c.in-Some.next) next below word (above, c.are_in_order.ensures.0 e),
      λ x. c.are_in_order.ensures.1 (order_behind f c.args.leaf.0 c.args.high c.args.slot (Some c.in-Some.next) next x).1,
    )

pub returns-else-key-settled : goal.returns-else-key-settled
returns-else-key-settled t c =
    let f = word_at c.args.words.now in
    let next = sym c.behind.ensures ∙ c.in-Some.is in (
      λ e. absurd (grind (arith, e, c.if-key-settled.false)),
      λ x. let above = (order_behind f c.args.leaf.0 c.args.high c.args.slot (Some c.in-Some.next) next x).0 in grind (arith, above, c.settled-key.ensures, c.settled.ensures),
    )

pub returns-in-None : goal.returns-in-None
returns-in-None t c =
    let f = word_at c.args.words.now in
    let below : (pair_in f c.args.leaf.0 c.args.slot).key < c.args.high = omega (arith, c.if-from-high.false, c.from.ensures, c.settled-key.ensures) in
    let word : (pair_in f c.args.leaf.0 c.args.slot).key < 2 ^ 64 = omega (arith, c.settled-key.ensures) in
    (λ _. in_order f c.args.leaf.0 c.args.high c.args.slot None (sym c.behind.ensures ∙ c.in-None.is) below word tt, λ _. cc)
