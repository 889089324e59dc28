use Rattle.std.proofs.Common.{◌≡◌, ◌≤◌, [], length, reverse, vec_len, refl, sym, ◌∙◌, arith}
use Rattle.std.proofs.lemmas.List.{length-reverse}
use Rattle.record.specs.MapRecord.{number_pairs}
use Rattle.linearization.specs.Ordered.{is_unlike}
use Rattle.linearization.proofs.Chains.{changes_of}
use Rattle.linearization.proofs.Weights.{key_bound, weighed_first, weighing_next, weighing_ends, none_left_falls, next_few}
use Rattle.linearization.proofs.OrderedReads.{best_told}
use Rattle.linearization.proofs.places.Places.latest_with_pairs.Goals as goal

pub loop-left-init : goal.loop-left-init
loop-left-init c =
    let all = reverse c.args.self.now.list.items in
    let counted : vec_len c.args.self.now.list ≡ length c.args.self.now.list.items = omega (c.args.self.now.list.ok.0, arith) in
    let number : c.len-left.result ≡ length c.args.self.now.list.items = c.len-left.ensures ∙ counted in
    record {
      few = omega (number, arith);
      weighing = λ less falls. record { newer = []; rest = all; is = refl; number = length-reverse c.args.self.now.list.items ∙ sym number; weighed = weighed_first (is_unlike c.args.command.now (number_pairs c.args.pairs.now)) (key_bound (changes_of all)) c.args.first c.args.last all less falls };
    }

pub loop-left-preserved : goal.loop-left-preserved
loop-left-preserved c =
    let inv = c.loop-left.invariant in
    let more = next_few c.is_unlike-was.result c.is_unlike-is.result _ _ _ _ _ c.next_best.ensures in
    record {
      few = let i = inv.few in omega (i, more, c.loop-left-test.true, arith);
      weighing = λ less falls. weighing_next (is_unlike c.args.command.now (number_pairs c.args.pairs.now)) c.args.first c.args.last c.loop-left.best c.loop-left.more c.loop-left.left c.args.self.now.list.items c.index-place.result.now c.loop-left-test.true (sym c.index-place.ensures) c.next_best.result.0 c.next_best.result.1 c.value_at.result c.is_unlike-was.result c.is_unlike-is.result (inv.weighing less falls) c.args.self.now.linked c.if-place-first.false c.value_at.ensures c.is_unlike-was.ensures c.is_unlike-is.ensures c.next_best.ensures;
    }

pub returns-then-place-first-clause-greatest : goal.returns-then-place-first-clause-greatest
returns-then-place-first-clause-greatest c calls lines n are falls from to told =
    let x = c.loop-left.invariant.weighing (omega (from, to, arith)) falls in
    best_told c.args.command.now (number_pairs c.args.pairs.now) (reverse c.args.self.now.list.items) calls lines are c.args.first c.args.last c.loop-left.best c.loop-left.more n x.rest x.weighed (weighing_ends (is_unlike c.args.command.now (number_pairs c.args.pairs.now)) c.args.first c.args.last c.loop-left.best c.loop-left.more c.loop-left.left c.args.self.now.list.items c.index-place.result.now c.loop-left-test.true (sym c.index-place.ensures) x c.if-place-first.true) from to told

pub returns-clause-greatest : goal.returns-clause-greatest
returns-clause-greatest c calls lines n are falls from to told =
    let x = c.loop-left.invariant.weighing (omega (from, to, arith)) falls in
    let none : length x.rest ≤ 0 = let k = x.number in omega (k, c.loop-left-test.false, arith) in
    best_told c.args.command.now (number_pairs c.args.pairs.now) (reverse c.args.self.now.list.items) calls lines are c.args.first c.args.last c.loop-left.best c.loop-left.more n x.rest x.weighed (none_left_falls _ x.rest none) from to told
