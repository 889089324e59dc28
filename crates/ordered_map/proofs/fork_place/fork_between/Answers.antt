use Rattle.std.proofs.Common.{min, ◌+◌, ap, ◌∙◌, arith}
use Rattle.std.proofs.lemmas.Nat.{xor_comm}
use Rattle.std.specs.Int.Count.{count_leading_zeros}
use Rattle.ordered_map.proofs.Bits.{parts, place_key, place_level}
use Rattle.ordered_map.proofs.fork_place.fork_between.Goals as goal

pub returns : goal.returns
returns c = record {
  rising = λ l. rw c.from.ensures (parts c.args.one c.args.other c.min-zeros.result c.max.result l c.ranges.other.fits c.min-zeros.ensures (let greater = c.max.ensures in omega (arith, greater, l)));
  falling = λ l. rw c.from.ensures (parts c.args.other c.args.one c.min-zeros.result c.max.result l c.ranges.one.fits (c.min-zeros.ensures ∙ ap (λ x. min (count_leading_zeros 64 x) 63) (xor_comm c.args.one c.args.other)) (let greater = c.max.ensures in omega (arith, greater, l)));
  is = λ i. record {
    key = place_key c.args.one c.args.other c.min-zeros.result c.max.result c.ranges.one.fits c.ranges.other.fits c.min-zeros.ensures (let greater = c.max.ensures in omega (arith, greater)) i;
    level = (ap (λ v. v + 2) c.from.ensures ∙ place_level c.args.one c.args.other c.min-zeros.result c.min-zeros.ensures) i;
  };
}
