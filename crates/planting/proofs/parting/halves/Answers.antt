use Rattle.std.proofs.Common.{◌≡◌, ◌<◌, length, true, false, ◌+◌, ◌*◌, ◌/◌, arith, refl, pow-suc}
use Rattle.ordered_map.specs.OrderedMap.{pair}
use Rattle.planting.proofs.Parts.{take_below, drop_from}
use Rattle.planting.proofs.parting.halves.Goals as goal

pub returns : goal.returns
returns c =
    let many = c.requires.many in
    let ps = c.args.pairs.now in
    let m = 4 * (((length ps + 3) / 4 + 1) / 2) in
    let inside : m < length ps = omega (arith, many) in
    record {
      some = omega (arith, many);
      less = inside;
      below = take_below ps m (pair 0 0) c.requires.rising inside;
      from = drop_from ps m (pair 0 0) c.requires.rising inside;
      fits = omega arith;
      full = λ _. omega arith;
      in_tree = λ _. (refl, λ t few. let twice = pow-suc 2 t in (omega (arith, few, twice), omega (arith, few, twice)));
      in_trie = λ is. absurd (let z : false ≡ true = is in cc);
    }
