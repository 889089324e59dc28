use Rattle.std.proofs.Common.{◌≡◌, [], None, false, true, replicate, rules, refl, arith, slice_set}
use Rattle.std.proofs.Math.ListN.{length-set}
use Rattle.std.proofs.lemmas.List.{length-replicate}
use Rattle.judge.specs.Graph.{links_in}
use Rattle.judge.proofs.Spreading.{counted, spread_start}
use Rattle.judge.proofs.graph.Graph.new.Goals as goal

pub returns-clause-graph : goal.returns-clause-graph
returns-clause-graph c =
    let size = c.args.size in
    let flags : c.in_ok-reached.reached.items ≡ replicate size false = c.in_ok-reached.ensures.items_if_clones_equal (λ y e. e) in
    let newest : c.in_ok-vec.field-0.items ≡ replicate size None = c.in_ok-vec.ensures.items_if_clones_equal (λ y p. search (rules, p)) in
    let links : c.new.result.items ≡ [] = c.new.ensures.items in
    let all : links_in c.of.result.value ≡ [] = rw c.of.ensures refl in
    let few = counted (slice_set (replicate size false) 0 true) in
    let long = length-set (replicate size false) 0 true in
    let long_two = length-replicate size false in
    record {
      sizes = rw (flags, newest, length-set, length-replicate, length-replicate) refl;
      spread = rw (flags, newest, links, all) (spread_start size c.requires);
      none_fresh = c.in_ok-with_capacity.ensures.items;
      room = rw flags (omega (few, long, long_two, c.in_ok-with_capacity.ensures.len, c.in_ok-with_capacity.ensures.exact, arith));
    }
