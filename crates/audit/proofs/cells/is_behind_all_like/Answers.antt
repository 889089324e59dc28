use Rattle.std.proofs.Common.{◌≡◌, ℕ, get_or, Some, sym, ap, ◌∙◌, arith, rules}
use Rattle.audit.proofs.CellLists.{at_place, item_at}
use Rattle.audit.proofs.cells.is_behind_all_like.Goals as goal

pub returns-then-eq : goal.returns-then-eq
returns-then-eq c = λ lay h linked same t.
    let cells = c.args.cells.now in
    let place = c.loop-place.place in
    let at : get_or cells place 0 ≡ c.index-cells-place.result = item_at cells place c.index-cells-place.result (omega arith) c.index-cells-place.is in
    let node : c.node.result.0 ≡ c.args.node.0 = search rules in
    record {
      place = place;
      is = at_place cells place (omega arith) ∙ ap (λ (n : ℕ). Some n) (at ∙ sym c.node.ensures.node ∙ node);
      before = λ i p. same i (get_or cells i 0) (at_place cells i (omega (arith, p))) (c.loop-place.invariant i p);
    }
