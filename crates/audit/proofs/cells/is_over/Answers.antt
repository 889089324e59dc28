use Rattle.std.proofs.Common.{◌≡◌, ℕ, ◌<◌, length, get_or, sym, ap, subst, ◌∙◌, below_more, arith, rules}
use Rattle.histories.specs.Common.{has, member, scx_finalizes, plan_finalizes, count, count_of}
use Rattle.judge.specs.Histories.{seen_history}
use Rattle.audit.proofs.CellLists.{over_cells, item_at}
use Rattle.audit.proofs.cells.is_over.Goals as goal

pub loop-place-preserved : goal.loop-place-preserved
loop-place-preserved c =
    let h = seen_history c.args.judge.now in
    let s = c.args.scx.0 in
    let cells = c.args.cells.now in
    let removed = c.args.finalized.now in
    let place = c.loop-place.place in
    let cell = c.index-cells-from.result in
    let read : cell ≡ get_or cells place cell = subst (λ (k : ℕ). cell ≡ get_or cells k cell) c.from-in-loop-place.ensures c.index-cells-from.is in
    let many : c.count-place-end.result ≡ c.count.result = c.count-place-end.ensures.count ∙ sym c.count.ensures.count in
    let within : place < length cells = let all = sym c.from.ensures ∙ c.if-from-cells.false in omega arith in
    let at : get_or cells place 0 ≡ cell = item_at cells place cell within read in
    let is : member h s place ≡ get_or cells place 0 = sym c.scx_word.ensures ∙ c.if-scx_word-node.false ∙ c.node.ensures.node ∙ sym at in
    let same : c.finalizes.result ≡ c.is_among.result = search rules in
    let final : scx_finalizes h s place ≡ has removed (get_or cells place 0) = ap (λ (p : ℕ). plan_finalizes p place) (sym c.plan-plan.ensures) ∙ sym c.finalizes.ensures ∙ same ∙ c.is_among.ensures ∙ ap (has removed) (c.node-else-scx_word-node.ensures.node ∙ sym at) in
    below_more (λ (i : ℕ). (member h s i ≡ get_or cells i 0) × (scx_finalizes h s i ≡ has removed (get_or cells i 0))) place c.loop-place.invariant (is, final)

pub returns : goal.returns
returns c =
    let h = seen_history c.args.judge.now in
    let planned = c.plan-plan.ensures in
    let many : count h c.args.scx.0 ≡ length c.args.cells.now = ap count_of (sym planned) ∙ sym c.count.ensures.count ∙ sym c.from.ensures ∙ c.if-from-cells.false in
    let end : count h c.args.scx.0 ≡ c.count-place-end.result = ap count_of (sym planned) ∙ sym c.count-place-end.ensures.count in
    λ t. over_cells h c.args.scx.0 c.args.cells.now c.args.finalized.now many c.requires (λ i p. c.loop-place.invariant i (omega (arith, p, end)))
