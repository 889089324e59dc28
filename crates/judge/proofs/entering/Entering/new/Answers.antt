use Rattle.std.proofs.Common.{◌≡◌, replicate, false, refl, ◌∙◌, ap}
use Rattle.arena.specs.Layout.{all_scx, all_nodes}
use Rattle.judge.proofs.Counts.{zero_list}
use Rattle.judge.proofs.Entered.{entering_start}
use Rattle.judge.proofs.entering.Entering.new.Goals as goal

pub returns : goal.returns
returns c =
    let lay = c.args.layout.now in
    let won : c.in_ok-vec.field-0.items ≡ replicate (all_scx lay) false = c.in_ok-vec.ensures.items_if_clones_equal (λ y e. e) ∙ ap (λ n. replicate n false) c.all_scx.ensures.scx in
    let places : c.in_ok-vec-2.field-0.items ≡ zero_list (all_nodes lay) = c.in_ok-vec-2.ensures.items_if_clones_equal (λ y e. e) ∙ ap zero_list c.all_nodes-nodes.ensures.nodes in
    let finals : c.in_ok-vec-3.field-0.items ≡ replicate (all_nodes lay) false = c.in_ok-vec-3.ensures.items_if_clones_equal (λ y e. e) ∙ ap (λ n. replicate n false) c.all_nodes-nodes.ensures.nodes in
    entering_start lay _ refl won places finals
