use Rattle.std.proofs.Common.{◌≡◌, refl}
use Rattle.std.proofs.lemmas.List.{length-replicate}
use Rattle.judge.proofs.Counts.{zeros, zero_list}
use Rattle.judge.proofs.Taken.{taking_start}
use Rattle.judge.proofs.taking.Taking.new.Goals as goal

pub returns : goal.returns
returns c =
    let passes = c.args.layout.now.passes in
    let nodes : c.in_ok-vec.field-0.items ≡ zero_list passes = c.in_ok-vec.ensures.items_if_clones_equal (λ y e. e) in
    let scx : c.in_ok-vec-2.field-0.items ≡ zero_list passes = c.in_ok-vec-2.ensures.items_if_clones_equal (λ y e. e) in
    taking_start c.args.layout.now _ (rw nodes (length-replicate passes 0)) (rw scx (length-replicate passes 0)) (λ i. rw nodes (zeros passes i)) (λ i. rw scx (zeros passes i)) refl
