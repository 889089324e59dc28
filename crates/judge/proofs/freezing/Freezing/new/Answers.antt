use Rattle.std.proofs.Common.{◌≡◌}
use Rattle.std.proofs.lemmas.List.{length-replicate}
use Rattle.judge.proofs.Counts.{zeros, zero_list}
use Rattle.judge.proofs.Frozen.{frozen_start}
use Rattle.judge.proofs.freezing.Freezing.new.Goals as goal

pub returns : goal.returns
returns c =
    let lay = c.args.layout.now in
    let items : c.in_ok-vec.field-0.items ≡ zero_list c.all_scx.result = c.in_ok-vec.ensures.items_if_clones_equal (λ y e. e) in
    frozen_start lay c.in_ok-vec.field-0.items (rw (items, length-replicate) c.all_scx.ensures.scx) (λ s. rw items (zeros c.all_scx.result s))
