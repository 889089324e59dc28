use Rattle.std.proofs.Common.{arith}
use Rattle.judge.specs.Histories.{seen_history}
use Rattle.judge.proofs.Found.{flagged_inside}
use Rattle.judge.proofs.exchanges.is_update_of_any.Goals as goal

pub returns : goal.returns
returns c =
    let lay = c.args.judge.now.layout in (
      λ t. absurd (cc),
      λ x.
          let i = flagged_inside lay (seen_history c.args.judge.now) x.0 c.laws_hold.ensures x.1.all_frozen in
          let end = rw c.layout.ensures at c.all_scx.ensures.scx in
          absurd (c.loop-scx.invariant x.0 (omega (i, end, c.from-scx-end.ensures, c.loop-scx-test.false, arith)) x.1),
    )
