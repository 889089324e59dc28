use Rattle.std.proofs.Common.{◌≡◌, ℕ, true, ⊎_elim, arith, subst}
use Rattle.arena.specs.Lawful.{IsFreeze}
use Rattle.judge.specs.Histories.{seen_history}
use Rattle.judge.proofs.Found.{covers_inside}
use Rattle.judge.proofs.Spreading.{same_or}
use Rattle.judge.proofs.exchanges.is_freeze_for_any.Goals as goal

pub loop-scx-preserved : goal.loop-scx-preserved
loop-scx-preserved c =
    let lay = c.args.judge.now.layout in
    let h = seen_history c.args.judge.now in
    λ s j l f. ⊎_elim
    (λ e.
    let t : c.is_freeze_for.result ≡ true = c.is_freeze_for.ensures.1 (j, subst (λ (k : ℕ). IsFreeze lay h c.args.row.now k j) e f) in
    let no = c.if-is_freeze_for.false in
    cc)
    (λ d. c.loop-scx.invariant s j (omega (l, d, arith)) f)
    (same_or s c.loop-scx.scx)

pub returns : goal.returns
returns c =
    let lay = c.args.judge.now.layout in (
      λ t. absurd (cc),
      λ x.
          let i = covers_inside lay (seen_history c.args.judge.now) x.0 x.1 c.laws_hold.ensures x.2.within in
          let end = rw c.layout.ensures at c.all_scx.ensures.scx in
          absurd (c.loop-scx.invariant x.0 x.1 (omega (i, end, c.from-scx-end.ensures, c.loop-scx-test.false, arith)) x.2),
    )
