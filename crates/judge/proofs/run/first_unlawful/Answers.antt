use Rattle.std.proofs.Common.{◌≡◌, ◌+◌, true, sym, ◌∙◌}
use Rattle.arena.specs.History.{Start}
use Rattle.judge.proofs.Judged.{past_step, lawful_next, lawful_newest, lawful_take}
use Rattle.judge.proofs.run.first_unlawful.Goals as goal

pub loop-place-preserved : goal.loop-place-preserved
loop-place-preserved c =
    let lay = c.args.layout.now in
    let rows = c.args.rows.now in
    let inv = c.loop-place.invariant in
    let lawful = rw (inv.history, inv.layout) at (c.is_lawful.ensures.0 c.if-not-is_lawful.false) in
    record {
      layout = c.make.ensures.layout ∙ inv.layout;
      history = c.in_ok-make.ensures.history ∙ rw inv.history (sym (past_step (Start lay.mode) rows c.loop-place.place _ c.loop-place-test.true));
      lawful = lawful_next lay rows c.loop-place.place _ c.loop-place-test.true inv.lawful lawful;
    }

pub returns-then-not-is_lawful-clause-named : goal.returns-then-not-is_lawful-clause-named
returns-then-not-is_lawful-clause-named c = λ after.
    let lay = c.args.layout.now in
    let rows = c.args.rows.now in
    let inv = c.loop-place.invariant in
    let row = lawful_newest lay rows c.loop-place.place _ c.loop-place-test.true after in
    let t : c.is_lawful.result ≡ true = c.is_lawful.ensures.1 (rw (inv.history, inv.layout) row) in
    let no = c.if-not-is_lawful.true in
    cc

pub returns-then-not-is_lawful-clause-unlawful : goal.returns-then-not-is_lawful-clause-unlawful
returns-then-not-is_lawful-clause-unlawful c = λ all.
    let lay = c.args.layout.now in
    let rows = c.args.rows.now in
    let inv = c.loop-place.invariant in
    let after = lawful_take lay (Start lay.mode) rows (c.loop-place.place + 1) all in
    let row = lawful_newest lay rows c.loop-place.place _ c.loop-place-test.true after in
    let t : c.is_lawful.result ≡ true = c.is_lawful.ensures.1 (rw (inv.history, inv.layout) row) in
    let no = c.if-not-is_lawful.true in
    cc
