use Rattle.std.proofs.Common.{◌∙◌}
use Rattle.audit.proofs.run.Replay.step.Goals as goal

pub make-requires-clause-next : goal.make-requires-clause-next
make-requires-clause-next c = record {
  settled = c.in_ok-settled.ensures;
  step = c.in_ok-check_step.ensures;
  rising = c.in_ok-check_levels.ensures;
  edit = c.in_ok-check_begun.ensures;
  is_owed = c.in_ok-owed.ensures.owed;
  client = c.in_ok-owed.ensures.client;
  wins = λ e yes is. c.fits_with-fits.ensures c.args.number e yes is (c.in_ok-owed.ensures.owed ∙ is);
}
