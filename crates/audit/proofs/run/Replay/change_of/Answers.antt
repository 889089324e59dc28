use Rattle.std.proofs.Common.{refl}
use Rattle.audit.proofs.run.Replay.change_of.Goals as goal

pub returns-in-Some : goal.returns-in-Some
returns-in-Some c = record {
  begun = c.in-Some.begun;
  known = rw c.in-Some.is at c.begun_for_entry.ensures.known;
  own = rw c.in-Some.is at c.begun_for_entry.ensures.own;
  is = refl;
}
