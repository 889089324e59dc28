use Rattle.std.proofs.Common.{◌≡◌}
use Rattle.audit.specs.After.{lines_of, Remembers}
use Rattle.audit.proofs.verdict.audit_watched.Given as goal

abbrev pub invariant-loop-at : goal.invariant-loop-at
invariant-loop-at g l = record {
  at : l.run.at ≡ l.at;
  same : l.run.record.now ≡ l.«record»;
  remembers : Remembers l.run (lines_of l.run);
}
