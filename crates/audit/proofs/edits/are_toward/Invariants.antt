use Rattle.std.proofs.Common.{drop}
use Rattle.record.specs.MapRecord.{number_pairs}
use Rattle.audit.specs.Edits.{AreToward, word_now}
use Rattle.audit.proofs.edits.are_toward.Given as goal

-- all are on this side if those that are left are
abbrev pub invariant-loop-pair : goal.invariant-loop-pair
invariant-loop-pair l = AreToward (word_now l.judge) l.fork l.side (number_pairs (drop l.pair-index l.pairs)) → AreToward (word_now l.judge) l.fork l.side (number_pairs l.pairs)
