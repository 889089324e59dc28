use Rattle.std.proofs.Common.{◌≡◌, take}
use Rattle.arena.specs.Lawful.{Lawful}
use Rattle.judge.specs.Histories.{seen_history, history_after}
use Rattle.judge.proofs.run.first_unlawful.Given as goal

abbrev pub invariant-loop-place : goal.invariant-loop-place
invariant-loop-place l = record {
  layout : l.judge.layout ≡ l.layout;
  history : seen_history l.judge ≡ history_after l.layout (take l.place l.rows);
  lawful : Lawful l.layout (history_after l.layout (take l.place l.rows));
}
