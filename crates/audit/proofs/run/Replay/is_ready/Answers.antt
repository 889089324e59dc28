use Rattle.audit.proofs.run.Replay.is_ready.Goals as goal

pub returns-then-is_begun_for : goal.returns-then-is_begun_for
returns-then-is_begun_for c it = record {
  begun = c.in-Some.begun;
  known = rw c.in-Some.is at c.begun_of.ensures;
  own = c.is_begun_for.ensures c.if-is_begun_for.true;
  suited = c.covers_the_right_leaf.ensures it;
}
