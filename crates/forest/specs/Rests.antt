-- What a rest of a pass says.
use Rattle.std.specs.Prelude.{◌≡◌, ℕ}
use Rattle.histories.specs.Common.{Layout, History, IsRun}
use Rattle.prims.specs.declared.snap.Snap.{Snap}
use Rattle.tables.specs.Passes.{AreOfCall, CanUse, IsLaterView, PassView, done_of, run_of}
use Rattle.tables.specs.Shares.{IsBetweenCalls}

-- The pass has rested, has gone away, or is back: it has made no call.
pub record HasOnlyRested (allows : Layout → History → ℕ → Type 0) (old new : PassView) : Type 0 where
  -- the run that it knows extends what it knew, and is lawful
  pub later : IsLaterView old new
  pub lawful : IsRun allows new.layout (run_of new)
  -- its own rows there are of no call: by them it has passed over names
  pub calls : AreOfCall new.number 0 (run_of old) (run_of new)
  -- it has made no entry, and has blamed nobody
  pub done : done_of new ≡ done_of old
  pub blamed_same : new.blamed ≡ old.blamed
  -- it is between two calls, and what is left of its share now is what the run has not taken
  pub rest : IsBetweenCalls new.layout new.number (run_of new) new.share
  -- it may use each snapshot that it could use
  pub usable : (snap : Snap) → CanUse old snap → CanUse new snap
