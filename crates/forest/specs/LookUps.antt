-- What a rest of a pass says that may look keys up.
use Rattle.std.specs.Prelude.{◌≡◌, ◌⊎◌, ℕ, Bool, true, false}
use Rattle.arena.specs.declared.step.Kind.TheVariants.{LoadChild, LoadSettled}
use Rattle.histories.specs.Common.{Layout, History, IsRun, Row}
use Rattle.prims.specs.declared.snap.Snap.{Snap}
use Rattle.tables.specs.Passes.{CanUse, HoldsOfOwn, IsLaterView, PassView, done_of, run_of, taken_of}
use Rattle.tables.specs.Shares.{IsBetweenCalls}

-- The row is of no call; or, in a trie alone, of a call of this number, and of a kind that a get
-- makes: it loads a settled word or a field.
abbrev pub IsOfRest : (trie : Bool) → (number : ℕ) → Row → Type 0
IsOfRest false number r = r.call ≡ 0
IsOfRest true number r = (r.call ≡ 0) ⊎ ((r.call ≡ number) × ((r.kind ≡ LoadSettled) ⊎ (r.kind ≡ LoadChild)))

-- The pass has rested, in a trie or in a tree. In a trie it may have looked up keys of leaves of its
-- own, by gets; it has made no other call.
pub record HasRestedIn (trie : Bool) (allows : Layout → History → ℕ → Type 0) (old new : PassView) : Type 0 where
  -- the run that it knows extends what it knew, and is lawful
  pub later : IsLaterView old new
  pub lawful : IsRun allows new.layout (run_of new)
  -- its own rows there are of no call, by which it has passed over names, or of these gets
  pub rows : HoldsOfOwn (IsOfRest trie (taken_of old)) new.number (run_of old) (run_of new)
  -- it has made no entry, and has blamed nobody
  pub done : done_of new ≡ done_of old
  pub blamed_same : new.blamed ≡ old.blamed
  -- it is between two calls, and what is left of its share now is what the run has not taken
  pub rest : IsBetweenCalls new.layout new.number (run_of new) new.share
  -- it may use each snapshot that it could use
  pub usable : (snap : Snap) → CanUse old snap → CanUse new snap
