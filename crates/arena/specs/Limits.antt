-- Which limits are accepted, and the layout that they give.
use Rattle.std.specs.Prelude.{◌≡◌, ◌≤◌}
use Rattle.arena.specs.declared.limits.Limits.{Limits}
use Rattle.arena.specs.declared.limits.Mode.{Mode}
use Rattle.arena.specs.declared.layout.Layout.{Layout}

-- limits that a table may have: 1 to 32 passes; of nodes and of SCX-records at most 32,768 for each
-- pass; 1 to 1,000 tries of a dictionary call
pub record IsAccepted (limits : Limits) : Type 0 where
  pub some_pass : 1 ≤ limits.passes
  pub passes : limits.passes ≤ 32
  pub nodes : limits.nodes ≤ 32768
  pub scx : limits.scx ≤ 32768
  pub some_try : 1 ≤ limits.tries
  pub tries : limits.tries ≤ 1000

-- the layout has these limits and is for this mode, and begins empty
pub record IsLayoutOf (limits : Limits) (mode : Mode) (layout : Layout) : Type 0 where
  pub mode_is : layout.mode ≡ mode
  pub passes : layout.passes ≡ limits.passes
  pub nodes : layout.nodes ≡ limits.nodes
  pub scx : layout.scx ≡ limits.scx
  pub none_planted : layout.planted ≡ 0
