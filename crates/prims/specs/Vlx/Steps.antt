-- How many steps a run of VLX may still ask for.
use Rattle.std.specs.Prelude.{ℕ, ◌-◌, List, length}
use Rattle.prims.specs.declared.snap.Snap.{Snap}

-- how many steps a run of VLX may still ask for: one for
-- each snapshot whose info it has not asked for
abbrev pub vlx_left : List Snap → ℕ → ℕ
vlx_left snaps asked = length snaps - asked
