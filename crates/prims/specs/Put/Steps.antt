-- How many steps a run of SCX with the fill of its fresh cell may still ask for.
use Rattle.std.specs.Prelude.{ℕ, ◌+◌}
use Rattle.prims.specs.declared.put.PutRun.{PutRun}
use Rattle.prims.specs.declared.put.PutAt.{PutAt}
use Rattle.prims.specs.declared.put.PutAt.TheVariants.{Start, Fill, Scx}
use Rattle.prims.specs.Scx.Steps.{scx_left}

-- how many steps a run may still ask for at this place, by how many
-- its SCX may ask for: one more before the fill
abbrev pub put_left_at : PutAt → ℕ → ℕ
put_left_at Start scx = scx + 1
put_left_at Fill scx = scx
put_left_at Scx scx = scx

-- how many steps a run may still ask for at its place
abbrev pub put_left : PutRun → ℕ
put_left m = put_left_at m.at (scx_left m.scx.at)
