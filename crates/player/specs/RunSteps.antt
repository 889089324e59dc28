-- How many steps a run may still ask for.
use Rattle.std.specs.Prelude.{ℕ, ◌+◌, Option, Some, None}
use Rattle.dict.specs.Steps.{map_left}
use Rattle.template.specs.Common.{llx_left, vlx_left}
use Rattle.prims.specs.Put.Steps.{put_left}
use Rattle.player.specs.declared.client.SetField.{SetField}
use Rattle.player.specs.declared.run.Run.{Run}
use Rattle.player.specs.declared.run.Run.TheVariants.{Llx, Scx, Vlx, Map}

-- how many steps the machine of a call may still ask for, where no more nodes than these are taken
abbrev pub run_left : Run → ℕ → ℕ
run_left (Llx run) nodes = llx_left run.at
run_left (Scx run) nodes = put_left run
run_left (Vlx run) nodes = vlx_left run.snaps run.asked
run_left (Map run) nodes = map_left run.run nodes

-- how many steps what follows the machine may ask for: 40 for the SCX of a `set`
abbrev pub then_left : Option SetField → ℕ
then_left None = 0
then_left (Some put) = 40

-- how many steps a call may still ask for: its machine, and what follows it
abbrev pub left_of : Run → Option SetField → ℕ → ℕ
left_of run then nodes = run_left run nodes + then_left then
