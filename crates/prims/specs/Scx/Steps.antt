-- How many steps a run of SCX, or of the fill of a fresh cell and SCX, may still ask for.
use Rattle.std.specs.Prelude.{ℕ, ◌+◌, ◌-◌}
use Rattle.arena.specs.MemberIndex.{member_index}
use Rattle.help.specs.Help.Steps.{help_left}
use Rattle.prims.specs.declared.scx.ScxAt.{ScxAt}
use Rattle.prims.specs.declared.scx.ScxAt.TheVariants.{Start, Plan, New, Old, Member, Seen, Call, Help}

-- how many steps a run of SCX may still ask for at this place: two fills
-- for each node, four others, and those of HELP
abbrev pub scx_left : ScxAt → ℕ
scx_left Start = 34
scx_left Plan = 33
scx_left New = 32
scx_left Old = 31
scx_left (Member j) = 27 + (3 - member_index j)
scx_left (Seen j) = 23 + (3 - member_index j)
scx_left Call = 22
scx_left (Help help) = help_left help.at
