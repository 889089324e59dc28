-- How many steps a run of HELP may still ask for.
use Rattle.std.specs.Prelude.{ℕ, ◌+◌, ◌-◌, ◌*◌}
use Rattle.arena.specs.MemberIndex.{member_index}
use Rattle.help.specs.declared.state.HelpAt.{HelpAt}
use Rattle.help.specs.declared.state.HelpAt.TheVariants.{Start, Plan, Member, Seen, Freeze, AllFrozen, Abort, SetFrozen, Mark, New, Old, Update, Commit}

-- how many steps a run of HELP may still ask for at this place: three for each node that is left,
-- one for each that may be marked, and then four up to the commit
abbrev pub help_left : HelpAt → ℕ
help_left Start = 22
help_left Plan = 21
help_left (Member j) = 11 + 3 * (3 - member_index j)
help_left (Seen j) = 10 + 3 * (3 - member_index j)
help_left (Freeze j seen) = 9 + 3 * (3 - member_index j)
help_left (AllFrozen j found) = 1
help_left (Abort j found) = 0
help_left SetFrozen = 8
help_left (Mark j) = 4 + (3 - member_index j)
help_left New = 3
help_left (Old new) = 2
help_left Update = 1
help_left Commit = 0
