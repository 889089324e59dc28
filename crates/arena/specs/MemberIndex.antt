-- The places of the nodes that an SCX-record covers.
use Rattle.std.specs.Prelude.{ℕ}
use Rattle.arena.specs.declared.number.MemberIndex.{MemberIndex}
use Rattle.arena.specs.declared.number.MemberIndex.TheVariants.{First, Second, Third, Fourth}

-- the place of a node among those that an SCX-record covers, counted from 0
abbrev pub member_index : MemberIndex → ℕ
member_index First = 0
member_index Second = 1
member_index Third = 2
member_index Fourth = 3
