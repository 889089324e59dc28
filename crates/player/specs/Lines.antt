-- The lines of one turn, and how they are added to those before it.
use Rattle.std.specs.Prelude.{ℕ, ◌-◌, List, [], ◌∷◌, Option, Some, None, Vec, vec_len}
use Rattle.std.specs.Global.{Global}
use Rattle.std.specs.Vec.{vec_capacity}
use Rattle.record.specs.declared.record.Line.{Line}
use Rattle.record.specs.declared.record.Line.TheVariants.{Step, Log, Reply}
use Rattle.record.specs.declared.record.TurnRow.{TurnRow}
use Rattle.record.specs.declared.record.Entry.{Entry}
use Rattle.record.specs.declared.record.Finished.{Finished}

-- how many lines fit without a growth
abbrev pub room_left : Vec Line Global → ℕ
room_left list = vec_capacity list - vec_len list

-- In order, the first line in front

-- the reply, if there is one
abbrev pub reply_line : Option Finished → List Line
reply_line None = []
reply_line (Some reply) = Reply reply ∷ []

-- the entry, if there is one, and these lines after it
abbrev pub entry_line : Option Entry → List Line → List Line
entry_line None rest = rest
entry_line (Some entry) rest = Log entry ∷ rest

-- the lines of a turn: its row, its entry, its reply
abbrev pub turn_lines : TurnRow → Option Entry → Option Finished → List Line
turn_lines row entry reply = Step row ∷ entry_line entry (reply_line reply)

-- The newest line in front

-- the lines with this entry more, if there is one
abbrev pub with_entry : Option Entry → List Line → List Line
with_entry None lines = lines
with_entry (Some entry) lines = Log entry ∷ lines

-- the lines with this reply more, if there is one
abbrev pub with_reply : Option Finished → List Line → List Line
with_reply None lines = lines
with_reply (Some reply) lines = Reply reply ∷ lines

-- the lines with those of one turn more
abbrev pub with_turn : TurnRow → Option Entry → Option Finished → List Line → List Line
with_turn row entry reply lines = with_reply reply (with_entry entry (Step row ∷ lines))
