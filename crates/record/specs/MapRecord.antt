-- What the lines of a record say of the map: its calls, the log, the map after each turn. Lines
-- have the newest first here.
use Rattle.std.specs.Prelude.{ℕ, suc, Bool, if◌then◌else◌, ◌&&◌, ◌==◌, nat_le, List, [], ◌∷◌, map, Option, Some, None, slice_get}
use Rattle.ordered_map.specs.declared.pair.Pair.{Pair}
use Rattle.ordered_map.specs.OrderedMap.{MapCall, MapReply, after}
use Rattle.ordered_map.specs.Requests.{map_request}
use Rattle.ordered_map.specs.Replies.{word_pair, number_reply}
use Rattle.script.specs.declared.call.Call.{Call}
use Rattle.script.specs.declared.command.Command.{Command}
use Rattle.script.specs.declared.command.Command.TheVariants.{Map}
use Rattle.record.specs.declared.record.Line.{Line}
use Rattle.record.specs.declared.record.Line.TheVariants.{Step, Log, Reply as ReplyLine}
use Rattle.record.specs.declared.record.Entry.{Entry}
use Rattle.record.specs.declared.record.Answer.{Answer}
use Rattle.record.specs.declared.record.Answer.TheVariants.{Map as MapAnswer}
use Rattle.record.specs.Commands.{commands}

-- a command as a call of the map, if it is one
abbrev pub map_call : Option Command → Option MapCall
map_call (Some (Map request)) = Some (map_request request)
map_call _ = None

-- call j of client c, in the script, as a call of the map
abbrev pub map_call_of : List Call → ℕ → ℕ → Option MapCall
map_call_of calls c j = map_call (slice_get (commands calls c) j)

-- pairs of numbers as pairs of the map
abbrev pub number_pairs : List (ℕ × ℕ) → List Pair
number_pairs = map (word_pair (λ n. n) (λ n. n))

-- what an answer says of the map; a refusal says nothing, nor does an answer of cells
abbrev pub reply_told : Answer → Option MapReply
reply_told (MapAnswer reply) = number_reply reply
reply_told _ = None

-- the entries that were written down, the newest first
abbrev pub written_log : List Line → List Entry
written_log [] = []
written_log (Step row ∷ lines) = written_log lines
written_log (Log entry ∷ lines) = entry ∷ written_log lines
written_log (ReplyLine reply ∷ lines) = written_log lines

-- those of the turns up to m
abbrev pub entries_until : ℕ → List Entry → List Entry
entries_until m [] = []
entries_until m (e ∷ es) = if nat_le e.step m then e ∷ entries_until m es else entries_until m es

-- whether the entry is of call j of client c
abbrev pub is_of_call : ℕ → ℕ → Entry → Bool
is_of_call c j e = c == e.client.0 && j == e.call

-- how many entries call j of client c has
abbrev pub entries_of_call : ℕ → ℕ → List Entry → ℕ
entries_of_call c j [] = 0
entries_of_call c j (e ∷ es) =
    if is_of_call c j e then suc (entries_of_call c j es)
    else entries_of_call c j es

-- the map that the call leaves, if it is a call of the map
abbrev pub after_maybe : Option MapCall → List Pair → List Pair
after_maybe (Some call) m = after call m
after_maybe None m = m

-- the empty map, after the calls of these entries
abbrev pub map_of : List Call → List Entry → List Pair
map_of calls [] = []
map_of calls (e ∷ es) = after_maybe (map_call_of calls e.client.0 e.call) (map_of calls es)

-- the map after turn m
abbrev pub map_at : List Call → List Line → ℕ → List Pair
map_at calls lines m = map_of calls (entries_until m (written_log lines))
