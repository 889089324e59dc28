-- Which call waits for which.
use Rattle.std.specs.Prelude.{ℕ, zero, suc, Bool, true, if◌then◌else◌, nat_lt, List, length, Option, Some, None}
use Rattle.histories.specs.Common.{PassNo, Kind, Freeze}
use Rattle.record.specs.Common.{Call, commands}

-- how many calls a client has
abbrev pub call_count : List Call → ℕ → ℕ
call_count calls c = length (commands calls c)

-- call j of client c, if that client has one; `counts` says how many calls each has
abbrev pub call_if : (ℕ → ℕ) → ℕ → ℕ → Option (PassNo × ℕ)
call_if counts c j = if nat_lt j (counts c) then Some (record { 0 = c }, j) else None

-- If this many clients take turns, call j of a client waits for call j of the client before it;
-- the first client's waits for call j - 1 of the last client, and its first call for none.
abbrev pub in_turn : (ℕ → ℕ) → ℕ → ℕ → ℕ → Option (PassNo × ℕ)
in_turn counts clients (suc c) j = call_if counts c j
in_turn counts (suc last) zero (suc j) = call_if counts last j
in_turn counts clients c j = None

-- where the first client is held, its first call waits for the first of client 1, and no other call
-- waits
abbrev pub held_back : Bool → ℕ → ℕ → Option (PassNo × ℕ)
held_back true zero zero = Some (record { 0 = 1 }, 0)
held_back holds c j = None

-- where the first client is held in the midst of its first call, that call waits after a step of
-- kind `freeze` for the first call of client 1; after no other step a call waits
abbrev pub held_frozen : Bool → ℕ → ℕ → Kind → Option (PassNo × ℕ)
held_frozen holds c j Freeze = held_back holds c j
held_frozen holds c j kind = None
