-- What the lines of a run say. Lines have the newest first here.
use Rattle.std.specs.Prelude.{ℕ, suc, Bool, true, false, if◌then◌else◌, ◌&&◌, ◌||◌, ◌==◌, not, List, [], ◌∷◌, Option, Some, None, unwrap_or, is_some}
use Rattle.histories.specs.Common.{Mode, Layout, Row as StepRow, Kind, Fill, LoadSettled, LoadInfo, LoadState, LoadMarked, LoadAllFrozen, LoadChild}
use Rattle.histories.specs.Common.{Freeze, SetFrozen, Mark, Update, Commit, Abort, Word, Node, Child, info, scx, History, Start, ◌⊳◌, value, owner}
use Rattle.arena.specs.declared.word.ScxWord.TheVariants.{Call as CallWord}
use Rattle.record.specs.declared.record.Line.{Line}
use Rattle.record.specs.declared.record.Line.TheVariants.{Step, Log, Reply}
use Rattle.record.specs.declared.record.TurnRow.{TurnRow}
use Rattle.record.specs.declared.record.TurnRow.TheVariants.{Step as Made, Idle}
use Rattle.record.specs.declared.record.Entry.{Entry}

-- the client that made a turn
abbrev pub client_of : TurnRow → ℕ
client_of (Made number row) = row.pass.0
client_of (Idle number client) = client.0

-- the number of a turn
abbrev pub number_of : TurnRow → ℕ
number_of (Made number row) = number
number_of (Idle number client) = number

-- the kind of the step of a turn, if it made one
abbrev pub kind_of : TurnRow → Option Kind
kind_of (Made number row) = Some row.kind
kind_of (Idle number client) = None

-- the place of a kind among all, which differs for different kinds
abbrev pub kind_place : Kind → ℕ
kind_place Fill = 0
kind_place LoadSettled = 1
kind_place LoadInfo = 2
kind_place LoadState = 3
kind_place LoadMarked = 4
kind_place LoadAllFrozen = 5
kind_place LoadChild = 6
kind_place Freeze = 7
kind_place SetFrozen = 8
kind_place Mark = 9
kind_place Update = 10
kind_place Commit = 11
kind_place Abort = 12

-- whether a turn made a step of this kind
abbrev pub is_of : Kind → TurnRow → Bool
is_of kind (Made number row) = kind_place row.kind == kind_place kind
is_of kind (Idle number client) = false

-- the history of the steps that the turns made
abbrev pub history : Mode → List Line → History
history mode [] = Start mode
history mode (Step (Made number row) ∷ lines) = row ⊳ history mode lines
history mode (Step (Idle number client) ∷ lines) = history mode lines
history mode (Log entry ∷ lines) = history mode lines
history mode (Reply reply ∷ lines) = history mode lines

-- how many turns there were
abbrev pub turns : List Line → ℕ
turns [] = 0
turns (Step row ∷ lines) = suc (turns lines)
turns (Log entry ∷ lines) = turns lines
turns (Reply reply ∷ lines) = turns lines

-- who made each turn, the newest in front
abbrev pub clients : List Line → List ℕ
clients [] = []
clients (Step row ∷ lines) = client_of row ∷ clients lines
clients (Log entry ∷ lines) = clients lines
clients (Reply reply ∷ lines) = clients lines

-- who made the newest turn
abbrev pub last_client : List Line → Option ℕ
last_client [] = None
last_client (Step row ∷ lines) = Some (client_of row)
last_client (Log entry ∷ lines) = last_client lines
last_client (Reply reply ∷ lines) = last_client lines

-- how many calls of a client are answered, which is the number of its next
abbrev pub answered : List Line → ℕ → ℕ
answered [] c = 0
answered (Step row ∷ lines) c = answered lines c
answered (Log entry ∷ lines) c = answered lines c
answered (Reply reply ∷ lines) c =
    if reply.client.0 == c then suc (answered lines c)
    else answered lines c

-- the number of the client's first turn since its last reply: where its call has begun
abbrev pub begin : List Line → ℕ → Option ℕ
begin [] c = None
begin (Step row ∷ lines) c =
    if client_of row == c then Some (unwrap_or (begin lines c) (number_of row))
    else begin lines c
begin (Log entry ∷ lines) c = begin lines c
begin (Reply reply ∷ lines) c = if reply.client.0 == c then None else begin lines c

-- the steps up to the start of the client's call, which is its first turn since
-- its last reply; all of them if it has made none
abbrev pub start : Mode → List Line → ℕ → History
start mode [] c = Start mode
start mode (Step row ∷ lines) c =
    if client_of row == c || is_some (begin lines c) then start mode lines c
    else history mode (Step row ∷ lines)
start mode (Log entry ∷ lines) c = start mode lines c
start mode (Reply reply ∷ lines) c =
    if reply.client.0 == c then history mode lines
    else start mode lines c

-- how many steps a client has made since its last reply
abbrev pub steps : List Line → ℕ → ℕ
steps [] c = 0
steps (Step (Made number row) ∷ lines) c =
    if row.pass.0 == c then suc (steps lines c)
    else steps lines c
steps (Step (Idle number client) ∷ lines) c = steps lines c
steps (Log entry ∷ lines) c = steps lines c
steps (Reply reply ∷ lines) c = if reply.client.0 == c then 0 else steps lines c

-- how many steps of a kind a client has made in all
abbrev pub made : List Line → ℕ → Kind → ℕ
made [] c kind = 0
made (Step row ∷ lines) c kind =
    if client_of row == c && is_of kind row then suc (made lines c kind)
    else made lines c kind
made (Log entry ∷ lines) c kind = made lines c kind
made (Reply reply ∷ lines) c kind = made lines c kind

-- how many updates are written down
abbrev pub entries : List Line → ℕ
entries [] = 0
entries (Step row ∷ lines) = entries lines
entries (Log entry ∷ lines) = suc (entries lines)
entries (Reply reply ∷ lines) = entries lines

-- The line that a winning update asks for

-- whether steps of this kind are updates
abbrev pub is_update : Kind → Bool
is_update Update = true
is_update _ = false

-- the entry that an update of this word enters, as turn `number`: of the SCX-record that the info
-- of the field's node names, its owner, and the call that its word says
abbrev pub entry_at : Layout → History → ℕ → ℕ → Word → Option Entry
entry_at lay h place number (Node n (Child side)) =
    Some
    record {
      place = place;
      step = number;
      scx = record { 0 = value h (info n.0) };
      client = record { 0 = owner lay (value h (info n.0)) };
      call = value h (scx (value h (info n.0)) CallWord);
    }
entry_at lay h place number _ = None

-- the entry that the step of a turn asks for: one if it is an update that changes its field
abbrev pub entry_of : Layout → List Line → ℕ → StepRow → Option Entry
entry_of lay lines number row =
    if is_update row.kind && not (row.before == row.after)
    then entry_at lay (history lay.mode lines) (suc (entries lines)) number row.word
    else None

-- the entry that has to follow the newest line
abbrev pub entry_owed : Layout → List Line → Option Entry
entry_owed lay (Step (Made number row) ∷ lines) = entry_of lay lines number row
entry_owed lay _ = None

-- whether this is an entry, and of an update of this client's
abbrev pub is_entry_of : Option Entry → ℕ → Bool
is_entry_of None c = false
is_entry_of (Some entry) c = entry.client.0 == c

-- the turn in which an update of the client's has won since its last reply
abbrev pub won : Layout → List Line → ℕ → Option ℕ
won lay [] c = None
won lay (Step (Made number row) ∷ lines) c =
    if is_entry_of (entry_of lay lines number row) c then Some number
    else won lay lines c
won lay (Step (Idle number client) ∷ lines) c = won lay lines c
won lay (Log entry ∷ lines) c = won lay lines c
won lay (Reply reply ∷ lines) c = if reply.client.0 == c then None else won lay lines c
