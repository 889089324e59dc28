-- What a client knows at a moment of the run, and what a turn of it leaves.
use Rattle.std.specs.Prelude.{◌≡◌, ◌≢◌, ℕ, suc, ◌+◌, ◌^◌, ◌<◌, ◌≤◌, ◌⊎◌, ◌↔◌, Bool, true, false, List, [], ◌∷◌, length, drop, Option, Some, None, slice_get, unwrap_or, IsSome}
use Rattle.std.specs.List.{Contains}
use Rattle.histories.specs.Common.{taken_nodes, Side, Records, Layout, Row, Remaining, History, ◌⊳◌, value, Extends, plan_finalizes}
use Rattle.histories.specs.Common.{side_of, HasWon, IsWin, IsOwnNode, IsOwnScx, IsTakenNode, IsTakenScx, Call as MachineCall, IsRun}
use Rattle.arena.specs.Opening.{IsMap}
use Rattle.arena.specs.Share.{IsFull}
use Rattle.dict.specs.Calls.{call_in, share_of}
use Rattle.dict.specs.Known.{AsksFirst}
use Rattle.template.specs.Balance.{map_mode}
use Rattle.dict.specs.declared.dict.DictRun.{DictRun}
use Rattle.template.specs.Common.{AreFinished, nodes_of, IsShare, snap_at, IsAmong, update_field_index, PutRun, Snap}
use Rattle.prims.specs.Moments.{IsMoment, AreLeftAlone, HasTakenOnly}
use Rattle.prims.specs.Shares.{IsUpperEnd}
use Rattle.record.specs.Common.{HasReplied, MapCall, MapEdit, MapReply, changes_map, reply, Spells, Pair, Call, Command, Llx as LlxOf, Scx as ScxOf, Vlx as VlxOf, Set as SetOf}
use Rattle.record.specs.Common.{Map as MapOf, map_request, Request, cells_of, update_cells, update_finalize, update_field, update_value, history, answered, start, steps}
use Rattle.record.specs.Common.{won, commands, linked, reply_told, command_steps, nodes_counted, MayAnswerAtOnce, MayAnswerAfterStep, HasTakenFew, enters, IsRight, IsLastLook, HasItsEntry}
use Rattle.record.specs.declared.record.Line.{Line}
use Rattle.record.specs.declared.record.Answer.{Answer}
use Rattle.record.specs.declared.record.Answer.TheVariants.{Full}
use Rattle.player.specs.declared.run.Run.{Run}
use Rattle.player.specs.declared.run.Run.TheVariants.{Llx, Scx, Vlx, Map}
use Rattle.player.specs.declared.client.Client.{Client}
use Rattle.player.specs.declared.client.Running.{Running}
use Rattle.player.specs.declared.client.SetField.{SetField}
use Rattle.player.specs.declared.client.NextAction.{NextAction}
use Rattle.player.specs.declared.client.NextAction.TheVariants.{Finished, Answers, Asks}
use Rattle.player.specs.declared.run.Ended.{Ended}
use Rattle.player.specs.Allowed.{PlayedAllows}
use Rattle.player.specs.RunKnown.{RunIsReady, RunWaits, RunAnswers, edit_in_hand, run_mode, share_behind}
use Rattle.player.specs.RunSteps.{then_left, left_of}
use Rattle.player.specs.KeptSnaps.{AreKept, IsUnspent, kept_of}
use Rattle.record.specs.Commands.{IsNextCallAt}
use Rattle.record.specs.CommandRules.{linked_then}
use Rattle.record.specs.Answers.{HasRoom}

-- what the lines so far say to one client
pub record ClientView : Type 0 where
  pub layout : Layout
  -- how often a call may try
  pub tries : ℕ
  pub calls : List Call
  -- the steps so far
  pub past : History
  -- how many of its calls are answered
  pub answered : ℕ
  -- the steps up to the start of its call
  pub start : History
  -- how many steps it has made since its last reply
  pub steps : ℕ
  -- the turn in which an update of that call has won
  pub won : Option ℕ
  -- the moments of the snapshots that it keeps, by the number of the cell
  pub linked : ℕ → Option History

-- what these lines, the newest first, say to client c
abbrev pub client_view : Layout → ℕ → List Call → List Line → ℕ → ClientView
client_view lay tries calls lines c = record { layout = lay; tries = tries; calls = calls; past = history lay.mode lines; answered = answered lines c; start = start lay.mode lines c; steps = steps lines c; won = won lay lines c; linked = linked calls lay.mode lines c }

-- how many steps a call may make where this many nodes are taken
abbrev pub call_steps : ClientView → Command → ℕ → ℕ
call_steps v command taken = command_steps command v.tries (nodes_counted v.layout.mode taken)

-- the steps so far are a lawful run, and begin only what the mode allows
abbrev pub IsSound : ClientView → Type 0
IsSound v = IsRun PlayedAllows v.layout v.past

-- What a client has

-- what is left of its share, where it holds that; while a call of the map runs, that has it
abbrev pub held : Client → Remaining
held c = unwrap_or c.share record { next_node = 0; nodes = 0; next_scx = 0; scx = 0 }

-- what an SCX has in hand: a fresh node, an SCX-record, and snapshots
pub record Hand : Type 0 where
  pub node : ℕ
  pub scx : ℕ
  pub snaps : List Snap

-- a client without an SCX has none in hand: these are the records that it will take next
abbrev pub no_hand : Remaining → Hand
no_hand left = record { node = left.next_node; scx = left.next_scx; snaps = [] }

-- what the machine that runs has in hand, where this is left of the share
abbrev pub in_hand : Remaining → Run → Hand
in_hand left (Scx m) = record { node = m.scx.update.fresh.0; scx = m.scx.scx.0; snaps = m.scx.update.snaps }
in_hand left _ = no_hand left

-- an SCX has the newest records of the share in hand: those taken last
abbrev pub HasNewest : Remaining → Run → Type 0
HasNewest left (Scx m) = (left.next_node ≡ suc m.scx.update.fresh.0) × (left.next_scx ≡ suc m.scx.scx.0) × (m.scx.scx.0 ≢ 0)
HasNewest left _ = Unit {0}

-- an LLX of cell n, with what follows it, is that of the command
abbrev pub IsLlxOf : Command → ℕ → Option SetField → Type 0
IsLlxOf (LlxOf cell) n None = n ≡ cell
IsLlxOf (SetOf field value) n (Some put) = (n ≡ field.0) × (put.side ≡ field.1) × (put.value ≡ value)
IsLlxOf _ n _ = ⊥

-- an SCX of the client's call of this number covers these nodes, finalizes those in the second
-- list, and puts a node of this value into that field
pub record IsPutOf (m : PutRun) (number : ℕ) (nodes removed : List ℕ) (field : ℕ × Side) (x : ℕ) : Type 0 where
  pub called : m.scx.call ≡ number
  pub covers : nodes_of m.scx.update.snaps ≡ nodes
  pub finalizes : (j : ℕ) → j < length m.scx.update.snaps → (plan_finalizes m.scx.update.plan.0 j ≡ true) ↔ Contains removed (snap_at m.scx.update.snaps j).node.0
  pub node : (snap_at m.scx.update.snaps (update_field_index m.scx.update)).node.0 ≡ field.0
  pub side : side_of m.scx.update.plan.0 ≡ field.1
  pub value : m.value ≡ x

-- an SCX of the client's call of this number, with what follows it, is that of the command
abbrev pub IsScxOf : Command → ℕ → PutRun → Option SetField → Type 0
IsScxOf (ScxOf update) number m None = IsPutOf m number (update_cells update) (update_finalize update) (update_field update) (update_value update)
IsScxOf (SetOf field x) number m None = IsPutOf m number (field.0 ∷ []) [] field x
IsScxOf _ number m _ = ⊥

-- a VLX over these snapshots, with what follows it, is that of the command
abbrev pub IsVlxOf : Command → List Snap → Option SetField → Type 0
IsVlxOf (VlxOf cells) snaps None = nodes_of snaps ≡ cells_of cells
IsVlxOf _ snaps _ = ⊥

-- the machine of a call of the map, with nothing to do after it, is that of the command; it asks
-- for a step before it answers
pub record IsMapOf (command : Command) (m : DictRun ℕ ℕ) (then : Option SetField) : Type 0 where
  pub request : Request ℕ ℕ
  pub is : command ≡ MapOf request
  pub called : call_in m.run ≡ map_request request
  pub asks : AsksFirst m.run
  pub alone : then ≡ None

-- the machine, with what follows it, is that of the command in the client's call of this number
abbrev pub IsMachineOf : Command → ℕ → Run → Option SetField → Type 0
IsMachineOf command number (Llx m) then = (m.node.0 ≤ 8) × IsLlxOf command m.node.0 then
IsMachineOf command number (Scx m) then = IsScxOf command number m then
IsMachineOf command number (Vlx m) then = IsVlxOf command m.snaps then
IsMachineOf command number (Map m) then = IsMapOf command m then

-- a client between two turns, except its machine: its next call is the first that is not answered
pub record IsClientState (v : ClientView) (c : Client) (hand : Hand) : Type 0 where
  pub is_pass : c.pass.0 < v.layout.passes
  pub tries : c.tries ≡ v.tries
  -- it knows whether its map is a trie
  pub trie : IsMap v.layout.mode → v.layout.mode ≡ map_mode c.trie
  pub number : c.number ≡ v.answered
  pub place : IsNextCallAt v.calls c.pass.0 (drop c.number (commands v.calls c.pass.0)) c.next
  -- what it keeps are snapshots that the lines say
  pub kept : AreKept v.layout c.pass.0 v.past v.linked c.kept
  -- of other cells the lines say none, but of those that it has in hand
  pub unkept : (n : ℕ) → n ≤ 8 → kept_of c.kept n ≡ None → IsAmong hand.snaps n ⊎ (v.linked n ≡ None)
  pub dropped : (n : ℕ) → IsAmong hand.snaps n → kept_of c.kept n ≡ None
  -- of a map it keeps none
  pub free : IsMap v.layout.mode → (n : ℕ) → kept_of c.kept n ≡ None

-- a client that holds its share
pub record HoldsShare (v : ClientView) (c : Client) (hand : Hand) : Type 0 where
  pub some : IsSome c.share
  -- its share is untouched from what it has in hand on
  pub share : IsShare v.layout v.past c.pass.0 (held c) hand.node hand.scx
  -- of its pass's names it has all from there on
  pub upper : IsUpperEnd v.layout c.pass.0 (held c)
  -- the SCX-records that it has taken are finished, but perhaps the one in hand
  pub over : AreFinished v.layout c.pass.0 hand.scx v.past

-- it does while a machine runs, except for a call of the map, which has the share, whose upper end
-- that is, and says itself what is left of it
abbrev pub Holds : ClientView → Client → Run → Type 0
Holds v c (Map m) = IsUpperEnd v.layout c.pass.0 (share_of m.run)
Holds v c run = HoldsShare v c (in_hand (held c) run)

-- the edit of the map that a machine which runs has in hand, if one runs that has
abbrev pub running_edit : Option Running → Option MapEdit
running_edit (Some running) = edit_in_hand running.run
running_edit None = None

-- that a client's machine has in hand, if there is such a client
abbrev pub client_edit : Option Client → Option MapEdit
client_edit (Some c) = running_edit c.running
client_edit None = None

-- no machine of the client runs, and it has nothing in hand
pub record Rests (v : ClientView) (c : Client) : Type 0 where
  pub stands : IsClientState v c (no_hand (held c))
  pub holds : HoldsShare v c (no_hand (held c))
  pub none : c.running ≡ None

-- the client's next command: the first that is not answered
abbrev pub command_of : ClientView → Client → Option Command
command_of v c = slice_get (commands v.calls c.pass.0) v.answered

-- the call of the client's machine that has started at this moment
abbrev pub machine_call : (v : ClientView) (c : Client) → c.pass.0 < v.layout.passes → History → MachineCall
machine_call v c is_pass start = record { layout = v.layout; pass = c.pass.0; is_pass = is_pass; number = c.number; start = start }

-- where a machine starts: an LLX and a VLX at the start of the call, an SCX there or later
abbrev pub IsStart : Run → History → History → Type 0
IsStart (Scx m) start begun = Extends start begun
IsStart _ start begun = start ≡ begun

-- the snapshots over which a machine runs
abbrev pub snaps_of : Run → List Snap
snaps_of (Llx m) = []
snaps_of (Scx m) = m.scx.update.snaps
snaps_of (Vlx m) = m.snaps
snaps_of (Map m) = []

-- the moment is that of the snapshot of node n: for a `set` one of the call itself, else that of
-- the snapshot which the client keeps
abbrev pub IsSource : ClientView → ℕ → Command → ℕ → History → Type 0
IsSource v c (SetOf field x) n moment = IsLastLook c v.past v.start moment n
IsSource v c _ n moment = v.linked n ≡ Some moment

-- the snapshot has a moment: at it the node was as
-- found, and it is the one that the command uses
pub record HasMoment (v : ClientView) (c : ℕ) (command : Command) (snap : Snap) : Type 0 where
  pub moment : History
  pub found : IsMoment v.layout v.past snap moment
  pub source : IsSource v c command snap.node.0 moment

-- each of these snapshots has its moment
abbrev pub HaveMoments : ClientView → ℕ → Command → List Snap → Type 0
HaveMoments v c command snaps = (i : ℕ) → i < length snaps → HasMoment v c command (snap_at snaps i)

-- an update of the call has won if the update of the
-- SCX-record s has, which is of the pass c's share
pub record IsWonAs (v : ClientView) (c s : ℕ) : Type 0 where
  pub own : IsOwnScx v.layout c s
  pub yes : HasWon v.past s → (turn : ℕ) × (v.won ≡ Some turn)
  pub no : ¬ HasWon v.past s → v.won ≡ None

-- the row has made an update of the pass c win, in the call that runs
pub record IsOwnWin (v : ClientView) (c : ℕ) (row : Row) (before : History) (s : ℕ) : Type 0 where
  pub within : Extends v.past (row ⊳ before)
  pub since : Extends before v.start
  pub wins : IsWin before row s
  pub own : IsOwnScx v.layout c s

-- an update of the call has won if some row has made one of the pass c win, and only then
pub record IsWonSince (v : ClientView) (c : ℕ) : Type 0 where
  pub yes : (row : Row) (before : History) (s : ℕ) → IsOwnWin v c row before s → (turn : ℕ) × (v.won ≡ Some turn)
  pub no : (v.won ≡ None) ⊎ ((row : Row) × (before : History) × (s : ℕ) × IsOwnWin v c row before s)

-- an update of the call has won if that of its machine's SCX-record has; none without an SCX. A
-- call of the map may have had many
abbrev pub IsWonBy : ClientView → ℕ → Run → Type 0
IsWonBy v c (Scx m) = IsWonAs v c m.scx.scx.0
IsWonBy v c (Map m) = IsWonSince v c
IsWonBy v c _ = v.won ≡ None

-- since its call's start the client has taken only what it has in hand
pub record HasTaken (v : ClientView) (c : ℕ) (hand : Hand) : Type 0 where
  pub nodes : (n : ℕ) → IsOwnNode v.layout c n → n ≢ hand.node → ¬ IsTakenNode v.start n → ¬ IsTakenNode v.past n
  pub scx_records : HasTakenOnly v.layout c hand.scx v.start v.past

-- a machine has taken what it has in hand alone; a call of the map says by itself what it has taken
abbrev pub TakesInHand : ClientView → Client → Run → Type 0
TakesInHand v c (Map m) = Unit {0}
TakesInHand v c run = HasTaken v c.pass.0 (in_hand (held c) run)

-- at the call's start the share had room for an SCX that runs, and its SCX-record was not taken
abbrev pub IsRoomy : ClientView → ℕ → Run → Type 0
IsRoomy v c (Scx m) = HasRoom v.layout c v.start × ¬ IsTakenScx v.start m.scx.scx.0
IsRoomy v c _ = Unit {0}

-- a call of the map may make this many tries
abbrev pub MayTryAll : Run → ℕ → Type 0
MayTryAll (Map m) tries = m.tries ≡ tries
MayTryAll _ tries = Unit {0}

-- a machine runs for the client's next call, over snapshots that
-- the client had left alone as the machine started
pub record Works (v : ClientView) (c : Client) (run : Run) (then : Option SetField) : Type 0 where
  pub mode : v.layout.mode ≡ run_mode run
  pub stands : IsClientState v c (in_hand (held c) run)
  pub holds : Holds v c run
  pub newest : HasNewest (held c) run
  pub command : Command
  pub is : command_of v c ≡ Some command
  pub run_of : IsMachineOf command c.number run then
  pub limit : MayTryAll run v.tries
  pub is_pass : c.pass.0 < v.layout.passes
  pub start : History
  -- the machine has started at the start of the call or later
  pub since : Extends v.past start
  pub begun : IsStart run start v.start
  pub moments : HaveMoments v c.pass.0 command (snaps_of run)
  pub alone : AreLeftAlone v.layout c.pass.0 start (snaps_of run)
  pub room : IsRoomy v c.pass.0 run
  pub took : TakesInHand v c run
  pub won : IsWonBy v c.pass.0 run
  -- an update of the call has won in its first turn or later
  pub late : (turn : ℕ) → v.won ≡ Some turn → c.begin ≤ turn

-- Below, `few` says: the steps that the call has made, with those that the machine may still ask
-- for and those of what follows it, are no more than the call may make, however many nodes are
-- taken. A step that the machine waits for counts too.

-- the machine has not asked for a step yet
pub record Starts (v : ClientView) (c : Client) (run : Run) (then : Option SetField) : Type 0 where
  pub works : Works v c run then
  pub none : c.running ≡ None
  pub ready : RunIsReady run (machine_call v c works.is_pass works.start) v.past None
  pub few : (taken : ℕ) → length (taken_nodes v.past) ≤ taken → v.steps + left_of run then taken ≤ call_steps v works.command taken

-- the machine has answered
pub record Answered (v : ClientView) (c : Client) (run : Run) (then : Option SetField) (ended : Ended) : Type 0 where
  pub works : Works v c run then
  pub none : c.running ≡ None
  pub answers : RunAnswers run (machine_call v c works.is_pass works.start) v.past ended
  -- the share is the client's again
  pub back : c.share ≡ share_behind run c.share
  pub few : (taken : ℕ) → length (taken_nodes v.past) ≤ taken → v.steps + then_left then ≤ call_steps v works.command taken

-- the machine waits for a step
pub record WaitsForStep (v : ClientView) (c : Client) (running : Running) : Type 0 where
  pub works : Works v c running.run running.then
  pub waits : RunWaits running.run (machine_call v c works.is_pass works.start) v.past running.step
  pub few : (taken : ℕ) → length (taken_nodes v.past) ≤ taken → suc (v.steps + left_of running.run running.then taken) ≤ call_steps v works.command taken

-- the machine may be called with what its step has found
pub record Hears (v : ClientView) (c : Client) (running : Running) (found : ℕ) : Type 0 where
  pub works : Works v c running.run running.then
  pub ready : RunIsReady running.run (machine_call v c works.is_pass works.start) v.past (Some found)
  pub few : (taken : ℕ) → length (taken_nodes v.past) ≤ taken → v.steps + left_of running.run running.then taken ≤ call_steps v works.command taken

-- the client's next call has not begun
pub record IsNextCallUnbegun (v : ClientView) (began : Option ℕ) : Type 0 where
  pub none : began ≡ None
  pub start : v.start ≡ v.past
  pub steps : v.steps ≡ 0
  pub won : v.won ≡ None

-- a client between two turns, whose first turn since its last reply was `began`: it rests, or waits
-- for a step of the call that began then
abbrev pub IsClient : ClientView → Option ℕ → Client → Type 0
IsClient v began c = (Rests v c × ((c.next ≡ None) ⊎ IsNextCallUnbegun v began)) ⊎ ((r : Running) × (c.running ≡ Some r) × WaitsForStep v c r × (began ≡ Some c.begin))

-- What its turns leave

-- it is the same client at the same call
pub record IsSameCall (old new : Client) : Type 0 where
  pub pass : new.pass ≡ old.pass
  pub number : new.number ≡ old.number
  pub next : new.next ≡ old.next

-- the client waits for a step, and its call has begun or continued
pub record GoesOn (v : ClientView) (old new : Client) : Type 0 where
  pub same : IsSameCall old new
  pub begin : new.begin ≡ old.begin
  pub running : Running
  pub is : new.running ≡ Some running
  pub waits : WaitsForStep v new running

-- the client's next call answers without a step, and the answer is right
pub record Refuses (v : ClientView) (c : Client) (answer : Answer) : Type 0 where
  pub rests : Rests v c
  pub command : Command
  pub is : command_of v c ≡ Some command
  pub refusal : MayAnswerAtOnce command answer
  pub right : IsRight v.layout v.tries c.pass.0 v.past v.start v.linked command answer
  pub unwon : v.won ≡ None
  pub took : HasTakenFew v.layout v.tries c.pass.0 v.past v.start command

-- what the lines say of the client's snapshots once its call is answered so
abbrev pub linked_by : ClientView → Command → Answer → ℕ → Option History
linked_by v command answer n = linked_then (Some command) answer v.past n (v.linked n)

-- the call has changed the map by one row, the update of an SCX-record of its own, whoever made it;
-- just before that the map replies this to it
pub record IsToldChange (v : ClientView) (c : ℕ) (call : MapCall) (told : MapReply) : Type 0 where
  pub row : Row
  pub before : History
  pub scx : ℕ
  pub win : IsOwnWin v c row before scx
  pub replies : (map : List Pair) → Spells v.layout (value before) map → reply call map ≡ told

-- the map has replied this to it in the call's own time; or it replies so whatever it has
abbrev pub IsToldReading : ClientView → MapCall → MapReply → Type 0
IsToldReading v call told = HasReplied v.layout v.past v.start call told ⊎ ((m : List Pair) → reply call m ≡ told)

-- what it answers is that of a change, or of a reading
abbrev pub IsToldBy : Bool → ClientView → ℕ → MapCall → MapReply → Type 0
IsToldBy true v c call told = IsToldChange v c call told
IsToldBy false v c call told = IsToldReading v call told

-- which of the two it is follows from the call and its answer; a refusal answers nothing
abbrev pub IsToldOfMap : ClientView → ℕ → MapCall → Option MapReply → Type 0
IsToldOfMap v c call None = Unit {0}
IsToldOfMap v c call (Some told) = IsToldBy (changes_map call told) v c call told

-- what a call of the map answers is right
abbrev pub AnswersRight : ClientView → ℕ → Command → Answer → Type 0
AnswersRight v c (MapOf request) answer = IsToldOfMap v c (map_request request) (reply_told answer)
AnswersRight v c command answer = Unit {0}

-- the client's call is answered, and the answer is right
pub record EndsCall (v : ClientView) (old new : Client) (answer : Answer) : Type 0 where
  pub same : IsSameCall old new
  pub begin : new.begin ≡ old.begin
  pub command : Command
  pub is : command_of v new ≡ Some command
  pub rests : Rests (record v { linked = linked_by v command answer }) new
  pub answers : MayAnswerAfterStep command answer
  pub right : IsRight v.layout v.tries new.pass.0 v.past v.start v.linked command answer
  pub entry : HasItsEntry (enters command answer) v.won
  pub tells : AnswersRight v new.pass.0 command answer
  pub took : HasTakenFew v.layout v.tries new.pass.0 v.past v.start command
  pub late : (turn : ℕ) → v.won ≡ Some turn → new.begin ≤ turn

-- what became of a client that got what its step
-- found: it asks for another, or its call is answered
abbrev pub HasBeenTold : ClientView → Client → Client → Option Answer → Type 0
HasBeenTold v old new None = GoesOn v old new
HasBeenTold v old new (Some answer) = EndsCall v old new answer

-- how a client is once its turn has come: a call that it begins begins at this turn
abbrev pub IsNextAction : ClientView → ℕ → Client → Client → NextAction → Type 0
IsNextAction v turn old new Finished = (new ≡ old) × (old.next ≡ None) × Rests v old
IsNextAction v turn old new (Answers answer) = IsSameCall old new × Rests v old × Refuses v new answer × (new.begin ≡ turn)
IsNextAction v turn old new (Asks step) = IsSameCall old new × (r : Running) × (new.running ≡ Some r) × (r.step ≡ step) × WaitsForStep v new r × ((Rests v old × (new.begin ≡ turn)) ⊎ ((old.running ≢ None) × (new.begin ≡ old.begin)))

-- A call begins

-- a client with these unspent snapshots may begin an SCX over them; `linked` is what the lines will
-- say of its snapshots if it is refused
pub record CanPut (v : ClientView) (linked : ℕ → Option History) (c : Client) (snaps : List Snap) (removed : List ℕ) (field : ℕ × Side) (x : ℕ) : Type 0 where
  pub mode : v.layout.mode ≡ Records
  pub rests : Rests (record v { linked = linked }) c
  pub others : (n : ℕ) → (IsAmong snaps n → ⊥) → linked n ≡ v.linked n
  pub since : Extends v.past v.start
  pub unwon : v.won ≡ None
  pub unspent : (i : ℕ) → i < length snaps → (moment : History) × IsUnspent v.layout c.pass.0 v.past (snap_at snaps i) moment
  pub command : Command
  pub is : command_of v c ≡ Some command
  pub moments : HaveMoments v c.pass.0 command snaps
  pub took : HasTaken v c.pass.0 (no_hand (held c))
  -- the client's command is one that such an SCX serves
  pub serves : (m : PutRun) → IsPutOf m c.number (nodes_of snaps) removed field x → IsScxOf command c.number m None
  -- it may make as many steps more
  pub few : (taken : ℕ) → v.steps + 40 ≤ call_steps v command taken

-- the answer names what the share has none of
abbrev pub TellsFull : Remaining → Answer → Type 0
TellsFull share (Full what left) = IsFull share record { what = what; left = left }
TellsFull share _ = ⊥

-- an SCX begins, or the share has too little for it
abbrev pub Puts : ClientView → (ℕ → Option History) → Client → Client → Option Answer → Type 0
Puts v linked old new None = GoesOn v old new
Puts v linked old new (Some answer) = IsSameCall old new × (new.begin ≡ old.begin) × Rests (record v { linked = linked }) new × TellsFull (held new) answer

-- a call begins at this turn, or is refused
abbrev pub BeginsOrRefuses : ClientView → ℕ → Client → Client → Option Answer → Type 0
BeginsOrRefuses v turn old new None = IsSameCall old new × (new.begin ≡ turn) × ((r : Running) × (new.running ≡ Some r) × WaitsForStep v new r)
BeginsOrRefuses v turn old new (Some answer) = IsSameCall old new × (new.begin ≡ turn) × Refuses v new answer

-- the client is at its next call, the one after the call that has ended
pub record IsAtNextCall (calls : List Call) (old new : Client) : Type 0 where
  pub same : new ≡ record old { next = new.next; number = new.number }
  pub none : old.next ≡ None → (new.next ≡ None) × (new.number ≡ old.number)
  pub next : (at : ℕ) → old.next ≡ Some at → suc at < 2 ^ 64 → IsNextCallAt calls old.pass.0 (commands (drop (suc at) calls) old.pass.0) new.next
  pub number : (at : ℕ) → old.next ≡ Some at → suc old.number < 2 ^ 64 → new.number ≡ suc old.number
