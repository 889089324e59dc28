-- The turn of a client that makes a step.
use Rattle.std.proofs.Common.{◌≡◌, ℕ, suc, true, ◌≤◌, ◌≢◌, ◌⊎◌, inl, inr, ⊎_elim, List, ◌∷◌, set, length, Option, Some, None, MatchOption, IsSome, All, get_or, slice_get, unwrap_or, refl, sym, ◌∙◌, ap, subst, eq-eqb, arith, [], IfSome}
use native.Mathlib.Decide.{ℕ_discrete}
use Rattle.histories.specs.Common.{IsOwnScx, Layout, PassNo, Row, Step as Ask, Kind, Word, word_after, Load, Store, Exchange, IsWord}
use Rattle.histories.specs.Common.{Contents, word_at, IsChanged, ◌⊳◌, value, IsLawful, IsWin, IsRun, IsTold, taken_nodes}
use Rattle.arena.specs.Opening.{is_map, IsMap}
use Rattle.arena.specs.declared.step.Access.{Access}
use Rattle.histories.proofs.Lemmas.{UpdateWins, facts_before, lawful_row, update_win}
use Rattle.player.specs.Allowed.{PlayedAllows}
use Rattle.ordered_map.specs.FillOrder.{IsFillInOrder}
use Rattle.player.proofs.InOrder.{run_in_order}
use Rattle.record.specs.Common.{Pair, MapCall, MapEdit, edit_key, edit_of, get, reply, value_left, map_request, map_call, map_call_of, map_of, written_log}
use Rattle.record.specs.Common.{AreLines, Map, Call, Command, history, turns, answered, clients, begin, start, won, last_client, entry_of, entry_owed}
use Rattle.record.specs.Common.{commands, MayAnswerAfterStep, HasTakenFew, enters, IsRight, IsEntryFor, linked, IsFitting, IsReplyOwed, IsWinOf}
use Rattle.linearization.specs.declared.places.Change.{Change}
use Rattle.linearization.specs.declared.places.Places.{Places}
use Rattle.linearization.specs.Changed.{changed_key}
use Rattle.linearization.specs.Places.{changes, Knows, HoldsOfKey}
use Rattle.linearization.specs.Entries.{AreEntries, AreUpTo, IsChangeBy, IsChangeByEdit}
use Rattle.linearization.proofs.Lemmas.{knows_told, map_now, spelled}
use Rattle.record.specs.declared.record.Line.{Line}
use Rattle.record.specs.declared.record.Line.TheVariants.{Step, Log, Reply as ReplyLine}
use Rattle.record.specs.declared.record.TurnRow.TheVariants.{Step as Made, Idle}
use Rattle.record.specs.declared.record.Finished.{Finished}
use Rattle.record.specs.declared.record.Entry.{Entry}
use Rattle.record.specs.declared.record.Answer.{Answer}
use Rattle.player.specs.declared.client.Client.{Client}
use Rattle.player.specs.declared.client.Running.{Running}
use Rattle.player.specs.declared.interleaving.Interleaving.{Interleaving}
use Rattle.player.specs.Lines.{with_entry}
use Rattle.player.specs.Player.{ScriptView, script_view}
use Rattle.player.proofs.Editing.{run_says}
use Rattle.player.proofs.Placing.{done_enters}
use Rattle.player.specs.RunKnown.{edit_in_hand}
use Rattle.player.specs.ClientView.{ClientView, client_edit, client_view, running_edit, AnswersRight, IsSound, Hears, IsClient, GoesOn, EndsCall, WaitsForStep, machine_call}
use Rattle.player.specs.BetweenTurns.{IsLawfulSoFar, IsTurnOf, AreBetweenTurns, KnowsCounts, IsBetweenTurns, IsStepAsked, IsEnd, AreWins, ArePlaces, IsAtEdit, IsOwned, owners_edit}
use Rattle.player.proofs.Views.{own_row, step_sound, hears}
use Rattle.player.proofs.Middles.{IsOver, others_step, others_log, so_far_same, step_made, turn_changed, turn_ends, replied}
use Rattle.player.proofs.MayMakes.{may_make}
use Rattle.record.proofs.Lemmas.{begin_within, log_step, get_there, map_calls}
use Rattle.player.proofs.EachCall.{edit_of_key}
use Rattle.player.proofs.Keys.{command_key, some_edit}
use Rattle.player.proofs.MapCalls.{map_run}
use Rattle.player.proofs.Winners.{IsEntryOfWin, entry_wins, tells_won, win_enters}
use Rattle.player.proofs.Entered.{IsEditOfCall, IsEntryFrom, edit_entered, entry_by_others, entry_by_own, in_hand_map, rest_wins_not}

-- the client that makes the turn is about to hear what its step found; turn number `number` has
-- been written down in full
pub record IsHeard (lay : Layout) (tries : ℕ) (calls : List Call) (words : Contents) (all : List Client) (lines : List Line) (c : Client) (q : Running) (found number : ℕ) : Type 0 where
  pub turn : IsTurnOf lay tries calls words all lines c
  pub told : Hears (client_view lay tries calls lines c.pass.0) c q found
  pub runs : c.running ≡ Some q
  pub began : begin lines c.pass.0 ≡ Some c.begin
  pub last : last_client lines ≡ Some c.pass.0
  pub entry : entry_owed lay lines ≡ None
  pub none_owed : ¬ IsReplyOwed calls lines
  pub fits : (command : Command) (answer : Answer) → MayAnswerAfterStep command answer → IsFitting lines command answer
  pub in_turn : number ≡ turns lines

-- a machine may get what its step found
told_all : (access : Access) (v : ℕ) → IsTold access v v
told_all Load v = refl
told_all (Store new) v = tt
told_all (Exchange expected new) v = refl

-- the first turn of the call is this, or was before
begun_at : (lines : List Line) (number : ℕ) (c : Client) → ((begin lines c.pass.0 ≡ None) × (c.begin ≡ number)) ⊎ (begin lines c.pass.0 ≡ Some c.begin) → unwrap_or (begin lines c.pass.0) number ≡ c.begin
begun_at lines number c (inl (e, b)) = rw (e, b) refl
begun_at lines number c (inr e) = rw e refl

-- equal parts make equal rows
row_same : (pass : PassNo) (c call call' : ℕ) (kind : Kind) (word : Word) (before before' after after' : ℕ) → pass.0 ≡ c → call ≡ call' → before ≡ before' → after ≡ after' → (let r : Row = record { pass = pass; call = call; kind = kind; word = word; before = before; after = after } in r) ≡ record { pass = record { 0 = c }; call = call'; kind = kind; word = word; before = before'; after = after' }
row_same pass c call call' kind word before before' after after' p k b a = rw (k, b, a) (ap (λ (n : ℕ). let r : Row = record { pass = record { 0 = n }; call = call'; kind = kind; word = word; before = before'; after = after' } in r) p)

-- the change that an edit makes in a turn
abbrev change_of : ℕ → MapEdit → Change
change_of turn edit = record { turn = turn; key = edit_key edit; value = value_left edit }

some_entry : (a b : Entry) → Some a ≡ Some b → a ≡ b
some_entry a b e = cc

-- it is that of a call whose reply, on the map just before, says that it has made the edit
changes_so : (of : MapCall) (edit : MapEdit) (turn : ℕ) (map : List Pair) → edit_of of (reply of map) ≡ Some edit → IsChangeBy (Some of) map (change_of turn edit)
changes_so of edit turn map e = subst (λ (o : Option MapEdit). IsChangeByEdit o (change_of turn edit)) (sym e) (refl, refl)

-- the entries of a record are of turns so far
up_to : (lay : Layout) (tries : ℕ) (calls : List Call) (lines : List Line) (turn : ℕ) → AreLines lay tries calls lines → turns lines ≤ turn → AreUpTo turn (written_log lines)
unfolding AreLines
up_to lay tries calls [] turn x i = tt
up_to lay tries calls (Step row ∷ lines) turn x i = up_to lay tries calls lines turn x.0 (omega (arith, i))
up_to lay tries calls (ReplyLine reply ∷ lines) turn x i = up_to lay tries calls lines turn x.0 i
up_to lay tries calls (Log e ∷ Step (Made n row) ∷ lines) turn x i =
    let s : e.step ≡ suc (turns lines) = log_step lay tries calls (Step (Made n row) ∷ lines) e x.0 x.1 in
    (omega (arith, s, i), up_to lay tries calls lines turn x.0.0 (omega (arith, i)))
up_to lay tries calls (Log e ∷ Step (Idle n client) ∷ lines) turn x i = absurd x.1
up_to lay tries calls (Log e ∷ Log d ∷ lines) turn x i = absurd x.1
up_to lay tries calls (Log e ∷ ReplyLine reply ∷ lines) turn x i = absurd x.1
up_to lay tries calls (Log e ∷ []) turn x i = absurd x.1

module _ (p : Interleaving) (lines : List Line) (i number : ℕ) (step : Ask) (a : IsStepAsked p lines i number step) where
  abbrev lay : Layout
  lay = p.script.layout

  abbrev tries : ℕ
  tries = p.script.limits.tries

  abbrev calls : List Call
  calls = p.script.calls.items

  abbrev v : ClientView
  v = client_view lay tries calls lines a.client.pass.0

  abbrev made : Row
  made = own_row v a.client a.running.step

  -- the step continues the run
  sound : IsRun PlayedAllows lay (made ⊳ history lay.mode lines)
  sound = step_sound v a.client a.running a.turn.so_far.sound a.waits v.won

  lawful : IsLawful lay (history lay.mode lines) made
  lawful = lawful_row lay (history lay.mode lines) made sound.lawful

  -- the client has its place among the clients
  pub asked_there : slice_get p.clients.items i ≡ Some a.client
  asked_there = subst (λ (k : ℕ). slice_get p.clients.items k ≡ Some a.client) a.is a.turn.own

  -- it is on a word of the table
  pub asked_word : IsWord p.words.layout step.word
  asked_word = rw (a.turn.so_far.layout, sym a.asks) lawful.word

  -- and fills in order
  in_order : IsMap lay.mode → IsFillInOrder (history lay.mode lines) made
  in_order map = run_in_order a.running.run _ (history lay.mode lines) a.running.step (sym (ap is_map a.waits.works.mode) ∙ map) (a.turn.so_far.filled map) a.waits.waits

  pub asked_made : (words : Contents) → IsChanged p.words words made.word made.after → IsTurnOf lay tries calls words p.clients.items (Step (Made number made) ∷ lines) a.client
  asked_made words changed = record {
    so_far = step_made lay tries calls p.words words lines number made changed sound (a.settled, record { in_turn = a.in_turn; lawful = lawful; call = a.waits.works.stands.number; command = a.waits.works.command; is = a.waits.works.is; few = let few = a.waits.few (length (taken_nodes (history lay.mode lines))) in omega arith; may = may_make a.waits.works.command a.client.number a.running.run a.running.then _ _ a.running.step a.waits.works.run_of a.waits.waits; says = λ s kind word. run_says a.waits.works.command a.running.run a.running.then (machine_call v a.client a.waits.works.is_pass a.waits.works.start) _ a.running.step s _ a.waits.works.run_of a.waits.waits kind word }) in_order a.turn.so_far;
    others = others_step lay tries calls p.clients.items lines a.client.pass.0 number made a.turn.so_far.sound sound refl a.in_turn a.turn.so_far.in_order a.turn.others;
    own = a.turn.own;
  }

  asked_begun : begin (Step (Made number made) ∷ lines) a.client.pass.0 ≡ Some a.client.begin
  asked_begun = rw (eq-eqb a.client.pass.0 a.client.pass.0 refl) (ap (λ (k : ℕ). Some k) (begun_at lines number a.client a.began))

  -- what the player has found, and left there
  asked_value : word_at p.words step.word ≡ value (history lay.mode lines) a.running.step.word
  asked_value = subst (λ (s : Ask). word_at p.words s.word ≡ value (history lay.mode lines) a.running.step.word) a.asks (a.turn.so_far.holds a.running.step.word lawful.word)

  pub asked_changed : (words : Contents) (found : ℕ) → found ≡ word_at p.words step.word → IsChanged p.words words step.word (word_after step.access found) → IsChanged p.words words made.word made.after
  asked_changed words found e x =
      let y : IsChanged p.words words step.word (word_after step.access made.before) = rw (sym asked_value, sym e) x in
      subst (λ (s : Ask). IsChanged p.words words s.word (word_after s.access made.before)) (sym a.asks) y

  -- the row that it writes down is that of the client's step
  pub asked_row : (pass : PassNo) (call found after : ℕ) → pass.0 ≡ i → call ≡ a.client.number → found ≡ word_at p.words step.word → after ≡ word_after step.access found → (let r : Row = record { pass = pass; call = call; kind = step.kind; word = step.word; before = found; after = after } in r) ≡ made
  asked_row pass call found after e n f g =
      subst (λ (s : Ask). (let r : Row = record { pass = pass; call = call; kind = s.kind; word = s.word; before = found; after = after } in r) ≡ made) a.asks
      (row_same pass a.client.pass.0 call a.client.number a.running.step.kind a.running.step.word found made.before after made.after (e ∙ sym a.is) n (f ∙ asked_value)
      (subst (λ (s : Ask). after ≡ word_after s.access found) (sym a.asks) g ∙ ap (λ (k : ℕ). word_after a.running.step.access k) (f ∙ asked_value)))

  -- its call has begun in this turn, or before
  pub begun_before : a.client.begin ≤ number
  begun_before = ⊎_elim (λ x. let e = x.1 in omega arith) (λ e. let i = begin_within lay tries calls lines a.client.pass.0 a.client.begin a.turn.so_far.in_order e in let n = a.in_turn in omega arith) a.began

  -- what the entry of the step is to say, where its owner has this in hand
  win_of : (entry : Entry) (s : ℕ) → IsEntryOfWin lay (history lay.mode lines) made entry s → (c : Client) → c.pass.0 ≡ entry.client.0 → IsEntryFrom (client_view lay tries calls lines entry.client.0) c made s → (made.pass.0 ≢ entry.client.0 → IsSome (begin lines entry.client.0)) → IsWinOf lay calls lines made entry
  win_of entry s w c is x begun = record {
    begun = begun;
    wins = subst (λ (k : ℕ). IsWin (history lay.mode lines) made k) (sym w.scx_is) (update_win (facts_before lay (history lay.mode lines) made sound.lawful) w.wins);
    first = x.first;
    call = w.call_is ∙ x.called ∙ x.number;
    command = x.command;
    is = subst (λ (k : ℕ). slice_get (commands calls k) (answered lines entry.client.0) ≡ Some x.command) is x.is;
    entered = x.entered;
    logged = x.logged;
    same_scx = x.same_scx ∙ sym w.scx_is;
    same_owner = x.same_owner ∙ is;
    same_call = x.same_call ∙ sym (w.call_is ∙ x.called);
    does = subst (λ (k : ℕ). IsEntryFor lay k (history lay.mode lines) (start lay.mode lines entry.client.0) (linked calls lay.mode lines entry.client.0) x.entered x.command) is x.does;
  }

  -- the step's own client, or another, has the update in hand that wins
  log_entry : (entry : Entry) → entry_of lay lines number made ≡ Some entry → IsWinOf lay calls lines made entry
  log_entry entry e = go (ℕ_discrete entry.client.0 a.client.pass.0)
    where
      w : (s : ℕ) × IsEntryOfWin lay (history lay.mode lines) made entry s
      w = entry_wins lay lines number made sound.lawful entry e

      of_other : (c : Client) → c.pass.0 ≡ entry.client.0 → entry.client.0 ≢ a.client.pass.0 → IsClient (client_view lay tries calls lines entry.client.0) (begin lines entry.client.0) c → IsEntryFrom (client_view lay tries calls lines entry.client.0) c made w.0
      of_other c is d (inr (q, runs, x, b)) = entry_by_others (client_view lay tries calls lines entry.client.0) c q made w.0 a.turn.so_far.sound x sound (λ z. d (sym is ∙ sym z)) w.1.wins (subst (λ (k : ℕ). IsOwnScx lay k w.0) (sym is) w.1.own)
      of_other c is d (inl (x, b)) = absurd (rest_wins_not (client_view lay tries calls lines entry.client.0) c a.turn.so_far.sound made w.0 sound.lawful w.1.wins (subst (λ (k : ℕ). IsOwnScx lay k w.0) (sym is) w.1.own) x)

      has_begun : (c : Client) → c.pass.0 ≡ entry.client.0 → entry.client.0 ≢ a.client.pass.0 → IsClient (client_view lay tries calls lines entry.client.0) (begin lines entry.client.0) c → IsSome (begin lines entry.client.0)
      has_begun c is d (inr (q, runs, x, b)) = rw b refl
      has_begun c is d (inl (x, b)) = absurd (rest_wins_not (client_view lay tries calls lines entry.client.0) c a.turn.so_far.sound made w.0 sound.lawful w.1.wins (subst (λ (k : ℕ). IsOwnScx lay k w.0) (sym is) w.1.own) x)

      go : Dec (entry.client.0 ≡ a.client.pass.0) → IsWinOf lay calls lines made entry
      go (yes is) =
          win_of entry w.0 w.1 a.client (sym is)
          (subst (λ (k : ℕ). IsEntryFrom (client_view lay tries calls lines k) a.client made w.0) (sym is)
          (entry_by_own v a.client a.running w.0 a.turn.so_far.sound a.waits w.1.wins (subst (λ (k : ℕ). IsOwnScx lay k w.0) is w.1.own) (told_all a.running.step.access made.before)))
          (λ d. absurd (d (sym is)))
      go (no d) =
          let there = get_there p.clients.items entry.client.0 (omega (arith, w.1.is_pass, p.all_clients, p.clients.ok.0)) in
          let other = a.turn.others entry.client.0 there.0 d there.1 in
          win_of entry w.0 w.1 there.0 other.0 (of_other there.0 other.0 d other.1) (λ z. has_begun there.0 other.0 d other.1)

  -- the row makes an update of this client's win, which waits for a step
  record IsOwner (entry : Entry) : Type 0 where
    client : Client
    there : slice_get p.clients.items entry.client.0 ≡ Some client
    pass : client.pass.0 ≡ entry.client.0
    running : Running
    runs : client.running ≡ Some running
    waits : WaitsForStep (client_view lay tries calls lines entry.client.0) client running
    scx : ℕ
    wins : UpdateWins (history lay.mode lines) made scx
    own : IsOwnScx lay client.pass.0 scx

  owner_of : (entry : Entry) → entry_of lay lines number made ≡ Some entry → IsOwner entry
  owner_of entry e = go (ℕ_discrete entry.client.0 a.client.pass.0)
    where
      w : (s : ℕ) × IsEntryOfWin lay (history lay.mode lines) made entry s
      w = entry_wins lay lines number made sound.lawful entry e

      of_other : (c : Client) → slice_get p.clients.items entry.client.0 ≡ Some c → c.pass.0 ≡ entry.client.0 → IsClient (client_view lay tries calls lines entry.client.0) (begin lines entry.client.0) c → IsOwner entry
      of_other c there is (inr (q, runs, x, b)) = record { client = c; there = there; pass = is; running = q; runs = runs; waits = x; scx = w.0; wins = w.1.wins; own = subst (λ (k : ℕ). IsOwnScx lay k w.0) (sym is) w.1.own }
      of_other c there is (inl (x, b)) = absurd (rest_wins_not (client_view lay tries calls lines entry.client.0) c a.turn.so_far.sound made w.0 sound.lawful w.1.wins (subst (λ (k : ℕ). IsOwnScx lay k w.0) (sym is) w.1.own) x)

      go : Dec (entry.client.0 ≡ a.client.pass.0) → IsOwner entry
      go (yes is) = record {
        client = a.client;
        there = ap (λ (k : ℕ). slice_get p.clients.items k) is ∙ a.turn.own;
        pass = sym is;
        running = a.running;
        runs = a.runs;
        waits = subst (λ (k : ℕ). WaitsForStep (client_view lay tries calls lines k) a.client a.running) (sym is) a.waits;
        scx = w.0;
        wins = w.1.wins;
        own = subst (λ (k : ℕ). IsOwnScx lay k w.0) is w.1.own;
      }
      go (no d) =
          let there = get_there p.clients.items entry.client.0 (omega (arith, w.1.is_pass, p.all_clients, p.clients.ok.0)) in
          let other = a.turn.others entry.client.0 there.0 d there.1 in
          of_other there.0 there.1 other.0 other.1

  -- the edit of an owner's machine is that of the owner
  has_edit : (entry : Entry) (o : IsOwner entry) (edit : MapEdit) → edit_in_hand o.running.run ≡ Some edit → owners_edit p.clients.items entry.client.0 ≡ Some edit
  has_edit entry o edit is = ap client_edit o.there ∙ ap running_edit o.runs ∙ is

  -- of a map the entry is of the edit that its client has in hand, which its call makes of the
  -- map just before
  module _ (entry : Entry) (e : entry_of lay lines number made ≡ Some entry) (map : IsMap lay.mode) where
    o : IsOwner entry
    o = owner_of entry e

    x : IsEditOfCall (client_view lay tries calls lines entry.client.0) o.client o.running
    x = edit_entered (client_view lay tries calls lines entry.client.0) o.client o.running made o.scx a.turn.so_far.sound o.waits sound o.wins o.own map

    -- the map just before
    abbrev map_before : List Pair
    map_before = map_of calls (written_log lines)

    gives : edit_of (map_request x.request) (reply (map_request x.request) map_before) ≡ Some x.edit
    gives = x.gives map_before (spelled lay tries calls map (map_calls lay.mode calls map a.turn.so_far.of_mode) lines a.turn.so_far.in_order (map_run lay (history lay.mode lines) map a.turn.so_far.sound) a.settled.entry)

    place : slice_get (commands calls entry.client.0) entry.call ≡ Some (Map x.request)
    place = ap (λ (j : ℕ). slice_get (commands calls entry.client.0) j) (log_entry entry e).call ∙ ap (λ (k : ℕ). slice_get (commands calls k) (answered lines entry.client.0)) (sym o.pass) ∙ x.is

    call_is : map_call_of calls entry.client.0 entry.call ≡ Some (map_request x.request)
    call_is = ap map_call place

    -- the entry is of this turn
    late : turns lines ≤ entry.step
    late =
        let w = entry_wins lay lines number made sound.lawful entry e in
        let y = win_enters lay lines number made sound.lawful w.0 w.1.wins in
        let step : entry.step ≡ number = ap (λ (k : Entry). k.step) (some_entry entry y.entry (sym e ∙ y.is)) ∙ y.step_is in
        let n = a.in_turn in
        omega (arith, step, n)

    key_known : (places : Places) → ArePlaces lay calls lines places → Knows places (edit_key x.edit)
    key_known places y =
        ⊎_elim (λ z. subst (λ (k : Option ℕ). IfSome k (Knows places)) z (command_key calls entry.client.0 entry.call (Knows places) (Map x.request) y.keys place)) (λ z. knows_told places calls lines (turns lines) (edit_key x.edit) z.0 (y.entries map) (ap (get (edit_key x.edit)) (map_now lay tries calls lines a.turn.so_far.in_order) ∙ z.1))
        (edit_of_key (map_request x.request) x.edit map_before gives)

    asked_edit : IsAtEdit lay calls lines p.clients.items entry
    asked_edit = record {
      edit = x.edit;
      is = has_edit entry o x.edit x.in_hand;
      by = (refl, subst (λ (k : Option MapCall). IsChangeBy k map_before (change_of entry.step x.edit)) (sym call_is) (changes_so (map_request x.request) x.edit entry.step map_before gives), up_to lay tries calls lines entry.step a.turn.so_far.in_order late);
      known = key_known;
    }

  -- and on cells none has one
  asked_of_map : (entry : Entry) → entry_of lay lines number made ≡ Some entry → (edit : MapEdit) → owners_edit p.clients.items entry.client.0 ≡ Some edit → IsMap lay.mode
  asked_of_map entry e edit is =
      let o = owner_of entry e in
      in_hand_map (client_view lay tries calls lines entry.client.0) o.client o.running edit o.waits (sym (ap client_edit o.there ∙ ap running_edit o.runs) ∙ is)

  -- with the row that the player writes down
  pub asked_owner : (row : Row) (after : List Line) → row ≡ made → after ≡ Step (Made number row) ∷ lines → (entry : Entry) → entry_owed lay after ≡ Some entry → IsOwned lay calls after p.clients.items entry
  asked_owner row after e is entry owed =
      let there : entry_of lay lines number made ≡ Some entry = ap (λ (r : Row). entry_of lay lines number r) (sym e) ∙ ap (λ (l : List Line). entry_owed lay l) (sym is) ∙ owed in
      subst (λ (l : List Line). IsOwned lay calls l p.clients.items entry) (sym is)
      record {
        edits = λ map. let x = asked_edit entry there map in record { edit = x.edit; is = x.is; by = x.by; known = λ places y. x.known places record { entries = y.entries; keys = y.keys } };
        of_map = asked_of_map entry there;
      }

  -- with its entry written down, if there is one, the client hears
  pub asked_heard : (words : Contents) (after : List Line) → IsChanged p.words words made.word made.after → MatchOption (entry_owed lay (Step (Made number made) ∷ lines)) (after ≡ Step (Made number made) ∷ lines) (λ e. after ≡ Log e ∷ Step (Made number made) ∷ lines) → IsHeard lay tries calls words p.clients.items after a.client a.running made.before number
  asked_heard words after changed m = go (entry_owed lay (Step (Made number made) ∷ lines)) refl m
    where
      x : IsTurnOf lay tries calls words p.clients.items (Step (Made number made) ∷ lines) a.client
      x = asked_made words changed

      h : Hears (client_view lay tries calls (Step (Made number made) ∷ lines) a.client.pass.0) a.client a.running made.before
      h = rw (eq-eqb a.client.pass.0 a.client.pass.0 refl) (hears v a.client a.running a.turn.so_far.sound a.waits number (won lay (Step (Made number made) ∷ lines) a.client.pass.0) (tells_won lay lines number made sound.lawful tries calls a.client.pass.0) begun_before made.before (told_all a.running.step.access made.before))

      go : (owed : Option Entry) → entry_owed lay (Step (Made number made) ∷ lines) ≡ owed → MatchOption owed (after ≡ Step (Made number made) ∷ lines) (λ e. after ≡ Log e ∷ Step (Made number made) ∷ lines) → IsHeard lay tries calls words p.clients.items after a.client a.running made.before number
      go None e is = subst (λ l. IsHeard lay tries calls words p.clients.items l a.client a.running made.before number) (sym is)
          record { turn = x; told = h; runs = a.runs; began = asked_begun; last = refl; entry = e; none_owed = λ y. y; fits = λ command answer f. f; in_turn = a.in_turn }
      go (Some entry) e is = subst (λ l. IsHeard lay tries calls words p.clients.items l a.client a.running made.before number) (sym is)
          record {
            turn = record { so_far = so_far_same lay tries calls words (Step (Made number made) ∷ lines) (Log entry) refl (e, log_entry entry e) x.so_far; others = others_log lay tries calls p.clients.items (Step (Made number made) ∷ lines) a.client.pass.0 entry x.others; own = x.own };
            told = h;
            runs = a.runs;
            began = asked_begun;
            last = refl;
            entry = refl;
            none_owed = λ y. y;
            fits = λ command answer f. f;
            in_turn = a.in_turn;
          }

  -- the lines with the row that the player writes down
  pub asked_so_far : (row : Row) (words : Contents) (after : List Line) → row ≡ made → IsChanged p.words words made.word made.after → after ≡ Step (Made number row) ∷ lines → IsLawfulSoFar lay tries calls words after
  asked_so_far row words after e changed is =
      subst (λ l. IsLawfulSoFar lay tries calls words l) (sym is) (subst (λ (r : Row). IsLawfulSoFar lay tries calls words (Step (Made number r) ∷ lines)) (sym e) (asked_made words changed).so_far)

  -- and what the client hears after them
  pub asked_hears : (row : Row) (words : Contents) (pushed after : List Line) (found : ℕ) → row ≡ made → found ≡ word_at p.words step.word → IsChanged p.words words made.word made.after → pushed ≡ Step (Made number row) ∷ lines → MatchOption (entry_owed lay pushed) (after ≡ pushed) (λ e. after ≡ Log e ∷ pushed) → IsHeard lay tries calls words p.clients.items after a.client a.running found number
  asked_hears row words pushed after found e f changed is m =
      let same : pushed ≡ Step (Made number made) ∷ lines = is ∙ ap (λ (r : Row). Step (Made number r) ∷ lines) e in
      subst (λ (k : ℕ). IsHeard lay tries calls words p.clients.items after a.client a.running k number) (sym (f ∙ asked_value))
      (asked_heard words after changed (rw same at m))

-- After what the client has heard

-- it asks for another step
pub heard_on : (lay : Layout) (tries : ℕ) (calls : List Call) (words : Contents) (all : List Client) (lines : List Line) (c new : Client) (q : Running) (found number : ℕ) → IsHeard lay tries calls words all lines c q found number → GoesOn (client_view lay tries calls lines c.pass.0) c new → AreBetweenTurns lay tries calls words (set all c.pass.0 new) lines
heard_on lay tries calls words all lines c new q found number x g =
    turn_ends lay tries calls words (set all c.pass.0 new) lines new record { entry = x.entry; reply = x.none_owed }
    (subst (λ (k : ℕ). IsClient (client_view lay tries calls lines k) (begin lines k) new) (ap (λ (p : PassNo). p.0) (sym g.same.pass)) (inr (g.running, g.is, g.waits, x.began ∙ ap (λ (k : ℕ). Some k) (sym g.begin))))
    (turn_changed lay tries calls words all lines c new g.same.pass x.turn)

-- its call ends, and the reply is written down
pub heard_end : (lay : Layout) (tries : ℕ) (calls : List Call) (words : Contents) (all : List Client) (lines : List Line) (changes : List Change) (c mid new : Client) (q : Running) (found number : ℕ) (answer : Answer) (said : Option ℕ) (reply : Finished) → (IsMap lay.mode → AreEntries calls lines changes) → length calls ≤ 65536 → IsHeard lay tries calls words all lines c q found number → EndsCall (client_view lay tries calls lines c.pass.0) c mid answer → ((turn : ℕ) → won lay lines c.pass.0 ≡ Some turn → said ≡ Some turn) → IsEnd calls lines changes mid new number answer said reply → AreBetweenTurns lay tries calls words (set (set all c.pass.0 mid) c.pass.0 new) (ReplyLine reply ∷ lines)
heard_end lay tries calls words all lines changes c mid new q found number answer said reply entries few x g wins e =
    subst (λ (k : ℕ). AreBetweenTurns lay tries calls words (set (set all c.pass.0 mid) k new) (ReplyLine reply ∷ lines)) pass0
    (replied lay tries calls words (set all c.pass.0 mid) lines changes mid new answer said reply g.command number entries few
    (turn_changed lay tries calls words all lines c mid g.same.pass x.turn)
    (subst (λ (k : ℕ). IsOver lay tries calls lines k mid g.command answer) (sym pass0) over)
    (subst (λ (k : ℕ). (turn : ℕ) → won lay lines k ≡ Some turn → said ≡ Some turn) (sym pass0) wins)
    x.in_turn e)
  where
    pass0 : mid.pass.0 ≡ c.pass.0
    pass0 = ap (λ (p : PassNo). p.0) g.same.pass

    over : IsOver lay tries calls lines c.pass.0 mid g.command answer
    over = record {
      is = ap (λ (k : ℕ). slice_get (commands calls k) (answered lines c.pass.0)) (sym pass0) ∙ g.is;
      rests = g.rests;
      number = g.rests.stands.number;
      began = x.began ∙ ap (λ (k : ℕ). Some k) (sym g.begin);
      last = x.last;
      owed = x.entry;
      fits = x.fits g.command answer g.answers;
      right = subst (λ (k : ℕ). IsRight lay tries k (history lay.mode lines) (start lay.mode lines c.pass.0) (linked calls lay.mode lines c.pass.0) g.command answer) pass0 g.right;
      entry = g.entry;
      done = λ z. subst (λ (a : Answer). enters g.command a ≡ true) (sym z) (done_enters g.command (subst (λ (a : Answer). MayAnswerAfterStep g.command a) z g.answers));
      tells = subst (λ (k : ℕ). AnswersRight (client_view lay tries calls lines c.pass.0) k g.command answer) pass0 g.tells;
      took = subst (λ (k : ℕ). HasTakenFew lay tries k (history lay.mode lines) (start lay.mode lines c.pass.0) g.command) pass0 g.took;
      late = g.late;
    }

-- What the player makes of it

-- an interleaving of these parts is between two turns
pub between_at : (p : Interleaving) (script : ScriptView) (words : Contents) (all : List Client) (lines : List Line) (wins : List (Option ℕ)) (places : Places) → script_view p.script ≡ script → p.words ≡ words → p.clients.items ≡ all → p.wins.items ≡ wins → p.places ≡ places → KnowsCounts p lines → AreBetweenTurns script.layout script.limits.tries script.calls words all lines → AreWins script.layout lines wins → ArePlaces script.layout script.calls lines places → IsBetweenTurns p lines
between_at p script words all lines wins places s b c e f counted x y z =
    subst (λ (k : ScriptView). AreBetweenTurns k.layout k.limits.tries k.calls words all lines → AreWins k.layout lines wins → ArePlaces k.layout k.calls lines places → IsBetweenTurns p lines) s
    (λ x y z. record { between = rw (b, c) x; wins = rw e y; places = rw f z; counted = counted }) x y z

-- what is remembered of a client is the turn that the lines say
pub remembered : (lay : Layout) (lines : List Line) (wins : List (Option ℕ)) (k i : ℕ) (said : Option ℕ) → AreWins lay lines wins → slice_get wins k ≡ Some said → k ≡ i → (turn : ℕ) → won lay lines i ≡ Some turn → said ≡ Some turn
remembered lay lines wins k i said x there same turn e = let y = x i turn e in let z : slice_get wins i ≡ Some said = rw same at there in cc

-- places that know at least the same keys
pub keys_kept : (old new : Places) (calls : List Call) → ((key : ℕ) → Knows old key → Knows new key) → All (λ (call : Call). HoldsOfKey (Knows old) call.command) calls → All (λ (call : Call). HoldsOfKey (Knows new) call.command) calls
keys_kept old new calls more all i d less = go (changed_key (get_or calls i d).command) (all i d less)
  where
    go : (key : Option ℕ) → IfSome key (Knows old) → IfSome key (Knows new)
    go (Some key) x = more key x
    go None x = tt

-- room for more leaves the places
pub places_roomy : (lay : Layout) (calls : List Call) (lines : List Line) (old new : Places) → changes new ≡ changes old → ((key : ℕ) → Knows old key → Knows new key) → ArePlaces lay calls lines old → ArePlaces lay calls lines new
places_roomy lay calls lines old new same more x = record { entries = λ map. rw same (x.entries map); keys = keys_kept old new calls more x.keys }

-- an entry is kept with the change of its edit
pub places_logged : (lay : Layout) (calls : List Call) (clients : List Client) (lines : List Line) (e : Entry) (old new : Places) → IsOwned lay calls lines clients e → ((edit : MapEdit) → owners_edit clients e.client.0 ≡ Some edit → changes new ≡ change_of e.step edit ∷ changes old) → ((key : ℕ) → Knows old key → Knows new key) → ArePlaces lay calls lines old → ArePlaces lay calls (Log e ∷ lines) new
places_logged lay calls clients lines e old new owned change more p = record { entries = λ map. entries map (owned.edits map); keys = keys_kept old new calls more p.keys }
  where
    entries : IsMap lay.mode → IsAtEdit lay calls lines clients e → AreEntries calls (Log e ∷ lines) (changes new)
    entries map x = rw (change x.edit x.is) (x.by, p.entries map)

-- its key may be changed
pub place_known : (lay : Layout) (calls : List Call) (clients : List Client) (lines : List Line) (e : Entry) (places : Places) → IsOwned lay calls lines clients e → ArePlaces lay calls lines places → IfSome (owners_edit clients e.client.0) (λ (edit : MapEdit). Knows places (edit_key edit))
place_known _ _ clients _ e places owned p = go (owners_edit clients e.client.0) refl
  where
    go : (edit : Option MapEdit) → owners_edit clients e.client.0 ≡ edit → IfSome edit (λ (d : MapEdit). Knows places (edit_key d))
    go None is = tt
    go (Some edit) is =
        let x = owned.edits (owned.of_map edit is) in
        subst (λ (d : MapEdit). Knows places (edit_key d)) (some_edit x.edit edit (sym x.is ∙ is)) (x.known places p)

-- the entry after the newest line leaves who made the turns, and how many they are
pub turns_logged : (entry : Option Entry) (lines : List Line) → (clients (with_entry entry lines) ≡ clients lines) × (turns (with_entry entry lines) ≡ turns lines)
turns_logged None lines = (refl, refl)
turns_logged (Some entry) lines = (refl, refl)

-- it is the one that the newest line asks for
pub logged_as_owed : (lay : Layout) (entry : Option Entry) (lines : List Line) → entry ≡ entry_owed lay lines → MatchOption (entry_owed lay lines) (with_entry entry lines ≡ lines) (λ e. with_entry entry lines ≡ Log e ∷ lines)
logged_as_owed _ entry lines e = subst (λ (o : Option Entry). MatchOption o (with_entry entry lines ≡ lines) (λ d. with_entry entry lines ≡ Log d ∷ lines)) e (go entry)
  where
    go : (o : Option Entry) → MatchOption o (with_entry o lines ≡ lines) (λ d. with_entry o lines ≡ Log d ∷ lines)
    go None = refl
    go (Some entry) = refl

-- what the client as the player has it gets, that client gets
pub told_goes : (v : ClientView) (now c new : Client) (q : Running) (found : ℕ) → now ≡ c → IsSound v → c.running ≡ Some q → Hears v c q found → ((w : ClientView) (r : Running) → IsSound w → now.running ≡ Some r → Hears w now r found → GoesOn w now new) → GoesOn v c new
told_goes v now c new q found e sound runs h f = subst (λ (k : Client). GoesOn v k new) e (f v q sound (subst (λ (k : Client). k.running ≡ Some q) (sym e) runs) (subst (λ (k : Client). Hears v k q found) (sym e) h))

pub told_ends : (v : ClientView) (now c new : Client) (q : Running) (found : ℕ) (answer : Answer) → now ≡ c → IsSound v → c.running ≡ Some q → Hears v c q found → ((w : ClientView) (r : Running) → IsSound w → now.running ≡ Some r → Hears w now r found → EndsCall w now new answer) → EndsCall v c new answer
told_ends v now c new q found answer e sound runs h f = subst (λ (k : Client). EndsCall v k new answer) e (f v q sound (subst (λ (k : Client). k.running ≡ Some q) (sym e) runs) (subst (λ (k : Client). Hears v k q found) (sym e) h))

-- a script has few calls
pub few_calls : (p : Interleaving) → length p.script.calls.items ≤ 65536
few_calls p = omega (arith, p.script.few, p.script.calls.ok.0)
