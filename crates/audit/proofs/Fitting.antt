-- A line that fits those before it.
use Rattle.std.proofs.Common.{◌≡◌, ℕ, suc, ◌+◌, ◌<◌, ◌≤◌, Bool, true, false, cond, eqb, ◌&&◌, not, is_some, List, [], ◌∷◌, ◌++◌, length, get_or, take, drop, reverse, set, slice_get, unwrap_or, Option, Some, None, IfSome, IsSome, refl, sym, ◌∙◌, ap, subst, add-one, arith}
use Rattle.std.proofs.lemmas.Bool.{ne_eqb}
use Rattle.std.proofs.lemmas.List.{reverse-append, reverse-reverse, length-set}
use Rattle.std.proofs.Math.Seq.{take-suc, take-length}
use Rattle.std.proofs.lemmas.Option.{slice_get_within, get_or_from_slice_get}
use Rattle.histories.specs.Common.{Layout, PassNo, NodeNo, ScxNo, Row as StepRow, Update, Side, Word, Node, Scx, Settled, Child, Info, Marked, child}
use Rattle.histories.specs.Common.{info, scx, first_scx, History, ◌⊳◌, value, IsLawful, IsWin, Lawful, owner, log, entry as entered, taken_nodes}
use Rattle.arena.specs.declared.word.ScxWord.TheVariants.{Call as CallWord}
use Rattle.histories.proofs.Lemmas.{fields_are, finalized_since, lawful_since, once}
use Rattle.std.proofs.Math.Nat.{div-eq_of_lt-le}
use Rattle.record.specs.Common.{Call, Command, next_command, command_steps, nodes_counted, MayAnswerAtOnce, MayAnswerAfterStep, IsRight, IsPlaced, HasTakenFew, IsEntryFor, enters, HasItsEntry}
use Rattle.record.specs.Common.{linked, IsWinOf, AreLines, OwesNothing, IsLawfulRun, IsReplyOwed, IsFitting, history, clients, entries, start, entry_at, entry_of, is_update}
use Rattle.record.specs.declared.record.Line.{Line}
use Rattle.record.specs.declared.record.Line.TheVariants.{Step, Log, Reply as ReplyLine}
use Rattle.record.specs.declared.record.TurnRow.TheVariants.{Step as Made, Idle}
use Rattle.record.specs.declared.record.Entry.{Entry}
use Rattle.record.specs.declared.record.Finished.{Finished}
use Rattle.record.specs.declared.record.Answer.{Answer}
use Rattle.record.specs.CommandRules.{MayMake}
use Rattle.record.specs.Entries.{IsLog}
use Rattle.record.specs.LawfulRun.{IsWhole}
use Rattle.record.specs.Replies.{IsReply}
use Rattle.record.specs.Steps.{IsStep, IsIdleTurn, SaysItsCall}
use Rattle.record.proofs.Lemmas.{get_there}
use Rattle.record.specs.Commands.{IsNextCallAt}
use Rattle.audit.proofs.AfterLines.{idle_clients, log_clients, ended_clients, AreStepped, stepped_clients, unwon_clients, won_clients}
use Rattle.judge.specs.Histories.{Judged, seen_history}
use Rattle.audit.specs.After.{IsAfter, IsSoFar, IsClientAfter, AreClientsAfter, lines_of, layout_of, tries_of, calls_of, is_idle, pass_number, IsMapAfter, AreRememberedAfter, Remembers}
use Rattle.audit.specs.declared.client.ClientState.{ClientState}
use Rattle.audit.specs.declared.run.Replay.{Replay}

abbrev place_of_some : Option Entry → ℕ
place_of_some None = 0
place_of_some (Some e) = e.place

abbrev client_of_some : Option Entry → ℕ
client_of_some None = 0
client_of_some (Some e) = e.client.0

abbrev call_of_some : Option Entry → ℕ
call_of_some None = 0
call_of_some (Some e) = e.call

-- the owner of an SCX-record of a share
owner_is : (lay : Layout) (s p : ℕ) → first_scx lay p ≤ s → s < first_scx lay p + lay.scx → owner lay s ≡ p
owner_is lay s p from below = div-eq_of_lt-le lay.scx (omega arith) (omega arith)

-- what a lawful step of a client's call asks
pub step_fits : (run : Replay) (number : ℕ) (row : StepRow) (client : ClientState) (command : Command) (most taken : ℕ) → IsAfter run (lines_of run) → client.pass ≡ row.pass → IsClientAfter (layout_of run) (calls_of run) (lines_of run) row.pass.0 client → next_command (calls_of run) (lines_of run) client.pass.0 ≡ Some command → suc run.turn ≡ number → row.call ≡ client.answered → client.steps < most → taken ≡ length (taken_nodes (seen_history run.steps.judge)) → ((all : ℕ) → taken ≤ all → most ≤ command_steps command (tries_of run) (nodes_counted (layout_of run).mode all)) → MayMake command row.kind → SaysItsCall row → IsLawful run.steps.judge.layout (seen_history run.steps.judge) row → IsStep (layout_of run) (tries_of run) (calls_of run) (lines_of run) number row
step_fits run number row client command most taken x pass y is turn call few taken_is most_is may says lawful = record {
  in_turn = sym turn ∙ ap suc x.turn;
  lawful = subst (λ (h : History). IsLawful (layout_of run) h row) x.seen (subst (λ (l : Layout). IsLawful l (seen_history run.steps.judge) row) x.layout lawful);
  call = call ∙ y.answered;
  command = command;
  is = ap (λ (p : PassNo). next_command (calls_of run) (lines_of run) p.0) (sym pass) ∙ is;
  few = let all = most_is (length (taken_nodes (history (layout_of run).mode (lines_of run)))) (rw (taken_is, x.seen) (omega arith)) in let same = y.steps in omega arith;
  may = may;
  says = says;
}

-- the entry of an update that changes its field
pub entry_made : (run : Replay) (number place : ℕ) (row : StepRow) (n : NodeNo) (side : Side) (s : ScxNo) (client : PassNo) (call : ℕ) → IsAfter run (lines_of run) → row.kind ≡ Update → (row.before ≡ row.after → ⊥) → row.word ≡ child n.0 side → s.0 ≡ value (seen_history run.steps.judge) (info n.0) → call ≡ value (seen_history run.steps.judge) (scx s.0 CallWord) → first_scx (layout_of run) client.0 ≤ s.0 → s.0 < first_scx (layout_of run) client.0 + (layout_of run).scx → place ≡ suc run.entries → entry_of (layout_of run) (lines_of run) number row ≡ Some record { place = place; step = number; scx = s; client = client; call = call }
entry_made run number place row n side s client call x kind differs word holds calls from below place_is = rw (kind, ne_eqb row.before row.after differs, word) (ap (λ (e : Entry). Some e) same)
  where
    lay : Layout
    lay = layout_of run

    there : value (history lay.mode (lines_of run)) (info n.0) ≡ s.0
    there = ap (λ (h : History). value h (info n.0)) (sym x.seen) ∙ sym holds

    called : value (history lay.mode (lines_of run)) (scx s.0 CallWord) ≡ call
    called = ap (λ (h : History). value h (scx s.0 CallWord)) (sym x.seen) ∙ sym calls

    placed : suc (entries (lines_of run)) ≡ place
    placed = ap suc (sym x.entries) ∙ sym place_is

    owned : owner lay s.0 ≡ client.0
    owned = owner_is lay s.0 client.0 from below

    made : (v k p : ℕ) → v ≡ s.0 → value (history lay.mode (lines_of run)) (scx v CallWord) ≡ k → owner lay v ≡ p → record { place = suc (entries (lines_of run)); step = number; scx = record { 0 = v }; client = record { 0 = owner lay v }; call = value (history lay.mode (lines_of run)) (scx v CallWord) } ≡ (let e : Entry = record { place = place; step = number; scx = record { 0 = s.0 }; client = record { 0 = p }; call = k } in e)
    made v k p a b d = rw (placed, b, d, a) refl

    same : record { place = suc (entries (lines_of run)); step = number; scx = record { 0 = value (history lay.mode (lines_of run)) (info n.0) }; client = record { 0 = owner lay (value (history lay.mode (lines_of run)) (info n.0)) }; call = value (history lay.mode (lines_of run)) (scx (value (history lay.mode (lines_of run)) (info n.0)) CallWord) } ≡ (let e : Entry = record { place = place; step = number; scx = s; client = client; call = call } in e)
    same = rw (there, called, placed, owned) refl

-- what is asked of an idle turn
pub idle_awaits : (run : Replay) (number : ℕ) (pass : PassNo) (client : ClientState) (next : Option Command) (awaits : Bool) → awaits ≡ is_some next → next ≡ next_command (calls_of run) (lines_of run) client.pass.0 → client.pass ≡ pass → awaits ≡ false → IsReplyOwed (calls_of run) (Step (Idle number pass) ∷ lines_of run) → ⊥
idle_awaits run number pass client next awaits told is own none owed = go next refl (sym told ∙ none)
  where
    here : next ≡ Some owed.0
    here = is ∙ ap (λ (p : PassNo). next_command (calls_of run) (lines_of run) p.0) own ∙ owed.1

    go : (o : Option Command) → next ≡ o → is_some o ≡ false → ⊥
    go None e d = let z : None ≡ Some owed.0 = sym e ∙ here in absurd cc
    go (Some k) e d = absurd (let z : true ≡ false = d in cc)

length_set : {X : Type 0} (xs : List X) (i : ℕ) (y : X) → length (set xs i y) ≡ length xs
length_set xs i y = length-set xs i y

-- The lines with one more

module _ (lay : Layout) (tries : ℕ) (calls : List Call) (judge : Judged) (clients : List ClientState) (turn made : ℕ) (newest : Option PassNo) (due : Option Entry) (fits idle awaits : Bool) (lines : List Line) (x : IsSoFar lay tries calls judge clients turn made newest due fits idle awaits lines) where
  pub after_idle : (number : ℕ) (pass : PassNo) (client changed : ClientState) (more : Judged) (fitting owes : Bool) → more ≡ judge → OwesNothing lay calls lines → IsIdleTurn lay calls lines number pass.0 → slice_get clients pass.0 ≡ Some client → (owes ≡ false → IsReplyOwed calls (Step (Idle number pass) ∷ lines) → ⊥) → changed ≡ record client { begun = Some (unwrap_or client.begun number) } → IsSoFar lay tries calls more (set clients pass.0 changed) number made (Some pass) due fitting true owes (Step (Idle number pass) ∷ lines)
  unfolding AreLines
  after_idle number pass client changed more fitting owes same settled is there none change = record {
    layout = ap (λ (k : Judged). k.layout) same ∙ x.layout;
    seen = ap (λ (k : Judged). seen_history k) same ∙ x.seen;
    in_order = (x.in_order, (settled, is));
    turn = is.in_turn;
    entries = x.entries;
    last = refl;
    owed = sym settled.entry ∙ x.owed;
    fits = λ entry f w. absurd (let z : None ≡ Some entry = sym settled.entry ∙ x.owed ∙ w in cc);
    idle = refl;
    awaits = none;
    all = length_set clients pass.0 _ ∙ x.all;
    clients = rw change (idle_clients lay calls lines number pass clients client there x.clients);
  }

  pub after_log : (entry : Entry) (fitting : Bool) → due ≡ Some entry → fits ≡ true → IsSoFar lay tries calls judge clients turn entry.place newest None fitting false false (Log entry ∷ lines)
  unfolding AreLines
  after_log entry fitting owed fit = record {
    layout = x.layout;
    seen = x.seen;
    in_order = (x.in_order, is_log);
    turn = x.turn;
    entries = placed lines is_log;
    last = x.last;
    owed = refl;
    fits = λ d f w. absurd (let z : None ≡ Some d = w in cc);
    idle = refl;
    awaits = λ f w. w;
    all = x.all;
    clients = log_clients lay calls lines entry clients x.clients;
  }
    where
      is_log : IsLog lay calls lines entry
      is_log = x.fits entry fit owed

      -- its place is the next one
      placed : (lines : List Line) → IsLog lay calls lines entry → entry.place ≡ suc (entries lines)
      placed [] y = absurd y
      placed (Step (Made n row) ∷ lines) y = at (is_update row.kind && not (eqb row.before row.after)) row.word y.0
        where
          at : (b : Bool) (w : Word) → cond b (entry_at lay (history lay.mode lines) (suc (entries lines)) n w) None ≡ Some entry → entry.place ≡ suc (entries lines)
          at false w q = absurd (let z : None ≡ Some entry = q in cc)
          at true (Node m (Child side)) q = sym (ap place_of_some q)
          at true (Node m (Settled p)) q = absurd (let z : None ≡ Some entry = q in cc)
          at true (Node m Info) q = absurd (let z : None ≡ Some entry = q in cc)
          at true (Node m Marked) q = absurd (let z : None ≡ Some entry = q in cc)
          at true (Scx m part) q = absurd (let z : None ≡ Some entry = q in cc)
      placed (Step (Idle n client) ∷ lines) y = absurd y
      placed (Log d ∷ lines) y = absurd y
      placed (ReplyLine d ∷ lines) y = absurd y

  -- a step, whose entry is owed
  pub after_step : (number : ℕ) (row : StepRow) (owed : Option Entry) (fit : Bool) (more : Judged) (all : List ClientState) → OwesNothing lay calls lines → IsStep lay tries calls lines number row → entry_of lay lines number row ≡ owed → ((e : Entry) → fit ≡ true → owed ≡ Some e → IsWinOf lay calls lines row e) → more.layout ≡ judge.layout → seen_history more ≡ row ⊳ seen_history judge → AreClientsAfter lay calls (Step (Made number row) ∷ lines) all → length all ≡ length clients → IsSoFar lay tries calls more all number made (Some row.pass) owed fit false false (Step (Made number row) ∷ lines)
  unfolding AreLines
  after_step number row owed fit more all settled step is wins same makes each many = record {
    layout = same ∙ x.layout;
    seen = makes ∙ ap (λ (h : History). row ⊳ h) x.seen;
    in_order = (x.in_order, (settled, step));
    turn = step.in_turn;
    entries = x.entries;
    last = refl;
    owed = is;
    fits = λ d g w. (is ∙ w, wins d g w);
    idle = refl;
    awaits = λ g w. w;
    all = many ∙ x.all;
    clients = each;
  }

  pub after_reply : (reply : Finished) (client changed : ClientState) (more : Judged) (next : Option ℕ) (fitting : Bool) → more ≡ judge → due ≡ None → IsReply lay tries calls lines reply → slice_get clients reply.client.0 ≡ Some client → ((left : List Command) → IsNextCallAt calls client.pass.0 left client.at → IsNextCallAt calls client.pass.0 (drop 1 left) next) → changed ≡ record client { at = next; answered = client.answered + 1; begun = None; steps = 0; won = None } → IsSoFar lay tries calls more (set clients reply.client.0 changed) turn made newest due fitting false false (ReplyLine reply ∷ lines)
  unfolding AreLines
  after_reply reply client changed more next fitting same owed is there behind change = record {
    layout = ap (λ (k : Judged). k.layout) same ∙ x.layout;
    seen = ap (λ (k : Judged). seen_history k) same ∙ x.seen;
    in_order = (x.in_order, (x.owed ∙ owed, is));
    turn = x.turn;
    entries = x.entries;
    last = x.last;
    owed = sym owed;
    fits = λ d f w. absurd (let z : None ≡ Some d = sym owed ∙ w in cc);
    idle = refl;
    awaits = λ f w. w;
    all = length_set clients reply.client.0 _ ∙ x.all;
    clients = rw change (ended_clients lay calls lines reply clients client next there behind x.clients);
  }

-- what the answer may be depends on the newest line
pub fitting : (lines : List Line) (command : Command) (answer : Answer) (idle : Bool) → is_idle lines ≡ idle → (idle ≡ true → MayAnswerAtOnce command answer) → (idle ≡ false → MayAnswerAfterStep command answer) → IsFitting lines command answer
fitting [] command answer idle e once step = step (sym e)
fitting (Step (Made n row) ∷ lines) command answer idle e once step = step (sym e)
fitting (Step (Idle n client) ∷ lines) command answer idle e once step = once (sym e)
fitting (Log d ∷ lines) command answer idle e once step = step (sym e)
fitting (ReplyLine d ∷ lines) command answer idle e once step = step (sym e)

take-more : (lines : List Line) (at : ℕ) (line : Line) → at < length lines → line ≡ get_or lines at line → take (suc at) lines ≡ take at lines ++ line ∷ []
take-more lines at line less is = take-suc lines at line less ∙ ap (λ (l : Line). take at lines ++ l ∷ []) (sym is)

-- the list of the lines grows by one
pub one_line_more : (lines : List Line) (at : ℕ) (line : Line) → at < length lines → line ≡ get_or lines at line → reverse (take (suc at) lines) ≡ line ∷ reverse (take at lines)
one_line_more lines at line less is = ap reverse (take-more lines at line less is) ∙ reverse-append (take at lines) (line ∷ [])

-- an entry is there if the answer says so, and only then
entry_there : (b : Bool) (turn : Option ℕ) → b ≡ is_some turn → HasItsEntry b turn
entry_there true (Some n) e = tt
entry_there false None e = tt
entry_there true None e = absurd (let z : true ≡ false = e in cc)
entry_there false (Some n) e = absurd (let z : false ≡ true = e in cc)

-- what a reply asks
pub reply_fits : (run : Replay) (reply : Finished) (client : ClientState) (command : Command) → IsAfter run (lines_of run) → slice_get run.clients.items client.pass.0 ≡ Some client → client.pass ≡ reply.client → Some command ≡ next_command (calls_of run) (lines_of run) client.pass.0 → run.last ≡ Some reply.client → reply.call ≡ client.answered → client.begun ≡ Some reply.begin → reply.end ≡ run.turn → IsFitting (lines_of run) command reply.answer → enters command reply.answer ≡ is_some client.won → ((m : ℕ) → reply.moment ≡ Some m → (reply.begin ≤ m) × (m ≤ reply.end))
    → IsRight (layout_of run) (tries_of run) reply.client.0 (history (layout_of run).mode (lines_of run)) (start (layout_of run).mode (lines_of run) reply.client.0) (linked (calls_of run) (layout_of run).mode (lines_of run) reply.client.0) command reply.answer → HasTakenFew (layout_of run) (tries_of run) reply.client.0 (history (layout_of run).mode (lines_of run)) (start (layout_of run).mode (lines_of run) reply.client.0) command → IsPlaced (layout_of run) (calls_of run) (lines_of run) reply command → IsReply (layout_of run) (tries_of run) (calls_of run) (lines_of run) reply
reply_fits run reply client command x there own is last call begun end fits enters within right took placed = record {
  client = sym x.last ∙ ap pass_number last;
  call = call ∙ y.answered;
  begin = sym y.begun ∙ begun;
  end = end ∙ x.turn;
  command = command;
  is = sym (subst (λ (p : PassNo). Some command ≡ next_command (calls_of run) (lines_of run) p.0) own is);
  fits = fits;
  right = right;
  took = took;
  placed = placed;
  within = within;
  entry = entry_there _ _ (enters ∙ ap (λ (t : Option ℕ). is_some t) y.won);
}
  where
    y : IsClientAfter (layout_of run) (calls_of run) (lines_of run) reply.client.0 client
    y = subst (λ (p : PassNo). IsClientAfter (layout_of run) (calls_of run) (lines_of run) p.0 client) own (x.clients client.pass.0 client there)

-- each client after a step and the entry that it asks for
pub made_clients : (lay : Layout) (calls : List Call) (lines : List Line) (number : ℕ) (row : StepRow) (owed : Option Entry) (clients old new : List ClientState) (client changed : ClientState) → entry_of lay lines number row ≡ owed → AreClientsAfter lay calls lines clients → slice_get clients row.pass.0 ≡ Some client → changed ≡ record client { begun = Some (unwrap_or client.begun number); steps = client.steps + 1 } → old ≡ set clients row.pass.0 changed → ((e : Entry) → owed ≡ Some e → e.client.0 < length old) → (owed ≡ None → new ≡ old) → ((e : Entry) (c : ClientState) → owed ≡ Some e → slice_get old e.client.0 ≡ Some c → new ≡ set old e.client.0 (record c { won = Some number })) → AreClientsAfter lay calls (Step (Made number row) ∷ lines) new
made_clients lay calls lines number row owed clients old new client changed is x there change put within none some = go owed refl
  where
    stepped : AreStepped lay calls lines number row old
    stepped = rw (put, change) (stepped_clients lay calls lines number row clients client there x)

    go : (o : Option Entry) → owed ≡ o → AreClientsAfter lay calls (Step (Made number row) ∷ lines) new
    go None e = rw (none e) (unwon_clients lay calls lines number row old (is ∙ e) stepped)
    go (Some entry) e =
        let c = get_there old entry.client.0 (within entry e) in
        let y = some entry c.0 e c.1 in
        rw y (won_clients lay calls lines number row entry old c.0 (is ∙ e) c.1 stepped)

-- what holds of what there is
pub if_there : {X : Type 0} (P : X → Type 0) (o : Option X) (x : X) → IfSome o P → o ≡ Some x → P x
if_there P None x h e = absurd (let z : None ≡ Some x = e in cc)
if_there P (Some y) x h e = let same : y ≡ x = cc in subst P same h

-- the entry's client is there still
pub client_within : (lay : Layout) (clients : List ClientState) (i : ℕ) (changed : ClientState) (owed : Option Entry) → length clients ≡ lay.passes → IfSome owed (λ (e : Entry). e.client.0 < lay.passes) → (e : Entry) → owed ≡ Some e → e.client.0 < length (set clients i changed)
client_within lay clients i changed owed all few e is = rw (length-set clients i changed, all) (if_there (λ (e : Entry). e.client.0 < lay.passes) owed e few is)

-- what the entry of a step on a field says
entry_says : (lay : Layout) (lines : List Line) (number : ℕ) (row : StepRow) (entry : Entry) (n : ℕ) (side : Side) → entry_of lay lines number row ≡ Some entry → row.word ≡ child n side → (entry.client.0 ≡ owner lay (value (history lay.mode lines) (info n))) × (entry.call ≡ value (history lay.mode lines) (scx (value (history lay.mode lines) (info n)) CallWord))
entry_says lay lines number row entry n side is word = go (is_update row.kind && not (eqb row.before row.after)) (rw word at is)
  where
    go : (b : Bool) → cond b (entry_at lay (history lay.mode lines) (suc (entries lines)) number (child n side)) None ≡ Some entry → (entry.client.0 ≡ owner lay (value (history lay.mode lines) (info n))) × (entry.call ≡ value (history lay.mode lines) (scx (value (history lay.mode lines) (info n)) CallWord))
    go false e = absurd (let z : None ≡ Some entry = e in cc)
    go true e = (sym (ap client_of_some e), sym (ap call_of_some e))

win_is : (lay : Layout) (calls : List Call) (lines : List Line) (number : ℕ) (row : StepRow) (entry : Entry) (client : ClientState) (command : Command) (n : ℕ) (side : Side) → entry_of lay lines number row ≡ Some entry → IsClientAfter lay calls lines entry.client.0 client → next_command calls lines entry.client.0 ≡ Some command → IsWin (history lay.mode lines) row entry.scx.0 → row.word ≡ child n side → log lay (row ⊳ history lay.mode lines) ≡ entered lay (history lay.mode lines) entry.scx.0 n side row.after ∷ log lay (history lay.mode lines) → entry.scx.0 ≡ value (history lay.mode lines) (info n) → client.won ≡ None → entry.call ≡ client.answered → ((row.pass.0 ≡ entry.client.0 → ⊥) → IsSome client.begun)
    → IsEntryFor lay entry.client.0 (history lay.mode lines) (start lay.mode lines entry.client.0) (linked calls lay.mode lines entry.client.0) (entered lay (history lay.mode lines) entry.scx.0 n side row.after) command → IsWinOf lay calls lines row entry
win_is lay calls lines number row entry client command n side is y next wins word logged holds unwon call begun does = record {
  wins = wins;
  first = sym y.won ∙ unwon;
  call = call ∙ y.answered;
  command = command;
  is = next;
  entered = entered lay (history lay.mode lines) entry.scx.0 n side row.after;
  logged = logged;
  same_scx = refl;
  same_owner = ap (λ (k : ℕ). owner lay k) holds ∙ sym says.0;
  same_call = ap (λ (k : ℕ). value (history lay.mode lines) (scx k CallWord)) holds ∙ sym says.1;
  begun = λ d. subst (λ (o : Option ℕ). IsSome o) y.begun (begun d);
  does = does;
}
  where
    says : (entry.client.0 ≡ owner lay (value (history lay.mode lines) (info n))) × (entry.call ≡ value (history lay.mode lines) (scx (value (history lay.mode lines) (info n)) CallWord))
    says = entry_says lay lines number row entry n side is word

-- a winning update with an entry that its client's call makes
pub win_fits : (run : Replay) (number : ℕ) (row : StepRow) (entry : Entry) (client : ClientState) (command : Command) → IsAfter run (lines_of run) → entry_of (layout_of run) (lines_of run) number row ≡ Some entry → IsClientAfter (layout_of run) (calls_of run) (lines_of run) entry.client.0 client → Some command ≡ next_command (calls_of run) (lines_of run) client.pass.0 → client.pass ≡ entry.client → IsWin (seen_history run.steps.judge) row entry.scx.0 → ((n : ℕ) × (side : Side) × (row.word ≡ child n side) × (log run.steps.judge.layout (row ⊳ seen_history run.steps.judge) ≡ entered run.steps.judge.layout (seen_history run.steps.judge) entry.scx.0 n side row.after ∷ log run.steps.judge.layout (seen_history run.steps.judge))) → ((n : ℕ) (side : Side) → row.word ≡ child n side → entry.scx.0 ≡ value (seen_history run.steps.judge) (info n)) → client.won ≡ None → entry.call ≡ client.answered → ((row.pass.0 ≡ entry.client.0 → ⊥) → IsSome client.begun)
    → ((n : ℕ) (side : Side) → row.word ≡ child n side → IsEntryFor (layout_of run) client.pass.0 (seen_history run.steps.judge) (start (layout_of run).mode (lines_of run) client.pass.0) (linked (calls_of run) (layout_of run).mode (lines_of run) client.pass.0) (entered (layout_of run) (seen_history run.steps.judge) entry.scx.0 n side row.after) command) → IsWinOf (layout_of run) (calls_of run) (lines_of run) row entry
win_fits run number row entry client command x is y next own wins logged holds unwon call begun does =
    win_is lay (calls_of run) (lines_of run) number row entry client command n side is y
    (sym (subst (λ (p : PassNo). Some command ≡ next_command (calls_of run) (lines_of run) p.0) own next))
    (subst (λ (h : History). IsWin h row entry.scx.0) x.seen wins) logged.2
    (subst (λ (h : History). log lay (row ⊳ h) ≡ entered lay h entry.scx.0 n side row.after ∷ log lay h) x.seen (subst (λ (l : Layout). log l (row ⊳ seen_history run.steps.judge) ≡ entered l (seen_history run.steps.judge) entry.scx.0 n side row.after ∷ log l (seen_history run.steps.judge)) x.layout logged.3))
    (subst (λ (h : History). entry.scx.0 ≡ value h (info n)) x.seen (holds n side logged.2)) unwon call begun
    (subst (λ (p : PassNo). IsEntryFor lay p.0 (history lay.mode (lines_of run)) (start lay.mode (lines_of run) p.0) (linked (calls_of run) lay.mode (lines_of run) p.0) (entered lay (history lay.mode (lines_of run)) entry.scx.0 n side row.after) command) own (subst (λ (h : History). IsEntryFor lay client.pass.0 h (start lay.mode (lines_of run) client.pass.0) (linked (calls_of run) lay.mode (lines_of run) client.pass.0) (entered lay h entry.scx.0 n side row.after) command) x.seen (does n side logged.2)))
  where
    lay : Layout
    lay = layout_of run

    n : ℕ
    n = logged.0

    side : Side
    side = logged.1

-- The first lines

-- with the next line counted
pub line_more : (lines : List Line) (at : ℕ) (line : Line) → slice_get lines at ≡ Some line → reverse (take (at + 1) lines) ≡ line ∷ reverse (take at lines)
line_more lines at line is = subst (λ (n : ℕ). reverse (take n lines) ≡ line ∷ reverse (take at lines)) (sym (add-one at)) (one_line_more lines at line (slice_get_within lines at line is) (sym (get_or_from_slice_get lines at line line is)))

-- of a run whose record and count of lines have stayed
pub line_counted : (old new : Replay) (line : Line) → new.record ≡ old.record → new.at ≡ old.at → slice_get old.record.now.lines.items old.at ≡ Some line → reverse (take (new.at + 1) new.record.now.lines.items) ≡ line ∷ lines_of old
line_counted old new line same at is = rw (same, at) (line_more old.record.now.lines.items old.at line is)

-- the lines of a lawful run
lawful_lines : (lay : Layout) (tries : ℕ) (calls : List Call) (lines : List Line) → AreLines lay tries calls (reverse lines) → OwesNothing lay calls (reverse lines) → Lawful lay (history lay.mode (reverse lines)) → IsWhole lay.mode lay calls (reverse lines) → IsLawfulRun lay tries calls (reverse (clients (reverse lines))) lines
lawful_lines lay tries calls lines in_order settled lawful whole = record {
  turns = sym (reverse-reverse (clients (reverse lines)));
  in_order = in_order;
  settled = settled;
  lawful = lawful;
  spell = λ past n side e. fields_are lay past n side (lawful_since lay (history lay.mode (reverse lines)) past lawful e);
  once = once lay (history lay.mode (reverse lines)) lawful;
  finalized = λ past n part ends final. finalized_since lay (history lay.mode (reverse lines)) past n part lawful ends final;
  whole = whole;
}

pub lawful_run : (run : Replay) → IsAfter run (lines_of run) → run.at ≡ length run.record.now.lines.items → Lawful run.steps.judge.layout (seen_history run.steps.judge) → OwesNothing (layout_of run) (calls_of run) (lines_of run) → IsWhole (layout_of run).mode (layout_of run) (calls_of run) (lines_of run) → IsLawfulRun (layout_of run) (tries_of run) (calls_of run) (reverse (clients (reverse run.record.now.lines.items))) run.record.now.lines.items
lawful_run run x all lawful settled whole = lawful_lines (layout_of run) (tries_of run) (calls_of run) run.record.now.lines.items (there (λ l. AreLines (layout_of run) (tries_of run) (calls_of run) l) x.in_order) (there (λ l. OwesNothing (layout_of run) (calls_of run) l) settled) (there (λ l. Lawful (layout_of run) (history (layout_of run).mode l)) (subst (λ (h : History). Lawful (layout_of run) h) x.seen (subst (λ (l : Layout). Lawful l (seen_history run.steps.judge)) x.layout lawful))) (there (λ l. IsWhole (layout_of run).mode (layout_of run) (calls_of run) l) whole)
  where
    taken : take run.at run.record.now.lines.items ≡ run.record.now.lines.items
    taken = ap (λ (n : ℕ). take n run.record.now.lines.items) all ∙ take-length run.record.now.lines.items

    there : (P : List Line → Type 0) → P (lines_of run) → P (reverse run.record.now.lines.items)
    there P y = subst (λ (l : List Line). P (reverse l)) taken y

-- what a run remembers, if what it remembers of the map depends on what it remembers of turns
pub remembers_all : (run : Replay) (lines : List Line) → IsAfter run lines → (IsAfter run lines → IsMapAfter run lines) → AreRememberedAfter run lines → Remembers run lines
remembers_all run lines after map remembered = record { after = after; map = map after; remembered = remembered }
