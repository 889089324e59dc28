-- After each turn of a call, from its first on, the words spelled the map that the record has then.
use Rattle.std.proofs.Common.{◌≡◌, ◌≢◌, ℕ, suc, ◌<◌, ◌≤◌, inl, inr, Bool, true, false, cond, ◌||◌, eqb, is_some, unwrap_or, List, [], ◌∷◌, Option, Some, None, refl, sym, ◌∙◌, ap, subst, arith}
use Rattle.std.specs.Prelude.{leb}
use Rattle.std.proofs.lemmas.Bool.{eqb-true, eqb-false, leb-true, cases_order}
use Rattle.histories.specs.Common.{Mode, Layout, Row as StepRow, History, ◌⊳◌, value, Extends}
use Rattle.arena.proofs.Lemmas.{ends_self, ends_trans}
use Rattle.record.specs.Common.{Pair, need, MapCall, MapReply, get, reply, Spells, Call, Command, client_of, history, turns, last_client, begin, start, entry_owed}
use Rattle.record.specs.Common.{next_command, written_log, entries_until, map_of, map_at, AreSpelled, IsSpelledAfter, AreLines, HasReplied, IsReplyOwed}
use Rattle.ordered_map.specs.Paths.{IsAnswerAt}
use Rattle.record.specs.declared.record.Line.{Line}
use Rattle.record.specs.declared.record.Line.TheVariants.{Step, Log, Reply as ReplyLine}
use Rattle.record.specs.declared.record.TurnRow.{TurnRow}
use Rattle.record.specs.declared.record.TurnRow.TheVariants.{Step as Made, Idle}
use Rattle.record.specs.declared.record.Entry.{Entry}
use Rattle.record.specs.declared.record.Finished.{Finished}
use Rattle.record.specs.Turns.{number_of}
use Rattle.record.specs.Rules.Edit.{HadToChange}
use Rattle.record.proofs.Lemmas.{begin_within, log_step, turn_number}
use Rattle.linearization.proofs.Lemmas.{map_now}

-- The begin of a call

-- a call has begun at a moment of the history
pub start_was : (mode : Mode) (lines : List Line) (c : ℕ) → Extends (history mode lines) (start mode lines c)
start_was mode [] c = refl
start_was mode (Step (Made n row) ∷ lines) c = go (eqb row.pass.0 c || is_some (begin lines c)) (start_was mode lines c)
  where
    go : (b : Bool) → Extends (history mode lines) (start mode lines c) → Extends (row ⊳ history mode lines) (cond b (start mode lines c) (row ⊳ history mode lines))
    go true x = inr x
    go false x = inl refl
start_was mode (Step (Idle n client) ∷ lines) c = go (eqb client.0 c || is_some (begin lines c)) (start_was mode lines c)
  where
    go : (b : Bool) → Extends (history mode lines) (start mode lines c) → Extends (history mode lines) (cond b (start mode lines c) (history mode lines))
    go true x = x
    go false x = ends_self (history mode lines)
start_was mode (Log e ∷ lines) c = start_was mode lines c
start_was mode (ReplyLine r ∷ lines) c = go (eqb r.client.0 c) (start_was mode lines c)
  where
    go : (b : Bool) → Extends (history mode lines) (start mode lines c) → Extends (history mode lines) (cond b (history mode lines) (start mode lines c))
    go true x = ends_self (history mode lines)
    go false x = x

-- one that has begun with a turn more has begun at the same moment
start_stays : (mode : Mode) (lines : List Line) (row : TurnRow) (c first : ℕ) → begin (Step row ∷ lines) c ≡ Some first → start mode (Step row ∷ lines) c ≡ start mode lines c
start_stays mode lines row c first e = go (eqb (client_of row) c) (begin lines c) e
  where
    go : (own : Bool) (began : Option ℕ) → cond own (Some (unwrap_or began (number_of row))) began ≡ Some first → cond (own || is_some began) (start mode lines c) (history mode (Step row ∷ lines)) ≡ start mode lines c
    go true began d = refl
    go false (Some k) d = refl
    go false None d = absurd (cc)

-- and one with a turn before the newest had begun before that
begun_before : (lines : List Line) (row : TurnRow) (c first m : ℕ) → number_of row ≡ suc (turns lines) → begin (Step row ∷ lines) c ≡ Some first → first ≤ m → m ≤ turns lines → begin lines c ≡ Some first
begun_before lines row c first m number e from to = go (eqb (client_of row) c) (begin lines c) e
  where
    go : (own : Bool) (began : Option ℕ) → cond own (Some (unwrap_or began (number_of row))) began ≡ Some first → began ≡ Some first
    go true (Some k) d = d
    go true None d = absurd (let same : number_of row ≡ first = cc in omega (same, number, from, to, arith))
    go false began d = d

-- so had one whose client has not made the newest turn
begun_other : (lines : List Line) (row : TurnRow) (c first : ℕ) → client_of row ≢ c → begin (Step row ∷ lines) c ≡ Some first → begin lines c ≡ Some first
begun_other lines row c first other e = go (eqb (client_of row) c) refl e
  where
    go : (own : Bool) → eqb (client_of row) c ≡ own → cond own (Some (unwrap_or (begin lines c) (number_of row))) (begin lines c) ≡ Some first → begin lines c ≡ Some first
    go true own d = absurd (other (eqb-true (client_of row) c own))
    go false own d = d

-- Idle turns

-- the newest line is no idle turn of the client's
abbrev pub IsNotIdle : List Line → ℕ → Type 0
IsNotIdle (Step (Idle n client) ∷ lines) c = client.0 ≢ c
IsNotIdle _ c = Unit {0}

-- it is none where its reply would be owed
pub not_idle : (calls : List Call) (lines : List Line) (c : ℕ) (command : Command) → (IsReplyOwed calls lines → ⊥) → next_command calls lines c ≡ Some command → IsNotIdle lines c
not_idle calls [] c command owes is = tt
not_idle calls (Step (Made n row) ∷ lines) c command owes is = tt
not_idle calls (Step (Idle n client) ∷ lines) c command owes is = λ same. owes (command, ap (next_command calls lines) same ∙ is)
not_idle calls (Log e ∷ lines) c command owes is = tt
not_idle calls (ReplyLine r ∷ lines) c command owes is = tt

-- nor where another client has made the newest turn
idle_others : (lines : List Line) (c d : ℕ) → last_client lines ≡ Some d → d ≢ c → IsNotIdle lines c
idle_others [] c d last other = tt
idle_others (Step (Made n row) ∷ lines) c d last other = tt
idle_others (Step (Idle n client) ∷ lines) c d last other = λ same. other (let e : client.0 ≡ d = cc in sym e ∙ same)
idle_others (Log e ∷ lines) c d last other = tt
idle_others (ReplyLine r ∷ lines) c d last other = tt

-- Moments

-- the words spelled this map at a moment after a row of the call's own time
pub record HasSpelled (lay : Layout) (now start : History) (m : List Pair) : Type 0 where
  pub row : StepRow
  pub before : History
  pub since : Extends before start
  pub moment : History
  pub behind : Extends moment (row ⊳ before)
  pub within : Extends now moment
  pub spelled : Spells lay (value moment) m

-- so they did with a row more
spelled_more : (lay : Layout) (now start : History) (r : StepRow) (m : List Pair) → HasSpelled lay now start m → HasSpelled lay (r ⊳ now) start m
spelled_more lay now start r m x = record { row = x.row; before = x.before; since = x.since; moment = x.moment; behind = x.behind; within = inr x.within; spelled = x.spelled }

-- an entry of a later turn leaves the map after a turn
pub map_before : (calls : List Call) (lines : List Line) (e : Entry) (m : ℕ) → m < e.step → map_at calls (Log e ∷ lines) m ≡ map_at calls lines m
map_before calls lines e m less = go (leb e.step m) refl
  where
    go : (b : Bool) → leb e.step m ≡ b → map_of calls (cond b (e ∷ entries_until m (written_log lines)) (entries_until m (written_log lines))) ≡ map_at calls lines m
    go true d = absurd (let i = leb-true e.step m d in omega (i, less, arith))
    go false d = refl

module _ (lay : Layout) (tries : ℕ) (calls : List Call) (c : ℕ) (command : Command) where
  -- each map after a turn of the call
  abbrev HaveSpelled : List Line → Type 0
  HaveSpelled lines = (first m : ℕ) → next_command calls lines c ≡ Some command → begin lines c ≡ Some first → first ≤ m → m ≤ turns lines → HasSpelled lay (history lay.mode lines) (start lay.mode lines c) (map_at calls lines m)

  -- the map after the newest turn, which has made a row
  newest : (lines older : List Line) (row : StepRow) (m : ℕ) → AreLines lay tries calls lines → IsSpelledAfter lay calls lines → history lay.mode lines ≡ row ⊳ history lay.mode older → start lay.mode lines c ≡ start lay.mode older c → m ≡ turns lines → HasSpelled lay (history lay.mode lines) (start lay.mode lines c) (map_at calls lines m)
  newest lines older row m a x now began last = record {
    row = row;
    before = history lay.mode older;
    since = subst (λ (k : History). Extends (history lay.mode older) k) (sym began) (start_was lay.mode older c);
    moment = history lay.mode lines;
    behind = subst (λ (k : History). Extends (history lay.mode lines) k) now (ends_self (history lay.mode lines));
    within = ends_self (history lay.mode lines);
    spelled = subst (λ ps. Spells lay (value (history lay.mode lines)) ps) (sym (ap (map_at calls lines) last ∙ map_now lay tries calls lines a)) x.spelled;
  }

  -- a turn that has made a row
  step_spelled : (lines : List Line) (n : ℕ) (row : StepRow) → AreLines lay tries calls (Step (Made n row) ∷ lines) → IsSpelledAfter lay calls (Step (Made n row) ∷ lines) → HaveSpelled lines → HaveSpelled (Step (Made n row) ∷ lines)
  unfolding AreLines
  step_spelled lines n row a x before first m is e from to = elim (cases_order m (suc (turns lines))) [
    | inl last ↦ newest (Step (Made n row) ∷ lines) lines row m a x refl (start_stays lay.mode lines (Made n row) c first e) last
    | inr (inl less) ↦ (
        let began = begun_before lines (Made n row) c first m (turn_number lay tries calls lines (Made n row) a.1.1) e from (omega (less, arith)) in
        subst (λ (k : History). HasSpelled lay (row ⊳ history lay.mode lines) k (map_at calls lines m)) (sym (start_stays lay.mode lines (Made n row) c first e)) (spelled_more lay (history lay.mode lines) (start lay.mode lines c) row (map_at calls lines m) (before first m is began from (omega (less, arith)))))
    | inr (inr more) ↦ absurd (omega (more, to, arith))
  ]

  -- one whose update has won
  log_spelled : (lines : List Line) (n : ℕ) (row : StepRow) (entry : Entry) → AreLines lay tries calls (Log entry ∷ Step (Made n row) ∷ lines) → IsSpelledAfter lay calls (Log entry ∷ Step (Made n row) ∷ lines) → HaveSpelled lines → HaveSpelled (Log entry ∷ Step (Made n row) ∷ lines)
  unfolding AreLines
  log_spelled lines n row entry a x before first m is e from to =
      let step : entry.step ≡ suc (turns lines) = log_step lay tries calls (Step (Made n row) ∷ lines) entry a.0 a.1 in
      elim (cases_order m (suc (turns lines))) [
        | inl last ↦ newest (Log entry ∷ Step (Made n row) ∷ lines) lines row m a x refl (start_stays lay.mode lines (Made n row) c first e) last
        | inr (inl less) ↦ (
            let began = begun_before lines (Made n row) c first m (turn_number lay tries calls lines (Made n row) a.0.1.1) e from (omega (less, arith)) in
            let there = spelled_more lay (history lay.mode lines) (start lay.mode lines c) row (map_at calls lines m) (before first m is began from (omega (less, arith))) in
            let at_start = subst (λ (k : History). HasSpelled lay (row ⊳ history lay.mode lines) k (map_at calls lines m)) (sym (start_stays lay.mode lines (Made n row) c first e)) there in
            subst (λ ps. HasSpelled lay (row ⊳ history lay.mode lines) (start lay.mode (Step (Made n row) ∷ lines) c) ps) (sym (map_before calls (Step (Made n row) ∷ lines) entry m (omega (step, less, arith)))) at_start)
        | inr (inr more) ↦ absurd (omega (more, to, arith))
      ]

  -- another client's turn without a row
  idle_spelled : (lines : List Line) (row : TurnRow) → client_of row ≢ c → history lay.mode (Step row ∷ lines) ≡ history lay.mode lines → AreLines lay tries calls (Step row ∷ lines) → HaveSpelled lines → HaveSpelled (Step row ∷ lines)
  unfolding AreLines
  idle_spelled lines row other now a before first m is e from to =
      let began = begun_other lines row c first other e in
      let there : HasSpelled lay (history lay.mode lines) (start lay.mode lines c) (map_at calls lines m) = elim (cases_order m (suc (turns lines))) [
        | inl last ↦ subst (λ ps. HasSpelled lay (history lay.mode lines) (start lay.mode lines c) ps) (map_now lay tries calls lines a.0 ∙ sym (ap (map_at calls lines) last ∙ map_now lay tries calls (Step row ∷ lines) a)) (before first (turns lines) is began (begin_within lay tries calls lines c first a.0 began) (omega arith))
        | inr (inl less) ↦ before first m is began from (omega (less, arith))
        | inr (inr more) ↦ absurd (omega (more, to, arith))
      ] in
      subst (λ (k : History). HasSpelled lay k (start lay.mode (Step row ∷ lines) c) (map_at calls lines m)) (sym now) (subst (λ (k : History). HasSpelled lay (history lay.mode lines) k (map_at calls lines m)) (sym (start_stays lay.mode lines row c first e)) there)

  -- another client's reply
  reply_spelled : (lines : List Line) (reply : Finished) → (reply.client.0 ≢ c → HaveSpelled lines) → HaveSpelled (ReplyLine reply ∷ lines)
  reply_spelled lines reply before first m is e from to = go (eqb reply.client.0 c) refl
    where
      go : (own : Bool) → eqb reply.client.0 c ≡ own → HasSpelled lay (history lay.mode lines) (start lay.mode (ReplyLine reply ∷ lines) c) (map_at calls lines m)
      go true v = absurd (let y : None ≡ Some first = rw v at e in cc)
      go false v = rw v (before (eqb-false reply.client.0 c v) first m (rw v at is) (rw v at e) from to)

  pub have_spelled : (lines : List Line) → AreLines lay tries calls lines → AreSpelled lay calls lines → entry_owed lay lines ≡ None → (next_command calls lines c ≡ Some command → IsNotIdle lines c) → HaveSpelled lines
  unfolding AreLines AreSpelled
  have_spelled [] a x owed idle first m is e from to = absurd (let y : None ≡ Some first = e in cc)
  have_spelled (Step (Made n row) ∷ lines) a x owed idle first m is e from to = step_spelled lines n row a (x.1 owed) (have_spelled lines a.0 x.0 a.1.0.entry (not_idle calls lines c command a.1.0.reply)) first m is e from to
  have_spelled (Step (Idle n client) ∷ lines) a x owed idle first m is e from to = idle_spelled lines (Idle n client) (idle is) refl a (have_spelled lines a.0 x.0 a.1.0.entry (not_idle calls lines c command a.1.0.reply)) first m is e from to
  have_spelled (ReplyLine reply ∷ lines) a x owed idle first m is e from to = reply_spelled lines reply (λ other. have_spelled lines a.0 x.0 a.1.0 (λ _. idle_others lines c reply.client.0 a.1.1.client other)) first m is e from to
  have_spelled (Log entry ∷ Step (Made n row) ∷ lines) a x owed idle first m is e from to = log_spelled lines n row entry a (x.1 refl) (have_spelled lines a.0.0 x.0.0 a.0.1.0.entry (not_idle calls lines c command a.0.1.0.reply)) first m is e from to
  have_spelled (Log entry ∷ Step (Idle n client) ∷ lines) a x owed idle first m is e from to = absurd a.1
  have_spelled (Log entry ∷ Log entry' ∷ lines) a x owed idle first m is e from to = absurd a.1
  have_spelled (Log entry ∷ ReplyLine reply ∷ lines) a x owed idle first m is e from to = absurd a.1
  have_spelled (Log entry ∷ []) a x owed idle first m is e from to = absurd a.1

-- What was said of such a map

module _ (lay : Layout) (now start : History) (m : List Pair) (y : HasSpelled lay now start m) where
  -- the map replied what it replies
  pub replied_by : (call : MapCall) (told : MapReply) → reply call m ≡ told → HasReplied lay now start call told
  replied_by call told is = record { row = y.row; before = y.before; since = y.since; moment = y.moment; behind = y.behind; within = y.within; map = m; spelled = y.spelled; replies = is }

  -- there was something to change, if the call needs something on it
  pub to_change_by : (call : MapCall) (nodes : ℕ) → 0 < nodes → need call m ≡ nodes → HadToChange lay now start call nodes
  unfolding replied_by
  to_change_by call nodes some needs = record { told = reply call m; replied = replied_by call (reply call m) refl; needs = needs; some = some }

  -- and a key had what it has
  pub answer_by : (key : ℕ) (value : Option ℕ) → get key m ≡ value → IsAnswerAt lay now start key value
  answer_by key value gives = record { moment = y.moment; within = y.within; since = ends_trans y.moment (y.row ⊳ y.before) start y.behind (inr y.since); map = m; spelled = y.spelled; gives = gives }
