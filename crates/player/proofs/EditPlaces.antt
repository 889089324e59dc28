-- Where a call of the map took place that has changed it: at its one entry, and it answers what the
-- map had just before. One that is refused took place nowhere.
use Rattle.std.proofs.Common.{◌≡◌, ℕ, suc, ◌⊎◌, inl, inr, ⊎_elim, Bool, true, false, cond, ◌&&◌, ◌||◌, eqb, eqb-true, eq-eqb, ne_eqb, is_some, List, [], ◌∷◌, ◌++◌, Option, Some, None, refl, sym, ◌∙◌, ap, subst}
use Rattle.arena.specs.Opening.{IsMap}
use Rattle.histories.specs.Common.{Layout, Row, History, Start, ◌⊳◌, value, Extends, IsOwnScx, Lawful, IsWin, IsRun}
use Rattle.histories.proofs.Lemmas.{UpdateWins, lawful_row, one_scx_owner}
use Rattle.record.specs.Common.{MapCall, MapReply, Spells, Call, Command, HasItsEntry, enters, IsRight, AreLines, linked, map_of, written_log}
use Rattle.record.specs.Common.{entries_of_call, reply_told, next_command, AreSpelled, history, turns, answered, begin, start, won, entry_owed, client_of}
use Rattle.edits.specs.Laws.Entered.{none_yet}
use Rattle.record.specs.declared.record.Line.{Line}
use Rattle.record.specs.declared.record.Line.TheVariants.{Step, Log, Reply as ReplyLine}
use Rattle.record.specs.declared.record.TurnRow.{TurnRow as Turn}
use Rattle.record.specs.declared.record.TurnRow.TheVariants.{Step as Made, Idle}
use Rattle.record.specs.declared.record.Entry.{Entry}
use Rattle.record.specs.declared.record.Finished.{Finished}
use Rattle.record.specs.Placed.{IsPlacedChange, IsRefused}
use Rattle.player.specs.Allowed.{PlayedAllows}
use Rattle.linearization.specs.declared.places.Change.{Change}
use Rattle.player.specs.Moments.{IsMomentBy}
use Rattle.player.specs.ClientView.{client_view, AnswersRight, IsToldChange}
use Rattle.record.proofs.Lemmas.{entries_none, AreOf, map_calls}
use Rattle.linearization.specs.Entries.{AreEntries}
use Rattle.linearization.proofs.Lemmas.{spelled}
use Rattle.player.proofs.NewestRow.{older, newest_row}
use Rattle.player.proofs.MapCalls.{map_run, run_before}
use Rattle.player.proofs.Winners.{win_enters}

either : {X : Type 0} (b : Bool) (x y : X) → (cond b x y ≡ x) ⊎ (cond b x y ≡ y)
either true x y = inl refl
either false x y = inr refl

some_entry : (a b : Entry) → Some a ≡ Some b → a ≡ b
some_entry a b e = cc

module _ (lay : Layout) (tries : ℕ) (calls : List Call) (c : ℕ) where
  -- an entry of another call counts none
  other_entry : (e : Entry) (n k : ℕ) → (e.client.0 ≡ c → e.call ≡ n → ⊥) → cond (eqb c e.client.0 && eqb n e.call) (suc k) k ≡ k
  other_entry e n k d = go (eqb c e.client.0) (eqb n e.call) refl refl
    where
      go : (a b : Bool) → eqb c e.client.0 ≡ a → eqb n e.call ≡ b → cond (a && b) (suc k) k ≡ k
      go false b p q = refl
      go true false p q = refl
      go true true p q = absurd (d (sym (eqb-true c e.client.0 p)) (sym (eqb-true n e.call q)))

  -- The entry of a row that has won for the client in its call

  record IsFoundWin (lines : List Line) (before : History) : Type 0 where
    entry : Entry
    newer : List Line
    number : ℕ
    row : Row
    rest : List Line
    entered : lines ≡ newer ++ Log entry ∷ Step (Made number row) ∷ rest
    client : entry.client.0 ≡ c
    call : entry.call ≡ answered lines c
    won_is : won lay lines c ≡ Some entry.step
    once : entries_of_call c (answered lines c) (written_log lines) ≡ 1
    before_is : history lay.mode rest ≡ before
    spells : Spells lay (value (history lay.mode rest)) (map_of calls (written_log rest))

  module _ (mode : IsMap lay.mode) (all : AreOf lay.mode calls) (row : Row) (before : History) (s : ℕ) (win : IsWin before row s) (own : IsOwnScx lay c s) where
    -- the row is after the moment that it is after
    not_before : (h : History) → Extends h (row ⊳ before) → Extends before h → ⊥
    not_before h within since = none_yet lay c h row before s within since win own

    -- where it is the newest, it makes s win
    wins_now : (h : History) (r : Row) → Lawful lay (r ⊳ h) → row ⊳ before ≡ r ⊳ h → UpdateWins h r s
    wins_now h r l e =
        let now : IsWin h r s = subst (λ (k : History). IsWin (older k) (newest_row r k) s) e win in
        record { kind = now.kind; update = now.update; before = (lawful_row lay h r l).before; found = now.found; stored = now.update.exchange.won now.found }

    -- the call has begun at the same moment
    same_start : (lines : List Line) (turn : Turn) → Extends (history lay.mode (Step turn ∷ lines)) (row ⊳ before) → Extends before (start lay.mode (Step turn ∷ lines) c) → Extends before (start lay.mode lines c)
    same_start lines turn within since = ⊎_elim
        (λ e. subst (λ (k : History). Extends before k) e since)
        (λ e. absurd (not_before (history lay.mode (Step turn ∷ lines)) within (subst (λ (k : History). Extends before k) e since)))
        (either (eqb (client_of turn) c || is_some (begin lines c)) (start lay.mode lines c) (history lay.mode (Step turn ∷ lines)))

    find_win : (lines : List Line) → IsRun PlayedAllows lay (history lay.mode lines) → AreLines lay tries calls lines → entry_owed lay lines ≡ None → Extends (history lay.mode lines) (row ⊳ before) → Extends before (start lay.mode lines c) → IsFoundWin lines before
    unfolding AreLines
    find_win [] run x owed within since = absurd (let e : row ⊳ before ≡ Start lay.mode = within in cc)
    find_win (Step (Idle number client) ∷ lines) run x owed within since =
        let f = find_win lines run x.0 x.1.0.entry within (same_start lines (Idle number client) within since) in
        record { entry = f.entry; newer = Step (Idle number client) ∷ f.newer; number = f.number; row = f.row; rest = f.rest; entered = ap (λ (l : List Line). Step (Idle number client) ∷ l) f.entered; client = f.client; call = f.call; won_is = f.won_is; once = f.once; before_is = f.before_is; spells = f.spells }
    find_win (Step (Made number r) ∷ lines) run x owed within since = go within (λ e. find_win lines (run_before PlayedAllows lay (history lay.mode lines) r run) x.0 x.1.0.entry e (same_start lines (Made number r) within since))
      where
        go : Extends (r ⊳ history lay.mode lines) (row ⊳ before) → (Extends (history lay.mode lines) (row ⊳ before) → IsFoundWin lines before) → IsFoundWin (Step (Made number r) ∷ lines) before
        go (inl e) rec = absurd (let y = win_enters lay lines number r run.lawful s (wins_now (history lay.mode lines) r run.lawful e) in let d : None ≡ Some y.entry = sym owed ∙ y.is in cc)
        go (inr e) rec =
            let f = rec e in
            record { entry = f.entry; newer = Step (Made number r) ∷ f.newer; number = f.number; row = f.row; rest = f.rest; entered = ap (λ (l : List Line). Step (Made number r) ∷ l) f.entered; client = f.client; call = f.call; won_is = rw owed f.won_is; once = f.once; before_is = f.before_is; spells = f.spells }
    find_win (ReplyLine reply ∷ lines) run x owed within since = go (eqb reply.client.0 c) refl since (λ e. find_win lines run x.0 x.1.0 within e)
      where
        go : (b : Bool) → eqb reply.client.0 c ≡ b → Extends before (cond b (history lay.mode lines) (start lay.mode lines c)) → (Extends before (start lay.mode lines c) → IsFoundWin lines before) → IsFoundWin (ReplyLine reply ∷ lines) before
        go true p e rec = absurd (not_before (history lay.mode lines) within e)
        go false p e rec =
            let f = rec e in
            record { entry = f.entry; newer = ReplyLine reply ∷ f.newer; number = f.number; row = f.row; rest = f.rest; entered = ap (λ (l : List Line). ReplyLine reply ∷ l) f.entered; client = f.client; call = rw p f.call; won_is = rw p f.won_is; once = rw p f.once; before_is = f.before_is; spells = f.spells }
    find_win (Log e ∷ Step (Made number r) ∷ lines) run x owed within since = go within (λ q. find_win lines (run_before PlayedAllows lay (history lay.mode lines) r run) x.0.0 x.0.1.0.entry q (same_start lines (Made number r) within since))
      where
        now : row ⊳ before ≡ r ⊳ history lay.mode lines → IsFoundWin (Log e ∷ Step (Made number r) ∷ lines) before
        now q =
            let y = win_enters lay lines number r run.lawful s (wins_now (history lay.mode lines) r run.lawful q) in
            let same : y.entry ≡ e = some_entry y.entry e (sym y.is ∙ x.1.0) in
            let client : e.client.0 ≡ c = subst (λ (k : Entry). k.client.0 ≡ c) same (one_scx_owner lay y.entry.client.0 c s y.of_win.own own) in
            let step : number ≡ e.step = sym y.step_is ∙ ap (λ (k : Entry). k.step) same in
            let call : e.call ≡ answered lines c = x.1.1.call ∙ ap (λ (k : ℕ). answered lines k) client in
            let none : won lay lines c ≡ None = ap (λ (k : ℕ). won lay lines k) (sym client) ∙ x.1.1.first in
            record {
              entry = e;
              newer = [];
              number = number;
              row = r;
              rest = lines;
              entered = refl;
              client = client;
              call = call;
              won_is = rw (x.1.0, eq-eqb e.client.0 c client) (ap (λ (k : ℕ). Some k) step);
              once = rw (eq-eqb c e.client.0 (sym client), eq-eqb (answered lines c) e.call (sym call)) (ap suc (entries_none lay tries calls lines x.0.0 c none));
              before_is = ap older (sym q);
              spells = spelled lay tries calls mode (map_calls lay.mode calls mode all) lines x.0.0 (map_run lay (history lay.mode lines) mode (run_before PlayedAllows lay (history lay.mode lines) r run)) x.0.1.0.entry;
            }

        later : IsFoundWin lines before → IsFoundWin (Log e ∷ Step (Made number r) ∷ lines) before
        later f =
            let other : e.client.0 ≡ c → ⊥ = λ z. let none : won lay lines c ≡ None = ap (λ (k : ℕ). won lay lines k) (sym z) ∙ x.1.1.first in let d : None ≡ Some f.entry.step = sym none ∙ f.won_is in cc in
            record {
              entry = f.entry;
              newer = Log e ∷ Step (Made number r) ∷ f.newer;
              number = f.number;
              row = f.row;
              rest = f.rest;
              entered = ap (λ (l : List Line). Log e ∷ Step (Made number r) ∷ l) f.entered;
              client = f.client;
              call = f.call;
              won_is = rw (x.1.0, ne_eqb e.client.0 c other) f.won_is;
              once = other_entry e (answered lines c) (entries_of_call c (answered lines c) (written_log lines)) (λ z w. other z) ∙ f.once;
              before_is = f.before_is;
              spells = f.spells;
            }

        go : Extends (r ⊳ history lay.mode lines) (row ⊳ before) → (Extends (history lay.mode lines) (row ⊳ before) → IsFoundWin lines before) → IsFoundWin (Log e ∷ Step (Made number r) ∷ lines) before
        go (inl q) rec = now q
        go (inr q) rec = later (rec q)
    find_win (Log e ∷ Step (Idle number client) ∷ lines) run x owed within since = absurd x.1
    find_win (Log e ∷ Log e' ∷ lines) run x owed within since = absurd x.1
    find_win (Log e ∷ ReplyLine reply ∷ lines) run x owed within since = absurd x.1
    find_win (Log e ∷ []) run x owed within since = absurd x.1

-- where no update of the call has won
pub unwon_none : (won : Option ℕ) → HasItsEntry false won → won ≡ None
unwon_none None x = refl
unwon_none (Some k) x = absurd x

-- what is known of a reply that a call of the map has given
pub record IsMapReply (lay : Layout) (tries : ℕ) (calls : List Call) (lines : List Line) (changes : List Change) (r : Finished) (c : ℕ) (command : Command) : Type 0 where
  pub mode : IsMap lay.mode
  pub all : AreOf lay.mode calls
  pub run : IsRun PlayedAllows lay (history lay.mode lines)
  pub lines_are : AreLines lay tries calls lines
  pub spells : AreSpelled lay calls lines
  pub entries : AreEntries calls lines changes
  pub owed : entry_owed lay lines ≡ None
  pub client : r.client.0 ≡ c
  pub number : r.call ≡ answered lines c
  pub next : next_command calls lines c ≡ Some command
  pub began : begin lines c ≡ Some r.begin
  pub ended : r.end ≡ turns lines
  pub right : IsRight lay tries c (history lay.mode lines) (start lay.mode lines c) (linked calls lay.mode lines c) command r.answer
  pub tells : AnswersRight (client_view lay tries calls lines c) c command r.answer
  pub entry : HasItsEntry (enters command r.answer) (won lay lines c)
  pub moment : IsMomentBy calls lines changes command r.answer r.begin r.end (won lay lines c) r.moment

module _ (lay : Layout) (tries : ℕ) (calls : List Call) (lines : List Line) (changes : List Change) (r : Finished) (c : ℕ) where
  pub refused : (command : Command) → IsMapReply lay tries calls lines changes r c command → HasItsEntry false (won lay lines c) → r.moment ≡ None → IsRefused lines r
  refused command x y none = record { none = rw (x.client, x.number) (entries_none lay tries calls lines x.lines_are c (unwon_none (won lay lines c) y)); moment = none }

  -- a call that has changed the map took place at its entry
  pub changed : (command : Command) (call : MapCall) (told : MapReply) → IsMapReply lay tries calls lines changes r c command → reply_told r.answer ≡ Some told → IsToldChange (client_view lay tries calls lines c) c call told → r.moment ≡ won lay lines c → IsPlacedChange calls lines call r
  changed command call told x says y at =
      let f = find_win lay tries calls c x.mode x.all y.row y.before y.scx y.win.wins y.win.own lines x.run x.lines_are x.owed y.win.within y.win.since in
      record {
        entry = f.entry;
        newer = f.newer;
        older = Step (Made f.number f.row) ∷ f.rest;
        entered = f.entered;
        client = f.client ∙ sym x.client;
        number = f.call ∙ sym x.number;
        once = rw (x.client, x.number) f.once;
        moment = at ∙ f.won_is;
        replies = says ∙ ap (λ (t : MapReply). Some t) (sym (y.replies (map_of calls (written_log f.rest)) (subst (λ (h : History). Spells lay (value h) (map_of calls (written_log f.rest))) f.before_is f.spells)));
      }
