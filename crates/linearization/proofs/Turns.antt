-- Each moment of a reading call is just after one of its turns: the words spelled then the map that
-- record has after that turn.
use Rattle.std.proofs.Common.{◌≡◌, ℕ, suc, ◌≤◌, ◌⊎◌, inl, inr, ⊎_elim, Bool, true, false, cond, ◌&&◌, eqb, not, List, [], ◌∷◌, Option, Some, None, refl, sym, ◌∙◌, ap, subst, arith, nat_le as leb}
use Rattle.std.proofs.Common.{eqb-true, leb-true}
use Rattle.histories.specs.Common.{Layout, Kind, Row as StepRow, History, Opened, ◌⊳◌, value, Extends}
use Rattle.arena.proofs.Lemmas.{ends_self, ends_trans, same_moment}
use Rattle.record.specs.Common.{Pair, MapCall, MapReply, reply, Spells, Call, Command, client_of, history, turns, begin, start, entry_at, entry_of, entry_owed, entries}
use Rattle.record.specs.Common.{is_update, next_command, map_call_of, written_log, entries_until, map_of, map_at, AreSpelled, IsSpelledAfter, AreLines, HasReplied}
use Rattle.ordered_map.proofs.Lemmas.{one_spelling}
use Rattle.record.specs.declared.record.Line.{Line}
use Rattle.record.specs.declared.record.Line.TheVariants.{Step, Log, Reply as ReplyLine}
use Rattle.record.specs.declared.record.TurnRow.{TurnRow}
use Rattle.record.specs.declared.record.TurnRow.TheVariants.{Step as Made, Idle}
use Rattle.record.specs.declared.record.Entry.{Entry}
use Rattle.record.specs.declared.record.Finished.{Finished}
use Rattle.record.specs.CommandRules.{MayMake}
use Rattle.record.proofs.Lemmas.{start_unbegun, begin_within, log_step}
use Rattle.linearization.specs.declared.places.Change.{Change}
use Rattle.linearization.specs.Entries.{IsChangeBy, AreUpTo, IsChangeOf}
use Rattle.linearization.proofs.Values.{until_all}

-- The map after the newest turn

later_too : (turn m : ℕ) (es : List Entry) → turn ≤ m → AreUpTo turn es → AreUpTo m es
later_too turn m [] i a = tt
later_too turn m (e ∷ es) i a = ((let j = a.0 in omega (i, j, arith)), later_too turn m es i a.1)

-- all entries are of turns so far
so_far : (lay : Layout) (tries : ℕ) (calls : List Call) (lines : List Line) → AreLines lay tries calls lines → AreUpTo (turns lines) (written_log lines)
unfolding AreLines
so_far lay tries calls [] a = tt
so_far lay tries calls (Step row ∷ lines) a = later_too (turns lines) (suc (turns lines)) (written_log lines) (omega arith) (so_far lay tries calls lines a.0)
so_far lay tries calls (Log e ∷ lines) a =
    let s : e.step ≡ turns lines = log_step lay tries calls lines e a.0 a.1 in
    (omega (s, arith), so_far lay tries calls lines a.0)
so_far lay tries calls (ReplyLine reply ∷ lines) a = so_far lay tries calls lines a.0

-- the change of the newest entry is that of its call, on the map of the older ones
pub change_of_newest : (lay : Layout) (tries : ℕ) (calls : List Call) (lines : List Line) (e : Entry) (c : Change) → AreLines lay tries calls (Log e ∷ lines) → c.turn ≡ e.step → IsChangeBy (map_call_of calls e.client.0 e.call) (map_of calls (written_log lines)) c → IsChangeOf calls (written_log lines) e c
unfolding AreLines
change_of_newest lay tries calls lines e c a turn by = (turn, by, subst (λ (k : ℕ). AreUpTo k (written_log lines)) (sym (log_step lay tries calls lines e a.0 a.1)) (so_far lay tries calls lines a.0))

until_now : (lay : Layout) (tries : ℕ) (calls : List Call) (lines : List Line) (m : ℕ) → AreLines lay tries calls lines → turns lines ≤ m → entries_until m (written_log lines) ≡ written_log lines
until_now lay tries calls lines m a i = until_all (turns lines) m (written_log lines) (so_far lay tries calls lines a) i

pub map_now : (lay : Layout) (tries : ℕ) (calls : List Call) (lines : List Line) → AreLines lay tries calls lines → map_at calls lines (turns lines) ≡ map_of calls (written_log lines)
map_now lay tries calls lines a = ap (map_of calls) (until_now lay tries calls lines (turns lines) a (omega arith))

-- Moments

tail_of : History → History
tail_of (Opened o) = Opened o
tail_of (r ⊳ h) = h

same_tail : (a b : History) (r t : StepRow) → r ⊳ a ≡ t ⊳ b → a ≡ b
unfolding tail_of
same_tail a b r t e = ap tail_of e

-- no moment is after itself
never_behind : (h : History) (row : StepRow) → Extends h (row ⊳ h) → ⊥
never_behind (Opened o) row e = absurd (let y : row ⊳ Opened o ≡ Opened o = e in cc)
never_behind (r ⊳ h) row (inl e) = never_behind h r (subst (λ (k : History). Extends h k) (sym (same_tail (r ⊳ h) h row r e)) (ends_self h))
never_behind (r ⊳ h) row (inr e) = never_behind h r (ends_trans h (row ⊳ (r ⊳ h)) (r ⊳ h) e (inr (ends_self (r ⊳ h))))

-- these pairs are the map after a turn, from the turn `first` on
pub record IsAfterTurn (calls : List Call) (lines : List Line) (first : ℕ) (ps : List Pair) : Type 0 where
  pub turn : ℕ
  pub from : first ≤ turn
  pub to : turn ≤ turns lines
  pub is : ps ≡ map_at calls lines turn

-- so they are with a turn more
after_step : (calls : List Call) (lines : List Line) (row : TurnRow) (first : ℕ) (ps : List Pair) → IsAfterTurn calls lines first ps → IsAfterTurn calls (Step row ∷ lines) first ps
after_step calls lines row first ps x = record { turn = x.turn; from = x.from; to = let i = x.to in omega (i, arith); is = x.is }

-- and with its entry
after_log : (calls : List Call) (lines : List Line) (row : TurnRow) (e : Entry) (first : ℕ) (ps : List Pair) → e.step ≡ suc (turns lines) → IsAfterTurn calls lines first ps → IsAfterTurn calls (Log e ∷ Step row ∷ lines) first ps
after_log calls lines row e first ps s x = record { turn = x.turn; from = x.from; to = let i = x.to in omega (i, arith); is = x.is ∙ ap (map_of calls) (sym later) }
  where
    later : cond (leb e.step x.turn) (e ∷ entries_until x.turn (written_log lines)) (entries_until x.turn (written_log lines)) ≡ entries_until x.turn (written_log lines)
    later = go (leb e.step x.turn) refl
      where
        go : (b : Bool) → leb e.step x.turn ≡ b → cond b (e ∷ entries_until x.turn (written_log lines)) (entries_until x.turn (written_log lines)) ≡ entries_until x.turn (written_log lines)
        go true d = let j = leb-true e.step x.turn d in let i = x.to in absurd (omega (s, i, j, arith))
        go false d = refl

-- the map replies this after one of the turns from the turn `first` on
abbrev pub IsRepliedIn : List Call → List Line → MapCall → MapReply → ℕ → Type 0
IsRepliedIn calls lines call told first = (m : ℕ) × (first ≤ m) × (m ≤ turns lines) × (reply call (map_at calls lines m) ≡ told)

-- an update that has won was made by a step of that kind
is_won_update : (lay : Layout) (lines : List Line) (n : ℕ) (row : StepRow) (e : Entry) → entry_of lay lines n row ≡ Some e → is_update row.kind ≡ false → ⊥
is_won_update lay lines n row e x u = go (is_update row.kind) u x
  where
    go : (b : Bool) → b ≡ false → cond (b && not (eqb row.before row.after)) (entry_at lay (history lay.mode lines) (suc (entries lines)) n row.word) None ≡ Some e → ⊥
    go true d x = let y : true ≡ false = d in absurd (cc)
    go false d x = let y : None ≡ Some e = x in absurd (cc)

module _ (lay : Layout) (tries : ℕ) (calls : List Call) (c : ℕ) (command : Command) where
  -- a moment after the call's start; or the one just before its first turn, of a call that makes no
  -- update
  abbrev IsMomentSince : History → History → Type 0
  IsMomentSince start h = Extends h start × (h ≡ start → (kind : Kind) → MayMake command kind → is_update kind ≡ false)

  -- what the words spelled at such a moment is the map after a turn of the client's call
  abbrev AreMoments : List Line → Type 0
  AreMoments lines = (h : History) (ps : List Pair) (first : ℕ) → next_command calls lines c ≡ Some command → begin lines c ≡ Some first → Extends (history lay.mode lines) h → IsMomentSince (start lay.mode lines c) h → Spells lay (value h) ps → IsAfterTurn calls lines first ps

  -- the newest moment
  at_newest : (lines : List Line) (ps : List Pair) (first : ℕ) → AreLines lay tries calls lines → IsSpelledAfter lay calls lines → begin lines c ≡ Some first → Spells lay (value (history lay.mode lines)) ps → IsAfterTurn calls lines first ps
  at_newest lines ps first a x e s = record {
    turn = turns lines;
    from = begin_within lay tries calls lines c first a e;
    to = omega arith;
    is = one_spelling lay (value (history lay.mode lines)) ps (map_of calls (written_log lines)) s x.spelled ∙ sym (map_now lay tries calls lines a);
  }

  -- a moment before the newest turn; or else this turn is the call's first, and makes no update
  before_newest : (lines : List Line) (row : TurnRow) (h : History) (ps : List Pair) (first : ℕ) → IsSpelledAfter lay calls lines → AreMoments lines → next_command calls lines c ≡ Some command → begin (Step row ∷ lines) c ≡ Some first → Extends (history lay.mode lines) h → IsMomentSince (start lay.mode (Step row ∷ lines) c) h → Spells lay (value h) ps → IsAfterTurn calls lines first ps ⊎ ((client_of row ≡ c) × ((kind : Kind) → MayMake command kind → is_update kind ≡ false) × (ps ≡ map_of calls (written_log lines)))
  before_newest lines row h ps first spelled moments is e within since s = go (begin lines c) refl (eqb (client_of row) c) refl
    where
      go : (began : Option ℕ) → begin lines c ≡ began → (own : Bool) → eqb (client_of row) c ≡ own → IsAfterTurn calls lines first ps ⊎ ((client_of row ≡ c) × ((kind : Kind) → MayMake command kind → is_update kind ≡ false) × (ps ≡ map_of calls (written_log lines)))
      go (Some k) u true v = inl (moments h ps first is (u ∙ (rw (u, v) at e)) within (rw (u, v) at since) s)
      go (Some k) u false v = inl (moments h ps first is (u ∙ (rw (u, v) at e)) within (rw (u, v) at since) s)
      go None u true v =
          let here : IsMomentSince (history lay.mode lines) h = rw (start_unbegun lay.mode lines c u) at (rw (u, v) at since) in
          let same : h ≡ history lay.mode lines = same_moment (history lay.mode lines) h within here.0 in
          inr (eqb-true (client_of row) c v, here.1 same, one_spelling lay (value (history lay.mode lines)) ps (map_of calls (written_log lines)) (subst (λ (k : History). Spells lay (value k) ps) same s) spelled.spelled)
      go None u false v = absurd (let y : None ≡ Some first = rw (u, v) at e in cc)

  spelled_now : (lines : List Line) → AreSpelled lay calls lines → entry_owed lay lines ≡ None → IsSpelledAfter lay calls lines
  unfolding AreSpelled
  spelled_now [] x owed = x
  spelled_now (line ∷ lines) x owed = x.1 owed

  -- with a turn more that owes no entry
  step_back : (lines : List Line) (row : TurnRow) (h : History) (ps : List Pair) (first : ℕ) → AreLines lay tries calls (Step row ∷ lines) → IsSpelledAfter lay calls lines → AreMoments lines → next_command calls lines c ≡ Some command → begin (Step row ∷ lines) c ≡ Some first → Extends (history lay.mode lines) h → IsMomentSince (start lay.mode (Step row ∷ lines) c) h → Spells lay (value h) ps → IsAfterTurn calls (Step row ∷ lines) first ps
  step_back lines row h ps first a spelled moments is e within since s =
      ⊎_elim (λ x. after_step calls lines row first ps x)
      (λ y. record { turn = suc (turns lines); from = begin_within lay tries calls (Step row ∷ lines) c first a e; to = omega arith; is = y.2 ∙ sym (map_now lay tries calls (Step row ∷ lines) a) })
      (before_newest lines row h ps first spelled moments is e within since s)

  -- and with one whose update has won, which is not of this call
  log_back : (lines : List Line) (n : ℕ) (row : StepRow) (entry : Entry) (h : History) (ps : List Pair) (first : ℕ) → AreLines lay tries calls (Log entry ∷ Step (Made n row) ∷ lines) → IsSpelledAfter lay calls lines → AreMoments lines → next_command calls lines c ≡ Some command → begin (Step (Made n row) ∷ lines) c ≡ Some first → Extends (history lay.mode lines) h → IsMomentSince (start lay.mode (Step (Made n row) ∷ lines) c) h → Spells lay (value h) ps → IsAfterTurn calls (Log entry ∷ Step (Made n row) ∷ lines) first ps
  unfolding AreLines
  log_back lines n row entry h ps first a spelled moments is e within since s =
      ⊎_elim (λ x. after_log calls lines (Made n row) entry first ps (log_step lay tries calls (Step (Made n row) ∷ lines) entry a.0 a.1) x)
      (λ y. absurd (is_won_update lay lines n row entry a.1.0 (no_update y.0 y.1)))
      (before_newest lines (Made n row) h ps first spelled moments is e within since s)
    where
      no_update : row.pass.0 ≡ c → ((kind : Kind) → MayMake command kind → is_update kind ≡ false) → is_update row.kind ≡ false
      no_update own reads =
          let x = a.0.1.1 in
          let there : next_command calls lines c ≡ Some x.command = rw own at x.is in
          let same : x.command ≡ command = (let both : Some x.command ≡ Some command = sym there ∙ is in cc) in
          reads row.kind (subst (λ (k : Command). MayMake k row.kind) same x.may)

  reply_back : (lines : List Line) (reply : Finished) (h : History) (ps : List Pair) (first : ℕ) → AreMoments lines → next_command calls (ReplyLine reply ∷ lines) c ≡ Some command → begin (ReplyLine reply ∷ lines) c ≡ Some first → Extends (history lay.mode lines) h → IsMomentSince (start lay.mode (ReplyLine reply ∷ lines) c) h → Spells lay (value h) ps → IsAfterTurn calls (ReplyLine reply ∷ lines) first ps
  reply_back lines reply h ps first moments is e within since s = go (eqb reply.client.0 c) refl
    where
      go : (own : Bool) → eqb reply.client.0 c ≡ own → IsAfterTurn calls (ReplyLine reply ∷ lines) first ps
      go true v = absurd (let y : None ≡ Some first = rw v at e in cc)
      go false v = let x = moments h ps first (rw v at is) (rw v at e) within (rw v at since) s in record { turn = x.turn; from = x.from; to = x.to; is = x.is }

  moments : (lines : List Line) → AreLines lay tries calls lines → AreSpelled lay calls lines → entry_owed lay lines ≡ None → AreMoments lines
  unfolding AreLines AreSpelled
  moments [] a x owed h ps first is e within since s = absurd (let y : None ≡ Some first = e in cc)
  moments (Step (Made n row) ∷ lines) a x owed h ps first is e (inl same) since s = at_newest (Step (Made n row) ∷ lines) ps first a (x.1 owed) e (subst (λ (k : History). Spells lay (value k) ps) same s)
  moments (Step (Made n row) ∷ lines) a x owed h ps first is e (inr within) since s = step_back lines (Made n row) h ps first a (spelled_now lines x.0 a.1.0.entry) (moments lines a.0 x.0 a.1.0.entry) is e within since s
  moments (Step (Idle n client) ∷ lines) a x owed h ps first is e within since s = step_back lines (Idle n client) h ps first a (spelled_now lines x.0 a.1.0.entry) (moments lines a.0 x.0 a.1.0.entry) is e within since s
  moments (ReplyLine reply ∷ lines) a x owed h ps first is e within since s = reply_back lines reply h ps first (moments lines a.0 x.0 a.1.0) is e within since s
  moments (Log entry ∷ Step (Made n row) ∷ lines) a x owed h ps first is e (inl same) since s = at_newest (Log entry ∷ Step (Made n row) ∷ lines) ps first a (x.1 refl) e (subst (λ (k : History). Spells lay (value k) ps) same s)
  moments (Log entry ∷ Step (Made n row) ∷ lines) a x owed h ps first is e (inr within) since s = log_back lines n row entry h ps first a (spelled_now lines x.0.0 a.0.1.0.entry) (moments lines a.0.0 x.0.0 a.0.1.0.entry) is e within since s
  moments (Log entry ∷ Step (Idle n client) ∷ lines) a x owed h ps first is e within since s = absurd a.1
  moments (Log entry ∷ Log entry' ∷ lines) a x owed h ps first is e within since s = absurd a.1
  moments (Log entry ∷ ReplyLine reply ∷ lines) a x owed h ps first is e within since s = absurd a.1
  moments (Log entry ∷ []) a x owed h ps first is e within since s = absurd a.1

  -- and one of any call after which the map replies what it has replied after a row within the call
  pub replied_turn : (lines : List Line) (call : MapCall) (told : MapReply) (first : ℕ) → AreLines lay tries calls lines → AreSpelled lay calls lines → entry_owed lay lines ≡ None → next_command calls lines c ≡ Some command → begin lines c ≡ Some first → HasReplied lay (history lay.mode lines) (start lay.mode lines c) call told → IsRepliedIn calls lines call told first
  replied_turn lines call told first a x owed is e h =
      let since = ends_trans h.moment (h.row ⊳ h.before) (start lay.mode lines c) h.behind (inr h.since) in
      let y = moments lines a x owed h.moment h.map first is e h.within (since, λ same. absurd (never_behind h.before h.row (ends_trans h.before (start lay.mode lines c) (h.row ⊳ h.before) h.since (subst (λ (k : History). Extends k (h.row ⊳ h.before)) same h.behind)))) h.spelled in
      (y.turn, y.from, y.to, ap (reply call) (sym y.is) ∙ h.replies)
