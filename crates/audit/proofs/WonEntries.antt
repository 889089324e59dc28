-- The entry of the update that has won in a client's call.
use Rattle.std.proofs.Common.{◌≡◌, ℕ, suc, ◌≤◌, Bool, true, false, cond, ◌&&◌, eqb, List, [], ◌∷◌, ◌++◌, Some, None, refl, sym, ◌∙◌, ap, arith}
use Rattle.std.proofs.lemmas.Bool.{eqb-true, eqb-false, eq-eqb, ne_eqb}
use Rattle.histories.specs.Common.{Layout, Row as StepRow}
use Rattle.record.specs.Common.{Call, turns, answered, won, entry_owed, written_log, entries_until, entries_of_call, map_of, map_at, AreLines}
use Rattle.record.specs.declared.record.Line.{Line}
use Rattle.record.specs.declared.record.Line.TheVariants.{Step, Log, Reply as ReplyLine}
use Rattle.record.specs.declared.record.TurnRow.TheVariants.{Step as Made, Idle}
use Rattle.record.specs.declared.record.TurnRow.{TurnRow}
use Rattle.record.specs.declared.record.Entry.{Entry}
use Rattle.record.proofs.Lemmas.{entries_none, log_step, won_within}
use Rattle.linearization.proofs.Lemmas.{map_now}
use Rattle.audit.proofs.TurnMoments.{map_before}

-- the entry comes after its turn, is of the client's call, and its only one; the map before the
-- turn is that of the entries before
pub record IsEntered (lay : Layout) (calls : List Call) (lines : List Line) (c turn : ℕ) : Type 0 where
  pub entry : Entry
  pub newer : List Line
  pub row : TurnRow
  pub rest : List Line
  pub is : lines ≡ newer ++ Log entry ∷ Step row ∷ rest
  pub client : entry.client.0 ≡ c
  pub call : entry.call ≡ answered lines c
  pub step : entry.step ≡ turn
  pub in_turn : turn ≡ suc (turns rest)
  pub once : entries_of_call c (answered lines c) (written_log lines) ≡ 1
  pub before : map_at calls lines (turns rest) ≡ map_of calls (written_log rest)

module _ (lay : Layout) (tries : ℕ) (calls : List Call) (c turn : ℕ) where
  -- an entry of another client counts none for the call
  other_client : (e : Entry) (n k : ℕ) → (e.client.0 ≡ c → ⊥) → cond (eqb c e.client.0 && eqb n e.call) (suc k) k ≡ k
  other_client e n k other = rw (ne_eqb c e.client.0 (λ z. other (sym z))) refl

  newest_entry : (lines : List Line) (n : ℕ) (row : StepRow) (e : Entry) → AreLines lay tries calls (Log e ∷ Step (Made n row) ∷ lines) → n ≡ turn → e.client.0 ≡ c → IsEntered lay calls (Log e ∷ Step (Made n row) ∷ lines) c turn
  unfolding AreLines
  newest_entry lines n row e a number own =
      let step : e.step ≡ suc (turns lines) = log_step lay tries calls (Step (Made n row) ∷ lines) e a.0 a.1 in
      let made : n ≡ suc (turns lines) = a.0.1.1.in_turn in
      let call : e.call ≡ answered lines c = a.1.1.call ∙ ap (λ (k : ℕ). answered lines k) own in
      let none : won lay lines c ≡ None = ap (λ (k : ℕ). won lay lines k) (sym own) ∙ a.1.1.first in
      record {
        entry = e;
        newer = [];
        row = Made n row;
        rest = lines;
        is = refl;
        client = own;
        call = call;
        step = step ∙ sym made ∙ number;
        in_turn = sym number ∙ made;
        once = rw (eq-eqb c e.client.0 (sym own), eq-eqb (answered lines c) e.call (sym call)) (ap suc (entries_none lay tries calls lines a.0.0 c none));
        before = map_before calls (Step (Made n row) ∷ lines) e (turns lines) (omega (step, arith)) ∙ map_now lay tries calls lines a.0.0;
      }

  older_entry : (lines : List Line) (n : ℕ) (row : StepRow) (e : Entry) → AreLines lay tries calls (Log e ∷ Step (Made n row) ∷ lines) → won lay lines c ≡ Some turn → (e.client.0 ≡ c → ⊥) → IsEntered lay calls lines c turn → IsEntered lay calls (Log e ∷ Step (Made n row) ∷ lines) c turn
  unfolding AreLines
  older_entry lines n row e a has other f =
      let step : e.step ≡ suc (turns lines) = log_step lay tries calls (Step (Made n row) ∷ lines) e a.0 a.1 in
      let within : turn ≤ turns lines = won_within lay tries calls lines c turn a.0.0 has in
      let in_turn = f.in_turn in
      record {
        entry = f.entry;
        newer = Log e ∷ Step (Made n row) ∷ f.newer;
        row = f.row;
        rest = f.rest;
        is = ap (λ (l : List Line). Log e ∷ Step (Made n row) ∷ l) f.is;
        client = f.client;
        call = f.call;
        step = f.step;
        in_turn = f.in_turn;
        once = other_client e (answered lines c) (entries_of_call c (answered lines c) (written_log lines)) other ∙ f.once;
        before = map_before calls (Step (Made n row) ∷ lines) e (turns f.rest) (omega (step, within, in_turn, arith)) ∙ f.before;
      }

  -- a line more that is no entry, and no reply to the client
  passed : (line : Line) (lines : List Line) → answered (line ∷ lines) c ≡ answered lines c → written_log (line ∷ lines) ≡ written_log lines → IsEntered lay calls lines c turn → IsEntered lay calls (line ∷ lines) c turn
  passed line lines same_call same_log f = record {
    entry = f.entry;
    newer = line ∷ f.newer;
    row = f.row;
    rest = f.rest;
    is = ap (λ (l : List Line). line ∷ l) f.is;
    client = f.client;
    call = f.call ∙ sym same_call;
    step = f.step;
    in_turn = f.in_turn;
    once = rw (same_call, same_log) f.once;
    before = ap (λ es. map_of calls (entries_until (turns f.rest) es)) same_log ∙ f.before;
  }

  -- where an update has won in a turn
  pub won_entered : (lines : List Line) → AreLines lay tries calls lines → entry_owed lay lines ≡ None → won lay lines c ≡ Some turn → IsEntered lay calls lines c turn
  unfolding AreLines
  won_entered [] a owed has = absurd (let e : None ≡ Some turn = has in cc)
  won_entered (Step (Made n row) ∷ lines) a owed has = passed (Step (Made n row)) lines refl refl (won_entered lines a.0 a.1.0.entry (rw owed at has))
  won_entered (Step (Idle n client) ∷ lines) a owed has = passed (Step (Idle n client)) lines refl refl (won_entered lines a.0 a.1.0.entry has)
  won_entered (ReplyLine r ∷ lines) a owed has = go (eqb r.client.0 c) refl (λ h. won_entered lines a.0 a.1.0 h)
    where
      go : (own : Bool) → eqb r.client.0 c ≡ own → (won lay lines c ≡ Some turn → IsEntered lay calls lines c turn) → IsEntered lay calls (ReplyLine r ∷ lines) c turn
      go true v older = absurd (let e : None ≡ Some turn = rw v at has in cc)
      go false v older = passed (ReplyLine r) lines (rw v refl) refl (older (rw v at has))
  won_entered (Log e ∷ Step (Made n row) ∷ lines) a owed has = go (eqb e.client.0 c) refl (λ h. won_entered lines a.0.0 a.0.1.0.entry h)
    where
      go : (own : Bool) → eqb e.client.0 c ≡ own → (won lay lines c ≡ Some turn → IsEntered lay calls lines c turn) → IsEntered lay calls (Log e ∷ Step (Made n row) ∷ lines) c turn
      go true v older = newest_entry lines n row e a (let h : Some n ≡ Some turn = rw (a.1.0, v) at has in cc) (eqb-true e.client.0 c v)
      go false v older = let h = rw (a.1.0, v) at has in older_entry lines n row e a h (eqb-false e.client.0 c v) (older h)
  won_entered (Log e ∷ Step (Idle n client) ∷ lines) a owed has = absurd a.1
  won_entered (Log e ∷ Log d ∷ lines) a owed has = absurd a.1
  won_entered (Log e ∷ ReplyLine r ∷ lines) a owed has = absurd a.1
  won_entered (Log e ∷ []) a owed has = absurd a.1
