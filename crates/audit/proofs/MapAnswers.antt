-- What is found of a call of the map, whichever it is, and where it took place.
use Rattle.std.proofs.Common.{◌≡◌, ℕ, suc, ◌-◌, ◌≤◌, ◌⊎◌, inl, inr, false, List, [], ◌∷◌, is_some, Option, Some, None, refl, sym, ◌∙◌, ap, subst, arith}
use Rattle.arena.specs.declared.layout.Layout.{Layout}
use Rattle.record.specs.Common.{MapCall, OneValue, get, reply, Pair, Call, Command, IsRight, IsPlaced, MayAnswerAtOnce, MayAnswerAfterStep}
use Rattle.record.specs.Common.{linked, map_at, map_of, reply_told, written_log, entries_of_call, IsFitting, history, turns, start, won}
use Rattle.record.specs.declared.record.Line.{Line}
use Rattle.record.specs.declared.record.Line.TheVariants.{Step, Log, Reply as ReplyLine}
use Rattle.record.specs.declared.record.TurnRow.TheVariants.{Step as Made, Idle}
use Rattle.record.specs.declared.record.Finished.{Finished}
use Rattle.record.specs.declared.record.Answer.{Answer}
use Rattle.record.specs.Placed.{IsPlacedChange}
use Rattle.record.proofs.Lemmas.{begin_within, value_told}
use Rattle.linearization.specs.declared.places.Change.{Change}
use Rattle.linearization.specs.Ordered.{FallFrom}
use Rattle.linearization.proofs.Lemmas.{falls}
use Rattle.audit.specs.Asked.{IsAsked, IsReadAt, IsValueAt}
use Rattle.audit.specs.declared.client.ClientState.{ClientState}
use Rattle.audit.proofs.TurnMoments.{HasSpelled, IsNotIdle, have_spelled}
use Rattle.audit.proofs.WonEntries.{won_entered}

-- Answers that fit

-- one that no idle turn may give
not_idle_by : (lines : List Line) (c : ℕ) (command : Command) (answer : Answer) → IsFitting lines command answer → (MayAnswerAtOnce command answer → ⊥) → IsNotIdle lines c
not_idle_by [] c command answer fits never = tt
not_idle_by (Step (Made n row) ∷ lines) c command answer fits never = tt
not_idle_by (Step (Idle n client) ∷ lines) c command answer fits never = absurd (never fits)
not_idle_by (Log e ∷ lines) c command answer fits never = tt
not_idle_by (ReplyLine r ∷ lines) c command answer fits never = tt

-- one of either kind
pub either_fits : (lines : List Line) (command : Command) (answer : Answer) → IsFitting lines command answer → MayAnswerAtOnce command answer ⊎ MayAnswerAfterStep command answer
either_fits [] command answer fits = inr fits
either_fits (Step (Made n row) ∷ lines) command answer fits = inr fits
either_fits (Step (Idle n client) ∷ lines) command answer fits = inl fits
either_fits (Log e ∷ lines) command answer fits = inr fits
either_fits (ReplyLine r ∷ lines) command answer fits = inr fits

pub neither : {A : Type 0} → ⊥ ⊎ ⊥ → A
neither (inl e) = absurd e
neither (inr e) = absurd e

-- what is not there
pub none_by : (o : Option ℕ) → is_some o ≡ false → o ≡ None
none_by None e = refl
none_by (Some v) e = absurd (cc)

module _ (lay : Layout) (tries : ℕ) (calls : List Call) (lines : List Line) (changed : List Change) (client : ClientState) (command : Command) (r : Finished) (x : IsAsked lay tries calls lines changed client command r) where
  -- the call has turns
  pub some_turns : r.begin ≤ r.end
  some_turns = let w = begin_within lay tries calls lines r.client.0 r.begin x.in_order x.begun in let e = x.end in omega (w, e, arith)

  -- after which there are no changes
  pub changes_fall : FallFrom (suc r.end) changed
  changes_fall = subst (λ (n : ℕ). FallFrom (suc n) changed) (sym x.end) (falls lay tries calls lines changed x.in_order x.entries)

  -- the words spelled the map after each of them
  pub spelled_within : (MayAnswerAtOnce command r.answer → ⊥) → (m : ℕ) → r.begin ≤ m → m ≤ r.end → HasSpelled lay (history lay.mode lines) (start lay.mode lines r.client.0) (map_at calls lines m)
  spelled_within never m from to = have_spelled lay tries calls r.client.0 command lines x.in_order x.spelled x.owed (λ _. not_idle_by lines r.client.0 command r.answer x.fits never) r.begin m x.next x.begun from (subst (λ (n : ℕ). m ≤ n) x.end to)

  -- Changes

  pub is_change : (turn : ℕ) (call : MapCall) → won lay lines r.client.0 ≡ Some turn → r.moment ≡ Some turn → reply_told r.answer ≡ Some (reply call (map_at calls lines (turn - 1))) → IsPlacedChange calls lines call r
  is_change turn call has moment told =
      let f = won_entered lay tries calls r.client.0 turn lines x.in_order x.owed has in
      let turn_is = f.in_turn in
      let last : turn - 1 ≡ turns f.rest = omega (turn_is, arith) in
      let before : map_at calls lines (turn - 1) ≡ map_of calls (written_log f.rest) = ap (map_at calls lines) last ∙ f.before in
      record {
        entry = f.entry;
        newer = f.newer;
        older = Step f.row ∷ f.rest;
        entered = f.is;
        client = f.client;
        number = f.call ∙ sym x.number;
        once = subst (λ (n : ℕ). entries_of_call r.client.0 n (written_log lines) ≡ 1) (sym x.number) f.once;
        moment = moment ∙ ap (λ (n : ℕ). Some n) (sym f.step);
        replies = told ∙ ap (λ (m : List Pair). Some (reply call m)) before;
      }

-- what is found of a key is the reply to a call that answers its value
pub read_value : (calls : List Call) (lines : List Line) (r : Finished) (key : ℕ) (call : MapCall) → ((m : List Pair) → reply call m ≡ OneValue (get key m)) → IsValueAt calls lines key r → IsReadAt calls lines call r
read_value calls lines r key call says v = record {
  turn = v.turn;
  moment = v.moment;
  greatest = record {
    from = v.greatest.from;
    to = v.greatest.to;
    holds = ap reply_told v.answers ∙ value_told v.told ∙ rw (says (map_at calls lines v.turn), v.greatest.holds) refl;
    none_later = λ n i j d. v.greatest.none_later n i j (let y : Some (OneValue v.told) ≡ Some (OneValue (get key (map_at calls lines n))) = sym (ap reply_told v.answers ∙ value_told v.told) ∙ d ∙ rw (says (map_at calls lines n)) refl in cc);
  };
}

-- an answer that is right, and where it is placed
pub record IsAnswered (lay : Layout) (tries : ℕ) (calls : List Call) (lines : List Line) (r : Finished) (command : Command) : Type 0 where
  pub right : IsRight lay tries r.client.0 (history lay.mode lines) (start lay.mode lines r.client.0) (linked calls lay.mode lines r.client.0) command r.answer
  pub placed : IsPlaced lay calls lines r command
