-- How a turn begins: where the client that makes it is.
use Rattle.std.proofs.Common.{◌≡◌, ◌≢◌, ℕ, suc, ◌<◌, ◌⊎◌, inl, inr, List, ◌∷◌, set, length, get_or, Option, Some, None, is_some, drop, slice_get, refl, sym, ◌∙◌, ap, subst, arith}
use Rattle.std.proofs.lemmas.Option.{slice_get_read}
use Rattle.histories.specs.Common.{Layout, PassNo, Step as Ask}
use Rattle.record.specs.Common.{Call, Command, commands, next_command, turns, begin, answered}
use Rattle.record.specs.declared.record.Line.{Line}
use Rattle.record.specs.declared.record.Line.TheVariants.{Step, Reply as ReplyLine}
use Rattle.record.specs.declared.record.TurnRow.TheVariants.{Idle}
use Rattle.record.specs.declared.record.Finished.{Finished as FinishedCall}
use Rattle.record.specs.declared.record.Answer.{Answer}
use Rattle.player.specs.declared.client.Client.{Client}
use Rattle.player.specs.declared.client.NextAction.TheVariants.{Finished, Answers, Asks}
use Rattle.player.specs.declared.interleaving.Interleaving.{Interleaving}
use Rattle.record.specs.Commands.{IsNextCallAt}
use Rattle.player.specs.ClientView.{ClientView, client_view, Rests, Refuses, WaitsForStep, IsClient, IsNextAction, command_of}
use Rattle.player.specs.BetweenTurns.{IsTurnOf, AreBetweenTurns, IsBetweenTurns, IsStepAsked, IsEnd, ArePlaces}
use Rattle.linearization.specs.declared.places.Change.{Change}
use Rattle.linearization.specs.Places.{changes}
use Rattle.record.proofs.Lemmas.{none_left, next_at}
use Rattle.player.proofs.Middles.{turn_begins, turn_changed, finished_turn, refused_turn}
use Rattle.player.proofs.Steps.{few_calls}

-- a client of the player
pub client_there : (p : Interleaving) (i : ℕ) (c : Client) → i < p.script.layout.passes → c ≡ get_or p.clients.items i c → slice_get p.clients.items i ≡ Some c
client_there p i c inside e = slice_get_read p.clients.items (length p.clients.items) i c refl (omega (arith, inside, p.all_clients, p.clients.ok.0)) e

-- a client at rest that has a call left has not begun it
not_begun : (v : ClientView) (began : Option ℕ) (old new : Client) (command : Command) → new.pass ≡ old.pass → IsClient v began old → Rests v old → command_of v new ≡ Some command → began ≡ None
not_begun v began old new command same (inl (x, inr u)) r is = u.none
not_begun v began old new command same (inr (q, runs, w, e)) r is = absurd (let d = r.none in cc)
not_begun v began old new command same (inl (x, inl none)) r is =
    let over : slice_get (commands v.calls old.pass.0) v.answered ≡ None = rw (sym r.stands.number) (none_left v.calls old.pass.0 old.number (rw none at r.stands.place)) in
    let there : slice_get (commands v.calls old.pass.0) v.answered ≡ Some command = ap (λ (p : PassNo). slice_get (commands v.calls p.0) v.answered) (sym same) ∙ is in
    absurd cc

-- a client whose call runs began it at its first turn since its last reply
has_begun : (v : ClientView) (began : Option ℕ) (old : Client) → IsClient v began old → old.running ≢ None → began ≡ Some old.begin
has_begun v began old (inl x) d = absurd (d x.0.none)
has_begun v began old (inr (q, runs, w, e)) d = e

module _ (p : Interleaving) (lines : List Line) (i number : ℕ) (old new : Client) (played : IsBetweenTurns p lines) (there : slice_get p.clients.items i ≡ Some old) where
  abbrev lay : Layout
  lay = p.script.layout

  abbrev tries : ℕ
  tries = p.script.limits.tries

  abbrev calls : List Call
  calls = p.script.calls.items

  abbrev v : ClientView
  v = client_view lay tries calls lines i

  is_i : old.pass.0 ≡ i
  is_i = (played.between.each i old there).0

  pub is_client : IsClient v (begin lines i) old
  is_client = (played.between.each i old there).1

  -- its turn, with what it has become
  own_turn : new.pass ≡ old.pass → IsTurnOf lay tries calls p.words (set p.clients.items i new) lines new
  own_turn same = subst (λ (k : ℕ). IsTurnOf lay tries calls p.words (set p.clients.items k new) lines new) is_i (turn_changed lay tries calls p.words p.clients.items lines old new same (turn_begins lay tries calls p.words p.clients.items lines i old there played.between))

  new_i : new.pass ≡ old.pass → new.pass.0 ≡ i
  new_i same = ap (λ (k : PassNo). k.0) same ∙ is_i

  -- it asks for a step
  pub stood_asked : (q : Interleaving) (step : Ask) → q.script.layout ≡ lay → q.script.limits ≡ p.script.limits → q.script.calls.items ≡ calls → q.words ≡ p.words → q.clients.items ≡ set p.clients.items i new → q.turns ≡ p.turns → q.entries ≡ p.entries → q.wins.items ≡ p.wins.items → ArePlaces lay calls lines q.places → number ≡ suc (turns lines) → IsNextAction v number old new (Asks step) → IsStepAsked q lines i number step
  stood_asked q step a t b w d e e' f g n s = record {
    wins = rw (a, f) played.wins;
    counted = record { turned = e ∙ played.counted.turned; entered = e' ∙ played.counted.entered };
    places = rw (a, b) g;
    client = new;
    is = new_i s.0.pass;
    settled = rw (a, b) played.between.settled;
    turn = rw (a, t, b, w, d) (own_turn s.0.pass);
    in_turn = n;
    running = s.1;
    runs = s.2;
    asks = s.3;
    waits = rw (a, t, b) (subst (λ (k : ℕ). WaitsForStep (client_view lay tries calls lines k) new s.1) (sym (new_i s.0.pass)) s.4);
    began = began s.5;
  }
    where
      same_begin : begin lines new.pass.0 ≡ begin lines i
      same_begin = ap (λ (k : ℕ). begin lines k) (new_i s.0.pass)

      began : (Rests v old × (new.begin ≡ number)) ⊎ ((old.running ≢ None) × (new.begin ≡ old.begin)) → ((begin lines new.pass.0 ≡ None) × (new.begin ≡ number)) ⊎ (begin lines new.pass.0 ≡ Some new.begin)
      began (inl (r, x)) = inl (same_begin ∙ not_begun v (begin lines i) old new s.4.works.command s.0.pass is_client r s.4.works.is, x)
      began (inr (d, x)) = inr (same_begin ∙ has_begun v (begin lines i) old is_client d ∙ ap (λ (k : ℕ). Some k) (sym x))

  -- it has no call left
  pub stood_finished : (pass : PassNo) → pass.0 ≡ i → number ≡ suc (turns lines) → IsNextAction v number old new Finished → AreBetweenTurns lay tries calls p.words (set p.clients.items i new) (Step (Idle number pass) ∷ lines)
  stood_finished pass is n s =
      let same : new.pass ≡ old.pass = ap (λ (k : Client). k.pass) s.0 in
      finished_turn lay tries calls p.words (set p.clients.items i new) lines new number pass played.between.settled (own_turn same)
      (subst (λ (k : ℕ). Rests (client_view lay tries calls lines k) new) (sym (new_i same)) (subst (λ (k : Client). Rests v k) (sym s.0) s.2))
      (ap (λ (k : Client). k.next) s.0 ∙ s.1) n (ap (λ (k : ℕ). let x : PassNo = record { 0 = k } in x) (is ∙ sym (new_i same)))

  -- its call is refused
  pub stood_refused : (pass : PassNo) (answer : Answer) (changed : List Change) (said : Option ℕ) (reply : FinishedCall) (end : Client) → pass.0 ≡ i → number ≡ suc (turns lines) → IsNextAction v number old new (Answers answer) → changed ≡ changes p.places → IsEnd calls (Step (Idle number pass) ∷ lines) changed new end number answer said reply → AreBetweenTurns lay tries calls p.words (set (set p.clients.items i new) new.pass.0 end) (ReplyLine reply ∷ Step (Idle number pass) ∷ lines)
  stood_refused pass answer changed said reply end is n s same e =
      refused_turn lay tries calls p.words (set p.clients.items i new) lines new end number pass answer changed said reply (λ tree. rw same (played.places.entries tree)) (few_calls p) played.between.settled (own_turn s.0.pass)
      (subst (λ (k : ℕ). Refuses (client_view lay tries calls lines k) new answer) (sym (new_i s.0.pass)) s.2)
      (ap (λ (k : ℕ). begin lines k) (new_i s.0.pass) ∙ not_begun v (begin lines i) old new s.2.command s.0.pass is_client s.1 s.2.is)
      s.3 n (ap (λ (k : ℕ). let x : PassNo = record { 0 = k } in x) (is ∙ sym (new_i s.0.pass))) e

  -- the client keeps the number of its next call
  pub own_number : old.number ≡ answered lines i
  own_number = go is_client
    where
      go : IsClient v (begin lines i) old → old.number ≡ answered lines i
      go (inl x) = x.0.stands.number
      go (inr x) = x.2.works.stands.number

  -- and knows whether there is one
  pub own_next : is_some old.next ≡ is_some (next_command calls lines i)
  own_next = go is_client
    where
      at : (next : Option ℕ) → old.next ≡ next → IsNextCallAt calls old.pass.0 (drop old.number (commands calls old.pass.0)) old.next → is_some next ≡ is_some (next_command calls lines i)
      at None e x = rw (own_number, is_i) at (ap is_some (sym (none_left calls old.pass.0 old.number (rw e at x))))
      at (Some n) e x = rw (own_number, is_i) at (ap is_some (sym (next_at calls old.pass.0 old.number n (rw e at x)).3))

      go : IsClient v (begin lines i) old → is_some old.next ≡ is_some (next_command calls lines i)
      go (inl x) = at old.next refl x.0.stands.place
      go (inr x) = at old.next refl x.2.works.stands.place
