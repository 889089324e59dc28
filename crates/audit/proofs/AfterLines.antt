-- What is remembered of each client stays what the lines say.
use Rattle.std.proofs.Common.{◌≡◌, ◌≢◌, ℕ, zero, suc, ◌+◌, eq-eqb, List, [], ◌∷◌, ◌++◌, ◌⊎◌, inl, inr, ⊎_elim, length, set, drop, slice_get, unwrap_or, Option, Some, None, refl, sym, ◌∙◌, ap, subst, add-one}
use Rattle.std.proofs.lemmas.List.{length_push}
use native.Mathlib.Decide.{ℕ_discrete}
use Rattle.std.proofs.lemmas.Bool.{ne_eqb}
use Rattle.histories.specs.Common.{Layout, PassNo, Row as StepRow}
use Rattle.record.specs.Common.{Call, Command, commands, answered, begin, steps, won, entry_of}
use Rattle.record.specs.declared.record.Line.{Line}
use Rattle.record.specs.declared.record.Line.TheVariants.{Step, Log, Reply as ReplyLine}
use Rattle.record.specs.declared.record.TurnRow.TheVariants.{Step as Made, Idle}
use Rattle.record.specs.declared.record.Entry.{Entry}
use Rattle.record.specs.declared.record.Finished.{Finished}
use Rattle.record.proofs.Lemmas.{get_other, get_own}
use Rattle.record.specs.Commands.{IsNextCallAt}
use Rattle.audit.specs.After.{IsClientAfter, AreClientsAfter}
use Rattle.audit.specs.declared.client.ClientState.{ClientState}
use Rattle.audit.proofs.NextCalls.{next_place}

some_client : (a b : ClientState) → Some a ≡ Some b → a ≡ b
some_client a b e = cc

-- what holds of the others and of the client that was changed holds of all
pub with_one : (P : ℕ → ClientState → Type 0) (clients : List ClientState) (i : ℕ) (old new : ClientState) → slice_get clients i ≡ Some old → P i new → ((j : ℕ) (d : ClientState) → j ≢ i → slice_get clients j ≡ Some d → P j d) → (j : ℕ) (d : ClientState) → slice_get (set clients i new) j ≡ Some d → P j d
with_one P clients i old new there own others j d get = go (ℕ_discrete j i)
  where
    go : Dec (j ≡ i) → P j d
    go (no n) = others j d n (sym (get_other clients i j new n) ∙ get)
    go (yes e) =
        let same : d ≡ new = some_client d new (sym get ∙ ap (λ (k : ℕ). slice_get (set clients i new) k) e ∙ get_own clients i old new there) in
        rw (same, e) own

module _ (lay : Layout) (calls : List Call) (lines : List Line) where
  -- An idle turn

  idle_own : (i number : ℕ) (pass : PassNo) (c : ClientState) → pass.0 ≡ i → IsClientAfter lay calls lines i c → IsClientAfter lay calls (Step (Idle number pass) ∷ lines) i (record c { begun = Some (unwrap_or c.begun number) })
  idle_own i number pass c e x = record {
    pass = x.pass;
    place = x.place;
    answered = x.answered;
    begun = rw (eq-eqb pass.0 i e, x.begun) refl;
    steps = x.steps;
    won = x.won;
  }

  idle_other : (j number : ℕ) (pass : PassNo) (c : ClientState) → (pass.0 ≡ j → ⊥) → IsClientAfter lay calls lines j c → IsClientAfter lay calls (Step (Idle number pass) ∷ lines) j c
  idle_other j number pass c d x = record {
    pass = x.pass;
    place = x.place;
    answered = x.answered;
    begun = rw (ne_eqb pass.0 j d) x.begun;
    steps = x.steps;
    won = x.won;
  }

  pub idle_clients : (number : ℕ) (pass : PassNo) (clients : List ClientState) (c : ClientState) → slice_get clients pass.0 ≡ Some c → AreClientsAfter lay calls lines clients → AreClientsAfter lay calls (Step (Idle number pass) ∷ lines) (set clients pass.0 (record c { begun = Some (unwrap_or c.begun number) }))
  idle_clients number pass clients c there x = with_one (λ j d. IsClientAfter lay calls (Step (Idle number pass) ∷ lines) j d) clients pass.0 c _ there (idle_own pass.0 number pass c refl (x pass.0 c there)) (λ j d n get. idle_other j number pass d (λ e. n (sym e)) (x j d get))

  -- A turn that makes a step: what is remembered of the turns, where the entry is still to come

  pub record IsStepped (number : ℕ) (row : StepRow) (j : ℕ) (c : ClientState) : Type 0 where
    pub pass : c.pass.0 ≡ j
    pub place : IsNextCallAt calls j (drop c.answered (commands calls j)) c.at
    pub answered : c.answered ≡ answered lines j
    pub begun : c.begun ≡ begin (Step (Made number row) ∷ lines) j
    pub steps : c.steps ≡ steps (Step (Made number row) ∷ lines) j
    pub won : c.won ≡ won lay lines j

  stepped_own : (number : ℕ) (row : StepRow) (c : ClientState) → IsClientAfter lay calls lines row.pass.0 c → IsStepped number row row.pass.0 (record c { begun = Some (unwrap_or c.begun number); steps = c.steps + 1 })
  stepped_own number row c x = record {
    pass = x.pass;
    place = x.place;
    answered = x.answered;
    begun = rw (eq-eqb row.pass.0 row.pass.0 refl, x.begun) refl;
    steps = rw (eq-eqb row.pass.0 row.pass.0 refl, x.steps) (add-one (steps lines row.pass.0));
    won = x.won;
  }

  stepped_other : (number : ℕ) (row : StepRow) (j : ℕ) (c : ClientState) → (row.pass.0 ≡ j → ⊥) → IsClientAfter lay calls lines j c → IsStepped number row j c
  stepped_other number row j c d x = record {
    pass = x.pass;
    place = x.place;
    answered = x.answered;
    begun = rw (ne_eqb row.pass.0 j d) x.begun;
    steps = rw (ne_eqb row.pass.0 j d) x.steps;
    won = x.won;
  }

  abbrev pub AreStepped : ℕ → StepRow → List ClientState → Type 0
  AreStepped number row clients = (j : ℕ) (c : ClientState) → slice_get clients j ≡ Some c → IsStepped number row j c

  pub stepped_clients : (number : ℕ) (row : StepRow) (clients : List ClientState) (c : ClientState) → slice_get clients row.pass.0 ≡ Some c → AreClientsAfter lay calls lines clients → AreStepped number row (set clients row.pass.0 (record c { begun = Some (unwrap_or c.begun number); steps = c.steps + 1 }))
  stepped_clients number row clients c there x = with_one (λ j d. IsStepped number row j d) clients row.pass.0 c _ there (stepped_own number row c (x row.pass.0 c there)) (λ j d n get. stepped_other number row j d (λ e. n (sym e)) (x j d get))

  -- where it has no entry, that is all
  pub unwon_clients : (number : ℕ) (row : StepRow) (clients : List ClientState) → entry_of lay lines number row ≡ None → AreStepped number row clients → AreClientsAfter lay calls (Step (Made number row) ∷ lines) clients
  unwon_clients number row clients none x j c get =
      let y = x j c get in
      record { pass = y.pass; place = y.place; answered = y.answered; begun = y.begun; steps = y.steps; won = rw none y.won }

  won_own : (number : ℕ) (row : StepRow) (e : Entry) (c : ClientState) → entry_of lay lines number row ≡ Some e → IsStepped number row e.client.0 c → IsClientAfter lay calls (Step (Made number row) ∷ lines) e.client.0 (record c { won = Some number })
  won_own number row e c is y = record {
    pass = y.pass;
    place = y.place;
    answered = y.answered;
    begun = y.begun;
    steps = y.steps;
    won = rw (is, eq-eqb e.client.0 e.client.0 refl) refl;
  }

  won_other : (number : ℕ) (row : StepRow) (e : Entry) (j : ℕ) (c : ClientState) → entry_of lay lines number row ≡ Some e → (e.client.0 ≡ j → ⊥) → IsStepped number row j c → IsClientAfter lay calls (Step (Made number row) ∷ lines) j c
  won_other number row e j c is d y = record {
    pass = y.pass;
    place = y.place;
    answered = y.answered;
    begun = y.begun;
    steps = y.steps;
    won = rw (is, ne_eqb e.client.0 j d) y.won;
  }

  -- where it has, its client has won
  pub won_clients : (number : ℕ) (row : StepRow) (e : Entry) (clients : List ClientState) (c : ClientState) → entry_of lay lines number row ≡ Some e → slice_get clients e.client.0 ≡ Some c → AreStepped number row clients → AreClientsAfter lay calls (Step (Made number row) ∷ lines) (set clients e.client.0 (record c { won = Some number }))
  won_clients number row e clients c is there x = with_one (λ j d. IsClientAfter lay calls (Step (Made number row) ∷ lines) j d) clients e.client.0 c _ there (won_own number row e c is (x e.client.0 c there)) (λ j d n get. won_other number row e j d is (λ q. n (sym q)) (x j d get))

  -- An entry and a reply

  pub log_clients : (e : Entry) (clients : List ClientState) → AreClientsAfter lay calls lines clients → AreClientsAfter lay calls (Log e ∷ lines) clients
  log_clients e clients x j c get =
      let y = x j c get in
      record { pass = y.pass; place = y.place; answered = y.answered; begun = y.begun; steps = y.steps; won = y.won }

  ended_own : (r : Finished) (c : ClientState) (next : Option ℕ) → ((left : List Command) → IsNextCallAt calls c.pass.0 left c.at → IsNextCallAt calls c.pass.0 (drop 1 left) next) → IsClientAfter lay calls lines r.client.0 c → IsClientAfter lay calls (ReplyLine r ∷ lines) r.client.0 (record c { at = next; answered = c.answered + 1; begun = None; steps = 0; won = None })
  ended_own r c next behind x = record {
    pass = x.pass;
    place = subst (λ (n : ℕ). IsNextCallAt calls r.client.0 (drop n (commands calls r.client.0)) next) (sym (add-one c.answered)) (next_place calls r.client.0 c.answered next (subst (λ (k : ℕ). IsNextCallAt calls k (drop 1 (drop c.answered (commands calls r.client.0))) next) x.pass (behind (drop c.answered (commands calls r.client.0)) (subst (λ (k : ℕ). IsNextCallAt calls k (drop c.answered (commands calls r.client.0)) c.at) (sym x.pass) x.place))));
    answered = rw (eq-eqb r.client.0 r.client.0 refl, x.answered) (add-one (answered lines r.client.0));
    begun = rw (eq-eqb r.client.0 r.client.0 refl) refl;
    steps = rw (eq-eqb r.client.0 r.client.0 refl) refl;
    won = rw (eq-eqb r.client.0 r.client.0 refl) refl;
  }

  ended_other : (r : Finished) (j : ℕ) (c : ClientState) → (r.client.0 ≡ j → ⊥) → IsClientAfter lay calls lines j c → IsClientAfter lay calls (ReplyLine r ∷ lines) j c
  ended_other r j c d x = record {
    pass = x.pass;
    place = x.place;
    answered = rw (ne_eqb r.client.0 j d) x.answered;
    begun = rw (ne_eqb r.client.0 j d) x.begun;
    steps = rw (ne_eqb r.client.0 j d) x.steps;
    won = rw (ne_eqb r.client.0 j d) x.won;
  }

  pub ended_clients : (r : Finished) (clients : List ClientState) (c : ClientState) (next : Option ℕ) → slice_get clients r.client.0 ≡ Some c → ((left : List Command) → IsNextCallAt calls c.pass.0 left c.at → IsNextCallAt calls c.pass.0 (drop 1 left) next) → AreClientsAfter lay calls lines clients → AreClientsAfter lay calls (ReplyLine r ∷ lines) (set clients r.client.0 (record c { at = next; answered = c.answered + 1; begun = None; steps = 0; won = None }))
  ended_clients r clients c next there behind x = with_one (λ j d. IsClientAfter lay calls (ReplyLine r ∷ lines) j d) clients r.client.0 c _ there (ended_own r c next behind (x r.client.0 c there)) (λ j d n get. ended_other r j d (λ q. n (sym q)) (x j d get))

-- The start

got_more : {X : Type 0} (xs : List X) (x : X) (j : ℕ) (y : X) → slice_get (xs ++ x ∷ []) j ≡ Some y → (slice_get xs j ≡ Some y) ⊎ ((j ≡ length xs) × (Some x ≡ Some y))
got_more [] x zero y e = inr (refl, e)
got_more [] x (suc j) y e = absurd (let z : None ≡ Some y = e in cc)
got_more (z ∷ xs) x zero y e = inl e
got_more (z ∷ xs) x (suc j) y e = ⊎_elim (λ q. inl q) (λ q. inr (ap suc q.0, q.1)) (got_more xs x j y e)

pub clients_more : (lay : Layout) (calls : List Call) (xs new : List ClientState) (n : ℕ) (c : ClientState) → length xs ≡ n → AreClientsAfter lay calls [] xs → IsNextCallAt calls n (commands (drop 0 calls) n) c.at → c ≡ record { pass = record { 0 = n }; at = c.at; answered = 0; begun = None; steps = 0; won = None } → new ≡ xs ++ c ∷ [] → (length new ≡ n + 1) × AreClientsAfter lay calls [] new
clients_more lay calls xs new n c many x at is pushed = (
  ap length pushed ∙ length_push xs c ∙ ap (λ (k : ℕ). k + 1) many,
  λ j d get. ⊎_elim (λ q. x j d q) (λ q. subst (λ (k : ClientState). IsClientAfter lay calls [] j k) (some_client c d q.1) (subst (λ (k : ℕ). IsClientAfter lay calls [] k c) (sym (q.0 ∙ many)) first)) (got_more xs c j d (subst (λ (l : List ClientState). slice_get l j ≡ Some d) pushed get)),
)
  where
    first : IsClientAfter lay calls [] n c
    first = record {
      pass = ap (λ (k : ClientState). k.pass.0) is;
      place = subst (λ (k : ℕ). IsNextCallAt calls n (drop k (commands calls n)) c.at) (sym (ap (λ (k : ClientState). k.answered) is)) at;
      answered = ap (λ (k : ClientState). k.answered) is;
      begun = ap (λ (k : ClientState). k.begun) is;
      steps = ap (λ (k : ClientState). k.steps) is;
      won = ap (λ (k : ClientState). k.won) is;
    }
