-- The lines of a lawful run are orderly: the rules of its replies make it legal as a whole.
use Rattle.std.proofs.Common.{◌≡◌, ℕ, suc, ◌+◌, ◌*◌, ◌<◌, ◌≤◌, Bool, true, false, cond, ◌&&◌, eqb, List, [], ◌∷◌, refl, sym, ◌∙◌, ap, subst, arith, inl, inr, ⊎_elim}
use Rattle.std.proofs.lemmas.Bool.{eqb-true, eq-eqb, eqb-false, ne_eqb, and_parts, cases_order}
use Rattle.std.specs.Prelude.{Option, Some, None, is_none, slice_get, not}
use Rattle.histories.specs.Common.{Layout, Word, Node, Child, Row as StepRow, History}
use Rattle.record.specs.Common.{MapCall, map_request, Call, Command, Llx, Scx as ScxOf, Vlx, Set, Map, history, turns, answered, won, entry_at, entry_of}
use Rattle.record.specs.Common.{is_update, entries, map_call, map_call_of, reply_told, written_log, entries_of_call, IsPlaced, IsPlacedOnMap, commands, AreLines}
use Rattle.record.specs.declared.record.Line.{Line}
use Rattle.record.specs.declared.record.Line.TheVariants.{Step, Log, Reply as ReplyLine}
use Rattle.record.specs.declared.record.TurnRow.TheVariants.{Step as Made, Idle}
use Rattle.record.specs.declared.record.Entry.{Entry}
use Rattle.record.specs.declared.record.Finished.{Finished}
use Rattle.record.specs.declared.record.Answer.{Answer}
use Rattle.record.specs.Turns.{is_entry_of}
use Rattle.record.specs.Legal.{Event, Change, Read, event_client, event_call, event_place, with_reading, has_read, events, answer_to, times, unanswered, IsLegal}
use Rattle.record.specs.Entries.{IsLog}
use Rattle.record.specs.Replies.{IsReply}
use Rattle.record.proofs.Ordered.{AllUpTo, all_with, IsOrderlyEntry, IsOrderlyReply, AreOrderly, IsKept, onto, counted, kept, legal}

-- the calls are of the map
abbrev pub AreMapCalls : List Call → Type 0
AreMapCalls calls = (c j : ℕ) (command : Command) → slice_get (commands calls c) j ≡ Some command → (call : MapCall) × (map_call (Some command) ≡ Some call)

-- Rules of replies

-- a call of the map took place where its command's rules say
rule_of : (command : Command) (call : MapCall) (lay : Layout) (calls : List Call) (lines : List Line) (r : Finished) → map_call (Some command) ≡ Some call → IsPlaced lay calls lines r command → IsPlacedOnMap (reply_told r.answer) calls lines call r
rule_of (Map request) call lay calls lines r e x = let same : map_request request ≡ call = (let z : Some (map_request request) ≡ Some call = e in cc) in subst (λ m. IsPlacedOnMap (reply_told r.answer) calls lines m r) same x
rule_of (Llx cell) call lay calls lines r e x = let y : None ≡ Some call = e in absurd (cc)
rule_of (ScxOf update) call lay calls lines r e x = let y : None ≡ Some call = e in absurd (cc)
rule_of (Vlx cells) call lay calls lines r e x = let y : None ≡ Some call = e in absurd (cc)
rule_of (Set field value) call lay calls lines r e x = let y : None ≡ Some call = e in absurd (cc)

-- Numbers of calls

-- what is not answered yet has no answer
not_answered : (lay : Layout) (tries : ℕ) (calls : List Call) (lines : List Line) → AreLines lay tries calls lines → (c j : ℕ) → answered lines c ≤ j → answer_to lines c j ≡ None
unfolding AreLines
not_answered lay tries calls [] a c j i = refl
not_answered lay tries calls (Step row ∷ lines) a c j i = not_answered lay tries calls lines a.0 c j i
not_answered lay tries calls (Log e ∷ lines) a c j i = not_answered lay tries calls lines a.0 c j i
not_answered lay tries calls (ReplyLine r ∷ lines) a c j i = go (eqb r.client.0 c) refl i (not_answered lay tries calls lines a.0 c j)
  where
    go : (b : Bool) → eqb r.client.0 c ≡ b → cond b (suc (answered lines c)) (answered lines c) ≤ j → (answered lines c ≤ j → answer_to lines c j ≡ None) → cond (b && eqb r.call j) (Some r.answer) (answer_to lines c j) ≡ None
    go true e u rest =
        let k : r.call ≡ answered lines c = a.1.1.call ∙ ap (answered lines) (eqb-true r.client.0 c e) in
        let f : eqb r.call j ≡ false = ne_eqb r.call j (λ q. omega (q, k, u, arith)) in
        rw f (rest (omega (u, arith)))
    go false e u rest = rest u

-- what is answered has one
is_answered : (lay : Layout) (tries : ℕ) (calls : List Call) (lines : List Line) → AreLines lay tries calls lines → (c j : ℕ) → j < answered lines c → is_none (answer_to lines c j) ≡ false
unfolding AreLines
is_answered lay tries calls [] a c j i = absurd (omega (i, arith))
is_answered lay tries calls (Step row ∷ lines) a c j i = is_answered lay tries calls lines a.0 c j i
is_answered lay tries calls (Log e ∷ lines) a c j i = is_answered lay tries calls lines a.0 c j i
is_answered lay tries calls (ReplyLine r ∷ lines) a c j i = go (eqb r.client.0 c) refl (eqb r.call j) refl i (is_answered lay tries calls lines a.0 c j)
  where
    go : (b : Bool) → eqb r.client.0 c ≡ b → (d : Bool) → eqb r.call j ≡ d → j < cond b (suc (answered lines c)) (answered lines c) → (j < answered lines c → is_none (answer_to lines c j) ≡ false) → is_none (cond (b && d) (Some r.answer) (answer_to lines c j)) ≡ false
    go true e true f u rest = refl
    go true e false f u rest =
        let k : r.call ≡ answered lines c = a.1.1.call ∙ ap (answered lines) (eqb-true r.client.0 c e) in
        let n = eqb-false r.call j f in
        rest (go_lt k n u)
      where
        go_lt : r.call ≡ answered lines c → (r.call ≡ j → ⊥) → j < suc (answered lines c) → j < answered lines c
        go_lt k n u = elim (cases_order j (answered lines c)) [ inl q ↦ absurd (n (k ∙ sym q)) | inr (inl q) ↦ q | inr (inr q) ↦ omega (q, u, arith) ]
    go false e d f u rest = rest u

-- Entries

log_call : (lay : Layout) (calls : List Call) (lines : List Line) (e : Entry) → IsLog lay calls lines e → e.call ≡ answered lines e.client.0
log_call lay calls (Step (Made n row) ∷ lines) e x = x.1.call
log_call lay calls (Step (Idle n c) ∷ lines) e x = absurd x
log_call lay calls (Log d ∷ lines) e x = absurd x
log_call lay calls (ReplyLine r ∷ lines) e x = absurd x
log_call lay calls [] e x = absurd x

-- no call beyond the first that is not answered has an entry
entries_low : (lay : Layout) (tries : ℕ) (calls : List Call) (lines : List Line) → AreLines lay tries calls lines → (c j : ℕ) → answered lines c < j → entries_of_call c j (written_log lines) ≡ 0
unfolding AreLines
entries_low lay tries calls [] a c j i = refl
entries_low lay tries calls (Step row ∷ lines) a c j i = entries_low lay tries calls lines a.0 c j i
entries_low lay tries calls (Log e ∷ lines) a c j i = go (eqb c e.client.0 && eqb j e.call) refl (entries_low lay tries calls lines a.0 c j i)
  where
    go : (b : Bool) → (eqb c e.client.0 && eqb j e.call) ≡ b → entries_of_call c j (written_log lines) ≡ 0 → cond b (suc (entries_of_call c j (written_log lines))) (entries_of_call c j (written_log lines)) ≡ 0
    go true q rest =
        let p = and_parts (eqb c e.client.0) (eqb j e.call) q in
        let k : j ≡ answered lines c = eqb-true j e.call p.1 ∙ log_call lay calls lines e a.1 ∙ sym (ap (answered lines) (eqb-true c e.client.0 p.0)) in
        absurd (omega (k, i, arith))
    go false q rest = rest
entries_low lay tries calls (ReplyLine r ∷ lines) a c j i = go (eqb r.client.0 c) i (entries_low lay tries calls lines a.0 c j)
  where
    go : (b : Bool) → cond b (suc (answered lines c)) (answered lines c) < j → (answered lines c < j → entries_of_call c j (written_log lines) ≡ 0) → entries_of_call c j (written_log lines) ≡ 0
    go true u rest = rest (omega (u, arith))
    go false u rest = rest u

-- a call none of whose updates has won has no entry
pub entries_none : (lay : Layout) (tries : ℕ) (calls : List Call) (lines : List Line) → AreLines lay tries calls lines → (c : ℕ) → won lay lines c ≡ None → entries_of_call c (answered lines c) (written_log lines) ≡ 0
unfolding AreLines
entries_none lay tries calls [] a c w = refl
entries_none lay tries calls (Step (Made n row) ∷ lines) a c w = go (is_entry_of (entry_of lay lines n row) c) w (entries_none lay tries calls lines a.0 c)
  where
    go : (b : Bool) → cond b (Some n) (won lay lines c) ≡ None → (won lay lines c ≡ None → entries_of_call c (answered lines c) (written_log lines) ≡ 0) → entries_of_call c (answered lines c) (written_log lines) ≡ 0
    go true u rest = let y : Some n ≡ None = u in absurd (cc)
    go false u rest = rest u
entries_none lay tries calls (Step (Idle n d) ∷ lines) a c w = entries_none lay tries calls lines a.0 c w
entries_none lay tries calls (Log e ∷ Step (Made n row) ∷ lines) a c w = go (eqb e.client.0 c) refl (entries_none lay tries calls (Step (Made n row) ∷ lines) a.0 c w)
  where
    z : cond (eqb e.client.0 c) (Some n) (won lay lines c) ≡ None
    z = ap (λ o. cond (is_entry_of o c) (Some n) (won lay lines c)) (sym a.1.0) ∙ w

    go : (b : Bool) → eqb e.client.0 c ≡ b → entries_of_call c (answered lines c) (written_log lines) ≡ 0 → cond (eqb c e.client.0 && eqb (answered lines c) e.call) (suc (entries_of_call c (answered lines c) (written_log lines))) (entries_of_call c (answered lines c) (written_log lines)) ≡ 0
    go true q rest = let y : Some n ≡ None = rw q at z in absurd (cc)
    go false q rest =
        let f : eqb c e.client.0 ≡ false = ne_eqb c e.client.0 (λ i. eqb-false e.client.0 c q (sym i)) in
        rw f (rest)
entries_none lay tries calls (Log e ∷ Step (Idle n d) ∷ lines) a c w = absurd a.1
entries_none lay tries calls (Log e ∷ Log d ∷ lines) a c w = absurd a.1
entries_none lay tries calls (Log e ∷ ReplyLine r ∷ lines) a c w = absurd a.1
entries_none lay tries calls (Log e ∷ []) a c w = absurd a.1
entries_none lay tries calls (ReplyLine r ∷ lines) a c w = go (eqb r.client.0 c) w (entries_none lay tries calls lines a.0 c)
  where
    go : (b : Bool) → cond b None (won lay lines c) ≡ None → (won lay lines c ≡ None → entries_of_call c (answered lines c) (written_log lines) ≡ 0) → entries_of_call c (cond b (suc (answered lines c)) (answered lines c)) (written_log lines) ≡ 0
    go true u rest = entries_low lay tries calls lines a.0 c (suc (answered lines c)) (omega arith)
    go false u rest = rest u

-- no other call of a client is entered and unanswered

none_open : (answers : ℕ → ℕ → Option Answer) (c : ℕ) (xs : List Event) → ((j : ℕ) → answers c j ≡ None → times c j xs ≡ 0) → unanswered answers c xs ≡ 0
none_open answers c [] h = refl
none_open answers c (x ∷ xs) h = go (eqb c (event_client x)) refl (answers c (event_call x)) refl (none_open answers c xs (λ j n. less (eqb c (event_client x) && eqb j (event_call x)) (h j n)))
  where
    less : {n : ℕ} (b : Bool) → cond b (suc n) n ≡ 0 → n ≡ 0
    less true u = absurd (omega (u, arith))
    less false u = u

    go : (b : Bool) → eqb c (event_client x) ≡ b → (a : Option Answer) → answers c (event_call x) ≡ a → unanswered answers c xs ≡ 0 → cond (b && is_none a) (suc (unanswered answers c xs)) (unanswered answers c xs) ≡ 0
    go true q None n rest =
        let same : eqb (event_call x) (event_call x) ≡ true = eq-eqb (event_call x) (event_call x) refl in
        let u : suc (times c (event_call x) xs) ≡ 0 = rw (q, same) at (h (event_call x) n) in
        absurd (omega (u, arith))
    go true q (Some a) n rest = rest
    go false q a n rest = rest

alone : (lay : Layout) (tries : ℕ) (calls : List Call) (lines : List Line) → AreLines lay tries calls lines → (c : ℕ) → won lay lines c ≡ None → IsKept calls lines (events calls lines) → unanswered (answer_to lines) c (events calls lines) ≡ 0
alone lay tries calls lines a c w k = none_open (answer_to lines) c (events calls lines) each
  where
    low : (j : ℕ) → answer_to lines c j ≡ None → entries_of_call c j (written_log lines) ≡ 0
    low j n = ⊎_elim (λ q. ap (λ i. entries_of_call c i (written_log lines)) q ∙ entries_none lay tries calls lines a c w) (λ z. ⊎_elim (λ q. let y : is_none (answer_to lines c j) ≡ false = is_answered lay tries calls lines a c j q in let t : true ≡ false = rw n at y in absurd (cc)) (λ q. entries_low lay tries calls lines a c j q) z) (cases_order j (answered lines c))

    each : (j : ℕ) → answer_to lines c j ≡ None → times c j (events calls lines) ≡ 0
    each j n =
        let m = counted calls (answer_to lines) c j [] (events calls lines) n k.right in
        let l : entries_of_call c j (onto [] (events calls lines)) ≡ 0 = ap (entries_of_call c j) k.logged ∙ low j n in
        omega (m, l, arith)

-- Turns

upto_more : (p q : ℕ) (xs : List Event) → p ≤ q → AllUpTo p xs → AllUpTo q xs
upto_more p q [] i a = tt
upto_more p q (x ∷ xs) i a = let j = a.0 in (omega (i, j, arith), upto_more p q xs i a.1)

step_or : Option Entry → ℕ
step_or (Some e) = e.step
step_or None = 0

entry_at_step : (lay : Layout) (h : History) (p n : ℕ) (w : Word) (e : Entry) → entry_at lay h p n w ≡ Some e → e.step ≡ n
unfolding step_or
entry_at_step lay h p n (Node m (Child side)) e x = sym (ap step_or x)
entry_at_step lay h p n _ e x = let y : None ≡ Some e = x in absurd (cc)

entry_step : (lay : Layout) (lines : List Line) (n : ℕ) (row : StepRow) (e : Entry) → entry_of lay lines n row ≡ Some e → e.step ≡ n
entry_step lay lines n row e = go (is_update row.kind && not (eqb row.before row.after))
  where
    go : (b : Bool) → cond b (entry_at lay (history lay.mode lines) (suc (entries lines)) n row.word) None ≡ Some e → e.step ≡ n
    go true x = entry_at_step lay (history lay.mode lines) (suc (entries lines)) n row.word e x
    go false x = let y : None ≡ Some e = x in absurd (cc)

pub log_step : (lay : Layout) (tries : ℕ) (calls : List Call) (lines : List Line) (e : Entry) → AreLines lay tries calls lines → IsLog lay calls lines e → e.step ≡ turns lines
unfolding AreLines
log_step lay tries calls (Step (Made n row) ∷ lines) e a x = entry_step lay lines n row e x.0 ∙ a.1.1.in_turn
log_step lay tries calls (Step (Idle n c) ∷ lines) e a x = absurd x
log_step lay tries calls (Log d ∷ lines) e a x = absurd x
log_step lay tries calls (ReplyLine r ∷ lines) e a x = absurd x
log_step lay tries calls [] e a x = absurd x

-- all events so far have places up to the newest turn
newest : (lay : Layout) (tries : ℕ) (calls : List Call) (lines : List Line) → AreLines lay tries calls lines → AllUpTo (2 * turns lines + 1) (events calls lines)
unfolding AreLines
newest lay tries calls [] a = tt
newest lay tries calls (Step row ∷ lines) a = upto_more (2 * turns lines + 1) (2 * suc (turns lines) + 1) (events calls lines) (omega arith) (newest lay tries calls lines a.0)
newest lay tries calls (Log e ∷ lines) a =
    let i = log_step lay tries calls lines e a.0 a.1 in
    all_with (λ (x : Event). event_place x ≤ 2 * turns lines + 1) (Change e) (events calls lines) (omega (i, arith)) (newest lay tries calls lines a.0)
newest lay tries calls (ReplyLine r ∷ lines) a = go (has_read (map_call_of calls r.client.0 r.call) (reply_told r.answer)) r.moment refl (newest lay tries calls lines a.0)
  where
    go : (b : Bool) (m : Option ℕ) → r.moment ≡ m → AllUpTo (2 * turns lines + 1) (events calls lines) → AllUpTo (2 * turns lines + 1) (with_reading b m r (events calls lines))
    go true (Some m) q rest =
        let w = a.1.1.within m q in
        let i = w.1 in
        let e = a.1.1.end in
        all_with (λ (x : Event). event_place x ≤ 2 * turns lines + 1) (Read m r) (events calls lines) (omega (i, e, arith)) rest
    go true None q rest = rest
    go false m q rest = rest

-- Lines of a lawful run

orderly_entry : (lay : Layout) (tries : ℕ) (calls : List Call) (lines : List Line) (e : Entry) → AreMapCalls calls → AreLines lay tries calls lines → IsLog lay calls lines e → IsKept calls lines (events calls lines) → IsOrderlyEntry calls lines e
unfolding AreLines
orderly_entry lay tries calls (Step (Made n row) ∷ lines) e maps a x k =
    let w = x.1 in
    let m = maps e.client.0 (answered lines e.client.0) w.command w.is in
    let q = w.call in
    let s = log_step lay tries calls (Step (Made n row) ∷ lines) e a x in
    let old : IsKept calls lines (events calls lines) = record { right = k.right; sorted = k.sorted; logged = k.logged; placed = k.placed; one = k.one; few = k.few } in
    record {
      call = m.0;
      is = ap (map_call_of calls e.client.0) q ∙ ap map_call w.is ∙ m.1;
      pending = not_answered lay tries calls lines a.0 e.client.0 e.call (omega (q, arith));
      first = ap (λ j. entries_of_call e.client.0 j (written_log lines)) q ∙ entries_none lay tries calls lines a.0 e.client.0 w.first;
      alone = alone lay tries calls lines a.0 e.client.0 w.first old;
      newest = upto_more (2 * turns lines + 1) (2 * e.step) (events calls lines) (omega (s, arith)) (newest lay tries calls lines a.0);
    }
orderly_entry lay tries calls (Step (Idle n c) ∷ lines) e maps a x k = absurd x
orderly_entry lay tries calls (Log d ∷ lines) e maps a x k = absurd x
orderly_entry lay tries calls (ReplyLine r ∷ lines) e maps a x k = absurd x
orderly_entry lay tries calls [] e maps a x k = absurd x

orderly_reply : (lay : Layout) (tries : ℕ) (calls : List Call) (lines : List Line) (r : Finished) → AreMapCalls calls → AreLines lay tries calls lines → IsReply lay tries calls lines r → IsOrderlyReply calls lines r
orderly_reply lay tries calls lines r maps a x =
    let m = maps r.client.0 (answered lines r.client.0) x.command x.is in
    let q = x.call in
    record {
      call = m.0;
      is = ap (map_call_of calls r.client.0) q ∙ ap map_call x.is ∙ m.1;
      pending = not_answered lay tries calls lines a r.client.0 r.call (omega (q, arith));
      rule = rule_of x.command m.0 lay calls lines r m.1 x.placed;
    }

orderly : (lay : Layout) (tries : ℕ) (calls : List Call) (lines : List Line) → AreMapCalls calls → AreLines lay tries calls lines → AreOrderly calls lines
unfolding AreLines
orderly lay tries calls [] maps a = tt
orderly lay tries calls (Step row ∷ lines) maps a = orderly lay tries calls lines maps a.0
orderly lay tries calls (Log e ∷ lines) maps a = let o = orderly lay tries calls lines maps a.0 in (o, orderly_entry lay tries calls lines e maps a.0 a.1 (kept calls lines o))
orderly lay tries calls (ReplyLine r ∷ lines) maps a = (orderly lay tries calls lines maps a.0, orderly_reply lay tries calls lines r maps a.0 a.1.1)

-- A record whose lines keep the rules one by one is legal as a whole.
pub lawful_is_legal : (lay : Layout) (tries : ℕ) (calls : List Call) (lines : List Line) → AreMapCalls calls → AreLines lay tries calls lines → IsLegal calls lines
lawful_is_legal lay tries calls lines maps a = legal calls lines (orderly lay tries calls lines maps a)
