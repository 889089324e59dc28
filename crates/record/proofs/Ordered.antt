-- What the rules say of each reply by itself, at the turns of its own call, gives one order of all
-- calls.
use Rattle.std.proofs.Common.{◌≡◌, ℕ, zero, suc, ◌+◌, ◌*◌, ◌≤◌, Bool, true, false, cond, ◌&&◌, eqb, ltb, leb, List, [], ◌∷◌, ◌++◌, refl, sym, ◌∙◌, ap, subst, arith}
use Rattle.std.proofs.lemmas.Bool.{ltb-true, ltb-false, le-ltb, le-leb, lt-leb, eqb-true, eq-eqb, and_parts}
use Rattle.std.specs.Prelude.{Option, Some, None, is_none, is_some}
use Rattle.record.specs.Common.{Pair, MapCall, MapEdit, MapReply, reply, after, changes_map, edit_of, Call, map_call_of, reply_told, written_log, entries_until, map_of, map_at, entries_of_call, IsPlacedOnMap}
use Rattle.ordered_map.proofs.Lemmas.{after_is}
use Rattle.record.specs.declared.record.Line.{Line}
use Rattle.record.specs.declared.record.Line.TheVariants.{Step, Log, Reply as ReplyLine}
use Rattle.record.specs.declared.record.Entry.{Entry}
use Rattle.record.specs.declared.record.Finished.{Finished}
use Rattle.record.specs.declared.record.Answer.{Answer}
use Rattle.record.specs.MapRecord.{after_maybe, is_of_call}
use Rattle.record.specs.Placed.{IsPlacedChange, IsPlacedReading, IsRefused, IsPlacedChangeOrReading}
use Rattle.record.specs.Legal.{Event, Change, Read, event_client, event_call, event_place, with_event, events, answer_to, IsReplyOn, AreReplies, times, times_due, StandAsDue, StandOnce, unanswered, AreFewUnanswered, IsLegal}

-- Events in order

-- this is true of each of the events
abbrev pub AllEvents : (Event → Type 0) → List Event → Type 0
AllEvents P [] = Unit {0}
AllEvents P (x ∷ xs) = P x × AllEvents P xs

abbrev AllFrom : ℕ → List Event → Type 0
AllFrom p xs = AllEvents (λ (x : Event). p ≤ event_place x) xs

abbrev pub AllUpTo : ℕ → List Event → Type 0
AllUpTo p xs = AllEvents (λ (x : Event). event_place x ≤ p) xs

abbrev IsSorted : List Event → Type 0
IsSorted [] = Unit {0}
IsSorted (x ∷ xs) = AllFrom (event_place x) xs × IsSorted xs

pub all_with : (P : Event → Type 0) (x : Event) (ys : List Event) → P x → AllEvents P ys → AllEvents P (with_event x ys)
all_with P x [] i a = (i, tt)
all_with P x (y ∷ ys) i a = go (ltb (event_place x) (event_place y)) (all_with P x ys i a.1)
  where
    go : (b : Bool) → AllEvents P (with_event x ys) → AllEvents P (cond b (x ∷ y ∷ ys) (y ∷ with_event x ys))
    go true rest = (i, a)
    go false rest = (a.0, rest)

weaker : (p q : ℕ) (xs : List Event) → p ≤ q → AllFrom q xs → AllFrom p xs
weaker p q [] i a = tt
weaker p q (x ∷ xs) i a = let j = a.0 in (omega (i, j, arith), weaker p q xs i a.1)

sorted_place : (x : Event) (ys : List Event) → IsSorted ys → IsSorted (with_event x ys)
sorted_place x [] s = (tt, tt)
sorted_place x (y ∷ ys) s = go (ltb (event_place x) (event_place y)) refl (sorted_place x ys s.1)
  where
    go : (b : Bool) → ltb (event_place x) (event_place y) ≡ b → IsSorted (with_event x ys) → IsSorted (cond b (x ∷ y ∷ ys) (y ∷ with_event x ys))
    go true e rest =
        let i = ltb-true (event_place x) (event_place y) e in
        let j : event_place x ≤ event_place y = omega (i, arith) in
        ((j, weaker (event_place x) (event_place y) ys j s.0), s)
    go false e rest = (all_with (λ (z : Event). event_place y ≤ event_place z) x ys (ltb-false (event_place x) (event_place y) e) s.0, rest)

-- The entries among events, the newest first, before older ones

abbrev pub onto : List Entry → List Event → List Entry
onto es [] = es
onto es (Change e ∷ xs) = onto (e ∷ es) xs
onto es (Read m r ∷ xs) = onto es xs

onto_read : (m : ℕ) (r : Finished) (es : List Entry) (xs : List Event) → onto es (with_event (Read m r) xs) ≡ onto es xs
onto_read m r es [] = refl
onto_read m r es (Change e ∷ xs) = go (ltb (2 * m + 1) (2 * e.step)) (onto_read m r (e ∷ es) xs)
  where
    go : (b : Bool) → onto (e ∷ es) (with_event (Read m r) xs) ≡ onto (e ∷ es) xs → onto es (cond b (Read m r ∷ Change e ∷ xs) (Change e ∷ with_event (Read m r) xs)) ≡ onto (e ∷ es) xs
    go true rest = refl
    go false rest = rest
onto_read m r es (Read n q ∷ xs) = go (ltb (2 * m + 1) (2 * n + 1)) (onto_read m r es xs)
  where
    go : (b : Bool) → onto es (with_event (Read m r) xs) ≡ onto es xs → onto es (cond b (Read m r ∷ Read n q ∷ xs) (Read n q ∷ with_event (Read m r) xs)) ≡ onto es xs
    go true rest = refl
    go false rest = rest

onto_change : (e : Entry) (es : List Entry) (xs : List Event) → AllUpTo (2 * e.step) xs → onto es (with_event (Change e) xs) ≡ e ∷ onto es xs
onto_change e es [] a = refl
onto_change e es (Change d ∷ xs) a = rw (le-ltb (2 * e.step) (2 * d.step) a.0) (onto_change e (d ∷ es) xs a.1)
onto_change e es (Read n q ∷ xs) a = rw (le-ltb (2 * e.step) (2 * n + 1) a.0) (onto_change e es xs a.1)

until_later : (m : ℕ) (es : List Entry) (xs : List Event) → AllFrom (2 * m + 2) xs → entries_until m (onto es xs) ≡ entries_until m es
until_later m es [] a = refl
until_later m es (Change e ∷ xs) a =
    let i = a.0 in
    let t : leb e.step m ≡ false = lt-leb e.step m (omega (i, arith)) in
    until_later m (e ∷ es) xs a.1 ∙ rw t refl
until_later m es (Read n q ∷ xs) a = until_later m es xs a.1

-- Replies at their places, by the entries before

pub record IsReadAt (calls : List Call) (answers : ℕ → ℕ → Option Answer) (r : Finished) (m : List Pair) : Type 0 where
  pub silent : after_maybe (map_call_of calls r.client.0 r.call) m ≡ m
  pub replies : IsReplyOn m (map_call_of calls r.client.0 r.call) (answers r.client.0 r.call)
  pub answered : answers r.client.0 r.call ≡ Some r.answer

abbrev pub AreRight : List Call → (ℕ → ℕ → Option Answer) → List Entry → List Event → Type 0
AreRight calls answers es [] = Unit {0}
AreRight calls answers es (Change e ∷ xs) = IsReplyOn (map_of calls es) (map_call_of calls e.client.0 e.call) (answers e.client.0 e.call) × AreRight calls answers (e ∷ es) xs
AreRight calls answers es (Read m r ∷ xs) = IsReadAt calls answers r (map_of calls es) × AreRight calls answers es xs

replay : (calls : List Call) (answers : ℕ → ℕ → Option Answer) (es : List Entry) (xs : List Event) → AreRight calls answers es xs → AreReplies calls answers (map_of calls es) xs
replay calls answers es [] a = tt
replay calls answers es (Change e ∷ xs) a = (a.0, replay calls answers (e ∷ es) xs a.1)
replay calls answers es (Read m r ∷ xs) a = (a.0.replies, subst (λ n. AreReplies calls answers n xs) (sym a.0.silent) (replay calls answers es xs a.1))

right_change : (calls : List Call) (answers : ℕ → ℕ → Option Answer) (e : Entry) (es : List Entry) (xs : List Event) → AllUpTo (2 * e.step) xs → IsReplyOn (map_of calls (onto es xs)) (map_call_of calls e.client.0 e.call) (answers e.client.0 e.call) → AreRight calls answers es xs → AreRight calls answers es (with_event (Change e) xs)
right_change calls answers e es [] u r a = (r, tt)
right_change calls answers e es (Change d ∷ xs) u r a = rw (le-ltb (2 * e.step) (2 * d.step) u.0) (a.0, right_change calls answers e (d ∷ es) xs u.1 r a.1)
right_change calls answers e es (Read n q ∷ xs) u r a = rw (le-ltb (2 * e.step) (2 * n + 1) u.0) (a.0, right_change calls answers e es xs u.1 r a.1)

right_read : (calls : List Call) (answers : ℕ → ℕ → Option Answer) (m : ℕ) (r : Finished) (es : List Entry) (xs : List Event) → IsSorted xs → entries_until m es ≡ es → IsReadAt calls answers r (map_of calls (entries_until m (onto es xs))) → AreRight calls answers es xs → AreRight calls answers es (with_event (Read m r) xs)
right_read calls answers m r es [] s u x a = (subst (λ ds. IsReadAt calls answers r (map_of calls ds)) u x, tt)
right_read calls answers m r es (Change e ∷ xs) s u x a = go (ltb (2 * m + 1) (2 * e.step)) refl (λ v. right_read calls answers m r (e ∷ es) xs s.1 v x a.1)
  where
    go : (b : Bool) → ltb (2 * m + 1) (2 * e.step) ≡ b → (entries_until m (e ∷ es) ≡ e ∷ es → AreRight calls answers (e ∷ es) (with_event (Read m r) xs)) → AreRight calls answers es (cond b (Read m r ∷ Change e ∷ xs) (Change e ∷ with_event (Read m r) xs))
    go true t rest =
        let i = ltb-true (2 * m + 1) (2 * e.step) t in
        let j : 2 * m + 2 ≤ 2 * e.step = omega (i, arith) in
        (subst (λ ds. IsReadAt calls answers r (map_of calls ds)) (until_later m es (Change e ∷ xs) (j, weaker (2 * m + 2) (2 * e.step) xs j s.0) ∙ u) x, a)
    go false t rest =
        let i = ltb-false (2 * m + 1) (2 * e.step) t in
        let k : leb e.step m ≡ true = le-leb e.step m (omega (i, arith)) in
        let u' : entries_until m (e ∷ es) ≡ e ∷ es = rw k (ap (λ ds. e ∷ ds) u) in
        (a.0, rest u')
right_read calls answers m r es (Read n q ∷ xs) s u x a = go (ltb (2 * m + 1) (2 * n + 1)) refl (right_read calls answers m r es xs s.1 u x a.1)
  where
    go : (b : Bool) → ltb (2 * m + 1) (2 * n + 1) ≡ b → AreRight calls answers es (with_event (Read m r) xs) → AreRight calls answers es (cond b (Read m r ∷ Read n q ∷ xs) (Read n q ∷ with_event (Read m r) xs))
    go true t rest =
        let i = ltb-true (2 * m + 1) (2 * n + 1) t in
        let j : 2 * m + 2 ≤ 2 * n + 1 = omega (i, arith) in
        (subst (λ ds. IsReadAt calls answers r (map_of calls ds)) (until_later m es (Read n q ∷ xs) (j, weaker (2 * m + 2) (2 * n + 1) xs j s.0) ∙ u) x, a)
    go false t rest = (a.0, rest)

-- One answer more

abbrev with_answer : (ℕ → ℕ → Option Answer) → Finished → ℕ → ℕ → Option Answer
with_answer answers r c j = cond (eqb r.client.0 c && eqb r.call j) (Some r.answer) (answers c j)

none_left : {A : Type 0} (n : ℕ) → suc n ≡ 0 → A
none_left n e = absurd (omega (e, arith))

right_other : (calls : List Call) (answers : ℕ → ℕ → Option Answer) (r : Finished) (es : List Entry) (xs : List Event) → times r.client.0 r.call xs ≡ 0 → AreRight calls answers es xs → AreRight calls (with_answer answers r) es xs
right_other calls answers r es [] t a = tt
right_other calls answers r es (Change e ∷ xs) t a = go (eqb r.client.0 e.client.0 && eqb r.call e.call) t (λ u. right_other calls answers r (e ∷ es) xs u a.1)
  where
    go : (b : Bool) → cond b (suc (times r.client.0 r.call xs)) (times r.client.0 r.call xs) ≡ 0 → (times r.client.0 r.call xs ≡ 0 → AreRight calls (with_answer answers r) (e ∷ es) xs) → IsReplyOn (map_of calls es) (map_call_of calls e.client.0 e.call) (cond b (Some r.answer) (answers e.client.0 e.call)) × AreRight calls (with_answer answers r) (e ∷ es) xs
    go true u rest = none_left (times r.client.0 r.call xs) u
    go false u rest = (a.0, rest u)
right_other calls answers r es (Read m q ∷ xs) t a = go (eqb r.client.0 q.client.0 && eqb r.call q.call) refl t (λ u. right_other calls answers r es xs u a.1)
  where
    go : (b : Bool) → (eqb r.client.0 q.client.0 && eqb r.call q.call) ≡ b → cond b (suc (times r.client.0 r.call xs)) (times r.client.0 r.call xs) ≡ 0 → (times r.client.0 r.call xs ≡ 0 → AreRight calls (with_answer answers r) es xs) → IsReadAt calls (with_answer answers r) q (map_of calls es) × AreRight calls (with_answer answers r) es xs
    go true e u rest = none_left (times r.client.0 r.call xs) u
    go false e u rest = (record { silent = a.0.silent; replies = rw e a.0.replies; answered = rw e a.0.answered }, rest u)

-- the entries after that of call j of client c
abbrev behind : ℕ → ℕ → List Entry → List Entry
behind c j [] = []
behind c j (e ∷ es) = cond (is_of_call c j e) es (behind c j es)

behind_onto : (c j : ℕ) (es : List Entry) (xs : List Event) → times c j xs ≡ 0 → behind c j (onto es xs) ≡ behind c j es
behind_onto c j es [] t = refl
behind_onto c j es (Change e ∷ xs) t = go (eqb c e.client.0 && eqb j e.call) refl t (λ u. behind_onto c j (e ∷ es) xs u)
  where
    go : (b : Bool) → (eqb c e.client.0 && eqb j e.call) ≡ b → cond b (suc (times c j xs)) (times c j xs) ≡ 0 → (times c j xs ≡ 0 → behind c j (onto (e ∷ es) xs) ≡ behind c j (e ∷ es)) → behind c j (onto (e ∷ es) xs) ≡ behind c j es
    go true i u rest = none_left (times c j xs) u
    go false i u rest = rest u ∙ rw i refl
behind_onto c j es (Read m q ∷ xs) t = go (eqb c q.client.0 && eqb j q.call) t (λ u. behind_onto c j es xs u)
  where
    go : (b : Bool) → cond b (suc (times c j xs)) (times c j xs) ≡ 0 → (times c j xs ≡ 0 → behind c j (onto es xs) ≡ behind c j es) → behind c j (onto es xs) ≡ behind c j es
    go true u rest = none_left (times c j xs) u
    go false u rest = rest u

-- a call that is not answered is no reading
unread : {A : Type 0} (calls : List Call) (answers : ℕ → ℕ → Option Answer) (c j : ℕ) (q : Finished) (m : List Pair) → (eqb c q.client.0 && eqb j q.call) ≡ true → answers c j ≡ None → IsReadAt calls answers q m → A
unread calls answers c j q m e n x =
    let p = and_parts (eqb c q.client.0) (eqb j q.call) e in
    let i : c ≡ q.client.0 = eqb-true c q.client.0 p.0 in
    let k : j ≡ q.call = eqb-true j q.call p.1 in
    let y : None ≡ Some q.answer = sym n ∙ ap (λ d. answers d j) i ∙ ap (λ d. answers q.client.0 d) k ∙ x.answered in
    absurd (cc)

right_own : (calls : List Call) (answers : ℕ → ℕ → Option Answer) (r : Finished) (es : List Entry) (xs : List Event) → answers r.client.0 r.call ≡ None → times r.client.0 r.call xs ≡ 1 → IsReplyOn (map_of calls (behind r.client.0 r.call (onto es xs))) (map_call_of calls r.client.0 r.call) (Some r.answer) → AreRight calls answers es xs → AreRight calls (with_answer answers r) es xs
right_own calls answers r es [] n t x a = tt
right_own calls answers r es (Change e ∷ xs) n t x a = go (eqb r.client.0 e.client.0 && eqb r.call e.call) refl t (λ u. right_own calls answers r (e ∷ es) xs n u x a.1)
  where
    go : (b : Bool) → (eqb r.client.0 e.client.0 && eqb r.call e.call) ≡ b → cond b (suc (times r.client.0 r.call xs)) (times r.client.0 r.call xs) ≡ 1 → (times r.client.0 r.call xs ≡ 1 → AreRight calls (with_answer answers r) (e ∷ es) xs) → IsReplyOn (map_of calls es) (map_call_of calls e.client.0 e.call) (cond b (Some r.answer) (answers e.client.0 e.call)) × AreRight calls (with_answer answers r) (e ∷ es) xs
    go true i u rest =
        let p = and_parts (eqb r.client.0 e.client.0) (eqb r.call e.call) i in
        let c : r.client.0 ≡ e.client.0 = eqb-true r.client.0 e.client.0 p.0 in
        let j : r.call ≡ e.call = eqb-true r.call e.call p.1 in
        let z : times r.client.0 r.call xs ≡ 0 = omega (u, arith) in
        let m : behind r.client.0 r.call (onto (e ∷ es) xs) ≡ es = behind_onto r.client.0 r.call (e ∷ es) xs z ∙ rw i refl in
        let y = subst (λ ds. IsReplyOn (map_of calls ds) (map_call_of calls r.client.0 r.call) (Some r.answer)) m x in
        let w = subst (λ d. IsReplyOn (map_of calls es) (map_call_of calls d r.call) (Some r.answer)) c y in
        (subst (λ d. IsReplyOn (map_of calls es) (map_call_of calls e.client.0 d) (Some r.answer)) j w, right_other calls answers r (e ∷ es) xs z a.1)
    go false i u rest = (a.0, rest u)
right_own calls answers r es (Read m q ∷ xs) n t x a = go (eqb r.client.0 q.client.0 && eqb r.call q.call) refl t (λ u. right_own calls answers r es xs n u x a.1)
  where
    go : (b : Bool) → (eqb r.client.0 q.client.0 && eqb r.call q.call) ≡ b → cond b (suc (times r.client.0 r.call xs)) (times r.client.0 r.call xs) ≡ 1 → (times r.client.0 r.call xs ≡ 1 → AreRight calls (with_answer answers r) es xs) → IsReadAt calls (with_answer answers r) q (map_of calls es) × AreRight calls (with_answer answers r) es xs
    go true e u rest = unread calls answers r.client.0 r.call q (map_of calls es) e n a.0
    go false e u rest = (record { silent = a.0.silent; replies = rw e a.0.replies; answered = rw e a.0.answered }, rest u)

-- a call that is not answered is among the events as many times as it has entries
pub counted : (calls : List Call) (answers : ℕ → ℕ → Option Answer) (c j : ℕ) (es : List Entry) (xs : List Event) → answers c j ≡ None → AreRight calls answers es xs → entries_of_call c j (onto es xs) ≡ times c j xs + entries_of_call c j es
counted calls answers c j es [] n a = omega arith
counted calls answers c j es (Change e ∷ xs) n a = counted calls answers c j (e ∷ es) xs n a.1 ∙ go (eqb c e.client.0 && eqb j e.call)
  where
    go : (b : Bool) → times c j xs + cond b (suc (entries_of_call c j es)) (entries_of_call c j es) ≡ cond b (suc (times c j xs)) (times c j xs) + entries_of_call c j es
    go true = omega arith
    go false = refl
counted calls answers c j es (Read m q ∷ xs) n a = counted calls answers c j es xs n a.1 ∙ go (eqb c q.client.0 && eqb j q.call) refl
  where
    go : (b : Bool) → (eqb c q.client.0 && eqb j q.call) ≡ b → times c j xs + entries_of_call c j es ≡ cond b (suc (times c j xs)) (times c j xs) + entries_of_call c j es
    go true e = unread calls answers c j q (map_of calls es) e n a.0
    go false e = refl

-- A reading changes nothing

none_made : (made : Option MapEdit) → is_some made ≡ false → made ≡ None
none_made None e = refl
none_made (Some edit) e = let x : true ≡ false = e in absurd (cc)

silent_call : (call : MapCall) (m : List Pair) → changes_map call (reply call m) ≡ false → after call m ≡ m
silent_call call m e = after_is call m None (none_made (edit_of call (reply call m)) e)

-- Counts

times_place : (c j : ℕ) (x : Event) (ys : List Event) → times c j (with_event x ys) ≡ times c j (x ∷ ys)
times_place c j x [] = refl
times_place c j x (y ∷ ys) = go (ltb (event_place x) (event_place y)) (eqb c (event_client x) && eqb j (event_call x)) (eqb c (event_client y) && eqb j (event_call y)) refl refl (times_place c j x ys)
  where
    go : (b d e : Bool) → (eqb c (event_client x) && eqb j (event_call x)) ≡ d → (eqb c (event_client y) && eqb j (event_call y)) ≡ e → times c j (with_event x ys) ≡ times c j (x ∷ ys) → times c j (cond b (x ∷ y ∷ ys) (y ∷ with_event x ys)) ≡ times c j (x ∷ y ∷ ys)
    go true d e i k rest = refl
    go false true true i k rest = rw (i, k) (ap suc (rest ∙ rw i refl))
    go false true false i k rest = rw (i, k) (rest ∙ rw i refl)
    go false false true i k rest = rw (i, k) (ap suc (rest ∙ rw i refl))
    go false false false i k rest = rw (i, k) (rest ∙ rw i refl)

unanswered_place : (answers : ℕ → ℕ → Option Answer) (c : ℕ) (x : Event) (ys : List Event) → unanswered answers c (with_event x ys) ≡ unanswered answers c (x ∷ ys)
unanswered_place answers c x [] = refl
unanswered_place answers c x (y ∷ ys) = go (ltb (event_place x) (event_place y)) (eqb c (event_client x) && is_none (answers c (event_call x))) (eqb c (event_client y) && is_none (answers c (event_call y))) refl refl (unanswered_place answers c x ys)
  where
    go : (b d e : Bool) → (eqb c (event_client x) && is_none (answers c (event_call x))) ≡ d → (eqb c (event_client y) && is_none (answers c (event_call y))) ≡ e → unanswered answers c (with_event x ys) ≡ unanswered answers c (x ∷ ys) → unanswered answers c (cond b (x ∷ y ∷ ys) (y ∷ with_event x ys)) ≡ unanswered answers c (x ∷ y ∷ ys)
    go true d e i k rest = refl
    go false true true i k rest = rw (i, k) (ap suc (rest ∙ rw i refl))
    go false true false i k rest = rw (i, k) (rest ∙ rw i refl)
    go false false true i k rest = rw (i, k) (ap suc (rest ∙ rw i refl))
    go false false false i k rest = rw (i, k) (rest ∙ rw i refl)

-- an answer more leaves no more unanswered
fewer : (answers : ℕ → ℕ → Option Answer) (r : Finished) (c : ℕ) (xs : List Event) → unanswered (with_answer answers r) c xs ≤ unanswered answers c xs
fewer answers r c [] = omega arith
fewer answers r c (x ∷ xs) = go (eqb c (event_client x)) (eqb r.client.0 c && eqb r.call (event_call x)) (answers c (event_call x)) (fewer answers r c xs)
  where
    go : (b d : Bool) (a : Option Answer) → unanswered (with_answer answers r) c xs ≤ unanswered answers c xs → cond (b && is_none (cond d (Some r.answer) a)) (suc (unanswered (with_answer answers r) c xs)) (unanswered (with_answer answers r) c xs) ≤ cond (b && is_none a) (suc (unanswered answers c xs)) (unanswered answers c xs)
    go false d a i = i
    go true false (Some a) i = i
    go true false None i = omega (i, arith)
    go true true (Some a) i = i
    go true true None i = omega (i, arith)

once_each : (xs : List Event) → ((c j : ℕ) → times c j xs ≤ 1) → StandOnce xs
once_each [] one = tt
once_each (x ∷ xs) one = (first, once_each xs (λ c j. go (eqb c (event_client x) && eqb j (event_call x)) (times c j xs) (one c j)))
  where
    go : (b : Bool) (n : ℕ) → cond b (suc n) n ≤ 1 → n ≤ 1
    go true n i = omega (i, arith)
    go false n i = i

    here : cond (eqb (event_client x) (event_client x) && eqb (event_call x) (event_call x)) (suc (times (event_client x) (event_call x) xs)) (times (event_client x) (event_call x) xs) ≤ 1
    here = one (event_client x) (event_call x)

    first : times (event_client x) (event_call x) xs ≡ 0
    first =
        let c : eqb (event_client x) (event_client x) ≡ true = eq-eqb (event_client x) (event_client x) refl in
        let j : eqb (event_call x) (event_call x) ≡ true = eq-eqb (event_call x) (event_call x) refl in
        let i : suc (times (event_client x) (event_call x) xs) ≤ 1 = rw (c, j) at here in
        omega (i, arith)

few_each : (answers : ℕ → ℕ → Option Answer) (xs : List Event) → ((c : ℕ) → unanswered answers c xs ≤ 1) → AreFewUnanswered answers xs
few_each answers [] few = tt
few_each answers (x ∷ xs) few = (few (event_client x), few_each answers xs (λ c. go (eqb c (event_client x) && is_none (answers c (event_call x))) (unanswered answers c xs) (few c)))
  where
    go : (b : Bool) (n : ℕ) → cond b (suc n) n ≤ 1 → n ≤ 1
    go true n i = omega (i, arith)
    go false n i = i

-- one event more, of a call that is not answered, leaves those that are their places
places_more : (lines : List Line) (x : Event) (xs : List Event) → answer_to lines (event_client x) (event_call x) ≡ None → StandAsDue lines xs → StandAsDue lines (with_event x xs)
places_more [] x xs n a = tt
places_more (Step row ∷ lines) x xs n a = places_more lines x xs n a
places_more (Log e ∷ lines) x xs n a = places_more lines x xs n a
places_more (ReplyLine r ∷ lines) x xs n a = go (eqb r.client.0 (event_client x) && eqb r.call (event_call x)) refl n (λ u. places_more lines x xs u a.1)
  where
    go : (b : Bool) → (eqb r.client.0 (event_client x) && eqb r.call (event_call x)) ≡ b → cond b (Some r.answer) (answer_to lines (event_client x) (event_call x)) ≡ None → (answer_to lines (event_client x) (event_call x) ≡ None → StandAsDue lines (with_event x xs)) → (times r.client.0 r.call (with_event x xs) ≡ times_due (reply_told r.answer)) × StandAsDue lines (with_event x xs)
    go true i u rest = let y : Some r.answer ≡ None = u in absurd (cc)
    go false i u rest = (times_place r.client.0 r.call x xs ∙ rw i a.0, rest u)

-- What the lines say one by one

-- An entry is of a call of the map that is not answered and has no other; no other call of its
-- client is entered and not answered; all that was placed before is before its turn.
pub record IsOrderlyEntry (calls : List Call) (lines : List Line) (e : Entry) : Type 0 where
  pub call : MapCall
  pub is : map_call_of calls e.client.0 e.call ≡ Some call
  pub pending : answer_to lines e.client.0 e.call ≡ None
  pub first : entries_of_call e.client.0 e.call (written_log lines) ≡ 0
  pub alone : unanswered (answer_to lines) e.client.0 (events calls lines) ≡ 0
  pub newest : AllUpTo (2 * e.step) (events calls lines)

-- a reply is to a call of the map that is not answered, which took place where the rules say
pub record IsOrderlyReply (calls : List Call) (lines : List Line) (r : Finished) : Type 0 where
  pub call : MapCall
  pub is : map_call_of calls r.client.0 r.call ≡ Some call
  pub pending : answer_to lines r.client.0 r.call ≡ None
  pub rule : IsPlacedOnMap (reply_told r.answer) calls lines call r

abbrev pub AreOrderly : List Call → List Line → Type 0
AreOrderly calls [] = Unit {0}
AreOrderly calls (Step row ∷ lines) = AreOrderly calls lines
AreOrderly calls (Log e ∷ lines) = AreOrderly calls lines × IsOrderlyEntry calls lines e
AreOrderly calls (ReplyLine r ∷ lines) = AreOrderly calls lines × IsOrderlyReply calls lines r

-- The order that they make

-- what the events of these lines keep
pub record IsKept (calls : List Call) (lines : List Line) (xs : List Event) : Type 0 where
  pub right : AreRight calls (answer_to lines) [] xs
  pub sorted : IsSorted xs
  pub logged : onto [] xs ≡ written_log lines
  pub placed : StandAsDue lines xs
  pub one : (c j : ℕ) → times c j xs ≤ 1
  pub few : (c : ℕ) → unanswered (answer_to lines) c xs ≤ 1

-- a call that is not answered is there as many times as it has entries
stands_as_entered : (calls : List Call) (lines : List Line) (c j n : ℕ) (xs : List Event) → IsKept calls lines xs → answer_to lines c j ≡ None → entries_of_call c j (written_log lines) ≡ n → times c j xs ≡ n
stands_as_entered calls lines c j n xs k none e =
    let i : entries_of_call c j (onto [] xs) ≡ n = ap (entries_of_call c j) k.logged ∙ e in
    let m = counted calls (answer_to lines) c j [] xs none k.right in
    omega (i, m, arith)

-- the entries after that of a call which has one: those that the lines after it have
behind_entry : (c j : ℕ) (e : Entry) (newer older : List Line) → e.client.0 ≡ c → e.call ≡ j → entries_of_call c j (written_log (newer ++ Log e ∷ older)) ≡ 1 → behind c j (written_log (newer ++ Log e ∷ older)) ≡ written_log older
behind_entry c j e [] older i k n =
    let p = eq-eqb c e.client.0 (sym i) in
    let q = eq-eqb j e.call (sym k) in
    rw (p, q) refl
behind_entry c j e (Step row ∷ newer) older i k n = behind_entry c j e newer older i k n
behind_entry c j e (ReplyLine r ∷ newer) older i k n = behind_entry c j e newer older i k n
behind_entry c j e (Log d ∷ newer) older i k n = go (eqb c d.client.0 && eqb j d.call) n (λ u. behind_entry c j e newer older i k u)
  where
    some : (ls : List Line) → suc zero ≤ entries_of_call c j (written_log (ls ++ Log e ∷ older))
    some [] =
        let p = eq-eqb c e.client.0 (sym i) in
        let q = eq-eqb j e.call (sym k) in
        rw (p, q) (omega arith)
    some (Step row ∷ ls) = some ls
    some (ReplyLine r ∷ ls) = some ls
    some (Log f ∷ ls) = more (eqb c f.client.0 && eqb j f.call) (some ls)
      where
        more : (b : Bool) → suc zero ≤ entries_of_call c j (written_log (ls ++ Log e ∷ older)) → suc zero ≤ cond b (suc (entries_of_call c j (written_log (ls ++ Log e ∷ older)))) (entries_of_call c j (written_log (ls ++ Log e ∷ older)))
        more true u = omega arith
        more false u = u

    go : (b : Bool) → cond b (suc (entries_of_call c j (written_log (newer ++ Log e ∷ older)))) (entries_of_call c j (written_log (newer ++ Log e ∷ older))) ≡ 1 → (entries_of_call c j (written_log (newer ++ Log e ∷ older)) ≡ 1 → behind c j (written_log (newer ++ Log e ∷ older)) ≡ written_log older) → cond b (written_log (newer ++ Log e ∷ older)) (behind c j (written_log (newer ++ Log e ∷ older))) ≡ written_log older
    go true u rest = let v = some newer in absurd (omega (u, v, arith))
    go false u rest = rest u

-- an answered call is there as many times as it has to, and its answer is known
answer_keeps : (calls : List Call) (lines : List Line) (r : Finished) (xs : List Event) → IsKept calls lines xs → AreRight calls (answer_to (ReplyLine r ∷ lines)) [] xs → times r.client.0 r.call xs ≡ times_due (reply_told r.answer) → IsKept calls (ReplyLine r ∷ lines) xs
answer_keeps calls lines r xs k a t = record {
  right = a;
  sorted = k.sorted;
  logged = k.logged;
  placed = (t, k.placed);
  one = k.one;
  few = λ c. let i = k.few c in let j = fewer (answer_to lines) r c xs in omega (i, j, arith);
}

-- with a call that was nowhere, each still is there once at most
one_more : (c j client call : ℕ) (xs : List Event) → times client call xs ≡ 0 → (b : Bool) → (eqb c client && eqb j call) ≡ b → times c j xs ≤ 1 → cond b (suc (times c j xs)) (times c j xs) ≤ 1
one_more c j client call xs absent true i u =
    let p = and_parts (eqb c client) (eqb j call) i in
    let z : times c j xs ≡ 0 = ap (λ d. times d j xs) (eqb-true c client p.0) ∙ ap (λ d. times client d xs) (eqb-true j call p.1) ∙ absent in
    omega (z, arith)
one_more c j client call xs absent false i u = u

entry_keeps : (calls : List Call) (lines : List Line) (e : Entry) → IsOrderlyEntry calls lines e → IsKept calls lines (events calls lines) → IsKept calls (Log e ∷ lines) (with_event (Change e) (events calls lines))
entry_keeps calls lines e o k = record {
  right = right_change calls (answer_to lines) e [] xs o.newest its_reply k.right;
  sorted = sorted_place (Change e) xs k.sorted;
  logged = onto_change e [] xs o.newest ∙ ap (λ es. e ∷ es) k.logged;
  placed = places_more lines (Change e) xs o.pending k.placed;
  one = λ c j. rw (times_place c j (Change e) xs) (one_more c j e.client.0 e.call xs absent (eqb c e.client.0 && eqb j e.call) refl (k.one c j));
  few = λ c. rw (unanswered_place (answer_to lines) c (Change e) xs) (few_more c (eqb c e.client.0) refl (is_none (answer_to lines c e.call)) (k.few c));
}
  where
    xs : List Event
    xs = events calls lines

    its_reply : IsReplyOn (map_of calls (onto [] xs)) (map_call_of calls e.client.0 e.call) (answer_to lines e.client.0 e.call)
    its_reply = rw (o.is, o.pending) tt

    absent : times e.client.0 e.call xs ≡ 0
    absent = stands_as_entered calls lines e.client.0 e.call 0 xs k o.pending o.first

    few_more : (c : ℕ) (b : Bool) → eqb c e.client.0 ≡ b → (d : Bool) → unanswered (answer_to lines) c xs ≤ 1 → cond (b && d) (suc (unanswered (answer_to lines) c xs)) (unanswered (answer_to lines) c xs) ≤ 1
    few_more c true i true u = let x : unanswered (answer_to lines) c xs ≡ 0 = ap (λ d. unanswered (answer_to lines) d xs) (eqb-true c e.client.0 i) ∙ o.alone in omega (x, arith)
    few_more c true i false u = u
    few_more c false i d u = u

change_keeps : (calls : List Call) (lines : List Line) (r : Finished) (o : IsOrderlyReply calls lines r) (a : MapReply) → reply_told r.answer ≡ Some a → IsPlacedChange calls lines o.call r → IsKept calls lines (events calls lines) → IsKept calls (ReplyLine r ∷ lines) (events calls lines)
change_keeps calls lines r o a t x k =
    answer_keeps calls lines r xs k (right_own calls (answer_to lines) r [] xs o.pending once at_entry k.right) (rw t once)
  where
    xs : List Event
    xs = events calls lines

    once : times r.client.0 r.call xs ≡ 1
    once = stands_as_entered calls lines r.client.0 r.call 1 xs k o.pending x.once

    before : behind r.client.0 r.call (onto [] xs) ≡ written_log x.older
    before =
        ap (behind r.client.0 r.call) k.logged
        ∙ subst (λ ls. entries_of_call r.client.0 r.call (written_log ls) ≡ 1 → behind r.client.0 r.call (written_log ls) ≡ written_log x.older) (sym x.entered) (behind_entry r.client.0 r.call x.entry x.newer x.older x.client x.number) x.once

    at_entry : IsReplyOn (map_of calls (behind r.client.0 r.call (onto [] xs))) (map_call_of calls r.client.0 r.call) (Some r.answer)
    at_entry = subst (λ es. IsReplyOn (map_of calls es) (map_call_of calls r.client.0 r.call) (Some r.answer)) (sym before) (rw o.is x.replies)

reading_keeps : (calls : List Call) (lines : List Line) (r : Finished) (o : IsOrderlyReply calls lines r) (a : MapReply) → reply_told r.answer ≡ Some a → changes_map o.call a ≡ false → (x : IsPlacedReading calls lines o.call r) → IsKept calls lines (events calls lines) → IsKept calls (ReplyLine r ∷ lines) (with_event (Read x.turn r) (events calls lines))
reading_keeps calls lines r o a t f x k = record {
  right = right_read calls (answer_to (ReplyLine r ∷ lines)) x.turn r [] xs k.sorted refl read_now (right_other calls (answer_to lines) r [] xs absent k.right);
  sorted = sorted_place (Read x.turn r) xs k.sorted;
  logged = onto_read x.turn r [] xs ∙ k.logged;
  placed = (its_due, places_more lines (Read x.turn r) xs o.pending k.placed);
  one = λ c j. rw (times_place c j (Read x.turn r) xs) (one_more c j r.client.0 r.call xs absent (eqb c r.client.0 && eqb j r.call) refl (k.one c j));
  few = λ c. rw (unanswered_place (answer_to (ReplyLine r ∷ lines)) c (Read x.turn r) xs) (few_more c (eqb c r.client.0) refl);
}
  where
    xs : List Event
    xs = events calls lines

    absent : times r.client.0 r.call xs ≡ 0
    absent = stands_as_entered calls lines r.client.0 r.call 0 xs k o.pending x.none

    same_client : eqb r.client.0 r.client.0 ≡ true
    same_client = eq-eqb r.client.0 r.client.0 refl

    same_call : eqb r.call r.call ≡ true
    same_call = eq-eqb r.call r.call refl

    now : List Pair
    now = map_at calls lines x.turn

    told_now : a ≡ reply o.call now
    told_now = let e : Some a ≡ Some (reply o.call now) = sym t ∙ x.greatest.holds in cc

    read_at : IsReadAt calls (answer_to (ReplyLine r ∷ lines)) r now
    read_at = record {
      silent = rw o.is (silent_call o.call now (ap (changes_map o.call) (sym told_now) ∙ f));
      replies = rw (o.is, same_client, same_call) x.greatest.holds;
      answered = rw (same_client, same_call) refl;
    }

    read_now : IsReadAt calls (answer_to (ReplyLine r ∷ lines)) r (map_of calls (entries_until x.turn (onto [] xs)))
    read_now = subst (λ es. IsReadAt calls (answer_to (ReplyLine r ∷ lines)) r (map_of calls (entries_until x.turn es))) (sym k.logged) read_at

    its_due : times r.client.0 r.call (with_event (Read x.turn r) xs) ≡ times_due (reply_told r.answer)
    its_due = times_place r.client.0 r.call (Read x.turn r) xs ∙ rw (same_client, same_call, t) (ap suc absent)

    fewer_now : (c : ℕ) → unanswered (answer_to (ReplyLine r ∷ lines)) c xs ≤ 1
    fewer_now c = let i = k.few c in let j = fewer (answer_to lines) r c xs in omega (i, j, arith)

    few_more : (c : ℕ) (b : Bool) → eqb c r.client.0 ≡ b → cond (b && is_none (answer_to (ReplyLine r ∷ lines) c r.call)) (suc (unanswered (answer_to (ReplyLine r ∷ lines)) c xs)) (unanswered (answer_to (ReplyLine r ∷ lines)) c xs) ≤ 1
    few_more c true i =
        let m : eqb r.client.0 c ≡ true = eq-eqb r.client.0 c (sym (eqb-true c r.client.0 i)) in
        rw (m, same_call) (fewer_now c)
    few_more c false i = fewer_now c

refusal_keeps : (calls : List Call) (lines : List Line) (r : Finished) (o : IsOrderlyReply calls lines r) → reply_told r.answer ≡ None → IsRefused lines r → IsKept calls lines (events calls lines) → IsKept calls (ReplyLine r ∷ lines) (events calls lines)
refusal_keeps calls lines r o t x k =
    answer_keeps calls lines r xs k (right_other calls (answer_to lines) r [] xs absent k.right) (rw t absent)
  where
    xs : List Event
    xs = events calls lines

    absent : times r.client.0 r.call xs ≡ 0
    absent = stands_as_entered calls lines r.client.0 r.call 0 xs k o.pending x.none

reply_keeps : (calls : List Call) (lines : List Line) (r : Finished) → IsOrderlyReply calls lines r → IsKept calls lines (events calls lines) → IsKept calls (ReplyLine r ∷ lines) (events calls (ReplyLine r ∷ lines))
reply_keeps calls lines r o k = go (reply_told r.answer) refl o.rule
  where
    tell : (a : MapReply) → reply_told r.answer ≡ Some a → (b : Bool) → changes_map o.call a ≡ b → IsPlacedChangeOrReading b calls lines o.call r → IsKept calls (ReplyLine r ∷ lines) (events calls (ReplyLine r ∷ lines))
    tell a t true c x =
        let e : events calls (ReplyLine r ∷ lines) ≡ events calls lines = rw (o.is, t, c) refl in
        subst (IsKept calls (ReplyLine r ∷ lines)) (sym e) (change_keeps calls lines r o a t x k)
    tell a t false c x =
        let e : events calls (ReplyLine r ∷ lines) ≡ with_event (Read x.turn r) (events calls lines) = rw (o.is, t, c, x.moment) refl in
        subst (IsKept calls (ReplyLine r ∷ lines)) (sym e) (reading_keeps calls lines r o a t c x k)

    go : (t : Option MapReply) → reply_told r.answer ≡ t → IsPlacedOnMap t calls lines o.call r → IsKept calls (ReplyLine r ∷ lines) (events calls (ReplyLine r ∷ lines))
    go None t x =
        let e : events calls (ReplyLine r ∷ lines) ≡ events calls lines = rw (o.is, t) refl in
        subst (IsKept calls (ReplyLine r ∷ lines)) (sym e) (refusal_keeps calls lines r o t x k)
    go (Some a) t x = tell a t (changes_map o.call a) refl x

pub kept : (calls : List Call) (lines : List Line) → AreOrderly calls lines → IsKept calls lines (events calls lines)
kept calls [] a = record { right = tt; sorted = tt; logged = refl; placed = tt; one = λ c j. omega arith; few = λ c. omega arith }
kept calls (Step row ∷ lines) a = let k = kept calls lines a in record { right = k.right; sorted = k.sorted; logged = k.logged; placed = k.placed; one = k.one; few = k.few }
kept calls (Log e ∷ lines) a = entry_keeps calls lines e a.1 (kept calls lines a.0)
kept calls (ReplyLine r ∷ lines) a = reply_keeps calls lines r a.1 (kept calls lines a.0)

-- Rules that are kept reply by reply make the whole record legal.
pub legal : (calls : List Call) (lines : List Line) → AreOrderly calls lines → IsLegal calls lines
legal calls lines a =
    let k = kept calls lines a in
    record {
      replies = replay calls (answer_to lines) [] (events calls lines) k.right;
      counted = k.placed;
      once = once_each (events calls lines) k.one;
      few = few_each (answer_to lines) (events calls lines) k.few;
    }
