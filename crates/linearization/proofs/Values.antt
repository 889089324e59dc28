-- The value of a key after a turn, by the changes: what the map of the entries up to then gives.
use Rattle.std.proofs.Common.{◌≡◌, ℕ, ◌≤◌, Bool, true, false, cond, eqb, List, [], ◌∷◌, Option, Some, None, refl, sym, ◌∙◌, ap, subst, arith, nat_le as leb, leb-true, le-leb}
use Rattle.record.specs.Common.{Pair, MapCall, MapEdit, edit_key, edit_of, get, reply, IsRising, Call, map_call_of, entries_until, map_of}
use Rattle.ordered_map.specs.OrderedMap.{after_edit}
use Rattle.ordered_map.proofs.Lemmas.{edit_gives, edited_rises}
use Rattle.record.specs.declared.record.Entry.{Entry}
use Rattle.record.specs.MapRecord.{after_maybe}
use Rattle.linearization.specs.declared.places.Change.{Change}
use Rattle.linearization.specs.Entries.{IsChangeByEdit, IsChangeBy, AreUpTo, IsChangeOf, AreChangesOf}

-- the value of the key after turn m: that of its newest change up to then
abbrev pub value_at : ℕ → ℕ → List Change → Option ℕ
value_at key m [] = None
value_at key m (c ∷ cs) = cond (leb c.turn m) (cond (eqb key c.key) c.value (value_at key m cs)) (value_at key m cs)

-- the change of an edit changes the value of its key alone
edit_changes : (made : Option MapEdit) (c : Change) (m : List Pair) → IsChangeByEdit made c → IsRising m → IsRising (after_edit made m) × ((key : ℕ) → get key (after_edit made m) ≡ cond (eqb key c.key) c.value (get key m))
edit_changes (Some e) c m x rising = (edited_rises e m rising, λ key. rw (x.0, x.1) (edit_gives e m key rising (eqb key (edit_key e)) refl))
edit_changes None c m x rising = absurd x

-- and so does that of a call
change_gives : (call : Option MapCall) (c : Change) (m : List Pair) → IsChangeBy call m c → IsRising m → IsRising (after_maybe call m) × ((key : ℕ) → get key (after_maybe call m) ≡ cond (eqb key c.key) c.value (get key m))
change_gives (Some call) c m x rising = edit_changes (edit_of call (reply call m)) c m x rising
change_gives None c m x rising = absurd x

-- entries up to a turn are all there at any later one
pub until_all : (turn m : ℕ) (es : List Entry) → AreUpTo turn es → turn ≤ m → entries_until m es ≡ es
until_all turn m [] a i = refl
until_all turn m (e ∷ es) a i = rw (le-leb e.step m (let j = a.0 in omega (j, i, arith))) (ap (λ rest. e ∷ rest) (until_all turn m es a.1 i))

-- with one more of both, whether its turn is reached or not
value_more : (calls : List Call) (e : Entry) (es : List Entry) (c : Change) (cs : List Change) (m : ℕ) → IsChangeOf calls es e c → IsRising (map_of calls (entries_until m es)) × ((key : ℕ) → get key (map_of calls (entries_until m es)) ≡ value_at key m cs) → (b : Bool) → leb e.step m ≡ b → IsRising (map_of calls (cond b (e ∷ entries_until m es) (entries_until m es))) × ((key : ℕ) → get key (map_of calls (cond b (e ∷ entries_until m es) (entries_until m es))) ≡ cond b (cond (eqb key c.key) c.value (value_at key m cs)) (value_at key m cs))
value_more calls e es c cs m x older true come =
    let all : entries_until m es ≡ es = until_all e.step m es x.2 (leb-true e.step m come) in
    let by = subst (λ (rest : List Entry). IsChangeBy (map_call_of calls e.client.0 e.call) (map_of calls rest) c) (sym all) x.1 in
    let y = change_gives (map_call_of calls e.client.0 e.call) c (map_of calls (entries_until m es)) by older.0 in
    (y.0, λ key. y.1 key ∙ ap (λ v. cond (eqb key c.key) c.value v) (older.1 key))
value_more calls e es c cs m x older false come = older

-- the map of the entries up to a turn gives the values of the changes up to then
pub values : (calls : List Call) (es : List Entry) (cs : List Change) (m : ℕ) → AreChangesOf calls es cs → IsRising (map_of calls (entries_until m es)) × ((key : ℕ) → get key (map_of calls (entries_until m es)) ≡ value_at key m cs)
values calls [] [] m x = (tt, λ key. refl)
values calls [] (c ∷ cs) m x = absurd x
values calls (e ∷ es) [] m x = absurd x
values calls (e ∷ es) (c ∷ cs) m x = rw x.0.0 (value_more calls e es c cs m x.0 (values calls es cs m x.1) (leb e.step m) refl)

pub value_is : (calls : List Call) (es : List Entry) (cs : List Change) (key m : ℕ) → AreChangesOf calls es cs → get key (map_of calls (entries_until m es)) ≡ value_at key m cs
value_is calls es cs key m x = (values calls es cs m x).1 key
