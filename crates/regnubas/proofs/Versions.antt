-- Which entries have come between two moments of a run, and what the map is then.
use Rattle.std.proofs.Common.{◌≡◌, ◌<◌, ℕ, ◌+◌, ◌==◌, Bool, true, false, cond, inl, inr, List, [], ◌∷◌, ◌++◌, length, refl, sym, ◌∙◌, ap, subst, arith, eq-eqb}
use Rattle.histories.specs.Common.{Mode, Layout, Row, History, Opening, Opened, opening_of, ◌⊳◌, value, Extends, HasWon, Lawful, Entry, log, owner, IsEntered}
use Rattle.arena.proofs.Lemmas.{ends_trans, owner_is, same_opening}
use Rattle.histories.proofs.Lemmas.{Logs, entered_won, entry_of, facts, lawful_since, lawful_tail, logs, same as log_same, wins as log_wins, won_named, won_real}
use Rattle.ordered_map.specs.declared.pair.Pair.{Pair}
use Rattle.ordered_map.specs.OrderedMap.{MapCall, MapEdit, MapReply}
use Rattle.ordered_map.specs.Planted.{pairs_of}
use Rattle.ordered_map.specs.Runs.{IsMapRun, map_of_log, first_pairs}
use Rattle.ordered_map.specs.Spelled.{Spells}
use Rattle.ordered_map.proofs.Lemmas.{one_spelling}
use Rattle.ordered_map.proofs.MapLemmas.{log_edits, spells_log}
use Rattle.planting.specs.Plantings.{PlantingView, nothing_planted, opening_for}
use Rattle.forest.specs.Dictionary.{IsChange}
use Rattle.tables.specs.Passes.{PassView, IsLaterView, run_of}
use Rattle.tables.specs.Shares.{entries_of}
use Rattle.tables.specs.TableRule.{history_of}
use Rattle.regnubas.specs.Versions.{EntersNothing}

-- Entries of one pass among others

entries_append : (c : ℕ) (xs ys : List Entry) → entries_of c (xs ++ ys) ≡ entries_of c xs ++ entries_of c ys
entries_append c [] ys = refl
entries_append c (x ∷ xs) ys = go (x.owner == c) (entries_append c xs ys)
  where
    go : (t : Bool) → entries_of c (xs ++ ys) ≡ entries_of c xs ++ entries_of c ys → cond t (x ∷ entries_of c (xs ++ ys)) (entries_of c (xs ++ ys)) ≡ cond t (x ∷ entries_of c xs) (entries_of c xs) ++ entries_of c ys
    go true e = ap (λ es. x ∷ es) e
    go false e = e

own_entry : (c : ℕ) (e : Entry) (es : List Entry) → e.owner ≡ c → entries_of c (e ∷ es) ≡ e ∷ entries_of c es
own_entry c e es same = rw (eq-eqb e.owner c same) refl

length_append : (xs ys : List Entry) → length (xs ++ ys) ≡ length xs + length ys
length_append [] ys = omega arith
length_append (x ∷ xs) ys = let e = length_append xs ys in omega arith

nothing_more : (more es : List Entry) → length (more ++ es) ≡ length es → more ≡ []
nothing_more [] es e = refl
nothing_more (x ∷ more) es e = absurd (let l = length_append more es in omega arith)

-- The log grows

-- the first list is the second with more entries in front
record Grows (es fs : List Entry) : Type 0 where
  more : List Entry
  is : es ≡ more ++ fs

log_grows : (lay : Layout) (h before : History) → Lawful lay h → Extends h before → Grows (log lay h) (log lay before)
log_grows lay (Opened o) before l e = record { more = []; is = ap (log lay) (sym e) }
log_grows lay (r ⊳ h) before l (inl e) = record { more = []; is = ap (log lay) (sym e) }
log_grows lay (r ⊳ h) before l (inr e) = go (logs lay h r l) (log_grows lay h before (lawful_tail lay h r l) e)
  where
    go : Logs lay h r → Grows (log lay h) (log lay before) → Grows (log lay (r ⊳ h)) (log lay before)
    go (log_same s back) x = record { more = x.more; is = s ∙ x.is }
    go (log_wins u w s) x = record { more = entry_of lay h u ∷ x.more; is = s ∙ ap (λ es. entry_of lay h u ∷ es) x.is }

-- what a pass has entered since
entries_grow : (lay : Layout) (c : ℕ) (h before : History) → Lawful lay h → Extends h before → Grows (entries_of c (log lay h)) (entries_of c (log lay before))
entries_grow lay c h before l e =
    let x = log_grows lay h before l e in
    record { more = entries_of c x.more; is = ap (entries_of c) x.is ∙ entries_append c x.more (log lay before) }

quiet_both : (es fs gs : List Entry) → Grows es fs → Grows fs gs → es ≡ gs → (fs ≡ gs) × (es ≡ fs)
quiet_both es fs gs x y same =
    let long = ap length (sym x.is ∙ same) in
    let lx = length_append x.more fs in
    let ly = ap length y.is ∙ length_append y.more gs in
    let no_y : y.more ≡ [] = nothing_more y.more gs (ap length (sym y.is) ∙ omega arith) in
    let no_x : x.more ≡ [] = nothing_more x.more fs (long ∙ omega arith) in
    (y.is ∙ ap (λ more. more ++ gs) no_y, x.is ∙ ap (λ more. more ++ fs) no_x)

pub quiet_earlier : (lay : Layout) (c : ℕ) (h moment before : History) → Lawful lay h → Extends h moment → Extends moment before → EntersNothing lay c h before → EntersNothing lay c moment before
quiet_earlier lay c h moment before l e f q =
    (quiet_both _ _ _ (entries_grow lay c h moment l e) (entries_grow lay c moment before (lawful_since lay h moment l e) f) q).0

pub quiet_later : (lay : Layout) (c : ℕ) (h moment before : History) → Lawful lay h → Extends h moment → Extends moment before → EntersNothing lay c h before → EntersNothing lay c h moment
quiet_later lay c h moment before l e f q =
    (quiet_both _ _ _ (entries_grow lay c h moment l e) (entries_grow lay c moment before (lawful_since lay h moment l e) f) q).1

-- The newest entry of a call

newest_of : (entry : Entry) (now at before start : List Entry) → Grows now at → at ≡ entry ∷ before → Grows before start → now ≡ entry ∷ start → now ≡ at
newest_of entry now at before start x is y done =
    let a = ap length x.is ∙ length_append x.more at in
    let b = ap length is in
    let c = ap length y.is ∙ length_append y.more start in
    let d = ap length done in
    let none : x.more ≡ [] = nothing_more x.more at (ap length (sym x.is) ∙ omega arith) in
    x.is ∙ ap (λ more. more ++ at) none

pub newest : (old new : PassView) (call : MapCall) (told : MapReply) (edit : MapEdit) → Lawful new.layout (run_of new) → IsLaterView old new → (c : IsChange old new call told edit) → EntersNothing new.layout new.number (run_of new) (c.row ⊳ c.before)
newest old new call told edit l view c =
    newest_of c.entry _ _ (entries_of new.number (log new.layout c.before)) (entries_of new.number (log new.layout (run_of old)))
    (entries_grow new.layout new.number (run_of new) (c.row ⊳ c.before) l c.within)
    (ap (entries_of new.number) c.logged ∙ own_entry new.number c.entry (log new.layout c.before) (c.of_pass ∙ sym view.number))
    (entries_grow new.layout new.number c.before (run_of old) (lawful_tail new.layout c.before c.row (lawful_since new.layout (run_of new) (c.row ⊳ c.before) l c.within)) c.since)
    (c.done ∙ ap (λ es. c.entry ∷ es) (ap (λ n. entries_of n (log old.layout (run_of old))) (sym view.number) ∙ ap (λ lay. entries_of new.number (log lay (run_of old))) (sym view.layout)))

-- Each entry is of a pass of the layout

-- each of these entries is of a pass below n
abbrev AreBelow : ℕ → List Entry → Type 0
AreBelow n [] = Unit {0}
AreBelow n (e ∷ es) = (e.owner < n) × AreBelow n es

opening_log : (lay : Layout) (o : Opening) → AreBelow lay.passes (log lay (Opened o))
unfolding log
opening_log lay o = tt

of_a_pass : (lay : Layout) (h : History) (s : ℕ) → Lawful lay h → HasWon h s → owner lay s < lay.passes
of_a_pass lay h s l w =
    let named = won_named s (facts lay h l) w in
    let owned = ((facts lay h l).about s named.0 (won_real s (facts lay h l) w) named.1).owned in
    subst (λ n. n < lay.passes) (sym (owner_is lay owned.pass s owned.scx)) owned.is_pass

owners_below : (lay : Layout) (h : History) → Lawful lay h → AreBelow lay.passes (log lay h)
owners_below lay (Opened o) l = opening_log lay o
owners_below lay (r ⊳ h) l = go (logs lay h r l) (owners_below lay h (lawful_tail lay h r l))
  where
    go : Logs lay h r → AreBelow lay.passes (log lay h) → AreBelow lay.passes (log lay (r ⊳ h))
    go (log_same s back) below = subst (AreBelow lay.passes) (sym s) below
    go (log_wins u w s) below =
        let entered : IsEntered (log lay (r ⊳ h)) u = subst (λ es. IsEntered es u) (sym s) (inl refl) in
        subst (AreBelow lay.passes) (sym s) (of_a_pass lay (r ⊳ h) u l (entered_won lay (r ⊳ h) u l entered), below)

below_front : (n : ℕ) (more es : List Entry) → AreBelow n (more ++ es) → AreBelow n more
below_front n [] es b = tt
below_front n (e ∷ more) es b = (b.0, below_front n more es b.1)

nobody : (n : ℕ) (es : List Entry) → AreBelow n es → ((c : ℕ) → c < n → entries_of c es ≡ []) → es ≡ []
nobody n [] b none = refl
nobody n (e ∷ es) b none = absurd (let l = ap length (sym (own_entry e.owner e es refl) ∙ none e.owner b.0) in omega arith)

-- where no pass has entered anything the log is as it was
log_stays : (lay : Layout) (h before : History) → Lawful lay h → Extends h before → ((c : ℕ) → c < lay.passes → EntersNothing lay c h before) → log lay h ≡ log lay before
log_stays lay h before l e quiet =
    let x = log_grows lay h before l e in
    let none : (c : ℕ) → c < lay.passes → entries_of c x.more ≡ [] =
    λ c i. nothing_more (entries_of c x.more) (entries_of c (log lay before)) (ap length (sym (entries_append c x.more (log lay before)) ∙ ap (entries_of c) (sym x.is) ∙ quiet c i)) in
    x.is ∙ ap (λ more. more ++ log lay before) (nobody lay.passes x.more (below_front lay.passes x.more (log lay before) (subst (AreBelow lay.passes) x.is (owners_below lay h l))) none)

pub version_stays : (lay : Layout) (h moment before : History) → IsMapRun lay h → Extends h moment → Extends moment before → ((c : ℕ) → c < lay.passes → EntersNothing lay c moment before) → (m n : List Pair) → Spells lay (value before) m → Spells lay (value moment) n → n ≡ m
version_stays lay h moment before run e f quiet m n sm sn =
    let found = log_edits lay h run in
    let same = log_stays lay moment before (lawful_since lay h moment run.1.lawful e) f quiet in
    let first : opening_of before ≡ opening_of moment = same_opening moment before f in
    one_spelling lay (value moment) n (map_of_log found.0 (first_pairs moment) (log lay moment)) sn (spells_log lay h found.0 run found.1 moment e)
    ∙ (λ i. map_of_log found.0 (pairs_of (sym first i).pairs) (same i))
    ∙ sym (one_spelling lay (value before) m (map_of_log found.0 (first_pairs before) (log lay before)) sm (spells_log lay h found.0 run found.1 before (ends_trans h moment before e f)))

-- every run of a forest begins with what was planted
pub begun_planted : (planting : PlantingView) (rows : List Row) → first_pairs (history_of planting rows) ≡ first_pairs (Opened (opening_for planting))
begun_planted planting [] = refl
begun_planted planting (r ∷ rs) = begun_planted planting rs

pub begun_empty : (mode : Mode) → first_pairs (Opened (opening_for (nothing_planted mode))) ≡ []
begun_empty mode = refl
