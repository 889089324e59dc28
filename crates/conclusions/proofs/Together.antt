-- What was set is found, where nobody else has set it.
use Rattle.std.proofs.Common.{◌≡◌, ◌≢◌, ◌<◌, ℕ, Bool, true, false, inl, inr, List, Option, Some, None, refl, sym, ◌∙◌, ap, subst, arith}
use native.Mathlib.Decide.{ℕ_discrete}
use Rattle.std.specs.Option.{option_map}
use Rattle.regnubas.specs.History.{History, Opened, ◌⊳◌, value, Extends}
use Rattle.regnubas.specs.Lawful.{Lawful}
use Rattle.regnubas.specs.Log.{log}
use Rattle.regnubas.specs.Machines.{IsRun}
use Rattle.regnubas.specs.OrderedMap.{Get, Insert, MapReply, OneValue, call_insert, get, insert, reply}
use Rattle.regnubas.specs.Layout.{IsMap}
use Rattle.regnubas.specs.Runs.{IsMapRun}
use Rattle.regnubas.specs.Spelled.{Spells}
use Rattle.regnubas.specs.Dictionary.{IsChange, IsReading}
use Rattle.regnubas.specs.Passes.{PassView, IsLaterView, run_of, done_of}
use Rattle.regnubas.specs.Shares.{entries_of}
use Rattle.regnubas.specs.Balance.{map_mode}
use Rattle.regnubas.specs.Types.{Layout, Pair}
use Rattle.regnubas.specs.Versions.{EntersNothing, VersionLaws}

-- a moment of a moment is one
back : (h m g : History) → Extends h m → Extends m g → Extends h g
back (Opened o) m g e f = subst (λ x. Extends x g) e f
back (r ⊳ h) m g (inl e) f = subst (λ x. Extends x g) e f
back (r ⊳ h) m g (inr e) f = inr (back h m g e f)

pub self : (h : History) → Extends h h
self (Opened o) = refl
self (r ⊳ h) = inl refl

-- a pass is later than itself, and than what it is later than
pub same_view : (p : PassView) → IsLaterView p p
same_view p = record { table = refl; layout = refl; number = refl; run = self (run_of p) }

pub later_view : (p q r : PassView) → IsLaterView p q → IsLaterView q r → IsLaterView p r
later_view p q r x y = record { table = y.table ∙ x.table; layout = y.layout ∙ x.layout; number = y.number ∙ x.number; run = back (run_of r) (run_of q) (run_of p) y.run x.run }

-- the value that a reply has
told_value : MapReply → Option ℕ → Option ℕ
told_value (OneValue v) other = v
told_value _ other = other

-- where words are their numbers a value is its word
pub same_value : (word_of : ℕ → ℕ) → ((v : ℕ) → word_of v ≡ v) → (found : Option ℕ) (v : ℕ) → option_map word_of found ≡ Some v → found ≡ Some v
same_value word_of is None v e = e
same_value word_of is (Some x) v e = ap Some (sym (is x)) ∙ e

pub same_option : (found : Option ℕ) → option_map (λ v. v) found ≡ found
same_option None = refl
same_option (Some x) = refl

module _ (lay : Layout) where
  -- a pass is one of the forest's
  pub is_pass : (old new : PassView) (n : ℕ) → new.number ≡ old.number → old.layout ≡ lay → n ≡ old.number → n < old.layout.passes → new.number < lay.passes
  is_pass old new n e f is few = let g = ap (λ (x : Layout). x.passes) f in omega (arith, e, is, few, g)

  -- what a pass has done, by the layout and its number
  done_is : (p : PassView) (c : ℕ) → p.layout ≡ lay → p.number ≡ c → done_of p ≡ entries_of c (log lay (run_of p))
  done_is p c e f = ap (λ l. entries_of p.number (log l (run_of p))) e ∙ ap (λ n. entries_of n (log lay (run_of p))) f

  -- a pass that has done no more has entered nothing
  quiet_since : (old new : PassView) (c : ℕ) → old.layout ≡ lay → new.layout ≡ lay → old.number ≡ c → new.number ≡ c → done_of new ≡ done_of old → EntersNothing lay c (run_of new) (run_of old)
  quiet_since old new c e f n m same = sym (done_is new c f m) ∙ same ∙ done_is old c e n

  -- what a pass knows is a run of the map, be it a tree or a trie
  map_run : {allows : Layout → History → ℕ → Type 0} → VersionLaws allows → (trie : Bool) → lay.mode ≡ map_mode trie → (p : PassView) → p.layout ≡ lay → IsRun allows p.layout (run_of p) → IsMapRun lay (run_of p)
  map_run {allows} laws false tree p e run = let r = laws.runs lay (run_of p) tree (subst (λ (x : Layout). IsRun allows x (run_of p)) e run) in (subst IsMap (sym r.0) refl, r.1)
  map_run {allows} laws true trie p e run = let r = laws.trie_runs lay (run_of p) trie (subst (λ (x : Layout). IsRun allows x (run_of p)) e run) in (subst IsMap (sym r.0) refl, r.1)

  -- A change by which k has the value v. At a later moment, up to which no pass has made another
  -- entry, k still has it.
  module _ {allows : Layout → History → ℕ → Type 0} (laws : VersionLaws allows) (inserted : (k v : ℕ) (m : List Pair) → get k (insert k v m) ≡ Some v) (old new : PassView) (k v : ℕ) (told : MapReply) (c : IsChange old new (call_insert k v) told (Insert k v)) (at : new.layout ≡ lay) where
    -- the moment just after it
    abbrev set_at : History
    set_at = c.row ⊳ c.before

    pub found_there : (h moment : History) → IsMapRun lay h → Extends h moment → Extends moment set_at → ((d : ℕ) → d < lay.passes → EntersNothing lay d moment set_at) → (m : List Pair) → Spells lay (value moment) m → get k m ≡ Some v
    found_there h moment run e f quiet m s =
        let was : Spells lay (value set_at) (insert k v c.map) = subst (λ (x : Layout). Spells x (value set_at) (insert k v c.map)) at c.is in
        ap (get k) (laws.stays lay h moment set_at run e f quiet (insert k v c.map) m was s) ∙ inserted k v c.map

    -- the pass itself has made no other entry in the call
    pub quiet_call : Lawful lay (run_of new) → IsLaterView old new → EntersNothing lay new.number (run_of new) set_at
    quiet_call l view =
        subst (λ (x : Layout). EntersNothing x new.number (run_of new) set_at) at (laws.newest old new (call_insert k v) told (Insert k v) (subst (λ (x : Layout). Lawful x (run_of new)) (sym at) l) view c)

  -- what a get answers of the map that it has read
  read_told : (k : ℕ) (m : List Pair) (found : Option ℕ) → reply (Get k) m ≡ OneValue found → found ≡ get k m
  unfolding told_value
  read_told k m found e = sym (ap (λ r. told_value r found) e)

  -- a get of the only pass, which has made no entry before, finds what the map has there at first
  pub first_found : {allows : Layout → History → ℕ → Type 0} → VersionLaws allows → lay.passes ≡ 1 → (trie : Bool) → lay.mode ≡ map_mode trie → (p new : PassView) → p.layout ≡ lay → new.layout ≡ lay → p.number < lay.passes
      → IsLaterView p new → IsRun allows new.layout (run_of new) → (first : List Pair) → Spells lay (value (run_of p)) first → (k : ℕ) (found : Option ℕ) → IsReading p new (Get k) (OneValue found) → found ≡ get k first
  first_found laws one trie mode p new ep en few next rn first spelled k found r =
      let run : IsMapRun lay (run_of new) = map_run laws trie mode new en rn in
      let read = r.read in
      let quiet : EntersNothing lay p.number (run_of new) (run_of p) = quiet_since p new p.number ep en refl next.number r.done in
      let so : EntersNothing lay p.number read.moment (run_of p) = laws.earlier lay p.number (run_of new) read.moment (run_of p) run.1.lawful read.within read.since quiet in
      let all : (d : ℕ) → d < lay.passes → EntersNothing lay d read.moment (run_of p) = λ d i. let same : p.number ≡ d = omega (arith, one, few, i) in subst (λ x. EntersNothing lay x read.moment (run_of p)) same so in
      read_told k read.map found read.gives
      ∙ ap (get k) (laws.stays lay (run_of new) read.moment (run_of p) run read.within read.since all first read.map spelled (subst (λ (x : Layout). Spells x (value read.moment) read.map) en read.spelled))

  pub one_pass : {allows : Layout → History → ℕ → Type 0} → VersionLaws allows → ((k v : ℕ) (m : List Pair) → get k (insert k v m) ≡ Some v) → lay.passes ≡ 1 → (trie : Bool) → lay.mode ≡ map_mode trie → (old mid new : PassView) → mid.layout ≡ lay → new.layout ≡ lay → mid.number < lay.passes
      → IsLaterView old mid → IsLaterView mid new → IsRun allows mid.layout (run_of mid) → IsRun allows new.layout (run_of new) → (k v : ℕ) (told : MapReply) (found : Option ℕ)
      → IsChange old mid (call_insert k v) told (Insert k v) → IsReading mid new (Get k) (OneValue found) → found ≡ Some v
  one_pass laws inserted one trie mode old mid new em en few view next rm rn k v told found c r =
      let lm : Lawful lay (run_of mid) = subst (λ (x : Layout). Lawful x (run_of mid)) em rm.lawful in
      let run : IsMapRun lay (run_of new) = map_run laws trie mode new en rn in
      let read = r.read in
      let n = c.row ⊳ c.before in
      let here : Extends read.moment n = back read.moment (run_of mid) n read.since c.within in
      let quiet : EntersNothing lay mid.number (run_of new) n = quiet_since mid new mid.number em en refl next.number r.done ∙ quiet_call laws inserted old mid k v told c em lm view in
      let so : EntersNothing lay mid.number read.moment n = laws.earlier lay mid.number (run_of new) read.moment n run.1.lawful read.within here quiet in
      let all : (d : ℕ) → d < lay.passes → EntersNothing lay d read.moment n = λ d i. let same : mid.number ≡ d = omega (arith, one, few, i) in subst (λ x. EntersNothing lay x read.moment n) same so in
      read_told k read.map found read.gives
      ∙ found_there laws inserted old mid k v told c em (run_of new) read.moment run read.within here all read.map (subst (λ (x : Layout). Spells x (value read.moment) read.map) en read.spelled)

  pub two_passes : {allows : Layout → History → ℕ → Type 0} → VersionLaws allows → ((k v : ℕ) (m : List Pair) → get k (insert k v m) ≡ Some v) → lay.passes ≡ 2 → (trie : Bool) → lay.mode ≡ map_mode trie → (a1 a2 a4 b1 b2 b3 b4 : PassView)
      → a2.layout ≡ lay → a4.layout ≡ lay → b1.layout ≡ lay → b3.layout ≡ lay → b4.layout ≡ lay
      → a2.number < lay.passes → b1.number < lay.passes → a2.number ≢ b1.number → a4.number ≡ a2.number → b4.number ≡ b1.number
      → IsLaterView a1 a2 → IsRun allows a2.layout (run_of a2) → IsRun allows a4.layout (run_of a4) → IsRun allows b4.layout (run_of b4)
      → Extends (run_of a1) (run_of b1) → Extends (run_of b2) (run_of a2) → Extends (run_of b4) (run_of b3) → Extends (run_of a4) (run_of b4)
      → done_of a4 ≡ done_of a2 → done_of b4 ≡ done_of b1 → (k v : ℕ) (told : MapReply) (found : Option ℕ)
      → IsChange a1 a2 (call_insert k v) told (Insert k v) → IsReading b2 b3 (Get k) (OneValue found) → found ≡ Some v
  two_passes laws inserted two trie mode a1 a2 a4 b1 b2 b3 b4 ea2 ea4 eb1 eb3 eb4 na nb apart sa sb view ra2 ra4 rb4 met between end last da db k v told found c r =
      let la : Lawful lay (run_of a2) = subst (λ (x : Layout). Lawful x (run_of a2)) ea2 ra2.lawful in
      let la4 : Lawful lay (run_of a4) = subst (λ (x : Layout). Lawful x (run_of a4)) ea4 ra4.lawful in
      let run : IsMapRun lay (run_of b4) = map_run laws trie mode b4 eb4 rb4 in
      let read = r.read in
      let n = c.row ⊳ c.before in
      let m = read.moment in
      let in_b : Extends (run_of b4) m = back (run_of b4) (run_of b3) m end read.within in
      let in_a : Extends (run_of a4) m = back (run_of a4) (run_of b4) m last in_b in
      let here : Extends m n = back m (run_of a2) n (back m (run_of b2) (run_of a2) read.since between) c.within in
      let older : Extends n (run_of b1) = back n c.before (run_of b1) (inr (self c.before)) (back c.before (run_of a1) (run_of b1) c.since met) in
      let a : EntersNothing lay a2.number m n = laws.earlier lay a2.number (run_of a4) m n la4 in_a here (quiet_since a2 a4 a2.number ea2 ea4 refl sa da ∙ quiet_call laws inserted a1 a2 k v told c ea2 la view) in
      let rest : EntersNothing lay b1.number (run_of b4) (run_of b1) = quiet_since b1 b4 b1.number eb1 eb4 refl sb db in
      let behind : EntersNothing lay b1.number (run_of b4) n = laws.later lay b1.number (run_of b4) n (run_of b1) run.1.lawful (back (run_of b4) m n in_b here) older rest in
      let b : EntersNothing lay b1.number m n = laws.earlier lay b1.number (run_of b4) m n run.1.lawful in_b here behind in
      let all : (d : ℕ) → d < lay.passes → EntersNothing lay d m n = λ d i. each d i two na nb apart m n a b (ℕ_discrete a2.number d) in
      read_told k read.map found read.gives
      ∙ found_there laws inserted a1 a2 k v told c ea2 (run_of b4) m run in_b here all read.map (subst (λ (x : Layout). Spells x (value m) read.map) eb3 read.spelled)
    where
      each : (d : ℕ) → d < lay.passes → lay.passes ≡ 2 → a2.number < lay.passes → b1.number < lay.passes → a2.number ≢ b1.number → (m n : History) → EntersNothing lay a2.number m n → EntersNothing lay b1.number m n → Dec (a2.number ≡ d) → EntersNothing lay d m n
      each d i two na nb apart m n a b (yes e) = subst (λ x. EntersNothing lay x m n) e a
      each d i two na nb apart m n a b (no x) = let e : b1.number ≡ d = omega (arith, two, i, na, nb, apart, x) in subst (λ x. EntersNothing lay x m n) e b
