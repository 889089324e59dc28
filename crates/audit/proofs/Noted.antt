-- What is remembered of the steps, after one more.
use Rattle.std.proofs.Common.{◌≡◌, ◌≢◌, ℕ, zero, suc, ◌+◌, ◌^◌, ◌<◌, ◌≤◌, ◌↔◌, ◌⊎◌, inl, inr, ⊎_elim, Bool, true, false, ◌||◌, eqb, List, [], ◌∷◌, ◌++◌, length, set, slice_get, Option, Some, None, refl, sym, ◌∙◌, ap, subst, add-one, arith}
use native.Mathlib.Decide.{ℕ_discrete}
use Rattle.histories.specs.Common.{Layout, Row, Kind, LoadInfo, Freeze, Side, Word, Member, IsInProgress, History, ◌⊳◌, Extends}
use Rattle.histories.specs.Common.{value, IsLawful, Entry, entry, log, has, is_final, finalized_from, count, plan, child, scx}
use Rattle.arena.proofs.Lemmas.{ends_self, last_more, last_now, plan_counted, value_apart, or_split, or_right}
use Rattle.histories.proofs.Lemmas.{is_removed_of}
use Rattle.script.specs.declared.command.Command.{Command}
use Rattle.judge.specs.Histories.{seen_history}
use Rattle.audit.specs.declared.memory.FoundInfo.{FoundInfo}
use Rattle.audit.specs.declared.memory.Memory.{Memory}
use Rattle.audit.specs.declared.memory.Snapshot.{Snapshot}
use Rattle.audit.specs.declared.memory.Tries.{Tries}
use Rattle.audit.specs.declared.steps.Steps.{Steps}
use Rattle.audit.specs.Remembered.{row_count, WasRunningAt, AreStepsOf, IsLookOf, IsSnapshotOf, AreTriesSince, IsBegunWith, IsKept}
use Rattle.audit.specs.Remembering.{IsLookBy, noted, IsNoted, IsRememberedFinal}
use Rattle.audit.proofs.CountedTries.{few_tries, tries_by_other, tries_by_own}
use Rattle.audit.proofs.RowMoments.{rows_within}

-- Lists with one place changed

same_some : {X : Type 0} (a b : X) → Some a ≡ Some b → a ≡ b
same_some a b e = cc

pub set_own : {X : Type 0} (xs : List X) (i : ℕ) (new y : X) → slice_get (set xs i new) i ≡ Some y → y ≡ new
set_own [] i new y e = absurd (let z : None ≡ Some y = e in cc)
set_own (x ∷ xs) zero new y e = sym (same_some new y e)
set_own (x ∷ xs) (suc i) new y e = set_own xs i new y e

pub has_push : (xs : List ℕ) (y n : ℕ) → has (xs ++ y ∷ []) n ≡ has xs n || eqb y n
has_push [] y n = go (eqb y n)
  where
    go : (b : Bool) → b || false ≡ false || b
    go true = refl
    go false = refl
has_push (x ∷ xs) y n = ap (λ (b : Bool). eqb x n || b) (has_push xs y n) ∙ go (eqb x n)
  where
    go : (b : Bool) → b || (has xs n || eqb y n) ≡ (b || has xs n) || eqb y n
    go true = refl
    go false = refl

-- Since when nodes are final

-- what is remembered of a node is still right, or the row has made it final
abbrev pub IsNewFinal : Layout → History → ℕ → ℕ → ℕ → ℕ → Type 0
IsNewFinal lay now rows n before after = ((after ≡ before) × (before ≡ 0 → is_final (log lay now) n ≡ false)) ⊎ ((before ≡ 0) × (after ≡ rows) × (is_final (log lay now) n ≡ true))

-- since when a node is final, at each moment
abbrev IsFinalSince : Layout → History → ℕ → ℕ → Type 0
IsFinalSince lay h n rows = (g : History) → Extends h g → (is_final (log lay g) n ≡ true) ↔ ((0 < rows) × (rows ≤ row_count g))

module _ (lay : Layout) (h : History) (r : Row) where
  final_more : (n before after : ℕ) → IsFinalSince lay h n before → before ≤ row_count h → (is_final (log lay h) n ≡ true → is_final (log lay (r ⊳ h)) n ≡ true) → IsNewFinal lay (r ⊳ h) (suc (row_count h)) n before after → IsFinalSince lay (r ⊳ h) n after
  final_more n before after old within stays (inl y) g (inr e) = subst (λ (k : ℕ). (is_final (log lay g) n ≡ true) ↔ ((0 < k) × (k ≤ row_count g))) (sym y.0) (old g e)
  final_more n before after old within stays (inl y) g (inl e) = subst (λ (k : History). (is_final (log lay k) n ≡ true) ↔ ((0 < after) × (after ≤ row_count k))) (sym e) (to, from)
    where
      to : is_final (log lay (r ⊳ h)) n ≡ true → (0 < after) × (after ≤ suc (row_count h))
      to p = go (ℕ_discrete before 0)
        where
          go : Dec (before ≡ 0) → (0 < after) × (after ≤ suc (row_count h))
          go (yes z) = absurd (let q : true ≡ false = sym p ∙ y.1 z in cc)
          go (no d) = let same = y.0 in (omega arith, omega arith)

      from : (0 < after) × (after ≤ suc (row_count h)) → is_final (log lay (r ⊳ h)) n ≡ true
      from q = let same = y.0 in let some = q.0 in stays ((old h (ends_self h)).1 (omega arith, omega arith))
  final_more n before after old within stays (inr y) g (inl e) = subst (λ (k : History). (is_final (log lay k) n ≡ true) ↔ ((0 < after) × (after ≤ row_count k))) (sym e) (let is = y.1 in (λ p. (omega arith, omega arith), λ q. y.2))
  final_more n before after old within stays (inr y) g (inr e) =
      let none = y.0 in
      let is = y.1 in
      let few = rows_within h g e in
      (λ p. let i = (old g e).0 p in let j = i.0 in absurd (omega arith), λ q. let j = q.1 in absurd (omega arith))

  final_within : (n before after : ℕ) → before ≤ row_count h → IsNewFinal lay (r ⊳ h) (suc (row_count h)) n before after → after ≤ suc (row_count h)
  final_within n before after within (inl y) = let same = y.0 in omega arith
  final_within n before after within (inr y) = let is = y.1 in omega arith

  running_more : (rows s : ℕ) → WasRunningAt h rows s → WasRunningAt (r ⊳ h) rows s
  running_more rows s x = (x.0, record { within = inr x.1.within; many = x.1.many }, x.2)

  -- all that is kept of the steps, after the row
  pub record AreMore (old new : Steps) : Type 0 where
    pub layout : new.judge.layout ≡ lay
    pub is_seen : seen_history new.judge ≡ r ⊳ h
    pub count : new.count ≡ old.count + 1
    pub all_until : length new.until.items ≡ length old.until.items
    pub until : (s rows : ℕ) → slice_get new.until.items s ≡ Some rows → (slice_get old.until.items s ≡ Some rows) ⊎ ((rows ≡ old.count) × IsInProgress h s)
    pub all_finals : length new.finals.items ≡ length old.finals.items
    pub finals : (n after : ℕ) → slice_get new.finals.items n ≡ Some after → (before : ℕ) × (slice_get old.finals.items n ≡ Some before) × IsNewFinal lay (r ⊳ h) (suc (row_count h)) n before after
    pub stays : (n : ℕ) → is_final (log lay h) n ≡ true → is_final (log lay (r ⊳ h)) n ≡ true
    pub all_memories : length new.memories.items ≡ length old.memories.items

  pub steps_more : (old new : Steps) → AreStepsOf lay h old → AreMore old new → AreStepsOf lay (r ⊳ h) new
  steps_more old new x y = record {
    layout = y.layout;
    is_seen = y.is_seen;
    count = y.count ∙ add-one old.count ∙ ap suc x.count;
    all_until = y.all_until ∙ x.all_until;
    until = λ s rows get some. ⊎_elim (λ q. running_more rows s (x.until s rows q some)) (λ q. (h, record { within = inr (ends_self h); many = sym (q.0 ∙ x.count) }, q.1)) (y.until s rows get);
    all_finals = y.all_finals ∙ x.all_finals;
    finals = λ n after get. let z = y.finals n after get in final_more n z.0 after (x.finals n z.0 z.1) (x.finals_within n z.0 z.1) (y.stays n) z.2;
    finals_within = λ n after get. let z = y.finals n after get in final_within n z.0 after (x.finals_within n z.0 z.1) z.2;
    all_memories = y.all_memories ∙ x.all_memories;
  }

  -- What a client has found and keeps

  look_more : (c : ℕ) (kind : Kind) (look : FoundInfo) → (r.pass.0 ≡ c → r.kind ≢ kind) → IsLookOf lay h c kind look → IsLookOf lay (r ⊳ h) c kind look
  look_more c kind look other x = record {
    row = x.row;
    before = x.before;
    newest = last_more c h kind look.node.0 r x.row x.before other x.newest;
    many = x.many;
    found = x.found;
    last_entry = x.last_entry;
  }

  look_now : (c : ℕ) (kind : Kind) (look : FoundInfo) → IsLawful lay h r → r.pass.0 ≡ c → r.kind ≡ kind → IsLookBy lay (r ⊳ h) (suc (row_count h)) r look → IsLookOf lay (r ⊳ h) c kind look
  look_now c kind look lawful own is x = record {
    row = r;
    before = h;
    newest = last_now c h kind look.node.0 r own is x.word;
    many = x.many;
    found = x.found ∙ lawful.before ∙ ap (λ (w : Word). value h w) x.word;
    last_entry = x.last_entry;
  }

  snapshot_more : (n : ℕ) (kept : Option Snapshot) (moment : Option History) → IsSnapshotOf lay h n kept moment → IsSnapshotOf lay (r ⊳ h) n kept moment
  snapshot_more n (Some k) (Some m) x = (record { within = inr x.0.within; many = x.0.many }, x.1)
  snapshot_more n None None x = x
  snapshot_more n (Some k) None x = x
  snapshot_more n None (Some m) x = x

  module _ (start : History) (linked : ℕ → Option History) (next : Option Command) (c : ℕ) where
    begun_more : (m : Memory) (tries : Tries) → AreTriesSince (r ⊳ h) start c tries → IsBegunWith lay h start linked next c m → IsBegunWith lay (r ⊳ h) start linked next c (record m { tries = tries })
    begun_more m tries t x = record { begun = x.begun; within = inr x.within; nodes = x.nodes; scx = x.scx; tries = t; same = x.same }

    -- a row of another
    pub kept_more : (begin : Option ℕ) (m : Memory) → (r.pass.0 ≡ c → ⊥) → IsKept lay h start linked begin next c m → IsKept lay (r ⊳ h) start linked begin next c m
    kept_more begin m other x = record {
      begins = λ some. let b = x.begins some in begun_more m m.tries (tries_by_other c h start r m.tries b.tries other) b;
      looks = λ look e. look_more c LoadInfo look (λ own. absurd (other own)) (x.looks look e);
      freezes = λ look e. look_more c Freeze look (λ own. absurd (other own)) (x.freezes look e);
      snapshots = λ n kept get. snapshot_more n kept (linked n) (x.snapshots n kept get);
    }

    -- a row of its own
    pub kept_own : (begin now : Option ℕ) (old new : Memory) → IsLawful lay h r → suc (row_count h) < 2 ^ 64 → r.pass.0 ≡ c → IsBegunWith lay h start linked next c old → IsKept lay h start linked begin next c old → IsNoted lay (r ⊳ h) (suc (row_count h)) r old new → IsKept lay (r ⊳ h) start linked now next c new
    kept_own begin now old new lawful small own begun x y = subst (λ (m : Memory). IsKept lay (r ⊳ h) start linked now next c m) (sym y.is) (go r.kind refl)
      where
        others : (kind : Kind) → (r.kind ≡ kind → ⊥) → (look : FoundInfo) → IsLookOf lay h c kind look → IsLookOf lay (r ⊳ h) c kind look
        others kind d look z = look_more c kind look (λ own. d) z

        room : old.tries.many + 1 < 2 ^ 64
        room = let few = few_tries c h in let many = begun.tries.many in omega arith

        tries : AreTriesSince (r ⊳ h) start c new.tries
        tries = tries_by_own c h start r old.tries begun.tries new.tries begun.within own (y.tries room)

        go : (kind : Kind) → r.kind ≡ kind → IsKept lay (r ⊳ h) start linked now next c (record (noted kind y.seen old) { tries = new.tries })
        go LoadInfo e = record {
          begins = λ some. let b = begun_more old new.tries tries begun in record { begun = b.begun; within = b.within; nodes = b.nodes; scx = b.scx; tries = b.tries; same = b.same };
          looks = λ look q. look_now c LoadInfo look lawful own e (y.by look q);
          freezes = λ look q. others Freeze (λ z. let w : LoadInfo ≡ Freeze = sym e ∙ z in absurd cc) look (x.freezes look q);
          snapshots = λ n kept get. snapshot_more n kept (linked n) (x.snapshots n kept get);
        }
        go Freeze e = record {
          begins = λ some. let b = begun_more old new.tries tries begun in record { begun = b.begun; within = b.within; nodes = b.nodes; scx = b.scx; tries = b.tries; same = b.same };
          looks = λ look q. others LoadInfo (λ z. let w : Freeze ≡ LoadInfo = sym e ∙ z in absurd cc) look (x.looks look q);
          freezes = λ look q. look_now c Freeze look lawful own e (y.by look q);
          snapshots = λ n kept get. snapshot_more n kept (linked n) (x.snapshots n kept get);
        }
        go _ e = record {
          begins = λ some. begun_more old new.tries tries begun;
          looks = λ look q. others LoadInfo (λ z. absurd cc) look (x.looks look q);
          freezes = λ look q. others Freeze (λ z. absurd cc) look (x.freezes look q);
          snapshots = λ n kept get. snapshot_more n kept (linked n) (x.snapshots n kept get);
        }

  -- What a winning update makes final

  -- no entry was added
  pub same_log_finals : (old new : Steps) → log lay (r ⊳ h) ≡ log lay h → AreStepsOf lay h old → new.finals.items ≡ old.finals.items → (n after : ℕ) → slice_get new.finals.items n ≡ Some after → (before : ℕ) × (slice_get old.finals.items n ≡ Some before) × IsNewFinal lay (r ⊳ h) (suc (row_count h)) n before after
  same_log_finals old new none x same n after get =
      let there : slice_get old.finals.items n ≡ Some after = ap (λ (xs : List ℕ). slice_get xs n) (sym same) ∙ get in
      (after, there, inl (refl, λ z. ap (λ (es : List Entry). is_final es n) none ∙ go (is_final (log lay h) n) refl there z))
    where
      go : (b : Bool) → is_final (log lay h) n ≡ b → slice_get old.finals.items n ≡ Some after → after ≡ 0 → is_final (log lay h) n ≡ false
      go false e there z = e
      go true e there z = let i = ((x.finals n after there h (ends_self h)).0 e).0 in absurd (omega arith)

  pub same_log_stays : log lay (r ⊳ h) ≡ log lay h → (n : ℕ) → is_final (log lay h) n ≡ true → is_final (log lay (r ⊳ h)) n ≡ true
  same_log_stays none n e = ap (λ (es : List Entry). is_final es n) none ∙ e

  module _ (s n' : ℕ) (side : Side) (word : r.word ≡ child n' side) (wins : log lay (r ⊳ h) ≡ entry lay h s n' side r.after ∷ log lay h) where
    final_now : (n : ℕ) → is_final (log lay (r ⊳ h)) n ≡ has (finalized_from h s 0 (count h s)) n || is_final (log lay h) n
    final_now n = ap (λ (es : List Entry). is_final es n) wins

    pub won_stays : (n : ℕ) → is_final (log lay h) n ≡ true → is_final (log lay (r ⊳ h)) n ≡ true
    won_stays n e = final_now n ∙ or_right _ _ e

    -- of the nodes of its SCX-record it was noted
    pub won_finals : (old new : Steps) → AreStepsOf lay h old → ((n rows : ℕ) → slice_get new.finals.items n ≡ Some rows → IsRememberedFinal lay (r ⊳ h) s 4 (suc (row_count h)) (slice_get old.finals.items n) n rows) → (n after : ℕ) → slice_get new.finals.items n ≡ Some after → (before : ℕ) × (slice_get old.finals.items n ≡ Some before) × IsNewFinal lay (r ⊳ h) (suc (row_count h)) n before after
    won_finals old new x y n after get = go (y n after get)
      where
        go : IsRememberedFinal lay (r ⊳ h) s 4 (suc (row_count h)) (slice_get old.finals.items n) n after → (before : ℕ) × (slice_get old.finals.items n ≡ Some before) × IsNewFinal lay (r ⊳ h) (suc (row_count h)) n before after
        go (inr z) = (0, z.0, inr (refl, z.1, z.2))
        go (inl z) = (after, z.0, inl (refl, λ none. unless none (is_final (log lay (r ⊳ h)) n) refl))
          where
            unless : after ≡ 0 → (b : Bool) → is_final (log lay (r ⊳ h)) n ≡ b → is_final (log lay (r ⊳ h)) n ≡ false
            unless none false e = e
            unless none true e = ⊎_elim here there (or_split _ _ (sym (final_now n) ∙ e))
              where
                here : has (finalized_from h s 0 (count h s)) n ≡ true → is_final (log lay (r ⊳ h)) n ≡ false
                here q =
                    let m = is_removed_of h s n q in
                    let i = m.within in
                    let counted = plan_counted (plan h s) (omega arith) in
                    let same = counted.count in
                    let few = counted.few in
                    z.1 none m.index (omega arith) (value_apart r h (child n' side) (scx s (Member m.index)) word refl ∙ m.is)

                there : is_final (log lay h) n ≡ true → is_final (log lay (r ⊳ h)) n ≡ false
                there q = let i = ((x.finals n after z.0 h (ends_self h)).0 q).0 in absurd (omega arith)
