-- What is kept once a snapshot is kept, or some are dropped.
use Rattle.std.proofs.Common.{◌≡◌, ◌≢◌, ℕ, zero, suc, ◌<◌, ◌≤◌, ◌⊎◌, inl, inr, ⊎_elim, Bool, true, false, if◌then◌else◌, cond, eqb, eqb-true, eq-eqb, ne_eqb, List, [], ◌∷◌, length, get_or, Option, Some, None, IsSome, refl, sym, ◌∙◌, ap, subst, arith}
use Rattle.std.proofs.Math.ListN.{set}
use Rattle.std.specs.List.{list_any}
use Rattle.std.proofs.lemmas.Bool.{or_left}
use Rattle.arena.proofs.Lemmas.{or_right, or_split}
use native.Mathlib.Decide.{ℕ_discrete}
use Rattle.histories.specs.Common.{Layout, History}
use Rattle.template.specs.Common.{snap_at, IsAmong, Snap, Llx}
use Rattle.player.specs.declared.kept.KeptSnapshot.{KeptSnapshot}
use Rattle.player.specs.declared.kept.Kept.{Kept}
use Rattle.player.specs.KeptSnaps.{AreKept, AllKept, IsFirstUnkept, IsUnspent, kept_of, node_of, found_of, parts, snap_of}
use Rattle.record.specs.Snapshots.{IsFirstUnlinked}

-- what is read after a write was written, or was there before
read_there : {X : Type 0} (xs : List (Option X)) (i : ℕ) (y : Option X) → i < length xs → get_or (set xs i y) i None ≡ y
read_there [] i y p = absurd (omega arith)
read_there (z ∷ zs) zero y p = refl
read_there (z ∷ zs) (suc i) y p = read_there zs i y (omega arith)

read_other : {X : Type 0} (xs : List (Option X)) (i n : ℕ) (y : Option X) → n ≢ i → get_or (set xs i y) n None ≡ get_or xs n None
read_other [] i n y d = refl
read_other (z ∷ zs) zero zero y d = absurd (d refl)
read_other (z ∷ zs) zero (suc n) y d = refl
read_other (z ∷ zs) (suc i) zero y d = refl
read_other (z ∷ zs) (suc i) (suc n) y d = read_other zs i n y (λ e. d (ap suc e))

-- once an LLX of a cell is answered, what it found is kept of it in place of what was, and `moment`
-- is said of it
module _ (old new : Kept) (llx : Llx) (linked linked_after : ℕ → Option History) (moment : Option History) (e : new.found ≡ set old.found (node_of llx) (found_of llx)) (small : node_of llx ≤ 8) (said : (n : ℕ) → linked_after n ≡ cond (eqb (node_of llx) n) moment (linked n)) where
  read : (n : ℕ) → get_or new.found n None ≡ get_or (set old.found (node_of llx) (found_of llx)) n None
  read n = ap (λ (xs : List (Option KeptSnapshot)). get_or xs n None) e

  -- what is kept of a node then, and what is said of it
  record IsCell (n : ℕ) : Type 0 where
    is : n ≡ node_of llx
    kept : kept_of new n ≡ found_of llx
    says : linked_after n ≡ moment

  record IsOther (n : ℕ) : Type 0 where
    kept : kept_of new n ≡ kept_of old n
    says : linked_after n ≡ linked n

  kept_then : (n : ℕ) → IsCell n ⊎ IsOther n
  kept_then n = go (ℕ_discrete n (node_of llx))
    where
      go : Dec (n ≡ node_of llx) → IsCell n ⊎ IsOther n
      go (yes q) = inl record { is = q; kept = read n ∙ rw q (read_there old.found (node_of llx) (found_of llx) (omega (arith, old.nine, small))); says = said n ∙ rw (eq-eqb (node_of llx) n (sym q)) refl }
      go (no d) = inr record { kept = read n ∙ read_other old.found (node_of llx) n (found_of llx) d; says = said n ∙ rw (ne_eqb (node_of llx) n (λ q. d (sym q))) refl }

  pub kept_after : (lay : Layout) (c : ℕ) (h : History) → AreKept lay c h linked old → ((found : KeptSnapshot) → found_of llx ≡ Some found → (k : History) × (moment ≡ Some k) × IsUnspent lay c h (snap_of (node_of llx) found) k) → AreKept lay c h linked_after new
  kept_after lay c h kept unspent n found is = ⊎_elim cell other (kept_then n)
    where
      cell : IsCell n → (k : History) × (linked_after n ≡ Some k) × IsUnspent lay c h (snap_of n found) k
      cell x = let y = unspent found (sym x.kept ∙ is) in (y.0, x.says ∙ y.1, subst (λ (m : ℕ). IsUnspent lay c h (snap_of m found) y.0) (sym x.is) y.2)

      other : IsOther n → (k : History) × (linked_after n ≡ Some k) × IsUnspent lay c h (snap_of n found) k
      other x = let y = kept n found (sym x.kept ∙ is) in (y.0, x.says ∙ y.1, y.2)

  pub unkept_after : ((n : ℕ) → n ≤ 8 → kept_of old n ≡ None → linked n ≡ None) → (found_of llx ≡ None → moment ≡ None) → (n : ℕ) → n ≤ 8 → kept_of new n ≡ None → linked_after n ≡ None
  unkept_after unkept none n i is = ⊎_elim (λ x. x.says ∙ none (sym x.kept ∙ is)) (λ x. x.says ∙ unkept n i (sym x.kept ∙ is)) (kept_then n)

-- a snapshot is of the node
abbrev pub has_snap : List Snap → ℕ → Bool
has_snap snaps n = list_any (λ (s : Snap). eqb s.node.0 n) snaps

pub snap_there : (snaps : List Snap) (n : ℕ) → has_snap snaps n ≡ true → IsAmong snaps n
snap_there [] n e = absurd cc
snap_there (s ∷ ss) n e = ⊎_elim (λ q. record { at = 0; within = omega arith; is = eqb-true s.node.0 n q }) (λ q. let x = snap_there ss n q in record { at = suc x.at; within = let y = x.within in omega arith; is = x.is }) (or_split (eqb s.node.0 n) (has_snap ss n) e)

pub snap_found : (snaps : List Snap) (n i : ℕ) → i < length snaps → (snap_at snaps i).node.0 ≡ n → has_snap snaps n ≡ true
snap_found [] n i p e = absurd (omega arith)
snap_found (s ∷ ss) n zero p e = or_left (eqb s.node.0 n) (has_snap ss n) (eq-eqb s.node.0 n e)
snap_found (s ∷ ss) n (suc i) p e = or_right (eqb s.node.0 n) (has_snap ss n) (snap_found ss n i (omega arith) e)

-- once the snapshots of some nodes are dropped
module _ (old new : Kept) (snaps : List Snap) (left : (n : ℕ) → kept_of new n ≡ (if has_snap snaps n then None else kept_of old n)) where
  -- what is kept of a node then
  kept_or_dropped : (n : ℕ) → (IsAmong snaps n × (kept_of new n ≡ None)) ⊎ ((IsAmong snaps n → ⊥) × (kept_of new n ≡ kept_of old n))
  kept_or_dropped n = go (has_snap snaps n) refl (left n)
    where
      go : (b : Bool) → has_snap snaps n ≡ b → kept_of new n ≡ (if b then None else kept_of old n) → (IsAmong snaps n × (kept_of new n ≡ None)) ⊎ ((IsAmong snaps n → ⊥) × (kept_of new n ≡ kept_of old n))
      go true e k = inl (snap_there snaps n e, k)
      go false e k = inr (λ x. let y : has_snap snaps n ≡ true = snap_found snaps n x.at x.within x.is in cc, k)

  pub dropped : (n : ℕ) → IsAmong snaps n → kept_of new n ≡ None
  dropped n x = ⊎_elim (λ y. y.1) (λ y. absurd (y.0 x)) (kept_or_dropped n)

  pub kept_without : (lay : Layout) (c : ℕ) (h : History) (linked linked_after : ℕ → Option History) → ((n : ℕ) → (IsAmong snaps n → ⊥) → linked n ≡ linked_after n) → AreKept lay c h linked old → AreKept lay c h linked_after new
  kept_without lay c h linked linked_after same kept n found is = ⊎_elim (λ x. let y : kept_of new n ≡ None = x.1 in let z : kept_of new n ≡ Some found = is in cc) (λ x. let y = kept n found (sym x.1 ∙ is) in (y.0, sym (same n x.0) ∙ y.1, y.2)) (kept_or_dropped n)

  pub unkept_without : (linked linked_after : ℕ → Option History) → ((n : ℕ) → (IsAmong snaps n → ⊥) → linked n ≡ linked_after n) → ((n : ℕ) → n ≤ 8 → kept_of old n ≡ None → linked n ≡ None) → (n : ℕ) → n ≤ 8 → kept_of new n ≡ None → IsAmong snaps n ⊎ (linked_after n ≡ None)
  unkept_without linked linked_after same unkept n i is = ⊎_elim (λ x. inl x.0) (λ x. inr (sym (same n x.0) ∙ unkept n i (sym x.1 ∙ is))) (kept_or_dropped n)

-- kept snapshots are unspent, and their moments are said
pub kept_linked : (lay : Layout) (c : ℕ) (h : History) (linked : ℕ → Option History) (kept : Kept) (snaps : List Snap) → AllKept kept snaps → AreKept lay c h linked kept → (i : ℕ) → i < length snaps → (moment : History) × (linked (snap_at snaps i).node.0 ≡ Some moment) × IsUnspent lay c h (snap_at snaps i) moment
kept_linked lay c h linked kept snaps those x i below = x (snap_at snaps i).node.0 (parts (snap_at snaps i)) (those i below)

-- the first cell without a kept snapshot is the first of which no snapshot is said
pub first_unlinked : (lay : Layout) (c : ℕ) (h : History) (linked : ℕ → Option History) (kept : Kept) (cells : List ℕ) (node : ℕ) → AreKept lay c h linked kept → ((n : ℕ) → n ≤ 8 → kept_of kept n ≡ None → linked n ≡ None) → IsFirstUnkept kept cells node → IsFirstUnlinked linked cells node
first_unlinked lay c h linked kept cells node those unkept x = (unkept node x.0 x.1, record { place = x.2.place; is = x.2.is; before = λ i p. some (get_or cells i 0) (kept_of kept (get_or cells i 0)) refl (x.2.before i p) })
  where
    some : (n : ℕ) (found : Option KeptSnapshot) → kept_of kept n ≡ found → IsSome found → IsSome (linked n)
    some n (Some found) e = λ y. let z = those n found e in subst (λ (m : Option History). IsSome m) (sym z.1) refl
    some n None e = λ y. cc
