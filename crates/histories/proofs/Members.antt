-- The nodes that an entry names are those of its SCX-record.
use Rattle.std.proofs.Common.{◌≡◌, ℕ, ◌+◌, ◌<◌, ◌≤◌, Bool, true, false, cond, ◌⊎◌, inl, inr, ⊎_elim, ◌∷◌, zero, suc, refl, arith, eqb-true, eq-eqb}
use Rattle.std.proofs.lemmas.Bool.{or_left}
use Rattle.histories.specs.Common.{History, count, member, scx_finalizes, members_from, finalized_from, has, IsMember, IsRemoved}
use Rattle.arena.proofs.Lemmas.{or_right, or_split}

-- n is one of the nodes of s from its j-th on
pub record IsAmong (h : History) (s j k n : ℕ) : Type 0 where
  pub index : ℕ
  pub from : j ≤ index
  pub below : index < j + k
  pub is : member h s index ≡ n

later : (h : History) (s j k n : ℕ) → IsAmong h s (suc j) k n → IsAmong h s j (suc k) n
later h s j k n x = record { index = x.index; from = let a = x.from in omega arith; below = let a = x.below in omega arith; is = x.is }

among : (h : History) (s j k n : ℕ) → has (members_from h s j k) n ≡ true → IsAmong h s j k n
among h s j zero n e = cc
among h s j (suc k) n e = ⊎_elim
    (λ a. record { index = j; from = omega arith; below = omega arith; is = eqb-true _ _ a })
    (λ b. later h s j k n (among h s (suc j) k n b))
    (or_split _ _ e)

-- and no others
pub is_member : (h : History) (s n : ℕ) → has (members_from h s 0 (count h s)) n ≡ true → IsMember h s n
is_member h s n e = let x : IsAmong h s 0 (count h s) n = among h s 0 (count h s) n e in record { index = x.index; within = let a = x.below in omega arith; is = x.is }

-- n is one of those of them that s finalizes
record IsRemovedAmong (h : History) (s j k n : ℕ) : Type 0 where
  index : ℕ
  from : j ≤ index
  below : index < j + k
  is : member h s index ≡ n
  removed : scx_finalizes h s index ≡ true

removed_later : (h : History) (s j k n : ℕ) → IsRemovedAmong h s (suc j) k n → IsRemovedAmong h s j (suc k) n
removed_later h s j k n x = record { index = x.index; from = let a = x.from in omega arith; below = let a = x.below in omega arith; is = x.is; removed = x.removed }

among_removed : (h : History) (s j k n : ℕ) → has (finalized_from h s j k) n ≡ true → IsRemovedAmong h s j k n
among_removed h s j zero n e = cc
among_removed h s j (suc k) n e = go (scx_finalizes h s j) refl e (among_removed h s (suc j) k n)
  where
    go : (t : Bool) → scx_finalizes h s j ≡ t → has (cond t (member h s j ∷ finalized_from h s (suc j) k) (finalized_from h s (suc j) k)) n ≡ true → (has (finalized_from h s (suc j) k) n ≡ true → IsRemovedAmong h s (suc j) k n) → IsRemovedAmong h s j (suc k) n
    go false q e more = removed_later h s j k n (more e)
    go true q e more = ⊎_elim
        (λ a. record { index = j; from = omega arith; below = omega arith; is = eqb-true _ _ a; removed = q })
        (λ b. removed_later h s j k n (more b))
        (or_split _ _ e)

has_among_removed : (h : History) (s j k n i : ℕ) → j ≤ i → i < j + k → member h s i ≡ n → scx_finalizes h s i ≡ true → has (finalized_from h s j k) n ≡ true
has_among_removed h s j zero n i a b e r = absurd (omega arith)
has_among_removed h s j (suc k) n i a b e r = go (scx_finalizes h s j) refl (grind arith) (λ q. has_among_removed h s (suc j) k n i q (omega arith) e r)
  where
    go : (t : Bool) → scx_finalizes h s j ≡ t → (i ≡ j) ⊎ (suc j ≤ i) → (suc j ≤ i → has (finalized_from h s (suc j) k) n ≡ true) → has (cond t (member h s j ∷ finalized_from h s (suc j) k) (finalized_from h s (suc j) k)) n ≡ true
    go true q (inl x) more = or_left _ _ (eq-eqb _ _ (rw x at e))
    go true q (inr x) more = or_right _ _ (more x)
    go false q (inl x) more = let y : scx_finalizes h s j ≡ true = rw x at r in cc
    go false q (inr x) more = more x

pub has_removed : (h : History) (s n j : ℕ) → j < count h s → member h s j ≡ n → scx_finalizes h s j ≡ true → has (finalized_from h s 0 (count h s)) n ≡ true
has_removed h s n j i e r = has_among_removed h s 0 (count h s) n j (omega arith) (omega arith) e r

pub is_removed_of : (h : History) (s n : ℕ) → has (finalized_from h s 0 (count h s)) n ≡ true → IsRemoved h s n
is_removed_of h s n e = let x : IsRemovedAmong h s 0 (count h s) n = among_removed h s 0 (count h s) n e in record { index = x.index; within = let a = x.below in omega arith; is = x.is; removed = x.removed }
