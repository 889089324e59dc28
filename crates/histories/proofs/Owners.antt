-- Each record has one owner, and rows of others leave an SCX-record of its owner's alone that no
-- info word names.
use Rattle.std.proofs.Common.{◌≡◌, ◌≢◌, ℕ, ◌<◌, ◌≤◌, ◌+◌, ◌*◌, ◌⊎◌, inl, inr, ⊎_elim, refl, arith, suc}
use Rattle.std.proofs.Math.Nat.{mul-le-mul_right}
use native.Mathlib.Decide.{ℕ_discrete}
use Rattle.histories.specs.Common.{Layout, ScxWord, State, AllFrozen, Row, opening_nodes, all_nodes, all_scx, node, scx, marked, History, ◌⊳◌, value, member, IsOwnNode, IsOwnScx, IsNamedScx, Lawful}
use Rattle.arena.proofs.Lemmas.{overlap, value_quiet, value_apart, scx_apart, held_back}
use Rattle.histories.proofs.Changes.{Change, nothing, fills_node, fills_scx, freezes, sets_frozen, marks, updates, commits, aborts, FreezeWins, change, lawful_row}
use Rattle.histories.proofs.Facts.{Facts}
use Rattle.histories.proofs.Freezes.{freeze_keeps_scx, freeze_held}
use Rattle.histories.proofs.Updates.{update_keeps_scx, update_held}
use Rattle.histories.proofs.Always.{Effect, quiet, freeze, update, effect, facts, facts_before}
use Rattle.histories.proofs.Entries.{won_named}

-- One owner

pub one_scx_owner : (lay : Layout) (c d s : ℕ) → IsOwnScx lay c s → IsOwnScx lay d s → c ≡ d
one_scx_owner lay c d s p q = go (ℕ_discrete c d)
  where
    go : Dec (c ≡ d) → c ≡ d
    go (yes e) = e
    go (no e) = absurd (overlap 1 lay.scx c d s p.from p.below q.from q.below e)

pub one_node_owner : (lay : Layout) (c d n : ℕ) → IsOwnNode lay c n → IsOwnNode lay d n → c ≡ d
one_node_owner lay c d n p q = go (ℕ_discrete c d)
  where
    go : Dec (c ≡ d) → c ≡ d
    go (yes e) = e
    go (no e) = absurd (overlap (opening_nodes lay) lay.nodes c d n p.from p.below q.from q.below e)

-- The records of a pass are in the table

in_product : (first passes size c n : ℕ) → c < passes → n < first + c * size + size → n < first + passes * size
in_product first passes size c n i j = let k : suc c * size ≤ passes * size = mul-le-mul_right size i in omega (arith, k)

pub own_scx_inside : (lay : Layout) (c s : ℕ) → c < lay.passes → IsOwnScx lay c s → s < all_scx lay
own_scx_inside lay c s i p = in_product 1 lay.passes lay.scx c s i p.below

pub own_node_inside : (lay : Layout) (c n : ℕ) → c < lay.passes → IsOwnNode lay c n → n < all_nodes lay
own_node_inside lay c n i p = in_product (opening_nodes lay) lay.passes lay.nodes c n i p.below

-- an SCX-record that an info word names is one of the table
pub named_scx_inside : (lay : Layout) (h : History) (s : ℕ) → Lawful lay h → IsNamedScx h s → s < all_scx lay
named_scx_inside lay h s l p = go (ℕ_discrete s 0)
  where
    go : Dec (s ≡ 0) → s < all_scx lay
    go (yes e) = rw e (omega arith)
    go (no d) = let o = ((facts lay h l).about s p.0 d p.1).owned in own_scx_inside lay o.pass s o.is_pass o.scx

-- What comes to be named

-- a row names an SCX-record that was named before, or one of its own pass
pub named_scx_back : (lay : Layout) (h : History) (r : Row) (s : ℕ) → Lawful lay (r ⊳ h) → IsNamedScx (r ⊳ h) s → IsNamedScx h s ⊎ IsOwnScx lay r.pass.0 s
named_scx_back lay h r s l p = go (effect lay h r l)
  where
    f : Facts lay h
    f = facts_before lay h r l

    begins : (u j : ℕ) → FreezeWins lay h r u j → s ≡ u → Dec (j ≡ 0) → IsNamedScx h s ⊎ IsOwnScx lay r.pass.0 s
    begins u j w e (yes z) = inr (rw e ((w.freeze.may_win w.found).1 z).own)
    begins u j w e (no z) = inl (rw e (member h u 0, w.freeze.earlier 0 (omega arith)))

    go : Effect lay h r → IsNamedScx h s ⊎ IsOwnScx lay r.pass.0 s
    go (quiet k) = inl (p.0, held_back r h _ s (k.info p.0) p.1)
    go (update u w) = inl (p.0, update_held f w p.0 s p.1)
    go (freeze u j w) = ⊎_elim (λ e. begins u j w e.0 (ℕ_discrete j 0)) (λ q. inl (p.0, q)) (freeze_held f w p.0 s p.1)

-- A row of another pass, and an SCX-record s of the pass c that no info word names
module _ (lay : Layout) (h : History) (r : Row) (c s : ℕ) (l : Lawful lay (r ⊳ h)) (other : r.pass.0 ≢ c) (own : IsOwnScx lay c s) (free : ¬ IsNamedScx h s) where
  -- no info word comes to name it
  pub stays_free : ¬ IsNamedScx (r ⊳ h) s
  stays_free p = ⊎_elim free (λ o. other (one_scx_owner lay r.pass.0 c s o own)) (named_scx_back lay h r s l p)

  -- its words stay
  pub own_words_stay : (a : ScxWord) → value (r ⊳ h) (scx s a) ≡ value h (scx s a)
  own_words_stay a = go (change lay h r l)
    where
      f : Facts lay h
      f = facts_before lay h r l

      unless : (u : ℕ) (b : ScxWord) → r.word ≡ scx u b → (u ≡ s → ⊥) → value (r ⊳ h) (scx s a) ≡ value h (scx s a)
      unless u b e d = value_apart r h (scx u b) (scx s a) e (scx_apart u s b a d)

      go : Change lay h r → value (r ⊳ h) (scx s a) ≡ value h (scx s a)
      go (nothing i e) = value_quiet r h (lawful_row lay h r l).before e (scx s a)
      go (fills_node n part x) = value_apart r h (node n part) (scx s a) x.word refl
      go (fills_scx u part x) = unless u part x.word (λ q. other (one_scx_owner lay r.pass.0 c s (rw q at x.is_open.own) own))
      go (freezes u j w) = freeze_keeps_scx f w s a
      go (sets_frozen u k x) = unless u AllFrozen x.word (λ q. let p : IsNamedScx h u = (member h u 0, x.frozen 0 x.some) in free (rw q at p))
      go (marks u j k x) = value_apart r h (marked (member h u j)) (scx s a) x.word refl
      go (updates u w) = update_keeps_scx f w s a
      go (commits u k x) = unless u State x.word (λ q. free (rw q at (won_named u f x.won)))
      go (aborts u j k x) = unless u State x.word (λ q. ⊎_elim (λ o. other (one_scx_owner lay r.pass.0 c s (rw q at o) own)) (λ p. let y : IsNamedScx h u = (member h u 0, p) in free (rw q at y)) x.by)
