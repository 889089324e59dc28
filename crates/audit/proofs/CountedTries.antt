-- The tries of a client's call are those that its lines show.
use Rattle.std.proofs.Common.{◌≡◌, ℕ, suc, ◌<◌, ◌≤◌, Bool, true, false, cond, inr, refl, sym, ◌∙◌, ap, subst, arith, ne_eqb}
use Rattle.histories.specs.Common.{Layout, Row, WasInTheWay, IsOthersScx, History, Opened, ◌⊳◌, Extends}
use Rattle.arena.proofs.Lemmas.{ends_self}
use Rattle.ordered_map.specs.Tries.{begins_try, tries_begun}
use Rattle.record.specs.Answers.{HasLostAllTries}
use Rattle.audit.specs.declared.memory.Tries.{Tries}
use Rattle.audit.specs.Remembered.{row_count, IsMomentAt, AreTriesSince}
use Rattle.audit.specs.Remembering.{tried}

-- a row of another begins no try
others_row : (c : ℕ) (r : Row) → (r.pass.0 ≡ c → ⊥) → begins_try c r ≡ false
others_row c r other = rw (ne_eqb r.pass.0 c other) refl

-- each try begins with a row
pub few_tries : (c : ℕ) (h : History) → tries_begun c h ≤ row_count h
unfolding tries_begun
few_tries c (Opened o) = omega arith
few_tries c (r ⊳ h) = go (begins_try c r) (few_tries c h)
  where
    go : (b : Bool) → tries_begun c h ≤ row_count h → cond b (suc (tries_begun c h)) (tries_begun c h) ≤ suc (row_count h)
    go true i = omega arith
    go false i = omega arith

-- a call that begins now has begun none
pub no_tries : (h start : History) (c : ℕ) (tries : Tries) → start ≡ h → tries.many ≡ 0 → AreTriesSince h start c tries
no_tries h start c tries now none = record {
  many = let e : tries_begun c start ≡ tries_begun c h = ap (tries_begun c) now in omega arith;
  newest = λ some. absurd (omega arith);
}

module _ (c : ℕ) (h start : History) (r : Row) (tries : Tries) (x : AreTriesSince h start c tries) where
  -- a row that begins none
  same_tries : begins_try c r ≡ false → AreTriesSince (r ⊳ h) start c tries
  unfolding tries_begun
  same_tries none = record {
    many = rw none x.many;
    newest = λ some. let y = x.newest some in (y.0, record { within = inr y.1.within; many = y.1.many }, y.2, record { first = y.3.first; begins = y.3.begins; within = inr y.3.within; none_since = rw none y.3.none_since });
  }

  -- one that begins the next
  next_try : Extends h start → begins_try c r ≡ true → AreTriesSince (r ⊳ h) start c (tried true (suc (row_count h)) tries)
  unfolding tries_begun
  next_try since begins = record {
    many = rw begins (let e = x.many in omega arith);
    newest = λ some. (h, record { within = inr (ends_self h); many = omega arith }, since, record { first = r; begins = begins; within = ends_self (r ⊳ h); none_since = refl });
  }

  -- a row of another
  pub tries_by_other : (r.pass.0 ≡ c → ⊥) → AreTriesSince (r ⊳ h) start c tries
  tries_by_other other = same_tries (others_row c r other)

  -- one of its own
  pub tries_by_own : (new : Tries) → Extends h start → r.pass.0 ≡ c → new ≡ tried (begins_try r.pass.0 r) (suc (row_count h)) tries → AreTriesSince (r ⊳ h) start c new
  tries_by_own new since own is = subst (λ (t : Tries). AreTriesSince (r ⊳ h) start c t) (sym (is ∙ ap (λ (p : ℕ). tried (begins_try p r) (suc (row_count h)) tries) own)) (go (begins_try c r) refl)
    where
      go : (b : Bool) → begins_try c r ≡ b → AreTriesSince (r ⊳ h) start c (tried b (suc (row_count h)) tries)
      go true begins = next_try since begins
      go false none = same_tries none

-- a call is right to say that it has lost all
pub all_lost : (lay : Layout) (c : ℕ) (h start : History) (tries : Tries) (many n s : ℕ) → AreTriesSince h start c tries → (0 < tries.many) × (tries.many ≡ many) → IsOthersScx lay c s → ((begin : History) → IsMomentAt h tries.before begin → WasInTheWay h begin n s) → HasLostAllTries lay many c h start n s
all_lost lay c h start tries many n s x all others way =
    let y = x.newest all.0 in
    (others, record { begin = y.0; since = y.2; newest = y.3; all = let e = x.many in let f = all.1 in omega arith; in_the_way = way y.0 y.1 })
