-- How many times an SCX-record is in a blame list.
use Rattle.std.proofs.Common.{◌≡◌, ◌≢◌, ℕ, zero, suc, ◌+◌, ◌<◌, ◌≤◌, true, cond, eqb, eq-eqb, ne_eqb, List, [], ◌∷◌, length, inl, inr, refl, sym, ◌∙◌, ap, subst, arith}
use native.Mathlib.Decide.{ℕ_discrete}
use Rattle.std.specs.List.{All, Contains}
use Rattle.std.specs.Set.{is_member}
use Rattle.std.proofs.lemmas.Bool.Decides.{Decides-eqb}
use Rattle.std.proofs.lemmas.Cmp.{nat_eq_equiv}
use Rattle.std.proofs.lemmas.List.Elements.{All-nil, All-cons, All-contains, All-weaker}
use Rattle.std.proofs.lemmas.List.Kept.{AllPairs-cons}
use Rattle.std.proofs.lemmas.List.Sums.{sum_by-cons}
use Rattle.std.proofs.lemmas.Map.Made.{IsDistinct-from_AllPairs, is_member-Decides, length-le_from_is_member}
use Rattle.histories.specs.Common.{Layout, info, state, History, ◌⊳◌, value, HasHeld, Extends, plan, count, member, IsMember, WasInTheWay, Lawful}
use Rattle.arena.proofs.Lemmas.{held_since, plan_counted}
use Rattle.histories.proofs.Lemmas.{facts, lawful_since, member_of, state_since}
use Rattle.template.specs.Blame.{IsOverOrNew}
use Rattle.tables.specs.Passes.{IsBlamedFor, times_in}

-- Counts

one_more : (blamed : List ℕ) (s t : ℕ) → times_in (s ∷ blamed) t ≡ cond (eqb t s) 1 0 + times_in blamed t
one_more blamed s t = sum_by-cons (λ x. cond (eqb t x) 1 0) s blamed

pub times_same : (blamed : List ℕ) (s : ℕ) → times_in (s ∷ blamed) s ≡ suc (times_in blamed s)
times_same blamed s =
    let x : times_in (s ∷ blamed) s ≡ 1 + times_in blamed s = one_more blamed s s ∙ ap (λ b. cond b 1 0 + times_in blamed s) (eq-eqb s s refl) in
    omega (arith, x)

pub times_other : (blamed : List ℕ) (s t : ℕ) → t ≢ s → times_in (s ∷ blamed) t ≡ times_in blamed t
times_other blamed s t d =
    let x : times_in (s ∷ blamed) t ≡ 0 + times_in blamed t = one_more blamed s t ∙ ap (λ b. cond b 1 0 + times_in blamed t) (ne_eqb t s d) in
    omega (arith, x)

-- Four nodes at most

-- the nodes that s may cover
nodes_of : History → ℕ → List ℕ
nodes_of h s = member h s 0 ∷ member h s 1 ∷ member h s 2 ∷ member h s 3 ∷ []

covered : (h : History) (s j : ℕ) → j < 4 → Contains (nodes_of h s) (member h s j)
unfolding nodes_of
covered h s zero i = (0, omega arith, refl)
covered h s (suc zero) i = (1, omega arith, refl)
covered h s (suc (suc zero)) i = (2, omega arith, refl)
covered h s (suc (suc (suc zero))) i = (3, omega arith, refl)
covered h s (suc (suc (suc (suc j)))) i = absurd (omega (arith, i))

-- of nodes that s has frozen, all different, there are no more
four : (lay : Layout) (h : History) (blamed : List ℕ) (s : ℕ) → Lawful lay h → s ≢ 0 → (x : IsBlamedFor h blamed s) → length x.nodes ≤ 4
unfolding nodes_of
four lay h blamed s l real x = length-le_from_is_member nat_eq_equiv x.nodes (nodes_of h s) (IsDistinct-from_AllPairs Decides-eqb x.nodes x.different) among
  where
    is_among : (n : ℕ) → HasHeld h (info n) s → Contains (nodes_of h s) n
    is_among n held =
        let m : IsMember h s n = member_of h s n ((facts lay h l).cell s n real held) in
        let c = plan_counted (plan h s) (let w = m.within in omega arith) in
        let few : m.index < 4 = (let w : m.index < count h s = m.within in let a = c.count in let b = c.few in omega arith) in
        subst (Contains (nodes_of h s)) m.is (covered h s m.index few)

    among : (n : ℕ) → is_member eqb x.nodes n ≡ true → is_member eqb (nodes_of h s) n ≡ true
    among n e = (is_member-Decides Decides-eqb (nodes_of h s) n).1 (is_among n (All-contains (λ k. HasHeld h (info k) s) x.nodes n x.frozen ((is_member-Decides Decides-eqb x.nodes n).0 e)))

-- One list

-- nobody
pub for_nobody : (h : History) (s : ℕ) → IsBlamedFor h [] s
for_nobody h s = record { nodes = []; different = λ i j d less within. absurd (omega arith); frozen = All-nil _; running = λ z. omega arith; most = omega arith }

frozen_since : (h m : History) (s : ℕ) (nodes : List ℕ) → Extends h m → All (λ n. HasHeld m (info n) s) nodes → All (λ n. HasHeld h (info n) s) nodes
frozen_since h m s nodes e = All-weaker (λ n. HasHeld m (info n) s) (λ n. HasHeld h (info n) s) (λ n. held_since h m (info n) s e) nodes

unfinished_before : (lay : Layout) (h m : History) (s : ℕ) → Lawful lay h → Extends h m → value h (state s) ≡ 0 → value m (state s) ≡ 0
unfinished_before lay h m s l e z = go (ℕ_discrete (value m (state s)) 0)
  where
    go : Dec (value m (state s) ≡ 0) → value m (state s) ≡ 0
    go (yes y) = y
    go (no d) = absurd (d (sym (state_since lay h m s l e d) ∙ z))

-- the same list in a longer run
pub for_later : (lay : Layout) (h m : History) (blamed : List ℕ) (s : ℕ) → Lawful lay h → Extends h m → IsBlamedFor m blamed s → IsBlamedFor h blamed s
for_later lay h m blamed s l e x = record {
  nodes = x.nodes;
  different = x.different;
  frozen = frozen_since h m s x.nodes e x.frozen;
  running = λ z. x.running (unfinished_before lay h m s l e z);
  most = x.most;
}

-- one more in it, which is not s
pub for_other : (h : History) (blamed : List ℕ) (s t : ℕ) → t ≢ s → IsBlamedFor h blamed t → IsBlamedFor h (s ∷ blamed) t
for_other h blamed s t d x = record { nodes = x.nodes; different = x.different; frozen = x.frozen; running = λ z. rw (times_other blamed s t d) (x.running z); most = rw (times_other blamed s t d) x.most }

-- One more in it, which was in the way since the run m. So it was not finished there: it was in
-- the list no more than once for each node. Now it is finished; or it has frozen one node more.
pub for_same : (lay : Layout) (h m : History) (blamed : List ℕ) (n s : ℕ) → Lawful lay h → Extends h m → WasInTheWay h m n s → IsOverOrNew h m n s → IsBlamedFor m blamed s → IsBlamedFor h (s ∷ blamed) s
for_same lay h m blamed n s l e w x y = go x
  where
    k : History
    k = w.row ⊳ w.before

    up_to_now : times_in blamed s ≤ length y.nodes
    up_to_now = y.running (unfinished_before lay k m s (lawful_since lay h k l w.within) (inr w.since) w.running.unfinished)

    go : IsOverOrNew h m n s → IsBlamedFor h (s ∷ blamed) s
    go (inl over) = record {
      nodes = y.nodes;
      different = y.different;
      frozen = frozen_since h m s y.nodes e y.frozen;
      running = λ z. absurd (over z);
      most = (let c = times_same blamed s in let u = up_to_now in omega arith);
    }
    go (inr come) = record {
      nodes = n ∷ y.nodes;
      different = AllPairs-cons (λ a b. a ≢ b) n y.nodes (All-weaker (λ b. HasHeld m (info b) s) (λ b. n ≢ b) (λ b held q. come.new (subst (λ i. HasHeld m (info i) s) (sym q) held)) y.nodes y.frozen) y.different;
      frozen = All-cons (λ b. HasHeld h (info b) s) n y.nodes come.named (frozen_since h m s y.nodes e y.frozen);
      running = λ z. less;
      most = (let i = less in omega arith);
    }
      where
        less : times_in (s ∷ blamed) s ≤ suc (length y.nodes)
        less = let c = times_same blamed s in let u = up_to_now in omega arith

-- what was in the way is not the dummy, which is finished at the start
real_in_the_way : (lay : Layout) (h m : History) (n s : ℕ) → Lawful lay h → WasInTheWay h m n s → s ≢ 0
real_in_the_way lay h m n s l w e =
    let d = (facts lay (w.row ⊳ w.before) (lawful_since lay h (w.row ⊳ w.before) l w.within)).dummy in
    let z : value (w.row ⊳ w.before) (state 0) ≡ 0 = rw e at w.running.unfinished in
    omega arith

-- One more that a call names

module _ (lay : Layout) (h m : History) (blamed : List ℕ) (n s : ℕ) (l : Lawful lay h) (e : Extends h m) (w : WasInTheWay h m n s) (x : IsOverOrNew h m n s) (each : (t : ℕ) → IsBlamedFor m blamed t) where
  pub each_more : (t : ℕ) → IsBlamedFor h (s ∷ blamed) t
  each_more t = go (ℕ_discrete t s)
    where
      go : Dec (t ≡ s) → IsBlamedFor h (s ∷ blamed) t
      go (yes q) = subst (IsBlamedFor h (s ∷ blamed)) (sym q) (for_same lay h m blamed n s l e w x (each s))
      go (no d) = for_other h blamed s t d (for_later lay h m blamed t l e (each t))

  pub few_more : ((t : ℕ) → times_in blamed t ≤ 5) → (t : ℕ) → times_in (s ∷ blamed) t ≤ 5
  few_more few t = go (ℕ_discrete t s)
    where
      now : IsBlamedFor h (s ∷ blamed) s
      now = for_same lay h m blamed n s l e w x (each s)

      most : times_in (s ∷ blamed) s ≤ 5
      most = let a = now.most in let b = four lay h (s ∷ blamed) s l (real_in_the_way lay h m n s l w) now in omega arith

      go : Dec (t ≡ s) → times_in (s ∷ blamed) t ≤ 5
      go (yes q) = subst (λ u. times_in (s ∷ blamed) u ≤ 5) (sym q) most
      go (no d) = rw (times_other blamed s t d) (few t)
