-- Links that are kept in a list, from the same place one after the other.
use Rattle.std.proofs.Common.{◌≡◌, ℕ, zero, suc, ◌<◌, ◌≤◌, ◌⊎◌, inl, inr, ⊎_elim, Option, Some, None, List, [], ◌∷◌, ◌++◌, length, refl, sym, ◌∙◌, ap, subst, arith, length-append, IfSome}
use Rattle.std.proofs.lemmas.List.{get_or_append_left, get_or_at, get_or_default}
use Rattle.judge.specs.declared.graph.Link.{Link}
use Rattle.judge.specs.Graph.{IsLinkAt, HasLink, here, older}

-- one link is at a place
pub one_there : (list : List Link) (i : ℕ) (k l : Link) → IsLinkAt list i k → IsLinkAt list i l → k ≡ l
one_there list i k l a b = a.is ∙ get_or_default list i k l a.within ∙ sym b.is

pub stands_more : (list more : List Link) (i : ℕ) (l : Link) → IsLinkAt list i l → IsLinkAt (list ++ more) i l
stands_more list more i l a = record { within = omega (a.within, length-append list more, arith); is = a.is ∙ sym (get_or_append_left list more l i a.within) }

pub stands_back : (list more : List Link) (i : ℕ) (l : Link) → i < length list → IsLinkAt (list ++ more) i l → IsLinkAt list i l
stands_back list more i l e a = record { within = e; is = a.is ∙ get_or_append_left list more l i e }

pub stands_last : (list : List Link) (l : Link) → IsLinkAt (list ++ l ∷ []) (length list) l
stands_last list l = record { within = omega (length-append list (l ∷ []), arith); is = sym (get_or_at list l [] l (length list) refl) }

-- a link of a longer list is one of the shorter, or the last
pub stands_split : (list : List Link) (i : ℕ) (k l : Link) → IsLinkAt (list ++ l ∷ []) i k → IsLinkAt list i k ⊎ ((i ≡ length list) × (k ≡ l))
stands_split list i k l a = go (before_or i (length list))
  where
    before_or : (m n : ℕ) → (m < n) ⊎ (n ≤ m)
    before_or m zero = inr (omega arith)
    before_or zero (suc n) = inl (omega arith)
    before_or (suc m) (suc n) = ⊎_elim (λ e. inl (omega (e, arith))) (λ e. inr (omega (e, arith))) (before_or m n)

    go : (i < length list) ⊎ (length list ≤ i) → IsLinkAt list i k ⊎ ((i ≡ length list) × (k ≡ l))
    go (inl e) = inl (stands_back list (l ∷ []) i k e a)
    go (inr e) =
        let at : i ≡ length list = omega (a.within, length-append list (l ∷ []), e, arith) in
        inr (at, one_there (list ++ l ∷ []) (length list) k l (subst (λ j. IsLinkAt (list ++ l ∷ []) j k) at a) (stands_last list l))

-- chains

pub no_link : (list : List Link) (v : ℕ) → ¬ HasLink list v None
no_link list v p = elim p [ ]

-- what is left of a chain after its first link
pub link_split : (list : List Link) (v i : ℕ) (l : Link) → IsLinkAt list i l → HasLink list v (Some i) → (l.to ≡ v) ⊎ HasLink list v l.before
link_split list v i l a (here j k b e) = inl (ap (λ (m : Link). m.to) (one_there list i l k a b) ∙ e)
link_split list v i l a (older j k b p) = inr (subst (λ (m : Link). HasLink list v m.before) (one_there list i k l b a) p)

pub link_more : (list more : List Link) (v : ℕ) (at : Option ℕ) → HasLink list v at → HasLink (list ++ more) v at
link_more list more v at (here i l a e) = here i l (stands_more list more i l a) e
link_more list more v at (older i l a p) = older i l (stands_more list more i l a) (link_more list more v l.before p)

-- a chain of the shorter list stays one
abbrev pub Rises : List Link → Type 0
Rises list = (i : ℕ) (l : Link) → IsLinkAt list i l → IfSome l.before (λ b. b < i)

abbrev pub IsBelow : Option ℕ → ℕ → Type 0
IsBelow at n = IfSome at (λ i. i < n)

pub below_more : (at : Option ℕ) (m n : ℕ) → m ≤ n → IsBelow at m → IsBelow at n
below_more None m n e p = tt
below_more (Some i) m n e p = omega (e, p, arith)

pub link_back : (list more : List Link) (v : ℕ) (at : Option ℕ) → Rises list → IsBelow at (length list) → HasLink (list ++ more) v at → HasLink list v at
link_back list more v at rising b (here i l a e) = here i l (stands_back list more i l b a) e
link_back list more v at rising b (older i l a p) =
    let there = stands_back list more i l b a in
    older i l there (link_back list more v l.before rising (below_more l.before i (length list) (omega (there.within, arith)) (rising i l there)) p)

-- how many links a chain has at most
abbrev pub steps_left : Option ℕ → ℕ
steps_left None = 0
steps_left (Some i) = suc i

pub fewer_left : (i : ℕ) (at : Option ℕ) → IsBelow at i → steps_left at < suc i
fewer_left i None b = omega arith
fewer_left i (Some j) b = omega (b, arith)
