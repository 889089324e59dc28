-- Every node that was in the tree is in the table.
use Rattle.std.proofs.Common.{◌≡◌, ◌≢◌, ℕ, ◌<◌, Bool, true, false, ◌⊎◌, inl, inr, ⊎_elim, refl, sym, ◌∙◌, arith}
use native.Mathlib.Decide.{dec_lt}
use Rattle.histories.specs.Common.{Settled, Head, Word, Layout, nodes_at_start, all_nodes, IsWord, node, same_word, History, Opened, ◌⊳◌, value, Lawful}
use Rattle.arena.proofs.Lemmas.{word_same, value_other}
use Rattle.histories.proofs.Lemmas.{lawful_row, lawful_tail, some_open, start_nodes, value_start}
use Rattle.ordered_map.specs.Spelled.{IsTree}
use Rattle.ordered_map.specs.TreeWords.{Tree, Leaf, Fork, root, Shows, Has, level}

some_nodes : (lay : Layout) → 0 < all_nodes lay
some_nodes lay = let some = some_open lay in omega (arith, some)

pub head_inside : (lay : Layout) (h : History) (n : ℕ) → Lawful lay h → value h (node n (Settled Head)) ≢ 0 → n < all_nodes lay
head_inside lay (Opened o) n l d = go (dec_lt n (nodes_at_start o.mode o.planted))
  where
    go : Dec (n < nodes_at_start o.mode o.planted) → n < all_nodes lay
    go (yes i) = let few = start_nodes lay o l in omega (arith, i, few)
    go (no late) = absurd (d (value_start o (node n (Settled Head)) ∙ o.beyond n (Settled Head) (omega (arith, late))))
head_inside lay (r ⊳ h) n l d = go (same_word r.word (node n (Settled Head))) refl (head_inside lay h n (lawful_tail lay h r l))
  where
    go : (b : Bool) → same_word r.word (node n (Settled Head)) ≡ b → (value h (node n (Settled Head)) ≢ 0 → n < all_nodes lay) → n < all_nodes lay
    go true e old = let w : IsWord lay r.word = (lawful_row lay h r l).word in rw (word_same r.word (node n (Settled Head)) e) at w
    go false e old = old (λ q. d (value_other r h (node n (Settled Head)) e ∙ q))

-- all but the root have a level above 0
pub has_head : (f : Word → ℕ) (t : Tree) (lo hi n : ℕ) → Shows f lo hi t → Has t n → (n ≡ root t) ⊎ (f (node n (Settled Head)) ≢ 0)
has_head f (Leaf m) lo hi n s e = inl (sym e)
has_head f (Fork m a b) lo hi n s (inl e) = inl (sym e)
has_head f (Fork m a b) lo hi n s (inr (inl x)) = ⊎_elim (λ e. inr (λ z. let l = s.0.low in let q : level f (root a) ≡ 0 = rw (← e) (rw z refl) in omega (arith, l, q))) inr (has_head f a lo _ n s.1 x)
has_head f (Fork m a b) lo hi n s (inr (inr x)) = ⊎_elim (λ e. inr (λ z. let l = s.0.high in let q : level f (root b) ≡ 0 = rw (← e) (rw z refl) in omega (arith, l, q))) inr (has_head f b _ hi n s.2 x)

-- the nodes of the tree are in the table
pub tree_inside : (lay : Layout) (h : History) (t : Tree) → Lawful lay h → IsTree (value h) t → (n : ℕ) → Has t n → n < all_nodes lay
tree_inside lay h t l i n p =
    ⊎_elim
    (λ e. let x = some_nodes lay in let q : n ≡ 0 = e ∙ i.is in omega (arith, x, q))
    (λ d. head_inside lay h n l d)
    (has_head (value h) t _ _ n i.shows p)
