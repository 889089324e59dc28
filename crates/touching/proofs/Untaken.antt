-- What nobody has taken a call of a map comes to only to fill it: it was never in the tree, and no
-- info word has named it.
use Rattle.std.proofs.Common.{◌≡◌, ◌≢◌, ◌<◌, ◌≤◌, ◌⊎◌, ℕ, inl, inr, ⊎_elim, refl, sym, ◌∙◌, ap, subst, arith}
use Rattle.histories.specs.Common.{Layout, Row, SettledPart, Settled, Head, Child, Fill, Word, Node, Scx, History, Opened, ◌⊳◌, Extends, value, node, info, opening_nodes, IsNamedScx, IsOwnNode, IsOwnScx, IsTakenNode, IsTakenScx, Lawful, Call}
use Rattle.arena.proofs.Lemmas.{fill_takes_node, held_at, taken_node_more}
use Rattle.histories.proofs.Lemmas.{lawful_since, lawful_tail, named_scx_taken, some_open, start_nodes, value_start}
use Rattle.prims.proofs.Lemmas.{taken_node_since}
use Rattle.prims.specs.Laws.Unfilled.{node_unfilled}
use Rattle.ordered_map.specs.Paths.{WasInTree}
use Rattle.ordered_map.specs.Runs.{IsMapRun}
use Rattle.ordered_map.specs.TreeWords.{Tree, Leaf, Fork, root, Shows, Has, level}
use Rattle.ordered_map.proofs.MapLemmas.{run_since}
use Rattle.touching.specs.Steps.{FillsUntaken, IsMapStep, IsOfUntaken}
use Rattle.touching.specs.Touches.{Touches, covered, in_progress, named, own_node, own_scx, was_so}
use Rattle.touching.proofs.Calling.{map_finds, map_run}
use Rattle.touching.proofs.Finding.{FillsOrFinds, Finds, FindsNode, FindsScx, found_covered, found_filled, found_named, found_running, found_so}
use Rattle.touching.proofs.Leaving.{was_since}
use Rattle.touching.proofs.Moments.{taken_scx_since}
use Rattle.touching.proofs.OwnScx.{InTree}
use Rattle.touching.proofs.Stood.{is_was, reached_stood}

-- settled words are filled, by no other rows
pub settled_zero : (lay : Layout) (h : History) (n : ℕ) (part : SettledPart) → Lawful lay h → opening_nodes lay ≤ n → ¬ IsTakenNode h n → value h (node n (Settled part)) ≡ 0
settled_zero lay (Opened o) n part l late free = value_start o (node n (Settled part)) ∙ o.beyond n (Settled part) (let few = start_nodes lay o l in omega (arith, few, late))
settled_zero lay (r ⊳ h) n part l late free =
    node_unfilled lay h r n (Settled part) l (λ q x. free (fill_takes_node r h n q x.kind x.word)) tt (λ side e. absurd (let z : Settled part ≡ Child side = e in cc))
    ∙ settled_zero lay h n part (lawful_tail lay h r l) late (λ t. free (taken_node_more r h n t))

-- all nodes of a tree but its root have a level above 0
some_level : (f : Word → ℕ) (t : Tree) (lo hi n : ℕ) → Shows f lo hi t → Has t n → (n ≡ root t) ⊎ (0 < level f n)
some_level f (Leaf m) lo hi n s e = inl (sym e)
some_level f (Fork m a b) lo hi n s (inl e) = inl (sym e)
some_level f (Fork m a b) lo hi n s (inr (inl x)) = ⊎_elim (λ e. inr (let low = s.0.low in let same : level f n ≡ level f (root a) = ap (level f) e in omega (arith, low, same))) inr (some_level f a lo _ n s.1 x)
some_level f (Fork m a b) lo hi n s (inr (inr x)) = ⊎_elim (λ e. inr (let high = s.0.high in let same : level f n ≡ level f (root b) = ap (level f) e in omega (arith, high, same))) inr (some_level f b _ hi n s.2 x)

-- so an untaken node was never in the tree
module _ (lay : Layout) (h : History) (n : ℕ) (run : IsMapRun lay h) (late : opening_nodes lay ≤ n) (free : ¬ IsTakenNode h n) where
  pub never_stood : ¬ WasInTree h n
  never_stood x = go (some_level (value x.moment) x.tree _ _ n x.is_tree.shows x.has)
    where
      head : value x.moment (node n (Settled Head)) ≡ 0
      head = settled_zero lay x.moment n Head (lawful_since lay h x.moment run.1.lawful x.within) late (λ t. free (taken_node_since h x.moment n x.within t))

      go : (n ≡ root x.tree) ⊎ (0 < level (value x.moment) n) → ⊥
      go (inl e) = let some = some_open lay in let zero : n ≡ 0 = e ∙ x.is_tree.is in omega (arith, some, zero, late)
      go (inr i) = let none : level (value x.moment) n ≡ 0 = rw head refl in omega (arith, i, none)

-- the word is of a record of the pass's own
abbrev pub IsOwnWord : Call → Word → Type 0
IsOwnWord c (Node n part) = IsOwnNode c.layout c.pass n.0
IsOwnWord c (Scx s part) = IsOwnScx c.layout c.pass s.0

module _ (c : Call) (h : History) (run : IsMapRun c.layout h) where
  not_found : (n : ℕ) → opening_nodes c.layout ≤ n → ¬ IsTakenNode h n → ¬ FindsNode InTree c h n
  not_found n late free (found_so x) = never_stood c.layout h n run late free (was_since h x.moment n x.within (is_was x.moment n x.was))
  not_found n late free (found_covered s x) = never_stood c.layout h n run late free (was_since h x.moment n x.within (reached_stood c.layout x.moment s n (run_since c.layout h x.moment run x.within) x.was.0 x.was.1))

  -- what is named is taken
  not_named : (s : ℕ) (m : History) → s ≢ 0 → ¬ IsTakenScx h s → Extends h m → ¬ IsNamedScx m s
  not_named s m real free within x = free (taken_scx_since h m s within (named_scx_taken c.layout m s (lawful_since c.layout h m run.1.lawful within) real x))

  scx_not_found : (s : ℕ) → s ≢ 0 → ¬ IsTakenScx h s → ¬ FindsScx InTree c h s
  scx_not_found s real free (found_named n x y) = not_named s y.moment real free y.within (n, held_at y.moment (info n) s y.was)
  scx_not_found s real free (found_running x) = not_named s x.moment real free x.within x.was.named
  scx_not_found s real free (found_filled own since taken) = free taken

  none_found : (w : Word) → IsOfUntaken c.layout h w → ¬ Finds InTree c h w
  none_found (Node n part) free x = not_found n.0 free.0 free.1 x
  none_found (Scx s part) free x = scx_not_found s.0 free.0 free.1 x

  -- what it touches of that is its own
  pub own_touched : (w : Word) → IsOfUntaken c.layout h w → Touches InTree c h w → IsOwnWord c w
  own_touched (Node n part) free (own_node own since) = own
  own_touched (Node n part) free (was_so x) = absurd (not_found n.0 free.0 free.1 (found_so x))
  own_touched (Node n part) free (covered s x) = absurd (not_found n.0 free.0 free.1 (found_covered s x))
  own_touched (Scx s part) free (own_scx own since) = own
  own_touched (Scx s part) free (named n x y) = absurd (scx_not_found s.0 free.0 free.1 (found_named n x y))
  own_touched (Scx s part) free (in_progress x) = absurd (scx_not_found s.0 free.0 free.1 (found_running x))

pub row_fills : (c : Call) (h : History) (r : Row) → IsMapStep c h r → FillsUntaken c h r
row_fills c h r x free = ap (λ (q : Row). q.kind) x.is ∙ go (map_finds x.tries x.machine c h x.step x.waits)
  where
    run : IsMapRun c.layout h
    run = map_run x.tries x.machine c h x.step x.waits

    go : FillsOrFinds InTree c h x.step → x.step.kind ≡ Fill
    go (inl y) = y.0
    go (inr y) = absurd (none_found c h run x.step.word (subst (λ (q : Row). IsOfUntaken c.layout h q.word) x.is free) y)
