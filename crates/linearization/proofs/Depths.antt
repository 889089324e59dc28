-- How deep a trie is: levels rise from each fork to its children, and none is above 66.
use Rattle.std.proofs.Common.{◌≡◌, ℕ, zero, suc, ◌+◌, ◌*◌, ◌^◌, ◌<◌, ◌≤◌, length, inl, inr, refl, subst, arith}
use Rattle.arena.specs.declared.limits.Mode.TheVariants.{Trie}
use Rattle.arena.proofs.Lemmas.{ends_self}
use Rattle.histories.specs.Common.{Mode, Layout, Word, History, value, taken_nodes}
use Rattle.ordered_map.specs.Paths.{WasInTree, depth}
use Rattle.ordered_map.specs.Runs.{IsMapRun}
use Rattle.ordered_map.specs.Spelled.{IsTree}
use Rattle.ordered_map.specs.TreeWords.{Tree, Leaf, Fork, Has, Shows, level, rank, root}
use Rattle.ordered_map.proofs.MapLemmas.{stood_depth}
use Rattle.record.specs.SpelledMap.{IsNoDeeper}

-- a tree has its top
has_top : (t : Tree) → Has t (root t)
has_top (Leaf n) = refl
has_top (Fork n a b) = inl refl

-- where no level is above 66, a tree whose top is on a level has as many fewer below that
no_deeper : (f : Word → ℕ) (t : Tree) (most low high : ℕ) → Shows f low high t → ((n : ℕ) → Has t n → level f n ≤ 66) → 66 ≤ most + level f (root t) → IsNoDeeper most t
no_deeper f (Leaf n) most low high x small enough = tt
no_deeper f (Fork n a b) zero low high x small enough = absurd (let up = x.0.low in let top = small (root a) (inr (inl (has_top a))) in omega (arith, up, top, enough))
no_deeper f (Fork n a b) (suc most) low high x small enough = (
  no_deeper f a most low (rank f n) x.1 (λ m y. small m (inr (inl y))) (let up = x.0.low in omega (arith, up, enough)),
  no_deeper f b most (rank f n) high x.2 (λ m y. small m (inr (inr y))) (let up = x.0.high in omega (arith, up, enough)),
)

-- each leaf of a trie is at most 66 fields below the root
pub trie_low : (lay : Layout) (h : History) → IsMapRun lay h → lay.mode ≡ Trie → (t : Tree) → IsTree (value h) t → IsNoDeeper 66 t
trie_low lay h g trie t x = no_deeper (value h) t 66 0 (3 * 2 ^ 64) x.shows small (omega arith)
  where
    small : (n : ℕ) → Has t n → level (value h) n ≤ 66
    small n has =
        let stood : WasInTree h n = record { moment = h; within = ends_self h; tree = t; is_tree = x; has = has } in
        let d : level (value h) n < 67 = subst (λ (m : Mode). level (value h) n < depth m (length (taken_nodes h))) trie (stood_depth lay h n g stood) in
        omega (arith, d)
