-- The forks of a trie, and how deep it is, whatever edits its histories make.
use Rattle.std.proofs.Common.{◌≡◌, ℕ, ◌<◌, ◌≤◌, length, subst, arith}
use Rattle.histories.specs.Common.{Layout, History, value, taken_nodes}
use Rattle.arena.specs.declared.limits.Mode.TheVariants.{Trie as TrieMode}
use Rattle.ordered_map.specs.TreeWords.{level}
use Rattle.ordered_map.specs.Paths.{WasInTree, depth}
use Rattle.ordered_map.specs.Bits.{IsTrieFork}
use Rattle.ordered_map.specs.Runs.{IsMapRun, IsTrieRun}
use Rattle.ordered_map.proofs.Meanings.{trie_run, edits_of, grown}
use Rattle.ordered_map.proofs.MapRuns.{stood_depth}
use Rattle.ordered_map.proofs.TrieForks.{grown_fork}

-- its forks part keys at a bit
pub stood_parted : (lay : Layout) (h : History) (n : ℕ) → lay.mode ≡ TrieMode → IsMapRun lay h → WasInTree h n → IsTrieFork (value h) n
stood_parted lay h n trie g x = grown_fork (edits_of lay h g).edits lay trie h x.moment x.tree n (grown lay h g) x.within x.is_tree x.has

pub trie_forks : (lay : Layout) (h : History) (n : ℕ) → IsTrieRun lay h → WasInTree h n → IsTrieFork (value h) n
trie_forks lay h n g x = stood_parted lay h n g.0 (trie_run lay h g) x

-- no node is deep
pub trie_depth : (lay : Layout) (h : History) (n : ℕ) → IsTrieRun lay h → WasInTree h n → level (value h) n ≤ 66
trie_depth lay h n g x =
    let d : level (value h) n < depth lay.mode (length (taken_nodes h)) = stood_depth lay h n (trie_run lay h g) x in
    let e : level (value h) n < 67 = subst (λ mode. level (value h) n < depth mode (length (taken_nodes h))) g.0 d in
    omega (arith, e)
