-- What the laws say of a history of the tree, in the map's own terms.
use Rattle.std.specs.Prelude.{◌≡◌, ◌+◌, ◌<◌, ◌≤◌, ◌^◌, ℕ, true, false, length, List, None}
use Rattle.histories.specs.Common.{Layout, Row, Word, child, History, Opening, Opened, ◌⊳◌, value, Extends, IsWin, log, IsEntered, is_final, taken_nodes}
use Rattle.ordered_map.specs.declared.pair.Pair.{Pair}
use Rattle.ordered_map.specs.OrderedMap.{MapEdit}
use Rattle.ordered_map.specs.TreeWords.{Tree, Has, class, is_leaf, level, toward, said, IsBlankAboveKeys}
use Rattle.ordered_map.specs.Spelled.{IsTree, Spells}
use Rattle.ordered_map.specs.Paths.{Passed, WasInTree, IsAnswerAt}
use Rattle.ordered_map.specs.Bits.{Shares, IsTrieFork}
use Rattle.ordered_map.specs.Strays.{HasWalked}
use Rattle.ordered_map.specs.Runs.{IsTreeRun, IsTrieRun, Makes, IsEditAt, map_of_log, first_pairs}

-- `edits` gives of each SCX-record with an entry an edit that it may be said to have made
abbrev pub AreEdits : (ℕ → MapEdit) → Layout → History → Type 0
AreEdits edits lay h = (s : ℕ) → IsEntered (log lay h) s → Makes lay h s (edits s)

-- after each row the words spell the map that these edits of the log so far make of the pairs with
-- which the history began
abbrev pub SpellsLog : (ℕ → MapEdit) → Layout → History → Type 0
SpellsLog edits lay h = (moment : History) → Extends h moment → Spells lay (value moment) (map_of_log edits (first_pairs moment) (log lay moment))

-- what holds in every history of the tree in which only edits of the map begin
pub record TreeLaws : Type 0 where
  -- each SCX-record with an entry may be said to make some edit
  pub edits : (lay : Layout) (h : History) → IsTreeRun lay h → (edits : ℕ → MapEdit) × AreEdits edits lay h
  -- before the first row the words spell the pairs with which the history begins
  pub opens : (lay : Layout) (o : Opening) → IsTreeRun lay (Opened o) → Spells lay (value (Opened o)) (first_pairs (Opened o))
  -- whichever is said, the only one or not, the words spell the map of the log so far
  pub spelled : (lay : Layout) (h : History) (edits : ℕ → MapEdit) → IsTreeRun lay h → AreEdits edits lay h → SpellsLog edits lay h
  -- which is one map
  pub one_map : (lay : Layout) (f : Word → ℕ) (m n : List Pair) → Spells lay f m → Spells lay f n → m ≡ n
  -- an update leaves the map that its edit leaves, and its leaf has the old value
  pub updates : (lay : Layout) (h before : History) (row : Row) (s : ℕ) (e : MapEdit) → IsTreeRun lay h → Extends h (row ⊳ before) → IsWin before row s
      → Makes lay h s e → IsEditAt lay before row s e
  -- a walk's leaf says what the map gave at a moment of the walk
  pub walks : (lay : Layout) (h start : History) (k n : ℕ) → k < 2 ^ 64 → IsTreeRun lay h → Passed h start k n → is_leaf (value h) n ≡ true
      → IsAnswerAt lay h start k (said (value h) k n)
  -- and is at most one level deeper than there are taken nodes
  pub depth : (lay : Layout) (h start : History) (k n : ℕ) → IsTreeRun lay h → Passed h start k n → level (value h) n < 2 + length (taken_nodes h)
  -- of the nodes that ever were in the tree just those not final are still there
  pub not_final : (lay : Layout) (h : History) (t : Tree) (n : ℕ) → IsTreeRun lay h → IsTree (value h) t → Has t n → is_final (log lay h) n ≡ false
  pub remains : (lay : Layout) (h : History) (t : Tree) (n : ℕ) → IsTreeRun lay h → WasInTree h n → is_final (log lay h) n ≡ false → IsTree (value h) t → Has t n
  -- one that is above all keys has the key 0
  pub blank : (lay : Layout) (h : History) (n : ℕ) → IsTreeRun lay h → WasInTree h n → IsBlankAboveKeys (value h) n

-- what holds in every history of a trie in which only edits of the map begin
pub record TrieLaws : Type 0 where
  -- each SCX-record with an entry may be said to make some edit
  pub edits : (lay : Layout) (h : History) → IsTrieRun lay h → (edits : ℕ → MapEdit) × AreEdits edits lay h
  -- before the first row the words spell the pairs with which the history begins
  pub opens : (lay : Layout) (o : Opening) → IsTrieRun lay (Opened o) → Spells lay (value (Opened o)) (first_pairs (Opened o))
  -- whichever is said, the words spell the map of the log so far
  pub spelled : (lay : Layout) (h : History) (edits : ℕ → MapEdit) → IsTrieRun lay h → AreEdits edits lay h → SpellsLog edits lay h
  -- an update leaves the map that its edit leaves, and its leaf has the old value
  pub updates : (lay : Layout) (h before : History) (row : Row) (s : ℕ) (e : MapEdit) → IsTrieRun lay h → Extends h (row ⊳ before) → IsWin before row s
      → Makes lay h s e → IsEditAt lay before row s e
  -- a walk by the tree's steps says at its leaf what the map gave at a moment of the walk: it keeps
  -- to the path of its key up to a fork that the key does not share, and goes on from there
  pub begins : (lay : Layout) (h : History) (k : ℕ) → IsTrieRun lay h → HasWalked lay h h k 0
  pub goes_on : (lay : Layout) (h start : History) (k n : ℕ) → k < 2 ^ 64 → IsTrieRun lay h → HasWalked lay h start k n → is_leaf (value h) n ≡ false
      → HasWalked lay h start k (value h (child n (toward (value h) n k)))
  pub walks : (lay : Layout) (h start : History) (k n : ℕ) → k < 2 ^ 64 → IsTrieRun lay h → HasWalked lay h start k n → is_leaf (value h) n ≡ true
      → IsAnswerAt lay h start k (said (value h) k n)
  -- where it comes to such a fork the map had no such key
  pub strays : (lay : Layout) (h start : History) (k n : ℕ) → k < 2 ^ 64 → IsTrieRun lay h → Passed h start k n → is_leaf (value h) n ≡ false
      → class (value h) n ≡ 0 → ¬ Shares (value h) n k → IsAnswerAt lay h start k None
  -- a fork that was ever in the trie parts keys at a bit, and its children keep to its sides
  pub forks : (lay : Layout) (h : History) (n : ℕ) → IsTrieRun lay h → WasInTree h n → IsTrieFork (value h) n
  -- no node is deeper than level 66
  pub depth : (lay : Layout) (h : History) (n : ℕ) → IsTrieRun lay h → WasInTree h n → level (value h) n ≤ 66
  -- no node of the trie is final, and of the forks that ever were in it just those not final are
  -- there
  pub not_final : (lay : Layout) (h : History) (t : Tree) (n : ℕ) → IsTrieRun lay h → IsTree (value h) t → Has t n → is_final (log lay h) n ≡ false
  pub remains : (lay : Layout) (h : History) (t : Tree) (n : ℕ) → IsTrieRun lay h → WasInTree h n → is_leaf (value h) n ≡ false → is_final (log lay h) n ≡ false → IsTree (value h) t → Has t n
  -- one that is above all keys has the key 0
  pub blank : (lay : Layout) (h : History) (n : ℕ) → IsTrieRun lay h → WasInTree h n → IsBlankAboveKeys (value h) n
