-- How much is taken of the shares.
use Rattle.std.specs.Prelude.{◌≡◌, ◌↔◌, ℕ, ◌+◌, ◌*◌, ◌<◌, ◌≤◌, ◌==◌, Bool, false, List, length, slice_index_or, slice_set}
use Rattle.histories.specs.Common.{Layout, Word, Node, Scx, Kind, Fill, first_node, first_scx, History, IsOwnNode, IsOwnScx, IsTakenNode, IsTakenScx, taken_nodes, most_taken}
use Rattle.judge.specs.declared.taking.Taking.{Taking}

-- how many a pass has taken, by the list of these numbers
abbrev pub taken_by : List ℕ → ℕ → ℕ
taken_by taken c = slice_index_or taken c 0

-- the list with one more for the pass
abbrev pub one_more : List ℕ → ℕ → List ℕ
one_more taken c = slice_set taken c (taken_by taken c + 1)

-- whether a step of this kind on the word, by pass c, takes the next node of its share
abbrev pub takes_node : Layout → ℕ → Kind → Word → List ℕ → Bool
takes_node lay c Fill (Node n part) taken = n.0 == first_node lay c + taken_by taken c
takes_node lay c _ _ taken = false

-- whether it takes the next SCX-record of its share
abbrev pub takes_scx : Layout → ℕ → Kind → Word → List ℕ → Bool
takes_scx lay c Fill (Scx s part) taken = s.0 == first_scx lay c + taken_by taken c
takes_scx lay c _ _ taken = false

-- each pass has its numbers, and there is room for one more
pub record MayTake (lay : Layout) (t : Taking) (c : ℕ) : Type 0 where
  pub inside : c < lay.passes
  pub nodes_size : length t.nodes.items ≡ lay.passes
  pub scx_size : length t.scx.items ≡ lay.passes
  pub nodes_fit : taken_by t.nodes.items c ≤ lay.nodes
  pub scx_fit : taken_by t.scx.items c ≤ lay.scx
  pub all_fit : t.all_nodes ≤ most_taken lay

-- what is taken is remembered
pub record TakingStands (lay : Layout) (h : History) (t : Taking) : Type 0 where
  pub nodes_size : length t.nodes.items ≡ lay.passes
  pub scx_size : length t.scx.items ≡ lay.passes
  pub nodes_fit : (c : ℕ) → c < lay.passes → taken_by t.nodes.items c ≤ lay.nodes
  pub scx_fit : (c : ℕ) → c < lay.passes → taken_by t.scx.items c ≤ lay.scx
  pub nodes : (c n : ℕ) → c < lay.passes → IsOwnNode lay c n → IsTakenNode h n ↔ (n < first_node lay c + taken_by t.nodes.items c)
  pub scx_records : (c s : ℕ) → c < lay.passes → IsOwnScx lay c s → IsTakenScx h s ↔ (s < first_scx lay c + taken_by t.scx.items c)
  pub all : t.all_nodes ≡ length (taken_nodes h)
