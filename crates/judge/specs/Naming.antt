-- What is named, as places that links lead to.
use Rattle.std.specs.Prelude.{◌≡◌, ℕ, zero, suc, ◌+◌, ◌*◌, ◌<◌, ◌≤◌, if◌then◌else◌, nat_lt, List, [], ◌∷◌, ◌++◌, length}
use Rattle.histories.specs.Common.{Layout, Child, Info, New, Old, Member, Word, Node, Scx, all_nodes, all_scx, opening_nodes, History, Opened, ◌⊳◌}
use Rattle.judge.specs.Graph.{IsGraph, links_of}
use Rattle.judge.specs.declared.naming.Naming.{Naming}

-- The places, if there are this many nodes: n itself for a node that is named, then one for each
-- node that a field of a named node has held, then one for each SCX-record that an info word has
-- named. Node 0 is named from the start.

-- the place of a node as one that such a field has held
abbrev pub shown_place : ℕ → ℕ → ℕ
shown_place nodes n = nodes + n

-- the place of an SCX-record
abbrev pub begun_place : ℕ → ℕ → ℕ
begun_place nodes s = 2 * nodes + s

-- where a word of SCX-record s holds v, that names v with s
abbrev pub scx_links : ℕ → ℕ → ℕ → List (ℕ × ℕ)
scx_links nodes s v = if nat_lt v nodes then (begun_place nodes s, v) ∷ [] else []

-- the links that are added if the word holds v, among this many nodes and SCX-records
abbrev pub word_links : ℕ → ℕ → Word → ℕ → List (ℕ × ℕ)
word_links nodes scxs (Node m (Child side)) v =
    if nat_lt v nodes then (m.0, shown_place nodes v) ∷ (m.0, v) ∷ []
    else []
word_links nodes scxs (Node m Info) v = if nat_lt v scxs then (0, begun_place nodes v) ∷ [] else []
word_links nodes scxs (Node m _) v = []
word_links nodes scxs (Scx s New) v = scx_links nodes s.0 v
word_links nodes scxs (Scx s Old) v = scx_links nodes s.0 v
word_links nodes scxs (Scx s (Member j)) v = scx_links nodes s.0 v
word_links nodes scxs (Scx s _) v = []

-- the links to the dummy and to this many nodes, which are there from the start
abbrev pub opening_links : ℕ → ℕ → List (ℕ × ℕ)
opening_links nodes zero = (0, 2 * nodes) ∷ []
opening_links nodes (suc k) = (0, nodes + k) ∷ (0, k) ∷ opening_links nodes k

-- the links of a history
unfoldable pub named_links : Layout → History → List (ℕ × ℕ)
named_links lay (Opened o) = opening_links (all_nodes lay) (opening_nodes lay)
named_links lay (r ⊳ h) = word_links (all_nodes lay) (all_scx lay) r.word r.after ++ named_links lay h

-- a graph of these places
pub record IsNaming (n : Naming) : Type 0 where
  pub graph : IsGraph n.graph
  pub size : length n.graph.reached.items ≡ 2 * n.nodes + n.scxs
  pub some_nodes : 0 < n.nodes
  pub few_nodes : n.nodes ≤ 238609294
  pub few_scxs : n.scxs ≤ 306783378

-- the word is one of these nodes or SCX-records
abbrev pub IsInside : Naming → Word → Type 0
IsInside n (Node m part) = m.0 < n.nodes
IsInside n (Scx s part) = s.0 < n.scxs

-- what is named after the history is what the links lead to
pub record NamingStands (lay : Layout) (h : History) (n : Naming) : Type 0 where
  pub naming : IsNaming n
  pub nodes : n.nodes ≡ all_nodes lay
  pub scxs : n.scxs ≡ all_scx lay
  pub links : links_of n.graph ≡ named_links lay h
