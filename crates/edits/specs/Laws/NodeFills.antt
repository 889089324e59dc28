-- Fills of the pass's own nodes that nothing names: they are lawful, name nothing, and leave the
-- words of all other nodes.
use Rattle.std.proofs.Common.{◌≡◌, ◌≢◌, ℕ, false, refl}
use native.Mathlib.Decide.{ℕ_discrete}
use Rattle.histories.specs.Common.{Layout, Row, Step, Store, Fill, NodeWord, Child, Info, node, scx, info, child, same_node_word, History, ◌⊳◌}
use Rattle.histories.specs.Common.{value, IsOwnNode, IsNamed, opening_node, by_field, by_scx, IsNamedScx, MayFill, Lawful, IsRun, Call, row_of}
use Rattle.arena.proofs.Lemmas.{value_apart, held_back, node_apart, node_word_apart}
use Rattle.histories.proofs.Lemmas.{IsNodeFill, lawful_more, own_node_inside, shaped_more}

-- the fill of a word of a node
abbrev pub node_fill : ℕ → NodeWord → ℕ → Step
node_fill n part v = record { kind = Fill; word = node n part; access = Store v }

-- the fill continues the run
pub fill_lawful : (allows : Layout → History → ℕ → Type 0) (c : Call) (h : History) (n : ℕ) (part : NodeWord) (v : ℕ) (s : Step) → IsRun allows c.layout h → s ≡ node_fill n part v → IsOwnNode c.layout c.pass n → MayFill c.layout h c.pass (node n part) v → IsRun allows c.layout (row_of c s h ⊳ h)
fill_lawful allows c h n part v s run e own may = rw e record { lawful = x; shaped = shaped_more allows c.layout h (row_of c (node_fill n part v) h) x run.shaped (λ u f g. absurd (let z = g.kind in cc)) }
  where
    x : Lawful c.layout (row_of c (node_fill n part v) h ⊳ h)
    x = lawful_more c.layout h (row_of c (node_fill n part v) h) run.lawful record { before = refl; obeys = may; pass = c.is_pass; word = own_node_inside c.layout c.pass n c.is_pass own }

not_info : (part : NodeWord) → IsNodeFill part → same_node_word part Info ≡ false
not_info Info i = absurd i
not_info _ i = refl

module _ (lay : Layout) (h : History) (r : Row) (n : ℕ) (part : NodeWord) (word : r.word ≡ node n part) (fill : IsNodeFill part) (unnamed : ¬ IsNamed lay h n) where
  scx_before : (s : ℕ) → IsNamedScx (r ⊳ h) s → IsNamedScx h s
  scx_before s p = (p.0, held_back r h (info p.0) s (value_apart r h (node n part) (info p.0) word (node_word_apart n p.0 part Info (not_info part fill))) p.1)

  -- it names no node
  pub named_before : {k : ℕ} → IsNamed lay (r ⊳ h) k → IsNamed lay h k
  named_before {k} (opening_node i) = opening_node i
  named_before {k} (by_scx u q p i x) = by_scx u q (scx_before u p) i (held_back r h (scx u q) _ (value_apart r h (node n part) (scx u q) word refl) x)
  named_before {k} (by_field m side p x) = go (ℕ_discrete n m) (named_before p)
    where
      go : Dec (n ≡ m) → IsNamed lay h m → IsNamed lay h k
      go (yes e) q = absurd (unnamed (rw e q))
      go (no d) q = by_field m side q (held_back r h (child m side) _ (value_apart r h (node n part) (child m side) word (node_apart n m part (Child side) d)) x)

  -- it leaves the words of all others
  pub others_stay : (k : ℕ) (q : NodeWord) → n ≢ k → value (r ⊳ h) (node k q) ≡ value h (node k q)
  others_stay k q d = value_apart r h (node n part) (node k q) word (node_apart n k part q d)

  -- and the other words of its node
  pub same_stays : (q : NodeWord) → same_node_word part q ≡ false → value (r ⊳ h) (node n q) ≡ value h (node n q)
  same_stays q d = value_apart r h (node n part) (node n q) word (node_word_apart n n part q d)
