-- Which SCX-records may begin in a tree or a trie: each makes an edit of the map.
use Rattle.std.specs.Prelude.{◌≡◌, ◌≢◌, ℕ, ◌^◌, ◌<◌, true, false, if◌then◌else◌, ◌==◌, ◌⊎◌, None}
use Rattle.arena.specs.declared.limits.Mode.TheVariants.{Trie as TrieMode}
use Rattle.histories.specs.Common.{Side, Left, Right, Layout, info, child, History, value, plan, count, member, seen, new, old, scx_finalizes, IsNamed}
use Rattle.ordered_map.specs.OrderedMap.{MapEdit, edit_key, value_left}
use Rattle.ordered_map.specs.TreeWords.{is_leaf, toward, said}
use Rattle.ordered_map.specs.Edits.{IsLeafEdit, IsJoinBy, HasFieldsOf}
use Rattle.ordered_map.specs.Paths.{WasOnPath}
use Rattle.ordered_map.specs.TrieShape.{Stays, FitsTrie, IsTrieEdit}
use Rattle.ordered_map.specs.Planted.{IsPlanted}
pub use Rattle.ordered_map.specs.EditPlans.{leaf_plan, join_plan, leaf_place, sibling_place}

-- An edit of a leaf covers the parent and the leaf, and finalizes the leaf: the field of the parent
-- towards the key is to hold a fresh leaf, or a fresh fork over two fresh leaves. A delete finds
-- its key in the leaf.
pub record EditsLeaf (h : History) (s : ℕ) (e : MapEdit) : Type 0 where
  pub plan : plan h s ≡ leaf_plan (toward (value h) (member h s 0) (edit_key e))
  pub old : old h s ≡ member h s 1
  pub edit : IsLeafEdit (value h) e (member h s 1) (new h s)
  pub there : value_left e ≡ None → said (value h) (edit_key e) (member h s 1) ≢ None

-- What takes a leaf out, because the edit leaves it no pair, covers the grandparent, the parent and
-- its two children, and finalizes all but the first: the field of the grandparent towards the key
-- is to hold a copy of the leaf's sibling.
pub record TakesLeafOut (h : History) (s : ℕ) (e : MapEdit) (side : Side) : Type 0 where
  pub plan : plan h s ≡ join_plan (toward (value h) (member h s 0) (edit_key e))
  pub old : old h s ≡ member h s 1
  pub edit : IsJoinBy (value h) e (member h s 1) (member h s (leaf_place side)) (member h s (sibling_place side)) (new h s)
  pub fields : value h (info (member h s 1)) ≡ seen h s 1 → (value h (child (member h s 1) Left) ≡ member h s 2) × (value h (child (member h s 1) Right) ≡ member h s 3)
  pub copied : value h (info (member h s (sibling_place side))) ≡ seen h s (sibling_place side) → HasFieldsOf (value h) (new h s) (member h s (sibling_place side))

-- the SCX-record is about to make the edit: it edits a leaf, or takes one out, or does what begins
-- in a trie alone
abbrev pub IsEdit : Layout → History → ℕ → MapEdit → Type 0
IsEdit lay h s e = EditsLeaf h s e ⊎ (TakesLeafOut h s e (toward (value h) (member h s 1) (edit_key e)) ⊎ ((lay.mode ≡ TrieMode) × IsTrieEdit h s e))

-- The SCX-record may make the edit: below a fork that was on the search path of its key, and stays
-- there.
pub record MayEdit (lay : Layout) (h : History) (s : ℕ) (e : MapEdit) : Type 0 where
  pub small : edit_key e < 2 ^ 64
  pub path : WasOnPath h (edit_key e) (member h s 0)
  pub stays : Stays lay (value h) (edit_key e) (member h s 0)
  pub fork : is_leaf (value h) (member h s 0) ≡ false
  pub edit : IsEdit lay h s e
  pub fits : lay.mode ≡ TrieMode → FitsTrie (value h) (member h s 0) (toward (value h) (member h s 0) (edit_key e)) (new h s)
  -- the leaves below a new fork are fresh
  pub fresh : count h s ≡ 2 → is_leaf (value h) (new h s) ≡ false → (side : Side) → is_leaf (value h) (value h (child (new h s) side)) ≡ true → ¬ IsNamed lay h (value h (child (new h s) side))

-- the SCX-record may make some edit
abbrev pub MakesEdit : Layout → History → ℕ → Type 0
MakesEdit lay h s = (e : MapEdit) × MayEdit lay h s e

-- the shape of a map: each SCX-record that begins makes an edit, and what a table begins with is
-- planted
abbrev pub TreeAllows : Layout → History → ℕ → Type 0
TreeAllows lay h s = MakesEdit lay h s ⊎ IsPlanted lay h s

-- the leaf that is taken out, on this side of the second of four nodes: it is one of the last two,
-- or, where node 2 is the last, which is not finalized, what the second names there
abbrev pub leaf_out : History → ℕ → Side → ℕ
leaf_out h s side = if scx_finalizes h s 3 then member h s (leaf_place side) else value h (child (member h s 1) side)

-- the leaf where the key of an edit is, or would be: the second of two or three nodes, or that
-- which is taken out; node 2, which holds no pair, where a fork is put above a fork
abbrev pub edit_leaf : History → ℕ → MapEdit → ℕ
edit_leaf h s e = if count h s == 4 then leaf_out h s (toward (value h) (member h s 1) (edit_key e)) else member h s 1
