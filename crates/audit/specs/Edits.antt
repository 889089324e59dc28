-- Which edit of the map an SCX-record makes, and for which call.
use Rattle.std.specs.Prelude.{◌≡◌, ◌≢◌, ℕ, ◌^◌, ◌<◌, true, List, [], ◌∷◌, Option, Some, None, IsTrue, option_map, slice_get}
use Rattle.histories.specs.Common.{Layout, Row, Side, Word, node, first_key, History, ◌⊳◌, value, Extends, IsBegin}
use Rattle.record.specs.Common.{MapCall, MapEdit, Edit, edit_key, edit_to, leaves, pair, Pair, Goal, Key, End, class, is_leaf, said, toward, map_call}
use Rattle.ordered_map.specs.OrderedMap.{Insert, Delete, applies, end_pair}
use Rattle.ordered_map.specs.Paths.{IsOnPath, end_key}
use Rattle.ordered_map.specs.Spelled.{IsTree}
use Rattle.ordered_map.specs.TreeShape.{MayEdit, edit_leaf}
use Rattle.ordered_map.specs.TreeWords.{Tree, leaf_pairs}
use Rattle.judge.specs.declared.judge.Judge.{Judge}
use Rattle.judge.specs.Histories.{seen_history}
use Rattle.audit.specs.declared.edits.BegunEdit.{BegunEdit}

-- what each word is after the rows that the judge has seen
abbrev pub word_now : Judge → Word → ℕ
word_now judge = value (seen_history judge)

-- the words show a tree
abbrev pub ShowsTree : History → Type 0
ShowsTree h = (t : Tree) × IsTree (value h) t

-- the edit that is remembered
abbrev pub edit_begun : BegunEdit → MapEdit
edit_begun begun = edit_to begun.key begun.value

-- the key of the pair at a place, if there is one
abbrev pub key_in : List (ℕ × ℕ) → ℕ → Option ℕ
key_in ps at = option_map (λ p. p.0) (slice_get ps at)

-- a pair of this key, if there is one, stays in front of the edit
abbrev pub IsInFront : MapEdit → Option ℕ → Type 0
IsInFront e None = ⊥
IsInFront (Insert k v) (Some key) = key < k
IsInFront (Delete k) (Some key) = key ≢ k

-- the keys of these pairs are words, and all are on this side of the fork n
abbrev pub AreToward : (Word → ℕ) → ℕ → Side → List Pair → Type 0
AreToward f n side [] = Unit {0}
AreToward f n side (p ∷ ps) = (p.key < 2 ^ 64) × (toward f n p.key ≡ side) × AreToward f n side ps

-- the call may make this edit: at its key; or, of the pair at an end, one that takes out some key
abbrev pub IsEditBy : Option MapCall → MapEdit → Type 0
IsEditBy (Some (Edit (Key key) rule)) edit = edit ≡ edit_to key (leaves rule)
IsEditBy (Some (Edit (End side) rule)) edit = (key : ℕ) × (edit ≡ Delete key) × (leaves rule ≡ None)
IsEditBy _ edit = ⊥

-- n is the leaf at this end of the tree, and this is its key there
pub record IsEndLeaf (side : Side) (h : History) (n key : ℕ) : Type 0 where
  pub path : IsOnPath h (end_key side) n
  pub leaf : is_leaf (value h) n ≡ true
  pub there : (v : ℕ) × (end_pair side (leaf_pairs (value h) n) ≡ Some (pair key v))

-- it is where a call with this goal goes
abbrev pub IsLeafFor : Goal → History → ℕ → ℕ → Type 0
IsLeafFor (Key k) h n key = Unit {0}
IsLeafFor (End side) h n key = IsEndLeaf side h n key

-- the leaf that the SCX-record covers for its edit fits the call, which changes what that says
abbrev pub Suits : Option MapCall → History → ℕ → MapEdit → Type 0
Suits (Some (Edit goal rule)) h s edit = IsTrue (applies rule (said (value h) (edit_key edit) (edit_leaf h s edit))) × IsLeafFor goal h (edit_leaf h s edit) (edit_key edit)
Suits _ h s edit = Unit {0}

-- so does that of an SCX-record that has begun, as it is remembered
abbrev pub IsSuited : History → ℕ → BegunEdit → Type 0
IsSuited h s begun = Suits (map_call (Some begun.command)) h s (edit_begun begun)

-- the SCX-record may make the edit that is remembered, which is one of its call
pub record MayMakeEdit (lay : Layout) (h : History) (s : ℕ) (begun : BegunEdit) : Type 0 where
  pub edit : MayEdit lay h s (edit_begun begun)
  pub own : IsEditBy (map_call (Some begun.command)) (edit_begun begun)

-- it has begun with it
pub record HasBegunWith (lay : Layout) (h : History) (s : ℕ) (begun : BegunEdit) : Type 0 where
  pub row : Row
  pub before : History
  pub within : Extends h (row ⊳ before)
  pub begins : IsBegin before row s
  pub makes : MayMakeEdit lay before s begun

-- of each SCX-record, if an edit is remembered of it, that is the one with which it has begun
abbrev pub AreRememberedEdits : Layout → History → List (Option BegunEdit) → Type 0
AreRememberedEdits lay h edits = (s : ℕ) (begun : BegunEdit) → slice_get edits s ≡ Some (Some begun) → HasBegunWith lay h s begun
