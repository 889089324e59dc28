-- The laws of an edit.
use Rattle.std.specs.Prelude.{◌≡◌, ◌⊎◌, ℕ, ◌<◌, true, List, Some}
use Rattle.histories.specs.Common.{NodeNo, ScxNo, Child, Side, IsInField, History, Call, Descriptor}
use Rattle.prims.specs.Laws.Idle.{IsQuietSince}
use Rattle.template.specs.Common.{IsUpdateOver, Job, Says, Snap, edit_key, IsMapRun, WasInTree, IsContended, WasNotFinal, asked_key, IsPromised, End}
use Rattle.template.specs.declared.walk.Found.{Found}
use Rattle.template.specs.declared.walk.Way.TheVariants.{InTrie}
use Rattle.edits.specs.declared.edit.Look.TheVariants.{At, Differs, Enough}
use Rattle.edits.specs.declared.edit.Nodes.{Nodes}
use Rattle.edits.specs.declared.edit.Nth.{Nth}
use Rattle.edits.specs.declared.reading.Reading.{Reading}
use Rattle.edits.specs.Edits.{EditMeaning, EditBounds, covering}
use Rattle.edits.specs.Known.{ComesBefore, CoversEnd, CoversLeaf, IsNeeded, HasLooked, HasFilledAll, MayRead}
use Rattle.edits.specs.Pieces.{is_filled, nth_node, update_for, word_of}

-- What an edit looks at has been in the tree, and was not final at a moment of the call. If a
-- snapshot differs from what the walk has found, what the edit names was in the way of a pass that
-- was idle. What an edit reads every pass may know, it is not the root, and what is known of it
-- before is right.
pub record LooksWell {E : Type 0} (m : EditMeaning E) : Type 0 where
  pub there : (e : E) (c : Call) (h : History) (f : Found) (snaps : List Snap) (n : NodeNo) → IsMapRun c.layout h → 0 < (m.work e f).need → HasLooked m c h e f snaps → m.looks e f snaps ≡ At n → WasInTree h n.0
  pub stood : (e : E) (c : Call) (h : History) (f : Found) (snaps : List Snap) (n : NodeNo) → IsMapRun c.layout h → 0 < (m.work e f).need → HasLooked m c h e f snaps → m.looks e f snaps ≡ At n → WasNotFinal c h n.0
  pub differs : (e : E) (c : Call) (h : History) (f : Found) (snaps : List Snap) (n : NodeNo) (s : ScxNo) → IsMapRun c.layout h → 0 < (m.work e f).need → HasLooked m c h e f snaps → m.looks e f snaps ≡ Differs n s → IsQuietSince c.layout c.pass c.start h → IsContended c h n.0 s.0
  pub reads : (e : E) (c : Call) (h : History) (f : Found) (snaps : List Snap) (x : NodeNo × Reading) → IsMapRun c.layout h → 0 < (m.work e f).need → HasLooked m c h e f snaps → m.looks e f snaps ≡ Enough → m.reads e f snaps ≡ Some x → MayRead c.layout h x.0.0 x.1

-- a field of its fresh nodes is to hold a fresh node of a place before, or a node that a field has
-- held
pub record FillsWell {E : Type 0} (m : EditMeaning E) : Type 0 where
  pub fields : (e : E) (c : Call) (h : History) (f : Found) (snaps : List Snap) (ns : Nodes) (read : Reading) (nth : Nth) (side : Side) → IsMapRun c.layout h → HasLooked m c h e f snaps → m.looks e f snaps ≡ Enough → IsNeeded (m.work e f).need nth → is_filled (m.pieces e f snaps ns read nth) (Child side) ≡ true
      → ((i : Nth) × ComesBefore i nth × (word_of (m.pieces e f snaps ns read nth) (Child side) ≡ (nth_node ns i).0)) ⊎ IsInField c.layout h (word_of (m.pieces e f snaps ns read nth) (Child side))

-- what is kept of its guard is of node 2, if it has one
abbrev pub IsOfTwo : {E : Type 0} → EditMeaning E → E → Snap → Type 0
IsOfTwo m e guard = m.guard e ≡ true → guard.node.0 ≡ 2

-- what an edit has to do its plan covers as it was looked at, and what it makes of that is its edit
pub record MakesWell {E : Type 0} (m : EditMeaning E) : Type 0 where
  pub over : (e : E) (c : Call) (h : History) (f : Found) (snaps : List Snap) (guard : Snap) (ns : Nodes) → IsMapRun c.layout h → 0 < (m.work e f).need → HasLooked m c h e f snaps → m.looks e f snaps ≡ Enough → IsOfTwo m e guard → IsUpdateOver (update_for (m.work e f) (covering (m.guard e) snaps guard) ns)
  -- and its leaf is the one that was found
  pub leaf : (e : E) (c : Call) (h : History) (f : Found) (snaps : List Snap) (guard : Snap) (ns : Nodes) (s : ℕ) → IsMapRun c.layout h → 0 < (m.work e f).need → HasLooked m c h e f snaps → m.looks e f snaps ≡ Enough → CoversLeaf m e f c h s (update_for (m.work e f) (covering (m.guard e) snaps guard) ns)
  -- and, if the edit has a guard, the child of a node that is covered
  pub ends : (e : E) (c : Call) (h : History) (f : Found) (snaps : List Snap) (guard : Snap) (ns : Nodes) (s : ℕ) → IsMapRun c.layout h → 0 < (m.work e f).need → HasLooked m c h e f snaps → m.looks e f snaps ≡ Enough → m.guard e ≡ true → CoversEnd f c h s (update_for (m.work e f) (covering (m.guard e) snaps guard) ns)
  pub promised : (e : E) (c : Call) (h : History) (f : Found) (snaps : List Snap) (guard : Snap) (ns : Nodes) (read : Reading) (j : Job) (d : Descriptor) → IsMapRun c.layout h → 0 < (m.work e f).need → HasFilledAll m c h e f snaps ns read → IsOfTwo m e guard → j.update ≡ update_for (m.work e f) (covering (m.guard e) snaps guard) ns → Says d j → IsPromised c.layout c.pass h j.scx.0 d (m.edit e f)

-- its edit is of the key whose value the leaf that was found answers
abbrev pub IsAtFound : {E : Type 0} → EditMeaning E → Type 0
IsAtFound {E} m = (e : E) (f : Found) → edit_key (m.edit e f) ≡ asked_key (m.goal e) f.key

-- at an end of a trie it has a guard
abbrev pub HasGuardAtEnd : {E : Type 0} → EditMeaning E → Type 0
HasGuardAtEnd {E} m = (e : E) (side : Side) → m.goal e ≡ End side → m.way e ≡ InTrie → m.guard e ≡ true

-- what the machine of an edit needs of it
pub record EditLaws {E : Type 0} (m : EditMeaning E) : Type 0 where
  pub at_found : IsAtFound m
  pub at_end : HasGuardAtEnd m
  pub bounds : EditBounds m
  pub looks : LooksWell m
  pub fills : FillsWell m
  pub makes : MakesWell m
