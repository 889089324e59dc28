-- What an edit of the tree says to the machine that makes it.
use Rattle.std.specs.Prelude.{◌≡◌, ℕ, suc, ◌<◌, ◌≤◌, Bool, true, false, List, [], ◌∷◌, ◌++◌, length, Option, Some}
use Rattle.arena.specs.declared.number.NodeNo.{NodeNo}
use Rattle.template.specs.Common.{Snap, MapEdit, Goal}
use Rattle.template.specs.declared.walk.Found.{Found}
use Rattle.template.specs.declared.walk.Way.{Way}
use Rattle.edits.specs.declared.edit.Look.{Look}
use Rattle.edits.specs.declared.edit.Look.TheVariants.{At}
use Rattle.edits.specs.declared.edit.Nodes.{Nodes}
use Rattle.edits.specs.declared.edit.Nth.{Nth}
use Rattle.edits.specs.declared.edit.Work.{Work}
use Rattle.edits.specs.declared.piece.Piece.{Piece}
use Rattle.edits.specs.declared.reading.Reading.{Reading}
use Rattle.edits.specs.Pieces.{all_fills}
use Rattle.edits.specs.Readings.{reads_left}

-- what an edit answers at each of its places
pub record EditMeaning (E : Type 0) : Type 0 where
  -- to which leaf it walks
  pub goal : E → Goal
  -- and where
  pub way : E → Way
  -- whether node 2 is its guard: it looks at that behind the load of the root's head, and covers it
  -- last
  pub guard : E → Bool
  -- the edit of the map that it makes at the leaf that was found
  pub edit : E → Found → MapEdit
  -- what there is to do at the leaf that was found
  pub work : E → Found → Work
  -- it needs at most so many fresh nodes, whatever leaf is found
  pub most_nodes : E → ℕ
  -- what it looks at next, with these snapshots
  pub looks : E → Found → List Snap → Look
  -- how many nodes at most, besides its guard
  pub most_looks : E → ℕ
  -- the node whose settled words it reads, if it reads any, and what is known of that before
  pub reads : E → Found → List Snap → Option (NodeNo × Reading)
  -- how many words at most
  pub most_reads : E → ℕ
  -- what the fresh node of this place is to hold, once that is read
  pub pieces : E → Found → List Snap → Nodes → Reading → Nth → Piece
  -- how many fills at most
  pub most_fills : E → ℕ

-- what an edit says that says what another one does: `of` is the other one
abbrev pub through : {E F : Type 0} → EditMeaning E → (F → E) → EditMeaning F
through m of = record {
  goal = λ e. m.goal (of e);
  way = λ e. m.way (of e);
  guard = λ e. m.guard (of e);
  edit = λ e f. m.edit (of e) f;
  work = λ e f. m.work (of e) f;
  most_nodes = λ e. m.most_nodes (of e);
  looks = λ e f snaps. m.looks (of e) f snaps;
  most_looks = λ e. m.most_looks (of e);
  reads = λ e f snaps. m.reads (of e) f snaps;
  most_reads = λ e. m.most_reads (of e);
  pieces = λ e f snaps ns read nth. m.pieces (of e) f snaps ns read nth;
  most_fills = λ e. m.most_fills (of e);
}

-- what an edit says at its own value
abbrev pub says : {E : Type 0} → EditMeaning E → E → EditMeaning (Unit {0})
says m e = through m (λ none. e)

-- how many nodes it looks at, with its guard, if it has one
abbrev pub all_looks : Bool → ℕ → ℕ
all_looks true n = suc n
all_looks false n = n

-- what its SCX covers: what it has looked at, and its guard behind that
abbrev pub covering : Bool → List Snap → Snap → List Snap
covering true snaps guard = snaps ++ guard ∷ []
covering false snaps guard = snaps

-- the bounds of an edit are right
pub record EditBounds {E : Type 0} (m : EditMeaning E) : Type 0 where
  pub few_looks : (e : E) (f : Found) (snaps : List Snap) (n : NodeNo) → m.looks e f snaps ≡ At n → length snaps < m.most_looks e
  pub small : (e : E) → all_looks (m.guard e) (m.most_looks e) ≤ 4
  pub few_nodes : (e : E) (f : Found) → (m.work e f).need ≤ m.most_nodes e
  pub some_nodes : (e : E) → 0 < m.most_nodes e
  pub few_reads : (e : E) (f : Found) (snaps : List Snap) (x : NodeNo × Reading) → m.reads e f snaps ≡ Some x → reads_left x.1 ≤ m.most_reads e
  pub few_fills : (e : E) (f : Found) (snaps : List Snap) (ns : Nodes) (read : Reading) → all_fills (m.work e f).need (m.pieces e f snaps ns read) ≤ m.most_fills e
