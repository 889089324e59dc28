-- When an update may continue, and what it waits for.
use Rattle.std.specs.Prelude.{◌≡◌, ◌≢◌, ℕ, suc, ◌+◌, ◌-◌, ◌^◌, ◌<◌, ◌≤◌, ◌⊎◌, ◌==◌, if◌then◌else◌, min, true, false, List, ◌∷◌, length, take, Option, Some, None}
use Rattle.histories.specs.Common.{Full, Resource, Nodes as FreshNodes, Layout, Turn, Row, Step, LoadSettled, NodeWord, Settled, SettledPart, NodeNo, IsNamed, IsOwnNode}
use Rattle.histories.specs.Common.{Head, IsMember, IsNamedScx, child, IsOwnScx, IsTakenNode, History, ◌⊳◌, value, Extends, IsWin, all_nodes, Entry, log, Call, MatchTurn, begun_at, Remaining, node}
use Rattle.arena.specs.declared.fault.Resource.TheVariants.{Scx as ScxRecords}
use Rattle.template.specs.Common.{HasFoundThere, load, IsSnapshot, LlxIsReady, LlxWaits, AreFinished, ScxIsReady, ScxWaits, job_of, IsShare, snap_at, LlxRun}
use Rattle.template.specs.Common.{ScxRun, Snap, Update, MapEdit, edit_key, end_pair, get, IsMapRun, Makes, Spells, TreeAllows, edit_leaf, Pair, path_key, end_told, WasInTree}
use Rattle.template.specs.Common.{FoundBy, MayGo, IsFresh, Tracks, WalkIsReady, WalkWaits, Goal, Key as ToKey, End, IsOwnMoment, IsPastRoot, IsContended, HasLostTriesTo, HasTriedAllBut}
use Rattle.prims.specs.Laws.Idle.{IsQuietSince}
use Rattle.ordered_map.specs.Runs.{IsEditAt}
use Rattle.template.specs.declared.walk.Found.{Found}
use Rattle.template.specs.declared.walk.Way.{Way}
use Rattle.template.specs.declared.walk.WalkAt.{WalkAt}
use Rattle.template.specs.declared.walk.WalkAt.TheVariants.{Root}
use Rattle.template.specs.declared.walk.WalkRun.{WalkRun}
use Rattle.edits.specs.declared.edit.Look.{Look as LookOf}
use Rattle.edits.specs.declared.edit.Look.TheVariants.{At, Enough}
use Rattle.edits.specs.declared.edit.Nodes.{Nodes}
use Rattle.edits.specs.declared.edit.Nth.{Nth}
use Rattle.edits.specs.declared.edit.Nth.TheVariants.{First, Second, Third}
use Rattle.edits.specs.declared.piece.Piece.{Piece}
use Rattle.edits.specs.declared.reading.Reading.{Reading}
use Rattle.edits.specs.declared.update.Updated.{Updated}
use Rattle.edits.specs.declared.update.Updated.TheVariants.{Done, Contended, Full as FullAnswer}
use Rattle.edits.specs.declared.update.UpdateAt.{UpdateAt}
use Rattle.edits.specs.declared.update.UpdateAt.TheVariants.{Start, Walk, Guard, Look, Read, Fill, Scx}
use Rattle.edits.specs.declared.update.UpdateRun.{UpdateRun}
use Rattle.edits.specs.Edits.{EditMeaning, says}
use Rattle.edits.specs.Laws.Hand.{HasFilledTo, IsForField, FieldMay}
use Rattle.edits.specs.Laws.NodeFills.{node_fill}
use Rattle.edits.specs.Laws.PieceFills.{IsUnfilled, HoldsWords, HoldsBefore, HoldsUpTo}
use Rattle.edits.specs.Pieces.{is_filled, nth_no, nth_node, top_of, word_of}
use Rattle.edits.specs.Readings.{IsRead, next_read}
use Rattle.edits.specs.Tries.{HasEnteredOnly, HasEnteredNone, HasFilledNone, HasOnlyLooked, MayTry, IsTry, IsTryAt, CoversSnaps}

-- a node of the table other than the root
abbrev pub IsBelowRoot : Layout → ℕ → Type 0
IsBelowRoot lay n = (n ≢ 0) × (n < all_nodes lay)

-- Between its SCXs

-- what is left of its share is untouched, and all its SCX-records are finished
pub record RestsWith (c : Call) (h : History) (left : Remaining) : Type 0 where
  pub share : IsShare c.layout h c.pass left left.next_node left.next_scx
  pub over : AreFinished c.layout c.pass 0 h

-- nothing of the share was taken since the call began; or another pass was in the way
abbrev pub IsUntouched : Call → History → Remaining → Type 0
IsUntouched c h left = RestsWith c c.start left ⊎ ((n : ℕ) × (s : ℕ) × IsContended c h n s)

-- some nodes are needed, and the share has as many, and an SCX-record
pub record HasNodesFor (need : ℕ) (left : Remaining) : Type 0 where
  pub some : 0 < need
  pub nodes : need ≤ left.nodes
  pub scx : 0 < left.scx

-- the share has fewer nodes than are needed; or enough, and no SCX-record. This many are left
abbrev pub IsShort : ℕ → Remaining → Resource → ℕ → Type 0
IsShort need left FreshNodes k = (left.nodes < need) × (k ≡ left.nodes)
IsShort need left ScxRecords k = (need ≤ left.nodes) × (left.scx ≡ 0) × (k ≡ 0)

-- What it has found

-- the node that stands for what was found where an edit covers it: the leaf, or, where that is a
-- fork, node 2
abbrev pub covered : Found → ℕ
covered f = if f.head.leaf then f.trail.node.0 else 2

-- the snapshot was right at a moment of the call, by which that had found this leaf, to which its
-- walk was to go, and the snapshot's SCX-record in the node's info; the node had been in the tree
pub record HasSnappedAfterWalk (c : Call) (h : History) (way : Way) (goal : Goal) (f : Found) (snap : Snap) : Type 0 where
  pub moment : History
  pub within : Extends h moment
  pub since : Extends moment c.start
  pub found : FoundBy way goal c moment f
  pub stood : WasInTree moment snap.node.0
  pub is : IsSnapshot c.layout moment snap.node.0 snap
  pub met : HasFoundThere c.pass moment c.start snap.node.0 snap.scx.0

-- the snapshot was right at a moment of the call, whatever it had found by then
pub record HasSnappedInCall (c : Call) (h : History) (snap : Snap) : Type 0 where
  pub moment : History
  pub within : Extends h moment
  pub since : Extends moment c.start
  pub stood : WasInTree moment snap.node.0
  pub is : IsSnapshot c.layout moment snap.node.0 snap
  pub met : HasFoundThere c.pass moment c.start snap.node.0 snap.scx.0

abbrev pub AreSnappedInCall : Call → History → List Snap → Type 0
AreSnappedInCall c h snaps = (i : ℕ) → i < length snaps → HasSnappedInCall c h (snap_at snaps i)

-- right behind the moment g this was the snapshot of node 2
pub record IsGuardSnap (c : Call) (h g : History) (snap : Snap) : Type 0 where
  pub row : Row
  pub within : Extends h (row ⊳ g)
  pub since : Extends g c.start
  pub is : IsSnapshot c.layout (row ⊳ g) 2 snap
  pub met : HasFoundThere c.pass (row ⊳ g) c.start 2 snap.scx.0

-- Of an edit with a guard: that is kept, and this is so of the call from then on
abbrev pub Guarded : {E : Type 0} → EditMeaning E → E → Call → History → Snap → (Call → Type 0) → Type 0
Guarded e ed c h snap P = e.guard ed ≡ true → (g : History) × IsGuardSnap c h g snap × P (begun_at c g)

-- the snapshot of its guard is among those of this update, and what was found is so of the call
-- from then on
pub record HasGuard (c : Call) (h : History) (way : Way) (goal : Goal) (f : Found) (u : Update) : Type 0 where
  pub place : ℕ
  pub within : place < length u.snaps
  pub moment : History
  pub kept : IsGuardSnap c h moment (snap_at u.snaps place)
  pub found : FoundBy way goal (begun_at c moment) h f

-- whenever the SCX-record s wins later that makes this update, it covers the parent of the leaf
-- that was found, which is still its child
abbrev pub CoversEnd : Found → Call → History → ℕ → Update → Type 0
CoversEnd f c begin s u = (k : History) (row : Row) → IsMapRun c.layout (row ⊳ k) → IsWin k row s → Extends k begin → CoversSnaps k s u → IsMember k s f.trail.parent.0 × (value k (child f.trail.parent.0 f.trail.side) ≡ f.trail.node.0)

-- each of these snapshots was, and so it may be used
abbrev pub AreUsable : Call → History → Way → Goal → Found → List Snap → Type 0
AreUsable c h way goal f snaps = (i : ℕ) → i < length snaps → HasSnappedAfterWalk c h way goal f (snap_at snaps i)

-- what is read of this node is what it holds; every pass may know it, and it is not the root
pub record MayRead (lay : Layout) (h : History) (n : ℕ) (read : Reading) : Type 0 where
  pub named : IsNamed lay h n
  pub inside : IsBelowRoot lay n
  pub is : IsRead (value h) n read

-- so it is with the node that is to be read, if one is
abbrev pub MayReadAt : Layout → History → Option (NodeNo × Reading) → Reading → Type 0
MayReadAt lay h None read = Unit {0}
MayReadAt lay h (Some x) read = MayRead lay h x.0.0 read

-- and it is read to the end
abbrev pub IsReadWhole : Option (NodeNo × Reading) → Reading → Type 0
IsReadWhole None read = Unit {0}
IsReadWhole (Some x) read = next_read read ≡ None

-- Its fresh nodes

-- this fresh node comes before that one
abbrev pub ComesBefore : Nth → Nth → Type 0
ComesBefore i nth = nth_no i < nth_no nth

-- this one is needed
abbrev pub IsNeeded : ℕ → Nth → Type 0
IsNeeded need nth = nth_no nth < need

-- those that are needed have numbers one after the other
abbrev pub StandInRow : ℕ → Nodes → Type 0
StandInRow need ns = (nth : Nth) → IsNeeded need nth → (nth_node ns nth).0 ≡ ns.first.0 + nth_no nth

-- what is left once so many nodes are taken
abbrev pub without : Remaining → ℕ → Remaining
without left many = record left { next_node = left.next_node + many; nodes = left.nodes - many }

-- as many as are needed, three at most, were taken out of the share, the next ones
pub record HasTakenNodes (need : ℕ) (left now : Remaining) (ns : Nodes) : Type 0 where
  pub first : ns.first.0 ≡ left.next_node
  pub in_order : StandInRow need ns
  pub share : now ≡ without left (min need 3)

-- what the edit says of them, by their numbers
abbrev pub pieces_by : (Nth → Piece) → Nodes → ℕ → Piece
pieces_by p ns n =
    if n == ns.first.0 then p First
    else (if n == ns.second.0 then p Second else p Third)

-- this node is fresh, and holds what the piece says
pub record HoldsPiece (c : Call) (h : History) (n : ℕ) (p : Piece) : Type 0 where
  pub fresh : IsFresh c.layout c.pass h n
  pub words : HoldsWords h n p

-- What it makes

-- The call of this number has made its edit. Its pass has just one entry since the call began.
-- Just before that the map had `old` at the key; just after it, the map is what the edit leaves.
pub record HasMade (edit : MapEdit) (c : Call) (h : History) (number : ℕ) (old : Option ℕ) : Type 0 where
  pub scx : ℕ
  pub own : IsOwnScx c.layout c.pass scx
  pub once : HasEnteredOnly c.layout c.pass scx h c.start
  -- the row that made it
  pub row : Row
  pub before : History
  pub within : Extends h (row ⊳ before)
  pub since : Extends before c.start
  pub wins : IsWin before row scx
  pub edits : IsEditAt c.layout before row scx edit
  pub told : (map : List Pair) → Spells c.layout (value before) map → get (edit_key edit) map ≡ old
  -- its entry
  pub entry : Entry
  pub logged : log c.layout (row ⊳ before) ≡ entry ∷ log c.layout before
  pub of_scx : entry.scx ≡ scx
  pub owner : entry.owner ≡ c.pass
  pub call : entry.call ≡ number

-- a walk to an end answered the pair at that end of the map of this moment
abbrev pub ToldEnd : Goal → Layout → History → Found → Type 0
ToldEnd (ToKey k) lay moment f = Unit {0}
ToldEnd (End side) lay moment f = (map : List Pair) → Spells lay (value moment) map → end_pair side map ≡ end_told f

-- what an update answers that is done at this leaf
abbrev pub done_at : Found → Updated
done_at f = Done f.key f.value

-- each snapshot is of the node that an edit's looks name after those before it
abbrev pub AreSeen : (Found → List Snap → LookOf) → Found → List Snap → Type 0
AreSeen looks f snaps = (i : ℕ) → i < length snaps → looks f (take i snaps) ≡ At (snap_at snaps i).node

-- what is known of the leaf, to which the edit's walk was to go, and of the snapshots
pub record HasLookedBy (looks : Found → List Snap → LookOf) (c : Call) (h : History) (way : Way) (goal : Goal) (f : Found) (snaps : List Snap) : Type 0 where
  pub small : path_key goal < 2 ^ 64
  pub may : MayGo c.layout way goal
  pub found : FoundBy way goal c h f
  pub usable : AreUsable c h way goal f snaps
  pub seen : AreSeen looks f snaps

-- this fresh node is one of those up to the last
pub record IsInHand (ns : Nodes) (last : ℕ) (nth : Nth) : Type 0 where
  pub lowest : ns.first.0 ≤ (nth_node ns nth).0
  pub highest : (nth_node ns nth).0 ≤ last

-- the last fresh node
abbrev pub top : {E A : Type 0} → UpdateRun E A → ℕ
top m = top_of m.work.need m.nodes

module _ {E : Type 0} (e : EditMeaning E) where
  -- whenever the SCX-record s wins later that makes the edit by this update, the leaf of the edit
  -- is what stands for the one that was found
  abbrev pub CoversLeaf : E → Found → Call → History → ℕ → Update → Type 0
  CoversLeaf ed f c begin s u = (k : History) (row : Row) → IsMapRun c.layout (row ⊳ k) → IsWin k row s → Extends k begin → CoversSnaps k s u → Makes c.layout k s (e.edit ed f) → edit_leaf k s (e.edit ed f) ≡ covered f

  -- what each fresh node is to hold
  abbrev pub piece : {A : Type 0} → UpdateRun E A → Found → ℕ → Piece
  piece m f n = pieces_by (λ nth. e.pieces m.edit f m.snaps.items m.nodes m.read nth) m.nodes n

  -- those before it are full
  abbrev pub AreFull : {A : Type 0} → UpdateRun E A → Call → History → Found → Nth → Type 0
  AreFull m c h f nth = HasFilledTo c.layout h c.pass m.share m.nodes.first.0 (top m) (nth_node m.nodes nth).0 (piece m f)

  -- nothing of it is filled
  abbrev pub IsBlankHere : {A : Type 0} → UpdateRun E A → History → Nth → Type 0
  IsBlankHere m h nth = IsUnfilled h (nth_node m.nodes nth).0

  -- what it is to hold
  abbrev pub piece_here : {A : Type 0} → UpdateRun E A → Found → Nth → Piece
  piece_here m f nth = piece m f (nth_node m.nodes nth).0

  -- what is read is right, of the node that is to be read, if one is
  abbrev pub HasRead : {A : Type 0} → UpdateRun E A → Call → History → Found → Type 0
  HasRead m c h f = MayReadAt c.layout h (e.reads m.edit f m.snaps.items) m.read

-- What is known of an edit and of its update. It depends on what the edit says at its own value and
-- on what the update has, not on the edit's type: so it is the same of two that say the same.
module _ (e : EditMeaning (Unit {0})) where
  -- all is looked at, all is read, and its fresh nodes hold what they are to
  pub record HasFilledAs (c : Call) (h : History) (f : Found) (snaps : List Snap) (ns : Nodes) (read : Reading) : Type 0 where
    pub looked : HasLookedBy (e.looks tt) c h (e.way tt) (e.goal tt) f snaps
    pub enough : e.looks tt f snaps ≡ Enough
    pub in_order : StandInRow (e.work tt f).need ns
    pub right : MayReadAt c.layout h (e.reads tt f snaps) read
    pub whole : IsReadWhole (e.reads tt f snaps) read
    pub holds : (i : Nth) → IsNeeded (e.work tt f).need i → HoldsPiece c h (nth_node ns i).0 (e.pieces tt f snaps ns read i)

  module _ (m : UpdateRun (Unit {0}) (Unit {0})) where
    -- all is looked at, and this fresh node is needed
    pub record WorksAs (c : Call) (h : History) (f : Found) (nth : Nth) : Type 0 where
      pub run : IsMapRun c.layout h
      pub since : Extends h c.start
      pub quiet : IsQuietSince c.layout c.pass c.start h
      pub looked : HasLookedBy (e.looks tt) c h (e.way tt) (e.goal tt) f m.snaps.items
      pub enough : e.looks tt f m.snaps.items ≡ Enough
      pub asked : m.work ≡ e.work tt f
      pub need : IsNeeded m.work.need nth
      pub in_order : StandInRow m.work.need m.nodes
      pub some : 0 < m.share.scx
      pub guarded : Guarded e tt c h m.guard (λ k. FoundBy (e.way tt) (e.goal tt) k h f)
      -- none of its fresh nodes was taken as the call began
      pub untaken : (i : Nth) → IsNeeded m.work.need i → ¬ IsTakenNode c.start (nth_node m.nodes i).0

    -- a step of the LLX of its guard, which has begun at a moment of the call; the walk is still at
    -- the root, whose head is this
    pub record GuardsAs (c : Call) (h : History) (walk : WalkRun) (head : ℕ) (llx : LlxRun) (begin : History) : Type 0 where
      pub run : IsMapRun c.layout h
      pub small : path_key (e.goal tt) < 2 ^ 64
      pub may : MayGo c.layout (e.way tt) (e.goal tt)
      pub rests : RestsWith c h m.share
      pub quiet : IsQuietSince c.layout c.pass c.start h
      pub none_filled : HasFilledNone c.pass h c.start
      pub same : walk.goal ≡ e.goal tt
      pub same_way : walk.way ≡ e.way tt
      pub asked : e.guard tt ≡ true
      pub at : walk.at ≡ Root
      pub root : walk.trail.node.0 ≡ 0
      pub told : value h (node 0 (Settled Head)) ≡ head
      pub is_two : llx.node.0 ≡ 2
      pub now : Extends h c.start
      pub since : Extends begin c.start

    -- a step of an LLX, which has begun at a moment of the call
    pub record LooksAs (c : Call) (h : History) (f : Found) (llx : LlxRun) (begin : History) : Type 0 where
      pub run : IsMapRun c.layout h
      pub looked : HasLookedBy (e.looks tt) c h (e.way tt) (e.goal tt) f m.snaps.items
      pub rests : RestsWith c h m.share
      pub asked : m.work ≡ e.work tt f
      pub room : HasNodesFor m.work.need m.share
      pub named : e.looks tt f m.snaps.items ≡ At llx.node
      pub now : Extends h c.start
      pub quiet : IsQuietSince c.layout c.pass c.start h
      pub since : Extends begin c.start
      pub guarded : Guarded e tt c h m.guard (λ k. FoundBy (e.way tt) (e.goal tt) k h f)

    -- the load of a word of the node that is read
    pub record ReadsAs (c : Call) (h : History) (f : Found) (node : NodeNo) (part : SettledPart) : Type 0 where
      pub works : WorksAs c h f First
      pub full : AreFull e m c h f First
      pub hand : IsInHand m.nodes (top m) First
      pub blank : IsBlankHere e m h First
      pub from : Reading
      pub is : e.reads tt f m.snaps.items ≡ Some (node, from)
      pub read : MayRead c.layout h node.0 m.read
      pub next : next_read m.read ≡ Some part

    -- the fill of a word of it, with what the piece says
    pub record FillsAs (c : Call) (h : History) (f : Found) (nth : Nth) (part : NodeWord) : Type 0 where
      pub works : WorksAs c h f nth
      pub full : AreFull e m c h f nth
      pub hand : IsInHand m.nodes (top m) nth
      pub read : HasRead e m c h f
      pub whole : IsReadWhole (e.reads tt f m.snaps.items) m.read
      pub part_is : is_filled (piece_here e m f nth) part ≡ true

    -- a step of its SCX, which has the fresh nodes and an SCX-record in hand
    pub record ScxsAs (c : Call) (h : History) (f : Found) (scx : ScxRun) (begin : History) : Type 0 where
      pub run : IsMapRun c.layout h
      pub small : path_key (e.goal tt) < 2 ^ 64
      pub may : MayGo c.layout (e.way tt) (e.goal tt)
      pub now : Extends h c.start
      pub since : Extends begin c.start
      pub share : IsShare c.layout h c.pass m.share m.share.next_node scx.scx.0
      pub next_node : m.share.next_node ≡ suc scx.update.fresh.0
      pub next_scx : m.share.next_scx ≡ suc scx.scx.0
      pub call : scx.call ≡ m.call
      pub own : IsOwnNode c.layout c.pass scx.update.fresh.0
      pub own_scx : IsOwnScx c.layout c.pass scx.scx.0
      pub over : AreFinished c.layout c.pass scx.scx.0 h
      -- what it puts in was not taken as the call began
      pub untaken : ¬ IsTakenNode c.start scx.update.fresh.0
      -- it makes the edit, if it makes any, and no other of the pass has won since the try began
      pub tracks : Tracks c.layout c.pass h (job_of scx) (e.edit tt f)
      pub only : HasEnteredOnly c.layout c.pass scx.scx.0 h c.start
      -- as it began the leaf was found, at which there is something to make, the snapshots could be
      -- used, and it covers that leaf
      pub found : FoundBy (e.way tt) (e.goal tt) c begin f
      pub need : 0 < (e.work tt f).need
      pub usable : AreSnappedInCall c begin scx.update.snaps
      pub quiet : IsQuietSince c.layout c.pass c.start begin
      pub leaf : CoversLeaf e tt f c begin scx.scx.0 scx.update
      -- the SCX-record had no name then, and if the edit has a guard, it covers that and the leaf's
      -- parent
      pub unnamed : ¬ IsNamedScx begin scx.scx.0
      pub guard : e.guard tt ≡ true → HasGuard c begin (e.way tt) (e.goal tt) f scx.update
      pub ends : e.guard tt ≡ true → CoversEnd f c begin scx.scx.0 scx.update

    -- the walk goes where the edit's is to go, the pass is at rest, and has filled nothing since
    -- the walk's start
    pub record WalksAs (c : Call) (h : History) (way : Way) (goal : Goal) : Type 0 where
      pub small : path_key (e.goal tt) < 2 ^ 64
      pub may : MayGo c.layout (e.way tt) (e.goal tt)
      pub rests : RestsWith c h m.share
      pub quiet : IsQuietSince c.layout c.pass c.start h
      pub none_filled : HasFilledNone c.pass h c.start
      pub same : goal ≡ e.goal tt
      pub same_way : way ≡ e.way tt

    -- it may begin a try
    pub record BeginsAs (c : Call) (h : History) : Type 0 where
      pub run : IsMapRun c.layout h
      pub small : path_key (e.goal tt) < 2 ^ 64
      pub may : MayGo c.layout (e.way tt) (e.goal tt)
      pub since : Extends h c.start
      pub rests : RestsWith c h m.share

  -- What it answers

  -- there was nothing to make at the leaf that it answers, which it has found; the pass has entered
  -- nothing, and has only looked in its newest try
  pub record HasNothingToMake (c : Call) (h : History) (found : Found) : Type 0 where
    pub has_found : FoundBy (e.way tt) (e.goal tt) c h found
    pub needless : (e.work tt found).need ≡ 0
    pub none : HasEnteredNone c.layout c.pass h c.start
    pub only_looked : HasOnlyLooked c.pass h c.start

  -- The share has too little left for the edit at the leaf that was found in the newest try, in
  -- which the pass has only looked. Nothing of the share was taken since the call began, or another
  -- pass was in the way. The pass has entered nothing.
  pub record IsFullFor (left : Remaining) (c : Call) (h : History) (full : Full) : Type 0 where
    pub only_looked : HasOnlyLooked c.pass h c.start
    pub found : Found
    pub has_found : FoundBy (e.way tt) (e.goal tt) (begun_at c only_looked.begin) h found
    pub needed : 0 < (e.work tt found).need
    pub short : IsShort (e.work tt found).need left full.what full.left
    pub first : IsUntouched c h left
    pub none : HasEnteredNone c.layout c.pass h c.start

  -- at a moment of the call it had found this leaf, at which there was something to make
  pub record WasNeeded (c : Call) (h : History) (found : Found) : Type 0 where
    pub moment : History
    pub within : Extends h moment
    pub has_found : FoundBy (e.way tt) (e.goal tt) c moment found
    pub needed : 0 < (e.work tt found).need

  -- All tries of the call, `limit` of them, were lost, the newest to the SCX-record s over the node
  -- n; in it the call has found a leaf at which there was something to make, unless it has a guard,
  -- to whose look it may be lost before. The pass has entered nothing.
  pub record HasLostEveryTry (c : Call) (h : History) (limit n s : ℕ) : Type 0 where
    pub way : IsContended c h n s
    pub none : HasEnteredNone c.layout c.pass h c.start
    pub all : HasLostTriesTo c.pass h c.start limit n s
    pub needed : e.guard tt ≡ false → (found : Found) × WasNeeded (begun_at c all.lost.begin) h found

  -- There was nothing to make at this leaf, or the edit is made there. If the walk goes to an end,
  -- the leaf has the pair at that end of the map just before the entry.
  abbrev pub IsDoneAt : ℕ → Call → History → Found → Type 0
  IsDoneAt number c h found = HasNothingToMake c h found
      ⊎ ((made : HasMade (e.edit tt found) c h number found.value) × WasNeeded c h found × ToldEnd (e.goal tt) c.layout made.before found)

  -- so it is at a leaf of this key, which had this value
  pub record IsDoneWith (number : ℕ) (c : Call) (h : History) (key : ℕ) (value : Option ℕ) : Type 0 where
    pub found : Found
    pub is_key : found.key ≡ key
    pub is_value : found.value ≡ value
    pub is_done : IsDoneAt number c h found

-- Of an edit of some type

-- what an update has, whatever the type of its edit is, and whatever its place
abbrev pub bare : {E A : Type 0} → UpdateRun E A → UpdateRun (Unit {0}) (Unit {0})
bare m = record { edit = tt; share = m.share; work = m.work; guard = m.guard; snaps = m.snaps; nodes = m.nodes; read = m.read; tries = 0; limit = 0; call = m.call; at = tt }

module _ {E : Type 0} (e : EditMeaning E) where
  -- each of these is known of it, or of its update, as it is above of one that says the same
  abbrev pub HasLooked : Call → History → E → Found → List Snap → Type 0
  HasLooked c h ed f snaps = HasLookedBy (e.looks ed) c h (e.way ed) (e.goal ed) f snaps

  abbrev pub HasFilledAll : Call → History → E → Found → List Snap → Nodes → Reading → Type 0
  HasFilledAll c h ed f snaps ns read = HasFilledAs (says e ed) c h f snaps ns read

  abbrev pub WorksAtNode : {A : Type 0} → UpdateRun E A → Call → History → Found → Nth → Type 0
  WorksAtNode m c h f nth = WorksAs (says e m.edit) (bare m) c h f nth

  abbrev pub Guards : {A : Type 0} → UpdateRun E A → Call → History → WalkRun → ℕ → LlxRun → History → Type 0
  Guards m c h walk head llx begin = GuardsAs (says e m.edit) (bare m) c h walk head llx begin

  abbrev pub Looks : {A : Type 0} → UpdateRun E A → Call → History → Found → LlxRun → History → Type 0
  Looks m c h f llx begin = LooksAs (says e m.edit) (bare m) c h f llx begin

  abbrev pub Reads : {A : Type 0} → UpdateRun E A → Call → History → Found → NodeNo → SettledPart → Type 0
  Reads m c h f node part = ReadsAs (says e m.edit) (bare m) c h f node part

  abbrev pub FillsPiece : {A : Type 0} → UpdateRun E A → Call → History → Found → Nth → NodeWord → Type 0
  FillsPiece m c h f nth part = FillsAs (says e m.edit) (bare m) c h f nth part

  abbrev pub Scxs : {A : Type 0} → UpdateRun E A → Call → History → Found → ScxRun → History → Type 0
  Scxs m c h f scx begin = ScxsAs (says e m.edit) (bare m) c h f scx begin

  abbrev pub Walks : {A : Type 0} → UpdateRun E A → Call → History → Way → Goal → Type 0
  Walks m c h way goal = WalksAs (says e m.edit) (bare m) c h way goal

  abbrev pub MayBeginTry : {A : Type 0} → UpdateRun E A → Call → History → Type 0
  MayBeginTry m c h = BeginsAs (says e m.edit) (bare m) c h

  -- that word is filled, as those before it
  abbrev pub IsFilledUpTo : {A : Type 0} → UpdateRun E A → Call → History → Found → Nth → NodeWord → Type 0
  IsFilledUpTo m c h f nth part = FillsPiece m c h f nth part × HoldsUpTo h (nth_node m.nodes nth).0 (piece_here e m f nth) part × IsTakenNode h (nth_node m.nodes nth).0

  -- where it has a guard, a walk past the root's head has that behind it
  abbrev pub WalksGuarded : {A : Type 0} → UpdateRun E A → Call → History → WalkAt → (Call → Type 0) → Type 0
  WalksGuarded m c h at P = IsPastRoot at → Guarded e m.edit c h m.guard P

  -- the word that is filled
  abbrev pub piece_fill_step : {A : Type 0} → UpdateRun E A → Found → Nth → NodeWord → Step
  piece_fill_step m f nth part = node_fill (nth_node m.nodes nth).0 part (word_of (piece e m f (nth_node m.nodes nth).0) part)

  -- what holds while it waits for this step at this place
  abbrev pub UpdateWaitsAt : {A : Type 0} → UpdateRun E A → Call → History → Step → UpdateAt → Type 0
  UpdateWaitsAt m c h s Start = ⊥
  UpdateWaitsAt m c h s (Walk walk) = Walks m c h walk.way walk.goal × WalkWaits walk c h s × WalksGuarded m c h walk.at (λ k. WalkWaits walk k h s)
  UpdateWaitsAt m c h s (Guard walk head llx) = (begin : History) × Guards m c h walk head llx begin × LlxWaits TreeAllows llx (begun_at c begin) h s
  UpdateWaitsAt m c h s (Look f llx) = (begin : History) × Looks m c h f llx begin × LlxWaits TreeAllows llx (begun_at c begin) h s
  UpdateWaitsAt m c h s (Read f n part) = Reads m c h f n part × (s ≡ load LoadSettled (node n.0 (Settled part)))
  UpdateWaitsAt m c h s (Fill f nth part) = FillsPiece m c h f nth part × FieldMay part (IsForField c.layout h m.nodes.first.0 (top m) (word_of (piece e m f (nth_node m.nodes nth).0) part)) × HoldsBefore h (nth_node m.nodes nth).0 (piece_here e m f nth) part × (s ≡ piece_fill_step m f nth part)
  UpdateWaitsAt m c h s (Scx f scx) = (begin : History) × Scxs m c h f scx begin × ScxWaits TreeAllows scx (begun_at c begin) h s

  -- what holds once the step of this place has found v
  abbrev pub UpdateIsToldAt : {A : Type 0} → UpdateRun E A → Call → History → ℕ → UpdateAt → Type 0
  UpdateIsToldAt m c h v Start = ⊥
  UpdateIsToldAt m c h v (Walk walk) = Walks m c h walk.way walk.goal × WalkIsReady walk c h (Some v) × WalksGuarded m c h walk.at (λ k. WalkIsReady walk k h (Some v))
  UpdateIsToldAt m c h v (Guard walk head llx) = (begin : History) × Guards m c h walk head llx begin × LlxIsReady TreeAllows llx (begun_at c begin) h (Some v) × IsOwnMoment c h
  UpdateIsToldAt m c h v (Look f llx) = (begin : History) × Looks m c h f llx begin × LlxIsReady TreeAllows llx (begun_at c begin) h (Some v)
  UpdateIsToldAt m c h v (Read f n part) = Reads m c h f n part × (value h (node n.0 (Settled part)) ≡ v)
  UpdateIsToldAt m c h v (Fill f nth part) = IsFilledUpTo m c h f nth part
  UpdateIsToldAt m c h v (Scx f scx) = (begin : History) × Scxs m c h f scx begin × ScxIsReady TreeAllows scx (begun_at c begin) h (Some v)

  -- while it walks in its first try nothing of its share is taken
  abbrev pub FirstOrLost : {A : Type 0} → UpdateRun E A → Call → History → UpdateAt → Type 0
  FirstOrLost m c begin (Walk walk) = IsUntouched c begin m.share
  FirstOrLost m c begin (Guard walk head llx) = IsUntouched c begin m.share
  FirstOrLost m c begin _ = Unit {0}

  -- the try that began at this moment is its pass's newest; while its walk waits for the root's
  -- head it has yet to begin
  abbrev pub Tries : {A : Type 0} → UpdateRun E A → Call → History → History → UpdateAt → Type 0
  Tries m c begin h (Walk walk) = IsTryAt c begin h m.limit m.tries walk.at
  Tries m c begin h _ = IsTry c begin h m.limit m.tries

  -- it may be called with this: with nothing at its start, then with what its step found
  abbrev pub UpdateIsReady : UpdateRun E UpdateAt → Call → History → Option ℕ → Type 0
  UpdateIsReady m c h None = MayBeginTry m c h × MayTry c h h m.limit m.tries × RestsWith c c.start m.share × (m.at ≡ Start)
  UpdateIsReady m c h (Some v) = (begin : History) × IsTry c begin h m.limit m.tries × FirstOrLost m c begin m.at × UpdateIsToldAt m (begun_at c begin) h v m.at

  -- in the try that this call is, it waits for this step at its place
  abbrev pub TryWaits : UpdateRun E UpdateAt → Call → History → Step → Type 0
  TryWaits m c h s = UpdateWaitsAt m c h s m.at

  -- it waits for this step in the try that began at some moment
  abbrev pub UpdateWaits : UpdateRun E UpdateAt → Call → History → Step → Type 0
  UpdateWaits m c h s = (begin : History) × Tries m c begin h m.at × FirstOrLost m c begin m.at × TryWaits m (begun_at c begin) h s

  -- What its turns are asked for

  -- it may look at the next node, where these snapshots are there
  pub record CanLook {A : Type 0} (m : UpdateRun E A) (c : Call) (h : History) (f : Found) : Type 0 where
    pub begins : MayBeginTry m c h
    pub quiet : IsQuietSince c.layout c.pass c.start h
    pub looked : HasLooked c h m.edit f m.snaps.items
    pub asked : m.work ≡ e.work m.edit f
    pub room : HasNodesFor m.work.need m.share
    pub guarded : Guarded e m.edit c h m.guard (λ k. FoundBy (e.way m.edit) (e.goal m.edit) k h f)

  -- it may begin to read, or to fill its fresh nodes: it has taken them
  pub record CanWork {A : Type 0} (m : UpdateRun E A) (c : Call) (h : History) (f : Found) : Type 0 where
    pub works : WorksAtNode m c h f First
    pub full : AreFull e m c h f First
    pub hand : IsInHand m.nodes (top m) First
    pub blank : IsBlankHere e m h First

  -- it may continue to read this node
  pub record CanRead {A : Type 0} (m : UpdateRun E A) (c : Call) (h : History) (f : Found) (node : NodeNo) : Type 0 where
    pub work : CanWork m c h f
    pub from : Reading
    pub is : e.reads m.edit f m.snaps.items ≡ Some (node, from)
    pub read : MayRead c.layout h node.0 m.read

  -- it may fill the fresh node of this place, from its head on
  pub record CanFillNode {A : Type 0} (m : UpdateRun E A) (c : Call) (h : History) (f : Found) (nth : Nth) : Type 0 where
    pub works : WorksAtNode m c h f nth
    pub full : AreFull e m c h f nth
    pub hand : IsInHand m.nodes (top m) nth
    pub blank : IsBlankHere e m h nth
    pub read : HasRead e m c h f
    pub whole : IsReadWhole (e.reads m.edit f m.snaps.items) m.read

  -- it may fill this word of that node
  pub record CanFill {A : Type 0} (m : UpdateRun E A) (c : Call) (h : History) (f : Found) (nth : Nth) (part : NodeWord) : Type 0 where
    pub fills : FillsPiece m c h f nth part
    pub same : piece_here e m f nth ≡ e.pieces m.edit f m.snaps.items m.nodes m.read nth
    pub may : FieldMay part (IsForField c.layout h m.nodes.first.0 (top m) (word_of (piece_here e m f nth) part))
    pub words : HoldsBefore h (nth_node m.nodes nth).0 (piece_here e m f nth) part

  -- it may begin its SCX: all its fresh nodes are full
  pub record CanScx {A : Type 0} (m : UpdateRun E A) (c : Call) (h : History) (f : Found) : Type 0 where
    pub run : IsMapRun c.layout h
    pub since : Extends h c.start
    pub quiet : IsQuietSince c.layout c.pass c.start h
    pub asked : m.work ≡ e.work m.edit f
    pub need : 0 < m.work.need
    pub some : 0 < m.share.scx
    pub untaken : ¬ IsTakenNode c.start (top m)
    pub all : HasFilledAll c h m.edit f m.snaps.items m.nodes m.read
    pub guarded : Guarded e m.edit c h m.guard (λ k. FoundBy (e.way m.edit) (e.goal m.edit) k h f)
    pub full : HasFilledTo c.layout h c.pass m.share m.nodes.first.0 (top m) (suc (top m)) (piece e m f)

  -- What it answers

  -- The try that began at the moment `begin` is lost: in it the SCX-record s was in the way over
  -- the node n, and in it the call has found a leaf at which there was something to make, unless it
  -- has a guard. The pass has entered nothing.
  pub record HasLostTry (ed : E) (c : Call) (now : History) (limit left n s : ℕ) : Type 0 where
    pub begin : History
    pub try : IsTry c begin now limit left
    pub way : IsContended (begun_at c begin) now n s
    pub none : HasEnteredNone c.layout c.pass now c.start
    pub needed : e.guard ed ≡ false → (found : Found) × WasNeeded (says e ed) (begun_at c begin) now found

  -- what its answer says
  abbrev pub IsUpdateAnswer : {A : Type 0} → UpdateRun E A → Call → History → Updated → Type 0
  IsUpdateAnswer m c h (Done key value) = IsDoneWith (says e m.edit) m.call c h key value
  IsUpdateAnswer m c h (FullAnswer full) = IsFullFor (says e m.edit) m.share c h full
  IsUpdateAnswer m c h (Contended node scx) = (m.tries ≡ 0) × HasLostEveryTry (says e m.edit) c h m.limit node.0 scx.0

  -- and after it the pass is at rest, with what is left of the share, and has begun all tries but
  -- those that are left, each only as needed
  abbrev pub UpdateAnswers : {A : Type 0} → UpdateRun E A → Call → History → Updated → Type 0
  UpdateAnswers m c h answer = RestsWith c h m.share × IsUpdateAnswer m c h answer × HasTriedAllBut c h m.limit m.tries

  -- it waits for the step that it asks for, or its answer is right
  abbrev pub UpdateTurn : Call → History → UpdateRun E UpdateAt → Turn Updated → Type 0
  UpdateTurn c h m turn = MatchTurn turn (UpdateWaits m c h) (UpdateAnswers m c h)
