-- How many steps an update may still ask for: how many at most in a try, and as many in each try
-- that is left after it.
use Rattle.std.specs.Prelude.{◌≡◌, ℕ, suc, ◌+◌, ◌*◌, ◌-◌, ◌<◌, ◌≤◌, Bool, true, false, length, Option, Some}
use Rattle.histories.specs.Common.{Turn, NodeWord, MatchTurn, Remaining}
use Rattle.template.specs.Common.{llx_left, WalkFits}
use Rattle.template.specs.Walk.Steps.{room, steps_left}
use Rattle.prims.specs.Scx.Steps.{scx_left}
use Rattle.template.specs.declared.walk.Found.{Found}
use Rattle.template.specs.declared.walk.WalkAt.{WalkAt}
use Rattle.template.specs.declared.walk.WalkAt.TheVariants as walks
use Rattle.edits.specs.declared.edit.Nth.{Nth}
use Rattle.edits.specs.declared.piece.Piece.{Piece}
use Rattle.edits.specs.declared.update.Updated.{Updated}
use Rattle.edits.specs.declared.update.UpdateAt.{UpdateAt}
use Rattle.edits.specs.declared.update.UpdateAt.TheVariants.{Start, Walk, Guard, Look, Read, Fill, Scx}
use Rattle.edits.specs.declared.update.UpdateRun.{UpdateRun}
use Rattle.edits.specs.Edits.{EditMeaning, all_looks}
use Rattle.edits.specs.Pieces.{fills_after, fills_behind}
use Rattle.edits.specs.Readings.{next_read, reads_left}

-- what the run keeps of its edit is what that says of this leaf
abbrev pub HasAsked : {E A : Type 0} → EditMeaning E → UpdateRun E A → Found → Type 0
HasAsked e m f = m.work ≡ e.work m.edit f

-- how many loads and fills are made at most in a try
abbrev pub most_works : {E : Type 0} → EditMeaning E → E → ℕ
most_works m e = m.most_reads e + m.most_fills e

-- how many steps a try may ask for, where no more nodes than these are taken: the walk three for
-- each of them and for two more, or of a trie three for each of 67 levels, and five at its leaf,
-- each LLX 64, the loads and fills theirs, and the SCX 39
abbrev pub try_left : {E : Type 0} → EditMeaning E → E → ℕ → ℕ
try_left m e nodes = 3 * (2 + room (m.way e) nodes) + 5 + (64 * all_looks (m.guard e) (m.most_looks e) + most_works m e + 39)

-- how many looks are left while it walks: its guard is behind it once it is past the root's head
abbrev pub looks_from : Bool → WalkAt → ℕ → ℕ
looks_from false at n = n
looks_from true walks.Start n = suc n
looks_from true walks.Root n = suc n
looks_from true _ n = n

-- whether it continues with its guard behind this place
abbrev pub is_for_guard : Bool → WalkAt → Bool
is_for_guard guard walks.Root = guard
is_for_guard guard _ = false

-- and once it goes on from this place: only from its start it comes to the root's head
abbrev pub looks_on : Bool → WalkAt → ℕ → ℕ
looks_on true walks.Start n = suc n
looks_on true _ n = n
looks_on false at n = n

-- what the fresh nodes are to hold
abbrev pub pieces_now : {E A : Type 0} → EditMeaning E → UpdateRun E A → Found → Nth → Piece
pieces_now e m f nth = e.pieces m.edit f m.snaps.items m.nodes m.read nth

-- how many fills are left after that of this word
abbrev pub fills_left : {E A : Type 0} → EditMeaning E → UpdateRun E A → Found → Nth → NodeWord → ℕ
fills_left e m f nth part = fills_behind (pieces_now e m f nth) part + fills_after m.work.need (pieces_now e m f) nth

-- how many steps are left in this try, at this place
abbrev pub phase_left : {E A : Type 0} → EditMeaning E → UpdateRun E A → ℕ → UpdateAt → ℕ
phase_left e m nodes Start = try_left e m.edit nodes
phase_left e m nodes (Walk walk) = steps_left walk nodes + (64 * looks_from (e.guard m.edit) walk.at (e.most_looks m.edit) + most_works e m.edit + 39)
phase_left e m nodes (Guard walk head llx) = llx_left llx.at + steps_left walk nodes + (64 * e.most_looks m.edit + most_works e m.edit + 39)
phase_left e m nodes (Look f llx) = llx_left llx.at + 64 * (e.most_looks m.edit - 1 - length m.snaps.items) + most_works e m.edit + 39
phase_left e m nodes (Read f n part) = reads_left m.read - 1 + e.most_fills m.edit + 39
phase_left e m nodes (Fill f nth part) = fills_left e m f nth part + 39
phase_left e m nodes (Scx f scx) = scx_left scx.at

-- how many steps are left, where no more nodes than these are taken
abbrev pub update_left : {E : Type 0} → EditMeaning E → UpdateRun E UpdateAt → ℕ → ℕ
update_left e m nodes = m.tries * try_left e m.edit nodes + phase_left e m nodes m.at

-- where the run asks for a step, fewer than n are left then
abbrev pub IsNearer : {E : Type 0} → EditMeaning E → UpdateRun E UpdateAt → ℕ → Turn Updated → ℕ → Type 0
IsNearer e m nodes turn n = MatchTurn turn (λ _. update_left e m nodes < n) (λ _. Unit {0})

-- what the run gets at this place fits this many taken nodes, and is of the word that it reads
-- next
abbrev pub UpdateFitsAt : {E A : Type 0} → EditMeaning E → UpdateRun E A → Option ℕ → ℕ → UpdateAt → Type 0
UpdateFitsAt e m got nodes (Walk walk) = WalkFits walk got nodes
UpdateFitsAt e m got nodes (Guard walk head llx) = (walk.at ≡ walks.Root) × WalkFits walk (Some head) nodes
UpdateFitsAt e m got nodes (Look f llx) = HasAsked e m f
UpdateFitsAt e m got nodes (Read f n part) = HasAsked e m f × (next_read m.read ≡ Some part)
UpdateFitsAt e m got nodes _ = Unit {0}

-- what the run gets at its place fits this many taken nodes
abbrev pub UpdateFits : {E : Type 0} → EditMeaning E → UpdateRun E UpdateAt → Option ℕ → ℕ → Type 0
UpdateFits e m got nodes = UpdateFitsAt e m got nodes m.at

-- What it takes of its share

-- how many tries, this one and those after it, may still take nodes
abbrev pub node_tries : {E A : Type 0} → UpdateRun E A → UpdateAt → ℕ
node_tries m (Read f n part) = m.tries
node_tries m (Fill f nth part) = m.tries
node_tries m (Scx f scx) = m.tries
node_tries m _ = m.tries + 1

-- and how many an SCX-record
abbrev pub scx_tries : {E A : Type 0} → UpdateRun E A → UpdateAt → ℕ
scx_tries m (Scx f scx) = m.tries
scx_tries m _ = m.tries + 1

-- before it takes nodes it keeps how many are needed; and while it fills one there is an SCX-record
-- left
abbrev pub MaySpend : {E A : Type 0} → EditMeaning E → UpdateRun E A → UpdateAt → Type 0
MaySpend e m (Look f llx) = HasAsked e m f
MaySpend e m (Fill f nth part) = 0 < m.share.scx
MaySpend e m _ = Unit {0}

-- At most `most` nodes are taken for each of the tries that might take some and no longer may, and
-- at most one SCX-record; and at most `most` nodes for each SCX-record that is taken, besides
-- those of a try that no longer may take nodes and may still take its SCX-record.
abbrev pub Spends : ℕ → Remaining → Remaining → ℕ → ℕ → ℕ → ℕ → Type 0
Spends most old now nodes nodes_then scx scx_then =
    (old.nodes + most * nodes_then ≤ now.nodes + most * nodes)
    × (old.scx + scx_then ≤ now.scx + scx)
    × (old.nodes + most * (now.scx + scx + nodes_then) ≤ now.nodes + most * (old.scx + nodes + scx_then))

-- this much is taken of the share, where this many tries might take of it; after an answer those
-- that are left still may
abbrev pub IsSpending : {E : Type 0} → EditMeaning E → Turn Updated → Remaining → UpdateRun E UpdateAt → ℕ → ℕ → Type 0
IsSpending e turn old m nodes scx = MatchTurn turn (λ _. Spends (e.most_nodes m.edit) old m.share nodes (node_tries m m.at) scx (scx_tries m m.at)) (λ _. Spends (e.most_nodes m.edit) old m.share nodes m.tries scx m.tries)
