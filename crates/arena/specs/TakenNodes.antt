-- Which nodes have been taken, by whatever pass.
use Rattle.std.specs.Prelude.{ℕ, ◌+◌, ◌*◌, if◌then◌else◌, List, ◌∷◌}
use Rattle.arena.specs.declared.word.Word.{Word}
use Rattle.arena.specs.declared.word.Word.TheVariants.{Node}
use Rattle.arena.specs.declared.step.Kind.{Kind}
use Rattle.arena.specs.declared.step.Kind.TheVariants.{Fill}
use Rattle.arena.specs.History.{History, Opened, ◌⊳◌}
use Rattle.arena.specs.Log.{has}
use Rattle.arena.specs.Opening.{nodes_at_start}
use Rattle.arena.specs.Openings.{first_planted}
use Rattle.arena.specs.declared.layout.Layout.{Layout}

-- the list with the word's node in front, if the step is a fill and the list has not got the node
abbrev pub with_fill : Kind → Word → List ℕ → List ℕ
with_fill Fill (Node n part) ns = if has ns n.0 then ns else n.0 ∷ ns
with_fill _ _ ns = ns

-- the nodes that have had a word filled, the newest first, each once, and those that
-- the opening counts as taken
unfoldable pub taken_nodes : History → List ℕ
taken_nodes (Opened o) = first_planted (nodes_at_start o.mode 0) o.deep
taken_nodes (r ⊳ h) = with_fill r.kind r.word (taken_nodes h)

-- no more are taken: those that were planted, and the share of each pass
abbrev pub most_taken : Layout → ℕ
most_taken lay = lay.planted + lay.passes * lay.nodes
