-- What an edit of one leaf looks at and reads.
use Rattle.std.specs.Prelude.{◌==◌, if◌then◌else◌, List, [], ◌∷◌}
use Rattle.arena.specs.declared.number.NodeNo.{NodeNo}
use Rattle.template.specs.Common.{Snap, child_of}
use Rattle.template.specs.declared.walk.Found.{Found}
use Rattle.edits.specs.declared.edit.Look.{Look}
use Rattle.edits.specs.declared.edit.Look.TheVariants.{At, Differs, Enough}
use Rattle.edits.specs.declared.reading.Reading.{Reading}
use Rattle.edits.specs.Readings.{leaf_begun}

-- it looks at the parent of what was found, and then at this node if that is still the child
abbrev pub leaf_looks : Found → NodeNo → List Snap → Look
leaf_looks f next [] = At f.trail.parent
leaf_looks f next (p ∷ []) =
    if (child_of p f.trail.side).0 == f.trail.node.0 then At next
    else Differs p.node p.scx
leaf_looks f next (p ∷ l ∷ snaps) = Enough

-- it reads the leaf, whose head and count the walk has found
abbrev pub leaf_reads : Found → NodeNo × Reading
leaf_reads f = (f.trail.node, leaf_begun f.head f.more)
