-- The names of the kinds of step.
use Rattle.std.specs.Prelude.{ℕ, List, codes}
use Rattle.arena.specs.declared.step.Kind.{Kind}
use Rattle.arena.specs.declared.step.Kind.TheVariants.{Fill, LoadSettled, LoadInfo, LoadState, LoadMarked, LoadAllFrozen, LoadChild, Freeze, SetFrozen, Mark, Update, Commit, Abort}

-- the name of a kind of step in scripts, schedules and reports
abbrev pub kind_text : Kind → List ℕ
kind_text Fill = codes "fill"
kind_text LoadSettled = codes "settled"
kind_text LoadInfo = codes "info"
kind_text LoadState = codes "state"
kind_text LoadMarked = codes "marked"
kind_text LoadAllFrozen = codes "allfrozen"
kind_text LoadChild = codes "child"
kind_text Freeze = codes "freeze"
kind_text SetFrozen = codes "frozen"
kind_text Mark = codes "mark"
kind_text Update = codes "update"
kind_text Commit = codes "commit"
kind_text Abort = codes "abort"
