-- Words of the map, of LLX, SCX, VLX and walks that many files cite, passed on. Declares nothing.
pub use Rattle.ordered_map.specs.CallRules.{MayReply, most_nodes, form_of, most_steps, nodes_in_try, most_scx, call_rules, need}
pub use Rattle.ordered_map.specs.FillOrder.{IsFillInOrder}
pub use Rattle.ordered_map.specs.Holding.{held_pairs, slot_behind, wide_value, pair_in, held_behind, end_slot}
unfoldable pub use Rattle.ordered_map.specs.Holding.{IsWellCounted, held_from}
pub use Rattle.ordered_map.specs.OrderedMap.{MapCall, pair, MapEdit, MapReply, reply, AllBelow, pair_or_none, get, OneValue, IsRising, ManyPairs, Edit, edit_key, Range, delete, edit_of, Get, Neighbour, leaves, end_pair, Delete, insert, neighbour, edited, Insert, applies, goal_told, edit_to, OnePair, between, range}
pub use Rattle.ordered_map.specs.Paths.{WasInTree, IsAnswerAt, WasOnPath, IsOnPath, Passed}
pub use Rattle.ordered_map.specs.Strays.{HasWalked}
pub use Rattle.ordered_map.specs.Replies.{told_of}
pub use Rattle.ordered_map.specs.Runs.{IsTreeRun, Makes}
pub use Rattle.ordered_map.specs.Runs.{IsMapRun}
pub use Rattle.ordered_map.specs.Spelled.{Spells, IsTree}
pub use Rattle.ordered_map.specs.TreeShape.{TreeAllows, leaf_plan, sibling_place, edit_leaf, join_plan}
pub use Rattle.ordered_map.specs.TreeWords.{is_leaf, class, level, toward, rank, said, Tree, root, Shows, opposite}
pub use Rattle.ordered_map.specs.Tries.{begins_try, IsNewestTry}
unfoldable pub use Rattle.ordered_map.specs.Tries.{tries_begun}
pub use Rattle.ordered_map.specs.declared.pair.Pair.{Pair}
pub use Rattle.ordered_map.specs.declared.reply.Reply.{Reply}
pub use Rattle.ordered_map.specs.declared.rule.Goal.{Goal}
pub use Rattle.ordered_map.specs.declared.rule.Goal.TheVariants.{Key, End}
pub use Rattle.ordered_map.specs.declared.rule.Rule.{Rule}
pub use Rattle.help.specs.Help.Known.{settled_load, HelpWaits}
pub use Rattle.help.specs.declared.state.HelpRun.{HelpRun}
pub use Rattle.prims.specs.Cells.{AllowsAll}
pub use Rattle.prims.specs.FoundThere.{HasFoundThere}
pub use Rattle.prims.specs.Llx.Known.{load, IsSnapshot, LlxIsReady, LlxAnswers, LlxWaits, IsOpened, HasJustLooked}
pub use Rattle.prims.specs.Llx.Steps.{llx_left}
pub use Rattle.prims.specs.Moments.{AreFinished, IsLeftAlone, HasChanged}
pub use Rattle.prims.specs.Put.Known.{PutAnswers, PutWaits, PutIsReady}
pub use Rattle.prims.specs.Scx.Known.{Job, job_of, IsUpdateOver, Says, nodes_of, ScxWaits, ScxWaitsAt, ScxIsReady}
pub use Rattle.prims.specs.Shares.{IsShare, IsUsable}
pub use Rattle.prims.specs.Snap.{snap_at, child_of}
pub use Rattle.prims.specs.Snaps.{IsAmong, AreDistinct, ListsNode}
pub use Rattle.prims.specs.Updates.{update_field_index}
pub use Rattle.prims.specs.Vlx.Known.{VlxAnswers, VlxWaits, VlxIsReady}
pub use Rattle.prims.specs.Vlx.Steps.{vlx_left}
pub use Rattle.prims.specs.declared.llx.Llx.{Llx}
pub use Rattle.prims.specs.declared.llx.Llx.TheVariants.{Snapshot, Finalized, Fail}
pub use Rattle.prims.specs.declared.llx.LlxAt.{LlxAt}
pub use Rattle.prims.specs.declared.llx.LlxRun.{LlxRun}
pub use Rattle.prims.specs.declared.put.PutRun.{PutRun}
pub use Rattle.prims.specs.declared.scx.Scx.{Scx}
pub use Rattle.prims.specs.declared.scx.Scx.TheVariants.{Done, Lost}
pub use Rattle.prims.specs.declared.scx.ScxAt.{ScxAt}
pub use Rattle.prims.specs.declared.scx.ScxRun.{ScxRun}
pub use Rattle.prims.specs.declared.snap.Snap.{Snap}
pub use Rattle.prims.specs.declared.update.Update.{Update}
pub use Rattle.prims.specs.declared.vlx.Vlx.{Vlx}
pub use Rattle.prims.specs.declared.vlx.Vlx.TheVariants.{Same, Changed}
pub use Rattle.prims.specs.declared.vlx.VlxRun.{VlxRun}
pub use Rattle.template.specs.Blame.{IsContended, HasLostTriesTo, WasNotFinal}
pub use Rattle.template.specs.FoundLeaf.{HasFoundGoal, HasFoundFork, FoundBy, path_key, asked_key, HasFoundLeaf, asked_in, end_told}
pub use Rattle.template.specs.Promises.{IsPromised, IsFresh}
pub use Rattle.template.specs.Tracked.{Tracks}
pub use Rattle.template.specs.Trails.{IsOwnMoment, HasTurned, WasPassed}
pub use Rattle.template.specs.Tries.{HasTriedAtMost, tries_since, HasTriedAllBut, MayTryNext}
pub use Rattle.template.specs.Walk.Known.{MayGo, WalkWaits, WalkIsTold, WalkIsReady, WalkKnows, walk_step, WalkEnds}
pub use Rattle.template.specs.Walk.Places.{walk_at, IsPastRoot, walk_from}
pub use Rattle.template.specs.Walk.Steps.{walk_left, WalkFits}
