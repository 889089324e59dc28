-- Words of the memory and its histories that many files cite, passed on. Declares nothing.
pub use Rattle.arena.specs.Blame.{WasInTheWay, IsInProgress, IsMember, HasFailed}
pub use Rattle.arena.specs.Fills.{IsOwnScx, IsNamed, IsOwnNode, IsNamedScx, IsOthersScx, IsInField, by_scx, by_field, opening_node, MayFill, IsFillOfNode}
unfoldable pub use Rattle.arena.specs.Fills.{IsTakenScx, IsTakenNode}
pub use Rattle.arena.specs.Found.{HasFound, IsLastStep}
pub use Rattle.arena.specs.Heads.{head_of}
pub use Rattle.arena.specs.History.{History, ◌⊳◌, Extends, Start, Opened, opening_of}
unfoldable pub use Rattle.arena.specs.History.{value, HasHeld}
pub use Rattle.arena.specs.Lawful.{IsWin, IsLawful, IsFreeze, IsUpdate, AreFrozen, IsExchange, IsAbort, IsMark, Obeys, IsSettled, MayBegin, IsFrozen}
unfoldable pub use Rattle.arena.specs.Lawful.{Lawful, HasWon}
pub use Rattle.arena.specs.Layout.{all_nodes, IsWord, opening_nodes, nodes_at_start, all_scx, opening, first_scx, first_node, place, table_size}
pub use Rattle.arena.specs.Log.{is_final, Entry, has, last, entry, finalized_from, IsEntered, owner, members_from, fields, is_fill}
unfoldable pub use Rattle.arena.specs.Log.{log}
pub use Rattle.arena.specs.Machines.{Call, IsRun, begun_at, row_of, MatchTurn, IsTold}
pub use Rattle.arena.specs.MemberIndex.{member_index}
pub use Rattle.arena.specs.Openings.{Opening, empty}
pub use Rattle.arena.specs.PlainWords.{Contents, word_at, IsChanged}
pub use Rattle.arena.specs.ScxRecords.{member, plan, side_of, count, field_index, seen, new, count_of, plan_finalizes, old, field_index_of, field, scx_finalizes, raw_count, IsPlan}
pub use Rattle.arena.specs.Shape.{IsBegin}
unfoldable pub use Rattle.arena.specs.Shape.{Shaped}
pub use Rattle.arena.specs.Share.{Remaining, HasScx, HasNode}
unfoldable pub use Rattle.arena.specs.TakenNodes.{taken_nodes}
pub use Rattle.arena.specs.TakenNodes.{most_taken}
pub use Rattle.arena.specs.Words.{node, child, info, state, scx, marked, first_key, same_word, first_value, slot_no, same_node_word, word_after}
pub use Rattle.arena.specs.declared.fault.Full.{Full}
pub use Rattle.arena.specs.declared.fault.Resource.{Resource}
pub use Rattle.arena.specs.declared.fault.Resource.TheVariants.{Nodes}
pub use Rattle.arena.specs.declared.layout.Layout.{Layout}
pub use Rattle.arena.specs.declared.limits.Mode.{Mode}
pub use Rattle.arena.specs.declared.limits.Mode.TheVariants.{Tree, Records}
pub use Rattle.arena.specs.declared.machine.Machine.{Ghosts}
pub use Rattle.arena.specs.declared.machine.Turn.{Turn}
pub use Rattle.arena.specs.declared.machine.Turn.TheVariants.{Ask, Done}
pub use Rattle.arena.specs.declared.number.MemberIndex.{MemberIndex}
pub use Rattle.arena.specs.declared.number.NodeNo.{NodeNo}
pub use Rattle.arena.specs.declared.number.PassNo.{PassNo}
pub use Rattle.arena.specs.declared.number.ScxNo.{ScxNo}
pub use Rattle.arena.specs.declared.step.Access.TheVariants.{Store, Load, Exchange}
pub use Rattle.arena.specs.declared.step.Kind.{Kind}
pub use Rattle.arena.specs.declared.step.Kind.TheVariants.{Fill, Freeze, LoadSettled, LoadInfo, Update, SetFrozen, Commit, Mark, LoadMarked, LoadChild, Abort, LoadState, LoadAllFrozen}
pub use Rattle.arena.specs.declared.step.Row.{Row}
pub use Rattle.arena.specs.declared.step.Step.{Step}
pub use Rattle.arena.specs.declared.word.NodeWord.{NodeWord}
pub use Rattle.arena.specs.declared.word.NodeWord.TheVariants.{Settled, Child, Info, Marked}
pub use Rattle.arena.specs.declared.word.ScxWord.{ScxWord}
pub use Rattle.arena.specs.declared.word.ScxWord.TheVariants.{New, Member, AllFrozen, Plan, State, Seen, Old}
pub use Rattle.arena.specs.declared.word.SettledPart.{SettledPart}
pub use Rattle.arena.specs.declared.word.SettledPart.TheVariants.{Head, Key, More, Value, High}
pub use Rattle.arena.specs.declared.word.Side.{Side}
pub use Rattle.arena.specs.declared.word.Side.TheVariants.{Left, Right}
pub use Rattle.arena.specs.declared.word.Slot.{Slot}
pub use Rattle.arena.specs.declared.word.Slot.TheVariants.{First, Second, Third, Fourth}
pub use Rattle.arena.specs.declared.word.Word.{Word}
pub use Rattle.arena.specs.declared.word.Word.TheVariants.{Node, Scx}
pub use Rattle.histories.specs.Begins.{Begins}
pub use Rattle.histories.specs.Descriptor.{descriptor, Descriptor, count_in, field_index_in, field_in}
pub use Rattle.histories.specs.Finalizing.{IsRemoved}
pub use Rattle.histories.specs.Progress.{IsStuck, IsStarted, IsOver}
pub use Rattle.histories.specs.Unmentioned.{IsUnmentioned}
