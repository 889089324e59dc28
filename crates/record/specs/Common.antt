-- Words of the map, of scripts and records that many files cite, passed on. Declares nothing.
pub use Rattle.ordered_map.specs.CallRules.{need}
pub use Rattle.ordered_map.specs.FillOrder.{HasRisingLevels, AreFilledInOrder}
pub use Rattle.ordered_map.specs.OrderedMap.{MapCall, get, reply, MapEdit, MapReply, edit_key, edit_of, OneValue, Edit, edited, IsRising, changes_map, edit_to, pair, first_pair, ManyPairs, leaves, pair_or_none, AllAbove, value_left, after}
pub use Rattle.ordered_map.specs.Paths.{Passed}
pub use Rattle.ordered_map.specs.Replies.{number_reply, word_pair}
pub use Rattle.ordered_map.specs.Requests.{map_request, tells_change}
pub use Rattle.ordered_map.specs.Runs.{IsMapRun, IsTreeRun, Makes}
pub use Rattle.ordered_map.specs.Spelled.{Spells}
pub use Rattle.ordered_map.specs.TreeShape.{TreeAllows}
pub use Rattle.ordered_map.specs.TreeWords.{class, said, is_leaf, toward}
pub use Rattle.ordered_map.specs.declared.pair.Pair.{Pair}
pub use Rattle.ordered_map.specs.declared.reply.Reply.{Reply}
pub use Rattle.ordered_map.specs.declared.reply.Reply.TheVariants.{Value, Pairs, NoMemory, Contended, Full}
pub use Rattle.ordered_map.specs.declared.request.Request.{Request}
pub use Rattle.ordered_map.specs.declared.request.Request.TheVariants.{Range, PopFirst, Successor, Predecessor}
pub use Rattle.ordered_map.specs.declared.rule.Goal.{Goal}
pub use Rattle.ordered_map.specs.declared.rule.Goal.TheVariants.{Key, End}
pub use Rattle.record.specs.Answers.{HasItsEntry, IsAsSnapped, IsInTheWay, HasLostAllTries}
pub use Rattle.record.specs.CommandRules.{IsRight, enters, HasTakenFew, MayAnswerAfterStep, IsEntryFor, command_steps, nodes_counted, IsPlaced, MayAnswerAtOnce}
pub use Rattle.record.specs.Commands.{commands, next_command}
pub use Rattle.record.specs.Entries.{IsWinOf}
pub use Rattle.record.specs.LawfulRun.{IsLawfulRun, OwesNothing}
unfoldable pub use Rattle.record.specs.LawfulRun.{AreLines}
pub use Rattle.record.specs.Linked.{linked}
pub use Rattle.record.specs.MapRecord.{map_at, written_log, number_pairs, map_call, reply_told, map_of, map_call_of, entries_of_call, entries_until}
pub use Rattle.record.specs.Placed.{IsGreatestTurn, IsPlacedOnMap}
pub use Rattle.record.specs.Replied.{HasReplied}
pub use Rattle.record.specs.Replies.{IsFitting, IsReplyOwed}
pub use Rattle.record.specs.Rules.Map.{IsMapEntry}
pub use Rattle.record.specs.Shares.{HasNodesLeft, HasScxLeft}
pub use Rattle.record.specs.Snapshots.{IsLastLook, AreLinked, IsFirstUnlinked}
pub use Rattle.record.specs.SpelledMap.{IsSpelledAfter}
unfoldable pub use Rattle.record.specs.SpelledMap.{AreSpelled}
pub use Rattle.record.specs.Turns.{history, start, answered, turns, begin, won, entry_owed, entry_of, clients, entries, entry_at, is_update, client_of, steps, last_client}
pub use Rattle.record.specs.Updates.{IsEntryOver}
pub use Rattle.script.specs.Cells.{cells_of}
pub use Rattle.script.specs.Commands.{asks_map, command_row, IsCommand, IsOfMode, texts}
pub use Rattle.script.specs.Kinds.{kind_text}
pub use Rattle.script.specs.Rows.{limits_row}
pub use Rattle.script.specs.Update.{update_cells, update_finalize, update_field, update_value}
pub use Rattle.script.specs.declared.call.Call.{Call}
pub use Rattle.script.specs.declared.cells.CellList.{CellList}
pub use Rattle.script.specs.declared.command.Command.{Command}
pub use Rattle.script.specs.declared.command.Command.TheVariants.{Map, Vlx, Scx, Set, Llx}
pub use Rattle.script.specs.declared.script.Script.{Script}
