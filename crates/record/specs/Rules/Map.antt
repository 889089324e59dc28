-- The rules of the calls of the map.
use Rattle.histories.specs.Common.{Layout, History, Entry as Entered}
use Rattle.ordered_map.specs.CallRules.{MayReply, call_rules, form_of, most_nodes, most_scx, most_steps}
use Rattle.ordered_map.specs.OrderedMap.{MapCall, Edit, Get, Neighbour, Range}
use Rattle.ordered_map.specs.Requests.{tells_change}
use Rattle.record.specs.declared.record.Answer.{Answer}
use Rattle.record.specs.declared.record.Answer.TheVariants.{Map}
use Rattle.record.specs.MapRecord.{reply_told}
use Rattle.record.specs.Placed.{IsPlacedOnMap}
use Rattle.record.specs.Rules.{Rules, MapRules}
use Rattle.record.specs.Rules.Edit.{IsEditEntry, edit_rules}
use Rattle.record.specs.Rules.Get.{get_rules}
use Rattle.record.specs.Rules.Neighbour.{neighbour_rules}
use Rattle.record.specs.Rules.Range.{range_rules}

-- after a step it gives a reply of the map, of a form that the call may give
abbrev pub RepliesAfterStep : MapCall → Answer → Type 0
RepliesAfterStep call (Map reply) = MayReply call (form_of reply)
RepliesAfterStep call _ = ⊥

-- an entry of an edit is of an SCX-record that makes it; a read has none
abbrev pub IsMapEntry : MapCall → Layout → History → Entered → Type 0
IsMapEntry (Edit goal rule) lay before e = IsEditEntry (Edit goal rule) lay before e.scx
IsMapEntry _ lay before e = ⊥

-- the one match from calls of the map to what a record says of each
abbrev pub own_rules : MapCall → MapRules
own_rules (Edit goal rule) = edit_rules (Edit goal rule)
own_rules (Get key) = get_rules key
own_rules (Neighbour side key) = neighbour_rules
own_rules (Range low high most) = range_rules low high most

-- What it may do and take are the call's own rules. It leaves snapshots alone, and took place where
-- what it answered of the map says.
abbrev pub map_rules : MapCall → Rules
map_rules call = record {
  most_steps = most_steps call;
  most_scx = most_scx call;
  nodes_each = most_nodes call;
  MayMake = (call_rules call).MayMake;
  IsAtOnce = (own_rules call).IsAtOnce;
  IsAfterStep = RepliesAfterStep call;
  enters = λ answer. tells_change call (reply_told answer);
  linked_then = λ answer now n old. old;
  IsRight = (own_rules call).IsRight;
  IsEntryFor = λ lay c before start linked e. IsMapEntry call lay before e;
  IsPlaced = λ lay calls lines reply. IsPlacedOnMap (reply_told reply.answer) calls lines call reply;
}
