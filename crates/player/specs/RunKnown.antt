-- When the machine of a call may continue, what it waits for,
-- and what its answer says: as the machine inside.
use Rattle.std.specs.Prelude.{◌≡◌, ℕ, Option, Some, None}
use Rattle.histories.specs.Common.{Mode, Records, Step, History, Call, Remaining}
use Rattle.dict.specs.Calls.{KeepsEnd, call_in, share_of, trie_in}
use Rattle.dict.specs.DictKnown.{DictIsReady, DictWaits, DictAnswers}
use Rattle.dict.specs.Inner.{InnerRun, Update, edit_means, inner}
use Rattle.dict.specs.Known.{AsksFirst}
use Rattle.edits.specs.Edits.{EditMeaning}
use Rattle.edits.specs.declared.update.UpdateAt.{UpdateAt}
use Rattle.edits.specs.declared.update.UpdateAt.TheVariants.{Scx as AtScx}
use Rattle.template.specs.Common.{AllowsAll, LlxIsReady, LlxWaits, LlxAnswers, VlxIsReady, VlxWaits, VlxAnswers, PutIsReady, PutWaits, PutAnswers, Snapshot as LlxSnapshot}
use Rattle.template.specs.Common.{Finalized as LlxFinalized, Fail as LlxFail, Done as ScxDone, Lost as ScxLost, Same as VlxSame, Changed as VlxChanged}
use Rattle.record.specs.declared.record.Answer.{Answer}
use Rattle.record.specs.declared.record.Answer.TheVariants.{Snapshot, Finalized, Fail, Done, Lost, Same, Changed, Map as MapAnswer}
use Rattle.ordered_map.specs.CallRules.{TakesNothing}
use Rattle.record.specs.Common.{MapEdit, Request, Range as RangeOf}
use Rattle.dict.specs.Words.{IsNumber, IsWideNumber}
use Rattle.player.specs.Allowed.{FitsTwoWords, IsSmall}
use Rattle.template.specs.Balance.{map_mode}
use Rattle.player.specs.declared.run.Run.{Run}
use Rattle.player.specs.declared.run.Run.TheVariants.{Llx, Scx, Vlx, Map}
use Rattle.player.specs.declared.run.Ended.{Ended}
use Rattle.player.specs.declared.run.Ended.TheVariants as ended

-- the machine of a call may be called with this, as the one inside
abbrev pub RunIsReady : Run → Call → History → Option ℕ → Type 0
RunIsReady (Llx m) c h got = LlxIsReady AllowsAll m c h got
RunIsReady (Scx m) c h got = PutIsReady AllowsAll m c h got
RunIsReady (Vlx m) c h got = VlxIsReady m.snaps m.asked c h got
RunIsReady (Map m) c h got = DictIsReady IsNumber IsWideNumber m c h got

-- it asks for a step before it answers: all do, except for a range that takes no pair
abbrev pub RunAsksFirst : Run → Type 0
RunAsksFirst (Map m) = AsksFirst m.run
RunAsksFirst _ = Unit {0}

-- the machine of a call waits for this step, as the one inside
abbrev pub RunWaits : Run → Call → History → Step → Type 0
RunWaits (Llx m) c h s = LlxWaits AllowsAll m c h s
RunWaits (Scx m) c h s = PutWaits AllowsAll m c h s
RunWaits (Vlx m) c h s = VlxWaits m.snaps m.asked c h s
RunWaits (Map m) c h s = DictWaits IsNumber IsWideNumber m c h s

-- what the answer of the machine says, which is one of its own kind
abbrev pub RunAnswers : Run → Call → History → Ended → Type 0
RunAnswers (Llx m) c h (ended.Llx a) = LlxAnswers m c h a
RunAnswers (Scx m) c h (ended.Scx a) = PutAnswers m c h a
RunAnswers (Vlx m) c h (ended.Vlx a) = VlxAnswers m.snaps c h a
RunAnswers (Map m) c h (ended.Map a) = DictAnswers IsSmall (λ k. k) FitsTwoWords (λ v. v) m c h a
RunAnswers _ c h _ = ⊥

-- the request is for no pair, whatever the map has
abbrev pub IsForNothing : Request ℕ ℕ → Type 0
IsForNothing (RangeOf low high most) = TakesNothing low high most
IsForNothing _ = ⊥

-- what the record says where a machine has answered so
abbrev pub answer_of : Ended → Answer
answer_of (ended.Llx (LlxSnapshot snap)) = Snapshot snap.left snap.right
answer_of (ended.Llx (LlxFinalized node scx)) = Finalized
answer_of (ended.Llx (LlxFail node scx)) = Fail node scx
answer_of (ended.Scx ScxDone) = Done
answer_of (ended.Scx (ScxLost node scx)) = Lost node scx
answer_of (ended.Vlx VlxSame) = Same
answer_of (ended.Vlx (VlxChanged node scx)) = Changed node scx
answer_of (ended.Map reply) = MapAnswer reply

-- the two are machines of one kind, and of one call
abbrev pub IsSameMachine : Run → Run → Type 0
IsSameMachine (Llx old) (Llx now) = now.node ≡ old.node
IsSameMachine (Scx old) (Scx now) = (now.scx.scx ≡ old.scx.scx) × (now.scx.update ≡ old.scx.update) × (now.scx.call ≡ old.scx.call) × (now.value ≡ old.value)
IsSameMachine (Vlx old) (Vlx now) = now.snaps ≡ old.snaps
IsSameMachine (Map old) (Map now) = (call_in now.run ≡ call_in old.run) × (now.tries ≡ old.tries) × (trie_in now.run ≡ trie_in old.run) × KeepsEnd old.run now.run
IsSameMachine _ _ = ⊥

-- the mode in whose scripts the machine runs
abbrev pub run_mode : Run → Mode
run_mode (Map m) = map_mode (trie_in m.run)
run_mode _ = Records

-- the share that the machine has, if it has one: a call of the map has its client's
abbrev pub share_in : Run → Option Remaining
share_in (Map m) = Some (share_of m.run)
share_in _ = None

-- the client's share once its machine has ended: what that had, or what the client held
abbrev pub share_behind : Run → Option Remaining → Option Remaining
share_behind (Map m) had = Some (share_of m.run)
share_behind _ had = had

-- the edit that an update makes at the leaf that it has found, while its SCX runs
abbrev pub edit_at : {E : Type 0} → EditMeaning E → E → UpdateAt → Option MapEdit
edit_at means e (AtScx found scx) = Some (means.edit e found)
edit_at means e _ = None

-- what runs inside of a call of the map makes this one
abbrev pub edit_inside : InnerRun → Option MapEdit
edit_inside (Update m) = edit_at edit_means m.edit m.at
edit_inside _ = None

-- the edit of the map that the machine has in hand, if it has one
abbrev pub edit_in_hand : Run → Option MapEdit
edit_in_hand (Map m) = edit_inside (inner m.run)
edit_in_hand _ = None
