-- When the machine of a call of the map may continue, what it waits for, and what its answer says.
use Rattle.std.specs.Prelude.{◌≡◌, ℕ, suc, ◌+◌, ◌^◌, ◌<◌, ◌≤◌, Option, Some, None, []}
use Rattle.histories.specs.Common.{Step, History, Extends, Call, Remaining}
use Rattle.order.specs.Known.{ReadIsReady, ReadWaits}
use Rattle.order.specs.declared.run.ReadAt.TheVariants.{Start as ReadStart}
use Rattle.prims.specs.Laws.Idle.{IsQuietSince}
use Rattle.prims.specs.Shares.{share_end}
use Rattle.template.specs.Common.{IsMapRun, Key as ToKey, tries_begun, WalkIsReady, WalkWaits, MayReply, nodes_in_try, Edit}
use Rattle.template.specs.declared.walk.WalkAt.{WalkAt}
use Rattle.template.specs.declared.walk.WalkAt.TheVariants.{Start as WalkStart, Root}
use Rattle.template.specs.declared.walk.WalkRun.{WalkRun}
use Rattle.edits.specs.Known.{RestsWith, UpdateIsReady, UpdateWaits}
use Rattle.edits.specs.Steps.{node_tries, scx_tries, Spends}
use Rattle.edits.specs.declared.update.UpdateAt.TheVariants.{Start as UpdateStart}
use Rattle.template.specs.Balance.{leaf_way, map_mode}
use Rattle.dict.specs.Calls.{call_in, inner_call, inner_share, inner_trie, is_in_trie, AsksForPairs, IsFewCall, IsSmallCall, HasSpent}
use Rattle.dict.specs.Says.{WordSays}
use Rattle.dict.specs.declared.run.MapRun.{MapRun}
use Rattle.dict.specs.Inner.{InnerRun, Update, Get, Read, edit_means, inner}
use Rattle.dict.specs.WordReplies.{WordReply, word_form}

-- A read rests all the way: its share is untouched, all its pass's SCX-records are finished, and
-- none was in progress since the call began.
pub record HasRested (c : Call) (h : History) (share : Remaining) : Type 0 where
  pub run : IsMapRun c.layout h
  pub since : Extends h c.start
  pub now : RestsWith c h share
  pub quiet : IsQuietSince c.layout c.pass c.start h

-- of the share with which an edit began no more is gone than the tries that are over may take: of
-- `tries` in all, `nodes` may still take nodes, and `scx` an SCX-record
pub record HasSpentSo (c : Call) (most : ℕ) (share : Remaining) (tries nodes scx : ℕ) : Type 0 where
  pub left : Remaining
  pub first : RestsWith c c.start left
  pub spends : Spends most left share tries nodes tries scx
  pub end : share_end share ≡ share_end left

-- what is gone of the share of a call with this many tries: of a read nothing
abbrev pub HasSpentIn : InnerRun → ℕ → Call → Type 0
HasSpentIn (Update m) tries c = HasSpentSo c (nodes_in_try m.edit.rule) m.share tries (node_tries m m.at) (scx_tries m m.at)
HasSpentIn (Get key walk share) tries c = RestsWith c c.start share
HasSpentIn (Read k m share) tries c = RestsWith c c.start share

-- an edit knows the number of its call, which goes into its entry
abbrev pub IsNumbered : InnerRun → ℕ → Type 0
IsNumbered (Update m) number = m.call ≡ number
IsNumbered m number = Unit {0}

-- an edit or an ordered read may make this many tries
abbrev pub HasTries : InnerRun → ℕ → Type 0
HasTries (Update m) tries = m.limit ≡ tries
HasTries (Get key walk share) tries = Unit {0}
HasTries (Read k m share) tries = m.limit ≡ tries

-- what holds of the machine inside throughout its call, which has this many tries
pub record Goes (m : InnerRun) (tries : ℕ) (c : Call) : Type 0 where
  pub mode : c.layout.mode ≡ map_mode (inner_trie m)
  pub small : IsSmallCall (inner_call m)
  pub number : IsNumbered m c.number
  pub limit : HasTries m tries
  pub spent : HasSpentIn m tries c

-- a walk goes to the leaf where this key is, or would be
abbrev pub IsWalkTo : WalkRun → ℕ → Type 0
IsWalkTo walk key = (walk.goal ≡ ToKey key) × (walk.way ≡ leaf_way (is_in_trie walk.way))

-- a get begins one try at most, and none before it gets anything: its pass has begun this many by
-- now, and had begun that many as the call began
abbrev pub HasTriedOnce : Option ℕ → ℕ → ℕ → Type 0
HasTriedOnce None now then = now ≡ then
HasTriedOnce (Some v) now then = now ≤ suc then

-- nor while it waits for the root's head
abbrev pub HasTriedOnceAt : WalkAt → ℕ → ℕ → Type 0
HasTriedOnceAt at now then = (now ≤ suc then) × (at ≡ Root → now ≡ then)

-- the machine inside may be called with this
abbrev pub IsReadyInside : InnerRun → Call → History → Option ℕ → Type 0
IsReadyInside (Update m) c h got = UpdateIsReady edit_means m c h got
IsReadyInside (Get key walk share) c h got = (WalkIsReady walk c h got × IsWalkTo walk key × HasTriedOnce got (tries_begun c.pass h) (tries_begun c.pass c.start)) × HasRested c h share
IsReadyInside (Read k m share) c h got = ReadIsReady k.means m c h got × HasRested c h share

-- the machine inside waits for this step
abbrev pub WaitsInside : InnerRun → Call → History → Step → Type 0
WaitsInside (Update m) c h s = UpdateWaits edit_means m c h s
WaitsInside (Get key walk share) c h s = (WalkWaits walk c h s × IsWalkTo walk key × HasTriedOnceAt walk.at (tries_begun c.pass h) (tries_begun c.pass c.start)) × HasRested c h share
WaitsInside (Read k m share) c h s = ReadWaits k.means m c h s × HasRested c h share

-- the machine may be called with this
abbrev pub MapIsReady : ℕ → MapRun → Call → History → Option ℕ → Type 0
MapIsReady tries m c h got = Goes (inner m) tries c × IsReadyInside (inner m) c h got

-- it waits for this step
abbrev pub MapWaits : ℕ → MapRun → Call → History → Step → Type 0
MapWaits tries m c h s = Goes (inner m) tries c × WaitsInside (inner m) c h s

-- The answer of a call with this inner machine is right. After it the pass is at rest with what is
-- left of the share, of which no more is gone than the tries that it has begun may take.
pub record InnerAnswers (tries : ℕ) (m : InnerRun) (c : Call) (h : History) (reply : WordReply) : Type 0 where
  pub rests : RestsWith c h (inner_share m)
  pub spent : HasSpent c h (inner_call m) tries (inner_share m)
  pub form : MayReply (inner_call m) (word_form reply)
  pub says : WordSays c h (inner_call m) (inner_share m) tries reply

-- so is the machine's
abbrev pub MapAnswers : ℕ → MapRun → Call → History → WordReply → Type 0
MapAnswers tries m c h reply = InnerAnswers tries (inner m) c h reply

-- all but a range that takes no pair ask for a step before they answer
abbrev pub AsksFirst : MapRun → Type 0
AsksFirst m = AsksForPairs (call_in m)

-- Before it begins

-- the machine inside is at its start, with this many tries in all, in the call of this number
abbrev pub StandsAtStart : InnerRun → ℕ → ℕ → Type 0
StandsAtStart (Update m) tries call = (m.at ≡ UpdateStart) × (m.tries + 1 ≡ tries) × (m.call ≡ call) × IsSmallCall (Edit m.edit.goal.goal m.edit.rule) × (m.limit ≡ tries)
StandsAtStart (Get key walk share) tries call = (walk.at ≡ WalkStart) × (walk.trail.node.0 ≡ 0) × IsWalkTo walk key × (key < 2 ^ 64)
StandsAtStart (Read k m share) tries call = (m.at ≡ ReadStart) × (m.tries + 1 ≡ tries) × (m.snaps.items ≡ []) × (IsFewCall (k.means.call m.read) → k.means.suits (k.means.call m.read)) × (m.limit ≡ tries)

-- so does the machine
abbrev pub IsUnbegun : MapRun → ℕ → ℕ → Type 0
IsUnbegun m tries call = StandsAtStart (inner m) tries call
