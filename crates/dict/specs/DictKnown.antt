-- When the machine of a call of a dictionary may continue, what it waits for, and what its answer
-- says.
use Rattle.std.specs.Prelude.{ℕ, Option}
use Rattle.histories.specs.Common.{Step, History, Call, Remaining}
use Rattle.template.specs.Common.{MapCall, MayReply, form_of, told_of, Reply}
use Rattle.edits.specs.Known.{RestsWith}
use Rattle.edits.specs.Tries.{HasEnteredNone}
use Rattle.dict.specs.Calls.{call_in, share_of, HasSpent}
use Rattle.dict.specs.Known.{MapIsReady, MapWaits}
use Rattle.dict.specs.Says.{HasLost, HasRunOut, KeepsLists, TellsOfMap}
use Rattle.dict.specs.Typed.{IsTypedCall}
use Rattle.dict.specs.Words.{IsValidReply}
use Rattle.dict.specs.declared.dict.DictRun.{DictRun}
use Rattle.ordered_map.specs.declared.reply.Reply.TheVariants.{Contended, Full, NoMemory}

-- it may be called with this: its edit, if it makes one, is of such words
abbrev pub DictIsReady : {K V : Type 0} → (ℕ → Type 0) → (ℕ → Type 0) → DictRun K V → Call → History → Option ℕ → Type 0
DictIsReady keys values m c h got = IsTypedCall keys values (call_in m.run) × MapIsReady m.tries m.run c h got

-- it waits for this step
abbrev pub DictWaits : {K V : Type 0} → (ℕ → Type 0) → (ℕ → Type 0) → DictRun K V → Call → History → Step → Type 0
DictWaits keys values m c h s = IsTypedCall keys values (call_in m.run) × MapWaits m.tries m.run c h s

-- why a reply says nothing of the map, if the call has this share left, and this many tries in
-- all
abbrev pub DictRefuses : {K V : Type 0} → Call → History → MapCall → Remaining → ℕ → Reply K V → Type 0
DictRefuses c h call share tries (Contended node scx) = HasLost c h call tries node.0 scx.0
DictRefuses c h call share tries (Full full) = HasRunOut c h call share full
DictRefuses c h call share tries NoMemory = KeepsLists call × HasEnteredNone c.layout c.pass h c.start
DictRefuses c h call share tries _ = Unit {0}

-- Its answer is right. After it the pass is at rest with what is left of the share, of which no
-- more is gone than the tries that it has begun may take. Its keys and values are of their types.
pub record DictAnswers {K V : Type 0} (valid_key : K → Type 0) (key : K → ℕ) (valid_value : V → Type 0) (value : V → ℕ) (m : DictRun K V) (c : Call) (h : History) (reply : Reply K V) : Type 0 where
  pub rests : RestsWith c h (share_of m.run)
  pub spent : HasSpent c h (call_in m.run) m.tries (share_of m.run)
  pub form : MayReply (call_in m.run) (form_of reply)
  pub valid : IsValidReply valid_key valid_value reply
  pub tells : TellsOfMap c h (call_in m.run) (told_of key value reply)
  pub refuses : DictRefuses c h (call_in m.run) (share_of m.run) m.tries reply
