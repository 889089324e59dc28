-- Whole calls of a dictionary.
use Rattle.arena.specs.Layout.{IsMap}
use Rattle.std.specs.Prelude.{◌≡◌, ℕ, List, Option, Bool}
use Rattle.histories.specs.Common.{Layout, Step, History, Call, Remaining}
use Rattle.dict.specs.Calls.{KeepsEnd, KeepsTriesButOne, call_in, share_of, trie_in}
use Rattle.dict.specs.DictKnown.{DictIsReady, DictWaits, DictAnswers}
use Rattle.dict.specs.Known.{IsUnbegun, MapAnswers}
use Rattle.dict.specs.Typed.{TypedAllows}
use Rattle.dict.specs.Words.{IsWordOf}
use Rattle.dict.specs.declared.dict.DictRun.{DictRun}
use Rattle.dict.specs.WordReplies.{WordReply}
use Rattle.template.specs.Common.{Reply, MapCall}
use Rattle.tables.specs.declared.view.SeatedPass.{SeatedPass}
use Rattle.tables.specs.CallSteps.{HasDictLeft}
use Rattle.tables.specs.Traces.{CallBegins, Ends, HoldsForCall, Trace}

-- a machine that makes this call with this many tries and this share, in the call of this number,
-- has not begun
pub record IsFreshCall {K V : Type 0} (trie : Bool) (call : MapCall) (share : Remaining) (tries number : ℕ) (m : DictRun K V) : Type 0 where
  pub is_call : call_in m.run ≡ call
  pub has_tries : m.tries ≡ tries
  pub has_share : share_of m.run ≡ share
  pub unbegun : IsUnbegun m.run tries number
  -- and is in a trie, or in a tree
  pub in_trie : trie_in m.run ≡ trie

-- `valid` says of a key or a value whether it is one of its type, `word` which its word is.
module _ {K V : Type 0} (valid_key : K → Type 0) (key : K → ℕ) (valid_value : V → Type 0) (value : V → ℕ) where
  -- the runs that a dictionary of such keys and values allows
  abbrev pub DictAllows : Layout → History → ℕ → Type 0
  DictAllows = TypedAllows (IsWordOf valid_key key) (IsWordOf valid_value value)

  -- its machine may be called with this, in this call
  abbrev pub DictCallIsReady : DictRun K V → Call → History → Option ℕ → Type 0
  DictCallIsReady = DictIsReady (IsWordOf valid_key key) (IsWordOf valid_value value)

  -- its machine waits for this step, in this call
  abbrev pub DictCallWaits : DictRun K V → Call → History → Step → Type 0
  DictCallWaits = DictWaits (IsWordOf valid_key key) (IsWordOf valid_value value)

  -- the second machine is of the same call as the first, and has given up one try at most; what is
  -- left of its share ends where it did
  abbrev pub IsSameDictCall : DictRun K V → DictRun K V → Type 0
  IsSameDictCall old now = (call_in now.run ≡ call_in old.run) × (now.tries ≡ old.tries) × KeepsTriesButOne old.run now.run × (trie_in now.run ≡ trie_in old.run) × KeepsEnd old.run now.run

  module _ (c : Call) (ps : List SeatedPass) (first : DictRun K V) where
    -- a call begins with the machine `first`
    abbrev pub SeatDictBegins : Type 0
    SeatDictBegins = CallBegins DictAllows DictCallIsReady HasDictLeft c ps first

    -- the machine inside has ended with this reply, in words
    abbrev pub SeatWordEnds : DictRun K V → WordReply → Type 0
    SeatWordEnds m w = HoldsForCall DictAllows (HasDictLeft first) ps c (λ h. (IsMap c.layout.mode × MapAnswers m.tries m.run c h w) × Trace DictAllows DictCallWaits IsSameDictCall c first m h)

    -- the call has ended with this reply
    abbrev pub SeatDictEnds : DictRun K V → Reply K V → Type 0
    SeatDictEnds = Ends DictAllows DictCallWaits IsSameDictCall HasDictLeft c ps first (DictAnswers valid_key key valid_value value)

  -- a call begins, with whichever machine of it that has not begun
  abbrev pub SeatCallBegins : Bool → Call → List SeatedPass → MapCall → Remaining → ℕ → ℕ → Type 0
  SeatCallBegins trie c ps call share tries number = (first : DictRun K V) → IsFreshCall trie call share tries number first → SeatDictBegins c ps first

  -- A call has ended with this reply: a machine of it has begun it, and one that has so much of the
  -- share left has ended it.
  pub record CallHasEnded (trie : Bool) (c : Call) (ps : List SeatedPass) (call : MapCall) (share : Remaining) (tries number : ℕ) (left : Remaining) (told : Reply K V) : Type 0 where
    pub first : DictRun K V
    pub last : DictRun K V
    pub fresh : IsFreshCall trie call share tries number first
    pub is_left : share_of last.run ≡ left
    pub ends : SeatDictEnds c ps first last told
