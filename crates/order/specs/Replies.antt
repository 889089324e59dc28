-- What an ordered read replies, and when it is contended.
use Rattle.std.specs.Prelude.{◌≡◌, ℕ, suc, ◌⊎◌, List}
use Rattle.histories.specs.Common.{History, value, Extends, Call, MatchTurn, Turn}
use Rattle.template.specs.Common.{Pair, MapCall, MapReply, reply, Spells, IsContended, IsOwnMoment}

-- at a moment of the call, from an own row on, the words spell a map that replies this
pub record IsReplyAt (c : Call) (h : History) (call : MapCall) (told : MapReply) : Type 0 where
  pub moment : History
  pub within : Extends h moment
  pub first : History
  pub own : IsOwnMoment c first
  pub since : Extends moment first
  pub map : List Pair
  pub spelled : Spells c.layout (value moment) map
  pub gives : reply call map ≡ told

-- one try fewer is left, and this SCX-record over this node was in the way of the call
pub record GivesUpOne (c : Call) (h : History) (before now : ℕ) : Type 0 where
  pub one : suc now ≡ before
  pub node : ℕ
  pub scx : ℕ
  pub way : IsContended c h node scx

-- A turn keeps the tries that were left, or it asks for a step and gives up one. So an answer gives
-- up none: it says of a run with no try left that none was left before.
abbrev pub KeepsTries : {A : Type 0} → Call → History → ℕ → ℕ → Turn A → Type 0
KeepsTries c h before now turn = (now ≡ before) ⊎ MatchTurn turn (λ _. GivesUpOne c h before now) (λ _. ⊥)
