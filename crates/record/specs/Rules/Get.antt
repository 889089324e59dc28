-- The rules of `get`.
use Rattle.std.specs.Prelude.{ℕ, Option}
use Rattle.histories.specs.Common.{Layout, History}
use Rattle.ordered_map.specs.Paths.{IsAnswerAt}
use Rattle.ordered_map.specs.declared.reply.Reply.TheVariants.{Value}
use Rattle.record.specs.declared.record.Answer.{Answer}
use Rattle.record.specs.declared.record.Answer.TheVariants.{Map}
use Rattle.record.specs.Rules.{MapRules}

-- at a moment of the call, or just before its first turn, the map that the words spelled had this
-- at the key
abbrev pub GetIsRight : ℕ → Layout → ℕ → History → History → (ℕ → Option History) → Answer → Type 0
GetIsRight key lay c now start linked (Map (Value answer)) = IsAnswerAt lay now start key answer
GetIsRight key lay c now start linked _ = ⊥

-- what a record says of a get of the key
abbrev pub get_rules : ℕ → MapRules
get_rules key = record {
  IsAtOnce = λ answer. ⊥;
  IsRight = λ lay tries. GetIsRight key lay;
}
