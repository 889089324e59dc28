-- The rules of `range`.
use Rattle.std.specs.Prelude.{◌≡◌, ℕ, [], Option}
use Rattle.histories.specs.Common.{Layout, History}
use Rattle.ordered_map.specs.CallRules.{TakesNothing}
use Rattle.ordered_map.specs.declared.reply.Reply.TheVariants.{Pairs, Contended, NoMemory}
use Rattle.record.specs.declared.record.Answer.{Answer}
use Rattle.record.specs.declared.record.Answer.TheVariants.{Map}
use Rattle.record.specs.Answers.{HasLostAllTries}
use Rattle.record.specs.Rules.{MapRules}

-- one that takes nothing answers so at once; any other may be refused memory before its first step
abbrev pub RangeAtOnce : ℕ → ℕ → ℕ → Answer → Type 0
RangeAtOnce low high most (Map (Pairs found)) = TakesNothing low high most × (found.items ≡ [])
RangeAtOnce low high most (Map NoMemory) = ¬ TakesNothing low high most
RangeAtOnce low high most _ = ⊥

-- what its answers say
abbrev pub RangeIsRight : Layout → ℕ → ℕ → History → History → (ℕ → Option History) → Answer → Type 0
-- of one that answers pairs, where it took place says all
RangeIsRight lay tries c now start linked (Map (Pairs found)) = Unit {0}
RangeIsRight lay tries c now start linked (Map (Contended node scx)) = HasLostAllTries lay tries c now start node.0 scx.0
RangeIsRight lay tries c now start linked (Map NoMemory) = Unit {0}
RangeIsRight lay tries c now start linked _ = ⊥

-- what a record says of a range of these
abbrev pub range_rules : ℕ → ℕ → ℕ → MapRules
range_rules low high most = record {
  IsAtOnce = RangeAtOnce low high most;
  IsRight = RangeIsRight;
}
