-- The rules of `successor` and `predecessor`.
use Rattle.std.specs.Prelude.{ℕ, Option}
use Rattle.histories.specs.Common.{Layout, History}
use Rattle.ordered_map.specs.declared.reply.Reply.TheVariants.{Pair, Contended, NoMemory}
use Rattle.record.specs.declared.record.Answer.{Answer}
use Rattle.record.specs.declared.record.Answer.TheVariants.{Map}
use Rattle.record.specs.Answers.{HasLostAllTries}
use Rattle.record.specs.Rules.{MapRules}

-- it may be refused memory before its first step
abbrev pub NeighbourAtOnce : Answer → Type 0
NeighbourAtOnce (Map NoMemory) = Unit {0}
NeighbourAtOnce _ = ⊥

-- what its answers say
abbrev pub NeighbourIsRight : Layout → ℕ → ℕ → History → History → (ℕ → Option History) → Answer → Type 0
-- of one that answers a pair, or none, where it took place says all
NeighbourIsRight lay tries c now start linked (Map (Pair found)) = Unit {0}
NeighbourIsRight lay tries c now start linked (Map (Contended node scx)) = HasLostAllTries lay tries c now start node.0 scx.0
NeighbourIsRight lay tries c now start linked (Map NoMemory) = Unit {0}
NeighbourIsRight lay tries c now start linked _ = ⊥

-- what a record says of either
abbrev pub neighbour_rules : MapRules
neighbour_rules = record {
  IsAtOnce = NeighbourAtOnce;
  IsRight = NeighbourIsRight;
}
