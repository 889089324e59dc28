-- Nodes that an LLX may look at: those that have been in the tree, as the leaf that a walk has
-- found and its parent.
use Rattle.std.proofs.Common.{ℕ}
use Rattle.histories.specs.Common.{IsNamed, History, Call}
use Rattle.template.specs.Common.{IsOpened, IsMapRun, HasFoundGoal, path_key, WasPassed, Goal}
use Rattle.ordered_map.proofs.MapLemmas.{walked_stood}
use Rattle.template.specs.declared.walk.Found.{Found}
use Rattle.template.proofs.Lemmas.{opened_if_stood, passed_named}

module _ (goal : Goal) (c : Call) (h : History) (run : IsMapRun c.layout h) where
  passed_opened : (n : ℕ) → WasPassed c h (path_key goal) n → IsOpened c.layout h n
  passed_opened n p = opened_if_stood c.layout h n run (walked_stood c.layout h p.first (path_key goal) n p.passed)

  module _ (f : Found) (a : HasFoundGoal goal c h f) where
    -- passes other than its owner may know the leaf
    pub found_named : IsNamed c.layout h f.trail.node.0
    found_named = passed_named c h (path_key goal) f.trail.node.0 run a.trail.node

    -- an LLX may look at the leaf
    pub found_opened : IsOpened c.layout h f.trail.node.0
    found_opened = passed_opened f.trail.node.0 a.trail.node
