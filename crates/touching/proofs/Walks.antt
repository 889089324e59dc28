-- A walk comes to nodes alone that were in the tree at a moment of its call.
use Rattle.std.proofs.Common.{ℕ, inl}
use Rattle.histories.specs.Common.{Layout, Step, History, Extends, Call, begun_at}
use Rattle.arena.proofs.Lemmas.{ends_self, ends_trans}
use Rattle.ordered_map.specs.Runs.{IsMapRun}
use Rattle.ordered_map.proofs.MapLemmas.{walk_first, walked_since}
use Rattle.template.specs.FoundLeaf.{path_key}
use Rattle.template.specs.Trails.{WasPassed}
use Rattle.template.specs.Walk.Known.{WalkKnows, WalkWaits}
use Rattle.template.specs.Walk.Places.{IsPastRoot}
use Rattle.template.specs.declared.walk.WalkRun.{WalkRun}
use Rattle.template.specs.declared.walk.WalkAt.{WalkAt}
use Rattle.template.specs.declared.walk.WalkAt.TheVariants.{Start, Root, Head, Key, Child, More, Pair, Value, High}
use Rattle.template.proofs.Lemmas.{own_since}
use Rattle.touching.specs.Touches.{WasSo}
use Rattle.touching.proofs.Finding.{Finds, found_so}
use Rattle.touching.proofs.Present.{HasTree, stood_so}

-- the root always is
pub root_so : (P : Layout → History → ℕ → Type 0) → HasTree P → (c : Call) (h : History) → IsMapRun c.layout h → Extends h c.start → WasSo P c h 0
root_so P kind c h run e = stood_so P kind c h run h 0 e (walked_since c.layout h h 0 0 (inl (walk_first c.layout h 0 run)))

-- the walk may be that of a part of a call, which began at `begin`
module _ (P : Layout → History → ℕ → Type 0) (kind : HasTree P) (c : Call) (begin h : History) (run : IsMapRun c.layout h) where
  -- what it has passed on its way to a key was in the tree in the call
  pub passed_so : (k n : ℕ) → Extends begin c.start → WasPassed (begun_at c begin) h k n → WasSo P c h n
  passed_so k n e x = stood_so P kind c h run x.first n (ends_trans x.first begin c.start (own_since (begun_at c begin) x.first x.own) e) (walked_since c.layout h x.first k n x.passed)

  module _ (m : WalkRun) (since : Extends h c.start) where
    here_so : (at : WalkAt) → (IsPastRoot at → Extends begin c.start) → WalkKnows (begun_at c begin) h m at → WasSo P c h m.trail.node.0
    here_so Start e k = absurd k
    here_so Root e k = rw k (root_so P kind c h run since)
    here_so (Head above) e k = passed_so (path_key m.goal) m.trail.node.0 (e tt) k.0.node
    here_so (Key head) e k = passed_so (path_key m.goal) m.trail.node.0 (e tt) k.0.node
    here_so (Child low side) e k = passed_so (path_key m.goal) m.trail.node.0 (e tt) k.0.node
    here_so (More head) e k = passed_so (path_key m.goal) m.trail.node.0 (e tt) k.trail.node
    here_so (Pair head more slot) e k = passed_so (path_key m.goal) m.trail.node.0 (e tt) k.0.trail.node
    here_so (Value head more slot key) e k = passed_so (path_key m.goal) m.trail.node.0 (e tt) k.0.trail.node
    here_so (High head more slot key low) e k = passed_so (path_key m.goal) m.trail.node.0 (e tt) k.0.trail.node

    -- so it finds what it loads
    pub walk_in_call : (s : Step) → (IsPastRoot m.at → Extends begin c.start) → WalkWaits m (begun_at c begin) h s → Finds P c h s.word
    walk_in_call s e w = rw w.asked (found_so (here_so m.at e w.known))

pub walk_finds : (P : Layout → History → ℕ → Type 0) → HasTree P → (m : WalkRun) (c : Call) (h : History) (s : Step) → WalkWaits m c h s → Finds P c h s.word
walk_finds P kind m c h s w = walk_in_call P kind c c.start h w.run m w.since s (λ past. ends_self c.start) w
