-- What was found says the map has replied, at a moment of the call.
use Rattle.std.proofs.Common.{◌≡◌, ℕ, ◌^◌, ◌<◌, Bool, true, false, cond, List, [], ◌∷◌, inl, inr, ◌⊎◌, ⊎_elim, Option, Some, None, unwrap_or, sym, ◌∙◌, ap, refl, subst}
use Rattle.histories.specs.Common.{Tree as TreeMode, Side, Left, Right, History, value, Call}
use Rattle.template.specs.Common.{OneValue, pair_or_none, class, get, end_pair, said, Pair, IsAnswerAt, IsMapRun, IsOwnMoment, HasWalked, path_key, asked_key, end_told, FoundBy, HasFoundGoal, Goal, Key as ToKey, End, Rule, Edit, edit_of, edit_to}
use Rattle.template.specs.FoundLeaf.{HasFoundFork}
use Rattle.ordered_map.specs.OrderedMap.{last_pair}
use Rattle.ordered_map.proofs.MapLemmas.{walk_strays}
use Rattle.template.specs.declared.walk.Found.{Found}
use Rattle.template.specs.declared.walk.Way.{Way}
use Rattle.template.proofs.Lemmas.{found_either, found_end, found_gives, found_own, found_small, said_low}
use Rattle.dict.specs.Calls.{IsSmallCall}
use Rattle.dict.specs.Goals.{leaf_told, IsGoalToldAt}

-- At its key

-- from an own moment of the call on the map gave this of the key
pub record HasGiven (c : Call) (h : History) (k : ℕ) (told : Option ℕ) : Type 0 where
  pub first : History
  pub own : IsOwnMoment c first
  pub given : IsAnswerAt c.layout h first k told

-- the pair of a leaf was one of the map, if it has one; so was what it says of a key
leaf_gives : (goal : Goal) (c : Call) (h : History) (f : Found) → path_key goal < 2 ^ 64 → IsMapRun c.layout h → (end : (side : Side) → goal ≡ End side → (v : ℕ) × (f.value ≡ Some v)) → HasFoundGoal goal c h f → HasGiven c h (asked_key goal f.key) f.value
leaf_gives (ToKey k) c h f small run end x = record { first = x.trail.node.first; own = x.trail.node.own; given = found_gives c h k f run small x }
leaf_gives (End side) c h f small run end x =
    let y = found_own side c h f run x low in
    record { first = y.trail.node.first; own = y.trail.node.own; given = found_gives c h f.key f run (found_small (End side) c h f run small x) y }
  where
    some : (v : ℕ) × (f.value ≡ Some v)
    some = end side refl

    low : f.head.class ≡ 0
    low = sym (ap (λ p. p.class) x.head) ∙ said_low (value h) _ f.trail.node.0 some.0 (sym some.1 ∙ x.says)

-- where its key does not share a fork, the map had no such key
fork_gives : (goal : Goal) (c : Call) (h : History) (f : Found) → path_key goal < 2 ^ 64 → IsMapRun c.layout h → HasFoundFork goal c h f → HasGiven c h (asked_key goal f.key) f.value
fork_gives (End side) c h f small run x = absurd x.to_key
fork_gives (ToKey k) c h f small run x = record { first = first; own = x.trail.node.own; given = subst (IsAnswerAt c.layout h first k) (sym x.none) (absent x.trail.node.passed) }
  where
    first : History
    first = x.trail.node.first

    low : class (value h) f.trail.node.0 ≡ 0
    low = ap (λ p. p.class) x.head ∙ x.low

    absent : HasWalked c.layout h first k f.trail.node.0 → IsAnswerAt c.layout h first k None
    absent (inl p) = (walk_strays c.layout h first k f.trail.node.0 small run x.trie p x.fork low x.outside).absent
    absent (inr s) = s.absent

pub found_held : (way : Way) (goal : Goal) (c : Call) (h : History) (f : Found) → path_key goal < 2 ^ 64 → IsMapRun c.layout h → (end : (side : Side) → goal ≡ End side → (v : ℕ) × (f.value ≡ Some v)) → FoundBy way goal c h f → HasGiven c h (asked_key goal f.key) f.value
found_held way goal c h f small run end x = ⊎_elim (leaf_gives goal c h f small run end) (fork_gives goal c h f small run) (found_either way goal c h f x)

-- a map that has a key has a pair at each end
pub some_end : (side : Side) (map : List Pair) (k v : ℕ) → get k map ≡ Some v → (p : Pair) × (end_pair side map ≡ Some p)
some_end side [] k v is = absurd (let x : None ≡ Some v = is in cc)
some_end Left (p ∷ ps) k v is = (p, refl)
some_end Right (p ∷ ps) k v is = (unwrap_or (last_pair ps) p, refl)

-- At its goal

-- what it says the goal finds, the map replied at a moment from an own one of the call on
pub record HasToldGoal (c : Call) (h : History) (goal : Goal) (f : Found) : Type 0 where
  pub first : History
  pub own : IsOwnMoment c first
  pub told : IsGoalToldAt c.layout h first goal (leaf_told goal f)

-- that is sure of a key, and of an end in a tree, or where there is nothing
abbrev pub IsToldSurely : Call → Goal → Found → Type 0
IsToldSurely c (ToKey k) f = Unit {0}
IsToldSurely c (End side) f = (c.layout.mode ≡ TreeMode) ⊎ (f.value ≡ None)

-- so it is where nothing was changed: what goes to an end takes what is there
pub reading_sure : (c : Call) (goal : Goal) (rule : Rule) (f : Found) → IsSmallCall (Edit goal rule) → edit_of (Edit goal rule) (leaf_told goal f) ≡ None → IsToldSurely c goal f
reading_sure c (ToKey k) rule f small none = tt
reading_sure c (End side) rule f small none = go f.value refl
  where
    go : (value : Option ℕ) → f.value ≡ value → IsToldSurely c (End side) f
    go None is = inr is
    go (Some v) is = absurd (let x : Some (edit_to f.key None) ≡ None = rw (small, is) at none in cc)

end_tells : (side : Side) (c : Call) (h : History) (f : Found) → IsMapRun c.layout h → IsToldSurely c (End side) f → HasFoundGoal (End side) c h f ⊎ HasFoundFork (End side) c h f → HasToldGoal c h (End side) f
end_tells side c h f run sure (inr x) = absurd x.to_key
end_tells side c h f run sure (inl x) =
    let z = found_end side c h f run x sure in
    let y = z.2 in
    record { first = z.0; own = z.1; told = record { moment = y.moment; within = y.within; since = y.since; map = y.map; spelled = y.spelled; gives = ap pair_or_none y.is } }

-- whichever it has found
pub found_tells : (way : Way) (goal : Goal) (c : Call) (h : History) (f : Found) → path_key goal < 2 ^ 64 → IsMapRun c.layout h → IsToldSurely c goal f → FoundBy way goal c h f → HasToldGoal c h goal f
found_tells way (End side) c h f small run sure x = end_tells side c h f run sure (found_either way (End side) c h f x)
found_tells way (ToKey k) c h f small run sure x =
    let z = found_held way (ToKey k) c h f small run (λ side e. absurd (let y : ToKey k ≡ End side = e in cc)) x in
    let y = z.given in
    record { first = z.first; own = z.own; told = record { moment = y.moment; within = y.within; since = y.since; map = y.map; spelled = y.spelled; gives = ap OneValue y.gives } }
