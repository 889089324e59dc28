-- What a snapshot of a fork shows that a call has passed.
use Rattle.std.proofs.Common.{◌≡◌, ◌≢◌, ℕ, ◌<◌, sym, ◌∙◌, subst, arith}
use Rattle.histories.specs.Common.{Side, Left, Right, History, value, Call, child}
use Rattle.arena.proofs.Lemmas.{ends_self}
use Rattle.template.specs.Common.{child_of, Snap, WasInTree, IsMapRun, level, HasTurned, Goal}
use Rattle.ordered_map.proofs.Lemmas.{settled_level}
use Rattle.ordered_map.proofs.MapLemmas.{child_stood, children_apart, levels_rise, run_since, stood_settled, walked_stood}
use Rattle.template.specs.declared.walk.Found.{Found}
use Rattle.template.specs.declared.walk.Way.{Way}
use Rattle.edits.specs.Known.{HasSnappedAfterWalk}

module _ {way : Way} {goal : Goal} (c : Call) (h : History) (k : ℕ) (f : Found) (s : Snap) (turn : Side) (next : ℕ) (run : IsMapRun c.layout h) (u : HasSnappedAfterWalk c h way goal f s) (turned : HasTurned c u.moment k s.node.0 turn next) where
  then : IsMapRun c.layout u.moment
  then = run_since c.layout h u.moment run u.within

  stood : WasInTree u.moment s.node.0
  stood = walked_stood c.layout u.moment turned.passed.first k s.node.0 turned.passed.passed

  field_is : (side : Side) → value u.moment (child s.node.0 side) ≡ (child_of s side).0
  field_is side = u.is.linked.fields side u.is.info

  child_there : (side : Side) → WasInTree u.moment (child_of s side).0
  child_there side = subst (WasInTree u.moment) (field_is side) (child_stood c.layout u.moment u.moment s.node.0 side then (ends_self u.moment) stood u.is.not_final turned.fork)

  -- both children were in the tree
  pub shown_stood : (side : Side) → WasInTree h (child_of s side).0
  shown_stood side = subst (WasInTree h) (field_is side) (child_stood c.layout h u.moment s.node.0 side run u.within stood u.is.not_final turned.fork)

  -- they are below the fork
  pub shown_rises : (side : Side) → level (value h) s.node.0 < level (value h) (child_of s side).0
  shown_rises side =
      let low : level (value u.moment) s.node.0 < level (value u.moment) (child_of s side).0 = subst (λ n. level (value u.moment) s.node.0 < level (value u.moment) n) (field_is side) (levels_rise c.layout u.moment s.node.0 side then stood turned.fork) in
      let a : level (value h) s.node.0 ≡ level (value u.moment) s.node.0 = settled_level (value u.moment) (value h) s.node.0 (stood_settled c.layout h u.moment s.node.0 run u.within stood) in
      let b : level (value h) (child_of s side).0 ≡ level (value u.moment) (child_of s side).0 = settled_level (value u.moment) (value h) (child_of s side).0 (stood_settled c.layout h u.moment (child_of s side).0 run u.within (child_there side)) in
      omega (arith, low, a, b)

  -- and differ
  pub shown_apart : (child_of s Left).0 ≢ (child_of s Right).0
  shown_apart e = children_apart c.layout u.moment s.node.0 then stood u.is.not_final turned.fork (field_is Left ∙ e ∙ sym (field_is Right))
