-- Who was in the way of a call at a node that it has passed, and whose snapshot it has taken.
use Rattle.std.proofs.Common.{◌≡◌, ◌≢◌, ℕ, false, sym, ◌∙◌, subst}
use Rattle.histories.specs.Common.{WasInTheWay, History, value, log, is_final, Call, state, Side}
use Rattle.arena.proofs.Lemmas.{ends_self, ends_trans}
use Rattle.histories.proofs.Lemmas.{state_since}
use Rattle.prims.specs.Laws.Blamed.{way_since}
use Rattle.prims.specs.Laws.FoundThere.{there_later}
use Rattle.prims.specs.Laws.Idle.{IsQuietSince}
use Rattle.template.specs.Common.{child_of, Snap, IsMapRun, IsContended, WasNotFinal, HasTurned, Goal}
use Rattle.ordered_map.proofs.MapLemmas.{child_not_final, path_not_final, run_since, walked_stood}
use Rattle.template.specs.Trails.{WasOn}
use Rattle.template.specs.declared.walk.Found.{Found}
use Rattle.template.specs.declared.walk.Way.{Way}
use Rattle.template.proofs.Lemmas.{own_since, turned_lost, way_contended}
use Rattle.edits.specs.Known.{HasSnappedAfterWalk}

-- a node to which the call has surely come was in the tree then, and so was not final
pub passed_not_final : (c : Call) (h : History) (k n : ℕ) → IsMapRun c.layout h → WasOn c h k n → WasNotFinal c h n
passed_not_final c h k n run x = record {
  moment = x.passed.0;
  within = x.passed.1;
  since = ends_trans x.passed.0 x.first c.start x.passed.2 (own_since c x.first x.own);
  was = path_not_final c.layout x.passed.0 k n (run_since c.layout h x.passed.0 run x.passed.1) x.passed.3;
}

-- If the call went down by a field of a fork, the fork had no final node in its fields as long as
-- it was not final: what a snapshot of it shows was not final then.
pub shown_not_final : {way : Way} {goal : Goal} (c : Call) (h : History) (k : ℕ) (f : Found) (snap : Snap) (turn side : Side) (next : ℕ) → IsMapRun c.layout h → (x : HasSnappedAfterWalk c h way goal f snap) → HasTurned c x.moment k snap.node.0 turn next → WasNotFinal c h (child_of snap side).0
shown_not_final c h k f snap turn side next run x turned = record {
  moment = x.moment;
  within = x.within;
  since = x.since;
  was = subst (λ n. is_final (log c.layout x.moment) n ≡ false) (x.is.linked.fields side x.is.info)
      (child_not_final c.layout x.moment snap.node.0 side (run_since c.layout h x.moment run x.within) (walked_stood c.layout x.moment turned.passed.first k snap.node.0 turned.passed.passed) x.is.not_final turned.fork);
}

-- If the call went down by a field of a fork, and its snapshot of the fork shows another node
-- there, what the snapshot found in the fork's info was in the way.
pub turned_contended : {way : Way} {goal : Goal} (c : Call) (h : History) (k : ℕ) (f : Found) (snap : Snap) (side : Side) (next : ℕ) → IsMapRun c.layout h → IsQuietSince c.layout c.pass c.start h → (x : HasSnappedAfterWalk c h way goal f snap) → HasTurned c x.moment k snap.node.0 side next → (child_of snap side).0 ≢ next → IsContended c h snap.node.0 snap.scx.0
turned_contended c h k f snap side next run quiet x turned d = way_contended c h c.start snap.node.0 snap.scx.0 run.1.lawful quiet (ends_self c.start) way over (there_later c.pass h x.moment c.start snap.node.0 snap.scx.0 x.within x.met)
  where
    way : WasInTheWay h c.start snap.node.0 snap.scx.0
    way = way_since h x.moment c.start snap.node.0 snap.scx.0 x.within
        (subst (WasInTheWay x.moment c.start snap.node.0) x.is.info
        (turned_lost c x.moment k snap.node.0 side next (run_since c.layout h x.moment run x.within) turned (λ e. d (sym (x.is.linked.fields side x.is.info) ∙ e))))

    over : value h (state snap.scx.0) ≢ 0
    over z = x.is.linked.rest (sym (state_since c.layout h x.moment snap.scx.0 run.1.lawful x.within x.is.linked.rest) ∙ z)
