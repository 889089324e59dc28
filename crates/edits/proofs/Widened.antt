-- What a try has found its call has found.
use Rattle.std.proofs.Common.{ℕ, inl, inr}
use Rattle.histories.specs.Common.{Side, History, Extends, Call, begun_at}
use Rattle.arena.proofs.Lemmas.{ends_trans}
use Rattle.template.specs.Common.{HasFoundGoal, HasFoundFork, FoundBy, path_key, IsOwnMoment, WasPassed, HasTurned, Goal}
use Rattle.template.specs.Trails.{OnTrail}
use Rattle.template.specs.declared.walk.Trail.{Trail}
use Rattle.template.specs.declared.walk.Way.{Way}
use Rattle.template.specs.declared.walk.Way.TheVariants.{InTree, InTrie, Within}
use Rattle.template.specs.declared.walk.Found.{Found}

module _ (c : Call) (b : History) (since : Extends b c.start) where
  own_wider : (h : History) → IsOwnMoment (begun_at c b) h → IsOwnMoment c h
  own_wider h x = record { row = x.row; before = x.before; is = x.is; since = ends_trans x.before b c.start x.since since; own = x.own }

  passed_wider : (h : History) (k n : ℕ) → WasPassed (begun_at c b) h k n → WasPassed c h k n
  passed_wider h k n x = record { first = x.first; own = own_wider x.first x.own; passed = x.passed }

  turned_wider : (h : History) (k n : ℕ) (side : Side) (next : ℕ) → HasTurned (begun_at c b) h k n side next → HasTurned c h k n side next
  turned_wider h k n side next x = record {
    passed = passed_wider h k n x.passed;
    fork = x.fork;
    side_is = x.side_is;
    shown = record {
      moment = x.shown.moment;
      within = x.shown.within;
      own = own_wider x.shown.moment x.shown.own;
      passed = passed_wider x.shown.moment k n x.shown.passed;
      held = x.shown.held;
    };
  }

  trail_wider : (h : History) (k : ℕ) (t : Trail) → OnTrail (begun_at c b) h k t → OnTrail c h k t
  trail_wider h k t x = record {
    node = passed_wider h k t.node.0 x.node;
    parent = λ d. turned_wider h k t.parent.0 t.side t.node.0 (x.parent d);
    grand = λ d p. turned_wider h k t.grand.0 t.grand_side t.parent.0 (x.grand d p);
    high = x.high;
  }

  pub found_wider : (h : History) (goal : Goal) (f : Found) → HasFoundGoal goal (begun_at c b) h f → HasFoundGoal goal c h f
  found_wider h goal f x = record {
    trail = trail_wider h (path_key goal) f.trail x.trail;
    leaf = x.leaf;
    head = x.head;
    deep = x.deep;
    more = x.more;
    none = x.none;
    key = x.key;
    says = x.says;
  }

  fork_wider : (h : History) (goal : Goal) (f : Found) → HasFoundFork goal (begun_at c b) h f → HasFoundFork goal c h f
  fork_wider h goal f x = record {
    trie = x.trie;
    to_key = x.to_key;
    trail = trail_wider h (path_key goal) f.trail x.trail;
    below = x.below;
    stays = x.stays;
    fork = x.fork;
    head = x.head;
    low = x.low;
    key = x.key;
    small = x.small;
    outside = x.outside;
    none = x.none;
  }

  pub found_by_wider : (h : History) (way : Way) (goal : Goal) (f : Found) → FoundBy way goal (begun_at c b) h f → FoundBy way goal c h f
  found_by_wider h InTree goal f x = found_wider h goal f x
  found_by_wider h InTrie goal f x = found_wider h goal f x
  found_by_wider h Within goal f (inl x) = inl record { found = found_wider h goal f x.found; stays = x.stays }
  found_by_wider h Within goal f (inr x) = inr (fork_wider h goal f x)
