-- A walk to an end of a trie, and the keys of the leaf that it has found: it has come to that on
-- their way too.
use Rattle.std.proofs.Common.{◌≡◌, ◌≢◌, ℕ, ◌^◌, ◌<◌, inl, ne_eqb, refl, sym, ◌∙◌}
use Rattle.arena.specs.declared.limits.Mode.TheVariants.{Trie as TrieMode}
use Rattle.histories.specs.Common.{Side, Left, History, value, Extends, Call}
use Rattle.arena.proofs.Lemmas.{ends_self}
use Rattle.template.specs.Common.{IsMapRun, class, WasPassed, HasTurned}
use Rattle.ordered_map.specs.Paths.{HasHadChild, end_key}
use Rattle.ordered_map.specs.Strays.{IsApart}
use Rattle.ordered_map.specs.TrieShape.{Stays}
use Rattle.ordered_map.proofs.Lemmas.{same_stays}
use Rattle.ordered_map.proofs.MapLemmas.{near_stays, near_too, near_turn, run_since, stays_passed, stood_settled, stood_turns, walked_since, walked_stood}

-- where a fork that was passed on the way to an end has had below it what is not apart from a key
module _ (end : Side) (c : Call) (h : History) (k n : ℕ) (side : Side) (next : ℕ) (small : k < 2 ^ 64) (run : IsMapRun c.layout h) (x : HasTurned c h (end_key end) n side next) where
  -- above all keys it has turned to the left
  pub to_left : class (value h) n ≢ 0 → side ≡ Left
  to_left high = sym x.side_is ∙ stood_turns end c.layout h n run (walked_stood c.layout h x.passed.first (end_key end) n x.passed.passed) x.fork ∙ rw (ne_eqb (class (value h) n) 0 high) refl

  pub had : HasHadChild h n side next
  had = let s = x.shown in record { moment = s.moment; within = s.within; stood = walked_stood c.layout s.moment s.passed.first (end_key end) n s.passed.passed; held = s.held }

  module _ (trie : c.layout.mode ≡ TrieMode) (near : ¬ IsApart (value h) next k) where
    -- the fork is not apart from the key either, which stays at it
    pub still_near : ¬ IsApart (value h) n k
    still_near = near_too c.layout h k n side next small trie run x.fork had to_left near

    pub stays_at : Stays c.layout (value h) k n
    stays_at = near_stays c.layout h k n side next small trie run x.fork had to_left near

    passed_then : (m : History) → Extends h m → WasPassed c m (end_key end) n → WasPassed c m k n
    passed_then m within p = record {
      first = p.first;
      own = p.own;
      passed = inl (stays_passed c.layout m p.first k n small trie (run_since c.layout h m run within) (walked_since c.layout m p.first (end_key end) n p.passed)
          (same_stays (value h) (value m) c.layout k n (λ part i. sym (stood_settled c.layout h m n run within (walked_stood c.layout m p.first (end_key end) n p.passed) part i)) stays_at));
    }

    -- it was passed on the way to the key
    pub turned_in_trie : HasTurned c h k n side next
    turned_in_trie = record {
      passed = passed_then h (ends_self h) x.passed;
      fork = x.fork;
      side_is = near_turn c.layout h k n side next small trie run x.fork had to_left near;
      shown = let s = x.shown in record { moment = s.moment; within = s.within; own = s.own; passed = passed_then s.moment s.within s.passed; held = s.held };
    }
