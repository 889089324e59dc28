use Rattle.std.proofs.Common.{◌≡◌, ◌≢◌, ℕ, Some, None, IsSome, refl, sym, ◌∙◌}
use Rattle.std.specs.Ordering.{nat_cmp}
use Rattle.std.specs.BTreeMap.{get}
use Rattle.linearization.proofs.Chains.{compares_not}
use Rattle.linearization.proofs.Keys.{keys_more, still_some, still_none, newest_key}
use Rattle.linearization.proofs.places.Places.new.Goals.{in-Some+in_ok-insert, in_default}
use Rattle.linearization.proofs.places.Places.new.Goals as goal

pub loop-call-preserved : goal.loop-call-preserved
loop-call-preserved c = elim c.match-changed_key.branch [
  | in-Some+in_ok-insert w ↦ (
      let old = get nat_cmp c.loop-call.newest in
      let new = get nat_cmp w.insert.new.self in
      let own : new w.in-Some.key ≡ Some None = w.in_ok-insert.ensures.updates.1 in
      let others : (key : ℕ) → w.in-Some.key ≢ key → new key ≡ old key = λ key ne. w.in_ok-insert.ensures.updates.2 key (compares_not w.in-Some.key key ne) in
      rw w.newest-is (record {
        none = still_none old new w.in-Some.key own others c.loop-call.invariant.none;
        keys = keys_more (λ key. IsSome (old key)) (λ key. IsSome (new key)) c.loop-call.call-index c.args.calls.now (still_some old new w.in-Some.key None own others) (newest_key (λ key. IsSome (new key)) c.args.calls.now c.loop-call.call-index c.call-item.result (Some w.in-Some.key) c.loop-call-test.true c.call-item.is (sym w.in-Some.is ∙ c.changed_key.ensures) (rw own refl)) c.loop-call.invariant.keys;
      }))
  | in_default w ↦ rw w.newest-is (record {
    none = c.loop-call.invariant.none;
    keys = keys_more _ _ c.loop-call.call-index c.args.calls.now (λ key x. x) (newest_key (λ key. IsSome (get nat_cmp c.loop-call.newest key)) c.args.calls.now c.loop-call.call-index c.call-item.result None c.loop-call-test.true c.call-item.is (sym w.in_default.is ∙ c.changed_key.ensures) tt) c.loop-call.invariant.keys;
  })
]
