-- What a call of a map comes to at its steps, and to what it comes at none of them.
use Rattle.std.proofs.Common.{◌≡◌, ◌≢◌, ℕ, inr, sym, subst}
use Rattle.histories.specs.Common.{Row, Word, History, ◌⊳◌, Extends, value, marked, state, IsTakenNode, Call}
use Rattle.arena.proofs.Lemmas.{ends_self, ends_trans}
use Rattle.ordered_map.specs.Runs.{IsMapRun}
use Rattle.ordered_map.proofs.MapLemmas.{run_since}
use Rattle.touching.specs.Kinds.{IsNotFinal}
use Rattle.touching.specs.Rests.{AllHaveRested}
use Rattle.touching.specs.Left.{HasLeft, IsNamedByLeft}
use Rattle.touching.specs.Steps.{AllHavePaused, IsMapCall, IsMapStep, IsNotAtNode, IsNotAtScx, MayComeThere, OfEachStep}
use Rattle.touching.specs.Touches.{Touches}
use Rattle.touching.proofs.Calling.{map_touches}
use Rattle.touching.proofs.Dead.{dead_node}
use Rattle.touching.proofs.Left.{left_scx, left_untouched}
use Rattle.touching.proofs.Moments.{touches_so}
use Rattle.touching.proofs.OwnScx.{InTree}
use Rattle.touching.proofs.Present.{there_not_final}
use Rattle.touching.proofs.Storing.{paused_rested}

pub step_touches : (c : Call) (h : History) (r : Row) → IsMapStep c h r → Touches InTree c h r.word
step_touches c h r x = subst (λ (q : Row). Touches InTree c h q.word) (sym x.is) (map_touches x.tries x.machine c h x.step x.waits)

pub call_touches : (c : Call) (h : History) → IsMapCall c h → OfEachStep (MayComeThere InTree) c h
call_touches c h steps r g within since own = step_touches c g r (steps r g within since own)

-- so it comes to nodes alone that were not final
module _ (c : Call) (h : History) (run : IsMapRun c.layout h) (steps : IsMapCall c h) (r : Row) (g : History) (within : Extends h (r ⊳ g)) (since : Extends g c.start) (own : r.pass.0 ≡ c.pass) where
  earlier : Extends h g
  earlier = ends_trans h (r ⊳ g) g within (inr (ends_self g))

  here : IsMapRun c.layout g
  here = run_since c.layout h g run earlier

  open_touched : Touches IsNotFinal c g r.word
  open_touched = touches_so InTree IsNotFinal c g (λ m n e. there_not_final c.layout m n (run_since c.layout g m here e)) r.word (step_touches c g r (steps r g within since own))

  -- all have paused so by then
  paused_then : (t : History) → AllHavePaused c.layout h c.start t → AllHavePaused c.layout g c.start t
  paused_then t x o i = let y = x o i in record { rest = y.rest; within = y.within; since = y.since; over = y.over; fills = λ q k e. y.fills q k (ends_trans h g (q ⊳ k) earlier e) }

  rested_then : (t : History) (n : ℕ) → n ≢ 0 → AllHavePaused c.layout h c.start t → AllHaveRested c.layout g c.start t n
  rested_then t n d x o i = paused_rested c.layout g c.start t n o here.1.lawful since d (paused_then t x o i)

  at_no_dead_node : (t : History) (n : ℕ) → n ≢ 0 → Extends c.start t → value t (marked n) ≢ 0 → AllHavePaused c.layout h c.start t → IsTakenNode c.start n → IsNotAtNode n c g r
  at_no_dead_node t n d after mark paused taken part is = dead_node c g t n here.1.lawful since after mark (rested_then t n d paused) taken (subst (λ (w : Word). Touches IsNotFinal c g w) is open_touched)

  at_no_left_node : (t : History) (n : ℕ) → Extends c.start t → HasLeft t n → value t (marked n) ≡ 0 → IsTakenNode c.start n → IsNotAtNode n c g r
  at_no_left_node t n after gone mark taken part is = left_untouched c g t n here since after gone taken mark (subst (λ (w : Word). Touches InTree c g w) is (step_touches c g r (steps r g within since own)))

  at_no_dead_scx : (t : History) (s : ℕ) → s ≢ 0 → Extends c.start t → value t (state s) ≢ 0 → IsNamedByLeft c.layout t s → IsNotAtScx s c g r
  at_no_dead_scx t s d after over named part is = left_scx c g t s here since after d over named (subst (λ (w : Word). Touches InTree c g w) is (step_touches c g r (steps r g within since own)))

pub no_dead_node : (c : Call) (h t : History) (n : ℕ) → IsMapRun c.layout h → Extends c.start t → n ≢ 0 → value t (marked n) ≢ 0 → IsTakenNode c.start n → AllHavePaused c.layout h c.start t → IsMapCall c h → OfEachStep (IsNotAtNode n) c h
no_dead_node c h t n run after d mark taken paused steps r g within since own = at_no_dead_node c h run steps r g within since own t n d after mark paused taken

pub no_left_node : (c : Call) (h t : History) (n : ℕ) → IsMapRun c.layout h → Extends c.start t → HasLeft t n → value t (marked n) ≡ 0 → IsTakenNode c.start n → IsMapCall c h → OfEachStep (IsNotAtNode n) c h
no_left_node c h t n run after gone mark taken steps r g within since own = at_no_left_node c h run steps r g within since own t n after gone mark taken

pub no_dead_scx : (c : Call) (h t : History) (s : ℕ) → IsMapRun c.layout h → Extends c.start t → s ≢ 0 → value t (state s) ≢ 0 → IsNamedByLeft c.layout t s → IsMapCall c h → OfEachStep (IsNotAtScx s) c h
no_dead_scx c h t s run after d over named steps r g within since own = at_no_dead_scx c h run steps r g within since own t s d after over named
