use Rattle.std.proofs.Common.{◌≡◌, ℕ, ◌<◌, get_or}
use Rattle.histories.specs.Common.{has, member, scx_finalizes}
use Rattle.judge.specs.Histories.{seen_history}
use Rattle.audit.proofs.cells.is_over.Given as goal

abbrev pub invariant-loop-place : goal.invariant-loop-place
invariant-loop-place l = (i : ℕ) → i < l.place → (member (seen_history l.judge) l.scx.0 i ≡ get_or l.cells i 0) × (scx_finalizes (seen_history l.judge) l.scx.0 i ≡ has l.finalized (get_or l.cells i 0))
