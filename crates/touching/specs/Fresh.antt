-- What a call may still touch of what was finished as it began.
use Rattle.std.specs.Prelude.{◌≡◌, ℕ, false}
use Rattle.histories.specs.Common.{History, value, info, log, is_final, Call}
use Rattle.prims.specs.Laws.InTheWay.{HasBeen}

-- in the call the info of a node named the SCX-record, and as it began the node was not final
pub record WasNamedInCall (c : Call) (h : History) (s : ℕ) : Type 0 where
  pub node : ℕ
  pub not_final : is_final (log c.layout c.start) node ≡ false
  pub named : HasBeen h c.start (λ m. value m (info node) ≡ s)
