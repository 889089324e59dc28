-- Who was in the way of a call on the tree.
use Rattle.std.specs.Prelude.{◌≡◌, ◌≢◌, ◌⊎◌, ℕ, false}
use Rattle.histories.specs.Common.{WasInTheWay, IsOthersScx, History, value, HasHeld, log, is_final, Call, info, state}
use Rattle.prims.specs.FoundThere.{HasFoundThere}
use Rattle.prims.specs.Laws.InTheWay.{HasBeen}
use Rattle.ordered_map.specs.Tries.{HasLostTries}

-- at a moment of the call the node was not final
abbrev pub WasNotFinal : Call → History → ℕ → Type 0
WasNotFinal c h n = HasBeen h c.start (λ m. is_final (log c.layout m) n ≡ false)

-- the SCX-record s has reached the node n since the moment `start`: the info of n names s, or has
-- named it, and had not by then
pub record HasCome (h start : History) (n s : ℕ) : Type 0 where
  pub named : HasHeld h (info n) s
  pub new : ¬ HasHeld start (info n) s

-- s is finished now, or has reached n since the moment `start`
abbrev pub IsOverOrNew : History → History → ℕ → ℕ → Type 0
IsOverOrNew h start n s = (value h (state s) ≢ 0) ⊎ HasCome h start n s

-- The SCX-record s is another pass's, and covered the node n while in progress, after some row
-- since the call's start; it is finished now, or has reached n since then. So successive calls
-- name s no more than once for each node that it covers, and once when it is finished. The
-- call has itself found s in the info of n.
pub record IsContended (c : Call) (h : History) (n s : ℕ) : Type 0 where
  pub others : IsOthersScx c.layout c.pass s
  pub in_the_way : WasInTheWay h c.start n s
  pub over_or_new : IsOverOrNew h c.start n s
  pub found : HasFoundThere c.pass h c.start n s

-- Since the moment `start` the pass c has begun `tries` tries, and lost the newest of them to the
-- SCX-record s over the node n: in that try it has itself found s in the info of n.
pub record HasLostTriesTo (c : ℕ) (now start : History) (tries n s : ℕ) : Type 0 where
  pub lost : HasLostTries c now start tries n s
  pub found : HasFoundThere c now lost.begin n s
