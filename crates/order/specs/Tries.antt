-- The tries of an ordered read: it begins one with the load of the root's head, and is in it from
-- then on, until it begins the next.
use Rattle.std.specs.Prelude.{ℕ}
use Rattle.histories.specs.Common.{History, Extends, Call}
use Rattle.prims.specs.Laws.Idle.{IsQuietSince}
use Rattle.template.specs.Common.{IsNewestTry, MayTryNext}

-- The call is about to begin a try, of `limit` in all, after which `left` will be left: it has lost
-- all others. None of its pass's SCX-records was in progress since the call began.
pub record BeginsTry (c : Call) (h : History) (limit left : ℕ) : Type 0 where
  pub since : Extends h c.start
  pub quiet : IsQuietSince c.layout c.pass c.start h
  pub next : MayTryNext c h limit left

-- The call is in the try that it was about to begin at the moment `begin`, which is its newest.
pub record IsInTry (c : Call) (h begin : History) (limit left : ℕ) : Type 0 where
  pub begins : BeginsTry c begin limit left
  pub quiet : IsQuietSince c.layout c.pass c.start h
  pub newest : IsNewestTry c.pass h begin
