-- What the answers of an SCX with a fresh cell say of its SCX-record.
use Rattle.std.proofs.Common.{◌≡◌}
use Rattle.histories.specs.Common.{NodeNo, ScxNo, state, History, value, Call}
use Rattle.template.specs.Common.{PutAnswers, PutRun, Done, Lost}

pub put_committed : (m : PutRun) (call : Call) (h : History) → PutAnswers m call h Done → value h (state m.scx.scx.0) ≡ 1
put_committed m call h x = x.1.done.committed

pub put_aborted : (m : PutRun) (call : Call) (h : History) (node : NodeNo) (scx : ScxNo) → PutAnswers m call h (Lost node scx) → value h (state m.scx.scx.0) ≡ 2
put_aborted m call h node scx x = x.1.aborted
