-- What no pass comes to any more.
use Rattle.std.specs.Prelude.{◌≡◌, ℕ}
use Rattle.histories.specs.Common.{Layout, Row, History, ◌⊳◌, Extends}
use Rattle.ordered_map.specs.Runs.{IsMapRun}
use Rattle.resting.specs.Records.{Record, record_of}
use Rattle.resting.specs.Rests.{HaveRestedAt}

-- The record is out of reach. `last` says for each pass a moment at which it has rested, be it the
-- last one or not: since then its rows are steps of calls that began since, or pass over names.
-- However the run goes on from h by such rows, no row that a pass has made from that moment on is
-- of a word of the record. This says nothing of a run in which those are no rests: so
-- `HaveRestedAt lay h last` is to be kept beside it.
abbrev pub IsOutOfReach : Layout → History → (ℕ → History) → Record → Type 0
IsOutOfReach lay h last x = (k g : History) (r : Row) → Extends k h → IsMapRun lay k → HaveRestedAt lay k last → Extends k (r ⊳ g) → Extends g (last r.pass.0) → ¬ (record_of r.word ≡ x)
