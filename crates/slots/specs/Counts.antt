-- The words behind the table's, in which the passes count their rests, and what others learn there.
use Rattle.std.specs.Prelude.{◌≡◌, ◌≢◌, ◌+◌, ◌*◌, ◌<◌, ◌≤◌, ℕ, suc, Bool, true, false, if◌then◌else◌, ◌==◌, List, length, slice_index}
use Rattle.arena.specs.ScxRecords.{bit}
use Rattle.histories.specs.Common.{Layout, History, Extends, table_size}
use Rattle.prims.specs.Moments.{AreFinished}
use Rattle.resting.specs.Rests.{HaveMovedOn}
use Rattle.slots.specs.Held.{Held}
use Rattle.slots.specs.Lasting.{Lasting}
use Rattle.slots.specs.Window.{IsWindow}

-- how often each pass has rested, and whether it is away
pub record Tally : Type 0 where
  pub count : ℕ → ℕ
  pub away : ℕ → Bool

-- nobody has rested, and none is away
abbrev pub no_rests : Tally
no_rests = record { count = λ o. 0; away = λ o. false }

-- where the pass counts: behind the table's words each has eight of its own
abbrev pub rests_place : Layout → ℕ → ℕ
rests_place table o = table_size table + 8 * o

-- what it has there: twice how often it has rested, and one more while it is away
abbrev pub rests_word : Tally → ℕ → ℕ
rests_word tally o = 2 * tally.count o + bit (tally.away o)

-- The words count the rests of all passes, and a pass that is away has finished all its
-- SCX-records.
pub record CountsRests (t : Lasting) (words : List ℕ) (h : History) (tally : Tally) : Type 0 where
  pub room : table_size t.table + 8 * t.lay.passes ≤ length words
  pub holds : (o : ℕ) → o < t.lay.passes → slice_index words (rests_place t.table o) ≡ rests_word tally o
  pub between : (o : ℕ) → o < t.lay.passes → tally.away o ≡ true → AreFinished t.lay o 0 h

-- the tally with one rest more of the pass, which is not away
abbrev pub after_rest : Tally → ℕ → Tally
after_rest tally o = record { count = λ p. if p == o then suc (tally.count p) else tally.count p; away = λ p. if p == o then false else tally.away p }

-- the tally once the pass is away
abbrev pub after_leaving : Tally → ℕ → Tally
after_leaving tally o = record { count = tally.count; away = λ p. if p == o then true else tally.away p }

-- the moments of the rests, but this one of the pass o
abbrev pub with_rest : (ℕ → History) → ℕ → History → ℕ → History
with_rest last o m p = if p == o then m else last p

-- The pass o has rested so often, or more often: then the last time at the moment m or behind it.
-- So it is if at m, or behind it, the pass was seen to have rested so often.
pub record HasSeenRests (h : History) (last : ℕ → History) (tally : Tally) (o : ℕ) (m : History) (seen : ℕ) : Type 0 where
  pub within : Extends h m
  pub so_often : seen ≤ tally.count o
  pub since : seen < tally.count o → Extends (last o) m

-- What a look at the word of the pass o tells: it has rested at the moment m or behind it, by
-- moments that have moved on for this pass alone, and for it only if it is away.
pub record HasPolled (t : Lasting) (words : List ℕ) (h : History) (last : ℕ → History) (held : Held) (tally : Tally) (o : ℕ) (m : History) : Type 0 where
  pub next : ℕ → History
  pub moved : HaveMovedOn t.lay h last next
  pub window : IsWindow t words h next held
  pub since : Extends (next o) m
  pub others : (p : ℕ) → p ≢ o → next p ≡ last p
  pub stays : tally.away o ≡ false → next o ≡ last o
