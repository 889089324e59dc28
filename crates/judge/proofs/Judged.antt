-- One more row of a list.
use Rattle.std.proofs.Common.{◌≡◌, ℕ, zero, suc, ◌+◌, ◌<◌, List, [], ◌∷◌, length, get_or, take, ap, ◌∙◌}
use Rattle.std.proofs.lemmas.Grind.{take_at_read}
use Rattle.histories.specs.Common.{Layout, Row, History, Start, ◌⊳◌, Lawful, IsLawful}
use Rattle.arena.specs.History.{rows_after}
use Rattle.arena.proofs.Lemmas.{rows_after_last}
use Rattle.histories.proofs.Lemmas.{lawful_more, lawful_row, lawful_tail}
use Rattle.judge.specs.Histories.{history_after}

pub past_step : (h : History) (rows : List Row) (k : ℕ) (d : Row) → k < length rows → rows_after h (take (k + 1) rows) ≡ get_or rows k d ⊳ rows_after h (take k rows)
past_step h rows k d l = ap (rows_after h) (take_at_read rows k d l).1 ∙ rows_after_last h (take k rows) (get_or rows k d)

pub lawful_next : (lay : Layout) (rows : List Row) (k : ℕ) (d : Row) → k < length rows → Lawful lay (history_after lay (take k rows)) → IsLawful lay (history_after lay (take k rows)) (get_or rows k d) → Lawful lay (history_after lay (take (k + 1) rows))
lawful_next lay rows k d l before i = rw (past_step (Start lay.mode) rows k d l) (lawful_more lay (history_after lay (take k rows)) (get_or rows k d) before i)

-- and where that is lawful, so is its newest row
pub lawful_newest : (lay : Layout) (rows : List Row) (k : ℕ) (d : Row) → k < length rows → Lawful lay (history_after lay (take (k + 1) rows)) → IsLawful lay (history_after lay (take k rows)) (get_or rows k d)
lawful_newest lay rows k d l after = lawful_row lay (history_after lay (take k rows)) (get_or rows k d) (rw (past_step (Start lay.mode) rows k d l) at after)

-- what begins a lawful run is lawful

lawful_begin : (lay : Layout) (h : History) (rows : List Row) → Lawful lay (rows_after h rows) → Lawful lay h
lawful_begin lay h [] l = l
lawful_begin lay h (r ∷ rows) l = lawful_tail lay h r (lawful_begin lay (r ⊳ h) rows l)

pub lawful_take : (lay : Layout) (h : History) (rows : List Row) (k : ℕ) → Lawful lay (rows_after h rows) → Lawful lay (rows_after h (take k rows))
lawful_take lay h [] zero l = l
lawful_take lay h [] (suc k) l = l
lawful_take lay h (r ∷ rows) zero l = lawful_begin lay h (r ∷ rows) l
lawful_take lay h (r ∷ rows) (suc k) l = lawful_take lay (r ⊳ h) rows k l
