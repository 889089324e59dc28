-- A seat at a table.
use Rattle.std.specs.Prelude.{◌≡◌, ℕ}
use Rattle.atomic_table.specs.declared.shared.Seat.{Seat}
use Rattle.tables.specs.declared.view.SeatView.{SeatView}
use Rattle.tables.specs.declared.words.Words.{Words}
use Rattle.tables.specs.Traces.{kept_of}

-- the seat is at the table that has these words
abbrev pub IsSeatAt : {S : Type 0} → Words S → Seat ℕ SeatView → Type 0
IsSeatAt words seat = seat.table_id ≡ words.table.shared.table_id

-- the seat is still at the same table, and has no other slots of it than before
abbrev pub IsSameSeat : Seat ℕ SeatView → Seat ℕ SeatView → Type 0
IsSameSeat old new = (new.table_id ≡ old.table_id) × (new.me.1 ≡ old.me.1)

-- so it is, and its pass remembers what it did
abbrev pub StaysAtTable : Seat ℕ SeatView → Seat ℕ SeatView → Type 0
StaysAtTable old new = (new.table_id ≡ old.table_id) × (new.me.1 ≡ old.me.1) × (kept_of new.me.0.passes ≡ kept_of old.me.0.passes)
