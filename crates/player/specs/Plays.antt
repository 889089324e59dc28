-- What a turn shows to those who follow a schedule.
use Rattle.std.specs.Prelude.{◌≡◌, ℕ, ◌+◌}
use Rattle.std.specs.Int.{from_bool}
use Rattle.record.specs.declared.record.TurnRow.{TurnRow}
use Rattle.record.specs.Turns.{answered, kind_of}
use Rattle.player.specs.Player.{IsTurnMore, PlayerView}
use Rattle.player.specs.declared.turned.Turned.{Turned}

-- one turn of client i, with this row, leads from these lines to the later; this much is shown:
-- the kind of its step, and whether the client has one reply more
pub record TellsTurn (p later : PlayerView) (i : ℕ) (row : TurnRow) (turned : Turned) : Type 0 where
  pub turn : IsTurnMore p later i row
  pub kind : turned.kind ≡ kind_of row
  pub replies : answered later.lines i ≡ answered p.lines i + from_bool turned.ended
