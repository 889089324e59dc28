-- What contracts see of a player.
use Rattle.std.specs.Prelude.{reverse}
use Rattle.player.specs.declared.player.Player.TheInside.{Inside}
use Rattle.player.specs.Player.{PlayerView, script_view}

-- the script of its core, and the lines in its list, the newest first
abbrev pub player_view : Inside → PlayerView
player_view p = record { script = script_view p.core.script; lines = reverse p.lines.items }
