-- What contracts see of a player, and what its turns add.
use Rattle.std.specs.Prelude.{◌≡◌, ℕ, List, ◌∷◌, ◌++◌, reverse, refl}
use Rattle.std.specs.Coded.{Coded, code_by, coded×, coded_list}
use Rattle.arena.specs.contracts.layout.Layout as layout
use Rattle.arena.specs.contracts.limits.Limits as limits
use Rattle.arena.specs.declared.layout.Layout.{Layout}
use Rattle.arena.specs.declared.limits.Limits.{Limits}
use Rattle.script.specs.contracts.call.Call as call
use Rattle.record.specs.Common.{Call, Script, clients, IsLawfulRun}
use Rattle.record.specs.contracts.record.Line as line
use Rattle.record.specs.declared.record.Line.{Line}
use Rattle.record.specs.declared.record.Line.TheVariants.{Step}
use Rattle.record.specs.declared.record.TurnRow.{TurnRow}

-- what a script says
pub record ScriptView : Type 0 where
  pub limits : Limits
  pub layout : Layout
  pub calls : List Call

abbrev pub script_view : Script → ScriptView
script_view s = record { limits = s.limits; layout = s.layout; calls = s.calls.items }

-- what contracts see of a player: what its script says,
-- and the lines of its turns, the newest first
pub record PlayerView : Type 0 where
  pub script : ScriptView
  pub lines : List Line

-- it is stored as the tuple of these fields
abbrev pub view_code : Coded PlayerView
view_code =
    code_by (Limits × (Layout × (List Call × List Line))) (coded× limits.the_row.coded (coded× layout.the_row.coded (coded× (coded_list call.the_row.coded) (coded_list line.the_row.coded))))
    (λ p. (p.script.limits, (p.script.layout, (p.script.calls, p.lines)))) (λ x. record { script = record { limits = x.0; layout = x.1.0; calls = x.1.1.0 }; lines = x.1.1.1 }) (λ _. refl)

-- the lines so far are a lawful run of the script, in the turns that they say
abbrev pub IsPlayed : PlayerView → Type 0
IsPlayed p = IsLawfulRun p.script.layout p.script.limits.tries p.script.calls (reverse (clients p.lines)) (reverse p.lines)

-- the lines have this one turn of the i-th client more, and the entry and reply after it
pub record IsTurnMore (old new : PlayerView) (i : ℕ) (row : TurnRow) : Type 0 where
  pub script : new.script ≡ old.script
  pub behind : List Line
  pub lines : new.lines ≡ behind ++ Step row ∷ old.lines
  pub turns : clients new.lines ≡ i ∷ clients old.lines
