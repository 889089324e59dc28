-- The calls of a script as rows.
use Rattle.std.specs.Prelude.{ℕ, ◌≡◌, ◌≢◌, ◌⊎◌, Bool, true, false, None, List, ◌∷◌, codes, decimal}
use Rattle.arena.specs.declared.layout.Layout.{Layout}
use Rattle.arena.specs.Opening.{is_map}
use Rattle.script.specs.declared.call.Call.{Call}
use Rattle.script.specs.declared.fault.ScriptCause.{ScriptCause}
use Rattle.script.specs.declared.fault.ScriptCause.TheVariants as cause
use Rattle.script.specs.Commands.{command_row, IsCommand, IsCommandOf, NamesRequest}
use Rattle.texts.specs.Fields.{field_of}
use Rattle.script.specs.Fields.{NamesClient}

-- the row of a call: its client, its command and the command's arguments
abbrev pub call_row : Call → List (List ℕ)
call_row call = decimal call.client.0 ∷ command_row call.command

-- the field names a command: a call of the map, or one on cells
abbrev pub NamesCommand : Bool → List ℕ → Type 0
NamesCommand true field = NamesRequest field
NamesCommand false field = (field ≡ codes "llx") ⊎ (field ≡ codes "scx") ⊎ (field ≡ codes "vlx") ⊎ (field ≡ codes "set")

-- why a name with arguments says no command: the first cause that fits it
abbrev pub IsNoCommand : Bool → List ℕ → List (List ℕ) → ScriptCause → Type 0
IsNoCommand of_map name arguments cause.Command = ¬ (NamesCommand of_map name)
IsNoCommand of_map name arguments cause.Argument = NamesCommand of_map name × IsCommandOf (name ∷ arguments) None
IsNoCommand of_map name arguments cause.Client = ⊥
IsNoCommand of_map name arguments cause.Fields = ⊥
IsNoCommand of_map name arguments cause.Limits = ⊥
IsNoCommand of_map name arguments cause.End = ⊥
IsNoCommand of_map name arguments cause.Long = ⊥

-- why a row says no call: the first cause that fits it
abbrev pub IsNoCall : Layout → List (List ℕ) → ScriptCause → Type 0
IsNoCall layout fields cause.Client = ¬ (NamesClient layout.passes (field_of fields 0))
IsNoCall layout fields cause.Command = NamesClient layout.passes (field_of fields 0) × ¬ (NamesCommand (is_map layout.mode) (field_of fields 1))
IsNoCall layout fields cause.Argument = NamesClient layout.passes (field_of fields 0) × NamesCommand (is_map layout.mode) (field_of fields 1) × ((call : Call) → IsCommand call.command → fields ≢ call_row call)
IsNoCall layout fields cause.Fields = ⊥
IsNoCall layout fields cause.Limits = ⊥
IsNoCall layout fields cause.End = ⊥
IsNoCall layout fields cause.Long = ⊥
