-- What a row of a call says.
use Rattle.std.proofs.Common.{◌≡◌, ℕ, List, [], ◌∷◌, length, decimal}
use Rattle.arena.specs.Opening.{is_map}
use Rattle.arena.specs.declared.layout.Layout.{Layout}
use Rattle.script.specs.Calls.{IsNoCommand, IsNoCall}
use Rattle.script.specs.Fields.{NamesClient}
use Rattle.script.specs.Commands.{command_row}
use Rattle.texts.specs.Fields.{field_of}
use Rattle.script.specs.declared.fault.ScriptCause.{ScriptCause}
use Rattle.script.specs.declared.fault.ScriptCause.TheVariants as cause
use Rattle.script.proofs.Fields.{five_fields_say}

-- where a row's client is one, the row says no call for the cause for which its rest says no
-- command
pub no_call : (layout : Layout) (fields : List (List ℕ)) (why : ScriptCause) → NamesClient layout.passes (field_of fields 0) → IsNoCommand (is_map layout.mode) (field_of fields 1) (field_of fields 2 ∷ field_of fields 3 ∷ field_of fields 4 ∷ []) why → length fields ≡ 5 → IsNoCall layout fields why
no_call layout fields cause.Command client none h = (client, none)
no_call layout fields cause.Argument client none h =
    (client, none.0, λ call valid is. none.1 call.command valid (five_fields_say fields (command_row call.command) (decimal call.client.0) h is))
no_call layout fields cause.Client client none h = absurd none
no_call layout fields cause.Fields client none h = absurd none
no_call layout fields cause.Limits client none h = absurd none
no_call layout fields cause.End client none h = absurd none
no_call layout fields cause.Long client none h = absurd none
