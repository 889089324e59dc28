-- The fields of the row of a call.
use Rattle.std.proofs.Common.{◌≡◌, ◌≢◌, ℕ, Bool, List, [], ◌∷◌, Bor, None, Result, Ok, Err, IfErr, inl, inr, ap, arith, codes, decimal, get_or, length, refl, rules, subst, sym}
use Rattle.std.specs.Result.{result_ok}
use Rattle.record.specs.Common.{Request, IsCommand, asks_map, command_row, texts, Command, Llx, Scx, Vlx, Set, Map}
use Rattle.ordered_map.specs.declared.request.Request.TheVariants.{Insert}
use Rattle.script.specs.Calls.{IsNoCommand, NamesCommand}
use Rattle.script.specs.Commands.{NamesRequest, request_name}
use Rattle.script.specs.declared.fault.ScriptCause.{ScriptCause}
use Rattle.script.specs.declared.fault.ScriptCause.TheVariants as cause
use Rattle.report.specs.Report.{seven}
use Rattle.report.proofs.Fields.{blank}

-- the row is three fields and these four
pub record AreCallFields (fields : List (Bor (List ℕ))) (name client number : List ℕ) (command : List (List ℕ)) : Type 0 where
  pub name_is : (get_or fields 0 blank).now ≡ name
  pub client_is : (get_or fields 1 blank).now ≡ client
  pub number_is : (get_or fields 2 blank).now ≡ number
  pub command_is : (get_or fields 3 blank).now ∷ (get_or fields 4 blank).now ∷ (get_or fields 5 blank).now ∷ (get_or fields 6 blank).now ∷ [] ≡ command

pub call_fields_are : (fields : List (Bor (List ℕ))) (name client number : List ℕ) (command : List (List ℕ)) → length fields ≡ 7 → texts fields ≡ name ∷ client ∷ number ∷ command → AreCallFields fields name client number command
call_fields_are (a ∷ b ∷ c ∷ e ∷ f ∷ g ∷ h ∷ []) name client number command long is = record { name_is = cc; client_is = cc; number_is = cc; command_is = cc }
call_fields_are fields name client number command long is = absurd (omega (arith, long))

-- the row, where each part is known
pub call_row_is : (fields : List (Bor (List ℕ))) (name client number : List ℕ) (command : List (List ℕ)) → length fields ≡ 7
    → (get_or fields 0 blank).now ≡ name → (get_or fields 1 blank).now ≡ client → (get_or fields 2 blank).now ≡ number
    → (get_or fields 3 blank).now ∷ (get_or fields 4 blank).now ∷ (get_or fields 5 blank).now ∷ (get_or fields 6 blank).now ∷ [] ≡ command
    → texts fields ≡ name ∷ client ∷ number ∷ command
call_row_is (a ∷ b ∷ c ∷ e ∷ f ∷ g ∷ h ∷ []) name client number command long p q r s = rw (← p, ← q, ← r, ← s) refl
call_row_is fields name client number command long p q r s = absurd (omega (arith, long))

-- each call of the map has a name
is_named : (request : Request ℕ ℕ) → NamesRequest (request_name request)
is_named (Insert key value) = inl refl
is_named request = search rules

-- the first field of a command's row names the command
names_command : (of_map : Bool) (name : List ℕ) (rest : List (List ℕ)) (command : Command) → asks_map command ≡ of_map → name ∷ rest ≡ command_row command → NamesCommand of_map name
names_command of_map name rest (Llx cell) of_mode is = rw (← of_mode) (inl cc)
names_command of_map name rest (Scx update) of_mode is = rw (← of_mode) (inr (inl cc))
names_command of_map name rest (Vlx cells) of_mode is = rw (← of_mode) (inr (inr (inl cc)))
names_command of_map name rest (Set field value) of_mode is = rw (← of_mode) (inr (inr (inr cc)))
names_command of_map name rest (Map request) of_mode is = rw (← of_mode) (subst NamesRequest (sym (ap (λ (row : List (List ℕ)). get_or row 0 []) is)) (is_named request))

why_none : (of_map : Bool) (name : List ℕ) (rest : List (List ℕ)) (why : ScriptCause) → IsNoCommand of_map name rest why → (command : Command) → asks_map command ≡ of_map → IsCommand command → name ∷ rest ≢ command_row command
why_none of_map name rest cause.Command none command of_mode valid is = none (names_command of_map name rest command of_mode is)
why_none of_map name rest cause.Argument none command of_mode valid is = none.1 command valid is
why_none of_map name rest cause.Client none command of_mode valid is = none
why_none of_map name rest cause.Fields none command of_mode valid is = none
why_none of_map name rest cause.Limits none command of_mode valid is = none
why_none of_map name rest cause.End none command of_mode valid is = none
why_none of_map name rest cause.Long none command of_mode valid is = none

-- no command has the row where a reader of commands has a cause against it
pub no_command : (of_map : Bool) (name : List ℕ) (rest : List (List ℕ)) (r : Result Command ScriptCause) → result_ok r ≡ None → IfErr r (IsNoCommand of_map name rest) → (command : Command) → asks_map command ≡ of_map → IsCommand command → name ∷ rest ≢ command_row command
no_command of_map name rest (Ok found) failed none = absurd cc
no_command of_map name rest (Err why) failed none = why_none of_map name rest why none

-- the row of a call has no empty fields after the command's
pub whole_row : (client number : ℕ) (command : Command) → seven (codes "call" ∷ decimal client ∷ decimal number ∷ command_row command) ≡ codes "call" ∷ decimal client ∷ decimal number ∷ command_row command
whole_row client number (Llx cell) = refl
whole_row client number (Scx update) = refl
whole_row client number (Vlx cells) = refl
whole_row client number (Set field value) = refl
whole_row client number (Map request) = refl
