-- Where the commands of a client are among the calls.
use Rattle.std.proofs.Common.{◌≡◌, ℕ, zero, suc, List, [], ◌∷◌, drop, Option, Some, None, slice_get, refl, sym, ◌∙◌, ap, subst}
use Rattle.record.specs.Common.{Call, Command, commands}
use Rattle.record.specs.Commands.{IsNextCallAt}
use Rattle.record.proofs.Lemmas.{next_at, none_left}
use Rattle.audit.specs.Calls.{command_of_call, command_at}

-- the command of the call where a client is is its next one
pub command_next : (calls : List Call) (c number : ℕ) (at : Option ℕ) → IsNextCallAt calls c (drop number (commands calls c)) at → command_at calls at ≡ slice_get (commands calls c) number
command_next calls c number None x = sym (none_left calls c number x)
command_next calls c number (Some at) x = let y = next_at calls c number at x in ap command_of_call y.1 ∙ sym y.3

drop_one : {X : Type 0} (xs : List X) (n : ℕ) → drop 1 (drop n xs) ≡ drop (suc n) xs
drop_one [] zero = refl
drop_one [] (suc n) = refl
drop_one (x ∷ xs) zero = refl
drop_one (x ∷ xs) (suc n) = drop_one xs n

-- so it does once one more is answered
pub next_place : (calls : List Call) (c number : ℕ) (next : Option ℕ) → IsNextCallAt calls c (drop 1 (drop number (commands calls c))) next → IsNextCallAt calls c (drop (suc number) (commands calls c)) next
next_place calls c number next x = subst (λ (left : List Command). IsNextCallAt calls c left next) (drop_one (commands calls c) number) x
