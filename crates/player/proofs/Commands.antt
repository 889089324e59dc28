-- How many commands of a client are among the calls, and where the next are.
use Rattle.std.proofs.Common.{◌≡◌, ℕ, suc, ◌<◌, ◌≤◌, List, [], ◌∷◌, length, drop, Option, Some, None, sym, subst, eqb, cond, true, false, arith}
use Rattle.record.specs.Common.{Call, Command, commands}
use Rattle.record.specs.Commands.{IsNextCallAt}
use Rattle.record.proofs.Lemmas.{first_left}

-- a client has no more commands than there are calls
pub commands_few : (calls : List Call) (c : ℕ) → length (commands calls c) ≤ length calls
commands_few [] c = omega arith
commands_few (call ∷ calls) c =
    let h = commands_few calls c in
    elim (eqb call.client.0 c) as (λ b. length (cond b (call.command ∷ commands calls c) (commands calls c)) ≤ suc (length calls)) [ true ↦ omega arith | false ↦ omega arith ]

-- a place after that of the next command is that of the one after it
pub place_more : (calls : List Call) (c number at : ℕ) → IsNextCallAt calls c (drop number (commands calls c)) (Some at) → (next : Option ℕ) → IsNextCallAt calls c (commands (drop (suc at) calls) c) next → IsNextCallAt calls c (drop (suc number) (commands calls c)) next
place_more calls c number at x next y = subst (λ (left : List Command). IsNextCallAt calls c left next) (sym (first_left (commands calls c) number x.0.command _ x.3).1) y

-- a command that is still to come has a number below that of all calls
pub number_small : (calls : List Call) (c number at : ℕ) → IsNextCallAt calls c (drop number (commands calls c)) (Some at) → number < length calls
number_small calls c number at x =
    let few = commands_few calls c in
    let below = (first_left (commands calls c) number x.0.command _ x.3).2 in
    omega arith
