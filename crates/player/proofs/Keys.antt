-- Which keys a client's calls are about.
use Rattle.std.proofs.Common.{◌≡◌, ℕ, zero, suc, Bool, true, false, cond, eqb, List, [], ◌∷◌, Some, All, slice_get, subst, arith}
use Rattle.std.proofs.lemmas.List.Elements.{All-tail}
use Rattle.record.specs.Common.{MapEdit, Call, Command, commands}
use Rattle.linearization.specs.Places.{HoldsOfKey}

pub some_edit : (a b : MapEdit) → Some a ≡ Some b → a ≡ b
some_edit a b e = cc

-- what holds of the keys of all calls holds of that of a client's command
pub command_key : (calls : List Call) (c n : ℕ) (P : ℕ → Type 0) (command : Command) → All (λ (call : Call). HoldsOfKey P call.command) calls → slice_get (commands calls c) n ≡ Some command → HoldsOfKey P command
command_key [] c n P command all e = cc
command_key (call ∷ calls) c n P command all e = go (λ i d. command_key calls c i P command (All-tail (λ (k : Call). HoldsOfKey P k.command) call calls all) d) (eqb call.client.0 c) n e
  where
    first : HoldsOfKey P call.command
    first = all 0 call (omega arith)

    go : ((i : ℕ) → slice_get (commands calls c) i ≡ Some command → HoldsOfKey P command) → (b : Bool) (n : ℕ) → slice_get (cond b (call.command ∷ commands calls c) (commands calls c)) n ≡ Some command → HoldsOfKey P command
    go more false n d = more n d
    go more true zero d = let same : call.command ≡ command = cc in subst (λ (k : Command). HoldsOfKey P k) same first
    go more true (suc n) d = more n d
