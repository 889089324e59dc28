-- The commands of a client among the calls, and lists with one place changed.
use Rattle.std.proofs.Common.{◌≡◌, ◌≢◌, ℕ, zero, suc, ◌+◌, ◌<◌, Bool, true, false, cond, eqb, eq-eqb, List, [], ◌∷◌, ◌++◌, length, set, take, drop, drop-cons, slice_get, get_or, Some, None, All, refl, sym, ◌∙◌, ap, subst, arith}
use Rattle.std.proofs.lemmas.List.{take_more}
use Rattle.std.proofs.lemmas.Option.{slice_get_read}
use Rattle.std.proofs.lemmas.List.Elements.{All-tail}
use Rattle.arena.specs.Opening.{IsMap}
use Rattle.histories.specs.Common.{Mode}
use Rattle.record.specs.Common.{MapCall, map_request, IsOfMode, Call, Command, Llx as LlxOf, Scx as ScxOf, Vlx as VlxOf, Set as SetOf, Map, asks_map, commands, map_call}
use Rattle.record.specs.Commands.{IsNextCallAt}
use Rattle.record.proofs.Legality.{AreMapCalls}

-- Lists

-- one place is changed
pub get_other : {X : Type 0} (xs : List X) (i j : ℕ) (new : X) → j ≢ i → slice_get (set xs i new) j ≡ slice_get xs j
get_other [] i j new d = refl
get_other (x ∷ xs) zero zero new d = absurd (d refl)
get_other (x ∷ xs) zero (suc j) new d = refl
get_other (x ∷ xs) (suc i) zero new d = refl
get_other (x ∷ xs) (suc i) (suc j) new d = get_other xs i j new (λ e. d (ap suc e))

pub get_own : {X : Type 0} (xs : List X) (i : ℕ) (old new : X) → slice_get xs i ≡ Some old → slice_get (set xs i new) i ≡ Some new
get_own [] i old new e = absurd cc
get_own (x ∷ xs) zero old new e = refl
get_own (x ∷ xs) (suc i) old new e = get_own xs i old new e

-- there is one at each place
pub get_there : {X : Type 0} (xs : List X) (i : ℕ) → i < length xs → (x : X) × (slice_get xs i ≡ Some x)
get_there [] i p = absurd (omega arith)
get_there (x ∷ xs) zero p = (x, refl)
get_there (x ∷ xs) (suc i) p = get_there xs i (omega arith)

-- the first of what is left is there, and the rest is left after it
pub first_left : {X : Type 0} (xs : List X) (n : ℕ) (x : X) (ys : List X) → drop n xs ≡ x ∷ ys → (slice_get xs n ≡ Some x) × (drop (suc n) xs ≡ ys) × (n < length xs)
first_left [] zero x ys e = cc
first_left [] (suc n) x ys e = cc
first_left (z ∷ xs) zero x ys e = (cc, cc, omega arith)
first_left (z ∷ xs) (suc n) x ys e = let h = first_left xs n x ys e in (h.0, h.1, omega (arith, h.2))

-- where nothing is left, there is nothing
pub none_there : {X : Type 0} (xs : List X) (n : ℕ) → drop n xs ≡ [] → slice_get xs n ≡ None
none_there [] n e = refl
none_there (z ∷ xs) zero e = cc
none_there (z ∷ xs) (suc n) e = none_there xs n e

-- The calls of a client

commands_or : (b : Bool) (x : Command) (xs ys : List Command) → cond b (x ∷ (xs ++ ys)) (xs ++ ys) ≡ cond b (x ∷ xs) xs ++ ys
commands_or true x xs ys = refl
commands_or false x xs ys = refl

pub commands_append : (xs ys : List Call) (c : ℕ) → commands (xs ++ ys) c ≡ commands xs c ++ commands ys c
commands_append [] ys c = refl
commands_append (x ∷ xs) ys c = ap (λ zs. cond (eqb x.client.0 c) (x.command ∷ zs) zs) (commands_append xs ys c) ∙ commands_or (eqb x.client.0 c) x.command (commands xs c) (commands ys c)

-- with the next call
pub commands_more : (calls : List Call) (i : ℕ) (call : Call) (c : ℕ) → i < length calls → commands (take (i + 1) calls) c ≡ commands (take i calls) c ++ commands (get_or calls i call ∷ []) c
commands_more calls i call c less = ap (λ xs. commands xs c) (take_more calls i call less) ∙ commands_append (take i calls) (get_or calls i call ∷ []) c

pub commands_next : (calls : List Call) (i : ℕ) (call : Call) (c : ℕ) (b : Bool) → i < length calls → call ≡ get_or calls i call → eqb call.client.0 c ≡ b → commands (take (i + 1) calls) c ≡ commands (take i calls) c ++ cond b (call.command ∷ []) []
commands_next calls i call c b less is same =
    commands_more calls i call c less
    ∙ ap (λ (y : Call). commands (take i calls) c ++ commands (y ∷ []) c) (sym is)
    ∙ ap (λ x. commands (take i calls) c ++ cond x (call.command ∷ []) []) same

-- what holds of the command of each call holds of each command of a client
pub of_commands : (P : Command → Type 0) (calls : List Call) (c n : ℕ) (command : Command) → All (λ (call : Call). P call.command) calls → slice_get (commands calls c) n ≡ Some command → P command
of_commands P [] c n command all e = absurd (let z : None ≡ Some command = e in cc)
of_commands P (call ∷ calls) c n command all e = go (λ i d. of_commands P calls c i command rest d) (eqb call.client.0 c) n e
  where
    first : P call.command
    first = all 0 call (omega arith)

    rest : All (λ (k : Call). P k.command) calls
    rest = All-tail (λ (k : Call). P k.command) call calls all

    go : ((i : ℕ) → slice_get (commands calls c) i ≡ Some command → P command) → (b : Bool) (n : ℕ) → slice_get (cond b (call.command ∷ commands calls c) (commands calls c)) n ≡ Some command → P command
    go more false n d = more n d
    go more true zero d = let same : call.command ≡ command = cc in subst P same first
    go more true (suc n) d = more n d

-- each call has a command of this mode
abbrev pub AreOf : Mode → List Call → Type 0
AreOf mode calls = All (λ (call : Call). IsOfMode mode call.command) calls

-- all calls of a map's mode are of the map
pub map_calls : (mode : Mode) (calls : List Call) → IsMap mode → AreOf mode calls → AreMapCalls calls
map_calls mode calls e all c j command is = go command (of_commands (IsOfMode mode) calls c j command all is ∙ e)
  where
    go : (command : Command) → asks_map command ≡ true → (call : MapCall) × (map_call (Some command) ≡ Some call)
    go (Map request) e = (map_request request, refl)
    go (LlxOf cell) e = cc
    go (ScxOf update) e = cc
    go (VlxOf cells) e = cc
    go (SetOf field value) e = cc

-- Where they are

-- the next of a client's commands is that of the call where it is
pub next_at : (calls : List Call) (c number at : ℕ) → IsNextCallAt calls c (drop number (commands calls c)) (Some at) → (call : Call) × (slice_get calls at ≡ Some call) × (call.client.0 ≡ c) × (slice_get (commands calls c) number ≡ Some call.command)
next_at calls c number at x = (x.0, x.1, x.2, (first_left (commands calls c) number x.0.command _ x.3).0)

-- where none of a client's commands is left, it has none of this number
pub none_left : (calls : List Call) (c number : ℕ) → drop number (commands calls c) ≡ [] → slice_get (commands calls c) number ≡ None
none_left calls c number e = none_there (commands calls c) number e

-- the call at this place is the next, if it is the client's
pub call_at : (calls : List Call) (c at : ℕ) (call : Call) (left : List Command) → at < length calls → call ≡ get_or calls at call → call.client.0 ≡ c → left ≡ commands (drop at calls) c → IsNextCallAt calls c left (Some at)
call_at calls c at call left below is same e = (
  call,
  slice_get_read calls (length calls) at call refl below is,
  same,
  e ∙ ap (λ (xs : List Call). commands xs c) (drop-cons calls at call below) ∙ ap (λ (x : Call). commands (x ∷ drop (suc at) calls) c) (sym is) ∙ ap (λ (b : Bool). cond b (call.command ∷ commands (drop (suc at) calls) c) (commands (drop (suc at) calls) c)) (eq-eqb call.client.0 c same),
)
