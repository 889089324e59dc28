-- What is known of handles that are gone through, one after the other.
use Rattle.std.proofs.Common.{◌≡◌, ◌<◌, ◌≤◌, ◌+◌, ℕ, List, [], ◌∷◌, ◌++◌, length, map, get_or, set, take, take_all, Option, Some, None, IfSome, MatchOption, All, sym, ◌∙◌, ap, ap₂, refl, subst, arith}
use Rattle.std.specs.Arc.{arc_value}
use Rattle.std.specs.Global.{Global}
use Rattle.std.specs.declared.sync.Arc.{Arc}
use Rattle.std.specs.Option.{option_map}
use Rattle.std.proofs.Math.Seq.{map-set_same}
use Rattle.std.proofs.lemmas.List.{get_or-map, map-append, map-set, take_more_set, length-map}
use Rattle.std.proofs.lemmas.List.Elements.{All-same, All-push, All-pop, All-weaker}
use Rattle.std.proofs.lemmas.Option.{none-some}
use Rattle.std.proofs.lemmas.Bool.{false≢true}
use Rattle.tables.specs.Passes.{Ground, IsOf, PassView}
use Rattle.capi.specs.declared.client.OwnedPass.{OwnedPass}
use Rattle.capi.specs.declared.client.OwnedPass.TheVariants.{LastingTree, LastingTrie, Tree, Trie}
use Rattle.capi.specs.Owned.{owner_of, pass_of}
use Rattle.capi.specs.Presence.{here}
use Rattle.capi.specs.declared.presence.Presence.{Presence}
use Rattle.capi.specs.declared.presence.Presence.TheVariants.{Away, Here, Nobody}
use Rattle.capi.specs.declared.handle.HandleSlot.{HandleSlot}
use Rattle.capi.specs.Ends.{AreEnough, AreHeld, AreTooFew, IsIn, IsThere, held_in, pass_in}
use Rattle.capi.specs.Handles.{pass_count}
use Rattle.capi.specs.Made.{IsHeldOf}

-- what a handle holds
abbrev pub value_of : HandleSlot → Option Presence
value_of p = p.handle.value

-- P holds of all that was gone through
pub all_through : (P : Option Presence → Type 0) (xs : List HandleSlot) (i : ℕ) → length xs ≤ i → All P (take i (held_in xs)) → All P (held_in xs)
all_through P xs i end all = All-same P (held_in xs) (take i (held_in xs)) (sym (take_all i (held_in xs) (subst (λ (n : ℕ). n ≤ i) (sym (length-map xs value_of)) end))) all

-- a handle is written over by one for which P holds, too
pub all_more : (P : Option Presence → Type 0) (xs : List HandleSlot) (i : ℕ) (new : HandleSlot) → i < length xs → All P (take i (held_in xs)) → P new.handle.value → All P (take (i + 1) (held_in (set xs i new)))
all_more P xs i new inside before one =
    All-same P (take (i + 1) (held_in (set xs i new))) (take i (held_in xs) ++ new.handle.value ∷ [])
    (ap (take (i + 1)) (map-set value_of xs i new) ∙ take_more_set (held_in xs) i new.handle.value (subst (λ (n : ℕ). i < n) (sym (length-map xs value_of)) inside))
    (All-push P (take i (held_in xs)) new.handle.value before one)

module _ (xs : List HandleSlot) (i : ℕ) (old new : HandleSlot) (is : old ≡ get_or xs i old) where
  -- a handle is written over by one that holds the same
  pub kept : new.handle.value ≡ old.handle.value → held_in (set xs i new) ≡ held_in xs
  kept same = map-set_same value_of xs i new old (same ∙ ap value_of is)

  -- what holds of all handles holds of what the one at i holds
  pub one_of : (P : Option Presence → Type 0) → i < length xs → All P (held_in xs) → P old.handle.value
  one_of P inside all = subst P (get_or-map value_of xs i old old.handle.value inside ∙ ap value_of (sym is)) (all i old.handle.value (subst (λ (n : ℕ). i < n) (sym (length-map xs value_of)) inside))

-- a handle that says how many passes there are holds one that is there
pub told_held : (v : Option Presence) (n : ℕ) → Some n ≡ option_map pass_count (here v) → IsThere v
told_held (Some (Here c)) n told = refl
told_held (Some (Away a)) n told = absurd (none-some n (sym told))
told_held (Some Nobody) n told = absurd (none-some n (sym told))
told_held None n told = absurd (none-some n (sym told))

-- one that says nothing does not
pub none_told : (v : Option Presence) → None ≡ option_map pass_count (here v) → ¬ IsThere v
none_told None told some = false≢true some
none_told (Some (Away a)) told some = false≢true some
none_told (Some Nobody) told some = false≢true some
none_told (Some (Here c)) told some = none-some (pass_count c) told

-- the dictionary of the first has this many
pub told_of : (f : Ground) (v : Option Presence) (n : ℕ) → Some n ≡ option_map pass_count (here v) → IsIn f v → IsHeldOf f v × (n ≡ f.layout.passes)
told_of f (Some (Here c)) n told in_f = (in_f, some_is (told ∙ ap (λ (g : Ground). Some g.layout.passes) in_f))
  where
    some_is : Some n ≡ Some f.layout.passes → n ≡ f.layout.passes
    some_is e = cc
told_of f (Some (Away a)) n told in_f = absurd (none-some n (sym told))
told_of f (Some Nobody) n told in_f = absurd (none-some n (sym told))
told_of f None n told in_f = absurd (none-some n (sym told))

module _ (ys : List HandleSlot) (place : HandleSlot) (client : OwnedPass) (is : Some (Here client) ≡ place.handle.value) where
  -- one handle more, whose pass is listed
  pub listed : (passes : List PassView) → map pass_in (held_in ys) ≡ map Some passes → map pass_in (held_in (ys ++ place ∷ [])) ≡ map Some (passes ++ pass_of client ∷ [])
  listed passes are =
      ap (map pass_in) (map-append value_of ys (place ∷ [])) ∙ map-append pass_in (held_in ys) (place.handle.value ∷ [])
      ∙ ap₂ (λ (l r : List (Option PassView)). l ++ r) are (ap (λ (v : Option Presence). pass_in v ∷ []) (sym is)) ∙ sym (map-append Some passes (pass_of client ∷ []))

  -- all of these and that one are of a forest
  pub of_both : (f : Ground) → All (IsIn f) (held_in (ys ++ place ∷ [])) → All (IsIn f) (held_in ys) × (arc_value (owner_of client) ≡ f)
  of_both f all =
      let both = All-pop (IsIn f) (held_in (ys ++ place ∷ [])) (held_in ys) (Some place.handle.value) (map-append value_of ys (place ∷ [])) all in
      (both.0, subst (IsIn f) (sym is) both.1)

  -- one pass more is taken, of this view, from a forest with this owner
  pub one_more : (before after : List PassView) (p : PassView) (a : Arc Ground Global) → pass_of client ≡ p → owner_of client ≡ a → after ≡ before ++ p ∷ [] → map pass_in (held_in ys) ≡ map Some before
      → (map pass_in (held_in (ys ++ place ∷ [])) ≡ map Some after) × ((f : Ground) → All (IsIn f) (held_in (ys ++ place ∷ [])) → arc_value a ≡ f)
  one_more before after p a is_pass is_owner more are = (
    listed before are ∙ ap (λ (q : PassView). map Some (before ++ q ∷ [])) is_pass ∙ ap (map Some) (sym more),
    λ f all. ap (λ (o : Arc Ground Global). arc_value o) (sym is_owner) ∙ (of_both f all).1,
  )

-- a pass of a forest is there
pub held_is_in : (f : Ground) (v : Option Presence) → IsHeldOf f v → IsIn f v
held_is_in f (Some (Here c)) held = held
held_is_in f (Some (Away a)) held = absurd held
held_is_in f (Some Nobody) held = absurd held
held_is_in f None held = absurd held

-- the first handle that says how many passes there are says it of the dictionary of them all
module _ (xs : List HandleSlot) (n : ℕ) where
  -- these are fewer
  pub too_few : (f : Ground) → (n ≡ f.layout.passes) × All (IsHeldOf f) (held_in xs) → length xs < n → AreTooFew (held_in xs)
  too_few f told fewer = record { forest = f; of_forest = told.1; few = omega (arith, told.0, length-map xs value_of, fewer) }

  -- these are as many
  pub enough : AreHeld (held_in xs) → ((f : Ground) → All (IsIn f) (held_in xs) → (n ≡ f.layout.passes) × All (IsHeldOf f) (held_in xs)) → n ≤ length xs → AreEnough (held_in xs)
  enough each told all = record {
    each = each;
    enough = λ f of_f. let is = told f (All-weaker (IsHeldOf f) (IsIn f) (held_is_in f) (held_in xs) of_f) in omega (arith, is.0, length-map xs value_of, all);
  }

-- the pass of a client is of its forest
of_own : (c : OwnedPass) → IsOf (arc_value (owner_of c)) (pass_of c)
of_own (Tree held) = held.of
of_own (Trie held) = held.of
of_own (LastingTree held) = held.of
of_own (LastingTrie held) = held.of

-- the pass that a handle of a forest holds is of that forest
one_is_of : (f : Ground) (v : Option Presence) (p : PassView) → pass_in v ≡ Some p → IsIn f v → IsOf f p
one_is_of f (Some (Here c)) p is in_f = subst (IsOf f) (value_is is) (subst (λ (g : Ground). IsOf g (pass_of c)) in_f (of_own c))
  where
    value_is : Some (pass_of c) ≡ Some p → pass_of c ≡ p
    value_is e = cc
one_is_of f (Some (Away a)) p is in_f = absurd (none-some p is)
one_is_of f (Some Nobody) p is in_f = absurd (none-some p is)
one_is_of f None p is in_f = absurd (none-some p is)

-- and so are those of all handles
pub all_are_of : (f : Ground) (held : List (Option Presence)) (passes : List PassView) → map pass_in held ≡ map Some passes → All (IsIn f) held → All (IsOf f) passes
all_are_of f held passes are in_f k d inside =
    let within : k < length held = subst (λ (n : ℕ). k < n) (sym (length-map passes Some) ∙ ap length (sym are) ∙ length-map held pass_in) inside in
    one_is_of f (get_or held k None) (get_or passes k d)
    (sym (get_or-map pass_in held k None None within) ∙ ap (λ (l : List (Option PassView)). get_or l k None) are ∙ get_or-map Some passes k d None inside)
    (in_f k None within)

-- What is known of an option

-- of the value in it
pub in_some : {A : Type 0} (P : A → Type 0) (o : Option A) (x : A) → o ≡ Some x → IfSome o P → P x
in_some P o x is known = subst (λ o. IfSome o P) is known

-- if there is a value, P is known of it, and so is Q
pub some_so : {A : Type 0} (o : Option A) (N : Type 0) (P Q : A → Type 0) → ((x : A) → P x → Q x) → MatchOption o N P → IfSome o Q
some_so None N P Q so known = tt
some_so (Some x) N P Q so known = so x known
