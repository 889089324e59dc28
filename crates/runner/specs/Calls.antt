-- The calls of a client, as its pass makes them one after the other.
use Rattle.std.specs.Prelude.{◌≡◌, ℕ, Bool, ◌<◌, ◌^◌, List, [], ◌∷◌, Some, Vec}
use Rattle.std.specs.Global.{Global}
use Rattle.histories.specs.Common.{Layout, History}
use Rattle.record.specs.Common.{MapCall, Reply, Call, Command, commands, map_call}
use Rattle.dict.specs.Typed.{TypedAllows}
use Rattle.dict.specs.Words.{IsNumber, IsWideNumber}
use Rattle.forest.specs.Dictionary.{HasCalledIn}
use Rattle.tables.specs.Passes.{Ground, PassView, IsOf}

-- the shape of a dictionary of numbers: each SCX-record that begins makes an edit of numbers
abbrev pub NumbersAllow : Layout → History → ℕ → Type 0
NumbersAllow = TypedAllows IsNumber IsWideNumber

-- a pass of this forest, whose keys and values are numbers, has made a call and has this reply; it
-- is a tree or a trie, as its mode says
abbrev pub HasCalledNumbers : Ground → PassView → PassView → MapCall → Reply ℕ ℕ → Type 0
HasCalledNumbers forest old new call reply = (trie : Bool) × HasCalledIn trie (λ k. k < 2 ^ 64) (λ k. k) (λ v. v < 2 ^ 128) (λ v. v) forest old new call reply

-- The pass has made the calls of these commands, one after the other, and they have these replies;
-- each call with its reply is as P says. The pass knew `old` as the first began, and `new` at the
-- end of the last.
abbrev pub HaveReplies : (PassView → PassView → MapCall → Reply ℕ ℕ → Type 0) → PassView → List Command → List (Reply ℕ ℕ) → PassView → Type 0
HaveReplies P old [] [] new = new ≡ old
HaveReplies P old (command ∷ more) (reply ∷ replies) new = (call : MapCall) × (then : PassView) × (map_call (Some command) ≡ Some call) × P old then call reply × HaveReplies P then more replies new
HaveReplies P old _ _ new = ⊥

-- a client's pass has made all calls of the client among these, and is of this forest still
pub record HasWorked (forest : Ground) (calls : List Call) (old new : PassView) (replies : List (Reply ℕ ℕ)) : Type 0 where
  pub of_forest : IsOf forest new
  pub number : new.number ≡ old.number
  pub made : HaveReplies (HasCalledNumbers forest) old (commands calls old.number) replies new

-- each of these passes has worked, and has given back what is at its place
abbrev pub HaveWorked : Ground → List Call → List PassView → List PassView → List (Vec (Reply ℕ ℕ) Global) → Type 0
HaveWorked forest calls [] [] [] = Unit {0}
HaveWorked forest calls (old ∷ olds) (new ∷ news) (own ∷ replies) = HasWorked forest calls old new own.items × HaveWorked forest calls olds news replies
HaveWorked forest calls _ _ _ = ⊥
