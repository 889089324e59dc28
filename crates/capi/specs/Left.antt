-- What is left in a dictionary when it is closed.
use Rattle.std.specs.Prelude.{◌≡◌, ℕ, Bool, true, false, List, map, Option, Some, None, IfSome, Result, Ok, Err}
use Rattle.std.specs.Global.{Vec}
use Rattle.std.specs.List.{All}
use Rattle.arena.specs.declared.layout.Layout.{Layout}
use Rattle.arena.specs.History.{History, value, Extends}
use Rattle.arena.specs.Log.{log}
use Rattle.arena.specs.Machines.{IsRun}
use Rattle.arena.specs.PlainWords.{Contents}
use Rattle.dict.specs.Typed.{TypedAllows}
use Rattle.dict.specs.Words.{IsNumber, IsWideNumber}
use Rattle.ordered_map.specs.Replies.{word_pair}
use Rattle.ordered_map.specs.Spelled.{Spells}
use Rattle.forest.specs.Remains.{AreRemains, SlotWords}
use Rattle.tables.specs.Passes.{PassView, AreAllBack, IsClosed, done_of, run_of}
use Rattle.tables.specs.Shares.{entries_of}
use Rattle.tables.specs.TableRule.{history_of}
use Rattle.tables.specs.declared.table_shape.Keeping.{Ghosts}
use Rattle.capi.specs.Owned.{pass_of}
use Rattle.capi.specs.declared.held.Held.{Held}
use Rattle.capi.specs.declared.client.OwnedPass.{OwnedPass}
use Rattle.capi.specs.declared.client.Closing.{Closing}
use Rattle.capi.specs.declared.client.Closing.TheVariants.{Pairs, NoMemory, Shared}
use Rattle.capi.specs.declared.presence.Presence.{Presence}
use Rattle.capi.specs.declared.presence.Presence.TheVariants.{Away, Here, Nobody}

-- the pairs are those of the map at the end of a lawful run, which extends what the pass knew;
-- the pass itself has entered nothing more: what was added since is other passes'
pub record AreLeft (p : PassView) (pairs : List (ℕ × ℕ)) : Type 0 where
  pub run : History
  pub sound : IsRun (TypedAllows IsNumber IsWideNumber) p.layout run
  pub goes_on : Extends run (run_of p)
  pub done : entries_of p.number (log p.layout run) ≡ done_of p
  pub spelled : Spells p.layout (value run) (map (word_pair (λ k. k) (λ v. v)) pairs)

-- These are all passes of a dictionary of this layout, and the pairs are those of the map at the
-- end of one lawful run, which extends what each of the passes knew (`begun` of `closed`): it
-- has entered nothing more, and its only step there is a look at the table.
pub record AreLeftByAll (lay : Layout) (passes : List PassView) (pairs : List (ℕ × ℕ)) : Type 0 where
  pub layouts : All (λ p. p.layout ≡ lay) passes
  pub all : AreAllBack lay passes
  pub words : Contents
  pub closed : IsClosed (TypedAllows IsNumber IsWideNumber) lay passes words
  pub spelled : Spells lay (value (history_of closed.planting closed.rows)) (map (word_pair (λ k. k) (λ v. v)) pairs)

-- The same of a dictionary that lasts: the run extends what each of the passes knew (`known` of
-- `closed`), by rows of others alone, and the words show the tree of that run.
pub record AreLeftByLasting (lay : Layout) (passes : List PassView) (pairs : List (ℕ × ℕ)) : Type 0 where
  pub layouts : All (λ p. p.layout ≡ lay) passes
  pub all : AreAllBack lay passes
  pub words : SlotWords
  pub closed : AreRemains (TypedAllows IsNumber IsWideNumber) lay passes words
  pub spelled : Spells lay (value (history_of closed.planting closed.rows)) (map (word_pair (λ k. k) (λ v. v)) pairs)

-- the pairs are left so, in a dictionary that lasts or in another
abbrev pub AreLeftIn : Bool → Layout → List PassView → List (ℕ × ℕ) → Type 0
AreLeftIn false lay passes pairs = AreLeftByAll lay passes pairs
AreLeftIn true lay passes pairs = AreLeftByLasting lay passes pairs

-- how a holder may close: the pairs are left, or an allocation was refused; or it is as it was
abbrev pub IsClosingOf : {B : Type 0} {g : Ghosts B} → Held B g → Result (Option (Vec (ℕ × ℕ))) (Held B g) → Type 0
IsClosingOf c (Ok (Some pairs)) = AreLeft c.pass pairs.items
IsClosingOf c (Ok None) = Unit {0}
IsClosingOf c (Err d) = d ≡ c

-- the closing of the last client, by what is left
abbrev pub closing_of : Option (Vec (ℕ × ℕ)) → Closing
closing_of (Some pairs) = Pairs pairs
closing_of None = NoMemory

-- how a client may close: the pairs are left; or it is as it was
abbrev pub IsClosing : OwnedPass → Closing → Type 0
IsClosing c (Pairs pairs) = AreLeft (pass_of c) pairs.items
IsClosing c NoMemory = Unit {0}
IsClosing c (Shared d) = d ≡ c

-- the same of what a handle leads to
abbrev pub IsClosingHere : Presence → Closing → Type 0
IsClosingHere (Here c) told = IsClosing c told
IsClosingHere (Away a) told = Unit {0}
IsClosingHere Nobody told = Unit {0}

-- why it cannot end its dictionary: others share it, or no pass is there
abbrev pub IsRefusal : Presence → Option ℕ → Type 0
IsRefusal (Here c) told = IfSome told (λ n. n ≡ 7)
IsRefusal (Away a) told = told ≡ Some 6
IsRefusal Nobody told = told ≡ Some 6
