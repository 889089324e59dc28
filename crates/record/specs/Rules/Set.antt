-- The rules of `set`.
use Rattle.std.specs.Prelude.{◌≡◌, ℕ, true, false, if◌then◌else◌, ◌==◌, [], ◌∷◌, Option}
use Rattle.histories.specs.Common.{Layout, Side, Freeze, History, value, Extends, HasFailed, Entry as Entered, log, is_final}
use Rattle.record.specs.declared.record.Answer.{Answer}
use Rattle.record.specs.declared.record.Answer.TheVariants.{Finalized, Fail, Done, Lost, Full}
use Rattle.record.specs.Answers.{IsUnchanged, IsInTheWay, HasRoom, is_done, IsPlacedCell}
use Rattle.record.specs.Rules.{Rules}
use Rattle.record.specs.Shares.{HasTooFew}
use Rattle.record.specs.Snapshots.{snapshot_of, IsLastLook}
use Rattle.record.specs.Updates.{IsEntryOver}

-- the answers of a `set`, which is an LLX and, if that gives a snapshot, an SCX over it
abbrev pub SetAfterStep : Answer → Type 0
SetAfterStep Finalized = Unit {0}
SetAfterStep (Fail node scx) = Unit {0}
SetAfterStep (Full what left) = Unit {0}
SetAfterStep Done = Unit {0}
SetAfterStep (Lost node scx) = Unit {0}
SetAfterStep _ = ⊥

-- a `set` drops the client's snapshot of its cell; one
-- whose share is too small keeps that of its LLX
abbrev pub set_linked : ℕ × Side → Answer → History → ℕ → Option History → Option History
set_linked field answer now n old = if field.0 == n then snapshot_of answer now else old

-- what its answers say of the cell; of one that is done, its entry says all the rest
abbrev pub SetIsRight : ℕ × Side → ℕ → Layout → ℕ → History → History → (ℕ → Option History) → Answer → Type 0
-- the cell is final now
SetIsRight field value lay c now start linked Finalized = is_final (log lay now) field.0 ≡ true
-- another client's SCX-record was in the way of its LLX
SetIsRight field value lay c now start linked (Fail node scx) = (node.0 ≡ field.0) × HasFailed lay c now start field.0 scx.0
-- the share has none left of this; the call's LLX has just looked at the cell, which is not final
SetIsRight field value lay c now start linked (Full what left) = HasTooFew lay c now 1 what left × (is_final (log lay now) field.0 ≡ false) × IsLastLook c now start now field.0
-- another client's SCX-record has reached the cell since the snapshot of its own LLX
SetIsRight field value lay c now start linked (Lost node scx) = HasRoom lay c start × IsInTheWay lay c now start Freeze (field.0 ∷ []) node.0 scx.0 (λ moment. IsLastLook c now start moment field.0 × (is_final (log lay moment) field.0 ≡ false))
SetIsRight field value lay c now start linked Done = HasRoom lay c start
SetIsRight field value lay c now start linked _ = ⊥

-- its entry covers the one cell and sets its field; just before it the cell was as the snapshot of
-- the LLX in the call itself found it
abbrev pub IsSetEntry : ℕ × Side → ℕ → Layout → ℕ → History → History → (ℕ → Option History) → Entered → Type 0
IsSetEntry field x lay c before start linked e = IsEntryOver lay c before e (field.0 ∷ []) [] field x × ((moment : History) × Extends before moment × IsLastLook c before start moment field.0 × IsUnchanged lay before moment field.0)

-- at most the steps of an LLX and those of an SCX, of any kind; an SCX-record, and a node for it.
-- It never answers at once
abbrev pub set_rules : ℕ × Side → ℕ → Rules
set_rules field value = record {
  most_steps = λ tries taken. 104;
  most_scx = λ tries. 1;
  nodes_each = 1;
  MayMake = λ kind. Unit {0};
  IsAtOnce = λ answer. ⊥;
  IsAfterStep = SetAfterStep;
  enters = is_done;
  linked_then = set_linked field;
  IsRight = λ lay tries. SetIsRight field value lay;
  IsEntryFor = IsSetEntry field value;
  IsPlaced = λ lay calls lines reply. IsPlacedCell lay lines reply;
}
