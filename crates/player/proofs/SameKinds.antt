-- Whether two kinds of step are the same.
use Rattle.std.proofs.Common.{◌≡◌, eqb, Bool, Option, Some, refl, sym, ◌∙◌}
use Rattle.std.specs.Option.{option_eq}
use Rattle.histories.specs.Common.{Kind, Fill, LoadSettled, LoadInfo, LoadState, LoadMarked, LoadAllFrozen, LoadChild, Freeze, SetFrozen, Mark, Update, Commit, Abort}
use Rattle.arena.specs.contracts.step.Kind.{the_type}
use denote.Enum.Bare.{sameb}
use denote.Enum.Declared.{tag_of}
use Rattle.record.specs.declared.record.TurnRow.{TurnRow}
use Rattle.record.specs.declared.record.TurnRow.TheVariants.{Step as Made, Idle}
use Rattle.record.specs.Turns.{kind_place, kind_of, is_of}

-- the place of a kind is the one that it has in its type
tag_is : (k : Kind) → tag_of the_type k ≡ kind_place k
tag_is Fill = refl
tag_is LoadSettled = refl
tag_is LoadInfo = refl
tag_is LoadState = refl
tag_is LoadMarked = refl
tag_is LoadAllFrozen = refl
tag_is LoadChild = refl
tag_is Freeze = refl
tag_is SetFrozen = refl
tag_is Mark = refl
tag_is Update = refl
tag_is Commit = refl
tag_is Abort = refl

-- so kinds are the same where their places are
kind_same : (a b : Kind) → sameb the_type a b ≡ eqb (kind_place a) (kind_place b)
kind_same a b = rw (tag_is a, tag_is b) refl

-- what a comparison of a turn's kind with one shows
pub kind_is : (row : TurnRow) (kind : Kind) (found : Option Kind) (same : Bool) → found ≡ kind_of row → same ≡ option_eq (sameb the_type) found (Some kind) → is_of kind row ≡ same
kind_is row kind found same f e = go row ∙ sym (rw f at e)
  where
    go : (row : TurnRow) → is_of kind row ≡ option_eq (sameb the_type) (kind_of row) (Some kind)
    go (Made number row) = sym (kind_same row.kind kind)
    go (Idle number client) = refl
