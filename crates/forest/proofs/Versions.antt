-- What the calls of a dictionary say.
use Rattle.std.proofs.Common.{◌≡◌, ◌∙◌, ℕ, ◌<◌, ◌⊎◌, inl, inr, List, Option, Some, None, sym, subst}
use Rattle.atomic_table.specs.Seated.{TableId}
use Rattle.histories.specs.Common.{Full as FullOf, Row, WasInTheWay, IsOthersScx, History, ◌⊳◌, Extends, Call, Remaining}
use Rattle.arena.proofs.Lemmas.{ends_self, ends_trans}
use Rattle.template.specs.Common.{MapCall, MapReply, MapEdit, edit_of, IsMapRun, Makes}
use Rattle.ordered_map.proofs.Lemmas.{makes_since}
use Rattle.edits.specs.Known.{RestsWith, IsUntouched}
use Rattle.edits.specs.Tries.{HasEnteredNone}
use Rattle.prims.specs.Shares.{share_end}
use Rattle.dict.specs.Laws.OneShare.{one_share}
use Rattle.dict.specs.Says.{HasMadeEdit, HasToldBy, HasTold, HasLost, HasRunOut}
use Rattle.forest.specs.Dictionary.{IsChange, IsChangeOrReading, IsContendedCall, IsFullCall}
use Rattle.tables.specs.Passes.{PassView, run_of, done_of, taken_of}
use Rattle.forest.proofs.Entered.{none_entered, one_entered}
use Rattle.forest.proofs.Took.{made_row, took_from, took_below, took_some}
use Rattle.planting.specs.Plantings.{PlantingView}

-- a call of the pass `was`, which leaves it at this table with this share, run and blame list
module _ (was : PassView) (is_pass : was.number < was.layout.passes) (number : ℕ) (same : number ≡ taken_of was) (table : TableId) (left : Remaining) (planting : PlantingView) (known : List Row) (blamed : List ℕ) where
  abbrev pub call_by : Call
  call_by = record { layout = was.layout; pass = was.number; is_pass = is_pass; number = number; start = run_of was }

  abbrev pub then : PassView
  then = record { table = table; layout = was.layout; planting = planting; number = was.number; share = left; known = known; blamed = blamed }

  module _ (run : IsMapRun was.layout (run_of then)) (since : Extends (run_of then) (run_of was)) (end : share_end left ≡ share_end was.share) where
    none_more : HasEnteredNone was.layout was.number (run_of then) (run_of was) → done_of then ≡ done_of was
    none_more none = none_entered was.layout was.number (run_of then) (run_of was) run.1.lawful since none

    -- an edit that is made
    change_says : (call : MapCall) (told : MapReply) (edit : MapEdit) → RestsWith call_by (run_of was) was.share → RestsWith call_by (run_of then) left → HasMadeEdit call_by (run_of then) call told edit → IsChange was then call told edit
    change_says call told edit first rests x =
        let y = x.made in
        let before : History = y.before in
        let within : Extends (run_of then) before = ends_trans (run_of then) (y.row ⊳ before) before y.within (inr (ends_self before)) in
        record {
          row = y.row;
          before = before;
          within = y.within;
          since = y.since;
          own = made_row call_by (run_of then) run.1.lawful y was.share first;
          entry = y.entry;
          logged = y.logged;
          done = one_entered call_by (run_of then) run.1.lawful y;
          of_pass = y.owner;
          of_call = y.call ∙ same;
          makes = subst (λ (u : ℕ). Makes was.layout (run_of then) u edit) (sym y.of_scx) (makes_since was.layout (run_of then) before y.scx edit within y.edits.makes);
          was_left = rw y.of_scx (took_from call_by (run_of then) run.1.lawful y was.share first);
          is_taken = rw y.of_scx (took_below call_by (run_of then) run.1.lawful y was.share first left rests);
          took = took_some call_by (run_of then) run.1.lawful y was.share first left end rests;
          map = x.map;
          was = x.spelled;
          gives = x.gives;
          is = y.edits.changes x.map x.spelled;
        }

    told_by : (made : Option MapEdit) (call : MapCall) (told : MapReply) → RestsWith call_by (run_of was) was.share → RestsWith call_by (run_of then) left → HasToldBy made call_by (run_of then) call told → IsChangeOrReading made was then call told
    told_by (Some edit) call told first rests y = change_says call told edit first rests y
    told_by None call told first rests y = record { read = y.read; done = none_more y.none }

    -- what is answered, with what its share had as the call began, and has now
    pub told_says : (call : MapCall) (told : MapReply) → RestsWith call_by (run_of was) was.share → RestsWith call_by (run_of then) left → HasTold call_by (run_of then) call told → IsChangeOrReading (edit_of call told) was then call told
    told_says call told first rests y = told_by (edit_of call told) call told first rests y

    -- refusals
    pub lost_says : (tries : ℕ) (call : MapCall) (n s : ℕ) → HasLost call_by (run_of then) call tries n s → IsContendedCall tries was then call n s
    lost_says tries call n s y = record { lost = y.lost; done = none_more y.none }

    -- with what its share had as the call began
    pub full_says : (call : MapCall) (full : FullOf) → RestsWith call_by (run_of was) was.share → HasRunOut call_by (run_of then) call left full → IsFullCall was then call full
    full_says call full rests y = record { short = y.short; first = untouched y.first; done = none_more y.none }
      where
        untouched : IsUntouched call_by (run_of then) left → (left ≡ was.share) ⊎ ((n : ℕ) × (s : ℕ) × IsOthersScx was.layout was.number s × WasInTheWay (run_of then) (run_of was) n s)
        untouched (inl z) = inl (one_share call_by (run_of was) left was.share end z rests)
        untouched (inr z) = inr (z.0, z.1, z.2.others, z.2.in_the_way)

    pub nothing_says : HasEnteredNone was.layout was.number (run_of then) (run_of was) → done_of then ≡ done_of was
    nothing_says none = none_more none
