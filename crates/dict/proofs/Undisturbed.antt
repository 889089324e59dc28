-- What a call by itself answers and leaves.
use Rattle.std.proofs.Common.{◌≡◌, ◌∙◌, ◌<◌, ℕ, inl, inr, List, Option, Some, None, refl, sym, ap, subst}
use Rattle.histories.specs.Common.{History, ◌⊳◌, value, Extends, Call, Full as FullOf, Remaining}
use Rattle.arena.specs.Undisturbed.{IsUndisturbed}
use Rattle.arena.proofs.Lemmas.{ends_self, ends_trans}
use Rattle.template.specs.Common.{Pair, MapCall, MapEdit, MapReply, reply, edit_of, edited, IsMapRun, Spells, IsContended, need}
use Rattle.ordered_map.specs.OrderedMap.{after, after_edit}
use Rattle.ordered_map.proofs.Lemmas.{after_is, one_spelling}
use Rattle.ordered_map.proofs.MapLemmas.{run_since}
use Rattle.edits.specs.Known.{HasMade, RestsWith, IsUntouched}
use Rattle.edits.specs.Tries.{HasEnteredNone}
use Rattle.dict.specs.Says.{HasLost, HasToldBy, HasRunOut, HasTooLittle}

-- what a made edit leaves, and what a call by itself that has entered nothing leaves
abbrev pub Makes : Type 0
Makes = (c : Call) (h : History) (edit : MapEdit) (number : ℕ) (old : Option ℕ) (map : List Pair) → IsMapRun c.layout h → IsUndisturbed c h → (made : HasMade edit c h number old) → Spells c.layout (value c.start) map → Spells c.layout (value made.before) map × Spells c.layout (value h) (edited edit map)

abbrev pub Keeps : Type 0
Keeps = (c : Call) (h : History) (map : List Pair) → IsMapRun c.layout h → IsUndisturbed c h → HasEnteredNone c.layout c.pass h c.start → Spells c.layout (value c.start) map → Spells c.layout (value h) map

-- a call that has lost its tries was contended
pub was_contended : (c : Call) (h : History) (call : MapCall) (tries n s : ℕ) → HasLost c h call tries n s → IsContended c h n s
was_contended c h call tries n s x =
    let way = x.lost.all.lost.in_the_way in
    let found = x.lost.all.found in
    let begin : History = x.lost.all.lost.begin in
    let since : Extends begin c.start = x.lost.all.lost.since in
    record {
      others = x.lost.others;
      in_the_way = record { row = way.row; before = way.before; within = way.within; since = ends_trans way.before begin c.start way.since since; running = way.running; covers = way.covers };
      over_or_new = x.lost.over_or_new;
      found = record { row = found.row; before = found.before; within = found.within; since = ends_trans found.before begin c.start found.since since; own = found.own; word = found.word; found = found.found };
    }

-- a call that no other was in the way of, and that is full, had all of its share as it began
untouched : (c : Call) (h : History) (share : Remaining) → ((n t : ℕ) → ¬ IsContended c h n t) → IsUntouched c h share → RestsWith c c.start share
untouched c h share never (inl rests) = rests
untouched c h share never (inr lost) = absurd (never lost.0 lost.1 lost.2)

pub full_by_one : (c : Call) (h : History) (call : MapCall) (share : Remaining) (full : FullOf) → ((n t : ℕ) → ¬ IsContended c h n t) → HasRunOut c h call share full → RestsWith c c.start share
full_by_one c h call share full never x = untouched c h share never x.first

module _ (makes : Makes) (keeps : Keeps) (c : Call) (h : History) (map : List Pair) (run : IsMapRun c.layout h) (alone : IsUndisturbed c h) (s : Spells c.layout (value c.start) map) where
  -- the map at any moment of a call that has entered nothing
  keeps_at : (moment : History) → Extends h moment → Extends moment c.start → HasEnteredNone c.layout c.pass h c.start → Spells c.layout (value moment) map
  keeps_at moment e f none = keeps c moment map (run_since c.layout h moment run e)
      record { since = f; rest = alone.rest; own = λ row before w x. alone.own row before (ends_trans h moment (row ⊳ before) e w) x }
      (λ row before t w x y. none row before t (ends_trans h moment (row ⊳ before) e w) x y) s

  -- what it leaves, where its reply says which edit it has made
  left : (call : MapCall) (told : MapReply) (made : Option MapEdit) → edit_of call told ≡ made → told ≡ reply call map → after call map ≡ after_edit made map
  left call told made e is = after_is call map made (subst (λ t. edit_of call t ≡ made) is e)

  told_by : (made : Option MapEdit) (call : MapCall) (told : MapReply) → edit_of call told ≡ made → HasToldBy made c h call told → (told ≡ reply call map) × Spells c.layout (value h) (after call map)
  told_by (Some edit) call told e x =
      let y = makes c h edit c.number x.old map run alone x.made s in
      let same : x.map ≡ map = one_spelling c.layout (value x.made.before) x.map map x.spelled y.0 in
      let is : told ≡ reply call map = sym x.gives ∙ ap (reply call) same in
      (is, subst (Spells c.layout (value h)) (sym (left call told (Some edit) e is)) y.1)
  told_by None call told e x =
      let read = x.read in
      let same : read.map ≡ map = one_spelling c.layout (value read.moment) read.map map read.spelled (keeps_at read.moment read.within read.since x.none) in
      let is : told ≡ reply call map = sym read.gives ∙ ap (reply call) same in
      (is, subst (Spells c.layout (value h)) (sym (left call told None e is)) (keeps_at h (ends_self h) alone.since x.none))

  -- what is refused for want of its share had all of it as it began, and too little for that map
  pub full_alone : ((n t : ℕ) → ¬ IsContended c h n t) → (call : MapCall) (share : Remaining) (full : FullOf) → HasRunOut c h call share full → RestsWith c c.start share × (0 < need call map) × HasTooLittle (need call map) share full.what full.left
  full_alone never call share full x =
      let y = x.short in
      let then = y.needed in
      let same : then.map ≡ map = one_spelling c.layout (value then.moment) then.map map then.spelled (keeps_at then.moment then.within (ends_trans then.moment y.only_looked.begin c.start then.since y.only_looked.since) x.none) in
      let some : 0 < need call map = subst (λ m. 0 < need call m) same then.some in
      let short : HasTooLittle (need call map) share full.what full.left = subst (λ m. HasTooLittle (need call m) share full.what full.left) same y.short in
      (untouched c h share never x.first, some, short)

  pub told_alone : (call : MapCall) (told : MapReply) → HasToldBy (edit_of call told) c h call told → (told ≡ reply call map) × Spells c.layout (value h) (after call map)
  told_alone call told x = told_by (edit_of call told) call told refl x
