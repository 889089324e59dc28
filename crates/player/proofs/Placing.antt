-- Where the moment of an answer lies.
use Rattle.std.proofs.Common.{◌≡◌, ℕ, suc, ◌≤◌, Bool, true, false, List, Option, Some, None, refl, sym, ◌∙◌, subst, arith}
use Rattle.histories.specs.Common.{Layout, History}
use Rattle.record.specs.Common.{Call, Command, asks_map, Scx, Set, Map, Reply, Request, HasItsEntry, MayAnswerAfterStep, IsRight, enters}
use Rattle.record.specs.declared.record.Line.{Line}
use Rattle.record.specs.declared.record.Answer.{Answer}
use Rattle.record.specs.declared.record.Answer.TheVariants.{Snapshot, Finalized, Done, Same, Map as MapAnswer}
use Rattle.record.proofs.Lemmas.{some_turn}
use Rattle.linearization.specs.declared.places.Change.{Change}
use Rattle.linearization.specs.Entries.{AreEntries}
use Rattle.linearization.specs.Ordered.{FallFrom}
use Rattle.player.specs.Moments.{IsMomentBy, IsOrderedMoment, IsReadMoment}
use Rattle.player.proofs.EachCall.{TookPlace, ByEntry, ByValue, ByReply, Nowhere, HasTakenPlace, IsMomentSo, is_by_entry, took_place}

-- an answer `done` says that the call has an entry, where it may answer so
pub done_enters : (command : Command) → MayAnswerAfterStep command Done → enters command Done ≡ true
done_enters (Scx update) x = refl
done_enters (Set field value) x = refl
done_enters command x = absurd x

same_won : (b : Bool) (said won : Option ℕ) → b ≡ true → HasItsEntry b won → ((turn : ℕ) → won ≡ Some turn → said ≡ Some turn) → said ≡ won
same_won true said (Some turn) e x f = f turn refl
same_won true said None e x f = absurd x
same_won false said won e x f = cc

-- the moment of a call of the map is that of the lines
map_same : (calls : List Call) (lines : List Line) (changes : List Change) (request : Request ℕ ℕ) (answer : Answer) (first last : ℕ) (said won moment : Option ℕ) → HasTakenPlace request answer → HasItsEntry (enters (Map request) answer) won → ((turn : ℕ) → won ≡ Some turn → said ≡ Some turn) → IsMomentBy calls lines changes (Map request) answer first last said moment → IsMomentBy calls lines changes (Map request) answer first last won moment
map_same calls lines changes request answer first last said won moment p entry f x = (p.moment calls lines changes first last won moment).1 (go p.place p.entered ((p.moment calls lines changes first last said moment).0 x))
  where
    go : (place : TookPlace) → enters (Map request) answer ≡ is_by_entry place → IsMomentSo calls lines changes (Map request) place first last said moment → IsMomentSo calls lines changes (Map request) place first last won moment
    go ByEntry e x = x ∙ same_won (enters (Map request) answer) said won e entry f
    go (ByValue key value) e x = x
    go (ByReply given) e x = x
    go Nowhere e x = x

-- and so is that of each answer which is right
pub moment_same : (lay : Layout) (tries c : ℕ) (now start : History) (linked : ℕ → Option History) (calls : List Call) (lines : List Line) (changes : List Change) (command : Command) (answer : Answer) (first last : ℕ) (said won moment : Option ℕ) → IsRight lay tries c now start linked command answer → (answer ≡ Done → enters command answer ≡ true) → HasItsEntry (enters command answer) won → ((turn : ℕ) → won ≡ Some turn → said ≡ Some turn) → IsMomentBy calls lines changes command answer first last said moment → IsMomentBy calls lines changes command answer first last won moment
moment_same lay tries c now start linked calls lines changes (Map request) answer first last said won moment right done entry f x = map_same calls lines changes request answer first last said won moment (took_place lay tries c now start linked request answer right) entry f x
moment_same lay tries c now start linked calls lines changes command (MapAnswer reply) first last said won moment right done entry f x = absurd right
moment_same lay tries c now start linked calls lines changes command Done first last said won moment right done entry f x = x ∙ same_won (enters command Done) said won (done refl) entry f
moment_same lay tries c now start linked calls lines changes command answer first last said won moment right done entry f x = x

-- and lies between the first turn and the last
module _ (calls : List Call) (lines : List Line) (changes : List Change) (first last m : ℕ) (won moment : Option ℕ) (less : first ≤ last) (between : (turn : ℕ) → won ≡ Some turn → (first ≤ turn) × (turn ≤ last)) (is : moment ≡ Some m) where
  at_first : moment ≡ Some first → (first ≤ m) × (m ≤ last)
  at_first e = let same : first ≡ m = some_turn first m (sym e ∙ is) in (omega arith, omega arith)

  at_last : moment ≡ Some last → (first ≤ m) × (m ≤ last)
  at_last e = let same : last ≡ m = some_turn last m (sym e ∙ is) in (omega arith, omega arith)

  nowhere : moment ≡ None → (first ≤ m) × (m ≤ last)
  nowhere e = absurd (let z : None ≡ Some m = sym e ∙ is in cc)

  read_within : (key : ℕ) (told : Option ℕ) → AreEntries calls lines changes → IsReadMoment calls lines changes key told first last moment → (first ≤ m) × (m ≤ last)
  read_within key told entries x = let y = x entries in let z = rw is at y.0 in (z.from, z.to)

  ordered_within : (command : Command) (reply : Reply ℕ ℕ) → FallFrom (suc last) changes → IsOrderedMoment calls lines changes command reply first last moment → (first ≤ m) × (m ≤ last)
  ordered_within command reply falls x =
      let same : x.turn ≡ m = some_turn x.turn m (sym x.is ∙ is) in
      let y = x.within less falls in
      (subst (λ (n : ℕ). first ≤ n) same y.0, subst (λ (n : ℕ). n ≤ last) same y.1)

  map_within : (request : Request ℕ ℕ) (answer : Answer) → HasTakenPlace request answer → AreEntries calls lines changes → FallFrom (suc last) changes → IsMomentBy calls lines changes (Map request) answer first last won moment → (first ≤ m) × (m ≤ last)
  map_within request answer p entries falls x = go p.place ((p.moment calls lines changes first last won moment).0 x)
    where
      go : (place : TookPlace) → IsMomentSo calls lines changes (Map request) place first last won moment → (first ≤ m) × (m ≤ last)
      go ByEntry x = between m (sym x ∙ is)
      go (ByValue key told) x = read_within key told entries x
      go (ByReply given) x = ordered_within (Map request) given falls x
      go Nowhere x = nowhere x

  pub moment_within : (lay : Layout) (tries c : ℕ) (now start : History) (linked : ℕ → Option History) (command : Command) (answer : Answer) → IsRight lay tries c now start linked command answer → (asks_map command ≡ true → AreEntries calls lines changes) → (asks_map command ≡ true → FallFrom (suc last) changes) → IsMomentBy calls lines changes command answer first last won moment → (first ≤ m) × (m ≤ last)
  moment_within lay tries c now start linked (Map request) answer right entries falls x = map_within request answer (took_place lay tries c now start linked request answer right) (entries refl) (falls refl) x
  moment_within lay tries c now start linked command (MapAnswer reply) right entries falls x = absurd right
  moment_within lay tries c now start linked command Done right entries falls x = between m (sym x ∙ is)
  moment_within lay tries c now start linked command Same right entries falls x = at_first x
  moment_within lay tries c now start linked command (Snapshot left right') right entries falls x = at_last x
  moment_within lay tries c now start linked command Finalized right entries falls x = at_last x
  moment_within lay tries c now start linked command answer right entries falls x = nowhere x
