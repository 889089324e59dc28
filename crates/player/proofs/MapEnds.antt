-- How a call of the map ends: what its reply says of the call.
use Rattle.std.proofs.Common.{◌≡◌, ℕ, ◌<◌, inl, ⊎_elim, Bool, true, false, is_some, List, Option, Some, None, sym, ◌∙◌, ap, subst}
use Rattle.histories.specs.Common.{value, Call as MachineCall, Remaining}
use Rattle.ordered_map.specs.CallRules.{MayReply, form_of}
use Rattle.dict.specs.Calls.{AsksForPairs}
use Rattle.dict.specs.DictKnown.{DictRefuses}
use Rattle.dict.specs.Says.{HasMadeEdit, HasTold, HasToldBy, TellsOfMap}
use Rattle.record.specs.Common.{MapCall, MapEdit, MapReply, OneValue, changes_map, edit_of, reply, number_reply, map_request, Pair as PairOf, Reply, Value}
use Rattle.record.specs.Common.{Pairs, Contended, Full, NoMemory, Request, HasItsEntry, MayAnswerAfterStep, enters, IsRight, reply_told, Command, Map as MapOf}
use Rattle.ordered_map.proofs.Lemmas.{one_spelling}
use Rattle.ordered_map.specs.declared.reply.Reply.TheVariants.{Pair}
use Rattle.edits.specs.Tries.{HasEnteredNone}
use Rattle.record.specs.declared.record.Answer.{Answer}
use Rattle.record.specs.declared.record.Answer.TheVariants.{Map as MapAnswer}
use Rattle.player.specs.declared.client.Client.{Client}
use Rattle.player.specs.ClientView.{ClientView, IsOwnWin, IsToldBy, IsToldChange, IsToldOfMap, IsWonSince, AnswersRight, machine_call}
use Rattle.player.proofs.EachCall.{TookPlace, ByEntry, ByValue, ByReply, Nowhere, HasTakenPlace, RestsAbove, TellsSo, answer_right, is_by_entry, replied, took_place}

-- the answer is one that the command gives, it is right, and an update of the call has won if it
-- says so
pub record IsRightEnd (v : ClientView) (c : ℕ) (command : Command) (answer : Answer) : Type 0 where
  pub answers : MayAnswerAfterStep command answer
  pub right : IsRight v.layout v.tries c v.past v.start v.linked command answer
  pub entry : HasItsEntry (enters command answer) v.won
  pub tells : AnswersRight v c command answer

pub entered_some : (won : Option ℕ) (turn : ℕ) → won ≡ Some turn → HasItsEntry true won
entered_some (Some k) turn e = tt
entered_some None turn e = cc

pub entered_none : (won : Option ℕ) → won ≡ None → HasItsEntry false won
entered_none None e = tt
entered_none (Some k) e = cc

module _ (v : ClientView) (c : Client) (is_pass : c.pass.0 < v.layout.passes) (won : IsWonSince v c.pass.0) where
  abbrev call : MachineCall
  call = machine_call v c is_pass v.start

  -- a call that has entered nothing has no turn in which an update has won
  unwon : HasEnteredNone v.layout c.pass.0 v.past v.start → v.won ≡ None
  unwon none = ⊎_elim (λ e. e) (λ y. absurd (none y.0 y.1 y.2 y.3.within y.3.since y.3.wins y.3.own)) won.no

  -- A change

  -- the call answers what the map just before its own row replies
  changed : (of : MapCall) (told : MapReply) (e : MapEdit) → HasMadeEdit call v.past of told e → ((turn : ℕ) × (v.won ≡ Some turn)) × IsToldChange v c.pass.0 of told
  changed of told e x =
      let made = x.made in
      let win : IsOwnWin v c.pass.0 made.row made.before made.scx = record { within = made.within; since = made.since; wins = made.wins; own = made.own } in (
        won.yes made.row made.before made.scx win,
        record { row = made.row; before = made.before; scx = made.scx; win = win; replies = λ m s. subst (λ (k : List PairOf). reply of k ≡ told) (one_spelling v.layout (value made.before) x.map m x.spelled s) x.gives },
      )

  -- What is answered

  -- of a change or of a reading
  told_by : (of : MapCall) (told : MapReply) (e : Option MapEdit) → AsksForPairs of → HasToldBy e call v.past of told → HasItsEntry (is_some e) v.won × IsToldBy (is_some e) v c.pass.0 of told
  told_by of told None asks x = (entered_none v.won (unwon x.none), inl (replied v c is_pass of told asks x))
  told_by of told (Some e) asks x = let y = changed of told e x in (entered_some v.won y.0.0 y.0.1, y.1)

  tells_so : (of : MapCall) (told : Option MapReply) → AsksForPairs of → TellsOfMap call v.past of told → IsToldOfMap v c.pass.0 of told
  tells_so of None asks x = tt
  tells_so of (Some told) asks x = (told_by of told (edit_of of told) asks x).1

  -- and the call has its entry where it has changed the map
  enters_so : (of : MapCall) (told : MapReply) → AsksForPairs of → HasTold call v.past of told → HasItsEntry (changes_map of told) v.won
  enters_so of told asks x = (told_by of told (edit_of of told) asks x).0

  -- a refusal has entered nothing
  none_entered : (of : MapCall) (a : Reply ℕ ℕ) (share : Remaining) → number_reply a ≡ None → DictRefuses call v.past of share v.tries a → HasEnteredNone v.layout c.pass.0 v.past v.start
  none_entered of (Contended node scx) share e why = why.none
  none_entered of (Full full) share e why = why.none
  none_entered of NoMemory share e why = why.1
  none_entered of (Value told) share e why = absurd cc
  none_entered of (Pair found) share e why = absurd cc
  none_entered of (Pairs found) share e why = absurd cc

  -- Ends

  -- an update of the call has won where it took place at its entry
  entered_so : (r : Request ℕ ℕ) (a : Reply ℕ ℕ) (share : Remaining) → HasTakenPlace r (MapAnswer a) → AsksForPairs (map_request r) → TellsOfMap call v.past (map_request r) (number_reply a) → DictRefuses call v.past (map_request r) share v.tries a → HasItsEntry (enters (MapOf r) (MapAnswer a)) v.won
  entered_so r a share p asks tells why = subst (λ (b : Bool). HasItsEntry b v.won) (sym p.entered) (go p.place p.tells)
    where
      by_told : (told : MapReply) (b : Bool) → number_reply a ≡ Some told → changes_map (map_request r) told ≡ b → HasItsEntry b v.won
      by_told told b is changes = subst (λ (z : Bool). HasItsEntry z v.won) changes (enters_so (map_request r) told asks (subst (TellsOfMap call v.past (map_request r)) is tells))

      go : (place : TookPlace) → TellsSo r (MapAnswer a) place → HasItsEntry (is_by_entry place) v.won
      go ByEntry t = by_told t.0 true t.1 t.2
      go (ByValue key value) t = by_told (OneValue value) false t.0 t.1
      go (ByReply given) t = by_told t.2.0 false (ap reply_told t.1 ∙ t.2.1) t.2.2
      go Nowhere t = entered_none v.won (unwon (none_entered (map_request r) a share t why))

  pub map_ends : (r : Request ℕ ℕ) (a : Reply ℕ ℕ) (share : Remaining) → AsksForPairs (map_request r) → RestsAbove v c is_pass share → MayReply (map_request r) (form_of a) → TellsOfMap call v.past (map_request r) (number_reply a) → DictRefuses call v.past (map_request r) share v.tries a → IsRightEnd v c.pass.0 (MapOf r) (MapAnswer a)
  map_ends r a share asks rests form tells why =
      let right = answer_right v c is_pass (map_request r) a share rests form tells why in
      record {
        answers = form;
        right = right;
        entry = entered_so r a share (took_place v.layout v.tries c.pass.0 v.past v.start v.linked r (MapAnswer a) right) asks tells why;
        tells = tells_so (map_request r) (number_reply a) asks tells;
      }
