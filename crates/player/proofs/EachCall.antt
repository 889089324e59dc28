-- What is shown of each call of the map by itself, with an arm for each: which edit it has made,
-- how many steps it makes, where it took place, and what its answers say. The other proofs of this
-- crate speak of any call.
use Rattle.std.proofs.Common.{◌≡◌, ℕ, ◌<◌, ◌⊎◌, inl, inr, Bool, true, false, cond, is_some, ◌↔◌, List, Option, Some, None, refl, sym, ◌∙◌, ap, subst, arith}
use Rattle.std.specs.Option.{option_map}
use Rattle.histories.specs.Common.{Full as FullOf, Layout, Side, History, value, Extends, Call as MachineCall, Remaining}
use Rattle.arena.proofs.Lemmas.{ends_trans}
use Rattle.histories.proofs.Lemmas.{entry_of}
use Rattle.record.specs.Common.{need, MapCall, MapEdit, MapReply, OneValue, ManyPairs, Edit, changes_map, edit_key, edit_of, edit_to, get, leaves, pair_or_none}
use Rattle.record.specs.Common.{reply, Goal, Key, End, number_reply, word_pair, map_request, tells_change, Makes, Spells, Pair, Reply, Value, Pairs, Contended, Full}
use Rattle.record.specs.Common.{NoMemory, Request, Range as RangeOf, Call, Command, Map, HasLostAllTries, IsRight, number_pairs, reply_told, IsMapEntry, HasReplied}
use Rattle.template.specs.Common.{MayReply, form_of, OnePair, Insert, Delete, Get, Neighbour, Range, applies, end_pair, Rule, IsAnswerAt}
use Rattle.ordered_map.specs.CallRules.{IsFormOfEdit}
use Rattle.ordered_map.specs.Requests.{AsksForFew, key_told}
use Rattle.ordered_map.proofs.Lemmas.{end_had}
use Rattle.ordered_map.specs.declared.reply.Reply.TheVariants.{Pair as PairOf}
use Rattle.ordered_map.specs.declared.request.Request.TheVariants.{Get as GetOf}
use Rattle.edits.specs.Known.{RestsWith, IsUntouched}
use Rattle.dict.specs.Calls.{AsksForPairs, IsFewCall}
use Rattle.dict.specs.DictKnown.{DictRefuses}
use Rattle.dict.specs.Says.{HasLost, HasNeeded, HasReadMap, HasRunOut, HasTold, HasToldBy, TellsOfMap, WalksFirst}
use Rattle.record.specs.declared.record.Line.{Line}
use Rattle.record.specs.declared.record.Answer.{Answer}
use Rattle.record.specs.declared.record.Answer.TheVariants.{Map as MapAnswer}
use Rattle.record.specs.Rules.Map.{map_rules}
use Rattle.record.specs.Rules.Edit.{EditIsRight, EditTells, FindsFirst, HadToChange, HasChangedOrReplied}
use Rattle.record.specs.Shares.{HasTooFew, HasTooFewToTry, WasBlocked}
use Rattle.record.proofs.Lemmas.{value_told}
use Rattle.linearization.specs.declared.places.Change.{Change}
use Rattle.linearization.specs.Changed.{edited_key}
use Rattle.linearization.specs.Ordered.{IsOrderedRead}
use Rattle.player.specs.declared.client.Client.{Client}
use Rattle.player.specs.ClientView.{ClientView, machine_call}
use Rattle.player.specs.Moments.{IsAnswerMoment, IsOrderedMoment, IsReadMoment, IsReadingMoment, IsWonOrRead}
use Rattle.player.proofs.Keys.{some_edit}
use Rattle.prims.specs.Shares.{IsUpperEnd}
use Rattle.player.proofs.Left.{short_left}

-- Which edit a call has made

-- a call that has made an edit speaks of its key, or the map had the key
abbrev pub IsOfKey : MapCall → List Pair → ℕ → Type 0
IsOfKey call m key = (edited_key (Some call) ≡ Some key) ⊎ ((w : ℕ) × (get key m ≡ Some w))

-- one that a rule makes of a key is of that key
by_rule : (b : Bool) (key : ℕ) (left : Option ℕ) (edit : MapEdit) → cond b (Some (edit_to key left)) None ≡ Some edit → key ≡ edit_key edit
by_rule true key None edit made = ap edit_key (some_edit (Delete key) edit made)
by_rule true key (Some v) edit made = ap edit_key (some_edit (Insert key v) edit made)
by_rule false key left edit made = cc

pub edit_of_key : (call : MapCall) (edit : MapEdit) (m : List Pair) → edit_of call (reply call m) ≡ Some edit → IsOfKey call m (edit_key edit)
edit_of_key (Edit (Key k) rule) edit m made = inl (ap (λ (n : ℕ). Some n) (by_rule (applies rule (get k m)) k (leaves rule) edit made))
edit_of_key (Edit (End side) rule) edit m made = go (end_pair side m) refl made
  where
    go : (o : Option Pair) → end_pair side m ≡ o → edit_of (Edit (End side) rule) (pair_or_none o) ≡ Some edit → IsOfKey (Edit (End side) rule) m (edit_key edit)
    go None is made = cc
    go (Some p) is made =
        let had = end_had side m p is in
        inr (had.0, subst (λ (n : ℕ). get n m ≡ Some had.0) (by_rule (applies rule (Some p.value)) p.key (leaves rule) edit made) had.1)
edit_of_key (Get key) edit m made = cc
edit_of_key (Neighbour side key) edit m made = cc
edit_of_key (Range low high most) edit m made = cc

-- an SCX-record that makes an edit has an entry of a call whose reply, on the map just before, says
-- that it has made the edit
pub entry_makes : (lay : Layout) (before : History) (s : ℕ) (of : MapCall) (edit : MapEdit) (map : List Pair) → Spells lay (value before) map → ((also : List Pair) → Spells lay (value before) also → edit_of of (reply of also) ≡ Some edit) → Makes lay before s edit → IsMapEntry of lay before (entry_of lay before s)
entry_makes lay before s (Edit goal rule) edit map spells gives makes = record { edit = edit; makes = makes; of_map = gives }
entry_makes lay before s (Get key) edit map spells gives makes = absurd (let e = gives map spells in cc)
entry_makes lay before s (Neighbour side key) edit map spells gives makes = absurd (let e = gives map spells in cc)
entry_makes lay before s (Range low high most) edit map spells gives makes = absurd (let e = gives map spells in cc)

-- What steps a call may make

-- one that finds first what it has to change walks first
walks_first : (lay : Layout) (goal : Goal) (rule : Rule) → FindsFirst lay (Edit goal rule) → WalksFirst lay (Edit goal rule)
walks_first lay (Key k) rule finds = tt
walks_first lay (End side) rule finds = finds

-- a request for few pairs is a call that asks for few
pub few_pairs : (request : Request ℕ ℕ) → AsksForFew request → IsFewCall (map_request request)
few_pairs (RangeOf low high most) few = few
few_pairs request few = tt

-- Where a call took place

-- at its entry; in the greatest of its turns after which a key had this; in the greatest of those
-- after which the map replied this; nowhere, where it was refused
pub data TookPlace : Type 0 where
  ByEntry : TookPlace
  ByValue : ℕ → Option ℕ → TookPlace
  ByReply : Reply ℕ ℕ → TookPlace
  Nowhere : TookPlace

abbrev pub is_by_entry : TookPlace → Bool
is_by_entry ByEntry = true
is_by_entry _ = false

-- its moment is so
abbrev pub IsMomentSo : List Call → List Line → List Change → Command → TookPlace → ℕ → ℕ → Option ℕ → Option ℕ → Type 0
IsMomentSo calls lines changes command ByEntry first last won moment = moment ≡ won
IsMomentSo calls lines changes command (ByValue key value) first last won moment = IsReadMoment calls lines changes key value first last moment
IsMomentSo calls lines changes command (ByReply given) first last won moment = IsOrderedMoment calls lines changes command given first last moment
IsMomentSo calls lines changes command Nowhere first last won moment = moment ≡ None

-- and so is what it answers
abbrev pub TellsOf : Request ℕ ℕ → MapCall → Answer → TookPlace → Type 0
TellsOf request of answer ByEntry = (told : MapReply) × (reply_told answer ≡ Some told) × (changes_map of told ≡ true)
TellsOf request of answer (ByValue key value) = (reply_told answer ≡ Some (OneValue value)) × (changes_map of (OneValue value) ≡ false) × ((m : List Pair) → reply of m ≡ OneValue (get key m))
TellsOf request of answer (ByReply given) = IsOrderedRead (Map request) × (answer ≡ MapAnswer given) × ((told : MapReply) × (number_reply given ≡ Some told) × (changes_map of told ≡ false))
TellsOf request of answer Nowhere = reply_told answer ≡ None

abbrev pub TellsSo : Request ℕ ℕ → Answer → TookPlace → Type 0
TellsSo request = TellsOf request (map_request request)

-- the request is this call of the map, and with this answer it took place there
pub record HasPlace (request : Request ℕ ℕ) (of : MapCall) (answer : Answer) : Type 0 where
  pub place : TookPlace
  pub entered : tells_change of (reply_told answer) ≡ is_by_entry place
  pub tells : TellsOf request of answer place
  pub moment : (calls : List Call) (lines : List Line) (changes : List Change) (first last : ℕ) (won at : Option ℕ) → IsAnswerMoment calls lines changes (Map request) (Some of) answer first last won at ↔ IsMomentSo calls lines changes (Map request) place first last won at

abbrev pub HasTakenPlace : Request ℕ ℕ → Answer → Type 0
HasTakenPlace request = HasPlace request (map_request request)

same : {A : Type 0} → A ↔ A
same = (λ x. x, λ x. x)

is_made : (b : Bool) (edit : MapEdit) → is_some (cond b (Some edit) None) ≡ b
is_made true edit = refl
is_made false edit = refl

-- a reply that says this took place at its entry if it says that it has changed the map, and else
-- where it was read
module _ (request : Request ℕ ℕ) (of : MapCall) (given : Reply ℕ ℕ) (told : MapReply) (is : number_reply given ≡ Some told) where
  says : (b : Bool) → changes_map of told ≡ b → tells_change of (number_reply given) ≡ b
  says b changes = ap (tells_change of) is ∙ changes

  at_entry : changes_map of told ≡ true → HasPlace request of (MapAnswer given)
  at_entry changes = record {
    place = ByEntry;
    entered = says true changes;
    tells = (told, is, changes);
    moment = λ calls lines changed first last won at. subst (λ (b : Bool). IsWonOrRead b (IsReadingMoment calls lines changed (Map request) given (key_told of) (number_reply given) first last at) won at ↔ (at ≡ won)) (sym (says true changes)) same;
  }

  at_reading : changes_map of told ≡ false → (place : TookPlace) → is_by_entry place ≡ false → TellsOf request of (MapAnswer given) place → ((calls : List Call) (lines : List Line) (changes : List Change) (first last : ℕ) (won at : Option ℕ) → IsReadingMoment calls lines changes (Map request) given (key_told of) (Some told) first last at ↔ IsMomentSo calls lines changes (Map request) place first last won at) → HasPlace request of (MapAnswer given)
  at_reading changes place entry tells so = record {
    place = place;
    entered = says false changes ∙ sym entry;
    tells = tells;
    moment = λ calls lines changed first last won at.
        subst (λ (b : Bool). IsWonOrRead b (IsReadingMoment calls lines changed (Map request) given (key_told of) (number_reply given) first last at) won at ↔ IsMomentSo calls lines changed (Map request) place first last won at) (sym (says false changes))
        (subst (λ (t : Option MapReply). IsReadingMoment calls lines changed (Map request) given (key_told of) t first last at ↔ IsMomentSo calls lines changed (Map request) place first last won at) (sym is) (so calls lines changed first last won at));
  }

  -- in order
  ordered_place : changes_map of told ≡ false → key_told of ≡ None → IsOrderedRead (Map request) → HasPlace request of (MapAnswer given)
  ordered_place changes none ordered = at_reading changes (ByReply given) refl (ordered, refl, (told, is, changes))
      (λ calls lines changed first last won at. subst (λ (key : Option ℕ). IsReadingMoment calls lines changed (Map request) given key (Some told) first last at ↔ IsOrderedMoment calls lines changed (Map request) given first last at) (sym none) same)

-- of a key
value_place : (request : Request ℕ ℕ) (of : MapCall) (key : ℕ) (given : Reply ℕ ℕ) (value : Option ℕ) → number_reply given ≡ Some (OneValue value) → key_told of ≡ Some key → ((m : List Pair) → reply of m ≡ OneValue (get key m)) → (b : Bool) → changes_map of (OneValue value) ≡ b → HasPlace request of (MapAnswer given)
value_place request of key given value is its_key gives true changes = at_entry request of given (OneValue value) is changes
value_place request of key given value is its_key gives false changes = at_reading request of given (OneValue value) is changes (ByValue key value) refl (is, changes, gives)
    (λ calls lines changed first last won at. subst (λ (k : Option ℕ). IsReadingMoment calls lines changed (Map request) given k (Some (OneValue value)) first last at ↔ IsReadMoment calls lines changed key value first last at) (sym its_key) same)

-- and nowhere if it answers nothing
no_place : (request : Request ℕ ℕ) (of : MapCall) (given : Reply ℕ ℕ) → number_reply given ≡ None → HasPlace request of (MapAnswer given)
no_place request of given is = record {
  place = Nowhere;
  entered = ap (tells_change of) is;
  tells = is;
  moment = λ calls lines changed first last won at. subst (λ (t : Option MapReply). IsWonOrRead (tells_change of t) (IsReadingMoment calls lines changed (Map request) given (key_told of) t first last at) won at ↔ (at ≡ None)) (sym is) (nothing calls lines changed (key_told of) first last won at);
}
  where
    nothing : (calls : List Call) (lines : List Line) (changes : List Change) (key : Option ℕ) (first last : ℕ) (won at : Option ℕ) → IsReadingMoment calls lines changes (Map request) given key None first last at ↔ (at ≡ None)
    nothing calls lines changes None first last won at = same
    nothing calls lines changes (Some key) first last won at = same

-- an edit of a key, by what it answers if that is right
key_place : (request : Request ℕ ℕ) (key : ℕ) (rule : Rule) (lay : Layout) (now start : History) (given : Reply ℕ ℕ) (told : MapReply) → number_reply given ≡ Some told → EditTells (Edit (Key key) rule) lay now start (Some told) → HasPlace request (Edit (Key key) rule) (MapAnswer given)
key_place request key rule lay now start given (OneValue value) is right = value_place request (Edit (Key key) rule) key given value is refl (λ m. refl) (applies rule value) (is_made (applies rule value) (edit_to key (leaves rule)))
key_place request key rule lay now start given (OnePair p) is right = absurd (let other = right.replies in cc)
key_place request key rule lay now start given (ManyPairs ps) is right = absurd (let other = right.replies in cc)

-- one of the pair at an end
end_place : (side : Side) (request : Request ℕ ℕ) (rule : Rule) (given : Reply ℕ ℕ) (told : MapReply) → number_reply given ≡ Some told → IsOrderedRead (Map request) → HasPlace request (Edit (End side) rule) (MapAnswer given)
end_place side request rule given (OnePair p) is ordered = go (applies rule (Some p.value)) (is_made (applies rule (Some p.value)) (edit_to p.key (leaves rule)))
  where
    go : (b : Bool) → changes_map (Edit (End side) rule) (OnePair p) ≡ b → HasPlace request (Edit (End side) rule) (MapAnswer given)
    go true changes = at_entry request (Edit (End side) rule) given (OnePair p) is changes
    go false changes = ordered_place request (Edit (End side) rule) given (OnePair p) is changes refl ordered
end_place side request rule given (OneValue value) is ordered = ordered_place request (Edit (End side) rule) given (OneValue value) is refl refl ordered
end_place side request rule given (ManyPairs ps) is ordered = ordered_place request (Edit (End side) rule) given (ManyPairs ps) is refl refl ordered

-- what is right of an edit that answers this
told_right : (of : MapCall) (lay : Layout) (tries c : ℕ) (now start : History) (linked : ℕ → Option History) (given : Reply ℕ ℕ) (told : MapReply) → number_reply given ≡ Some told → EditIsRight of lay tries c now start linked (MapAnswer given) → EditTells of lay now start (Some told)
told_right of lay tries c now start linked (Value v) told is right = subst (EditTells of lay now start) is right
told_right of lay tries c now start linked (PairOf p) told is right = subst (EditTells of lay now start) is right
told_right of lay tries c now start linked (Pairs ps) told is right = subst (EditTells of lay now start) is right
told_right of lay tries c now start linked (Contended node scx) told is right = cc
told_right of lay tries c now start linked (Full full) told is right = cc
told_right of lay tries c now start linked NoMemory told is right = cc

-- one that speaks of no key alone is an ordered read
abbrev ReadsInOrder : MapCall → Request ℕ ℕ → Type 0
ReadsInOrder (Edit (Key key) rule) request = Unit {0}
ReadsInOrder (Get key) request = Unit {0}
ReadsInOrder _ request = IsOrderedRead (Map request)

reads_in_order : (request : Request ℕ ℕ) → ReadsInOrder (map_request request) request
reads_in_order (GetOf key) = tt
reads_in_order request = tt

-- each call, by its answer, where that is right
module _ (lay : Layout) (tries c : ℕ) (now start : History) (linked : ℕ → Option History) where
  key_took_place : (request : Request ℕ ℕ) (key : ℕ) (rule : Rule) (given : Reply ℕ ℕ) → EditIsRight (Edit (Key key) rule) lay tries c now start linked (MapAnswer given) → HasPlace request (Edit (Key key) rule) (MapAnswer given)
  key_took_place request key rule given right = go (number_reply given) refl
    where
      go : (told : Option MapReply) → number_reply given ≡ told → HasPlace request (Edit (Key key) rule) (MapAnswer given)
      go None is = no_place request (Edit (Key key) rule) given is
      go (Some told) is = key_place request key rule lay now start given told is (told_right (Edit (Key key) rule) lay tries c now start linked given told is right)

  end_took_place : (side : Side) (request : Request ℕ ℕ) (rule : Rule) (given : Reply ℕ ℕ) → IsOrderedRead (Map request) → HasPlace request (Edit (End side) rule) (MapAnswer given)
  end_took_place side request rule given ordered = go (number_reply given) refl
    where
      go : (told : Option MapReply) → number_reply given ≡ told → HasPlace request (Edit (End side) rule) (MapAnswer given)
      go None is = no_place request (Edit (End side) rule) given is
      go (Some told) is = end_place side request rule given told is ordered

  -- where the request is this call, and an ordered read where the call is one
  place_of : (request : Request ℕ ℕ) (of : MapCall) (answer : Answer) → ReadsInOrder of request → (map_rules of).IsRight lay tries c now start linked answer → HasPlace request of answer
  place_of request (Edit (Key key) rule) (MapAnswer given) ordered right = key_took_place request key rule given right
  place_of request (Edit (End side) rule) (MapAnswer given) ordered right = end_took_place side request rule given ordered
  place_of request (Get key) (MapAnswer (Value told)) ordered right = value_place request (Get key) key (Value told) told (value_told told) refl (λ m. refl) false refl
  place_of request (Neighbour side key) (MapAnswer (PairOf found)) ordered right = ordered_place request (Neighbour side key) (PairOf found) (pair_or_none (option_map (word_pair (λ n. n) (λ n. n)) found)) refl refl refl ordered
  place_of request (Range low high most) (MapAnswer (Pairs found)) ordered right = ordered_place request (Range low high most) (Pairs found) (ManyPairs (number_pairs found.items)) refl refl refl ordered
  place_of request of (MapAnswer (Contended node scx)) ordered right = no_place request of (Contended node scx) refl
  place_of request of (MapAnswer (Full full)) ordered right = no_place request of (Full full) refl
  place_of request of (MapAnswer NoMemory) ordered right = no_place request of NoMemory refl
  place_of request of answer ordered right = absurd right

  pub took_place : (request : Request ℕ ℕ) (answer : Answer) → IsRight lay tries c now start linked (Map request) answer → HasTakenPlace request answer
  took_place request answer right = place_of request (map_request request) answer (reads_in_order request) right

-- What an answer says

some_nodes : (b : Bool) → 0 < cond b 3 (let one : ℕ = 1 in one)
some_nodes true = omega arith
some_nodes false = omega arith

module _ (v : ClientView) (c : Client) (is_pass : c.pass.0 < v.layout.passes) where
  abbrev call : MachineCall
  call = machine_call v c is_pass v.start

  -- the value of a reply
  abbrev value_of : MapReply → Option ℕ
  value_of (OneValue told) = told
  value_of _ = None

  -- a get: the map had this at a moment of the call
  answer_at : (key : ℕ) (old : Option ℕ) → HasReadMap call v.past (Get key) (OneValue old) → IsAnswerAt v.layout v.past v.start key old
  answer_at key old x = let read = x.read in record { moment = read.moment; within = read.within; since = read.since; map = read.map; spelled = read.spelled; gives = ap value_of read.gives }

  -- another reading: the map has replied so after the call's first own row
  pub replied : (of : MapCall) (told : MapReply) → AsksForPairs of → HasReadMap call v.past of told → HasReplied v.layout v.past v.start of told
  replied of told asks x =
      let read = x.read in
      let own = read.own asks in
      record { row = own.row; before = own.before; since = own.since; moment = read.moment; behind = own.within; within = read.within; map = read.map; spelled = read.spelled; replies = read.gives }

  lost : (of : MapCall) (n s : ℕ) → HasLost call v.past of v.tries n s → HasLostAllTries v.layout v.tries c.pass.0 v.past v.start n s
  lost of n s x = (x.lost.others, x.lost.all.lost)

  -- the pass rests with this share, which is the upper end of its names
  abbrev pub RestsAbove : Remaining → Type 0
  RestsAbove share = RestsWith call v.past share × IsUpperEnd v.layout c.pass.0 share

  -- a share that is too small for the next try was so for the first, or a try was lost
  too_few : (of : MapCall) (share : Remaining) (full : FullOf) → RestsAbove share → (x : HasRunOut call v.past of share full) → HasTooFewToTry v.layout c.pass.0 v.past v.start (need of x.short.needed.map) full.what full.left
  too_few of share full rests x = (short_left v.layout v.past c.pass.0 share rests.0.share rests.1 (need of x.short.needed.map) full.what full.left x.short.short, from x.first)
    where
      from : IsUntouched call v.past share → HasTooFew v.layout c.pass.0 v.start (need of x.short.needed.map) full.what full.left ⊎ WasBlocked v.layout c.pass.0 v.past v.start
      from (inl at_first) = inl (short_left v.layout v.start c.pass.0 share at_first.share rests.1 (need of x.short.needed.map) full.what full.left x.short.short)
      from (inr (node, scx, way)) = inr (node, scx, (way.others, way.in_the_way))

  -- what a call needed since a moment of it, it had to change
  had_to : (of : MapCall) (begin : History) → Extends begin v.start → (x : HasNeeded v.layout c.pass.0 v.past begin of) → HadToChange v.layout v.past v.start of (need of x.map)
  had_to of begin since x = record {
    told = reply of x.map;
    replied = record { row = x.own.row; before = x.own.before; since = ends_trans x.own.before begin v.start x.own.since since; moment = x.moment; behind = x.own.within; within = x.within; map = x.map; spelled = x.spelled; replies = refl };
    needs = refl;
    some = x.some;
  }

  -- an edit
  module _ (goal : Goal) (rule : Rule) where
    abbrev of : MapCall
    of = Edit goal rule

    tells_right : (told : MapReply) → HasTold call v.past of told → EditTells of v.layout v.past v.start (Some told)
    tells_right told x = go (edit_of of told) x
      where
        go : (made : Option MapEdit) → HasToldBy made call v.past of told → HasChangedOrReplied (is_some made) v.layout v.past v.start of told
        go None x = replied of told tt x
        go (Some edit) x = tt

    no_lack : (goal : Goal) → IsFormOfEdit goal (form_of {K = ℕ} {V = ℕ} NoMemory) → ⊥
    no_lack (Key k) x = x
    no_lack (End side) x = x

    edit_right : (a : Reply ℕ ℕ) (share : Remaining) → RestsAbove share → MayReply of (form_of a) → TellsOfMap call v.past of (number_reply a) → DictRefuses call v.past of share v.tries a → EditIsRight of v.layout v.tries c.pass.0 v.past v.start v.linked (MapAnswer a)
    edit_right (Value told) share rests form tells why = tells_right (OneValue (option_map (λ n. n) told)) tells
    edit_right (PairOf found) share rests form tells why = tells_right (pair_or_none (option_map (word_pair (λ n. n) (λ n. n)) found)) tells
    edit_right (Pairs found) share rests form tells why = tells_right (ManyPairs (number_pairs found.items)) tells
    edit_right (Contended node scx) share rests form tells why = (
      λ finds. let needed = why.lost.needed (some_nodes (applies rule None)) (walks_first v.layout goal rule finds) in (need of needed.map, had_to of why.lost.all.lost.begin why.lost.all.lost.since needed),
      lost of node.0 scx.0 why,
    )
    edit_right (Full full) share rests form tells why =
        let short = why.short in
        (need of short.needed.map, had_to of short.only_looked.begin short.only_looked.since short.needed, too_few of share full rests why)
    edit_right NoMemory share rests form tells why = absurd (no_lack goal form)

  -- an answer is right, to each call
  pub answer_right : (to : MapCall) (a : Reply ℕ ℕ) (share : Remaining) → RestsAbove share → MayReply to (form_of a) → TellsOfMap call v.past to (number_reply a) → DictRefuses call v.past to share v.tries a → (map_rules to).IsRight v.layout v.tries c.pass.0 v.past v.start v.linked (MapAnswer a)
  answer_right (Edit goal rule) a share rests form tells why = edit_right goal rule a share rests form tells why
  answer_right (Get key) (Value old) share rests form tells why = answer_at key old (subst (TellsOfMap call v.past (Get key)) (value_told old) tells)
  answer_right (Neighbour side key) (PairOf found) share rests form tells why = tt
  answer_right (Neighbour side key) (Contended node scx) share rests form tells why = lost (Neighbour side key) node.0 scx.0 why
  answer_right (Neighbour side key) NoMemory share rests form tells why = tt
  answer_right (Range low high most) (Pairs found) share rests form tells why = tt
  answer_right (Range low high most) (Contended node scx) share rests form tells why = lost (Range low high most) node.0 scx.0 why
  answer_right (Range low high most) NoMemory share rests form tells why = tt
  answer_right to a share rests form tells why = absurd form
