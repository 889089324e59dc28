-- What the machine of a call of a dictionary has answered is right, where its reply is that of the
-- map in words.
use Rattle.std.proofs.Common.{◌≡◌, ℕ, List, Option, Some, None, inl, inr, sym, subst}
use Rattle.arena.specs.Layout.{IsMap}
use Rattle.histories.specs.Common.{History, ◌⊳◌, value, Extends, Call, IsRun, MatchTurn, Turn, Ask, Done, Remaining}
use Rattle.arena.proofs.Lemmas.{ends_self, ends_trans}
use Rattle.template.specs.Common.{MapCall, MapEdit, MapReply, OneValue, ManyPairs, edit_of, pair_or_none, reply, Spells, Pair, MayReply, form_of, told_of, Reply}
use Rattle.edits.specs.Tries.{HasEnteredNone}
use Rattle.dict.specs.Calls.{call_in, share_of}
use Rattle.dict.specs.DictKnown.{DictRefuses, DictWaits, DictAnswers}
use Rattle.dict.specs.Known.{MapAnswers, MapWaits}
use Rattle.dict.specs.Says.{HasMadeEdit, HasReadMap, HasTold, HasToldBy, KeepsLists, TellsOfMap, WordSays}
use Rattle.dict.specs.Translated.{HasFormOf, IsReplyOf, MapReplies, SaysSame, TellsTyped}
use Rattle.dict.specs.Typed.{AreTyped, IsTypedCall, IsTypedReply, TypedAllows}
use Rattle.dict.specs.Laws.EachCall.{may_lack, reply_typed, tells_lists}
use Rattle.dict.specs.Laws.TypedMaps.{typed_map, typed_since}
use Rattle.dict.specs.WordReplies.{WordReply, told_in, word_form}
use Rattle.dict.specs.Words.{IsWordOf}
use Rattle.dict.specs.declared.dict.DictRun.{DictRun}
use Rattle.ordered_map.specs.declared.reply.Reply.TheVariants as replies

-- What is answered of a map of typed words is typed

module _ (keys values : ℕ → Type 0) where
  -- what a call answers in a run of the dictionary
  module _ (c : Call) (h : History) (mode : IsMap c.layout.mode) (run : IsRun (TypedAllows keys values) c.layout h) where
    map_typed : (moment : History) (m : List Pair) → Extends h moment → Spells c.layout (value moment) m → AreTyped keys values m
    map_typed moment m within x = typed_map keys values c.layout moment mode (typed_since keys values c.layout h moment run within) m x

    changed_typed : (call : MapCall) (told : MapReply) (edit : MapEdit) → HasMadeEdit c h call told edit → IsTypedReply keys values told
    changed_typed call told edit x =
        let within : Extends h x.made.before = ends_trans h (x.made.row ⊳ x.made.before) x.made.before x.made.within (inr (ends_self x.made.before)) in
        subst (IsTypedReply keys values) x.gives (reply_typed keys values call x.map (map_typed x.made.before x.map within x.spelled))

    read_typed : (call : MapCall) (told : MapReply) → HasReadMap c h call told → IsTypedReply keys values told
    read_typed call told x = subst (IsTypedReply keys values) x.read.gives (reply_typed keys values call x.read.map (map_typed x.read.moment x.read.map x.read.within x.read.spelled))

    by_typed : (made : Option MapEdit) (call : MapCall) (told : MapReply) → HasToldBy made c h call told → IsTypedReply keys values told
    by_typed (Some edit) call told x = changed_typed call told edit x
    by_typed None call told x = read_typed call told x

    pub told_typed : (call : MapCall) (told : Option MapReply) → TellsOfMap c h call told → TellsTyped keys values told
    told_typed call None x = tt
    told_typed call (Some told) x = by_typed (edit_of call told) call told x

-- What the reply of keys and values says

module _ (c : Call) (h : History) where
  -- what is answered a map replies
  told_by : (made : Option MapEdit) (call : MapCall) (told : MapReply) → HasToldBy made c h call told → (map : List Pair) × (reply call map ≡ told)
  told_by (Some edit) call told x = (x.map, x.gives)
  told_by None call told x = (x.read.map, x.read.gives)

  -- a call that answers pairs keeps lists, and has entered nothing
  keeps : (call : MapCall) (ps : List Pair) → HasTold c h call (ManyPairs ps) → KeepsLists call × HasEnteredNone c.layout c.pass h c.start
  keeps call ps x =
      let told = told_by (edit_of call (ManyPairs ps)) call (ManyPairs ps) x in
      let lists = tells_lists call told.0 ps told.1 in
      let read : HasReadMap c h call (ManyPairs ps) = subst (λ (made : Option MapEdit). HasToldBy made c h call (ManyPairs ps)) lists.1 x in
      (lists.0, read.none)

  module _ {K V : Type 0} (key : K → ℕ) (value_of : V → ℕ) (call : MapCall) (share : Remaining) (tries : ℕ) where
    abbrev Right : Reply K V → Type 0
    Right r = TellsOfMap c h call (told_of key value_of r) × DictRefuses c h call share tries r

    -- a reply that says something of the map refuses nothing
    refuses_none : (r : Reply K V) (told : MapReply) → told_of key value_of r ≡ Some told → DictRefuses c h call share tries r
    refuses_none (replies.Value v) told e = tt
    refuses_none (replies.Pair p) told e = tt
    refuses_none (replies.Pairs ps) told e = tt
    refuses_none (replies.Contended node scx) told e = absurd cc
    refuses_none (replies.Full full) told e = absurd cc
    refuses_none replies.NoMemory told e = absurd cc

    tells_same : (r : Reply K V) (told : MapReply) → told_of key value_of r ≡ Some told → HasTold c h call told → Right r
    tells_same r told e x = (subst (TellsOfMap c h call) (sym e) x, refuses_none r told e)

    pub says_right : (w : WordReply) (r : Reply K V) → SaysSame key value_of w r → WordSays c h call share tries w → Right r
    says_right (WordReply.Value told) r e x = tells_same r (OneValue told) e x.0
    says_right (WordReply.Pair found) r e x = tells_same r (pair_or_none found) e x.0
    says_right (WordReply.Pairs found) r (inl e) x = tells_same r (ManyPairs found) e x.0
    says_right (WordReply.Pairs found) r (inr e) x = subst Right (sym e) (tt, keeps call found x.0)
    says_right (WordReply.Contended node scx) r e x = subst Right (sym e) (tt, x.1)
    says_right (WordReply.Full full) r e x = subst Right (sym e) (tt, x.1)
    says_right WordReply.NoMemory r e x = subst Right (sym e) (tt, x.1)

-- so its reply is of a form that the call may give
may_reply : {K V : Type 0} (call : MapCall) (w : WordReply) (r : Reply K V) → HasFormOf w r → MayReply call (word_form w) → MayReply call (form_of r)
may_reply call w r (inl e) x = subst (MayReply call) (sym e) x
may_reply call w r (inr e) x = subst (MayReply call) (sym e.1) (may_lack call (subst (MayReply call) e.0 x))

module _ {K V : Type 0} (valid_key : K → Type 0) (key : K → ℕ) (valid_value : V → Type 0) (value_of : V → ℕ) where
  pub dict_ends : (m : DictRun K V) (c : Call) (h : History) (w : WordReply) (r : Reply K V) → IsMap c.layout.mode → IsRun (TypedAllows (IsWordOf valid_key key) (IsWordOf valid_value value_of)) c.layout h → MapAnswers m.tries m.run c h w → IsReplyOf valid_key key valid_value value_of w r → DictAnswers valid_key key valid_value value_of m c h r
  dict_ends m c h w r mode run x of =
      let e : SaysSame key value_of w r = of.says (told_typed (IsWordOf valid_key key) (IsWordOf valid_value value_of) c h mode run (call_in m.run) (told_in w) x.says.0) in
      let y = says_right c h key value_of (call_in m.run) (share_of m.run) m.tries w r e x.says in
      record { rests = x.rests; spent = x.spent; form = may_reply (call_in m.run) w r of.form x.form; valid = of.valid; tells = y.0; refuses = y.1 }

  -- so is its turn, where that of the machine of words is
  pub dict_turn : (m : DictRun K V) (c : Call) (h : History) (turn : Turn (Reply K V)) → IsMap c.layout.mode → IsRun (TypedAllows (IsWordOf valid_key key) (IsWordOf valid_value value_of)) c.layout h → IsTypedCall (IsWordOf valid_key key) (IsWordOf valid_value value_of) (call_in m.run) → MatchTurn turn (MapWaits m.tries m.run c h) (MapReplies valid_key key valid_value value_of m.tries m.run c h) → MatchTurn turn (DictWaits (IsWordOf valid_key key) (IsWordOf valid_value value_of) m c h) (DictAnswers valid_key key valid_value value_of m c h)
  dict_turn m c h (Ask step) mode run typed x = (typed, x)
  dict_turn m c h (Done reply) mode run typed x = dict_ends m c h x.0 reply mode run x.1 x.2
