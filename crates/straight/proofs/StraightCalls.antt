-- Whole calls of a dictionary whose updates are straight.
use Rattle.std.specs.Prelude.{Bool}
use Rattle.template.specs.Balance.{map_mode}
use Rattle.dict.specs.Calls.{inner_trie}
use Rattle.dict.specs.Inner.{GoalBy}
use Rattle.dict.specs.Laws.Begins.{dict_mode}
use Rattle.std.proofs.Common.{Global, Result, Vec, ◌≡◌, ℕ, zero, suc, ◌+◌, ◌*◌, ◌-◌, ◌<◌, ◌≤◌, List, [], Option, None, refl, sym, subst, ap, arith, ◌∙◌}
use Rattle.histories.specs.Common.{Layout, Step, History, Call, Remaining, NodeNo}
use Rattle.template.specs.Common.{Snap, Pair, MapCall, Goal, Rule, Reply}
use Rattle.order.specs.Known.{HasNotBegun, IsSameRead, ReadIsReady, ReadWaits}
use Rattle.order.specs.Range.{range_means}
use Rattle.order.specs.Steps.{phase_left, read_left, tries_left}
use Rattle.order.specs.declared.range.Range.{Range as RangeRead}
use Rattle.order.specs.declared.refused.Refused.{Refused}
use Rattle.order.specs.declared.run.ReadAt.TheVariants.{Start as ReadStart}
use Rattle.order.specs.declared.run.ReadRun.{ReadRun}
use Rattle.edits.specs.Next.{standing}
use Rattle.edits.specs.Steps.{node_tries, scx_tries}
use Rattle.edits.specs.declared.update.UpdateAt.{UpdateAt}
use Rattle.edits.specs.declared.update.UpdateAt.TheVariants.{Start}
use Rattle.edits.specs.declared.update.UpdateRun.{UpdateRun}
use Rattle.edits.specs.declared.update.Updated.{Updated}
use Rattle.dict.specs.Typed.{IsTypedCall}
use Rattle.dict.specs.Laws.TypedMaps.{typed_run}
use Rattle.dict.specs.Words.{IsWordOf}
use Rattle.dict.specs.declared.dict.DictRun.{DictRun}
use Rattle.dict.specs.Calls.{IsFewCall, IsSmallCall, call_in, edit_call, inner_call, inner_share}
use Rattle.tree.specs.KeyEdit.Means.{key_means}
use Rattle.tree.specs.declared.key_edit.KeyEdit.{KeyEdit}
use Rattle.dict.specs.Inner.{InnerRun, Read, ReadKind, Update, by_values, inner, neighbour_kind, range_kind}
use Rattle.dict.specs.Known.{Goes, HasRested, InnerAnswers, IsReadyInside, StandsAtStart, WaitsInside}
use Rattle.dict.specs.Laws.Kinds.{IsReadKind, neighbour_is, range_is}
use Rattle.dict.specs.declared.run.MapRun.{MapRun}
use Rattle.dict.specs.declared.run.MapRun.TheVariants.{Edit, Neighbour, Range}
use Rattle.dict.specs.Translated.{IsReplyOf}
use Rattle.dict.specs.WordReplies.{WordReply, edit_reply, read_reply}
use Rattle.dict.proofs.Lemmas.{edit_goes, edit_ends, read_ends, dict_ends}
use Rattle.tables.specs.declared.view.SeatedPass.{SeatedPass}
use Rattle.straight.specs.StraightCalls.{DictAllows, DictCallIsReady, DictCallWaits, IsSameDictCall, SeatDictBegins, SeatDictEnds, SeatWordEnds, IsFreshCall, SeatCallBegins, CallHasEnded}
use Rattle.straight.specs.StraightReads.{Reader, ReaderBegins, ReaderEnds}
use Rattle.straight.specs.StraightUpdate.{Updater, HasUpdateGoneOn, UpdaterBegins, UpdaterEnds}
use Rattle.tables.specs.CallSteps.{HasDictLeft}
use Rattle.tables.specs.TableRule.{history_of}
use Rattle.tables.specs.Traces.{Trace, begins, goes_on}
use Rattle.straight.specs.CallKinds.{Calls}
use Rattle.straight.proofs.AfterCalls.{course_keeps}

-- An ordered read of a dictionary: its kind, and the machine of a call of the map around it.
pub record DictRead : Type 1 where
  pub kind : ReadKind
  pub is : IsReadKind kind
  pub around : ReadRun kind.R → Remaining → MapRun
  pub inside : (m : ReadRun kind.R) (share : Remaining) → inner (around m share) ≡ Read kind m share

abbrev pub neighbours : DictRead
neighbours = record { kind = neighbour_kind; is = neighbour_is; around = λ m share. Neighbour m share; inside = λ m share. refl }

abbrev pub ranges : DictRead
ranges = record { kind = range_kind; is = range_is; around = λ m share. Range m share; inside = λ m share. refl }

module _ {K V : Type 0} (valid_key : K → Type 0) (key : K → ℕ) (valid_value : V → Type 0) (value_word : V → ℕ) where
  abbrev allows : Layout → History → ℕ → Type 0
  allows = DictAllows valid_key key valid_value value_word

  abbrev ready : DictRun K V → Call → History → Option ℕ → Type 0
  ready = DictCallIsReady valid_key key valid_value value_word

  abbrev waits : DictRun K V → Call → History → Step → Type 0
  waits = DictCallWaits valid_key key valid_value value_word

  abbrev same : DictRun K V → DictRun K V → Type 0
  same = IsSameDictCall valid_key key valid_value value_word

  -- its calls of a layout and a number
  abbrev pub dict_calls : Layout → ℕ → Calls (DictRun K V)
  dict_calls layout number = record { allows = allows; ready = ready; waits = waits; same = same; left_dealt = HasDictLeft; layout = layout; number = number }

  abbrev keys : ℕ → Type 0
  keys = IsWordOf valid_key key

  abbrev values : ℕ → Type 0
  values = IsWordOf valid_value value_word

  -- its machine has answered so
  abbrev ends : Call → List SeatedPass → DictRun K V → DictRun K V → WordReply → Type 0
  ends = SeatWordEnds valid_key key valid_value value_word

  module _ (machine : DictRun K V) (c : Call) (layout : Layout) (number : ℕ) (is_layout : c.layout ≡ layout) (is_number : c.number ≡ number) where
    -- Edits

    -- `goal` and `rule` give an edit's goal and rule as values, which its machine has
    module _ {G R : Type 0} (goal : G → Goal) (trie : G → Bool) (rule : R → Rule) where
      abbrev valued : UpdateRun (KeyEdit G R) UpdateAt → UpdateRun (KeyEdit GoalBy Rule) UpdateAt
      valued = by_values goal trie rule

      abbrev pub editing : UpdateRun (KeyEdit G R) UpdateAt → DictRun K V
      editing m = record machine { run = Edit (valued m) }

      -- it stays of the same edit, and so of the same call
      same_edit : (old now : UpdateRun (KeyEdit G R) UpdateAt) → now.edit ≡ old.edit → (valued now).edit ≡ (valued old).edit
      same_edit old now e = ap (λ (d : KeyEdit G R). let v : KeyEdit GoalBy Rule = record { goal = record { goal = goal d.goal; balance = trie d.goal }; rule = rule d.rule } in v) e

      same_call : (old now : UpdateRun (KeyEdit G R) UpdateAt) → now.edit ≡ old.edit → edit_call goal rule now.edit ≡ edit_call goal rule old.edit
      same_call old now e = ap (edit_call goal rule) e

      same_mode : (old now : UpdateRun (KeyEdit G R) UpdateAt) → now.edit ≡ old.edit → trie now.edit.goal ≡ trie old.edit.goal
      same_mode old now e = ap (λ (d : KeyEdit G R). trie d.goal) e

      goes : (old now : UpdateRun (KeyEdit G R) UpdateAt) → HasUpdateGoneOn (key_means goal trie rule) old now (node_tries now now.at) (scx_tries now now.at) → Goes (Update (valued old)) machine.tries c → Goes (Update (valued now)) machine.tries c
      goes old now on x = edit_goes machine.tries c (valued old) (valued now) x (same_edit old now on.edit) on.called on.limit on.end on.spends

      pub editor : Updater (dict_calls layout number) (key_means goal trie rule)
      editor = record {
        call = c;
        is_layout = is_layout;
        is_number = is_number;
        runs = λ h run. typed_run keys values c.layout h run;
        first = machine;
        with_run = editing;
        opens = λ m h s x. x.1.1;
        tells = λ m h got x. x.1.1;
        turns = λ old now h got s on x w. (subst (IsTypedCall keys values) (sym (same_call old now on.edit)) x.0, (goes old now on x.1.0, w));
        stays = λ old now on. (same_call old now on.edit, refl, (on.tries.1, on.tries.0), same_mode old now on.edit, on.end);
      }

      pub edit_begins : (ps : List SeatedPass) {A : Type 0} (m : UpdateRun (KeyEdit G R) A) → machine.run ≡ Edit (valued (standing m Start)) → SeatDictBegins valid_key key valid_value value_word c ps machine → UpdaterBegins editor ps m
      unfolding editor
      edit_begins ps m same x = record { planting = x.planting; known = x.known; is = x.is; sound = x.sound; so = (subst (λ r. ready (record machine { run = r }) c (history_of x.planting x.known) None) same x.so.1, begins (λ i. record machine { run = sym same i }) (sym x.so.0)) }

      same_goal : (a b : KeyEdit G R) → edit_call goal rule a ≡ edit_call goal rule b → goal a.goal ≡ goal b.goal
      same_goal a b e = cc

      -- the call stays of the edit with which it began, and so it has walked to where that walks
      same_walk : (h : History) (old : UpdateRun (KeyEdit G R) UpdateAt) (ed : KeyEdit G R) → call_in machine.run ≡ edit_call goal rule ed → Trace allows waits same c machine (editing old) h → goal old.edit.goal ≡ goal ed.goal
      same_walk h old ed of course = same_goal old.edit ed (course_keeps (λ d. call_in d.run ≡ call_in machine.run) refl (λ before now s e. s.0 ∙ e) (editing old) h course ∙ of)

      pub edit_ended : (ps : List SeatedPass) {A : Type 0} (m : UpdateRun (KeyEdit G R) A) (a : Updated) (ed : KeyEdit G R) (to : Goal) → call_in machine.run ≡ edit_call goal rule ed → to ≡ goal ed.goal → UpdaterEnds editor ps m a → ends c ps machine (editing (standing m Start)) (edit_reply to a)
      unfolding editor
      edit_ended ps m a ed to of is x =
          let y = x.so in
          let went : Goes (Update (valued y.old)) machine.tries c = y.was.1.0 in
          let walk : goal m.edit.goal ≡ to = ap (λ (e : KeyEdit G R). goal e.goal) y.goes.edit ∙ same_walk _ y.old ed of y.course ∙ sym is in
          record {
            planting = x.planting;
            known = x.known;
            is = x.is;
            sound = x.sound;
            so = (
              (dict_mode c.layout.mode (trie y.old.edit.goal) went.mode, subst (λ (w : Goal). InnerAnswers machine.tries (Update (valued (standing m Start))) c (history_of x.planting x.known) (edit_reply w a)) walk (edit_ends machine.tries c _ (valued y.old) (valued (standing m Start)) a (typed_run keys values c.layout _ x.sound) went (same_edit y.old (standing m Start) y.goes.edit) y.goes.called y.goes.limit y.goes.end y.goes.spends y.answers)),
              goes_on (editing y.old) (same_call y.old (standing m Start) y.goes.edit, refl, (y.goes.tries.1, y.goes.tries.0), same_mode y.old (standing m Start) y.goes.edit, y.goes.end) y.course,
            );
          }

    -- Ordered reads

    module _ (d : DictRead) (share : Remaining) where
      abbrev reading : ReadRun d.kind.R → DictRun K V
      reading m = record machine { run = d.around m share }

      same_read : (old now : ReadRun d.kind.R) → IsSameRead d.kind.means old now → same (reading old) (reading now)
      same_read old now x = rw (d.inside old share, d.inside now share) (x.0, refl, (x.2, x.3), x.4, refl)

      -- what it gets, and what it then waits for, its machine does
      told_inside : (m : ReadRun d.kind.R) (h : History) (got : Option ℕ) → ready (reading m) c h got → Goes (Read d.kind m share) machine.tries c × (ReadIsReady d.kind.means m c h got × HasRested c h share)
      told_inside m h got x = subst (λ (i : InnerRun). Goes i machine.tries c × IsReadyInside i c h got) (d.inside m share) x.1

      waits_so : (m : ReadRun d.kind.R) (h : History) (s : Step) → Goes (Read d.kind m share) machine.tries c × (ReadWaits d.kind.means m c h s × HasRested c h share) → Goes (inner (d.around m share)) machine.tries c × WaitsInside (inner (d.around m share)) c h s
      waits_so m h s x = subst (λ (i : InnerRun). Goes i machine.tries c × WaitsInside i c h s) (sym (d.inside m share)) x

      pub reader : Reader (dict_calls layout number) d.kind.means
      reader = record {
        call = c;
        is_layout = is_layout;
        is_number = is_number;
        runs = λ h run. typed_run keys values c.layout h run;
        first = machine;
        with_run = reading;
        opens = λ m h s x. (subst (λ (i : InnerRun). WaitsInside i c h s) (d.inside m share) x.1.1).0;
        tells = λ m h got x. (told_inside m h got x).1.0;
        turns = λ old now h got s is x w.
            let y = told_inside old h got x in (
              subst (IsTypedCall keys values) (sym (same_read old now is).0) x.0,
              waits_so now h s (record { mode = y.0.mode ∙ ap map_mode (sym is.4); small = d.is.small now.read; number = tt; limit = is.1 ∙ y.0.limit; spent = y.0.spent }, (w, y.1.1)),
            );
        stays = same_read;
      }

      pub read_begins : (ps : List SeatedPass) (m : ReadRun d.kind.R) → machine.run ≡ d.around m share → SeatDictBegins valid_key key valid_value value_word c ps machine → ReaderBegins reader ps m
      unfolding reader
      read_begins ps m is x = record { planting = x.planting; known = x.known; is = x.is; sound = x.sound; so = (subst (λ r. ready (record machine { run = r }) c (history_of x.planting x.known) None) is x.so.1, begins (λ i. record machine { run = sym is i }) (sym x.so.0)) }

      pub read_ended : (ps : List SeatedPass) (m : ReadRun d.kind.R) (a : Result d.kind.A Refused) → ReaderEnds reader ps m a → ends c ps machine (reading m) (read_reply d.kind.tells a)
      unfolding reader
      read_ended ps m a x =
          let y = x.so in
          let h = history_of x.planting x.known in
          let was = told_inside y.old h y.got y.was in
          record {
            planting = x.planting;
            known = x.known;
            is = x.is;
            sound = x.sound;
            so = (
              (dict_mode c.layout.mode y.old.trie was.0.mode, subst (λ (i : InnerRun). InnerAnswers machine.tries i c h (read_reply d.kind.tells a)) (sym (d.inside m share)) (read_ends machine.tries c h d.kind d.is m share a was.1.1 was.0.spent (y.goes.1 ∙ was.0.limit) y.answers)),
              goes_on (reading y.old) (same_read y.old m y.goes) y.course,
            );
          }

  -- the answer of a machine as a reply of keys and values
  pub replies : (c : Call) (ps : List SeatedPass) (first m : DictRun K V) (w : WordReply) (r : Reply K V) → IsReplyOf valid_key key valid_value value_word w r → ends c ps first m w → SeatDictEnds valid_key key valid_value value_word c ps first m r
  replies c ps first m w r of x = record {
    planting = x.planting;
    known = x.known;
    is = x.is;
    sound = x.sound;
    so = (dict_ends valid_key key valid_value value_word m c _ w r x.so.0.0 x.sound x.so.0.1 of, x.so.1);
  }

-- Machines that have not begun

all_tries : (left tries : ℕ) → 0 < tries → left ≡ tries - 1 → left + 1 ≡ tries
all_tries left tries some is = omega (arith, some, is)

module _ {K V A G R : Type 0} (goal : G → Goal) (trie : G → Bool) (rule : R → Rule) where
  -- the machine of an edit
  abbrev pub edit_machine : ℕ → UpdateRun (KeyEdit G R) A → DictRun K V
  edit_machine tries m = record { run = Edit (by_values goal trie rule (standing m Start)); tries = tries; types = record {} }

  pub edit_fresh : (share : Remaining) (tries number : ℕ) → 0 < tries → (m : UpdateRun (KeyEdit G R) A) (ed : KeyEdit G R) → m.edit ≡ ed → m.share ≡ share → m.call ≡ number → m.tries ≡ tries - 1 → m.limit ≡ tries → IsSmallCall (edit_call goal rule ed) → (by : Bool) → trie ed.goal ≡ by → IsFreshCall by (edit_call goal rule ed) share tries number (edit_machine tries m)
  edit_fresh share tries number some m ed is_edit is_share is_call is_tries is_limit small by same = record {
    is_call = ap (edit_call goal rule) is_edit;
    has_tries = refl;
    unbegun = (refl, all_tries m.tries tries some is_tries, is_call, subst (λ (e : KeyEdit G R). IsSmallCall (edit_call goal rule e)) (sym is_edit) small, is_limit);
    has_share = is_share;
    in_trie = ap (λ (e : KeyEdit G R). trie e.goal) is_edit ∙ same;
  }

module _ {K V : Type 0} (d : DictRead) where
  -- the machine of an ordered read
  abbrev pub read_machine : ℕ → Remaining → ReadRun d.kind.R → DictRun K V
  read_machine tries share m = record { run = d.around m share; tries = tries; types = record {} }

  -- the machine around a read that has not begun has not begun
  pub read_fresh : (share : Remaining) (tries number : ℕ) (call : MapCall) → 0 < tries → (m : ReadRun d.kind.R) → d.kind.means.call m.read ≡ call → (by : Bool) → HasNotBegun m by tries → (IsFewCall call → d.kind.means.suits call) → IsFreshCall by call share tries number (read_machine tries share m)
  read_fresh share tries number call some m is_call by fresh suits = record {
    is_call = ap inner_call (d.inside m share) ∙ is_call;
    has_tries = refl;
    has_share = ap inner_share (d.inside m share);
    unbegun = subst (λ (i : InnerRun). StandsAtStart i tries number) (sym (d.inside m share)) (fresh.start, all_tries m.tries tries some fresh.left, fresh.empty, rw is_call suits, fresh.limit);
    in_trie = ap inner_trie (d.inside m share) ∙ fresh.balance;
  }

-- A whole ordered read: it begins with that machine, and as that has answered it has ended.
module _ {K V : Type 0} (valid_key : K → Type 0) (key : K → ℕ) (valid_value : V → Type 0) (value_word : V → ℕ) (d : DictRead) (c : Call) (layout : Layout) (number : ℕ) (is : (c.layout ≡ layout) × (c.number ≡ number)) (tries : ℕ) (call : MapCall) (share : Remaining) (m : ReadRun d.kind.R) (trie : Bool) (fresh : IsFreshCall {K = K} {V = V} trie call share tries number (read_machine d tries share m)) where
  abbrev pub made_by : Reader (dict_calls valid_key key valid_value value_word layout number) d.kind.means
  made_by = reader valid_key key valid_value value_word (read_machine d tries share m) c layout number is.0 is.1 d share

  pub made_begins : (ps : List SeatedPass) → SeatCallBegins valid_key key valid_value value_word trie c ps call share tries number → ReaderBegins made_by ps m
  made_begins ps x = read_begins valid_key key valid_value value_word (read_machine d tries share m) c layout number is.0 is.1 d share ps m refl (x (read_machine d tries share m) fresh)

  pub made_ended : (ps : List SeatedPass) (last : ReadRun d.kind.R) (a : Result d.kind.A Refused) (r : Reply K V) → IsReplyOf valid_key key valid_value value_word (read_reply d.kind.tells a) r → ReaderEnds made_by ps last a → CallHasEnded valid_key key valid_value value_word trie c ps call share tries number share r
  made_ended ps last a r of x = record {
    first = read_machine d tries share m;
    last = read_machine d tries share last;
    fresh = fresh;
    is_left = ap inner_share (d.inside last share);
    ends = replies valid_key key valid_value value_word c ps (read_machine d tries share m) (read_machine d tries share last) (read_reply d.kind.tells a) r of (read_ended valid_key key valid_value value_word (read_machine d tries share m) c layout number is.0 is.1 d share ps last a x);
  }

-- a read that has not begun has not with another list of snapshots, which is empty
pub relisted : {R : Type 0} (m other : ReadRun R) (by : Bool) (tries : ℕ) → other ≡ record m { snaps = other.snaps } → other.snaps.items ≡ [] → HasNotBegun m by tries → HasNotBegun other by tries
relisted m other by tries is empty fresh = record { balance = ap (λ r. r.trie) is ∙ fresh.balance; start = ap (λ r. r.at) is ∙ fresh.start; empty = empty; limit = ap (λ r. r.limit) is ∙ fresh.limit; left = ap (λ r. r.tries) is ∙ fresh.left }

-- a range that has not begun has no more steps left with other lists, and with others again
pub as_many_steps : (m other : ReadRun RangeRead) (snaps : Vec Snap Global) (waiting : Vec NodeNo Global) (taken : Vec Pair Global) (nodes bound : ℕ) → other ≡ record m { read = record m.read { waiting = other.read.waiting; taken = other.read.taken }; snaps = other.snaps } → m.at ≡ ReadStart → read_left range_means m nodes ≤ bound → read_left range_means (record other { read = record other.read { waiting = waiting; taken = taken }; snaps = snaps }) nodes ≤ bound
as_many_steps m other snaps waiting taken nodes bound is at few = subst (λ (r : ReadRun RangeRead). read_left range_means (record r { read = record r.read { waiting = waiting; taken = taken }; snaps = snaps }) nodes ≤ bound) (sym is) (subst (λ a. tries_left range_means m nodes + phase_left range_means (record m { read = record m.read { waiting = waiting; taken = taken }; snaps = snaps }) nodes a ≤ bound) (sym at) (subst (λ a. tries_left range_means m nodes + phase_left range_means m nodes a ≤ bound) at few))

-- all tries have as many steps as each of them, times their number
pub tries_steps : (now old left tries each : ℕ) → 0 < tries → left ≡ tries - 1 → now ≤ old + (left * each + each) → now ≤ old + tries * each
tries_steps now old left tries each some is small = subst (λ n. now ≤ old + n) (whole tries some is) small
  where
    whole : (n : ℕ) → 0 < n → left ≡ n - 1 → left * each + each ≡ n * each
    whole zero i e = absurd (omega (arith, i))
    whole (suc k) i e = ap (λ l. l * each + each) (let f : left ≡ k = omega (arith, e) in f) ∙ (let f : k * each + each ≡ suc k * each = omega arith in f)
