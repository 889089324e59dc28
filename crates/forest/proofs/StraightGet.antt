-- A get of a dictionary whose walk is straight.
use Rattle.arena.specs.Layout.{IsMap}
use Rattle.template.specs.Balance.{leaf_way, map_mode}
use Rattle.template.specs.Walk.Places.{way_at, way_from}
use Rattle.template.specs.Common.{FoundBy}
use Rattle.dict.specs.Calls.{is_in_trie}
use Rattle.dict.specs.Laws.Begins.{dict_mode}
use Rattle.std.proofs.Common.{◌≡◌, ℕ, List, ◌^◌, ◌<◌, Option, None, Some, IfSome, inl, Bool, true, false, refl, sym, subst, ◌∙◌, ap, arith}
use Rattle.std.specs.Option.{option_map}
use Rattle.histories.specs.Common.{Layout, LoadSettled, Step, Settled, Head, History, Call, IsRun, Remaining, node}
use Rattle.atomic_table.specs.declared.shared.Seat.{Seat}
use Rattle.template.specs.Common.{load, OneValue, WalkIsTold, Key as ToKey}
use Rattle.template.specs.Walk.Places.{root_trail}
use Rattle.template.specs.declared.walk.Found.{Found}
use Rattle.template.specs.declared.walk.WalkAt.TheVariants.{Root, Start}
use Rattle.template.specs.declared.walk.WalkRun.{WalkRun}
use Rattle.template.specs.declared.walk.Way.{Way}
use Rattle.template.proofs.Lemmas.{walk_begins}
use Rattle.dict.specs.DictKnown.{DictIsReady, DictWaits, DictAnswers}
use Rattle.dict.specs.Typed.{IsTypedValue, TypedAllows}
use Rattle.dict.specs.Words.{IsWordOf}
use Rattle.dict.specs.declared.dict.DictRun.{DictRun}
use Rattle.dict.specs.WordReplies.{WordReply}
use Rattle.ordered_map.specs.declared.reply.Reply.TheVariants as replies
use Rattle.dict.proofs.Lemmas.{get_ends, dict_ends, none_tried, once_past}
use Rattle.order.specs.LastTurns.{no_turns}
use Rattle.order.specs.declared.last_turns.LastTurns.{LastTurns}
use Rattle.forest.specs.declared.pass.Pass.TheInside.{Inside}
use Rattle.tables.specs.declared.view.SeatedPass.{SeatedPass}
use Rattle.tables.specs.declared.view.SeatView.{SeatView}
use Rattle.tables.specs.Passes.{taken_of}
use Rattle.forest.specs.PassInvariant.{pass_view, layout_in, IsPass}
use Rattle.straight.specs.StraightCalls.{IsSameDictCall}
use Rattle.forest.specs.StraightGet.{getting}
use Rattle.straight.specs.StraightWalk.{Walker, WalkerWaits, WalkerFinds, WalksFromRoot}
use Rattle.tables.specs.CallSteps.{HasDictLeft}
use Rattle.tables.specs.Traces.{HoldsForCall, Trace}
use Rattle.forest.proofs.DictCalls.{Answered, dict_starts}
use Rattle.forest.proofs.Passes.{call_of}
use Rattle.straight.proofs.Places.{starts}
use Rattle.straight.proofs.StraightCalls.{dict_calls}

module _ {K V : Type 0} (valid_key : K → Type 0) (key : K → ℕ) (valid_value : V → Type 0) (value_word : V → ℕ) where
  abbrev pub allows : Layout → History → ℕ → Type 0
  allows = TypedAllows (IsWordOf valid_key key) (IsWordOf valid_value value_word)

  abbrev pub ready : DictRun K V → Call → History → Option ℕ → Type 0
  ready = DictIsReady (IsWordOf valid_key key) (IsWordOf valid_value value_word)

  abbrev pub waits : DictRun K V → Call → History → Step → Type 0
  waits = DictWaits (IsWordOf valid_key key) (IsWordOf valid_value value_word)

  abbrev pub same : DictRun K V → DictRun K V → Type 0
  same = IsSameDictCall valid_key key valid_value value_word

  -- a walk to a leaf tells by its way whether that is in a trie
  by_leaf : (trie : Bool) → is_in_trie (leaf_way trie) ≡ trie
  by_leaf false = refl
  by_leaf true = refl

  leaf_is : (trie : Bool) → leaf_way trie ≡ leaf_way (is_in_trie (leaf_way trie))
  leaf_is false = refl
  leaf_is true = refl

  module _ (share : Remaining) (tries wanted : ℕ) (way : Way) where
    abbrev at : WalkRun → DictRun K V
    at = getting share tries wanted

    -- a call is one of a machine that walks, and keeps no fork
    pub walker : (c : Call) (layout : Layout) (number : ℕ) → c.layout ≡ layout → c.number ≡ number → Walker (dict_calls valid_key key valid_value value_word layout number)
    walker c layout number is_layout is_number = record {
      call = c;
      is_layout = is_layout;
      is_number = is_number;
      first = at (way_at way (ToKey wanted) root_trail Start);
      with_run = λ w. at w.0;
      tells = λ w h v run x. (c, x.1.1.0.0);
      turns = λ old now h v s goes next run x. (x.0, (record { mode = x.1.0.mode ∙ ap (λ w. map_mode (is_in_trie w)) (sym goes.1.1); small = x.1.0.small; number = x.1.0.number; limit = tt; spent = x.1.0.spent }, ((next c x.1.1.0.0, (goes.1.0 ∙ x.1.1.0.1.0, subst (λ w. w ≡ leaf_way (is_in_trie w)) (sym goes.1.1) x.1.1.0.1.1), once_past now.0.at _ _ goes.0 x.1.1.0.2), x.1.1.1)));
      stays = λ old now v goes. (refl, refl, (omega arith, omega arith), ap is_in_trie goes.1.1, refl);
    }

  -- its machine waits for the head of the root
  pub get_walks : (trie : Bool) {T : Type 0} (p : Inside T) (x : IsPass allows (map_mode trie) p) (tries wanted number : ℕ) (way : Way) (layout : Layout) (is_layout : (layout_in p) ≡ layout) (is_number : taken_of (pass_view p) ≡ number) → way ≡ leaf_way trie → wanted < 2 ^ 64
      → WalkerWaits (walker p.share tries wanted way (call_of p x (taken_of (pass_view p))) layout number is_layout is_number) p.seat.me.0.passes (way_from way (ToKey wanted)) no_turns (load LoadSettled (node 0 (Settled Head)))
  unfolding walker
  get_walks trie p x tries wanted number way layout is_layout is_number is_way small =
      let first : DictRun K V = getting p.share tries wanted (way_at way (ToKey wanted) root_trail Start) in
      let c : Call = call_of p x (taken_of (pass_view p)) in
      starts allows ready waits same HasDictLeft c p.seat.me.0.passes first (getting p.share tries wanted (way_from way (ToKey wanted))) _ (refl, refl, (omega arith, omega arith), refl, refl)
      (λ h run r. (r.0, (record { mode = r.1.0.mode; small = r.1.0.small; number = r.1.0.number; limit = tt; spent = r.1.0.spent }, ((walk_begins way (ToKey wanted) c h r.1.1.0.0.run r.1.1.0.0.may r.1.1.0.0.small r.1.1.0.0.since, (refl, to_leaf), none_tried Root _ _ r.1.1.0.2), r.1.1.1))))
      (dict_starts valid_key key valid_value value_word p x first (ap is_in_trie is_way ∙ by_leaf trie) tt (refl, refl, (refl, to_leaf), small) tt refl)
    where
      to_leaf : way ≡ leaf_way (is_in_trie way)
      to_leaf = subst (λ w. w ≡ leaf_way (is_in_trie w)) (sym is_way) (leaf_is trie)

  -- the value of its word
  same_told : (told : Option ℕ) (v : Option V) → (IfSome told (IsWordOf valid_value value_word) → option_map value_word v ≡ told) → IsTypedValue (IsWordOf valid_value value_word) told → Some (OneValue (option_map value_word v)) ≡ Some (OneValue told)
  same_told None v e t = ap (λ (o : Option ℕ). Some (OneValue o)) (e tt)
  same_told (Some w) v e t = ap (λ (o : Option ℕ). Some (OneValue o)) (e t)

  -- what its walk finds, it answers
  pub get_ended : (share : Remaining) (tries wanted number : ℕ) (way : Way) (layout : Layout) (c : Call) (is_layout : c.layout ≡ layout) (is_number : c.number ≡ number) (ps : List SeatedPass) (turn : LastTurns) (f : Found) (v : Option V) → IsMap c.layout.mode → IfSome v valid_value → (IfSome f.value (IsWordOf valid_value value_word) → option_map value_word v ≡ f.value)
      → (x : WalkerFinds (walker share tries wanted way c layout number is_layout is_number) ps way (ToKey wanted) turn f)
      → HoldsForCall allows (HasDictLeft {K = K} {V = V} (getting share tries wanted (way_at way (ToKey wanted) root_trail Start))) ps c (λ h. DictAnswers valid_key key valid_value value_word (getting share tries wanted x.last) c h (replies.Value v) × Trace allows waits same c (getting share tries wanted (way_at way (ToKey wanted) root_trail Start)) (getting share tries wanted x.last) h)
  unfolding walker
  get_ended share tries wanted number way layout c is_layout is_number ps turn f v mode valid same_word x =
      record { planting = x.so.planting; known = x.so.known; is = x.so.is; sound = x.so.sound; so = (answers _ x.so.sound x.so.so.0, x.so.so.1) }
    where
      answers : (h : History) → IsRun allows c.layout h → ready (getting share tries wanted x.last) c h (Some x.told) → DictAnswers valid_key key valid_value value_word (getting share tries wanted x.last) c h (replies.Value v)
      answers h run r =
          let t : WalkIsTold x.last c h x.told = r.1.1.0.0 in
          let found : FoundBy x.last.way (ToKey wanted) c h f = subst (λ by. FoundBy by (ToKey wanted) c h f) (sym x.is_way) (x.finds c h t) in
          dict_ends valid_key key valid_value value_word (getting share tries wanted x.last) c h (WordReply.Value f.value) (replies.Value v) mode run
          (get_ends tries c h wanted x.last share f (rw x.is_goal at t.small) r.1.1.1 r.1.0.spent found r.1.1.0.2) record { valid = valid; says = λ typed. same_told f.value v same_word typed; form = inl refl }

  -- and so it has ended, where a walk that waits for the head of the root finds that
  pub get_over : (trie : Bool) {T : Type 0} (p : Inside T) (x : IsPass allows (map_mode trie) p) (s : Seat ℕ SeatView) (tries wanted number : ℕ) (way : Way) (layout : Layout) → (layout_in p) ≡ layout → taken_of (pass_view p) ≡ number → way ≡ leaf_way trie → wanted < 2 ^ 64 → (turn : LastTurns) (f : Found) (v : Option V) → IfSome v valid_value → (IfSome f.value (IsWordOf valid_value value_word) → option_map value_word v ≡ f.value)
      → ((w : Walker (dict_calls valid_key key valid_value value_word layout number)) → WalksFromRoot w p.seat.me.0.passes way (ToKey wanted) → WalkerFinds w s.me.0.passes way (ToKey wanted) turn f)
      → (last : WalkRun) × HoldsForCall allows (HasDictLeft {K = K} {V = V} (getting p.share tries wanted (way_at way (ToKey wanted) root_trail Start))) s.me.0.passes (call_of p x (taken_of (pass_view p))) (λ h. Answered valid_key key valid_value value_word trie p x s (getting p.share tries wanted last) (replies.Value v) h × Trace allows waits same (call_of p x (taken_of (pass_view p))) (getting p.share tries wanted (way_at way (ToKey wanted) root_trail Start)) (getting p.share tries wanted last) h)
  get_over trie p x s tries wanted number way layout is_layout is_number is_way small turn f v valid same_word finds =
      let c : Call = call_of p x (taken_of (pass_view p)) in
      let found = finds (walker p.share tries wanted way c layout number is_layout is_number) (get_walks trie p x tries wanted number way layout is_layout is_number is_way small) in
      (found.last, get_ended p.share tries wanted number way layout c is_layout is_number s.me.0.passes turn f v (dict_mode (layout_in p).mode trie x.is_mode) valid same_word found)
