-- From place to place of an LLX, of whatever machine looks at nodes; and calls of LLX, which look
-- at theirs.
use Rattle.std.proofs.Common.{◌≡◌, ℕ, Bool, List, refl, sym, subst, ◌≢◌, true, false, ◌⊎◌, inl, inr, Some}
use Rattle.histories.specs.Common.{Layout, Ask, Done, NodeNo, ScxNo, LoadState, LoadInfo, LoadMarked, LoadChild, state, info, marked, child, History, Call, IsRun, Step, Left, Right}
use Rattle.template.specs.Common.{HasFoundThere, load, HasJustLooked, IsSnapshot, LlxIsReady, LlxWaits, LlxAnswers, Snapshot, LlxRun, Snap, LlxAt}
use Rattle.prims.proofs.Lemmas.{turn_first, Knows, knows, turn_info, turn_state, turn_mark, turn_read, turn_right, turn_again, turn_compare}
use Rattle.prims.specs.declared.llx.LlxAt.TheVariants.{Start, Marked, StateAgain, Info, State, MarkedAgain, Left as AtLeft, Right as AtRight, InfoAgain}
use Rattle.tables.specs.declared.view.SeatedPass.{SeatedPass}
use Rattle.straight.specs.CallKinds.{Calls}
use Rattle.tables.specs.CallSteps.{AnyLeft}
use Rattle.straight.specs.StraightLlx.{llx_at, IsSameNode, SeatLlxBegins, SeatLlxWaits, SeatLlxEnds, Looker, LookerSnaps, LoadsMark, LoadsStateAgain}
use Rattle.tables.specs.TableRule.{history_of}
use Rattle.straight.proofs.Places.{starts}
use Rattle.straight.specs.Inside.{InnerIsTold, InnerWaits}
use Rattle.straight.proofs.Inside.{goes_to}

module _ {M : Type 0} {inner : Layout → History → ℕ → Type 0} {o : Calls M} (k : Looker inner o) (ps : List SeatedPass) (node : NodeNo) where
  -- it waits for this step at this place
  abbrev At : LlxAt → Step → Type 0
  At at step = InnerWaits k ps (llx_at node at) step

  -- the step of this place has found v
  abbrev Tells : LlxAt → ℕ → Type 0
  Tells at v = InnerIsTold k ps (llx_at node at) v

  -- a turn takes it from place to place
  turns : (at next : LlxAt) (v : ℕ) (step : Step) → (at ≡ Start → ⊥) → ((d : Call) (h : History) → IsRun inner d.layout h → Knows inner d h node.0 at v → LlxWaits inner (llx_at node next) d h step) → Tells at v → At next step
  turns at next v step d turn = goes_to k ps (llx_at node at) (llx_at node next) v step refl (λ c h y. turn c h y.0 (knows inner (llx_at node at) c h (Some v) v at refl d refl y.1))

  pub to_info : (v : ℕ) (b : Bool) → (b ≡ true → v ≢ 0) → (b ≡ false → v ≡ 0) → Tells Marked v → At (Info b) (load LoadInfo (info node.0))
  to_info v b d z = turns Marked (Info b) v _ (λ e. cc) (λ c h run x. turn_info inner c h run (llx_at node Marked) (llx_at node (Info b)) (Ask _) b v x d z record { stands = refl; asked = refl })

  pub to_state : (b : Bool) (v : ℕ) → Tells (Info b) v → At (State b record { 0 = v }) (load LoadState (state v))
  to_state b v = turns (Info b) (State b record { 0 = v }) v _ (λ e. cc) (λ c h run x. turn_state inner c h run (llx_at node (Info b)) (llx_at node (State b record { 0 = v })) (Ask _) b v x record { stands = refl; asked = refl })

  pub to_mark_again : (b : Bool) (s : ScxNo) (v : ℕ) → Tells (State b s) v → At (MarkedAgain b s v) (load LoadMarked (marked node.0))
  to_mark_again b s v = turns (State b s) (MarkedAgain b s v) v _ (λ e. cc) (λ c h run x. turn_mark inner c h run (llx_at node (State b s)) (llx_at node (MarkedAgain b s v)) (Ask _) b s v x record { stands = refl; asked = refl })

  pub to_left : (b : Bool) (s : ScxNo) (v found : ℕ) (again : Bool) → (again ≡ false → found ≡ 0) → (again ≡ true → found ≢ 0) → (v ≡ 2) ⊎ ((v ≡ 1) × (again ≡ false)) → Tells (MarkedAgain b s v) found → At (AtLeft b s) (load LoadChild (child node.0 Left))
  to_left b s v found again z d in_place = turns (MarkedAgain b s v) (AtLeft b s) found _ (λ e. cc) (λ c h run x. turn_read inner c h run (llx_at node (MarkedAgain b s v)) (llx_at node (AtLeft b s)) (Ask _) b s v found again x z d (inl record { in_place = in_place; asks = record { stands = refl; asked = refl } }))

  -- something is in the way
  pub declines : (b : Bool) (s : ScxNo) (v found : ℕ) (again : Bool) → (again ≡ false → found ≡ 0) → (again ≡ true → found ≢ 0) → v ≢ 2 → (v ≡ 1 → again ≡ true) → Tells (MarkedAgain b s v) found → At (StateAgain b s) (load LoadState (state s.0))
  declines b s v found again z d two one = turns (MarkedAgain b s v) (StateAgain b s) found _ (λ e. cc) (λ c h run x. turn_read inner c h run (llx_at node (MarkedAgain b s v)) (llx_at node (StateAgain b s)) (Ask _) b s v found again x z d (inr record { not_aborted = two; marked = one; asks = record { stands = refl; asked = refl } }))

  pub to_right : (b : Bool) (s : ScxNo) (v : ℕ) → Tells (AtLeft b s) v → At (AtRight b s v) (load LoadChild (child node.0 Right))
  to_right b s v = turns (AtLeft b s) (AtRight b s v) v _ (λ e. cc) (λ c h run x. turn_right inner c h run (llx_at node (AtLeft b s)) (llx_at node (AtRight b s v)) (Ask _) b s v x record { stands = refl; asked = refl })

  pub to_info_again : (b : Bool) (s : ScxNo) (x v : ℕ) → Tells (AtRight b s x) v → At (InfoAgain b s x v) (load LoadInfo (info node.0))
  to_info_again b s x v = turns (AtRight b s x) (InfoAgain b s x v) v _ (λ e. cc) (λ c h run y. turn_again inner c h run (llx_at node (AtRight b s x)) (llx_at node (InfoAgain b s x v)) (Ask _) b s x v y record { stands = refl; asked = refl })

  pub differs : (b : Bool) (s : ScxNo) (x y v : ℕ) → v ≢ s.0 → Tells (InfoAgain b s x y) v → At (StateAgain b s) (load LoadState (state s.0))
  differs b s x y v d = turns (InfoAgain b s x y) (StateAgain b s) v _ (λ e. cc) (λ c h run z. turn_compare inner c h run (llx_at node (InfoAgain b s x y)) (llx_at node (StateAgain b s)) (Ask _) b s x y v z (inr record { other = d; asks = record { stands = refl; asked = refl } }))

  pub snaps : (b : Bool) (s : ScxNo) (x y v : ℕ) → v ≡ s.0 → Tells (InfoAgain b s x y) v → LookerSnaps k ps node record { node = node; scx = s; left = record { 0 = x }; right = record { 0 = y } }
  snaps b s x y v e t = record {
    of_node = refl;
    last = llx_at node (InfoAgain b s x y);
    is_node = refl;
    told = v;
    snaps = λ d h run r. (answers d h run r).0;
    found = λ d h run r. (answers d h run r).2;
    looked = λ d h run r. (answers d h run r).1;
    so = t;
  }
    where
      snap : Snap
      snap = record { node = node; scx = s; left = record { 0 = x }; right = record { 0 = y } }

      answers : (d : Call) (h : History) → IsRun inner d.layout h → LlxIsReady inner (llx_at node (InfoAgain b s x y)) d h (Some v) → LlxAnswers (llx_at node (InfoAgain b s x y)) d h (Snapshot snap)
      answers d h run r = turn_compare inner d h run (llx_at node (InfoAgain b s x y)) (llx_at node (InfoAgain b s x y)) (Done (Snapshot snap)) b s x y v
          (knows inner (llx_at node (InfoAgain b s x y)) d h (Some v) v (InfoAgain b s x y) refl (λ z. cc) refl r) (inl record { same = e; run = refl; done = refl })

-- its calls of a layout and a number
abbrev pub llx_calls : (Layout → History → ℕ → Type 0) → Layout → ℕ → Calls LlxRun
llx_calls allows layout number = record { allows = allows; ready = LlxIsReady allows; waits = LlxWaits allows; same = IsSameNode; left_dealt = AnyLeft; layout = layout; number = number }

module _ (allows : Layout → History → ℕ → Type 0) (layout : Layout) (number : ℕ) (c : Call) (is_layout : c.layout ≡ layout) (is_number : c.number ≡ number) (node : NodeNo) where
  -- a run of LLX looks at its node itself
  pub looker : Looker allows (llx_calls allows layout number)
  looker = record {
    call = c;
    is_layout = is_layout;
    is_number = is_number;
    first = llx_at node Start;
    with_run = λ m. m;
    tells = λ m h v run x. (c, (run, x));
    turns = λ old now h v s is turn run x. turn c (run, x);
    stays = λ old now v is. is;
  }

  module _ (ps : List SeatedPass) where
    -- its first turn takes it to the load of the mark
    pub begins_look : SeatLlxBegins allows c ps node → LoadsMark looker ps node
    unfolding looker
    begins_look = starts allows (LlxIsReady allows) (LlxWaits allows) IsSameNode AnyLeft c ps (llx_at node Start) (llx_at node Marked) _ refl (λ h run x. turn_first allows c h run (llx_at node Start) (llx_at node Marked) (Ask _) x record { stands = refl; asked = refl })

    -- something is in the way
    pub hands_over : (b : Bool) (s : ScxNo) → LoadsStateAgain looker ps node b s → SeatLlxWaits allows c ps node (StateAgain b s) (load LoadState (state s.0))
    unfolding looker
    hands_over b s x = x

    -- the snapshot is its answer
    pub answers : (snap : Snap) → LookerSnaps looker ps node snap → SeatLlxEnds allows c ps node (Snapshot snap)
    unfolding looker
    answers snap x = (x.last, record { planting = x.so.planting; known = x.so.known; is = x.so.is; sound = x.so.sound; so = (right, x.so.so.1) })
      where
        h : History
        h = history_of x.so.planting x.so.known

        right : IsSnapshot c.layout h x.last.node.0 snap × HasJustLooked c.pass h c.start x.last.node.0 × HasFoundThere c.pass h c.start x.last.node.0 snap.scx.0
        right = subst (λ (n : NodeNo). IsSnapshot c.layout h n.0 snap × HasJustLooked c.pass h c.start n.0 × HasFoundThere c.pass h c.start n.0 snap.scx.0) (sym x.is_node)
            (x.snaps c h x.so.sound x.so.so.0, x.looked c h x.so.sound x.so.so.0, x.found c h x.so.sound x.so.so.0)
