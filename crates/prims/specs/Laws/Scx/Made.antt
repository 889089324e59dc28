-- Once the step is made, a run of SCX may continue with what that found.
use Rattle.std.proofs.Common.{◌≡◌, ◌≢◌, ℕ, Bool, true, false, Some, ◌⊎◌, inl, inr, refl, sym, ◌∙◌, ap, length}
use Rattle.histories.specs.Common.{Layout, Row, Step, Side, Word, Node, Scx, ScxWord, State, Plan, New, Member, member_index, same_word, node, scx}
use Rattle.histories.specs.Common.{info, state, child, first_value, History, ◌⊳◌, value, IsNamed, IsNamedScx, Lawful, IsRun, Call, row_of, IsTold}
use Rattle.arena.proofs.Lemmas.{named_before, named_scx_before, word_same, value_at, value_other, value_apart, held_back, scx_apart, scx_word_apart}
use Rattle.histories.proofs.Lemmas.{never_state}
use Rattle.help.specs.Laws.Help.Allowing.{allowed_more}
use Rattle.help.specs.Laws.Help.Lawful.{help_fills_not}
use Rattle.help.specs.Laws.Help.Made.{help_made}
use Rattle.prims.specs.Laws.Linked.{linked_more, in_field_named}
use Rattle.prims.specs.Snap.{snap_at}
use Rattle.prims.specs.Laws.Unfilled.{step_words, step_value}
use Rattle.prims.specs.Laws.BlankRows.{Spares, spared_by_step, spared_by_fill}
use Rattle.prims.specs.Laws.Begun.{takes_by_fill, takes_by_step, way_more, filled_more}
use Rattle.prims.specs.Scx.Known.{Job, job_of, wanted, InHand, part_at, IsFilled, IsFilledThen, HoldsWanted, Fills, FillWaits, FillMade, fill_step, ScxWaitsAt, ScxIsToldAt, ScxWaits, ScxIsReady}
use Rattle.prims.specs.Scx.Laws.{taken_more, part_fill}
use Rattle.prims.specs.declared.scx.ScxRun.{ScxRun}
use Rattle.prims.specs.declared.scx.ScxAt.{ScxAt}
use Rattle.prims.specs.declared.scx.ScxAt.TheVariants.{Start, Plan as AtPlan, New as AtNew, Old as AtOld, Member as AtMember, Seen as AtSeen, Call as AtCall, Help}

abbrev part_of : Word → ScxWord
part_of (Scx s part) = part
part_of (Node n part) = Plan

module _ (allows : Layout → History → ℕ → Type 0) (m : Job) (c : Call) (h : History) (at : ScxAt) where
  abbrev r : Row
  r = row_of c (fill_step m (part_at at)) h

  same_info : (n : ℕ) → value (r ⊳ h) (info n) ≡ value h (info n)
  same_info n = value_apart r h (scx m.scx.0 (part_at at)) (info n) refl refl

  same_field : (n : ℕ) (side : Side) → value (r ⊳ h) (child n side) ≡ value h (child n side)
  same_field n side = value_apart r h (scx m.scx.0 (part_at at)) (child n side) refl refl

  other_word : (u : ℕ) (part : ScxWord) → u ≢ m.scx.0 → value (r ⊳ h) (scx u part) ≡ value h (scx u part)
  other_word u part d = value_apart r h (scx m.scx.0 (part_at at)) (scx u part) refl (scx_apart m.scx.0 u (part_at at) part (λ e. d (sym e)))

  -- its own fill names no node, since nothing names its SCX-record
  unnamed_back : ¬ IsNamedScx h m.scx.0 → {n : ℕ} → IsNamed c.layout (r ⊳ h) n → IsNamed c.layout h n
  unnamed_back free = named_before c.layout r h same_info same_field (λ u part x. other_word u part (λ e. free (rw e at x)))

  hand_filled : Lawful c.layout (r ⊳ h) → InHand allows c.layout c.pass h m → InHand allows c.layout c.pass (r ⊳ h) m
  hand_filled l x = record {
    update = x.update;
    linked = λ j p. linked_more c.layout h r (snap_at m.update.snaps j) l (x.linked j p);
    is_open = record { own = x.is_open.own; in_order = λ t o p. taken_more r h t (x.is_open.in_order t o p); unnamed = λ p. x.is_open.unnamed (named_scx_before r h m.scx.0 same_info p) };
    unfinished = value_apart r h (scx m.scx.0 (part_at at)) (state m.scx.0) refl (scx_word_apart m.scx.0 m.scx.0 (part_at at) State (never_state (part_at at) (part_fill at))) ∙ x.unfinished;
    fresh = x.fresh;
    unnamed = λ p. x.unnamed (unnamed_back x.is_open.unnamed p);
    in_no_field = λ n side p. x.in_no_field n side (held_back r h (child n side) m.update.fresh.0 (same_field n side) p);
    in_no_other = λ u d p. x.in_no_other u d (held_back r h (scx u New) m.update.fresh.0 (other_word u New d) p);
    allowed = λ d y. allowed_more allows c.layout c.pass h r m.scx.0 d (inr (inl (part_at at, refl, refl))) (x.allowed d y);
  }

  holds_then : HoldsWanted h m (IsFilled (length m.update.snaps) at) → HoldsWanted (r ⊳ h) m (IsFilledThen (length m.update.snaps) at)
  holds_then x part p = test (same_word (scx m.scx.0 (part_at at)) (scx m.scx.0 part)) refl p
    where
      here : part_at at ≡ part → value (r ⊳ h) (scx m.scx.0 part) ≡ wanted m part
      here e = value_at r h (scx m.scx.0 part) (ap (scx m.scx.0) e) ∙ ap (wanted m) e

      test : (t : Bool) → same_word (scx m.scx.0 (part_at at)) (scx m.scx.0 part) ≡ t → IsFilled (length m.update.snaps) at part ⊎ (part_at at ≡ part) → value (r ⊳ h) (scx m.scx.0 part) ≡ wanted m part
      test t e (inr q) = here q
      test true e (inl q) = here (ap part_of (word_same (scx m.scx.0 (part_at at)) (scx m.scx.0 part) e))
      test false e (inl q) = value_other r h (scx m.scx.0 part) e ∙ x part q

  fill_made : Lawful c.layout (r ⊳ h) → Fills allows c h m at → FillMade allows c (r ⊳ h) m at
  fill_made l x = record { hand = hand_filled l x.hand; way = way_more c h r m.scx.0 m.update.snaps (takes_by_fill c.layout c.pass m.scx.0 h r (part_at at) refl) x.way; within = x.within; filled = holds_then x.filled }

made_by : (allows : Layout → History → ℕ → Type 0) (m : Job) (c : Call) (h : History) (at : ScxAt) (s : Step) → IsRun allows c.layout (row_of c s h ⊳ h) → FillWaits allows c h m at s → FillMade allows c (row_of c s h ⊳ h) m at
made_by allows m c h at s run w =
    let l : Lawful c.layout (row_of c (fill_step m (part_at at)) h ⊳ h) = rw w.asked at run.lawful in
    rw w.asked (fill_made allows m c h at l w.fills)

made_at : (allows : Layout → History → ℕ → Type 0) (m : Job) (c : Call) (h : History) (at : ScxAt) (s : Step) (v : ℕ) → IsRun allows c.layout (row_of c s h ⊳ h) → IsTold s.access (value h s.word) v → ScxWaitsAt allows c h m at s → ScxIsToldAt allows c (row_of c s h ⊳ h) m at v
made_at allows m c h Start s v run t w = absurd w
made_at allows m c h (Help help) s v run t w = (
  help_made allows help c h s v run t w.0,
  w.1,
  filled_more c h (row_of c s h) m.scx.0 m.call m.update (takes_by_step c.layout c.pass m.scx.0 h (row_of c s h) (help_fills_not allows help c h s w.0)) (step_words c.layout h (row_of c s h) m.scx.0 run.lawful (help_fills_not allows help c h s w.0)) w.2,
)
made_at allows m c h AtPlan s v run t w = made_by allows m c h AtPlan s run w
made_at allows m c h AtNew s v run t w = made_by allows m c h AtNew s run w
made_at allows m c h AtOld s v run t w = made_by allows m c h AtOld s run w
made_at allows m c h (AtMember j) s v run t w = made_by allows m c h (AtMember j) s run w
made_at allows m c h (AtSeen j) s v run t w = made_by allows m c h (AtSeen j) s run w
made_at allows m c h AtCall s v run t w = made_by allows m c h AtCall s run w

-- once the step is made, the run of SCX may be called with what it found
pub scx_made : (allows : Layout → History → ℕ → Type 0) (m : ScxRun) (c : Call) (h : History) (s : Step) (v : ℕ) → IsRun allows c.layout (row_of c s h ⊳ h) → IsTold s.access (value h s.word) v → ScxWaits allows m c h s → ScxIsReady allows m c (row_of c s h ⊳ h) (Some v)
scx_made allows m c h s v run t w = made_at allows (job_of m) c h m.at s v run t w

-- its steps leave the value of every node, place by place

fill_value : (allows : Layout → History → ℕ → Type 0) (m : Job) (c : Call) (h : History) (at : ScxAt) (s : Step) (n : ℕ) → FillWaits allows c h m at s → value (row_of c s h ⊳ h) (node n first_value) ≡ value h (node n first_value)
fill_value allows m c h at s n w = rw w.asked (value_apart (row_of c (fill_step m (part_at at)) h) h (scx m.scx.0 (part_at at)) (node n first_value) refl refl)

value_at_place : (allows : Layout → History → ℕ → Type 0) (m : Job) (c : Call) (h : History) (at : ScxAt) (s : Step) (n : ℕ) → Lawful c.layout (row_of c s h ⊳ h) → ScxWaitsAt allows c h m at s → value (row_of c s h ⊳ h) (node n first_value) ≡ value h (node n first_value)
value_at_place allows m c h Start s n l w = absurd w
value_at_place allows m c h (Help help) s n l w = step_value c.layout h (row_of c s h) n l (help_fills_not allows help c h s w.0)
value_at_place allows m c h AtPlan s n l w = fill_value allows m c h AtPlan s n w
value_at_place allows m c h AtNew s n l w = fill_value allows m c h AtNew s n w
value_at_place allows m c h AtOld s n l w = fill_value allows m c h AtOld s n w
value_at_place allows m c h (AtMember j) s n l w = fill_value allows m c h (AtMember j) s n w
value_at_place allows m c h (AtSeen j) s n l w = fill_value allows m c h (AtSeen j) s n w
value_at_place allows m c h AtCall s n l w = fill_value allows m c h AtCall s n w

-- the step that a run of SCX waits for leaves the value of every node
pub scx_value : (allows : Layout → History → ℕ → Type 0) (m : ScxRun) (c : Call) (h : History) (s : Step) (n : ℕ) → Lawful c.layout (row_of c s h ⊳ h) → ScxWaits allows m c h s → value (row_of c s h ⊳ h) (node n first_value) ≡ value h (node n first_value)
scx_value allows m c h s n l w = value_at_place allows (job_of m) c h m.at s n l w

-- its steps leave its fresh node blank, place by place

fill_spares : (allows : Layout → History → ℕ → Type 0) (m : Job) (c : Call) (h : History) (at : ScxAt) (s : Step) → FillWaits allows c h m at s → ((j : ℕ) → part_at at ≡ Member j → wanted m (part_at at) ≢ m.update.fresh.0) → Spares (row_of c s h) m.scx.0 m.update.fresh.0
fill_spares allows m c h at s w d = rw w.asked (spared_by_fill (row_of c (fill_step m (part_at at)) h) m.scx.0 m.update.fresh.0 (part_at at) refl d)

spares_at_place : (allows : Layout → History → ℕ → Type 0) (m : Job) (c : Call) (h : History) (at : ScxAt) (s : Step) → ScxWaitsAt allows c h m at s → Spares (row_of c s h) m.scx.0 m.update.fresh.0
spares_at_place allows m c h Start s w = absurd w
spares_at_place allows m c h (Help help) s w = spared_by_step (row_of c s h) m.scx.0 m.update.fresh.0 (help_fills_not allows help c h s w.0)
spares_at_place allows m c h AtPlan s w = fill_spares allows m c h AtPlan s w (λ j e. cc)
spares_at_place allows m c h AtNew s w = fill_spares allows m c h AtNew s w (λ j e. cc)
spares_at_place allows m c h AtOld s w = fill_spares allows m c h AtOld s w (λ j e. cc)
spares_at_place allows m c h (AtMember k) s w = fill_spares allows m c h (AtMember k) s w (λ j e q. w.fills.hand.unnamed (rw q at (in_field_named (snap_at m.update.snaps (member_index k)).node.0 (w.fills.hand.linked (member_index k) w.fills.within).in_field)))
spares_at_place allows m c h (AtSeen k) s w = fill_spares allows m c h (AtSeen k) s w (λ j e. cc)
spares_at_place allows m c h AtCall s w = fill_spares allows m c h AtCall s w (λ j e. cc)

-- the step that a run of SCX waits for spares its fresh node
pub scx_spares : (allows : Layout → History → ℕ → Type 0) (m : ScxRun) (c : Call) (h : History) (s : Step) → ScxWaits allows m c h s → Spares (row_of c s h) m.scx.0 m.update.fresh.0
scx_spares allows m c h s w = spares_at_place allows (job_of m) c h m.at s w
