-- The laws of SCX with a fresh cell.
use Rattle.std.proofs.Common.{◌≡◌, ◌≢◌, ℕ, Some, inl, inr, refl, ◌∙◌}
use Rattle.histories.specs.Common.{Layout, Row, Step, Child, Info, Side, ScxWord, State, New, node, scx, info, child, first_value, History, ◌⊳◌, value, Lawful, IsRun, Call, row_of, IsTold}
use Rattle.arena.proofs.Lemmas.{named_before, named_scx_before, value_at, value_apart, held_back, node_word_apart, taken_node_more, fill_takes_node}
use Rattle.histories.proofs.Lemmas.{lawful_more, own_node_inside, shaped_more}
use Rattle.help.specs.Laws.Help.Allowing.{later_self, later_trans}
use Rattle.prims.specs.Cells.{AllowsAll}
use Rattle.prims.specs.Laws.Linked.{linked_more}
use Rattle.prims.specs.Snap.{snap_at}
use Rattle.prims.specs.Laws.Unfilled.{own_value_unfilled}
use Rattle.prims.specs.BlankNodes.{IsBlank}
use Rattle.prims.specs.Laws.BlankRows.{Spares, spared_by_others, spared_by_value, was_blank_more}
use Rattle.prims.specs.Laws.Begun.{takes_by_others, takes_by_node, way_more}
use Rattle.prims.specs.Scx.Known.{job_of, InHand}
use Rattle.prims.specs.Scx.Laws.{taken_more, hand_kept, scx_keeps, scx_lawful}
use Rattle.prims.specs.Laws.Scx.Made.{scx_made, scx_value, scx_spares}
use Rattle.prims.specs.Put.Known.{PutHand, HasValue, put_step, PutWaitsAt, PutIsToldAt, PutWaits, PutIsReady}
use Rattle.prims.specs.declared.put.PutRun.{PutRun}
use Rattle.prims.specs.declared.put.PutAt.{PutAt}
use Rattle.prims.specs.declared.put.PutAt.TheVariants.{Start, Fill as AtFill, Scx}

value_more : (c : Call) (h : History) (r : Row) (s n v : ℕ) → Lawful c.layout (r ⊳ h) → value (r ⊳ h) (node n first_value) ≡ value h (node n first_value) → (IsBlank h s n → Spares r s n) → HasValue c h s n v → HasValue c (r ⊳ h) s n v
value_more c h r s n v l e f x = record { own = x.own; taken = taken_node_more r h n x.taken; value = e ∙ x.value; blank = was_blank_more c.layout c.start h r s n l f x.blank }

-- a row of another pass leaves the fresh node taken, with its value, and otherwise blank
pub value_by_others : (c : Call) (h : History) (r : Row) (s n v : ℕ) → Lawful c.layout (r ⊳ h) → r.pass.0 ≢ c.pass → HasValue c h s n v → HasValue c (r ⊳ h) s n v
value_by_others c h r s n v l other x = value_more c h r s n v l (own_value_unfilled c.layout h r c.pass n l other x.own) (spared_by_others c.layout h r c.pass s n l c.is_pass other x.own) x

kept_at : (allows : Layout → History → ℕ → Type 0) (m : PutRun) (c : Call) (h : History) (at : PutAt) (s : Step) (r : Row) → IsRun allows c.layout (r ⊳ h) → r.pass.0 ≢ c.pass → PutWaitsAt allows c h m at s → PutWaitsAt allows c (r ⊳ h) m at s
kept_at allows m c h Start s r run other w = w
kept_at allows m c h Scx s r run other w = (
  value_by_others c h r m.scx.scx.0 m.scx.update.fresh.0 m.value run.lawful other w.0,
  scx_keeps allows m.scx c h s r run other w.1,
)
kept_at allows m c h AtFill s r run other w = (
  record {
    hand = hand_kept AllowsAll c.layout c.pass h r (job_of m.scx) run.lawful c.is_pass other w.0.hand;
    start = w.0.start;
    in_order = λ n o p. taken_node_more r h n (w.0.in_order n o p);
    allowed = λ k q d later f y. w.0.allowed k q d (later_trans c.pass m.scx.scx.0 h (r ⊳ h) k later (inr (inl other, later_self c.pass m.scx.scx.0 h))) f y;
  },
  way_more c h r m.scx.scx.0 m.scx.update.snaps (takes_by_others c.layout c.pass m.scx.scx.0 h r run.lawful other) w.1,
  w.2,
  was_blank_more c.layout c.start h r m.scx.scx.0 m.scx.update.fresh.0 run.lawful (spared_by_others c.layout h r c.pass m.scx.scx.0 m.scx.update.fresh.0 run.lawful c.is_pass other w.0.hand.fresh) w.3,
)

-- rows of other passes leave the run waiting for the same step
pub put_keeps : (allows : Layout → History → ℕ → Type 0) (m : PutRun) (c : Call) (h : History) (s : Step) (r : Row) → IsRun allows c.layout (r ⊳ h) → r.pass.0 ≢ c.pass → PutWaits allows m c h s → PutWaits allows m c (r ⊳ h) s
put_keeps allows m c h s r run other w = kept_at allows m c h m.at s r run other w

lawful_at : (allows : Layout → History → ℕ → Type 0) (m : PutRun) (c : Call) (h : History) (at : PutAt) (s : Step) → IsRun allows c.layout h → PutWaitsAt allows c h m at s → IsRun allows c.layout (row_of c s h ⊳ h)
lawful_at allows m c h Start s run w = absurd w
lawful_at allows m c h Scx s run w = scx_lawful allows m.scx c h s run w.1
lawful_at allows m c h AtFill s run w = rw w.2 record { lawful = x; shaped = shaped_more allows c.layout h (row_of c (put_step m) h) x run.shaped (λ u f g. absurd (let e = g.kind in cc)) }
  where
    x : Lawful c.layout (row_of c (put_step m) h ⊳ h)
    x = lawful_more c.layout h (row_of c (put_step m) h) run.lawful record { before = refl; obeys = record { own = w.0.hand.fresh; in_order = w.0.in_order; unnamed = w.0.hand.unnamed }; pass = c.is_pass; word = own_node_inside c.layout c.pass m.scx.update.fresh.0 c.is_pass w.0.hand.fresh }

-- the step that the run waits for continues the run: it is lawful, and begins only what is allowed
pub put_lawful : (allows : Layout → History → ℕ → Type 0) (m : PutRun) (c : Call) (h : History) (s : Step) → IsRun allows c.layout h → PutWaits allows m c h s → IsRun allows c.layout (row_of c s h ⊳ h)
put_lawful allows m c h s run w = lawful_at allows m c h m.at s run w

-- the fill of its fresh node

module _ (allows : Layout → History → ℕ → Type 0) (m : PutRun) (c : Call) (h : History) where
  abbrev r : Row
  r = row_of c (put_step m) h

  same_info : (n : ℕ) → value (r ⊳ h) (info n) ≡ value h (info n)
  same_info n = value_apart r h (node m.scx.update.fresh.0 first_value) (info n) refl (node_word_apart m.scx.update.fresh.0 n first_value Info refl)

  same_field : (n : ℕ) (side : Side) → value (r ⊳ h) (child n side) ≡ value h (child n side)
  same_field n side = value_apart r h (node m.scx.update.fresh.0 first_value) (child n side) refl (node_word_apart m.scx.update.fresh.0 n first_value (Child side) refl)

  same_part : (u : ℕ) (part : ScxWord) → value (r ⊳ h) (scx u part) ≡ value h (scx u part)
  same_part u part = value_apart r h (node m.scx.update.fresh.0 first_value) (scx u part) refl refl

  hand_put : Lawful c.layout (r ⊳ h) → PutHand allows c.layout c.pass h m.scx → InHand allows c.layout c.pass (r ⊳ h) (job_of m.scx)
  hand_put l y = record {
    update = y.hand.update;
    linked = λ j p. linked_more c.layout h r (snap_at m.scx.update.snaps j) l (y.hand.linked j p);
    is_open = record { own = y.hand.is_open.own; in_order = λ t o p. taken_more r h t (y.hand.is_open.in_order t o p); unnamed = λ p. y.hand.is_open.unnamed (named_scx_before r h m.scx.scx.0 same_info p) };
    unfinished = same_part m.scx.scx.0 State ∙ y.hand.unfinished;
    fresh = y.hand.fresh;
    unnamed = λ p. y.hand.unnamed (named_before c.layout r h same_info same_field (λ u part q. same_part u part) p);
    in_no_field = λ n side p. y.hand.in_no_field n side (held_back r h (child n side) m.scx.update.fresh.0 (same_field n side) p);
    in_no_other = λ u d p. y.hand.in_no_other u d (held_back r h (scx u New) m.scx.update.fresh.0 (same_part u New) p);
    allowed = λ d z. y.allowed h r d (later_self c.pass m.scx.scx.0 h) (first_value, refl, refl) z;
  }

made_at : (allows : Layout → History → ℕ → Type 0) (m : PutRun) (c : Call) (h : History) (at : PutAt) (s : Step) (v : ℕ) → IsRun allows c.layout (row_of c s h ⊳ h) → IsTold s.access (value h s.word) v → PutWaitsAt allows c h m at s → PutIsToldAt allows c (row_of c s h ⊳ h) m at v
made_at allows m c h Start s v run t w = absurd w
made_at allows m c h Scx s v run t w = (value_more c h (row_of c s h) m.scx.scx.0 m.scx.update.fresh.0 m.value run.lawful (scx_value allows m.scx c h s m.scx.update.fresh.0 run.lawful w.1) (λ x. scx_spares allows m.scx c h s w.1) w.0, scx_made allows m.scx c h s v run t w.1)
made_at allows m c h AtFill s v run t w =
    let l : Lawful c.layout (row_of c (put_step m) h ⊳ h) = rw w.2 at run.lawful in
    rw w.2 (
      record { own = w.0.hand.fresh; taken = fill_takes_node (row_of c (put_step m) h) h m.scx.update.fresh.0 first_value refl refl; value = value_at (row_of c (put_step m) h) h (node m.scx.update.fresh.0 first_value) refl; blank = was_blank_more c.layout c.start h (row_of c (put_step m) h) m.scx.scx.0 m.scx.update.fresh.0 l (λ x. spared_by_value (row_of c (put_step m) h) m.scx.update.fresh.0 m.scx.scx.0 m.scx.update.fresh.0 refl) w.3 },
      w.0.start,
      hand_put allows m c h l w.0,
      way_more c h (row_of c (put_step m) h) m.scx.scx.0 m.scx.update.snaps (takes_by_node c.layout c.pass m.scx.scx.0 h (row_of c (put_step m) h) m.scx.update.fresh.0 first_value refl) w.1,
    )

-- once the step is made, the run may be called with what it found
pub put_made : (allows : Layout → History → ℕ → Type 0) (m : PutRun) (c : Call) (h : History) (s : Step) (v : ℕ) → IsRun allows c.layout (row_of c s h ⊳ h) → IsTold s.access (value h s.word) v → PutWaits allows m c h s → PutIsReady allows m c (row_of c s h ⊳ h) (Some v)
put_made allows m c h s v run t w = made_at allows m c h m.at s v run t w
