-- The laws of SCX.
use Rattle.std.proofs.Common.{◌≡◌, ◌≢◌, ℕ, ◌<◌, inl, inr, ⊎_elim, refl, ◌∙◌, length}
use Rattle.histories.specs.Common.{Layout, Row, Step, ScxWord, State, New, member_index, scx, History, ◌⊳◌, value}
use Rattle.histories.specs.Common.{field_index_of as field_of, side_of, IsInField, IsTakenScx, MayFill, Lawful, IsRun, Call, row_of, Side}
use Rattle.arena.specs.Words.{IsScxWord}
use Rattle.histories.proofs.Lemmas.{IsScxFill, field_back, lawful_more, one_node_owner, own_scx_inside, own_words_stay, shaped_more, stays_free, stays_unnamed, word_back}
use Rattle.help.specs.Laws.Help.Allowing.{allowed_more}
use Rattle.help.specs.Laws.Help.Kept.{help_keeps}
use Rattle.help.specs.Laws.Help.Lawful.{help_lawful, index_small}
use Rattle.prims.specs.Laws.Linked.{linked_more, in_field_named}
use Rattle.prims.specs.Snap.{child_of, snap_at}
use Rattle.prims.specs.Laws.Unfilled.{own_words_unfilled}
use Rattle.prims.specs.Laws.Begun.{takes_by_others, way_more, filled_more}
use Rattle.prims.specs.Scx.Known.{Job, job_of, wanted, InHand, part_at, IsWithin, Fills, FillWaits, fill_step, ScxWaitsAt, ScxWaits}
use Rattle.prims.specs.declared.scx.ScxRun.{ScxRun}
use Rattle.prims.specs.declared.scx.ScxAt.{ScxAt}
use Rattle.prims.specs.declared.scx.ScxAt.TheVariants.{Start, Plan as AtPlan, New as AtNew, Old as AtOld, Member as AtMember, Seen as AtSeen, Call as AtCall, Help}

-- an SCX-record that is taken is so after one more row
pub taken_more : (r : Row) (h : History) (s : ℕ) → IsTakenScx h s → IsTakenScx (r ⊳ h) s
unfolding IsTakenScx
taken_more r h s p = inr p

-- Rows of others

module _ (allows : Layout → History → ℕ → Type 0) (lay : Layout) (c : ℕ) (h : History) (r : Row) (m : Job) (l : Lawful lay (r ⊳ h)) where
  -- what a pass has in hand stays so after a row of another pass
  pub hand_kept : c < lay.passes → r.pass.0 ≢ c → InHand allows lay c h m → InHand allows lay c (r ⊳ h) m
  hand_kept i other x = record {
    update = x.update;
    linked = λ j p. linked_more lay h r (snap_at m.update.snaps j) l (x.linked j p);
    is_open = record { own = x.is_open.own; in_order = λ t o p. taken_more r h t (x.is_open.in_order t o p); unnamed = stays_free lay h r c m.scx.0 l other x.is_open.own x.is_open.unnamed };
    unfinished = own_words_stay lay h r c m.scx.0 l other x.is_open.own x.is_open.unnamed State ∙ x.unfinished;
    fresh = x.fresh;
    unnamed = stays_unnamed lay h r c l i other m.update.fresh.0 x.fresh x.unnamed;
    in_no_field = λ n side p. ⊎_elim x.unnamed (x.in_no_field n side) (field_back lay h r c l i other n side m.update.fresh.0 x.fresh p);
    in_no_other = λ u d p. ⊎_elim x.unnamed (x.in_no_other u d) (word_back lay h r c l i other u New m.update.fresh.0 tt x.fresh p);
    allowed = λ d y. allowed_more allows lay c h r m.scx.0 d (inl other) (x.allowed d y);
  }

  words_kept : r.pass.0 ≢ c → InHand allows lay c h m → (part : ScxWord) → value (r ⊳ h) (scx m.scx.0 part) ≡ value h (scx m.scx.0 part)
  words_kept other x part = own_words_stay lay h r c m.scx.0 l other x.is_open.own x.is_open.unnamed part

fills_kept : (allows : Layout → History → ℕ → Type 0) (m : Job) (c : Call) (h : History) (at : ScxAt) (r : Row) → IsRun allows c.layout (r ⊳ h) → r.pass.0 ≢ c.pass → Fills allows c h m at → Fills allows c (r ⊳ h) m at
fills_kept allows m c h at r run other x = record {
  hand = hand_kept allows c.layout c.pass h r m run.lawful c.is_pass other x.hand;
  way = way_more c h r m.scx.0 m.update.snaps (takes_by_others c.layout c.pass m.scx.0 h r run.lawful other) x.way;
  within = x.within;
  filled = λ part p. words_kept allows c.layout c.pass h r m run.lawful other x.hand part ∙ x.filled part p;
}

kept_at : (allows : Layout → History → ℕ → Type 0) (m : Job) (c : Call) (h : History) (at : ScxAt) (s : Step) (r : Row) → IsRun allows c.layout (r ⊳ h) → r.pass.0 ≢ c.pass → ScxWaitsAt allows c h m at s → ScxWaitsAt allows c (r ⊳ h) m at s
kept_at allows m c h Start s r run other w = w
kept_at allows m c h (Help help) s r run other w = (help_keeps allows help c h s r run other w.0, w.1, filled_more c h r m.scx.0 m.call m.update (takes_by_others c.layout c.pass m.scx.0 h r run.lawful other) (own_words_unfilled c.layout h r c.pass m.scx.0 run.lawful other w.2.own) w.2)
kept_at allows m c h AtPlan s r run other w = record { fills = fills_kept allows m c h AtPlan r run other w.fills; asked = w.asked }
kept_at allows m c h AtNew s r run other w = record { fills = fills_kept allows m c h AtNew r run other w.fills; asked = w.asked }
kept_at allows m c h AtOld s r run other w = record { fills = fills_kept allows m c h AtOld r run other w.fills; asked = w.asked }
kept_at allows m c h (AtMember j) s r run other w = record { fills = fills_kept allows m c h (AtMember j) r run other w.fills; asked = w.asked }
kept_at allows m c h (AtSeen j) s r run other w = record { fills = fills_kept allows m c h (AtSeen j) r run other w.fills; asked = w.asked }
kept_at allows m c h AtCall s r run other w = record { fills = fills_kept allows m c h AtCall r run other w.fills; asked = w.asked }

-- rows of other passes leave a run of SCX waiting for the same step
pub scx_keeps : (allows : Layout → History → ℕ → Type 0) (m : ScxRun) (c : Call) (h : History) (s : Step) (r : Row) → IsRun allows c.layout (r ⊳ h) → r.pass.0 ≢ c.pass → ScxWaits allows m c h s → ScxWaits allows m c (r ⊳ h) s
scx_keeps allows m c h s r run other w = kept_at allows (job_of m) c h m.at s r run other w

-- Its own fills

-- the fields of a snapshot are named
old_named : (allows : Layout → History → ℕ → Type 0) (c : Call) (h : History) (m : Job) → InHand allows c.layout c.pass h m → (j : ℕ) → j < length m.update.snaps → (side : Side) → IsInField c.layout h (child_of (snap_at m.update.snaps j) side).0
old_named allows c h m x j i side =
    let y = x.linked j i in
    inr ((snap_at m.update.snaps j).node.0, side, in_field_named (snap_at m.update.snaps j).node.0 y.in_field, y.had side)

-- the pass may fill each word as it is wanted
may_fill : (allows : Layout → History → ℕ → Type 0) (c : Call) (h : History) (m : Job) (at : ScxAt) → Fills allows c h m at → MayFill c.layout h c.pass (scx m.scx.0 (part_at at)) (wanted m (part_at at))
may_fill allows c h m at x = go at x.within
  where
    old_in_field : IsInField c.layout h m.update.old.0
    old_in_field = rw x.hand.update.old (old_named allows c h m x.hand (field_of m.update.plan.0) (rw x.hand.update.count at x.hand.update.planned.field) (side_of m.update.plan.0))

    go : (at : ScxAt) → IsWithin (length m.update.snaps) at → MayFill c.layout h c.pass (scx m.scx.0 (part_at at)) (wanted m (part_at at))
    go AtNew i = (x.hand.is_open, λ o. o.is_other (one_node_owner c.layout o.pass c.pass m.update.fresh.0 o.owns x.hand.fresh))
    go AtOld i = (x.hand.is_open, λ o. old_in_field)
    go (AtMember j) i = (x.hand.is_open, λ o. (x.hand.linked (member_index j) i).in_field)
    go (AtSeen j) i = (x.hand.is_open, λ o. ((snap_at m.update.snaps (member_index j)).node.0, (x.hand.linked (member_index j) i).held))
    go AtCall i = x.hand.is_open
    go _ i = x.hand.is_open

part_inside : (at : ScxAt) → IsScxWord (part_at at)
part_inside (AtMember j) = index_small j
part_inside (AtSeen j) = index_small j
part_inside _ = tt

-- each word that a run fills is one that is filled at all
pub part_fill : (at : ScxAt) → IsScxFill (part_at at)
part_fill (AtMember j) = tt
part_fill (AtSeen j) = tt
part_fill _ = tt

fill_lawful : (allows : Layout → History → ℕ → Type 0) (m : Job) (c : Call) (h : History) (at : ScxAt) (s : Step) → IsRun allows c.layout h → FillWaits allows c h m at s → IsRun allows c.layout (row_of c s h ⊳ h)
fill_lawful allows m c h at s run w = rw w.asked record { lawful = x; shaped = shaped_more allows c.layout h (row_of c (fill_step m (part_at at)) h) x run.shaped (λ u f g. absurd (let e = g.kind in cc)) }
  where
    x : Lawful c.layout (row_of c (fill_step m (part_at at)) h ⊳ h)
    x = lawful_more c.layout h (row_of c (fill_step m (part_at at)) h) run.lawful record { before = refl; obeys = may_fill allows c h m at w.fills; pass = c.is_pass; word = (own_scx_inside c.layout c.pass m.scx.0 c.is_pass w.fills.hand.is_open.own, part_inside at) }

lawful_at : (allows : Layout → History → ℕ → Type 0) (m : Job) (c : Call) (h : History) (at : ScxAt) (s : Step) → IsRun allows c.layout h → ScxWaitsAt allows c h m at s → IsRun allows c.layout (row_of c s h ⊳ h)
lawful_at allows m c h Start s run w = absurd w
lawful_at allows m c h (Help help) s run w = help_lawful allows help c h s run w.0
lawful_at allows m c h AtPlan s run w = fill_lawful allows m c h AtPlan s run w
lawful_at allows m c h AtNew s run w = fill_lawful allows m c h AtNew s run w
lawful_at allows m c h AtOld s run w = fill_lawful allows m c h AtOld s run w
lawful_at allows m c h (AtMember j) s run w = fill_lawful allows m c h (AtMember j) s run w
lawful_at allows m c h (AtSeen j) s run w = fill_lawful allows m c h (AtSeen j) s run w
lawful_at allows m c h AtCall s run w = fill_lawful allows m c h AtCall s run w

-- the step that a run of SCX waits for continues the run:
-- it is lawful, and begins only what is allowed
pub scx_lawful : (allows : Layout → History → ℕ → Type 0) (m : ScxRun) (c : Call) (h : History) (s : Step) → IsRun allows c.layout h → ScxWaits allows m c h s → IsRun allows c.layout (row_of c s h ⊳ h)
scx_lawful allows m c h s run w = lawful_at allows (job_of m) c h m.at s run w
