-- What a call of a map puts in is fresh to it: what its steps store into fields and into `new`, and
-- the new node of what they begin, was not taken as the call began.
use Rattle.std.proofs.Common.{◌≡◌, ◌≢◌, ◌⊎◌, ℕ, inl, inr, sym, ◌∙◌, ap, subst, arith}
use native.Mathlib.Decide.{ℕ_discrete}
use Rattle.histories.specs.Common.{Layout, Kind, Freeze, Update as UpdateKind, LoadSettled, NodeWord, Child, Info, Side, ScxWord, State, Plan, New, Old, Member, Seen, Word, Node, Scx, Row, Step, History, ◌⊳◌, Extends, value, child, info, member, new, scx, state, member_index, word_after, IsInField, IsOwnScx, IsTakenNode, IsTakenScx, IsBegin, Lawful, Call, begun_at, row_of}
use Rattle.histories.specs.Common.{Fill as FillKind}
use Rattle.arena.specs.declared.word.ScxWord.TheVariants.{Call as CallWord}
use Rattle.arena.proofs.Lemmas.{value_at}
use Rattle.histories.proofs.Lemmas.{Effect, Facts, begins_once, effect, facts_before, freeze, freeze_in_progress, lawful_row, lawful_tail, planned_taken, quiet, update}
use Rattle.help.specs.Laws.Help.Lawful.{help_fills_not}
use Rattle.ordered_map.specs.TreeShape.{TreeAllows}
use Rattle.prims.proofs.Lemmas.{llx_fills_not, taken_node_since}
use Rattle.prims.specs.Moments.{AreFinished}
use Rattle.prims.specs.Scx.Known.{fill_step, job_of, ScxWaitsAt}
use Rattle.prims.specs.declared.scx.ScxAt.{ScxAt}
use Rattle.prims.specs.declared.scx.ScxAt.TheVariants as at_scx
use Rattle.prims.specs.declared.scx.ScxRun.{ScxRun}
use Rattle.template.specs.Common.{Rule}
use Rattle.template.specs.declared.walk.Found.{Found}
use Rattle.template.proofs.Lemmas.{walk_fills_not}
use Rattle.tree.specs.declared.key_edit.KeyEdit.{KeyEdit}
use Rattle.edits.specs.Known.{IsNeeded, Scxs, piece_fill_step, piece_here, top, UpdateWaitsAt, UpdateWaits}
use Rattle.edits.specs.Laws.Hand.{FieldMay, IsForField}
use Rattle.edits.specs.Pieces.{nth_node, word_of}
use Rattle.edits.specs.declared.edit.Nth.{Nth}
use Rattle.edits.specs.declared.update.UpdateAt.{UpdateAt}
use Rattle.edits.specs.declared.update.UpdateAt.TheVariants.{Start, Walk, Guard, Look, Read, Fill, Scx as AtScx}
use Rattle.edits.specs.declared.update.UpdateRun.{UpdateRun}
use Rattle.edits.proofs.Lemmas.{hand_is}
use Rattle.order.specs.Laws.Run.{read_fills_not}
use Rattle.dict.specs.Inner.{GoalBy, InnerRun, Update, Get, Read as InnerRead, edit_means, inner}
use Rattle.dict.specs.Known.{WaitsInside}
use Rattle.touching.specs.Steps.{IsMapStep, PutsInFresh}
use Rattle.touching.proofs.Updating.{try_since}

-- What begins

-- it is taken, and not finished
record IsAboutToBegin (h : History) (s : ℕ) : Type 0 where
  taken : IsTakenScx h s
  unfinished : value h (state s) ≡ 0

about_to_begin : (lay : Layout) (h : History) (r : Row) (s : ℕ) → Lawful lay (r ⊳ h) → IsBegin h r s → IsAboutToBegin h s
about_to_begin lay h r s l g = go (effect lay h r l)
  where
    f : Facts lay h
    f = facts_before lay h r l

    go : Effect lay h r → IsAboutToBegin h s
    go (quiet k) = absurd (g.changed ((lawful_row lay h r l).before ∙ ap (value h) g.word ∙ sym (k.info (member h s 0)) ∙ value_at r h (info (member h s 0)) g.word))
    go (update u w) = absurd (let z : Freeze ≡ UpdateKind = sym g.kind ∙ w.kind in cc)
    go (freeze u j w) = subst (IsAboutToBegin h) (sym w.stored ∙ g.stored) record { taken = planned_taken lay h u (lawful_tail lay h r l) (let i = w.freeze.within in omega (arith, i)); unfinished = freeze_in_progress f w }

module _ (c : Call) (h : History) (s : Step) (l : Lawful c.layout (row_of c s h ⊳ h)) (u : ℕ) (g : IsBegin h (row_of c s h) u) where
  own : IsOwnScx c.layout c.pass u
  own = (begins_once c.layout h (row_of c s h) u l g).own

  -- so not all others are finished
  none_other : (v : ℕ) → AreFinished c.layout c.pass v h → u ≢ v → ⊥
  none_other v over d = let x = about_to_begin c.layout h (row_of c s h) u l g in over u own d x.taken x.unfinished

  not_at_rest : AreFinished c.layout c.pass 0 h → ⊥
  not_at_rest over = none_other 0 over (λ e. let a = own.from in omega (arith, a, e))

  of_kind : (k : Kind) → s.kind ≡ k → (k ≢ Freeze) → ⊥
  of_kind k e d = d (sym e ∙ g.kind)

-- Which word it is

abbrev node_part : Word → NodeWord
node_part (Node n part) = part
node_part (Scx s part) = Info

abbrev scx_part : Word → ScxWord
scx_part (Scx s part) = part
scx_part (Node n part) = State

-- what the step stores
abbrev stored : Step → History → ℕ
stored s h = word_after s.access (value h s.word)

-- An update, in the try that began at the moment `begin`

module _ (m : UpdateRun (KeyEdit GoalBy Rule) UpdateAt) (c : Call) (begin h : History) (since : Extends begin c.start) (s : Step) where
  abbrev try : Call
  try = begun_at c begin

  -- what was not taken as the try began was not as the call did
  earlier : (n : ℕ) → ¬ IsTakenNode begin n → ¬ IsTakenNode c.start n
  earlier n free t = free (taken_node_since begin c.start n since t)

  -- A field

  abbrev FieldIsFresh : Type 0
  FieldIsFresh = (n : ℕ) (side : Side) → s.kind ≡ FillKind → s.word ≡ child n side → IsInField c.layout h (stored s h) ⊎ ¬ IsTakenNode c.start (stored s h)

  module _ (f : Found) (nth : Nth) (part : NodeWord) where
    abbrev v : ℕ
    v = word_of (piece_here edit_means m f nth) part

    fill_is_fresh : UpdateWaitsAt edit_means m try h s (Fill f nth part) → FieldIsFresh
    fill_is_fresh k n side kind word = subst (λ (q : Step). IsInField c.layout h (stored q h) ⊎ ¬ IsTakenNode c.start (stored q h)) (sym k.3) (go (subst (λ p. FieldMay p (IsForField c.layout h m.nodes.first.0 (top m) v)) is_field k.1))
      where
        is_field : part ≡ Child side
        is_field = ap node_part (sym (ap (λ (q : Step). q.word) k.3) ∙ word)

        go : IsForField c.layout h m.nodes.first.0 (top m) v → IsInField c.layout h v ⊎ ¬ IsTakenNode c.start v
        go (inr y) = inl y
        go (inl y) =
            let i : (i : Nth) × IsNeeded m.work.need i × ((nth_node m.nodes i).0 ≡ v) = hand_is m.work.need m.nodes v k.0.works.in_order y.0 y.1 in
            inr (earlier v (subst (λ x. ¬ IsTakenNode begin x) i.2 (k.0.works.untaken i.0 i.1)))

  field_at : (at : UpdateAt) → UpdateWaitsAt edit_means m try h s at → FieldIsFresh
  field_at Start k = absurd k
  field_at (Walk walk) k = λ n side kind word. absurd (walk_fills_not walk try h s k.1 kind)
  field_at (Guard walk head llx) k = λ n side kind word. absurd (llx_fills_not TreeAllows llx (begun_at c k.0) h s k.2 kind)
  field_at (Look f llx) k = λ n side kind word. absurd (llx_fills_not TreeAllows llx (begun_at c k.0) h s k.2 kind)
  field_at (Read f n part) k = λ n side kind word. absurd (let e : LoadSettled ≡ FillKind = sym (ap (λ (q : Step). q.kind) k.1) ∙ kind in cc)
  field_at (Fill f nth part) k = fill_is_fresh f nth part k
  field_at (AtScx f run) k = λ n side kind word. absurd (go run.at k.2 n side kind word)
    where
      go : (at : ScxAt) → ScxWaitsAt TreeAllows (begun_at c k.0) h (job_of run) at s → (n : ℕ) (side : Side) → s.kind ≡ FillKind → s.word ≡ child n side → ⊥
      go at_scx.Start x n side kind word = absurd x
      go (at_scx.Help help) x n side kind word = help_fills_not TreeAllows help (begun_at c k.0) h s x.0 kind
      go at_scx.Plan x n side kind word = let e : scx run.scx.0 Plan ≡ child n side = sym (ap (λ (q : Step). q.word) x.asked) ∙ word in cc
      go at_scx.New x n side kind word = let e : scx run.scx.0 New ≡ child n side = sym (ap (λ (q : Step). q.word) x.asked) ∙ word in cc
      go at_scx.Old x n side kind word = let e : scx run.scx.0 Old ≡ child n side = sym (ap (λ (q : Step). q.word) x.asked) ∙ word in cc
      go (at_scx.Member i) x n side kind word = let e : scx run.scx.0 (Member (member_index i)) ≡ child n side = sym (ap (λ (q : Step). q.word) x.asked) ∙ word in cc
      go (at_scx.Seen i) x n side kind word = let e : scx run.scx.0 (Seen (member_index i)) ≡ child n side = sym (ap (λ (q : Step). q.word) x.asked) ∙ word in cc
      go at_scx.Call x n side kind word = let e : scx run.scx.0 CallWord ≡ child n side = sym (ap (λ (q : Step). q.word) x.asked) ∙ word in cc

  -- The word `new`

  abbrev NewIsFresh : Type 0
  NewIsFresh = (t : ℕ) → s.kind ≡ FillKind → s.word ≡ scx t New → ¬ IsTakenNode c.start (stored s h)

  scx_is_fresh : (f : Found) (run : ScxRun) (b : History) → Scxs edit_means m try h f run b → (at : ScxAt) → ScxWaitsAt TreeAllows (begun_at c b) h (job_of run) at s → NewIsFresh
  scx_is_fresh f run b x at w t kind word = go at w
    where
      other : (part : ScxWord) → s ≡ fill_step (job_of run) part → part ≡ New
      other part is = ap scx_part (sym (ap (λ (q : Step). q.word) is) ∙ word)

      go : (at : ScxAt) → ScxWaitsAt TreeAllows (begun_at c b) h (job_of run) at s → ¬ IsTakenNode c.start (stored s h)
      go at_scx.Start y = absurd y
      go (at_scx.Help help) y = absurd (help_fills_not TreeAllows help (begun_at c b) h s y.0 kind)
      go at_scx.Plan y = absurd (let e : Plan ≡ New = other Plan y.asked in cc)
      go at_scx.New y = subst (λ (q : Step). ¬ IsTakenNode c.start (stored q h)) (sym y.asked) (earlier run.update.fresh.0 x.untaken)
      go at_scx.Old y = absurd (let e : Old ≡ New = other Old y.asked in cc)
      go (at_scx.Member i) y = absurd (let e : Member (member_index i) ≡ New = other (Member (member_index i)) y.asked in cc)
      go (at_scx.Seen i) y = absurd (let e : Seen (member_index i) ≡ New = other (Seen (member_index i)) y.asked in cc)
      go at_scx.Call y = absurd (let e : CallWord ≡ New = other CallWord y.asked in cc)

  new_at : (at : UpdateAt) → UpdateWaitsAt edit_means m try h s at → NewIsFresh
  new_at Start k = absurd k
  new_at (Walk walk) k = λ t kind word. absurd (walk_fills_not walk try h s k.1 kind)
  new_at (Guard walk head llx) k = λ t kind word. absurd (llx_fills_not TreeAllows llx (begun_at c k.0) h s k.2 kind)
  new_at (Look f llx) k = λ t kind word. absurd (llx_fills_not TreeAllows llx (begun_at c k.0) h s k.2 kind)
  new_at (Read f n part) k = λ t kind word. absurd (let e : LoadSettled ≡ FillKind = sym (ap (λ (q : Step). q.kind) k.1) ∙ kind in cc)
  new_at (Fill f nth part) k = λ t kind word. absurd (let e : (piece_fill_step edit_means m f nth part).word ≡ scx t New = sym (ap (λ (q : Step). q.word) k.3) ∙ word in cc)
  new_at (AtScx f run) k = scx_is_fresh f run k.0 k.1 run.at k.2

  -- What it begins

  module _ (l : Lawful c.layout (row_of c s h ⊳ h)) (u : ℕ) (g : IsBegin h (row_of c s h) u) where
    own_begins : (f : Found) (run : ScxRun) (b : History) → Scxs edit_means m try h f run b → (at : ScxAt) → ScxWaitsAt TreeAllows (begun_at c b) h (job_of run) at s → u ≡ run.scx.0 → ¬ IsTakenNode c.start (new h u)
    own_begins f run b x at w is = go at w
      where
        fills : (part : ScxWord) → s ≡ fill_step (job_of run) part → ⊥
        fills part e = of_kind c h s l u g FillKind (ap (λ (q : Step). q.kind) e) (λ z. cc)

        go : (at : ScxAt) → ScxWaitsAt TreeAllows (begun_at c b) h (job_of run) at s → ¬ IsTakenNode c.start (new h u)
        go at_scx.Start y = absurd y
        go (at_scx.Help help) y = earlier (new h u) (subst (λ n. ¬ IsTakenNode begin n) (sym (ap (new h) is ∙ y.2.fresh)) x.untaken)
        go at_scx.Plan y = absurd (fills Plan y.asked)
        go at_scx.New y = absurd (fills New y.asked)
        go at_scx.Old y = absurd (fills Old y.asked)
        go (at_scx.Member i) y = absurd (fills (Member (member_index i)) y.asked)
        go (at_scx.Seen i) y = absurd (fills (Seen (member_index i)) y.asked)
        go at_scx.Call y = absurd (fills CallWord y.asked)

    begins_at : (at : UpdateAt) → UpdateWaitsAt edit_means m try h s at → ¬ IsTakenNode c.start (new h u)
    begins_at Start k = absurd k
    begins_at (Walk walk) k = absurd (not_at_rest c h s l u g k.0.rests.over)
    begins_at (Guard walk head llx) k = absurd (not_at_rest c h s l u g k.1.rests.over)
    begins_at (Look f llx) k = absurd (not_at_rest c h s l u g k.1.rests.over)
    begins_at (Read f n part) k = absurd (of_kind c h s l u g LoadSettled (ap (λ (q : Step). q.kind) k.1) (λ z. cc))
    begins_at (Fill f nth part) k = absurd (of_kind c h s l u g FillKind (ap (λ (q : Step). q.kind) k.3) (λ z. cc))
    begins_at (AtScx f run) k = go (ℕ_discrete u run.scx.0)
      where
        go : Dec (u ≡ run.scx.0) → ¬ IsTakenNode c.start (new h u)
        go (yes e) = own_begins f run k.0 k.1 run.at k.2 e
        go (no d) = absurd (none_other c h s l u g run.scx.0 k.1.over d)

update_puts : (m : UpdateRun (KeyEdit GoalBy Rule) UpdateAt) (c : Call) (h : History) (s : Step) → Lawful c.layout (row_of c s h ⊳ h) → UpdateWaits edit_means m c h s → PutsInFresh c h (row_of c s h)
update_puts m c h s l w = record { field = field_at m c w.0 h since s m.at w.3; stored = new_at m c w.0 h since s m.at w.3; begun = λ u g. begins_at m c w.0 h since s l u g m.at w.3 }
  where
    since : Extends w.0 c.start
    since = try_since edit_means m c w.0 h m.at w.1

inside_puts : (m : InnerRun) (c : Call) (h : History) (s : Step) → Lawful c.layout (row_of c s h ⊳ h) → WaitsInside m c h s → PutsInFresh c h (row_of c s h)
inside_puts (Update m) c h s l w = update_puts m c h s l w
inside_puts (Get key walk share) c h s l w = record {
  field = λ n side kind word. absurd (walk_fills_not walk c h s w.0.0 kind);
  stored = λ t kind word. absurd (walk_fills_not walk c h s w.0.0 kind);
  begun = λ u g. absurd (not_at_rest c h s l u g w.1.now.over);
}
inside_puts (InnerRead k m share) c h s l w = record {
  field = λ n side kind word. absurd (read_fills_not k.means m c h s w.0 kind);
  stored = λ t kind word. absurd (read_fills_not k.means m c h s w.0 kind);
  begun = λ u g. absurd (not_at_rest c h s l u g w.1.now.over);
}

pub row_puts : (c : Call) (h : History) (r : Row) → Lawful c.layout (r ⊳ h) → IsMapStep c h r → PutsInFresh c h r
row_puts c h r l x = subst (PutsInFresh c h) (sym x.is) (inside_puts (inner x.machine) c h x.step (subst (λ (q : Row). Lawful c.layout (q ⊳ h)) x.is l) x.waits.1)
