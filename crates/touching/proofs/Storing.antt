-- What a call of a map stores in a `v` word was unmarked at a moment of the call; so a pass that
-- rested between two calls has since begun no SCX-record over what was marked then.
use Rattle.std.proofs.Common.{◌≡◌, ◌≢◌, ◌<◌, ◌⊎◌, ℕ, Bool, true, false, inl, inr, length, refl, sym, ◌∙◌, ap, subst}
use Rattle.histories.specs.Common.{Layout, Kind, MemberIndex, ScxWord, AllFrozen, State, Plan, New, Old, Member, Seen, Word, Node, Scx, Row, Step, LoadSettled, History, Opened, ◌⊳◌, Extends, value, marked, info, field, member, node, scx, state, member_index, same_word, word_after, IsOwnScx, IsTakenScx, IsMember, IsInProgress, MayFill, Obeys, Lawful, Call, begun_at}
use Rattle.histories.specs.Common.{Fill as FillKind}
use Rattle.arena.specs.declared.word.ScxWord.TheVariants.{Call as CallWord}
use Rattle.arena.proofs.Lemmas.{ends_trans, fill_takes_scx, opening_scx, scx_word_apart, value_apart, value_at, value_quiet, word_same}
use Rattle.histories.proofs.Lemmas.{Change, aborts, change, commits, fills_node, fills_scx, freezes, lawful_row, lawful_since, lawful_tail, marks, nothing, one_scx_owner, sets_frozen, updates}
use Rattle.help.specs.Laws.Help.Lawful.{help_fills_not}
use Rattle.ordered_map.specs.TreeShape.{TreeAllows}
use Rattle.prims.proofs.Lemmas.{llx_fills_not}
use Rattle.prims.specs.Laws.InTheWay.{HasBeen}
use Rattle.prims.specs.Scx.Known.{fill_step, job_of, ScxWaitsAt}
use Rattle.prims.specs.declared.scx.ScxAt.{ScxAt}
use Rattle.prims.specs.declared.scx.ScxAt.TheVariants as at_scx
use Rattle.prims.specs.declared.scx.ScxRun.{ScxRun}
use Rattle.template.specs.Common.{Rule}
use Rattle.template.specs.declared.walk.Found.{Found}
use Rattle.template.proofs.Lemmas.{walk_fills_not}
use Rattle.tree.specs.declared.key_edit.KeyEdit.{KeyEdit}
use Rattle.edits.specs.Known.{piece_fill_step, UpdateWaitsAt, UpdateWaits}
use Rattle.edits.specs.declared.update.UpdateAt.{UpdateAt}
use Rattle.edits.specs.declared.update.UpdateAt.TheVariants.{Start, Walk, Guard, Look, Read, Fill, Scx as AtScx}
use Rattle.edits.specs.declared.update.UpdateRun.{UpdateRun}
use Rattle.order.specs.Laws.Run.{read_fills_not}
use Rattle.dict.specs.Inner.{GoalBy, InnerRun, Update, Get, Read as InnerRead, edit_means, inner}
use Rattle.dict.specs.Known.{WaitsInside}
use Rattle.touching.specs.Rests.{HasRestedSince}
use Rattle.touching.specs.Steps.{IsMapStep, StoresUnmarked, IsStepSince, HasPaused}
use Rattle.touching.specs.Unmarked.{WasUnmarked}
use Rattle.touching.proofs.Moments.{taken_scx_since}
use Rattle.touching.proofs.Present.{one_first}
use Rattle.touching.proofs.Updating.{try_since, unmarked_by}

-- what a fill of a `v` word stores was unmarked in the call
abbrev StepStores : Call → History → Step → Type 0
StepStores c h s = (t j : ℕ) → s.kind ≡ FillKind → s.word ≡ scx t (Member j) → WasUnmarked c h (word_after s.access (value h s.word))

-- which word of an SCX-record it is
abbrev part_of : Word → ScxWord
part_of (Scx s part) = part
part_of (Node n part) = State

module _ (m : UpdateRun (KeyEdit GoalBy Rule) UpdateAt) (c : Call) (begin h : History) (since : Extends begin c.start) (s : Step) where
  abbrev try : Call
  try = begun_at c begin

  scx_stores : (f : Found) (own : ScxRun) → UpdateWaitsAt edit_means m try h s (AtScx f own) → StepStores c h s
  scx_stores f own k t j kind word = go own.at k.2
    where
      stored : (i : MemberIndex) → member_index i < length own.update.snaps → s ≡ fill_step (job_of own) (Member (member_index i)) → WasUnmarked c h (word_after s.access (value h s.word))
      stored i few is = subst (λ (q : Step). WasUnmarked c h (word_after q.access (value h q.word))) (sym is) (unmarked_by edit_means m c begin h since s f own k (member_index i) few)

      other : (part : ScxWord) → s ≡ fill_step (job_of own) part → part ≡ Member j
      other part is = ap part_of (sym (ap (λ (q : Step). q.word) is) ∙ word)

      go : (at : ScxAt) → ScxWaitsAt TreeAllows (begun_at try k.0) h (job_of own) at s → WasUnmarked c h (word_after s.access (value h s.word))
      go at_scx.Start x = absurd x
      go at_scx.Plan x = absurd (let e : Plan ≡ Member j = other Plan x.asked in cc)
      go at_scx.New x = absurd (let e : New ≡ Member j = other New x.asked in cc)
      go at_scx.Old x = absurd (let e : Old ≡ Member j = other Old x.asked in cc)
      go (at_scx.Member i) x = stored i x.fills.within x.asked
      go (at_scx.Seen i) x = absurd (let e : Seen (member_index i) ≡ Member j = other (Seen (member_index i)) x.asked in cc)
      go at_scx.Call x = absurd (let e : CallWord ≡ Member j = other CallWord x.asked in cc)
      go (at_scx.Help help) x = absurd (help_fills_not TreeAllows help (begun_at try k.0) h s x.0 kind)

  stores_at : (at : UpdateAt) → UpdateWaitsAt edit_means m try h s at → StepStores c h s
  stores_at Start k = absurd k
  stores_at (Walk walk) k = λ t j kind word. absurd (walk_fills_not walk try h s k.1 kind)
  stores_at (Guard walk head llx) k = λ t j kind word. absurd (llx_fills_not TreeAllows llx (begun_at try k.0) h s k.2 kind)
  stores_at (Look f llx) k = λ t j kind word. absurd (llx_fills_not TreeAllows llx (begun_at try k.0) h s k.2 kind)
  stores_at (Read f n part) k = λ t j kind word. absurd (let e : LoadSettled ≡ FillKind = sym (ap (λ (q : Step). q.kind) k.1) ∙ kind in cc)
  stores_at (Fill f nth part) k = λ t j kind word. absurd (let e : (piece_fill_step edit_means m f nth part).word ≡ scx t (Member j) = sym (ap (λ (q : Step). q.word) k.3) ∙ word in cc)
  stores_at (AtScx f run) k = scx_stores f run k

update_stores : (m : UpdateRun (KeyEdit GoalBy Rule) UpdateAt) (c : Call) (h : History) (s : Step) → UpdateWaits edit_means m c h s → StepStores c h s
update_stores m c h s w = stores_at m c w.0 h (try_since edit_means m c w.0 h m.at w.1) s m.at w.3

inside_stores : (m : InnerRun) (c : Call) (h : History) (s : Step) → WaitsInside m c h s → StepStores c h s
inside_stores (Update m) c h s w = update_stores m c h s w
inside_stores (Get key walk share) c h s w = λ t j kind word. absurd (walk_fills_not walk c h s w.0.0 kind)
inside_stores (InnerRead k m share) c h s w = λ t j kind word. absurd (read_fills_not k.means m c h s w.0 kind)

pub row_stores : (c : Call) (h : History) (r : Row) → IsMapStep c h r → StoresUnmarked c h r
row_stores c h r x s j kind word =
    subst (λ (q : Row). WasUnmarked c h q.after) (sym x.is)
    (inside_stores (inner x.machine) c h x.step x.waits.1 s j (sym (ap (λ (q : Row). q.kind) x.is) ∙ kind) (sym (ap (λ (q : Row). q.word) x.is) ∙ word))

-- the row that has filled a `v` word which is not 0
record IsFilled (h : History) (s j n : ℕ) : Type 0 where
  row : Row
  before : History
  within : Extends h (row ⊳ before)
  kind : row.kind ≡ FillKind
  word : row.word ≡ scx s (Member j)
  after : row.after ≡ n

filled : (lay : Layout) (h : History) (s j n : ℕ) → Lawful lay h → member h s j ≡ n → n ≢ 0 → IsFilled h s j n
filled lay (Opened o) s j n l e d = absurd (d (sym e ∙ opening_scx o s (Member j) refl))
filled lay (r ⊳ h) s j n l e d = go (change lay h r l) (λ same. more (filled lay h s j n (lawful_tail lay h r l) (sym same ∙ e) d))
  where
    more : IsFilled h s j n → IsFilled (r ⊳ h) s j n
    more x = record { row = x.row; before = x.before; within = inr x.within; kind = x.kind; word = x.word; after = x.after }

    by_fill : (t : ℕ) (part : ScxWord) → r.kind ≡ FillKind → r.word ≡ scx t part → (b : Bool) → same_word (scx t part) (scx s (Member j)) ≡ b → (member (r ⊳ h) s j ≡ member h s j → IsFilled (r ⊳ h) s j n) → IsFilled (r ⊳ h) s j n
    by_fill t part k w true q before =
        let here : r.word ≡ scx s (Member j) = w ∙ word_same (scx t part) (scx s (Member j)) q in
        record { row = r; before = h; within = inl refl; kind = k; word = here; after = sym (value_at r h (scx s (Member j)) here) ∙ e }
    by_fill t part k w false q before = before (value_apart r h (scx t part) (scx s (Member j)) w q)

    go : Change lay h r → (member (r ⊳ h) s j ≡ member h s j → IsFilled (r ⊳ h) s j n) → IsFilled (r ⊳ h) s j n
    go (nothing i a) before = before (value_quiet r h (lawful_row lay h r l).before a (scx s (Member j)))
    go (fills_node m part x) before = before (value_apart r h (node m part) (scx s (Member j)) x.word refl)
    go (fills_scx t part x) before = by_fill t part x.kind x.word (same_word (scx t part) (scx s (Member j))) refl before
    go (freezes t i w) before = before (value_apart r h (info (member h t i)) (scx s (Member j)) w.freeze.word refl)
    go (sets_frozen t k x) before = before (value_apart r h (scx t AllFrozen) (scx s (Member j)) x.word (scx_word_apart t s AllFrozen (Member j) refl))
    go (marks t i k x) before = before (value_apart r h (marked (member h t i)) (scx s (Member j)) x.word refl)
    go (updates t w) before = before (value_apart r h (field h t) (scx s (Member j)) w.update.word refl)
    go (commits t k x) before = before (value_apart r h (state t) (scx s (Member j)) x.word (scx_word_apart t s State (Member j) refl))
    go (aborts t i k x) before = before (value_apart r h (state t) (scx s (Member j)) x.word (scx_word_apart t s State (Member j) refl))

-- what a pass may fill is its own
filled_own : (lay : Layout) (h : History) (o s j : ℕ) (r : Row) → Lawful lay (r ⊳ h) → r.kind ≡ FillKind → r.word ≡ scx s (Member j) → IsOwnScx lay o s → r.pass.0 ≡ o
filled_own lay h o s j r l kind word own =
    let any : MayFill lay h r.pass.0 r.word r.after = subst (λ (k : Kind). Obeys lay h r k) kind (lawful_row lay h r l).obeys in
    let may : MayFill lay h r.pass.0 (scx s (Member j)) r.after = subst (λ w. MayFill lay h r.pass.0 w r.after) word any in
    one_scx_owner lay r.pass.0 o s may.0.own own

module _ (lay : Layout) (h start t : History) (n o : ℕ) (l : Lawful lay h) (e : Extends h start) (d : n ≢ 0) (x : HasPaused lay h start t o) where
  unmarked_since : (s : ℕ) (m : History) → IsOwnScx lay o s → ¬ IsTakenScx x.rest s → Extends h m → IsInProgress m s → IsMember m s n → HasBeen m x.rest (λ k. value k (marked n) ≡ 0)
  unmarked_since s m own free within running covers = record {
    moment = u.moment;
    within = ends_trans m (f.row ⊳ f.before) u.moment f.within (inr u.within);
    since = ends_trans u.moment call.call.start x.rest u.since call.since;
    was = subst (λ v. value u.moment (marked v) ≡ 0) f.after u.was;
  }
    where
      lm : Lawful lay m
      lm = lawful_since lay h m l within

      f : IsFilled m s covers.index n
      f = filled lay m s covers.index n lm covers.is d

      here : Extends h (f.row ⊳ f.before)
      here = ends_trans h m (f.row ⊳ f.before) within f.within

      taken : IsTakenScx (f.row ⊳ f.before) s
      taken = fill_takes_scx f.row f.before s (Member covers.index) f.kind f.word

      later : Extends f.before x.rest
      later = go (one_first h (f.row ⊳ f.before) x.rest here (ends_trans h start x.rest e x.within))
        where
          go : Extends (f.row ⊳ f.before) x.rest ⊎ Extends x.rest (f.row ⊳ f.before) → Extends f.before x.rest
          go (inl (inl q)) = absurd (free (subst (λ k. IsTakenScx k s) (sym q) taken))
          go (inl (inr q)) = q
          go (inr q) = absurd (free (taken_scx_since x.rest (f.row ⊳ f.before) s q taken))

      call : IsStepSince lay o x.rest f.before f.row
      call = x.fills f.row f.before here later (filled_own lay f.before o s covers.index f.row (lawful_since lay m (f.row ⊳ f.before) lm f.within) f.kind f.word own) f.kind

      u : WasUnmarked call.call f.before f.row.after
      u = row_stores call.call f.before f.row call.step s covers.index f.kind f.word

  pub paused_rested : HasRestedSince lay h start t n o
  paused_rested = record { rest = x.rest; within = x.within; since = x.since; over = x.over; unmarked = unmarked_since }
