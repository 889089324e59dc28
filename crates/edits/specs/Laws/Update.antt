-- The laws of updates: rows of others leave them waiting, their steps are lawful, and what they
-- get is so.
use Rattle.std.proofs.Common.{◌≡◌, ◌≢◌, ℕ, ◌≤◌, false, Some, None, Option, length, inl, inr, refl, sym, ◌∙◌, ap, subst, arith}
use Rattle.histories.specs.Common.{Layout, Row, Step, Fill as FillKind, LoadSettled, NodeWord, Settled, Child, Info, Marked, NodeNo, SettledPart}
use Rattle.histories.specs.Common.{Head, History, ◌⊳◌, value, IsTakenNode, Word, IsRun, Call, row_of, IsTold, begun_at, taken_nodes, node, Lawful}
use Rattle.arena.proofs.Lemmas.{ends_self, ends_trans, value_quiet}
use Rattle.prims.specs.Laws.Begun.{takes_by_others}
use Rattle.prims.specs.Laws.Linked.{in_field_more}
use Rattle.template.specs.Common.{load, job_of, ScxWaits, LlxRun, ScxRun, TreeAllows, begins_try, WalkKnows, WalkIsReady, WalkWaits, walk_step, IsPastRoot, Goal}
use Rattle.template.specs.declared.walk.Way.{Way}
use Rattle.prims.specs.Llx.Laws.{llx_keeps, llx_lawful, llx_made, load_lawful, load_told}
use Rattle.prims.specs.Scx.Laws.{scx_keeps, scx_lawful}
use Rattle.prims.specs.Laws.Scx.Made.{scx_made}
use Rattle.prims.proofs.Lemmas.{llx_fills_not, over_more, share_by_others, share_by_scx, untaken_at}
use Rattle.prims.specs.Laws.Idle.{idle_if_finished}
use Rattle.template.specs.Walk.Steps.{WalkFitsAt, room}
use Rattle.ordered_map.proofs.MapLemmas.{root_head}
use Rattle.template.specs.Walk.Laws.{walk_keeps, walk_lawful, walk_made, walk_told}
use Rattle.template.proofs.Lemmas.{tracks_by_others, tracks_by_scx, walk_fills_not, others_begin_none, own_begins_none, other_kind_begins_none, other_node_begins_none, llx_begins_none, scx_begins_none, walk_begins_none}
use Rattle.template.specs.declared.walk.Found.{Found}
use Rattle.template.specs.declared.walk.WalkAt.{WalkAt}
use Rattle.template.specs.declared.walk.WalkAt.TheVariants as walks
use Rattle.template.specs.declared.walk.WalkRun.{WalkRun}
use Rattle.edits.specs.declared.edit.Nth.{Nth}
use Rattle.edits.specs.declared.edit.Nth.TheVariants.{First}
use Rattle.edits.specs.declared.piece.Piece.{Piece}
use Rattle.edits.specs.declared.update.UpdateAt.{UpdateAt}
use Rattle.edits.specs.declared.update.UpdateAt.TheVariants.{Start, Walk, Guard, Look, Read, Fill, Scx}
use Rattle.edits.specs.declared.update.UpdateRun.{UpdateRun}
use Rattle.edits.specs.Edits.{EditMeaning}
use Rattle.edits.specs.Steps.{MaySpend, UpdateFitsAt, UpdateFits}
use Rattle.edits.specs.Pieces.{nth_node, word_of}
use Rattle.edits.specs.Known.{RestsWith, IsUntouched, AreFull, Guards, WalksGuarded, Looks, Reads, FillsPiece, Scxs, Walks, WorksAtNode, FirstOrLost, Tries, piece_fill_step, UpdateWaitsAt, UpdateIsToldAt, UpdateWaits, UpdateIsReady, piece, piece_here, top}
use Rattle.edits.specs.Laws.Hand.{HasFilledTo, IsForField, FieldMay, by_others, by_load, blank_by_others, before_by_others, filled_to_more, words_more, taken_now, may_fill}
use Rattle.edits.specs.Laws.Kept.{found_guarded_more, guarded_more, quiet_rests, rests_by_others, rests_by_step, looked_more, may_read_more, read_more, works_more}
use Rattle.edits.specs.Laws.Entered.{none_filled_more, none_joined, none_quiet, only_more}
use Rattle.edits.specs.Laws.NodeFills.{fill_lawful}
use Rattle.edits.specs.Laws.PieceFills.{HoldsBefore, HoldsUpTo, piece_fill}
use Rattle.edits.specs.Laws.Trying.{try_more, try_at_more, try_begins, untouched_later}
use Rattle.edits.specs.Tries.{MayTry, IsTry, IsTryAt}

-- what a field may get it may get after any row
for_field_more : (lay : Layout) (h : History) (r : Row) (first top v : ℕ) → IsForField lay h first top v → IsForField lay (r ⊳ h) first top v
for_field_more lay h r first top v (inl y) = inl y
for_field_more lay h r first top v (inr y) = inr (in_field_more r v y)

field_may_more : (part : NodeWord) (P Q : Type 0) → (P → Q) → FieldMay part P → FieldMay part Q
field_may_more (Child side) P Q f x = f x
field_may_more (Settled p) P Q f x = tt
field_may_more Info P Q f x = tt
field_may_more Marked P Q f x = tt

module _ {E : Type 0} (e : EditMeaning E) where
  -- Rows of other passes

  walks_by_others : (m : UpdateRun E UpdateAt) (c : Call) (h : History) (r : Row) (way : Way) (goal : Goal) → IsRun TreeAllows c.layout (r ⊳ h) → r.pass.0 ≢ c.pass → Walks e m c h way goal → Walks e m c (r ⊳ h) way goal
  walks_by_others m c h r way goal run other x =
      let rests : RestsWith c (r ⊳ h) m.share = rests_by_others c h r m.share run.lawful other x.rests in
      record { small = x.small; may = x.may; rests = rests; quiet = quiet_rests c h r m.share run.lawful rests x.quiet; none_filled = none_filled_more c.pass h r c.start (λ own. absurd (other own)) x.none_filled; same = x.same; same_way = x.same_way }

  looks_by_others : (m : UpdateRun E UpdateAt) (c : Call) (h : History) (r : Row) (f : Found) (llx : LlxRun) (begin : History) → IsRun TreeAllows c.layout (r ⊳ h) → r.pass.0 ≢ c.pass → Looks e m c h f llx begin → Looks e m c (r ⊳ h) f llx begin
  looks_by_others m c h r f llx begin run other x = record {
    run = (x.run.0, run);
    looked = looked_more e c h r m.edit f m.snaps.items x.run run x.looked;
    rests = rests_by_others c h r m.share run.lawful other x.rests;
    asked = x.asked;
    room = x.room;
    named = x.named;
    now = inr x.now;
    quiet = quiet_rests c h r m.share run.lawful (rests_by_others c h r m.share run.lawful other x.rests) x.quiet;
    since = x.since;
    guarded = found_guarded_more e m.edit c h r m.guard f x.run run x.guarded;
  }

  -- what it knows at its guard stays so where it stays at rest, and is filled no more
  guards_more : (m : UpdateRun E UpdateAt) (c : Call) (h : History) (r : Row) (walk : WalkRun) (head : ℕ) (llx : LlxRun) (begin : History) → IsRun TreeAllows c.layout (r ⊳ h) → RestsWith c (r ⊳ h) m.share → (r.pass.0 ≡ c.pass → r.kind ≢ FillKind) → Guards e m c h walk head llx begin → Guards e m c (r ⊳ h) walk head llx begin
  guards_more m c h r walk head llx begin run rests no_fill x = record {
    run = (x.run.0, run);
    small = x.small;
    may = x.may;
    rests = rests;
    quiet = quiet_rests c h r m.share run.lawful rests x.quiet;
    none_filled = none_filled_more c.pass h r c.start no_fill x.none_filled;
    same = x.same;
    same_way = x.same_way;
    asked = x.asked;
    at = x.at;
    root = x.root;
    told = root_head c.layout (r ⊳ h) (x.run.0, run) ∙ sym (root_head c.layout h x.run) ∙ x.told;
    is_two = x.is_two;
    now = inr x.now;
    since = x.since;
  }

  full_by_others : (m : UpdateRun E UpdateAt) (c : Call) (h : History) (r : Row) (f : Found) (nth : Nth) → IsRun TreeAllows c.layout (r ⊳ h) → r.pass.0 ≢ c.pass → HasFilledTo c.layout h c.pass m.share m.nodes.first.0 (top m) (nth_node m.nodes nth).0 (piece e m f) → HasFilledTo c.layout (r ⊳ h) c.pass m.share m.nodes.first.0 (top m) (nth_node m.nodes nth).0 (piece e m f)
  full_by_others m c h r f nth run other x = by_others c.layout h r c.pass m.share m.nodes.first.0 (top m) (piece e m f) c.is_pass run.lawful other (nth_node m.nodes nth).0 x

  works_by_others : (m : UpdateRun E UpdateAt) (c : Call) (h : History) (r : Row) (f : Found) (nth : Nth) → IsRun TreeAllows c.layout (r ⊳ h) → r.pass.0 ≢ c.pass → AreFull e m c h f nth → WorksAtNode e m c h f nth → WorksAtNode e m c (r ⊳ h) f nth
  works_by_others m c h r f nth run other full x = works_more e m c h r f nth run (idle_if_finished c (r ⊳ h) run.lawful (full_by_others m c h r f nth run other full).over) x

  scxs_by_others : (m : UpdateRun E UpdateAt) (c : Call) (h : History) (r : Row) (f : Found) (scx : ScxRun) (begin : History) → IsRun TreeAllows c.layout (r ⊳ h) → r.pass.0 ≢ c.pass → Scxs e m c h f scx begin → Scxs e m c (r ⊳ h) f scx begin
  scxs_by_others m c h r f scx begin run other x = record {
    run = (x.run.0, run);
    small = x.small;
    may = x.may;
    now = inr x.now;
    since = x.since;
    share = share_by_others c.layout h r c.pass m.share m.share.next_node scx.scx.0 run.lawful c.is_pass other x.share;
    next_node = x.next_node;
    next_scx = x.next_scx;
    call = x.call;
    own = x.own;
    own_scx = x.own_scx;
    over = over_more c.layout c.pass scx.scx.0 h r run.lawful (takes_by_others c.layout c.pass scx.scx.0 h r run.lawful other) x.over;
    untaken = x.untaken;
    tracks = tracks_by_others c.layout c.pass h r (job_of scx) (e.edit m.edit f) run.lawful other x.own_scx x.tracks;
    only = only_more c.layout c.pass scx.scx.0 h r c.start run.lawful x.over x.only;
    found = x.found;
    need = x.need;
    usable = x.usable;
    quiet = x.quiet;
    leaf = x.leaf;
    unnamed = x.unnamed;
    guard = x.guard;
    ends = x.ends;
  }

  kept_at : (m : UpdateRun E UpdateAt) (c : Call) (h : History) (s : Step) (r : Row) (at : UpdateAt) → IsRun TreeAllows c.layout (r ⊳ h) → r.pass.0 ≢ c.pass → UpdateWaitsAt e m c h s at → UpdateWaitsAt e m c (r ⊳ h) s at
  kept_at m c h s r Start run other w = w
  kept_at m c h s r (Walk walk) run other w = (
    walks_by_others m c h r walk.way walk.goal run other w.0,
    walk_keeps walk c h s r run other w.1,
    λ past. guarded_more e m.edit c h r m.guard (λ k. WalkWaits walk k h s) (λ k. WalkWaits walk k (r ⊳ h) s) (λ g. walk_keeps walk (begun_at c g) h s r run other) (w.2 past),
  )
  kept_at m c h s r (Guard walk head llx) run other w = (w.0, guards_more m c h r walk head llx w.0 run (rests_by_others c h r m.share run.lawful other w.1.rests) (λ own. absurd (other own)) w.1, llx_keeps TreeAllows llx (begun_at c w.0) h s r run other w.2)
  kept_at m c h s r (Look f llx) run other w = (w.0, looks_by_others m c h r f llx w.0 run other w.1, llx_keeps TreeAllows llx (begun_at c w.0) h s r run other w.2)
  kept_at m c h s r (Read f n part) run other w = (
    record {
      works = works_by_others m c h r f First run other w.0.full w.0.works;
      full = full_by_others m c h r f First run other w.0.full;
      hand = w.0.hand;
      blank = blank_by_others c.layout h r c.pass m.share m.nodes.first.0 (top m) (piece e m f) c.is_pass run.lawful other m.nodes.first.0 w.0.full.hand w.0.hand.lowest w.0.hand.highest w.0.blank;
      from = w.0.from;
      is = w.0.is;
      read = may_read_more c h r n.0 m.read run.lawful w.0.read;
      next = w.0.next;
    },
    w.1,
  )
  kept_at m c h s r (Fill f nth part) run other w = (
    record {
      works = works_by_others m c h r f nth run other w.0.full w.0.works;
      full = full_by_others m c h r f nth run other w.0.full;
      hand = w.0.hand;
      read = read_more c h r (e.reads m.edit f m.snaps.items) m.read run.lawful w.0.read;
      whole = w.0.whole;
      part_is = w.0.part_is;
    },
    field_may_more part _ _ (for_field_more c.layout h r m.nodes.first.0 (top m) (word_of (piece_here e m f nth) part)) w.1,
    before_by_others c.layout h r c.pass m.share m.nodes.first.0 (top m) (piece e m f) c.is_pass run.lawful other (nth_node m.nodes nth).0 (piece_here e m f nth) part w.0.full.hand w.0.hand.lowest w.0.hand.highest w.2,
    w.3,
  )
  kept_at m c h s r (Scx f scx) run other w = (w.0, scxs_by_others m c h r f scx w.0 run other w.1, scx_keeps TreeAllows scx (begun_at c w.0) h s r run other w.2)

  -- a row that begins no try leaves its try the newest
  tries_more : (m : UpdateRun E UpdateAt) (c : Call) (b h : History) (r : Row) (at : UpdateAt) → begins_try c.pass r ≡ false → Tries e m c b h at → Tries e m c b (r ⊳ h) at
  tries_more m c b h r Start none x = try_more c b h r m.limit m.tries none x
  tries_more m c b h r (Walk walk) none x = try_at_more c b h r m.limit m.tries none walk.at x
  tries_more m c b h r (Guard walk head llx) none x = try_more c b h r m.limit m.tries none x
  tries_more m c b h r (Look f llx) none x = try_more c b h r m.limit m.tries none x
  tries_more m c b h r (Read f n part) none x = try_more c b h r m.limit m.tries none x
  tries_more m c b h r (Fill f nth part) none x = try_more c b h r m.limit m.tries none x
  tries_more m c b h r (Scx f scx) none x = try_more c b h r m.limit m.tries none x

  -- rows of other passes leave an update waiting for the same step
  pub update_keeps : (m : UpdateRun E UpdateAt) (c : Call) (h : History) (s : Step) (r : Row) → IsRun TreeAllows c.layout (r ⊳ h) → r.pass.0 ≢ c.pass → UpdateWaits e m c h s → UpdateWaits e m c (r ⊳ h) s
  update_keeps m c h s r run other w = (w.0, tries_more m c w.0 h r m.at (others_begin_none c.pass r other) w.1, w.2, kept_at m (begun_at c w.0) h s r m.at run other w.3)

  -- The step that it waits for

  lawful_at : (m : UpdateRun E UpdateAt) (c : Call) (h : History) (s : Step) (at : UpdateAt) → IsRun TreeAllows c.layout h → UpdateWaitsAt e m c h s at → IsRun TreeAllows c.layout (row_of c s h ⊳ h)
  lawful_at m c h s Start run w = absurd w
  lawful_at m c h s (Walk walk) run w = walk_lawful walk c h s run w.1
  lawful_at m c h s (Guard walk head llx) run w = llx_lawful TreeAllows llx (begun_at c w.0) h s run w.2
  lawful_at m c h s (Look f llx) run w = llx_lawful TreeAllows llx (begun_at c w.0) h s run w.2
  lawful_at m c h s (Read f n part) run w = load_lawful TreeAllows c h LoadSettled (node n.0 (Settled part)) s run w.1 record { word = tt; same = refl } (λ q. cc) w.0.read.inside.1
  lawful_at m c h s (Fill f nth part) run w = fill_lawful TreeAllows c h (nth_node m.nodes nth).0 part (word_of (piece e m f (nth_node m.nodes nth).0) part) s run w.3
      (w.0.full.hand.own (nth_node m.nodes nth).0 w.0.hand.lowest w.0.hand.highest)
      (may_fill c.layout h c.pass m.share m.nodes.first.0 (top m) (nth_node m.nodes nth).0 (piece e m f) part (word_of (piece e m f (nth_node m.nodes nth).0) part) (piece_fill (piece e m f (nth_node m.nodes nth).0) part w.0.part_is) w.0.hand.lowest w.0.hand.highest w.1 w.0.full)
  lawful_at m c h s (Scx f scx) run w = scx_lawful TreeAllows scx (begun_at c w.0) h s run w.2

  -- the step that an update waits for continues the run
  pub update_lawful : (m : UpdateRun E UpdateAt) (c : Call) (h : History) (s : Step) → IsRun TreeAllows c.layout h → UpdateWaits e m c h s → IsRun TreeAllows c.layout (row_of c s h ⊳ h)
  update_lawful m c h s run w = lawful_at m (begun_at c w.0) h s m.at run w.3

  -- Its own row

  walks_by_step : (m : UpdateRun E UpdateAt) (c : Call) (h : History) (r : Row) (way : Way) (goal : Goal) → IsRun TreeAllows c.layout (r ⊳ h) → r.kind ≢ FillKind → Walks e m c h way goal → Walks e m c (r ⊳ h) way goal
  walks_by_step m c h r way goal run no_fill x =
      let rests : RestsWith c (r ⊳ h) m.share = rests_by_step c h r m.share run.lawful no_fill x.rests in
      record { small = x.small; may = x.may; rests = rests; quiet = quiet_rests c h r m.share run.lawful rests x.quiet; none_filled = none_filled_more c.pass h r c.start (λ own. no_fill) x.none_filled; same = x.same; same_way = x.same_way }

  looks_by_step : (m : UpdateRun E UpdateAt) (c : Call) (h : History) (r : Row) (f : Found) (llx : LlxRun) (begin : History) → IsRun TreeAllows c.layout (r ⊳ h) → r.kind ≢ FillKind → Looks e m c h f llx begin → Looks e m c (r ⊳ h) f llx begin
  looks_by_step m c h r f llx begin run no_fill x = record {
    run = (x.run.0, run);
    looked = looked_more e c h r m.edit f m.snaps.items x.run run x.looked;
    rests = rests_by_step c h r m.share run.lawful no_fill x.rests;
    asked = x.asked;
    room = x.room;
    named = x.named;
    now = inr x.now;
    quiet = quiet_rests c h r m.share run.lawful (rests_by_step c h r m.share run.lawful no_fill x.rests) x.quiet;
    since = x.since;
    guarded = found_guarded_more e m.edit c h r m.guard f x.run run x.guarded;
  }

  -- a load changes nothing
  reads_made : (m : UpdateRun E UpdateAt) (c : Call) (h : History) (s : Step) (f : Found) (n : NodeNo) (part : SettledPart) → IsRun TreeAllows c.layout (row_of c s h ⊳ h) → s ≡ load LoadSettled (node n.0 (Settled part)) → Reads e m c h f n part → Reads e m c (row_of c s h ⊳ h) f n part
  reads_made m c h s f n part run asked x = record {
    works = works_more e m c h (row_of c s h) f First run (idle_if_finished c (row_of c s h ⊳ h) run.lawful full.over) x.works;
    full = full;
    hand = x.hand;
    blank = λ q i. same (node m.nodes.first.0 q) ∙ x.blank q i;
    from = x.from;
    is = x.is;
    read = may_read_more c h (row_of c s h) n.0 m.read run.lawful x.read;
    next = x.next;
  }
    where
      same : (w : Word) → value (row_of c s h ⊳ h) w ≡ value h w
      same = value_quiet (row_of c s h) h refl (rw asked refl)

      full : HasFilledTo c.layout (row_of c s h ⊳ h) c.pass m.share m.nodes.first.0 (top m) m.nodes.first.0 (piece e m f)
      full = by_load c.layout h (row_of c s h) c.pass m.share m.nodes.first.0 (top m) m.nodes.first.0 (piece e m f) run.lawful (λ q. let z : LoadSettled ≡ FillKind = sym (ap (λ (t : Step). t.kind) asked) ∙ q in cc) same x.full

  -- a fill of a word of the fresh node of this place
  module _ (m : UpdateRun E UpdateAt) (c : Call) (h : History) (f : Found) (nth : Nth) (part : NodeWord) where
    abbrev n : ℕ
    n = (nth_node m.nodes nth).0

    abbrev p : Piece
    p = piece e m f (nth_node m.nodes nth).0

    abbrev r : Row
    r = row_of c (piece_fill_step e m f nth part) h

    abbrev May : Type 0
    May = FieldMay part (IsForField c.layout h m.nodes.first.0 (top m) (word_of p part))

    abbrev Then : History → Type 0
    Then k = FillsPiece e m c k f nth part × HoldsUpTo k n p part × IsTakenNode k n

    fills_made : IsRun TreeAllows c.layout (r ⊳ h) → FillsPiece e m c h f nth part → May → HoldsBefore h n p part → Then (r ⊳ h)
    fills_made run x may words = (
      record {
        works = works_more e m c h r f nth run (idle_if_finished c (r ⊳ h) run.lawful full.over) x.works;
        full = full;
        hand = x.hand;
        read = read_more c h r (e.reads m.edit f m.snaps.items) m.read run.lawful x.read;
        whole = x.whole;
        part_is = x.part_is;
      },
      words_more c.layout h r c.pass m.share m.nodes.first.0 (top m) n (piece e m f) part run.lawful refl refl (piece_fill p part x.part_is) x.hand.lowest x.hand.highest may x.full p refl words,
      taken_now c.layout h r c.pass m.share m.nodes.first.0 (top m) n (piece e m f) part run.lawful refl refl (piece_fill p part x.part_is) x.hand.lowest x.hand.highest may x.full,
    )
      where
        full : HasFilledTo c.layout (r ⊳ h) c.pass m.share m.nodes.first.0 (top m) n (piece e m f)
        full = filled_to_more c.layout h r c.pass m.share m.nodes.first.0 (top m) n (piece e m f) part run.lawful refl refl (piece_fill p part x.part_is) x.hand.lowest x.hand.highest may x.full

    fills_then : (s : Step) → s ≡ piece_fill_step e m f nth part → IsRun TreeAllows c.layout (row_of c s h ⊳ h) → FillsPiece e m c h f nth part → May → HoldsBefore h n p part → Then (row_of c s h ⊳ h)
    fills_then s asked run x may words = rw asked (fills_made (rw asked at run) x may words)

  scxs_made : (m : UpdateRun E UpdateAt) (c : Call) (h : History) (s : Step) (f : Found) (scx : ScxRun) (begin : History) → IsRun TreeAllows c.layout (row_of c s h ⊳ h) → Scxs e m c h f scx begin → ScxWaits TreeAllows scx (begun_at c begin) h s → Scxs e m c (row_of c s h ⊳ h) f scx begin
  scxs_made m c h s f scx begin run x w = record {
    run = (x.run.0, run);
    small = x.small;
    may = x.may;
    now = inr x.now;
    since = x.since;
    share = share_by_scx TreeAllows scx (begun_at c begin) h s m.share m.share.next_node scx.scx.0 run.lawful w (let a = x.next_node in omega (arith, a)) (let a = x.next_scx in omega (arith, a)) x.share;
    next_node = x.next_node;
    next_scx = x.next_scx;
    call = x.call;
    own = x.own;
    own_scx = x.own_scx;
    over = over_more c.layout c.pass scx.scx.0 h (row_of c s h) run.lawful (λ t own d free. untaken_at TreeAllows (job_of scx) (begun_at c begin) h scx.at s t w d free) x.over;
    untaken = x.untaken;
    tracks = tracks_by_scx (begun_at c begin) h scx s (e.edit m.edit f) run x.run.1 w x.tracks;
    only = only_more c.layout c.pass scx.scx.0 h (row_of c s h) c.start run.lawful x.over x.only;
    found = x.found;
    need = x.need;
    usable = x.usable;
    quiet = x.quiet;
    leaf = x.leaf;
    unnamed = x.unnamed;
    guard = x.guard;
    ends = x.ends;
  }

  -- once the load of the root's head is made, its try has begun just before it
  module _ (m : UpdateRun E UpdateAt) (c : Call) (b h : History) (s : Step) (v : ℕ) (walk : WalkRun) (run : IsRun TreeAllows c.layout (row_of c s h ⊳ h)) (t : IsTold s.access (value h s.word) v) (first : IsUntouched c b m.share) (x : Walks e m (begun_at c b) h walk.way walk.goal) (w : WalkWaits walk (begun_at c b) h s) (guarded : WalksGuarded e m (begun_at c b) h walk.at (λ k. WalkWaits walk k h s)) where
    abbrev after : History
    after = row_of c s h ⊳ h

    abbrev WalkThen : Type 0
    WalkThen = (begin : History) × IsTry c begin after m.limit m.tries × IsUntouched c begin m.share × (Walks e m (begun_at c begin) after walk.way walk.goal × WalkIsReady walk (begun_at c begin) after (Some v) × WalksGuarded e m (begun_at c begin) after walk.at (λ k. WalkIsReady walk k after (Some v)))

    walks_then : Walks e m (begun_at c b) after walk.way walk.goal
    walks_then = walks_by_step m (begun_at c b) h (row_of c s h) walk.way walk.goal run (walk_fills_not walk (begun_at c b) h s w) x

    -- past the root's head it continues
    goes_past : IsPastRoot walk.at → IsTry c b h m.limit m.tries → WalkThen
    goes_past past try = (b, try_more c b h (row_of c s h) m.limit m.tries (own_begins_none c s h (walk_begins_none walk (begun_at c b) h s past w)) try, first, (walks_then, walk_made walk (begun_at c b) h s v run t w, λ past. guarded_more e m.edit (begun_at c b) h (row_of c s h) m.guard (λ k. WalkWaits walk k h s) (λ k. WalkIsReady walk k after (Some v)) (λ g. walk_made walk (begun_at (begun_at c b) g) h s v run t) (guarded past)))

    begins_try_now : walk.at ≡ walks.Root → MayTry c b h m.limit m.tries → WalkThen
    begins_try_now at may = (
      h,
      try_begins c b h s m.limit m.tries asked (ends_trans h b c.start w.since may.since) (none_joined c.layout c.pass h b c.start w.since may.none (none_quiet c.layout c.pass h b lawful x.quiet)) may,
      untouched_later c b h m.share lawful w.since first,
      (
        record {
          small = x.small;
          may = x.may;
          rests = record { share = walks_then.rests.share; over = walks_then.rests.over };
          quiet = λ k e f. walks_then.quiet k e (ends_trans k h b f w.since);
          none_filled = λ row before within since own. walks_then.none_filled row before within (ends_trans before h b since w.since) own;
          same = x.same;
          same_way = x.same_way;
        },
        walk_made walk (begun_at c h) h s v run t record { run = w.run; may = w.may; small = w.small; since = ends_self h; sure = λ z. let y = w.sure z in record { above = y.above; leaves = y.leaves }; known = subst (WalkKnows (begun_at c h) h walk) (sym at) root; asked = w.asked },
        λ past. absurd (subst IsPastRoot at past),
      ),
    )
      where
        lawful : Lawful c.layout h
        lawful = w.run.1.lawful

        root : walk.trail.node.0 ≡ 0
        root = subst (WalkKnows (begun_at c b) h walk) at w.known

        asked : s ≡ load LoadSettled (node 0 (Settled Head))
        asked = w.asked ∙ ap (walk_step walk) at ∙ ap (λ n. load LoadSettled (node n (Settled Head))) root

    walk_goes : (p : WalkAt) → walk.at ≡ p → IsTryAt c b h m.limit m.tries p → WalkThen
    walk_goes walks.Start at try = absurd (subst (WalkKnows (begun_at c b) h walk) at w.known)
    walk_goes walks.Root at try = begins_try_now at try
    walk_goes (walks.Head above) at try = goes_past (subst IsPastRoot (sym at) tt) try
    walk_goes (walks.Key head) at try = goes_past (subst IsPastRoot (sym at) tt) try
    walk_goes (walks.Child level side) at try = goes_past (subst IsPastRoot (sym at) tt) try
    walk_goes (walks.More head) at try = goes_past (subst IsPastRoot (sym at) tt) try
    walk_goes (walks.Pair head more slot) at try = goes_past (subst IsPastRoot (sym at) tt) try
    walk_goes (walks.Value head more slot key) at try = goes_past (subst IsPastRoot (sym at) tt) try
    walk_goes (walks.High head more slot key low) at try = goes_past (subst IsPastRoot (sym at) tt) try

  -- what is known once the step of this place has found v
  abbrev ToldThen : UpdateRun E UpdateAt → Call → History → ℕ → UpdateAt → Type 0
  ToldThen m c h v at = (begin : History) × IsTry c begin h m.limit m.tries × FirstOrLost e m c begin at × UpdateIsToldAt e m (begun_at c begin) h v at

  made_at : (m : UpdateRun E UpdateAt) (c : Call) (b h : History) (s : Step) (v : ℕ) (at : UpdateAt) → IsRun TreeAllows c.layout (row_of c s h ⊳ h) → IsTold s.access (value h s.word) v → Tries e m c b h at → FirstOrLost e m c b at → UpdateWaitsAt e m (begun_at c b) h s at → ToldThen m c (row_of c s h ⊳ h) v at
  made_at m c b h s v Start run t try first w = absurd w
  made_at m c b h s v (Walk walk) run t try first w = walk_goes m c b h s v walk run t first w.0 w.1 w.2 walk.at refl try
  made_at m c b h s v (Guard walk head llx) run t try first w =
      let no_fill = llx_fills_not TreeAllows llx (begun_at (begun_at c b) w.0) h s w.2 in (
        b,
        try_more c b h (row_of c s h) m.limit m.tries (own_begins_none c s h (llx_begins_none TreeAllows llx (begun_at (begun_at c b) w.0) h s w.2)) try,
        first,
        (
          w.0,
          guards_more m (begun_at c b) h (row_of c s h) walk head llx w.0 run (rests_by_step (begun_at c b) h (row_of c s h) m.share run.lawful no_fill w.1.rests) (λ own. no_fill) w.1,
          llx_made TreeAllows llx (begun_at (begun_at c b) w.0) h s v run t w.2,
          record { row = row_of c s h; before = h; is = refl; since = w.1.now; own = refl },
        ),
      )
  made_at m c b h s v (Look f llx) run t try first w = (
    b,
    try_more c b h (row_of c s h) m.limit m.tries (own_begins_none c s h (llx_begins_none TreeAllows llx (begun_at (begun_at c b) w.0) h s w.2)) try,
    tt,
    (w.0, looks_by_step m (begun_at c b) h (row_of c s h) f llx w.0 run (llx_fills_not TreeAllows llx (begun_at (begun_at c b) w.0) h s w.2) w.1, llx_made TreeAllows llx (begun_at (begun_at c b) w.0) h s v run t w.2),
  )
  made_at m c b h s v (Read f n part) run t try first w = (
    b,
    try_more c b h (row_of c s h) m.limit m.tries (own_begins_none c s h (other_node_begins_none s n.0 (Settled part) (ap (λ (q : Step). q.word) w.1) w.0.read.inside.0)) try,
    tt,
    (reads_made m (begun_at c b) h s f n part run w.1 w.0, load_told (begun_at c b) h LoadSettled (node n.0 (Settled part)) s v w.1 t),
  )
  made_at m c b h s v (Fill f nth part) run t try first w = (
    b,
    try_more c b h (row_of c s h) m.limit m.tries (own_begins_none c s h (other_kind_begins_none s (λ q. let z : FillKind ≡ LoadSettled = ap (λ (k : Step). k.kind) (sym w.3) ∙ q in cc))) try,
    tt,
    fills_then m (begun_at c b) h f nth part s w.3 run w.0 w.1 w.2,
  )
  made_at m c b h s v (Scx f scx) run t try first w = (
    b,
    try_more c b h (row_of c s h) m.limit m.tries (own_begins_none c s h (scx_begins_none TreeAllows scx (begun_at (begun_at c b) w.0) h s w.2)) try,
    tt,
    (w.0, scxs_made m (begun_at c b) h s f scx w.0 run w.1 w.2, scx_made TreeAllows scx (begun_at (begun_at c b) w.0) h s v run t w.2),
  )

  -- once the step is made, an update may be called with what it found
  pub update_made : (m : UpdateRun E UpdateAt) (c : Call) (h : History) (s : Step) (v : ℕ) → IsRun TreeAllows c.layout (row_of c s h ⊳ h) → IsTold s.access (value h s.word) v → UpdateWaits e m c h s → UpdateIsReady e m c (row_of c s h ⊳ h) (Some v)
  update_made m c h s v run t w = made_at m c w.0 h s v m.at run t w.1 w.2 w.3

  spends_at : (m : UpdateRun E UpdateAt) (c : Call) (h : History) (v : ℕ) (at : UpdateAt) → UpdateIsToldAt e m c h v at → MaySpend e m at
  spends_at m c h v Start x = tt
  spends_at m c h v (Walk walk) x = tt
  spends_at m c h v (Guard walk head llx) x = tt
  spends_at m c h v (Look f llx) x = x.1.asked
  spends_at m c h v (Read f n part) x = tt
  spends_at m c h v (Fill f nth part) x = x.0.works.some
  spends_at m c h v (Scx f scx) x = tt

  -- it may take of its share what it takes next
  pub update_spends : (m : UpdateRun E UpdateAt) (c : Call) (h : History) (got : Option ℕ) → UpdateIsReady e m c h got → MaySpend e m m.at
  update_spends m c h None x = subst (MaySpend e m) (sym x.3) tt
  update_spends m c h (Some v) x = spends_at m (begun_at c x.0) h v m.at x.3

  -- What it gets

  fits_at : (m : UpdateRun E UpdateAt) (c : Call) (h : History) (v nodes : ℕ) (at : UpdateAt) → IsRun TreeAllows c.layout h → UpdateIsToldAt e m c h v at → length (taken_nodes h) ≤ nodes → UpdateFitsAt e m (Some v) nodes at
  fits_at m c h v nodes Start run x few = absurd x
  fits_at m c h v nodes (Walk walk) run x few = walk_told walk c h (Some v) nodes run x.1 few
  fits_at m c h v nodes (Guard walk head llx) run x few = (x.1.at, subst (λ at. WalkFitsAt at head (room walk.way nodes)) (sym x.1.at) (let top = root_head c.layout h x.1.run in let told = x.1.told in omega (arith, top, told)))
  fits_at m c h v nodes (Look f llx) run x few = x.1.asked
  fits_at m c h v nodes (Read f n part) run x few = (x.0.works.asked, x.0.next)
  fits_at m c h v nodes (Fill f nth part) run x few = tt
  fits_at m c h v nodes (Scx f scx) run x few = tt

  -- what an update may get fits the nodes that are taken by then
  pub update_told : (m : UpdateRun E UpdateAt) (c : Call) (h : History) (got : Option ℕ) (nodes : ℕ) → IsRun TreeAllows c.layout h → UpdateIsReady e m c h got → length (taken_nodes h) ≤ nodes → UpdateFits e m got nodes
  update_told m c h None nodes run x few = subst (λ at. UpdateFitsAt e m None nodes at) (sym x.3) tt
  update_told m c h (Some v) nodes run x few = fits_at m (begun_at c x.0) h v nodes m.at run x.3 few
