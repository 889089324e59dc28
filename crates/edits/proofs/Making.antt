-- What the call has made once its SCX is done.
use Rattle.std.proofs.Common.{◌≡◌, ◌≢◌, ℕ, zero, suc, ◌+◌, ◌<◌, ◌⊎◌, true, false, cond, inl, inr, List, [], ◌∷◌, length, get_or, refl, sym, ◌∙◌, ap, subst, arith}
use Rattle.histories.specs.Common.{Tree as TreeMode, ScxNo, Row, Side, Word, info, state, child, IsMember, IsNamedScx, seen, IsOwnScx, History, ◌⊳◌, value, Extends, Lawful, HasWon, IsWin, Entry, log, members_from, Call, begun_at, member, count}
use Rattle.arena.proofs.Lemmas.{ends_self, ends_trans, held_since}
use Rattle.histories.proofs.Lemmas.{entry_of, facts_before, lawful_since, log_wins, state_since}
use Rattle.template.specs.Common.{job_of, nodes_of, snap_at, Snap, ScxRun, Update, edit_key, get, Spells, Pair, WasOnPath, IsMapRun}
use Rattle.template.specs.Common.{HasTurned, IsOwnMoment, MayGo, Passed, toward, Makes, edit_leaf, is_leaf, said, asked_key, asked_in, HasFoundGoal, HasFoundFork, FoundBy, Goal, Key as ToKey, End}
use Rattle.prims.specs.Scx.Known.{IsDone, IsEntryAt, update_entry}
use Rattle.ordered_map.specs.Paths.{end_key}
use Rattle.ordered_map.specs.Runs.{IsEditAt}
use Rattle.ordered_map.specs.TreeWords.{end_said}
use Rattle.ordered_map.specs.Strays.{IsUnguarded}
use Rattle.ordered_map.proofs.Lemmas.{SameSettled, settled_said, settled_end, settled_leaf, settled_toward, wins_of}
use Rattle.prims.specs.Laws.Wins.{ends_either}
use Rattle.ordered_map.proofs.MapLemmas.{HasComeBy, came, changed, guarded_end, run_since, stood_settled, two_says_none, walked_guarded, walked_since, walked_stood, win_end, win_makes}
use Rattle.template.proofs.Lemmas.{found_below, found_either, found_stood, found_told, in_tree, tracked_makes}
use Rattle.template.specs.declared.walk.Found.{Found}
use Rattle.template.specs.declared.walk.Way.{Way}
use Rattle.template.specs.declared.walk.Way.TheVariants.{InTree, InTrie, Within}
use Rattle.edits.specs.declared.update.UpdateRun.{UpdateRun}
use Rattle.edits.specs.Edits.{EditMeaning}
use Rattle.edits.specs.Sound.{HasGuardAtEnd, IsAtFound}
use Rattle.edits.specs.Known.{covered, CoversEnd, CoversLeaf, HasGuard, Scxs, HasMade, ToldEnd}
use Rattle.edits.specs.Laws.Entered.{no_row, only_joined}
use Rattle.edits.specs.Tries.{HasEnteredOnly, IsTry, CoversSnaps}

abbrev rest : List ℕ → List ℕ
rest [] = []
rest (x ∷ xs) = xs

-- what an SCX-record covers, by the nodes of its entry
members_are : (h : History) (s j n : ℕ) (snaps : List Snap) → members_from h s j n ≡ nodes_of snaps → (i : ℕ) → i < length snaps → member h s (i + j) ≡ (snap_at snaps i).node.0
members_are h s j n [] e i p = absurd (omega (arith, p))
members_are h s j zero (t ∷ snaps) e i p = absurd (let z : [] ≡ t.node.0 ∷ nodes_of snaps = e in cc)
members_are h s j (suc n) (t ∷ snaps) e zero p = ap (member h s) (let z : 0 + j ≡ j = omega arith in z) ∙ ap (λ xs. get_or xs 0 0) e
members_are h s j (suc n) (t ∷ snaps) e (suc i) p = ap (member h s) further ∙ members_are h s (suc j) n snaps (ap rest e) i (omega (arith, p))
  where
    further : suc i + j ≡ i + suc j
    further = omega arith

-- and how many
members_many : (h : History) (s j n : ℕ) (snaps : List Snap) → members_from h s j n ≡ nodes_of snaps → n ≡ length snaps
members_many h s j zero [] e = refl
members_many h s j zero (t ∷ snaps) e = absurd (let z : [] ≡ t.node.0 ∷ nodes_of snaps = e in cc)
members_many h s j (suc n) [] e = absurd (let z : member h s j ∷ members_from h s (suc j) n ≡ [] = e in cc)
members_many h s j (suc n) (t ∷ snaps) e = ap suc (members_many h s (suc j) n snaps (ap rest e))

-- what is asked of the key that was asked for is that key
asked_again : (goal : Goal) (f : Word → ℕ) (n : ℕ) → asked_key goal (asked_in goal f n) ≡ asked_in goal f n
asked_again (ToKey k) f n = refl
asked_again (End side) f n = refl

newest : List Entry → Entry → Entry
newest [] e = e
newest (x ∷ xs) e = x

module _ (c : Call) (h : History) (m : ScxRun) (row : Row) (before : History) (l : Lawful c.layout h) (y : IsEntryAt c h m row before) where
  entry_is : entry_of c.layout before m.scx.0 ≡ update_entry c.pass m
  unfolding newest
  entry_is = ap (λ es. newest es (update_entry c.pass m)) (sym wins ∙ y.logged)
    where
      here : Lawful c.layout (row ⊳ before)
      here = lawful_since c.layout h (row ⊳ before) l y.within

      wins : log c.layout (row ⊳ before) ≡ entry_of c.layout before m.scx.0 ∷ log c.layout before
      wins = log_wins (facts_before c.layout before row here) (wins_of c.layout before row m.scx.0 here y.wins)

  -- the SCX-record covered the nodes of the snapshots when it won
  covers : CoversSnaps before m.scx.0 m.update
  covers = record {
    planned = y.planned;
    saw = y.saw;
    count = members_many before m.scx.0 0 (count before m.scx.0) m.update.snaps all;
    members = λ j p. ap (member before m.scx.0) (let z : j ≡ j + 0 = omega arith in z) ∙ members_are before m.scx.0 0 (count before m.scx.0) m.update.snaps all j p;
  }
    where
      all : members_from before m.scx.0 0 (count before m.scx.0) ≡ nodes_of m.update.snaps
      all = ap (λ (e : Entry). e.members) entry_is

-- At the row at which the SCX-record of an edit wins that makes this update, at a leaf that was
-- found before.
module _ {E : Type 0} (e : EditMeaning E) (ed : E) (c : Call) (f : Found) (begin before : History) (row : Row) (s : ℕ) (u : Update)
    (now : IsMapRun c.layout (row ⊳ before)) (since : Extends before begin) (won : IsWin before row s) (makes : Makes c.layout before s (e.edit ed f))
    (found : FoundBy (e.way ed) (e.goal ed) c begin f) (covers_leaf : CoversLeaf e ed f c begin s u) (covers_snaps : CoversSnaps before s u) where
  then : IsMapRun c.layout before
  then = run_since c.layout (row ⊳ before) before now (inr (ends_self before))

  begun : IsMapRun c.layout begin
  begun = run_since c.layout before begin then since

  leaf : edit_leaf before s (e.edit ed f) ≡ covered f
  leaf = covers_leaf before row now won since covers_snaps makes

  -- where that is a leaf
  module _ (goal : Goal) (a : HasFoundGoal goal c begin f) where
    covers_it : edit_leaf before s (e.edit ed f) ≡ f.trail.node.0
    covers_it = leaf ∙ ap (λ b. cond b f.trail.node.0 2) (sym (ap (λ w. w.leaf) a.head) ∙ a.leaf)

    settled : SameSettled (value begin) (value before) f.trail.node.0
    settled = stood_settled c.layout before begin f.trail.node.0 then since (found_stood goal c begin f begun a)

  -- that leaf answered what the map had at the key
  pub leaf_told : IsAtFound e → IsEditAt c.layout before row s (e.edit ed f) → (map : List Pair) → Spells c.layout (value before) map → get (edit_key (e.edit ed f)) map ≡ f.value
  leaf_told at_found edits map spells = go (found_either (e.way ed) (e.goal ed) c begin f found)
    where
      k : ℕ
      k = edit_key (e.edit ed f)

      go : HasFoundGoal (e.goal ed) c begin f ⊎ HasFoundFork (e.goal ed) c begin f → get k map ≡ f.value
      go (inl a) = edits.replies map spells ∙ ap (said (value before) k) (covers_it (e.goal ed) a) ∙ settled_said (value begin) (value before) k f.trail.node.0 (settled (e.goal ed) a) ∙ ap (λ q. said (value begin) q f.trail.node.0) (at_found ed f ∙ ap (asked_key (e.goal ed)) (sym a.key) ∙ asked_again (e.goal ed) (value begin) f.trail.node.0) ∙ sym a.says
      go (inr a) = edits.replies map spells ∙ ap (said (value before) k) (leaf ∙ ap (λ b. cond b f.trail.node.0 2) (sym (ap (λ w. w.leaf) a.head) ∙ a.fork)) ∙ two_says_none c.layout before k then ∙ sym a.none

  -- and if the walk went to an end of a tree, the pair there
  module _ (side : Side) (mode : c.layout.mode ≡ TreeMode) (x : HasFoundGoal (End side) c begin f) where
    end_in_tree : ToldEnd (End side) c.layout before f
    end_in_tree map spells =
        win_end side c.layout before row s (e.edit ed f) mode now won makes was is_leaf_then map spells
        ∙ ap (end_said side (value before)) (covers_it (End side) x) ∙ settled_end side (value begin) (value before) f.trail.node.0 (settled (End side) x) ∙ found_told side c begin f begun x
      where
        was : WasOnPath before (end_key side) (edit_leaf before s (e.edit ed f))
        was = let p = in_tree c.layout begin x.trail.node.first (end_key side) f.trail.node.0 mode x.trail.node.passed in subst (WasOnPath before (end_key side)) (sym (covers_it (End side) x)) (p.0, ends_trans before begin p.0 since p.1, p.3)

        is_leaf_then : is_leaf (value before) (edit_leaf before s (e.edit ed f)) ≡ true
        is_leaf_then = ap (is_leaf (value before)) (covers_it (End side) x) ∙ settled_leaf (value begin) (value before) f.trail.node.0 (settled (End side) x) ∙ x.leaf

  -- so it is in a trie, where the guard has not changed
  module _ (side : Side) (x : HasFoundGoal (End side) c begin f) (unnamed : ¬ IsNamedScx begin s) (y : HasGuard c begin InTrie (End side) f u) (ends : CoversEnd f c begin s u) where
    abbrev p : ℕ
    p = f.trail.parent.0

    abbrev end : ℕ
    end = end_key side

    abbrev snap : Snap
    snap = snap_at u.snaps y.place

    abbrev from : Call
    from = begun_at c y.moment

    turned : HasTurned from begin end p f.trail.side f.trail.node.0
    turned = y.found.trail.parent (found_below (End side) from begin f begun y.found)

    abbrev first : History
    first = turned.passed.first

    -- the walk has passed the parent since the snapshot of its guard
    within_first : Extends begin first
    within_first = let z = walked_since c.layout begin first end p turned.passed.passed in ends_trans begin z.0.moment first z.0.within z.1

    behind : Extends first (y.kept.row ⊳ y.moment)
    behind = go (ends_either begin first (y.kept.row ⊳ y.moment) within_first y.kept.within)
      where
        own : IsOwnMoment from first
        own = turned.passed.own

        earlier : Extends (y.kept.row ⊳ y.moment) first → Extends first (y.kept.row ⊳ y.moment)
        earlier (inl q) = subst (λ k. Extends k (y.kept.row ⊳ y.moment)) (sym q) (ends_self (y.kept.row ⊳ y.moment))
        earlier (inr q) = absurd (no_row y.moment own.row own.before (subst (λ k. Extends y.moment k) own.is q) own.since)

        go : Extends first (y.kept.row ⊳ y.moment) ⊎ Extends (y.kept.row ⊳ y.moment) first → Extends first (y.kept.row ⊳ y.moment)
        go (inl q) = q
        go (inr q) = earlier q

    finished : value first (state snap.scx.0) ≢ 0
    finished z = y.kept.is.linked.rest (sym (state_since c.layout first (y.kept.row ⊳ y.moment) snap.scx.0 (run_since c.layout begin first begun within_first).1.lawful behind y.kept.is.linked.rest) ∙ z)

    come : HasComeBy before first end p snap.scx.0 s
    come = go (walked_guarded c.layout begin first end p turned.passed.passed snap.scx.0 finished)
      where
        go : Passed begin first end p ⊎ IsUnguarded begin first snap.scx.0 → HasComeBy before first end p snap.scx.0 s
        go (inl q) = came (q.0, ends_trans before begin q.0 since q.1, q.2, q.3)
        go (inr q) = changed q.0 (ends_trans before begin q.0 since q.1) q.2 q.3 (λ named. unnamed (named.0, held_since begin q.0 (info named.0) s q.1 named.1))

    saw : seen before s y.place ≡ snap.scx.0
    saw = covers_snaps.saw y.place y.within

    same_parent : SameSettled (value begin) (value before) p
    same_parent = stood_settled c.layout before begin p then since (walked_stood c.layout begin first end p turned.passed.passed)

    fork : is_leaf (value before) p ≡ false
    fork = settled_leaf (value begin) (value before) p same_parent ∙ turned.fork

    won_there : IsMember before s p × (value before (child p f.trail.side) ≡ f.trail.node.0)
    won_there = ends before row now won since covers_snaps

    below : value before (child p (toward (value before) p end)) ≡ f.trail.node.0
    below = ap (λ z. value before (child p z)) (settled_toward (value begin) (value before) p end same_parent ∙ turned.side_is) ∙ won_there.1

    end_in_trie : ToldEnd (End side) c.layout before f
    end_in_trie map spells =
        guarded_end side c.layout before first row s y.place p map now won (subst (λ n. y.place < n) (sym covers_snaps.count) y.within) (covers_snaps.members y.place y.within ∙ y.kept.is.node) won_there.0
        (subst (λ q. value first (state q) ≢ 0) (sym saw) finished) (subst (λ q. HasComeBy before first end p q s) (sym saw) come) fork
        (ap (is_leaf (value before)) below ∙ settled_leaf (value begin) (value before) f.trail.node.0 (settled (End side) x) ∙ x.leaf) spells
        ∙ ap (end_said side (value before)) below ∙ settled_end side (value begin) (value before) f.trail.node.0 (settled (End side) x) ∙ found_told side c begin f begun x

  end_by : (way : Way) (goal : Goal) → MayGo c.layout way goal → FoundBy way goal c begin f → ¬ IsNamedScx begin s → ((side : Side) → goal ≡ End side → way ≡ InTrie → HasGuard c begin way goal f u × CoversEnd f c begin s u) → ToldEnd goal c.layout before f
  end_by way (ToKey key) may x unnamed guard = tt
  end_by InTree (End side) may x unnamed guard = end_in_tree side may x
  end_by InTrie (End side) may x unnamed guard = let y = guard side refl refl in end_in_trie side x unnamed y.0 y.1
  end_by Within (End side) may x unnamed guard = absurd may

  pub told_end : HasGuardAtEnd e → MayGo c.layout (e.way ed) (e.goal ed) → ¬ IsNamedScx begin s → (e.guard ed ≡ true → HasGuard c begin (e.way ed) (e.goal ed) f u) → (e.guard ed ≡ true → CoversEnd f c begin s u) → ToldEnd (e.goal ed) c.layout before f
  told_end at_end may unnamed guard ends = end_by (e.way ed) (e.goal ed) may found unnamed (λ side is by. (guard (at_end ed side is by), ends (at_end ed side is by)))

module _ {E : Type 0} (e : EditMeaning E) (at_found : IsAtFound e) (at_end : HasGuardAtEnd e) {A : Type 0} (m : UpdateRun E A) (scx after : ScxRun) (f : Found) (c : Call) (b begin h : History) (try : IsTry c b h m.limit m.tries) (x : Scxs e m (begun_at c b) h f scx begin)
    (same_scx : after.scx ≡ scx.scx) (same_update : after.update ≡ scx.update) (same_call : after.call ≡ scx.call) (done : IsDone (begun_at c begin) h after) where
  abbrev before : History
  before = done.entry.before

  abbrev row : Row
  row = done.entry.row

  abbrev y : IsEntryAt (begun_at c begin) h after row before
  y = done.entry.is

  made : Makes c.layout h after.scx.0 (e.edit m.edit f)
  made = subst (λ (s : ScxNo). Makes c.layout h s.0 (e.edit m.edit f)) (sym same_scx)
      (tracked_makes c.layout c.pass h (job_of scx) (e.edit m.edit f) x.run.1.lawful (subst (λ (s : ScxNo). HasWon h s.0) same_scx done.won) x.tracks)

  edits : IsEditAt c.layout before row after.scx.0 (e.edit m.edit f)
  edits = win_makes c.layout h before row after.scx.0 (e.edit m.edit f) x.run y.within y.wins made

  now : IsMapRun c.layout (row ⊳ before)
  now = run_since c.layout h (row ⊳ before) x.run y.within

  covers_leaf : CoversLeaf e m.edit f c begin after.scx.0 scx.update
  covers_leaf = subst (λ (s : ScxNo). CoversLeaf e m.edit f c begin s.0 scx.update) (sym same_scx) x.leaf

  covers_snaps : CoversSnaps before after.scx.0 scx.update
  covers_snaps = subst (λ (u : Update). CoversSnaps before after.scx.0 u) same_update (covers (begun_at c begin) h after row before x.run.1.lawful y)

  -- its edit is made by one entry, and just before that the leaf that was found answered what the
  -- map did
  has_made : HasMade (e.edit m.edit f) c h m.call f.value
  has_made = record {
    scx = after.scx.0;
    own = subst (λ (s : ScxNo). IsOwnScx c.layout c.pass s.0) (sym same_scx) x.own_scx;
    once = subst (λ (s : ScxNo). HasEnteredOnly c.layout c.pass s.0 h c.start) (sym same_scx) (only_joined c.layout c.pass scx.scx.0 h b c.start x.now try.none x.only);
    row = row;
    before = before;
    within = y.within;
    since = ends_trans before begin c.start y.since (ends_trans begin b c.start x.since try.since);
    wins = y.wins;
    edits = edits;
    told = leaf_told e m.edit (begun_at c b) f begin before row after.scx.0 scx.update now y.since y.wins edits.makes x.found covers_leaf covers_snaps at_found edits;
    entry = update_entry c.pass after;
    logged = y.logged;
    of_scx = refl;
    owner = refl;
    call = same_call ∙ x.call;
  }

  -- and, if the walk went to an end, which pair was there
  pub made_at_leaf : (made : HasMade (e.edit m.edit f) c h m.call f.value) × ToldEnd (e.goal m.edit) c.layout made.before f
  unfolding has_made
  made_at_leaf = (has_made, told_end e m.edit (begun_at c b) f begin before row after.scx.0 scx.update now y.since y.wins edits.makes x.found covers_leaf covers_snaps at_end x.may (subst (λ (s : ScxNo). ¬ IsNamedScx begin s.0) (sym same_scx) x.unnamed) x.guard (λ is. subst (λ (s : ScxNo). CoversEnd f (begun_at c b) begin s.0 scx.update) (sym same_scx) (x.ends is)))
