-- What a call by itself finds and leaves: it has the map to itself.
use Rattle.std.proofs.Common.{◌≡◌, ◌≢◌, ◌⊎◌, ℕ, ◌^◌, ◌<◌, inl, inr, List, Option, None, refl, sym, ◌∙◌, ap, subst, arith}
use native.Mathlib.Decide.{ℕ_discrete}
use Rattle.histories.specs.Common.{Tree as TreeMode, Layout, Row, Side, IsInProgress, IsOwnScx, IsOthersScx, History, Opened, opening_of, ◌⊳◌, value, Extends, Lawful, HasWon, IsWin, log, Call, state, descriptor}
use Rattle.arena.specs.Undisturbed.{IsUndisturbed}
use Rattle.arena.proofs.Lemmas.{ends_self, ends_trans, same_opening}
use Rattle.histories.proofs.Lemmas.{Facts, IsOwned, Logs, facts, facts_before, lawful_since, lawful_tail, logs, same, update_changes, update_is_first, wins, won_since}
use Rattle.prims.specs.Laws.Idle.{out_by_others}
use Rattle.prims.proofs.Lemmas.{wins_in_progress}
use Rattle.template.specs.Common.{IsAnswerAt, said, MapEdit, edited, end_pair, get, IsMapRun, Spells, Pair, HasFoundGoal, HasFoundLeaf, end_told, End, IsContended}
use Rattle.ordered_map.specs.Paths.{IsEndAt}
use Rattle.ordered_map.specs.Laws.{AreEdits}
use Rattle.ordered_map.specs.Planted.{pairs_of}
use Rattle.ordered_map.specs.Runs.{map_of_log, first_pairs}
use Rattle.ordered_map.proofs.Lemmas.{one_spelling, wins_of}
use Rattle.ordered_map.proofs.MapLemmas.{log_edits, spells_log, walked_answers}
use Rattle.template.proofs.Lemmas.{found_end, own_since}
use Rattle.template.specs.declared.walk.Found.{Found}
use Rattle.edits.specs.Known.{HasMade, ToldEnd}
use Rattle.edits.specs.Tries.{HasEnteredNone}

-- no update wins in h after the moment `start`
abbrev HasNoWin : History → History → Type 0
HasNoWin h start = (row : Row) (before : History) (t : ℕ) → Extends h (row ⊳ before) → Extends before start → ¬ IsWin before row t

-- where no update wins the log stays as it was
log_still : (lay : Layout) (h start : History) → Lawful lay h → Extends h start → HasNoWin h start → log lay h ≡ log lay start
log_still lay (Opened o) start l e none = ap (log lay) (sym e)
log_still lay (r ⊳ h) start l (inl e) none = ap (log lay) (sym e)
log_still lay (r ⊳ h) start l (inr e) none = go (log_still lay h start (lawful_tail lay h r l) e (λ row before t within since w. none row before t (inr within) since w)) (logs lay h r l)
  where
    go : log lay h ≡ log lay start → Logs lay h r → log lay (r ⊳ h) ≡ log lay start
    go earlier (same is won) = is ∙ earlier
    go earlier (wins u w is) = absurd (none r h u (inl refl) e record { kind = w.kind; update = w.update; found = w.found; changed = update_changes (facts_before lay h r l) w })

-- so the words spell the map that they did
spells_still : (lay : Layout) (h k m : History) (map : List Pair) → IsMapRun lay h → Extends h k → Extends k m → log lay k ≡ log lay m → Spells lay (value m) map → Spells lay (value k) map
spells_still lay h k m map run e f still x =
    let edits : (edits : ℕ → MapEdit) × AreEdits edits lay h = log_edits lay h run in
    let first : opening_of m ≡ opening_of k = same_opening k m f in
    let then : map ≡ map_of_log edits.0 (first_pairs m) (log lay m) = one_spelling lay (value m) map (map_of_log edits.0 (first_pairs m) (log lay m)) x (spells_log lay h edits.0 run edits.1 m (ends_trans h k m e f)) in
    subst (Spells lay (value k)) ((λ i. map_of_log edits.0 (pairs_of (sym first i).pairs) (still i)) ∙ sym then) (spells_log lay h edits.0 run edits.1 k e)

module _ (c : Call) (h : History) (run : IsMapRun c.layout h) (alone : IsUndisturbed c h) where
  -- no other's SCX-record is in progress at any moment of the call
  others_rest : (k : History) → Extends h k → Extends k c.start → (t : ℕ) → IsOthersScx c.layout c.pass t → ¬ IsInProgress k t
  others_rest (Opened opening) e f t o x = alone.rest t (subst (λ m. IsInProgress m t) (sym f) x)
  others_rest (r ⊳ k) e (inl f) t o x = alone.rest t (subst (λ m. IsInProgress m t) (sym f) x)
  others_rest (r ⊳ k) e (inr f) t o x = out_by_others c.layout o.pass k r t (lawful_since c.layout h (r ⊳ k) run.1.lawful e) (λ q. o.is_other (sym q ∙ alone.own r k e f)) o.owns
      (others_rest k (ends_trans h (r ⊳ k) k e (inr (ends_self k))) f t o) x

  -- what wins is the pass's own
  own_wins : (row : Row) (before : History) (t : ℕ) → Extends h (row ⊳ before) → Extends before c.start → IsWin before row t → IsOwnScx c.layout c.pass t
  own_wins row before t e since w = go (ℕ_discrete o.pass c.pass)
    where
      l : Lawful c.layout (row ⊳ before)
      l = lawful_since c.layout h (row ⊳ before) run.1.lawful e

      x : IsInProgress before t
      x = wins_in_progress c.layout before row t l (wins_of c.layout before row t l w)

      f : Facts c.layout before
      f = facts c.layout before (lawful_tail c.layout before row l)

      real : t ≢ 0
      real e = let d = f.dummy in let z : value before (state 0) ≡ 0 = rw e at x.unfinished in omega arith

      o : IsOwned c.layout (descriptor before t) t
      o = (f.about t x.named.0 real x.named.1).owned

      go : Dec (o.pass ≡ c.pass) → IsOwnScx c.layout c.pass t
      go (yes q) = rw q at o.scx
      go (no d) = absurd (others_rest before (ends_trans h (row ⊳ before) before e (inr (ends_self before))) since t record { pass = o.pass; is_pass = o.is_pass; is_other = d; owns = o.scx } x)

  -- nobody is in its way
  pub never_contended : (n s : ℕ) → ¬ IsContended c h n s
  never_contended n s x = others_rest (x.in_the_way.row ⊳ x.in_the_way.before) x.in_the_way.within (inr x.in_the_way.since) s x.others x.in_the_way.running

  -- where the pass has entered nothing the map is what it was, at each moment of the call
  pub alone_keeps : (k : History) (map : List Pair) → Extends h k → Extends k c.start → HasEnteredNone c.layout c.pass h c.start → Spells c.layout (value c.start) map → Spells c.layout (value k) map
  alone_keeps k map e f none = spells_still c.layout h k c.start map run e f (log_still c.layout k c.start (lawful_since c.layout h k run.1.lawful e) f no_win)
    where
      no_win : HasNoWin k c.start
      no_win row before t within since w = none row before t (ends_trans h k (row ⊳ before) e within) since w (own_wins row before t (ends_trans h k (row ⊳ before) e within) since w)

  -- and what a map at a moment of the call gives, it gives
  pub alone_reads : (key : ℕ) (told : Option ℕ) (map : List Pair) → IsAnswerAt c.layout h c.start key told → HasEnteredNone c.layout c.pass h c.start → Spells c.layout (value c.start) map → told ≡ get key map
  alone_reads key told map x none spells = sym x.gives ∙ ap (get key) (one_spelling c.layout (value x.moment) x.map map x.spelled (alone_keeps x.moment map x.within x.since none spells))

  -- so the leaf that it has found answers what the map has
  pub alone_found : (key : ℕ) (f : Found) (map : List Pair) → key < 2 ^ 64 → HasFoundLeaf c h key f → HasEnteredNone c.layout c.pass h c.start → Spells c.layout (value c.start) map → f.value ≡ get key map
  alone_found key f map small found none spells = found.says ∙ alone_reads key (said (value h) key f.trail.node.0) map answer none spells
    where
      first : History
      first = found.trail.node.first

      then : IsAnswerAt c.layout h first key (said (value h) key f.trail.node.0)
      then = walked_answers c.layout h first key f.trail.node.0 small run found.trail.node.passed found.leaf

      answer : IsAnswerAt c.layout h c.start key (said (value h) key f.trail.node.0)
      answer = record { moment = then.moment; within = then.within; since = ends_trans then.moment first c.start then.since (own_since c first found.trail.node.own); map = then.map; spelled = then.spelled; gives = then.gives }

  -- on its way to an end it has found the pair there
  pub alone_found_end : (side : Side) (f : Found) (map : List Pair) → HasFoundGoal (End side) c h f → (c.layout.mode ≡ TreeMode) ⊎ (f.value ≡ None) → HasEnteredNone c.layout c.pass h c.start → Spells c.layout (value c.start) map → end_pair side map ≡ end_told f
  alone_found_end side f map found sure none spells =
      let at = found_end side c h f run found sure in
      let x : IsEndAt side c.layout h at.0 (end_told f) = at.2 in
      let since : Extends x.moment c.start = ends_trans x.moment at.0 c.start x.since (own_since c at.0 at.1) in
      ap (end_pair side) (one_spelling c.layout (value x.moment) map x.map (alone_keeps x.moment map x.within since none spells) x.spelled) ∙ x.is

  -- what it has made it has made of the map that was there
  module _ (edit : MapEdit) (number : ℕ) (old : Option ℕ) (map : List Pair) (x : HasMade edit c h number old) (spells : Spells c.layout (value c.start) map) where
    abbrev after : History
    after = x.row ⊳ x.before

    here : Lawful c.layout after
    here = lawful_since c.layout h after run.1.lawful x.within

    -- its SCX-record wins at no other row
    one_win : (k : History) → Extends h k → HasWon k x.scx → (row : Row) → Extends h (row ⊳ k) → ¬ IsWin k row x.scx
    one_win k e won row f w = let l : Lawful c.layout (row ⊳ k) = lawful_since c.layout h (row ⊳ k) run.1.lawful f in update_is_first (facts_before c.layout k row l) (wins_of c.layout k row x.scx l w) won

    -- an update that won at a row has won ever since
    has_won : (row : Row) (k m : History) → Lawful c.layout m → Extends m (row ⊳ k) → IsWin k row x.scx → HasWon m x.scx
    unfolding HasWon
    has_won row k m l e w = won_since c.layout m (row ⊳ k) x.scx l e (inl w)

    before_in : Extends h x.before
    before_in = ends_trans h after x.before x.within (inr (ends_self x.before))

    before_it : HasNoWin x.before c.start
    before_it row k t within since w =
        let inside : Extends h (row ⊳ k) = ends_trans h x.before (row ⊳ k) before_in within in
        let is : t ≡ x.scx = x.once row k t inside since w (own_wins row k t inside since w) in
        one_win x.before before_in (has_won row k x.before (lawful_tail c.layout x.before x.row here) within (subst (IsWin k row) is w)) x.row x.within x.wins

    behind_it : HasNoWin h after
    behind_it row k t within since w =
        let begun : Extends k c.start = ends_trans k after c.start since (inr x.since) in
        let is : t ≡ x.scx = x.once row k t within begun w (own_wins row k t within begun w) in
        let inside : Extends h k = ends_trans h (row ⊳ k) k within (inr (ends_self k)) in
        one_win k inside (has_won x.row x.before k (lawful_since c.layout h k run.1.lawful inside) since x.wins) row within (subst (IsWin k row) is w)

    before_spells : Spells c.layout (value x.before) map
    before_spells = spells_still c.layout h x.before c.start map run before_in x.since (log_still c.layout x.before c.start (lawful_tail c.layout x.before x.row here) x.since before_it) spells

    pub alone_made_end : (side : Side) (f : Found) → ToldEnd (End side) c.layout x.before f → end_pair side map ≡ end_told f
    alone_made_end side f told = told map before_spells

    pub alone_made : Spells c.layout (value x.before) map × Spells c.layout (value h) (edited edit map)
    alone_made = (
      before_spells,
      spells_still c.layout h h after (edited edit map) run (ends_self h) x.within (log_still c.layout h after run.1.lawful x.within behind_it) (x.edits.changes map before_spells),
    )

-- nor ever where no other pass is
pub one_never_contended : (c : Call) (h : History) (n s : ℕ) → c.layout.passes ≡ 1 → ¬ IsContended c h n s
one_never_contended c h n s one x = let below = c.is_pass in let other = x.others.is_pass in x.others.is_other (omega (arith, one, below, other))
