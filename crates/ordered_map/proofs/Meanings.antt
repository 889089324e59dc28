-- What a run under the shape of a map says, in a tree or a trie, whatever edits it makes: the map
-- that the words spell, what a winning update makes of it, and what walks find.
use Rattle.std.proofs.Common.{◌≡◌, ◌≢◌, ℕ, ◌^◌, ◌<◌, true, false, cond, eq-eqb, ne_eqb, ◌⊎◌, inl, inr, ⊎_elim, List, [], refl, sym, ◌∙◌, ap, arith, subst}
use native.Mathlib.Decide.{ℕ_discrete}
use Rattle.histories.specs.Common.{Side, Left, Right, Plan, Word, Layout, Row, info, scx, child, History, Opening, Start, Opened, ◌⊳◌, value, Extends, IsMember, Tree as TreeMode, count}
use Rattle.histories.specs.Common.{count_of, member, plan, plan_finalizes, scx_finalizes, IsNamedScx, Lawful, IsWin, HasWon, log, IsEntered, IsBegin, Shaped}
use Rattle.arena.specs.Layout.{IsMap}
use Rattle.arena.specs.declared.limits.Mode.TheVariants.{Trie as TrieMode}
use Rattle.arena.proofs.Lemmas.{held_back, held_start, opening_info, ends_self, ends_trans, value_apart}
use Rattle.histories.proofs.Lemmas.{Effect, Facts, IsFirst, Logs, begins_once, scx_since, logs, same, wins, UpdateWins, effect, entered_won, facts, facts_before, freeze, freeze_held, lawful_row, lawful_since, lawful_tail, quiet, shaped_begin, shaped_since, shaped_tail, some_is_real, update, update_flagged, update_held, won_named, won_real}
use Rattle.ordered_map.specs.declared.pair.Pair.{Pair}
use Rattle.ordered_map.specs.OrderedMap.{MapEdit, edit_key, edited, get}
use Rattle.ordered_map.proofs.Pending.{AllowsGiven, GivenAllows, begun_edit}
use Rattle.ordered_map.proofs.Trees.{same_tree}
use Rattle.ordered_map.specs.Paths.{Passed, IsAnswerAt}
use Rattle.ordered_map.specs.Laws.{AreEdits, SpellsLog}
use Rattle.ordered_map.specs.Runs.{IsMapRun, IsTreeRun, IsTrieRun, Makes, map_of_log, first_pairs, IsEditAt}
use Rattle.ordered_map.specs.Spelled.{Spells}
use Rattle.ordered_map.specs.TrieShape.{Stays}
use Rattle.ordered_map.specs.EditPlans.{join_plan, end_join_plan}
use Rattle.ordered_map.specs.TreeShape.{IsEdit, TakesLeafOut, leaf_place, edit_leaf, TreeAllows}
use Rattle.ordered_map.specs.TreeWords.{class, is_leaf, toward, pairs, said}
use Rattle.ordered_map.proofs.TreeFacts.{TreeFacts}
use Rattle.ordered_map.proofs.EditPlans.{leaf_plan_says, join_plan_says, end_leaf_plan_says, end_join_plan_says, above_plan_says}
use Rattle.ordered_map.proofs.Edited.{content_now}
use Rattle.ordered_map.proofs.EditedPaths.{replies}
use Rattle.ordered_map.proofs.Grown.{IsGrown, tree_map, tree_facts, first_begins, grown_tail, grown_since}
use Rattle.ordered_map.proofs.Past.{Answered, walk_begins, walk_goes_on, walk_ends}
use Rattle.ordered_map.proofs.Growing.{spells, root_leaf, root_left}
use Rattle.ordered_map.proofs.Runs.{HasEdits, begin_names, edit_told, has_edits, with_edit}

-- histories of a tree and of a trie are such runs
pub tree_run : (lay : Layout) (h : History) → IsTreeRun lay h → IsMapRun lay h
tree_run lay h g = (tree_map lay.mode g.0, g.1)

pub trie_run : (lay : Layout) (h : History) → IsTrieRun lay h → IsMapRun lay h
trie_run lay h g = (rw g.0 refl, g.1)

pub edits_of : (lay : Layout) (h : History) → IsMapRun lay h → HasEdits lay h
edits_of lay h g = has_edits lay h g.1.lawful g.1.shaped

pub grown : (lay : Layout) (h : History) (g : IsMapRun lay h) → IsGrown (edits_of lay h g).edits lay h
grown lay h g = record { mode = g.0; lawful = g.1.lawful; shaped = (edits_of lay h g).shaped }

-- One spelling

pub one_spelling : (lay : Layout) (f : Word → ℕ) (ps qs : List Pair) → Spells lay f ps → Spells lay f qs → ps ≡ qs
one_spelling lay f ps qs x y =
    let e : x.tree ≡ y.tree = same_tree f x.tree y.tree _ _ _ _ x.is_tree.shows y.is_tree.shows (x.is_tree.is ∙ sym y.is_tree.is) in
    sym x.pairs ∙ ap (pairs f) e ∙ y.pairs

-- what words spell after a run
pub run_spells : (lay : Layout) (h : History) → IsMapRun lay h → (ps : List Pair) × Spells lay (value h) ps
run_spells lay h g = (map_of_log (edits_of lay h g).edits (first_pairs h) (log lay h), spells (edits_of lay h g).edits lay h (grown lay h g))

-- an empty map is a run, and spells no pair
pub opening_run : (lay : Layout) → IsMap lay.mode → IsMapRun lay (Start lay.mode)
unfolding Lawful Shaped
opening_run lay mode = (mode, record { lawful = (refl, omega arith); shaped = inl refl })

opening_log : (calls : ℕ → MapEdit) (lay : Layout) → map_of_log calls (first_pairs (Start lay.mode)) (log lay (Start lay.mode)) ≡ []
unfolding log
opening_log calls lay = refl

pub opening_spells : (lay : Layout) → IsMap lay.mode → Spells lay (value (Start lay.mode)) []
opening_spells lay mode =
    let g : IsMapRun lay (Start lay.mode) = opening_run lay mode in
    subst (Spells lay (value (Start lay.mode))) (opening_log (edits_of lay (Start lay.mode) g).edits lay) (spells (edits_of lay (Start lay.mode) g).edits lay (Start lay.mode) (grown lay (Start lay.mode) g))

-- a run begins with the words of the pairs of its opening
start_log : (calls : ℕ → MapEdit) (lay : Layout) (o : Opening) → map_of_log calls (first_pairs (Opened o)) (log lay (Opened o)) ≡ first_pairs (Opened o)
unfolding log
start_log calls lay o = refl

pub start_spells : (lay : Layout) (o : Opening) → IsMapRun lay (Opened o) → Spells lay (value (Opened o)) (first_pairs (Opened o))
start_spells lay o g = subst (Spells lay (value (Opened o))) (start_log (edits_of lay (Opened o) g).edits lay o) (spells (edits_of lay (Opened o) g).edits lay (Opened o) (grown lay (Opened o) g))

-- What has begun

pub record HasBegun (A : Layout → History → ℕ → Type 0) (lay : Layout) (h : History) (s : ℕ) : Type 0 where
  pub row : Row
  pub before : History
  pub within : Extends h (row ⊳ before)
  pub begins : IsBegin before row s
  pub allowed : A lay before s

begun_more : (A : Layout → History → ℕ → Type 0) (lay : Layout) (h : History) (r : Row) (s : ℕ) → HasBegun A lay h s → HasBegun A lay (r ⊳ h) s
begun_more A lay h r s x = record { row = x.row; before = x.before; within = inr x.within; begins = x.begins; allowed = x.allowed }

begun_step : (A : Layout → History → ℕ → Type 0) (lay : Layout) (h : History) (r : Row) (s : ℕ) → Lawful lay (r ⊳ h) → Shaped A lay (r ⊳ h) → (IsNamedScx h s → HasBegun A lay h s) → IsNamedScx (r ⊳ h) s → HasBegun A lay (r ⊳ h) s
begun_step A lay h r s l p earlier named = go (effect lay h r l)
  where
    f : Facts lay h
    f = facts_before lay h r l

    old : IsNamedScx h s → HasBegun A lay (r ⊳ h) s
    old q = begun_more A lay h r s (earlier q)

    go : Effect lay h r → HasBegun A lay (r ⊳ h) s
    go (quiet k) = old (named.0, held_back r h _ s (k.info named.0) named.1)
    go (update u w) = old (named.0, update_held f w named.0 s named.1)
    go (freeze u j w) = ⊎_elim (λ e. at_place e.0 (ℕ_discrete j 0)) (λ q. old (named.0, q)) (freeze_held f w named.0 s named.1)
      where
        at_place : s ≡ u → Dec (j ≡ 0) → HasBegun A lay (r ⊳ h) s
        at_place e (yes q) =
            let b : IsBegin h r s = rw e (first_begins lay h r u j f w q) in
            record { row = r; before = h; within = inl refl; begins = b; allowed = shaped_begin A lay h r s p b }
        at_place e (no q) = old (rw e (member h u 0, w.freeze.earlier 0 (omega arith)))

-- an SCX-record that an info word has named has begun
pub has_begun : (A : Layout → History → ℕ → Type 0) (lay : Layout) (h : History) (s : ℕ) → Lawful lay h → Shaped A lay h → s ≢ 0 → IsNamedScx h s → HasBegun A lay h s
has_begun A lay (Opened o) s l p d q = absurd (d (sym (held_start o (info q.0) s q.1) ∙ opening_info o q.0))
has_begun A lay (r ⊳ h) s l p d q = begun_step A lay h r s l p (has_begun A lay h s (lawful_tail lay h r l) (shaped_tail A lay h r p) d) q

-- Entries

-- an SCX-record with an entry has begun
pub entered_begun : (A : Layout → History → ℕ → Type 0) (lay : Layout) (h : History) (s : ℕ) → Lawful lay h → Shaped A lay h → IsEntered (log lay h) s → HasBegun A lay h s
entered_begun A lay h s l p x =
    let f : Facts lay h = facts lay h l in
    let w : HasWon h s = entered_won lay h s l x in
    has_begun A lay h s l p (won_real s f w) (won_named s f w)

begun_makes : (calls : ℕ → MapEdit) (lay : Layout) (h : History) (s : ℕ) → Lawful lay h → HasBegun (GivenAllows calls) lay h s → Makes lay h s (calls s)
begun_makes calls lay h s l x = record { row = x.row; before = x.before; within = x.within; begins = x.begins; edit = begun_edit (AllowsGiven calls lay x.before s) lay x.before x.row s (lawful_since lay h (x.row ⊳ x.before) l x.within) x.begins x.allowed }

pub makes_since : (lay : Layout) (h m : History) (s : ℕ) (e : MapEdit) → Extends h m → Makes lay m s e → Makes lay h s e
makes_since lay h m s e w x = record { row = x.row; before = x.before; within = ends_trans h m (x.row ⊳ x.before) w x.within; begins = x.begins; edit = x.edit }

-- an SCX-record with an entry keeps it
entered_more : (lay : Layout) (h m : History) (s : ℕ) → Lawful lay h → Extends h m → IsEntered (log lay m) s → IsEntered (log lay h) s
entered_more lay (Opened o) m s l e x = subst (λ k. IsEntered (log lay k) s) e x
entered_more lay (r ⊳ h) m s l (inl e) x = subst (λ k. IsEntered (log lay k) s) e x
entered_more lay (r ⊳ h) m s l (inr e) x = go (logs lay h r l) (entered_more lay h m s (lawful_tail lay h r l) e x)
  where
    go : Logs lay h r → IsEntered (log lay h) s → IsEntered (log lay (r ⊳ h)) s
    go (same q _) y = subst (λ es. IsEntered es s) (sym q) y
    go (wins u w q) y = subst (λ es. IsEntered es s) (sym q) (inr y)

-- the edits of the log's entries
pub log_edits : (lay : Layout) (h : History) → IsMapRun lay h → (edits : ℕ → MapEdit) × AreEdits edits lay h
log_edits lay h g = (given.edits, makes)
  where
    given : HasEdits lay h
    given = edits_of lay h g

    makes : AreEdits given.edits lay h
    makes s p =
        let x = entered_begun (GivenAllows given.edits) lay h s g.1.lawful given.shaped p in
        begun_makes given.edits lay h s g.1.lawful x

pub run_since : (lay : Layout) (h m : History) → IsMapRun lay h → Extends h m → IsMapRun lay m
run_since lay h m g e = (g.0, record { lawful = lawful_since lay h m g.1.lawful e; shaped = shaped_since TreeAllows lay h m g.1.shaped e })

-- A winning update

module _ (calls : ℕ → MapEdit) (lay : Layout) (h : History) (r : Row) (u : ℕ) (now : IsGrown calls lay (r ⊳ h)) (w : UpdateWins h r u) where
  grown_then : IsGrown calls lay h
  grown_then = grown_tail calls lay h r now

  f : Facts lay h
  f = facts lay h grown_then.lawful

  t : TreeFacts calls lay h
  t = tree_facts calls lay h grown_then

  map_then : (ps : List Pair) → Spells lay (value h) ps → ps ≡ map_of_log calls (first_pairs h) (log lay h)
  map_then ps s = one_spelling lay (value h) ps (map_of_log calls (first_pairs h) (log lay h)) s (spells calls lay h grown_then)

  makes : Makes lay h u (calls u)
  makes =
      let x : HasBegun (GivenAllows calls) lay h u = has_begun (GivenAllows calls) lay h u grown_then.lawful grown_then.shaped (some_is_real f (update_flagged f w).some) (member h u 0, (update_flagged f w).frozen 0 (update_flagged f w).some) in
      begun_makes calls lay h u grown_then.lawful x

  changing : (ps : List Pair) → Spells lay (value h) ps → Spells lay (value (r ⊳ h)) (edited (calls u) ps)
  changing ps s =
      let d : map_of_log calls (first_pairs (r ⊳ h)) (log lay (r ⊳ h)) ≡ edited (calls u) (map_of_log calls (first_pairs h) (log lay h)) = content_now calls lay h r u f w now.mode now.lawful t in
      subst (Spells lay (value (r ⊳ h))) (d ∙ ap (edited (calls u)) (sym (map_then ps s))) (spells calls lay (r ⊳ h) now)

  replying : (ps : List Pair) → Spells lay (value h) ps → get (edit_key (calls u)) ps ≡ said (value h) (edit_key (calls u)) (edit_leaf h u (calls u))
  replying ps s =
      ap (get (edit_key (calls u))) (map_then ps s) ∙ replies calls lay h r u f w now.mode now.lawful t

  win_given : IsEditAt lay h r u (calls u)
  win_given = record { makes = makes; changes = changing; replies = replying }

-- other rows leave what is spelled
pub quiet_spells : (lay : Layout) (h : History) (r : Row) (ps : List Pair) → IsMapRun lay (r ⊳ h) → log lay (r ⊳ h) ≡ log lay h → Spells lay (value h) ps → Spells lay (value (r ⊳ h)) ps
quiet_spells lay h r ps g e s =
    let calls : ℕ → MapEdit = (edits_of lay (r ⊳ h) g).edits in
    let now : IsGrown calls lay (r ⊳ h) = grown lay (r ⊳ h) g in
    let d : ps ≡ map_of_log calls (first_pairs h) (log lay h) = one_spelling lay (value h) ps (map_of_log calls (first_pairs h) (log lay h)) s (spells calls lay h (grown_tail calls lay h r now)) in
    subst (Spells lay (value (r ⊳ h))) (ap (map_of_log calls (first_pairs h)) e ∙ sym d) (spells calls lay (r ⊳ h) now)

-- Walks

pub walk_first : (lay : Layout) (h : History) (k : ℕ) → IsMapRun lay h → Passed h h k 0
walk_first lay h k g = walk_begins (edits_of lay h g).edits lay h k (grown lay h g)

pub walk_next : (lay : Layout) (h start : History) (k n : ℕ) → IsMapRun lay h → Passed h start k n → Stays lay (value h) k n → is_leaf (value h) n ≡ false → Passed h start k (value h (child n (toward (value h) n k)))
walk_next lay h start k n g p stay d = walk_goes_on (edits_of lay h g).edits lay h start k n (grown lay h g) p stay d

pub walk_answers : (lay : Layout) (h start : History) (k n : ℕ) → k < 2 ^ 64 → IsMapRun lay h → Passed h start k n → is_leaf (value h) n ≡ true → IsAnswerAt lay h start k (said (value h) k n)
walk_answers lay h start k n small g p d =
    let calls : ℕ → MapEdit = (edits_of lay h g).edits in
    let x : Answered calls lay h start k (said (value h) k n) = walk_ends calls lay h start k n small (grown lay h g) p d in
    record {
      moment = x.moment;
      within = x.within;
      since = x.since;
      map = map_of_log calls (first_pairs x.moment) (log lay x.moment);
      spelled = spells calls lay x.moment (grown_since calls lay h x.moment x.within (grown lay h g));
      gives = x.gives;
    }

-- The entry of an SCX-record that is known to make an edit

pub wins_of : (lay : Layout) (before : History) (row : Row) (s : ℕ) → Lawful lay (row ⊳ before) → IsWin before row s → UpdateWins before row s
wins_of lay before row s l w = record { kind = w.kind; update = w.update; before = (lawful_row lay before row l).before; found = w.found; stored = w.update.exchange.won w.found }

-- whatever edit it is said to make, it leaves the map that this edit leaves
pub update_makes : (lay : Layout) (h before : History) (row : Row) (s : ℕ) (e : MapEdit) → IsMapRun lay h → Extends h (row ⊳ before) → UpdateWins before row s → Makes lay h s e → IsEditAt lay before row s e
update_makes lay h before row s e g w won x = subst (IsEditAt lay before row s) (ap (λ b. cond b e (given s)) (eq-eqb s s refl)) (win_given calls lay before row s (grown_since calls lay h (row ⊳ before) w whole) won)
  where
    given : ℕ → MapEdit
    given = (edits_of lay h g).edits

    calls : ℕ → MapEdit
    calls = with_edit s e given

    whole : IsGrown calls lay h
    whole = record { mode = g.0; lawful = g.1.lawful; shaped = edit_told lay h s e given g.1.lawful x (edits_of lay h g).shaped }

pub win_makes : (lay : Layout) (h before : History) (row : Row) (s : ℕ) (e : MapEdit) → IsMapRun lay h → Extends h (row ⊳ before) → IsWin before row s → Makes lay h s e → IsEditAt lay before row s e
win_makes lay h before row s e g w won x = update_makes lay h before row s e g w (wins_of lay before row s (lawful_since lay h (row ⊳ before) g.1.lawful w) won) x

-- The map of the log

spells_row : (lay : Layout) (h m : History) (r : Row) (edits : ℕ → MapEdit) → IsMapRun lay h → AreEdits edits lay h → Extends h (r ⊳ m) → Spells lay (value m) (map_of_log edits (first_pairs m) (log lay m)) → Spells lay (value (r ⊳ m)) (map_of_log edits (first_pairs (r ⊳ m)) (log lay (r ⊳ m)))
spells_row lay h m r edits g a e then = go (logs lay m r run.1.lawful)
  where
    run : IsMapRun lay (r ⊳ m)
    run = run_since lay h (r ⊳ m) g e

    go : Logs lay m r → Spells lay (value (r ⊳ m)) (map_of_log edits (first_pairs (r ⊳ m)) (log lay (r ⊳ m)))
    go (same q _) = subst (Spells lay (value (r ⊳ m))) (sym (ap (map_of_log edits (first_pairs m)) q)) (quiet_spells lay m r _ run q then)
    go (wins u w q) =
        let entry : IsEntered (log lay (r ⊳ m)) u = subst (λ es. IsEntered es u) (sym q) (inl refl) in
        let made = update_makes lay h m r u (edits u) g e w (a u (entered_more lay h (r ⊳ m) u g.1.lawful e entry)) in
        subst (Spells lay (value (r ⊳ m))) (sym (ap (map_of_log edits (first_pairs m)) q)) (made.changes _ then)

-- after each row the words spell the map of the log so far
pub spells_log : (lay : Layout) (h : History) (edits : ℕ → MapEdit) → IsMapRun lay h → AreEdits edits lay h → SpellsLog edits lay h
spells_log lay h edits g a (Opened o) e = subst (Spells lay (value (Opened o))) (sym (start_log edits lay o)) (start_spells lay o (run_since lay h (Opened o) g e))
spells_log lay h edits g a (r ⊳ m) e = spells_row lay h m r edits g a e (spells_log lay h edits g a m (ends_trans h (r ⊳ m) m e (inr (ends_self m))))

-- a leaf below the root is above all keys
pub below_root : (lay : Layout) (h : History) (k : ℕ) → IsMapRun lay h → k < 2 ^ 64 → is_leaf (value h) (value h (child 0 (toward (value h) 0 k))) ≡ true → class (value h) (value h (child 0 (toward (value h) 0 k))) ≡ 0 → ⊥
below_root lay h k g small leaf low =
    let e : toward (value h) 0 k ≡ Left = root_left (edits_of lay h g).edits lay h k (grown lay h g) small in
    root_leaf (edits_of lay h g).edits lay h (grown lay h g) (subst (λ s. is_leaf (value h) (value h (child 0 s)) ≡ true) e leaf) (subst (λ s. class (value h) (value h (child 0 s)) ≡ 0) e low)

-- The leaf of an edit

-- what has begun keeps its plan
begun_plan : (lay : Layout) (h : History) (s : ℕ) (e : MapEdit) → Lawful lay h → (x : Makes lay h s e) → plan h s ≡ plan x.before s
begun_plan lay h s e l x =
    let first : IsFirst lay x.before x.row s = begins_once lay x.before x.row s (lawful_since lay h (x.row ⊳ x.before) l x.within) x.begins in
    let real : s ≢ 0 = λ z. let i = first.own.from in omega (arith, i, z) in
    let named : IsNamedScx (x.row ⊳ x.before) s = (member x.before s 0, begin_names x.before x.row s x.begins) in
    scx_since lay h (x.row ⊳ x.before) s l x.within real named Plan tt ∙ value_apart x.row x.before (info (member x.before s 0)) (scx s Plan) x.begins.word refl

-- of the four nodes that it covers to take a leaf out the leaf is one of the last two
pub leaf_taken_out : (h : History) (s : ℕ) (e : MapEdit) (side : Side) → plan h s ≡ join_plan side → edit_leaf h s e ≡ member h s (leaf_place (toward (value h) (member h s 1) (edit_key e)))
leaf_taken_out h s e side p = let says = join_plan_says (plan h s) side p in rw (says.3, says.6) refl

-- where node 2 is the last of them, it is what the second has on its side
pub leaf_taken_at_end : (h : History) (s : ℕ) (e : MapEdit) (side : Side) → plan h s ≡ end_join_plan side → edit_leaf h s e ≡ value h (child (member h s 1) (toward (value h) (member h s 1) (edit_key e)))
leaf_taken_at_end h s e side p = let says = end_join_plan_says (plan h s) side p in rw (says.3, says.6) refl

-- it covers the leaf of its edit; but one that takes the leaf at an end of a trie out does not
pub leaf_covered : (lay : Layout) (h : History) (s : ℕ) (e : MapEdit) → Lawful lay h → (lay.mode ≡ TreeMode) ⊎ (count h s ≢ 4) → Makes lay h s e → IsMember h s (edit_leaf h s e)
leaf_covered lay h s e l kind x = go (ℕ_discrete (count h s) 4) x.edit.edit
  where
    few : (side : Side) → leaf_place side < 4
    few Left = omega arith
    few Right = omega arith

    same : plan h s ≡ plan x.before s
    same = begun_plan lay h s e l x

    second : 1 < count h s → count h s ≢ 4 → IsMember h s (edit_leaf h s e)
    second more not_four = record { index = 1; within = more; is = rw (ne_eqb (count h s) 4 not_four) refl }

    out : TakesLeafOut x.before s e (toward (value x.before) (member x.before s 1) (edit_key e)) → count h s ≡ 4 → IsMember h s (edit_leaf h s e)
    out y four =
        let last : scx_finalizes h s 3 ≡ true = ap (λ p. plan_finalizes p 3) same ∙ (join_plan_says _ _ y.plan).6 in
        record {
          index = leaf_place (toward (value h) (member h s 1) (edit_key e));
          within = rw four (few (toward (value h) (member h s 1) (edit_key e)));
          is = rw (eq-eqb (count h s) 4 four, last) refl;
        }

    many : (n : ℕ) → count_of (plan x.before s) ≡ n → count h s ≡ n
    many n q = ap count_of same ∙ q

    go : Dec (count h s ≡ 4) → IsEdit lay x.before s e → IsMember h s (edit_leaf h s e)
    go (yes four) (inl y) = absurd (let two = many 2 (leaf_plan_says _ _ y.plan).3 in omega (arith, two, four))
    go (yes four) (inr (inl y)) = out y four
    go (yes four) (inr (inr y)) = absurd (⊎_elim (λ tree. let q : TreeMode ≡ TrieMode = sym tree ∙ y.0 in cc) (λ d. d four) kind)
    go (no d) (inl y) = second (rw (many 2 (leaf_plan_says _ _ y.plan).3) (omega arith)) d
    go (no d) (inr (inl y)) = absurd (d (many 4 (join_plan_says _ _ y.plan).3))
    go (no d) (inr (inr (m, inl y))) = second (rw (many 2 (leaf_plan_says _ _ y.plan).3) (omega arith)) d
    go (no d) (inr (inr (m, inr (inl y)))) = second (rw (many 3 (end_leaf_plan_says _ _ y.plan).3) (omega arith)) d
    go (no d) (inr (inr (m, inr (inr (inl y))))) = absurd (d (many 4 (end_join_plan_says _ _ y.plan).3))
    go (no d) (inr (inr (m, inr (inr (inr y))))) = second (rw (many 2 (above_plan_says _ _ y.plan).3) (omega arith)) d
