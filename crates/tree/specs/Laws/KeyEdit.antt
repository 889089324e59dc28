-- What an edit looks at, reads and fills, and that it makes its edit: where it changes anything, it
-- does at its key what leaves its value there.
use Rattle.std.proofs.Common.{◌≡◌, ◌≢◌, ℕ, ◌^◌, ◌<◌, inl, Bool, true, false, cond, List, Option, Some, None, refl, sym, ◌∙◌, ap, subst, arith}
use Rattle.histories.specs.Common.{History, value, Call, Side, begun_at}
use Rattle.template.specs.Common.{snap_at, IsUpdateOver, Snap, Update, edit_key, edit_to, leaves, IsMapRun, class, Goal, Key, End, Rule, FoundBy, HasFoundGoal, MayGo, applies, asked_key, asked_in, path_key}
use Rattle.ordered_map.proofs.MapLemmas.{run_since}
use Rattle.template.specs.declared.walk.Found.{Found}
use Rattle.template.proofs.Lemmas.{found_own, found_small, parent_surely, said_low}
use Rattle.tree.specs.declared.key_edit.KeyEdit.{KeyEdit}
use Rattle.tree.specs.KeyEdit.Laws.{key_bounds, leaving_bounds}
use Rattle.tree.specs.KeyEdit.Means.{doing, is_trie_end, key_at, key_means, leaving, part, popping, putting, taking, wants, way_by, way_of}
use Rattle.tree.specs.Laws.Pop.Sound.{pop_laws}
use Rattle.tree.specs.Laws.Put.Sound.{put_laws}
use Rattle.tree.specs.Laws.Take.Sound.{take_laws}
use Rattle.tree.specs.Pop.Means.{pop_means}
use Rattle.tree.specs.Put.Means.{put_means}
use Rattle.tree.specs.Take.Means.{take_means}
use Rattle.edits.specs.declared.edit.Nodes.{Nodes}
use Rattle.edits.specs.declared.edit.Work.{Work}
use Rattle.edits.specs.declared.reading.Reading.{Reading}
use Rattle.edits.specs.Edits.{EditBounds, EditMeaning, covering, through}
use Rattle.template.specs.declared.walk.Way.TheVariants.{InTree, InTrie, Within}
use Rattle.edits.specs.Known.{CoversEnd, CoversLeaf, Guarded, HasFilledAll, HasLooked, HasSnappedAfterWalk, IsNeeded, StandInRow}
use Rattle.edits.specs.Pieces.{no_work, update_for}
use Rattle.edits.specs.Sound.{EditLaws, FillsWell, LooksWell, MakesWell}

-- At a key

-- what does at each of its keys what another edit does has its laws: `of` is the other one there
module _ {E F : Type 0} (m : EditMeaning E) (of : F → E) (laws : EditLaws m) where
  looks_through : LooksWell (through m of)
  looks_through = record { there = λ e. laws.looks.there (of e); stood = λ e. laws.looks.stood (of e); differs = λ e. laws.looks.differs (of e); reads = λ e. laws.looks.reads (of e) }

  makes_through : MakesWell (through m of)
  makes_through = record { over = λ e. laws.makes.over (of e); leaf = λ e. laws.makes.leaf (of e); ends = λ e. laws.makes.ends (of e); promised = λ e. laws.makes.promised (of e) }

  laws_through : EditBounds (through m of) → EditLaws (through m of)
  laws_through bounds = record { at_found = λ e. laws.at_found (of e); at_end = λ e. laws.at_end (of e); bounds = bounds; looks = looks_through; fills = record { fields = λ e. laws.fills.fields (of e) }; makes = makes_through }

-- what leaves this to a key
pub leaving_laws : (end trie : Bool) (left : Option ℕ) → EditLaws (leaving end trie left)
leaving_laws end in_trie (Some value) = laws_through put_means (λ key. putting in_trie key value) put_laws (leaving_bounds end in_trie (Some value))
leaving_laws false in_trie None = laws_through take_means (taking in_trie) take_laws (leaving_bounds false in_trie None)
leaving_laws true in_trie None = laws_through pop_means popping pop_laws (leaving_bounds true in_trie None)

-- At a goal

-- the edit that leaves this to a key is of that key, and leaves it
pub at_goal : (left : Option ℕ) (key : ℕ) → edit_key (edit_to key left) ≡ key
at_goal None key = refl
at_goal (Some value) key = refl

-- a rule that changes something at an end has found a pair
end_there : (side : Side) (rule : Rule) (told : Option ℕ) → wants (End side) rule told ≡ true → (v : ℕ) × (told ≡ Some v)
end_there side rule None wanted = cc
end_there side rule (Some v) wanted = (v, refl)

-- so the leaf there has a key
has_key : (side : Side) (c : Call) (f : Found) (rule : Rule) → wants (End side) rule f.value ≡ true → (m : History) → HasFoundGoal (End side) c m f → f.head.class ≡ 0
has_key side c f rule wanted m a =
    let there : (old : ℕ) × (f.value ≡ Some old) = end_there side rule f.value wanted in
    let low : class (value m) f.trail.node.0 ≡ 0 = said_low (value m) (asked_in (End side) (value m) f.trail.node.0) f.trail.node.0 there.0 (sym there.1 ∙ a.says) in
    sym (ap (λ w. w.class) a.head) ∙ low

-- a leaf that was found at a goal is that of its key
own_leaf : (goal : Goal) (c : Call) (f : Found) (rule : Rule) → wants goal rule f.value ≡ true → (m : History) → IsMapRun c.layout m → HasFoundGoal goal c m f → HasFoundGoal (Key (asked_key goal f.key)) c m f
own_leaf (Key k) c f rule wanted m run a = a
own_leaf (End side) c f rule wanted m run a = found_own side c m f run a (has_key side c f rule wanted m a)

-- a rule that puts in nothing where there was none has found a value
found_there : (k : ℕ) (rule : Rule) (f : Found) → wants (Key k) rule f.value ≡ true → applies rule None ≡ false → f.value ≢ None
found_there k rule f wanted absent none = let x : true ≡ false = sym (subst (λ (o : Option ℕ). applies rule o ≡ true) none wanted) ∙ absent in cc

-- so it is by the way of what it does at that key
module _ (c : Call) (f : Found) (rule : Rule) where
  own_found : (goal : Goal) (trie : Bool) (left : Option ℕ) (absent : Bool) → applies rule None ≡ absent → wants goal rule f.value ≡ true → (m : History) → IsMapRun c.layout m → path_key goal < 2 ^ 64 → MayGo c.layout (way_by goal trie left absent) goal → FoundBy (way_by goal trie left absent) goal c m f → FoundBy ((doing (is_trie_end goal trie) trie left).way (asked_key goal f.key)) (Key (asked_key goal f.key)) c m f
  own_found (Key k) false None absent is wanted m run small may a = a
  own_found (Key k) false (Some v) absent is wanted m run small may a = a
  own_found (Key k) true None absent is wanted m run small may a = a
  own_found (Key k) true (Some v) true is wanted m run small may a = a
  own_found (Key k) true (Some v) false is wanted m run small may a = inl record { found = a; stays = λ d. (parent_surely c m k f small run a (found_there k rule f wanted is)).stays }
  own_found (End side) false None absent is wanted m run small may a = own_leaf (End side) c f rule wanted m run a
  own_found (End side) false (Some v) absent is wanted m run small may a = own_leaf (End side) c f rule wanted m run a
  own_found (End side) true None absent is wanted m run small may a = own_leaf (End side) c f rule wanted m run a
  own_found (End side) true (Some v) absent is wanted m run small may a = absurd may

  own_may : (goal : Goal) (trie : Bool) (left : Option ℕ) (absent : Bool) → MayGo c.layout (way_by goal trie left absent) goal → MayGo c.layout ((doing (is_trie_end goal trie) trie left).way (asked_key goal f.key)) (Key (asked_key goal f.key))
  own_may (Key k) false None absent may = may
  own_may (Key k) false (Some v) absent may = may
  own_may (Key k) true None absent may = may
  own_may (Key k) true (Some v) true may = may
  own_may (Key k) true (Some v) false may = may
  own_may (End side) false None absent may = may
  own_may (End side) false (Some v) absent may = may
  own_may (End side) true None absent may = may
  own_may (End side) true (Some v) absent may = absurd may

  own_small : (goal : Goal) (trie : Bool) (left : Option ℕ) (absent : Bool) (h : History) → IsMapRun c.layout h → path_key goal < 2 ^ 64 → MayGo c.layout (way_by goal trie left absent) goal → FoundBy (way_by goal trie left absent) goal c h f → asked_key goal f.key < 2 ^ 64
  own_small (Key k) in_trie left absent h run small may found = small
  own_small (End side) false left absent h run small may found = found_small (End side) c h f run small found
  own_small (End side) true None absent h run small may found = found_small (End side) c h f run small found
  own_small (End side) true (Some v) absent h run small may found = absurd may

-- at an end of a trie it has a guard
end_guarded : (goal : Goal) (trie : Bool) (left : Option ℕ) (absent : Bool) (side : Side) → goal ≡ End side → way_by goal trie left absent ≡ InTrie → (leaving (is_trie_end goal trie) trie left).guard 0 ≡ true
end_guarded (Key k) in_trie left absent side is by = absurd (let x : Key k ≡ End side = is in cc)
end_guarded (End end) false left absent side is by = absurd (let x : InTree ≡ InTrie = by in cc)
end_guarded (End end) true None absent side is by = refl
end_guarded (End end) true (Some v) absent side is by = absurd (let x : Within ≡ InTrie = by in cc)

-- what there is to do where something is wanted
is_wanted : (b : Bool) (work : Work) → 0 < (cond b work no_work).need → b ≡ true
is_wanted true work some = refl
is_wanted false work some = absurd (omega (arith, some))

module _ {G R : Type 0} (goal : G → Goal) (trie : G → Bool) (rule : R → Rule) where
  abbrev Edit : Type 0
  Edit = KeyEdit G R

  abbrev at : Edit → Found → ℕ
  at e f = key_at goal trie rule e f

  abbrev does : Edit → EditMeaning ℕ
  does e = part goal trie rule e

  abbrev laws_of : (e : Edit) → EditLaws (part goal trie rule e)
  laws_of e = leaving_laws (is_trie_end (goal e.goal) (trie e.goal)) (trie e.goal) (leaves (rule e.rule))

  abbrev IsNeeding : Edit → Found → Type 0
  IsNeeding e f = 0 < ((key_means goal trie rule).work e f).need

  module _ (e : Edit) (f : Found) (needed : IsNeeding e f) where
    wanted : wants (goal e.goal) (rule e.rule) f.value ≡ true
    wanted = is_wanted (wants (goal e.goal) (rule e.rule) f.value) ((does e).work (at e f) f) needed

    pub same_work : (key_means goal trie rule).work e f ≡ (does e).work (at e f) f
    same_work = ap (λ b. cond b ((does e).work (at e f) f) no_work) wanted

    own_needed : 0 < ((does e).work (at e f) f).need
    own_needed = subst (λ (w : Work). 0 < w.need) same_work needed

    -- what was looked at serves what it does there
    pub own_looked : (c : Call) (h : History) (snaps : List Snap) → IsMapRun c.layout h → HasLooked (key_means goal trie rule) c h e f snaps → HasLooked (does e) c h (at e f) f snaps
    own_looked c h snaps run x = record {
      small = own_small c f (rule e.rule) (goal e.goal) (trie e.goal) (leaves (rule e.rule)) (applies (rule e.rule) None) h run x.small x.may x.found;
      may = own_may c f (rule e.rule) (goal e.goal) (trie e.goal) (leaves (rule e.rule)) (applies (rule e.rule) None) x.may;
      found = own_found c f (rule e.rule) (goal e.goal) (trie e.goal) (leaves (rule e.rule)) (applies (rule e.rule) None) refl wanted h run x.small x.may x.found;
      usable = λ i p. own_snapped (snap_at snaps i) (x.usable i p);
      seen = x.seen;
    }
      where
        own_snapped : (s : Snap) → HasSnappedAfterWalk c h (way_of (goal e.goal) (trie e.goal) (rule e.rule)) (goal e.goal) f s → HasSnappedAfterWalk c h ((does e).way (at e f)) (Key (at e f)) f s
        own_snapped s u = record { moment = u.moment; within = u.within; since = u.since; found = own_found c f (rule e.rule) (goal e.goal) (trie e.goal) (leaves (rule e.rule)) (applies (rule e.rule) None) refl wanted u.moment (run_since c.layout h u.moment run u.within) x.small x.may u.found; stood = u.stood; is = u.is; met = u.met }

    -- and so is what was found of the call from its guard on
    pub own_guarded : (c : Call) (h : History) (snap : Snap) {snaps : List Snap} → IsMapRun c.layout h → HasLooked (key_means goal trie rule) c h e f snaps → Guarded (key_means goal trie rule) e c h snap (λ k. FoundBy (way_of (goal e.goal) (trie e.goal) (rule e.rule)) (goal e.goal) k h f) → Guarded (does e) (at e f) c h snap (λ k. FoundBy ((does e).way (at e f)) (Key (at e f)) k h f)
    own_guarded c h snap run x guarded is = let y = guarded is in (y.0, y.1, own_found (begun_at c y.0) f (rule e.rule) (goal e.goal) (trie e.goal) (leaves (rule e.rule)) (applies (rule e.rule) None) refl wanted h run x.small x.may y.2)

    own_filled : (c : Call) (h : History) (snaps : List Snap) (ns : Nodes) (read : Reading) → IsMapRun c.layout h → HasFilledAll (key_means goal trie rule) c h e f snaps ns read → HasFilledAll (does e) c h (at e f) f snaps ns read
    own_filled c h snaps ns read run x = record {
      looked = own_looked c h snaps run x.looked;
      enough = x.enough;
      in_order = subst (λ (w : Work). StandInRow w.need ns) same_work x.in_order;
      right = x.right;
      whole = x.whole;
      holds = λ i n. x.holds i (subst (λ (w : Work). IsNeeded w.need i) (sym same_work) n);
    }

    own_update : (snaps : List Snap) (ns : Nodes) → update_for ((key_means goal trie rule).work e f) snaps ns ≡ update_for ((does e).work (at e f) f) snaps ns
    own_update snaps ns = ap (λ (w : Work). update_for w snaps ns) same_work

  key_looks : LooksWell (key_means goal trie rule)
  key_looks = record {
    there = λ e c h f snaps n run d x is. (laws_of e).looks.there (at e f) c h f snaps n run (own_needed e f d) (own_looked e f d c h snaps run x) is;
    stood = λ e c h f snaps n run d x is. (laws_of e).looks.stood (at e f) c h f snaps n run (own_needed e f d) (own_looked e f d c h snaps run x) is;
    differs = λ e c h f snaps n s run d x is quiet. (laws_of e).looks.differs (at e f) c h f snaps n s run (own_needed e f d) (own_looked e f d c h snaps run x) is quiet;
    reads = λ e c h f snaps y run d x enough is. (laws_of e).looks.reads (at e f) c h f snaps y run (own_needed e f d) (own_looked e f d c h snaps run x) enough is;
  }

  key_fills : FillsWell (key_means goal trie rule)
  key_fills = record {
    fields = λ e c h f snaps ns read nth side run x enough n p.
        let d : IsNeeding e f = omega (arith, n) in
        (laws_of e).fills.fields (at e f) c h f snaps ns read nth side run (own_looked e f d c h snaps run x) enough (subst (λ (w : Work). IsNeeded w.need nth) (same_work e f d) n) p;
  }

  key_makes : MakesWell (key_means goal trie rule)
  key_makes = record {
    over = λ e c h f snaps guard ns run d x enough two. subst IsUpdateOver (sym (own_update e f d (covering ((does e).guard 0) snaps guard) ns)) ((laws_of e).makes.over (at e f) c h f snaps guard ns run (own_needed e f d) (own_looked e f d c h snaps run x) enough two);
    leaf = λ e c h f snaps guard ns s run d x enough. subst (λ (u : Update). CoversLeaf (key_means goal trie rule) e f c h s u) (sym (own_update e f d (covering ((does e).guard 0) snaps guard) ns)) ((laws_of e).makes.leaf (at e f) c h f snaps guard ns s run (own_needed e f d) (own_looked e f d c h snaps run x) enough);
    ends = λ e c h f snaps guard ns s run d x enough is. subst (λ (u : Update). CoversEnd f c h s u) (sym (own_update e f d (covering ((does e).guard 0) snaps guard) ns)) ((laws_of e).makes.ends (at e f) c h f snaps guard ns s run (own_needed e f d) (own_looked e f d c h snaps run x) enough is);
    promised = λ e c h f snaps guard ns read j d run n x two is says. (laws_of e).makes.promised (at e f) c h f snaps guard ns read j d run (own_needed e f n) (own_filled e f n c h snaps ns read run x) two (is ∙ own_update e f n (covering ((does e).guard 0) snaps guard) ns) says;
  }

  -- it is an edit that an update can make
  pub key_laws : EditLaws (key_means goal trie rule)
  key_laws = record { at_found = λ e f. at_goal (leaves (rule e.rule)) (at e f); at_end = λ e side is by. end_guarded (goal e.goal) (trie e.goal) (leaves (rule e.rule)) (applies (rule e.rule) None) side is by; bounds = key_bounds goal trie rule; looks = key_looks; fills = key_fills; makes = key_makes }
