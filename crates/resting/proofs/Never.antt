-- Which nodes have never been in the tree or the trie. Only an update of its own pass puts in a node
-- that nothing has named.
use Rattle.std.proofs.Common.{◌≡◌, ◌≢◌, ◌<◌, ◌⊎◌, ℕ, Bool, true, false, inl, inr, ⊎_elim, refl, sym, ◌∙◌, ap, subst, arith}
use native.Mathlib.Decide.{ℕ_discrete}
use Rattle.histories.specs.Common.{Layout, Side, NodeWord, Settled, Child, Info, Marked, AllFrozen, New, Kind, Fill, Update, Row, same_word, node, scx, info, marked, child, state, History, Opened, ◌⊳◌, Extends, HasHeld, value, member, new, field, IsNamed, by_scx, IsNamedScx, IsOwnNode, IsOwnScx, IsWin, MayFill, Obeys, Lawful}
use Rattle.arena.proofs.Lemmas.{ends_self, ends_trans, held_at, held_since, node_word_apart, value_apart, value_at, value_quiet, word_same}
use Rattle.histories.proofs.Lemmas.{Change, Facts, UpdateWins, aborts, change, commits, facts_before, fills_node, fills_scx, freezes, lawful_row, lawful_since, lawful_tail, marks, named_more, named_since, nothing, one_node_owner, sets_frozen, some_is_real, some_open, start_nodes, update_flagged, update_win, updates, value_start}
use Rattle.ordered_map.specs.Paths.{WasInTree}
use Rattle.ordered_map.specs.Runs.{IsMapRun}
use Rattle.ordered_map.proofs.MapLemmas.{run_since, stood_in_field}
use Rattle.prims.specs.Laws.Linked.{in_field_named}
use Rattle.edits.specs.Tries.{HasEnteredNone, HasEnteredOnly}
use Rattle.touching.proofs.Lemmas.{IsMadeAt, IsPutIn, put_or_stood, word_then}

-- a node that is not named
pub unnamed_never : (lay : Layout) (h : History) (n : ℕ) → IsMapRun lay h → ¬ IsNamed lay h n → ¬ WasInTree h n
unnamed_never lay h n run free was = free (in_field_named n (stood_in_field lay h n run was))

-- a row other than an update leaves it so
pub never_more : (lay : Layout) (h : History) (r : Row) (n : ℕ) → IsMapRun lay (r ⊳ h) → r.kind ≢ Update → ¬ WasInTree h n → ¬ WasInTree (r ⊳ h) n
never_more lay h r n run other never was = ⊎_elim never (λ y. other y.wins.kind) (put_or_stood lay h r n run was)

-- nor was one that a row fills
pub filled_never : (lay : Layout) (h : History) (r : Row) (n : ℕ) (part : NodeWord) → IsMapRun lay (r ⊳ h) → r.kind ≡ Fill → r.word ≡ node n part → ¬ WasInTree (r ⊳ h) n
filled_never lay h r n part run kind word = never_more lay h r n run (λ e. let z : Fill ≡ Update = sym kind ∙ e in cc) (unnamed_never lay h n (run_since lay (r ⊳ h) h run (inr (ends_self h))) (go part may))
  where
    any : MayFill lay h r.pass.0 r.word r.after
    any = subst (λ (a : Kind). Obeys lay h r a) kind (lawful_row lay h r run.1.lawful).obeys

    may : MayFill lay h r.pass.0 (node n part) r.after
    may = subst (λ w. MayFill lay h r.pass.0 w r.after) word any

    go : (part : NodeWord) → MayFill lay h r.pass.0 (node n part) r.after → ¬ IsNamed lay h n
    go (Settled a) m = m.unnamed
    go (Child side) m = m.0.unnamed
    go Info m = absurd m
    go Marked m = absurd m

-- Who put it there

-- a row that has filled a field with the node
pub record IsFilledField (h : History) (m : ℕ) (side : Side) (n : ℕ) : Type 0 where
  pub row : Row
  pub before : History
  pub within : Extends h (row ⊳ before)
  pub kind : row.kind ≡ Fill
  pub word : row.word ≡ child m side
  pub after : row.after ≡ n

-- the node is named, or a fill has put it there
abbrev IsPutThere : Layout → History → ℕ → Side → ℕ → Type 0
IsPutThere lay h m side n = IsNamed lay h n ⊎ IsFilledField h m side n

-- so it is after the row if that leaves the field
abbrev IfLeft : Layout → History → Row → ℕ → Side → ℕ → Type 0
IfLeft lay h r m side n = value (r ⊳ h) (child m side) ≡ value h (child m side) → IsPutThere lay (r ⊳ h) m side n

-- so it is with what a field of a pass's own node holds
filled_field : (lay : Layout) (h : History) (p m : ℕ) (side : Side) (n : ℕ) → Lawful lay h → IsOwnNode lay p m → value h (child m side) ≡ n → n ≢ 0 → IsPutThere lay h m side n
filled_field lay (Opened o) p m side n l own e d = absurd (d (sym e ∙ value_start o (child m side) ∙ o.beyond m (Child side) (let few = start_nodes lay o l in let a = own.from in omega (arith, few, a))))
filled_field lay (r ⊳ h) p m side n l own e d = go (change lay h r l) (λ same. more (filled_field lay h p m side n (lawful_tail lay h r l) own (sym same ∙ e) d))
  where
    more : IsPutThere lay h m side n → IsPutThere lay (r ⊳ h) m side n
    more (inl q) = inl (named_more r q)
    more (inr x) = inr record { row = x.row; before = x.before; within = inr x.within; kind = x.kind; word = x.word; after = x.after }

    by_fill : (k : ℕ) (part : NodeWord) → r.kind ≡ Fill → r.word ≡ node k part → (b : Bool) → same_word (node k part) (child m side) ≡ b → IfLeft lay h r m side n → IsPutThere lay (r ⊳ h) m side n
    by_fill k part kind w false q before = before (value_apart r h (node k part) (child m side) w q)
    by_fill k part kind w true q before =
        let here : r.word ≡ child m side = w ∙ word_same (node k part) (child m side) q in
        inr record { row = r; before = h; within = inl refl; kind = kind; word = here; after = sym (value_at r h (child m side) here) ∙ e }

    by_update : (u : ℕ) → UpdateWins h r u → (b : Bool) → same_word (field h u) (child m side) ≡ b → IfLeft lay h r m side n → IsPutThere lay (r ⊳ h) m side n
    by_update u w false q before = before (value_apart r h (field h u) (child m side) w.update.word q)
    by_update u w true q before =
        let f : Facts lay h = facts_before lay h r l in
        let named : IsNamedScx h u = (member h u 0, (update_flagged f w).frozen 0 (update_flagged f w).some) in
        let here : r.word ≡ child m side = w.update.word ∙ word_same (field h u) (child m side) q in
        inl (named_more r (by_scx u New named tt (held_at h (scx u New) n (sym w.stored ∙ sym (value_at r h (child m side) here) ∙ e))))

    go : Change lay h r → IfLeft lay h r m side n → IsPutThere lay (r ⊳ h) m side n
    go (nothing i a) before = before (value_quiet r h (lawful_row lay h r l).before a (child m side))
    go (fills_node k part x) before = by_fill k part x.kind x.word (same_word (node k part) (child m side)) refl before
    go (fills_scx t part x) before = before (value_apart r h (scx t part) (child m side) x.word refl)
    go (freezes t j w) before = before (value_apart r h (info (member h t j)) (child m side) w.freeze.word (node_word_apart (member h t j) m Info (Child side) refl))
    go (sets_frozen t k x) before = before (value_apart r h (scx t AllFrozen) (child m side) x.word refl)
    go (marks t j k x) before = before (value_apart r h (marked (member h t j)) (child m side) x.word (node_word_apart (member h t j) m Marked (Child side) refl))
    go (updates t w) before = by_update t w (same_word (field h t) (child m side)) refl before
    go (commits t k x) before = before (value_apart r h (state t) (child m side) x.word refl)
    go (aborts t j k x) before = before (value_apart r h (state t) (child m side) x.word refl)

-- Who puts it in

-- what names the node of another pass that nothing names is its owner's
module _ (lay : Layout) (k : History) (o n : ℕ) (is_pass : o < lay.passes) (l : Lawful lay k) (its_own : IsOwnNode lay o n) where
  real : n ≢ 0
  real e = let a = its_own.from in let some = some_open lay in omega (arith, a, some, e)

  module _ (p put : ℕ) (side : Side) (own_put : IsOwnNode lay p put) (unnamed : ¬ IsNamed lay k n) (q : IsFilledField k put side n) where
    pub named_then : IsNamed lay q.before n → ⊥
    named_then z = unnamed (named_since lay k q.before n l (ends_trans k (q.row ⊳ q.before) q.before q.within (inr (ends_self q.before))) z)

    may : MayFill lay q.before q.row.pass.0 (child put side) n
    may =
        let any : MayFill lay q.before q.row.pass.0 q.row.word q.row.after = subst (λ (a : Kind). Obeys lay q.before q.row a) q.kind (lawful_row lay q.before q.row (lawful_since lay k (q.row ⊳ q.before) l q.within)).obeys in
        subst (λ v. MayFill lay q.before q.row.pass.0 (child put side) v) q.after (subst (λ w. MayFill lay q.before q.row.pass.0 w q.row.after) q.word any)

    pub filler : q.row.pass.0 ≡ p
    filler = one_node_owner lay q.row.pass.0 p put may.0.own own_put

    owner : Dec (p ≡ o) → p ≡ o
    owner (yes e) = e
    owner (no d) = absurd (named_then (in_field_named n (may.1 record { pass = o; is_pass = is_pass; is_other = λ e. d (sym (e ∙ filler)); owns = its_own })))

  pub filled_below : (p put : ℕ) (side : Side) → IsOwnNode lay p put → ¬ IsNamed lay k n → value k (child put side) ≡ n → IsFilledField k put side n
  filled_below p put side own_put unnamed e = ⊎_elim (λ z. absurd (unnamed z)) (λ q. q) (filled_field lay k p put side n l own_put e real)

-- an update that puts it in is its owner's
module _ (lay : Layout) (g : History) (r : Row) (o n : ℕ) (is_pass : o < lay.passes) (l : Lawful lay (r ⊳ g)) (its_own : IsOwnNode lay o n) (y : IsPutIn lay g r n) where
  abbrev put_pass : ℕ
  put_pass = y.begun.row.pass.0

  then_lawful : Lawful lay y.begun.before
  then_lawful = lawful_tail lay y.begun.before y.begun.row (lawful_since lay g (y.begun.row ⊳ y.begun.before) (lawful_tail lay g r l) y.begun.within)

  by_owner : IsMadeAt lay y.begun.before y.scx n → put_pass ≡ o
  by_owner (inl e) = one_node_owner lay put_pass o n (subst (IsOwnNode lay put_pass) (sym e) y.begun.may_begin.new_own) its_own
  by_owner (inr (side, at, unnamed)) =
      owner lay y.begun.before o n is_pass then_lawful its_own put_pass (new y.begun.before y.scx) side y.begun.may_begin.new_own unnamed
      (filled_below lay y.begun.before o n is_pass then_lawful its_own put_pass (new y.begun.before y.scx) side y.begun.may_begin.new_own unnamed at) (ℕ_discrete put_pass o)

  own_scx : IsOwnScx lay o y.scx
  own_scx = subst (λ q. IsOwnScx lay q y.scx) (by_owner y.made) y.begun.may_begin.own

-- so if none has since a moment at which it had never been there, it has not been there yet
module _ (lay : Layout) (h start : History) (o n : ℕ) (is_pass : o < lay.passes) (run : IsMapRun lay h) (its_own : IsOwnNode lay o n) (never : ¬ WasInTree start n) where
  abbrev pub IsNotPut : Type 0
  IsNotPut = (r : Row) (g : History) → Extends h (r ⊳ g) → Extends g start → (y : IsPutIn lay g r n) → IsOwnScx lay o y.scx → ⊥

  pub never_since : IsNotPut → (m : History) → Extends h m → Extends m start → ¬ WasInTree m n
  never_since none (Opened a) within since was = never (subst (λ q. WasInTree q n) (sym since) was)
  never_since none (r ⊳ g) within (inl e) was = never (subst (λ q. WasInTree q n) (sym e) was)
  never_since none (r ⊳ g) within (inr e) was =
      ⊎_elim (never_since none g (ends_trans h (r ⊳ g) g within (inr (ends_self g))) e)
      (λ y. none r g within e y (own_scx lay g r o n is_pass (lawful_since lay h (r ⊳ g) run.1.lawful within) its_own y))
      (put_or_stood lay g r n (run_since lay h (r ⊳ g) run within) was)

  wins : (r : Row) (g : History) → Extends h (r ⊳ g) → (y : IsPutIn lay g r n) → IsWin g r y.scx
  wins r g within y = update_win (facts_before lay g r (lawful_since lay h (r ⊳ g) run.1.lawful within)) y.wins

  -- its pass has made no update
  pub none_entered : Extends h start → HasEnteredNone lay o h start → ¬ WasInTree h n
  none_entered since none = never_since (λ r g within later y own. none r g y.scx within later (wins r g within y) own) h (ends_self h) since

  -- or perhaps one, which was to put in others
  pub others_entered : (s : ℕ) → Extends h start → HasEnteredOnly lay o s h start → n ≢ new h s → ((side : Side) → ¬ HasHeld h (child (new h s) side) n) → ¬ WasInTree h n
  others_entered s since only apart above = never_since not_put h (ends_self h) since
    where
      not_put : IsNotPut
      not_put r g within later y own = go y.made
        where
          is_one : y.scx ≡ s
          is_one = only r g y.scx within later (wins r g within y) own

          f : Facts lay g
          f = facts_before lay g r (lawful_since lay h (r ⊳ g) run.1.lawful within)

          begun_within : Extends h (y.begun.row ⊳ y.begun.before)
          begun_within = ends_trans h (r ⊳ g) (y.begun.row ⊳ y.begun.before) within (inr y.begun.within)

          real_scx : y.scx ≢ 0
          real_scx = some_is_real f (update_flagged f y.wins).some

          same : new h s ≡ new y.begun.before y.scx
          same = ap (new h) (sym is_one) ∙ word_then lay h y.scx run.1.lawful real_scx record { row = y.begun.row; before = y.begun.before; within = begun_within; begins = y.begun.begins; may_begin = y.begun.may_begin; edit = y.begun.edit; may = y.begun.may } h (ends_self h) begun_within New tt

          go : IsMadeAt lay y.begun.before y.scx n → ⊥
          go (inl e) = apart (e ∙ sym same)
          go (inr (side, at, unnamed)) = above side (subst (λ m. HasHeld h (child m side) n) (sym same) (held_since h y.begun.before (child (new y.begun.before y.scx) side) n (ends_trans h (y.begun.row ⊳ y.begun.before) y.begun.before begun_within (inr (ends_self y.begun.before))) (held_at y.begun.before (child (new y.begun.before y.scx) side) n at)))
