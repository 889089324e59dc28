-- An SCX-record that an info word names has begun as an edit of a map. What its words said then
-- they say since; and until its update wins, what it has frozen keeps its fields.
use Rattle.std.proofs.Common.{◌≡◌, ◌≢◌, ◌<◌, ℕ, false, inl, inr, ⊎_elim, refl, sym, ◌∙◌, ap, subst, arith, eqb, ◌/◌, ◌%◌}
use native.Mathlib.Decide.{ℕ_discrete}
use Rattle.histories.specs.Common.{Layout, Row, Side, SettledPart, Settled, Head, Child, Info, ScxWord, New, Plan, Member, Seen, Word, same_word, node, scx, info, child, state, History, Opened, ◌⊳◌, value, HasHeld, Extends, count, count_of, member, new, seen, plan, field_index, side_of, IsNamed, by_scx, by_field, IsNamedScx, IsBegin, Shaped, Lawful, MayBegin, HasWon}
use Rattle.arena.proofs.Lemmas.{ends_self, ends_trans, held_at, held_back, held_start, node_apart, node_word_apart, opening_info, value_apart, value_at}
use Rattle.histories.proofs.Lemmas.{Effect, Facts, FreezeWins, IsScxFill, Still, UpdateWins, begins_once, effect, facts_before, freeze, freeze_distinct, freeze_finds, freeze_held, freeze_in_progress, freeze_keeps_field, freeze_rest, lawful_since, lawful_tail, named_since, node_since, quiet, scx_since, shaped_begin, shaped_tail, state_since, still_since, update, update_held, update_holds, update_keeps_other, update_won, won_since}
use Rattle.ordered_map.specs.OrderedMap.{MapEdit}
use Rattle.ordered_map.specs.TreeShape.{MayEdit, TreeAllows}
use Rattle.ordered_map.specs.TreeWords.{is_leaf}

pub record HasBegunEdit (lay : Layout) (h : History) (s : ℕ) : Type 0 where
  pub row : Row
  pub before : History
  pub within : Extends h (row ⊳ before)
  pub begins : IsBegin before row s
  pub may_begin : MayBegin lay before row.pass.0 s
  pub edit : MapEdit
  pub may : MayEdit lay before s edit

begun_more : (lay : Layout) (h : History) (r : Row) (s : ℕ) → HasBegunEdit lay h s → HasBegunEdit lay (r ⊳ h) s
begun_more lay h r s x = record { row = x.row; before = x.before; within = inr x.within; begins = x.begins; may_begin = x.may_begin; edit = x.edit; may = x.may }

begun_step : (lay : Layout) (h : History) (r : Row) (s : ℕ) → Lawful lay (r ⊳ h) → Shaped TreeAllows lay (r ⊳ h) → s ≢ 0 → (IsNamedScx h s → HasBegunEdit lay h s) → IsNamedScx (r ⊳ h) s → HasBegunEdit lay (r ⊳ h) s
begun_step lay h r s l p d earlier named = go (effect lay h r l)
  where
    f : Facts lay h
    f = facts_before lay h r l

    old : IsNamedScx h s → HasBegunEdit lay (r ⊳ h) s
    old q = begun_more lay h r s (earlier q)

    at_first : (u j : ℕ) → FreezeWins lay h r u j → s ≡ u → j ≡ 0 → HasBegunEdit lay (r ⊳ h) s
    at_first u j w e q = go_on (shaped_begin TreeAllows lay h r s p begins)
      where
        within : 0 < count h u
        within = let i = w.freeze.within in omega (arith, i)

        finds : r.before ≡ seen h u 0
        finds = w.found ∙ ap (seen h u) q

        begins_u : IsBegin h r u
        begins_u = record {
          kind = w.kind;
          word = w.freeze.word ∙ ap (λ i. info (member h u i)) q;
          found = finds;
          stored = w.stored;
          changed = λ z. freeze_rest f w 0 within (ap (λ v. value h (state v)) (sym finds ∙ z ∙ w.stored) ∙ freeze_in_progress f w);
        }

        begins : IsBegin h r s
        begins = subst (IsBegin h r) (sym e) begins_u

        begin_u : MayBegin lay h r.pass.0 u
        begin_u = (w.freeze.may_win w.found).1 q

        go_on : TreeAllows lay h s → HasBegunEdit lay (r ⊳ h) s
        go_on (inl x) = record { row = r; before = h; within = inl refl; begins = begins; may_begin = subst (MayBegin lay h r.pass.0) (sym e) begin_u; edit = x.0; may = x.1 }
        go_on (inr x) = absurd (d x.dummy)

    go : Effect lay h r → HasBegunEdit lay (r ⊳ h) s
    go (quiet k) = old (named.0, held_back r h (info named.0) s (k.info named.0) named.1)
    go (update u w) = old (named.0, update_held f w named.0 s named.1)
    go (freeze u j w) = ⊎_elim (λ e. at_place e.0 (ℕ_discrete j 0)) (λ q. old (named.0, q)) (freeze_held f w named.0 s named.1)
      where
        at_place : s ≡ u → Dec (j ≡ 0) → HasBegunEdit lay (r ⊳ h) s
        at_place e (yes q) = at_first u j w e q
        at_place e (no q) = old (subst (IsNamedScx h) (sym e) (member h u 0, w.freeze.earlier 0 (omega (arith, q))))

pub begun_edit : (lay : Layout) (h : History) (s : ℕ) → Lawful lay h → Shaped TreeAllows lay h → s ≢ 0 → IsNamedScx h s → HasBegunEdit lay h s
begun_edit lay (Opened o) s l p d q = absurd (d (sym (held_start o (info q.0) s q.1) ∙ opening_info o q.0))
begun_edit lay (r ⊳ h) s l p d q = begun_step lay h r s l p d (begun_edit lay h s (lawful_tail lay h r l) (shaped_tail TreeAllows lay h r p) d) q

-- Since it has begun

module _ (lay : Layout) (h : History) (s : ℕ) (l : Lawful lay h) (real : s ≢ 0) (x : HasBegunEdit lay h s) where
  abbrev pub begin : History
  begin = x.before

  abbrev pub begun : History
  begun = x.row ⊳ x.before

  -- the row by which it began changed an info word
  pub first_keeps : (w : Word) → same_word (info (member begin s 0)) w ≡ false → value begun w ≡ value begin w
  first_keeps w e = value_apart x.row begin (info (member begin s 0)) w x.begins.word e

  pub named_begun : IsNamedScx begun s
  named_begun = (member begin s 0, held_at begun (info (member begin s 0)) s (value_at x.row begin (info (member begin s 0)) x.begins.word ∙ x.begins.stored))

  pub new_named : IsNamed lay begun (new begin s)
  new_named = by_scx s New named_begun tt (held_at begun (scx s New) (new begin s) (first_keeps (scx s New) refl))

  pub below_named : (side : Side) → IsNamed lay begun (value begin (child (new begin s) side))
  below_named side = by_field (new begin s) side new_named (held_at begun (child (new begin s) side) _ (first_keeps (child (new begin s) side) (node_word_apart (member begin s 0) (new begin s) Info (Child side) refl)))

  pub member_named : (j : ℕ) → IsNamed lay begun (member begin s j)
  member_named j = by_scx s (Member j) named_begun tt (held_at begun (scx s (Member j)) (member begin s j) (first_keeps (scx s (Member j)) refl))

  module _ (k : History) (within : Extends h k) (since : Extends k begun) where
    lawful_then : Lawful lay k
    lawful_then = lawful_since lay h k l within

    -- its words
    pub word_then : (a : ScxWord) → IsScxFill a → value k (scx s a) ≡ value begin (scx s a)
    word_then a i = scx_since lay k begun s lawful_then since real named_begun a i ∙ value_apart x.row begin (info (member begin s 0)) (scx s a) x.begins.word refl

    -- and the settled words of nodes that are named
    pub settled_then : (n : ℕ) (part : SettledPart) → IsNamed lay begun n → value k (node n (Settled part)) ≡ value begin (node n (Settled part))
    settled_then n part named = node_since lay k begun n (Settled part) lawful_then since tt named ∙ first_keeps (node n (Settled part)) (node_word_apart (member begin s 0) n Info (Settled part) refl)

    pub leaf_then : (n : ℕ) → IsNamed lay begun n → is_leaf (value k) n ≡ is_leaf (value begin) n
    leaf_then n named = ap (λ v. eqb (v / 4 % 2) 1) (settled_then n Head named)

  -- What it has frozen, until its update wins

  module _ (unwon : ¬ HasWon h s) (going : value h (state s) ≡ 0) (j : ℕ) (place : j < count begin s) (named : IsNamed lay begin (member begin s j)) where
    abbrev pub frozen : ℕ
    frozen = member begin s j

    -- its info was what the SCX-record has seen, and its fields are as they were
    pub record KeepsFields (k : History) : Type 0 where
      pub saw : value begin (info frozen) ≡ seen begin s j
      pub fields : (side : Side) → value k (child frozen side) ≡ value begin (child frozen side)

    rest : value begin (state (seen begin s j)) ≢ 0
    rest = x.may_begin.at_rest j place

    never : ¬ IsNamedScx begin s
    never = (begins_once lay begin x.row s (lawful_since lay h begun l x.within) x.begins).never

    at_freeze : (k : History) (r : Row) (u i : ℕ) → Lawful lay (r ⊳ k) → Extends k begin → ((a : ScxWord) → IsScxFill a → value k (scx s a) ≡ value begin (scx s a)) → FreezeWins lay k r u i → s ≡ u → member k u i ≡ frozen → KeepsFields (r ⊳ k)
    at_freeze k r u i lk since words w e is = record { saw = before.info; fields = λ side. freeze_keeps_field f w frozen side ∙ before.fields side }
      where
        f : Facts lay k
        f = facts_before lay k r lk

        same : (a : ScxWord) → IsScxFill a → value k (scx u a) ≡ value begin (scx s a)
        same a q = subst (λ v. value k (scx v a) ≡ value begin (scx s a)) e (words a q)

        few : j < count k u
        few = subst (λ v. j < count_of v) (sym (same Plan tt)) place

        place_is : i ≡ j
        place_is = go (ℕ_discrete i j)
          where
            go : Dec (i ≡ j) → i ≡ j
            go (yes q) = q
            go (no d) = absurd (freeze_distinct f w i j w.freeze.within few d (is ∙ sym (same (Member j) tt)))

        found : value k (info frozen) ≡ seen begin s j
        found = ap (λ n. value k (info n)) (sym is) ∙ freeze_finds f w ∙ ap (seen k u) place_is ∙ same (Seen j) tt

        before : Still begin k frozen (seen begin s j)
        before = still_since lay k begin frozen (seen begin s j) (lawful_tail lay k r lk) since named rest found

    at_begin : HasHeld begun (info frozen) s → KeepsFields begun
    at_begin held = go (effect lay begin x.row lb)
      where
        lb : Lawful lay begun
        lb = lawful_since lay h begun l x.within

        f : Facts lay begin
        f = facts_before lay begin x.row lb

        go : Effect lay begin x.row → KeepsFields begun
        go (quiet q) = absurd (never (frozen, held_back x.row begin (info frozen) s (q.info frozen) held))
        go (update u w) = absurd (never (frozen, update_held f w frozen s held))
        go (freeze u i w) = ⊎_elim (λ q. at_freeze begin x.row u i lb (ends_self begin) (λ a p. refl) w q.0 q.1) (λ q. absurd (never (frozen, q))) (freeze_held f w frozen s held)

    module _ (k : History) (r : Row) (within : Extends h (r ⊳ k)) (since : Extends k begun) where
      lk : Lawful lay (r ⊳ k)
      lk = lawful_since lay h (r ⊳ k) l within

      f : Facts lay k
      f = facts_before lay k r lk

      earlier : Extends h k
      earlier = ends_trans h (r ⊳ k) k within (inr (ends_self k))

      from : Extends k begin
      from = ends_trans k begun begin since (inr (ends_self begin))

      running : value k (state s) ≡ 0
      running = go (ℕ_discrete (value k (state s)) 0)
        where
          go : Dec (value k (state s) ≡ 0) → value k (state s) ≡ 0
          go (yes z) = z
          go (no d) = absurd (d (sym (state_since lay h k s l earlier d) ∙ going))

      -- an update of another leaves its fields
      apart : (u : ℕ) → UpdateWins k r u → HasHeld k (info frozen) s → member k u (field_index k u) ≢ frozen
      apart u w held q = unwon (won_since lay h (r ⊳ k) s l within (subst (HasWon (r ⊳ k)) own (update_won f w)))
        where
          here : member k s j ≡ frozen
          here = word_then k earlier since (Member j) tt

          few : j < count k s
          few = subst (λ v. j < count_of v) (sym (word_then k earlier since Plan tt)) place

          held_here : HasHeld k (info (member k s j)) s
          held_here = subst (λ n. HasHeld k (info n) s) (sym here) held

          holds : value k (info frozen) ≡ s
          holds = ap (λ n. value k (info n)) (sym here) ∙ (f.about s (member k s j) real held_here).holds j few held_here running

          own : u ≡ s
          own = sym (update_holds f w) ∙ ap (λ n. value k (info n)) q ∙ holds

      at_row : HasHeld (r ⊳ k) (info frozen) s → (HasHeld k (info frozen) s → KeepsFields k) → KeepsFields (r ⊳ k)
      at_row held before = go (effect lay k r lk)
        where
          after : HasHeld k (info frozen) s → ((side : Side) → value (r ⊳ k) (child frozen side) ≡ value k (child frozen side)) → KeepsFields (r ⊳ k)
          after p same = let y = before p in record { saw = y.saw; fields = λ side. same side ∙ y.fields side }

          go : Effect lay k r → KeepsFields (r ⊳ k)
          go (quiet q) = after (held_back r k (info frozen) s (q.info frozen) held) (λ side. q.node frozen (Child side) tt (named_since lay k begin frozen (lawful_tail lay k r lk) from named))
          go (update u w) =
              let p = update_held f w frozen s held in
              after p (λ side. update_keeps_other f w (child frozen side) (node_apart (member k u (field_index k u)) frozen (Child (side_of (plan k u))) (Child side) (apart u w p)))
          go (freeze u i w) = ⊎_elim (λ q. at_freeze k r u i lk from (word_then k earlier since) w q.0 q.1) (λ p. after p (λ side. freeze_keeps_field f w frozen side)) (freeze_held f w frozen s held)

    pub kept : (k : History) → Extends h k → Extends k begun → HasHeld k (info frozen) s → KeepsFields k
    kept (Opened o) within since held = absurd (let e : x.row ⊳ x.before ≡ Opened o = since in cc)
    kept (r ⊳ k) within (inl e) held = subst KeepsFields e (at_begin (subst (λ m. HasHeld m (info frozen) s) (sym e) held))
    kept (r ⊳ k) within (inr e) held = at_row k r within e held (kept k (ends_trans h (r ⊳ k) k within (inr (ends_self k))) e)
