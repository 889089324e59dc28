-- A pass passes over names, nodes and SCX-records, in a table that lasts.
use Rattle.std.proofs.Common.{◌≡◌, ◌≢◌, ◌+◌, ◌<◌, ◌≤◌, ◌⊎◌, ℕ, zero, suc, false, List, ◌∷◌, inl, inr, ⊎_elim, refl, sym, ◌∙◌, ap, subst, arith}
use native.Mathlib.Decide.{dec_lt}
use Rattle.histories.specs.Common.{Layout, Row, Kind, Fill, Freeze, Update, Abort, Settled, Head, State, Seen, Word, History, ◌⊳◌, Extends, node, scx, state, IsOwnNode, IsOwnScx, IsTakenNode, IsTakenScx, IsUnmentioned, Lawful, IsRun}
use Rattle.arena.specs.declared.word.ScxWord.TheVariants.{Plan}
use Rattle.arena.specs.Shape.{Shaped}
use Rattle.arena.proofs.Lemmas.{fill_takes_node, fill_takes_scx, taken_node_more, taken_scx_more}
use Rattle.histories.proofs.Lemmas.{lawful_tail, named_scx_taken, unmentioned_by_fill, unmentioned_unnamed}
use Rattle.planting.specs.Plantings.{PlantingView}
use Rattle.ordered_map.specs.Paths.{WasInTree}
use Rattle.ordered_map.specs.Runs.{IsMapRun}
use Rattle.prims.specs.Moments.{AreFinished}
use Rattle.touching.proofs.Lemmas.{never_stood, taken_scx_since}
use Rattle.resting.specs.Records.{Record, record_of, the_node, the_scx}
use Rattle.resting.specs.Rests.{HaveRestedAt, PassesOver, past_node, past_scx}
use Rattle.resting.proofs.Lemmas.{never_more, row_keeps, taken_node_since}
use Rattle.slots.specs.Counts.{CountsRests, HasSeenRests, Tally}
use Rattle.slots.specs.Held.{Held, IsHeld}
use Rattle.slots.specs.Lasting.{IsOwnRecord, IsUntaken, Lasting}
use Rattle.slots.specs.Passing.{row_over}
use Rattle.slots.specs.Window.{HasPassedOver}
use Rattle.slots.proofs.Lemmas.{counts_rows, node_rests, passes_node, passes_scx, scx_rests, seen_rows}
use Rattle.tables.specs.TableRule.{Owns, history_of}
use Rattle.tables.specs.LastingMemory.{IsDealt}
use Rattle.tables.specs.LastingNames.{past_nodes, past_scxs, scx_rows}
use Rattle.tables.specs.LastingRule.{plot_in}
use Rattle.tables.specs.declared.memory.PassMemory.{PassMemory}
use Rattle.tables.specs.declared.view.SeatedPass.{SeatedPass}
use Rattle.tables.proofs.Moves.{owns_more}

-- a row that begins nothing leaves a run one of the layer above
quiet_run : (allows : Layout → History → ℕ → Type 0) (lay : Layout) (h : History) (r : Row) → IsRun allows lay h → Lawful lay (r ⊳ h) → r.kind ≢ Freeze → IsRun allows lay (r ⊳ h)
unfolding Shaped
quiet_run allows lay h r run lawful other = record { lawful = lawful; shaped = (run.shaped, λ s begins. absurd (other begins.kind)) }

-- What is so of the rows by which the pass o goes on from these.
module _ (allows : Layout → History → ℕ → Type 0) (t : Lasting) (planting : PlantingView) (held : Held) (last : ℕ → History) (tally : Tally) (words : List ℕ) (owner : ℕ → ℕ) (id o : ℕ) (owned : owner o ≡ id) (start : List Row) (is_pass : o < t.lay.passes) (there : tally.away o ≡ false) where
  abbrev h : History
  h = history_of planting start

  -- they keep a run, each pass's rest, the counts, what others have seen of them, and what others
  -- know
  pub record GoesOn (rows : List Row) : Type 0 where
    pub sound : IsRun allows t.lay (history_of planting rows)
    pub within : Extends (history_of planting rows) h
    pub rested : HaveRestedAt t.lay (history_of planting rows) last
    pub counts : CountsRests t words (history_of planting rows) tally
    pub seen : (p : ℕ) (m : History) (n : ℕ) → HasSeenRests h last tally p m n → HasSeenRests (history_of planting rows) last tally p m n
    pub grows : (j : ℕ) → j ≢ id → (ps : List SeatedPass) → Owns (plot_in t planting) start owner j ps → Owns (plot_in t planting) rows owner j ps

  -- so does one row more, if it passes over a name
  row_more : (rows : List Row) (kind : Kind) (word : Word) (after : ℕ) → GoesOn rows → Lawful t.lay (row_over o kind word after (history_of planting rows) ⊳ history_of planting rows) → kind ≢ Freeze → PassesOver t.lay (last o) (row_over o kind word after (history_of planting rows)) → GoesOn (row_over o kind word after (history_of planting rows) ∷ rows)
  row_more rows kind word after x lawful other past =
      let k : History = history_of planting rows in
      let r : Row = row_over o kind word after k in
      record {
        sound = quiet_run allows t.lay k r x.sound lawful other;
        within = inr x.within;
        rested = row_keeps t.lay k r last x.rested (inr past);
        counts = counts_rows t words k tally x.counts r lawful there;
        seen = λ p m n y. seen_rows k last tally p m n (x.seen p m n y) r;
        grows = λ j apart ps y. owns_more (plot_in t planting) rows owner j r (λ z. apart (sym z ∙ owned)) ps (x.grows j apart ps y);
      }

  -- the run has gone on by these rows, by which the pass, which is between two calls, passes over
  -- names
  pub record PassesOn (rows : List Row) : Type 0 where
    pub goes : GoesOn rows
    pub run : IsMapRun t.lay (history_of planting rows)
    pub over : AreFinished t.lay o 0 (history_of planting rows)
    pub passed : HasPassedOver t held last o h (history_of planting rows)

  -- The pass may give a slot the name x next: nobody has taken that, and of the pass's own that it
  -- has dealt by then each other one that is untaken was dealt before.
  pub record IsReady (x : Record) (old new : PassMemory) (rows : List Row) : Type 0 where
    pub so_far : PassesOn rows
    pub free : IsUntaken t.lay (history_of planting rows) x
    pub dealt : (y : Record) → IsOwnRecord t.lay o y → IsDealt new y → IsUntaken t.lay (history_of planting rows) y → (y ≡ x) ⊎ IsDealt old y
    pub undealt : (y : Record) → ¬ IsDealt new y → ¬ IsDealt old y
    pub itself : IsDealt new x
    -- what was taken since was never put in
    pub others : (n : ℕ) → IsTakenNode (history_of planting rows) n → IsTakenNode h n ⊎ (IsOwnNode t.lay o n × (¬ WasInTree (history_of planting rows) n))

  -- Nodes

  -- the pass has passed over its nodes up to this one, which it takes next
  pub record PassedNodes (next : ℕ) (rows : List Row) : Type 0 where
    pub so_far : PassesOn rows
    pub taken : (n : ℕ) → IsOwnNode t.lay o n → n < next → IsTakenNode (history_of planting rows) n
    pub untaken : (n : ℕ) → IsOwnNode t.lay o n → next ≤ n → ¬ IsTakenNode (history_of planting rows) n
    pub unmentioned : (n : ℕ) → IsOwnNode t.lay o n → next ≤ n → IsUnmentioned (history_of planting rows) n
    pub others : (n : ℕ) → IsTakenNode (history_of planting rows) n → IsTakenNode h n ⊎ (IsOwnNode t.lay o n × (¬ WasInTree (history_of planting rows) n))

  module _ (next : ℕ) (rows : List Row) (x : PassedNodes next rows) (own : IsOwnNode t.lay o next) (unheld : ¬ IsHeld t held (the_node next)) where
    abbrev k : History
    k = history_of planting rows

    abbrev r : Row
    r = row_over o Fill (node next (Settled Head)) 0 k

    free_node : ¬ IsTakenNode (last o) next
    free_node taken = x.untaken next own (omega arith) (taken_node_since k (last o) next (x.so_far.goes.rested o is_pass).within taken)

    both_node : IsMapRun t.lay (r ⊳ k) × HasPassedOver t held last o h (r ⊳ k)
    both_node = passes_node t held last o h k next x.so_far.passed x.so_far.run is_pass record { own = own; in_order = x.taken; unnamed = unmentioned_unnamed t.lay k o next own (x.unmentioned next own (omega arith)) } free_node unheld

    no_update : r.kind ≢ Update
    no_update e = let z : Fill ≡ Update = e in cc

    taken_then : (n : ℕ) → IsTakenNode (r ⊳ k) n → (n ≡ next) ⊎ IsTakenNode k n
    unfolding IsTakenNode
    taken_then n (inl f) = inl (sym (number (ap record_of f.2)))
      where
        number : the_node next ≡ the_node n → next ≡ n
        number e = cc
    taken_then n (inr y) = inr y

    next_taken : (n : ℕ) → IsOwnNode t.lay o n → Dec (n < next) → n < suc next → IsTakenNode (r ⊳ k) n
    next_taken n own_too (yes less) i = taken_node_more r k n (x.taken n own_too less)
    next_taken n own_too (no d) i = let e : n ≡ next = omega (arith, d, i) in subst (IsTakenNode (r ⊳ k)) (sym e) (fill_takes_node r k next (Settled Head) refl refl)

    next_never : (n : ℕ) → n ≡ next → IsOwnNode t.lay o n × (¬ WasInTree (r ⊳ k) n)
    next_never n e = subst (λ i. IsOwnNode t.lay o i × (¬ WasInTree (r ⊳ k) i)) (sym e) (own, never_more t.lay k r next both_node.0 no_update (never_stood t.lay k next x.so_far.run (let a = own.from in omega (arith, a)) (x.untaken next own (omega arith))))

    passes_next : PassedNodes (suc next) (r ∷ rows)
    passes_next = record {
      so_far = record { goes = row_more rows Fill (node next (Settled Head)) 0 x.so_far.goes both_node.0.1.lawful (λ e. let z : Fill ≡ Freeze = e in cc) (past_node next free_node refl refl); run = both_node.0; over = node_rests t.lay k o next x.so_far.over; passed = both_node.1 };
      taken = λ n own_too less. next_taken n own_too (dec_lt n next) less;
      untaken = λ n own_too more z. ⊎_elim (λ (e : n ≡ next). omega (arith, e, more)) (x.untaken n own_too (omega (arith, more))) (taken_then n z);
      unmentioned = λ n own_too more. unmentioned_by_fill k r n (λ z. absurd z) (x.unmentioned n own_too (omega (arith, more)));
      others = λ n z. ⊎_elim (λ e. inr (next_never n e)) (λ y. ⊎_elim inl (λ q. inr (q.0, never_more t.lay k r n both_node.0 no_update q.1)) (x.others n y)) (taken_then n z);
    }

  -- so it may pass over as many as are its own, and are not held
  pub passes_nodes : (count next : ℕ) (rows : List Row) → PassedNodes next rows → ((n : ℕ) → next ≤ n → n < next + count → IsOwnNode t.lay o n × (¬ IsHeld t held (the_node n))) → PassedNodes (next + count) (past_nodes o next count planting rows)
  passes_nodes zero next rows x names = subst (λ n. PassedNodes n rows) (omega arith) x
  passes_nodes (suc count) next rows x names =
      let first = names next (omega arith) (omega arith) in
      subst (λ n. PassedNodes n (past_nodes o next (suc count) planting rows)) (omega arith)
      (passes_nodes count (suc next) (row_over o Fill (node next (Settled Head)) 0 (history_of planting rows) ∷ rows) (passes_next next rows x first.0 first.1) (λ n more less. names n (omega (arith, more)) (omega (arith, less))))

  -- SCX-records

  -- the pass has passed over its SCX-records up to this one, which it takes next
  pub record PassedScx (next : ℕ) (rows : List Row) : Type 0 where
    pub so_far : PassesOn rows
    pub taken : (s : ℕ) → IsOwnScx t.lay o s → s < next → IsTakenScx (history_of planting rows) s
    pub untaken : (s : ℕ) → IsOwnScx t.lay o s → next ≤ s → ¬ IsTakenScx (history_of planting rows) s
    pub others : (n : ℕ) → IsTakenNode (history_of planting rows) n → IsTakenNode h n

  module _ (next : ℕ) (rows : List Row) (x : PassedScx next rows) (own : IsOwnScx t.lay o next) (unheld : ¬ IsHeld t held (the_scx next)) where
    abbrev k0 : History
    k0 = history_of planting rows

    abbrev one : Row
    one = row_over o Fill (scx next Plan) 1 k0

    abbrev two : Row
    two = row_over o Fill (scx next (Seen 0)) next (one ⊳ k0)

    abbrev three : Row
    three = row_over o Abort (state next) 2 (two ⊳ one ⊳ k0)

    real : next ≢ 0
    real e = let a = own.from in omega (arith, a, e)

    free_scx : ¬ IsTakenScx (last o) next
    free_scx taken = x.untaken next own (omega arith) (taken_scx_since k0 (last o) next (x.so_far.goes.rested o is_pass).within taken)

    both_scx : IsMapRun t.lay (three ⊳ two ⊳ one ⊳ k0) × HasPassedOver t held last o h (three ⊳ two ⊳ one ⊳ k0)
    both_scx = passes_scx t held last o h k0 next x.so_far.passed x.so_far.run is_pass record { own = own; in_order = x.taken; unnamed = λ z. x.untaken next own (omega arith) (named_scx_taken t.lay k0 next x.so_far.run.1.lawful real z) } free_scx unheld

    lawful_three : Lawful t.lay (three ⊳ two ⊳ one ⊳ k0)
    lawful_three = both_scx.0.1.lawful

    lawful_two : Lawful t.lay (two ⊳ one ⊳ k0)
    lawful_two = lawful_tail t.lay (two ⊳ one ⊳ k0) three lawful_three

    lawful_one : Lawful t.lay (one ⊳ k0)
    lawful_one = lawful_tail t.lay (one ⊳ k0) two lawful_two

    goes_three : GoesOn (three ∷ two ∷ one ∷ rows)
    goes_three = row_more (two ∷ one ∷ rows) Abort (state next) 2
        (row_more (one ∷ rows) Fill (scx next (Seen 0)) next (row_more rows Fill (scx next Plan) 1 x.so_far.goes lawful_one (λ e. let z : Fill ≡ Freeze = e in cc) (past_scx next Plan own free_scx refl)) lawful_two (λ e. let z : Fill ≡ Freeze = e in cc) (past_scx next (Seen 0) own free_scx refl))
        lawful_three (λ e. let z : Abort ≡ Freeze = e in cc) (past_scx next State own free_scx refl)

    scx_then : (s : ℕ) → IsTakenScx (three ⊳ two ⊳ one ⊳ k0) s → (s ≡ next) ⊎ IsTakenScx k0 s
    unfolding IsTakenScx
    scx_then s (inl f) = absurd (let z : Abort ≡ Fill = f.1 in cc)
    scx_then s (inr (inl f)) = inl (sym (number (ap record_of f.2)))
      where
        number : the_scx next ≡ the_scx s → next ≡ s
        number e = cc
    scx_then s (inr (inr (inl f))) = inl (sym (number (ap record_of f.2)))
      where
        number : the_scx next ≡ the_scx s → next ≡ s
        number e = cc
    scx_then s (inr (inr (inr y))) = inr y

    node_then : (n : ℕ) → IsTakenNode (three ⊳ two ⊳ one ⊳ k0) n → IsTakenNode k0 n
    unfolding IsTakenNode
    node_then n (inl f) = absurd (let z : the_scx next ≡ the_node n = ap record_of f.2 in cc)
    node_then n (inr (inl f)) = absurd (let z : the_scx next ≡ the_node n = ap record_of f.2 in cc)
    node_then n (inr (inr (inl f))) = absurd (let z : the_scx next ≡ the_node n = ap record_of f.2 in cc)
    node_then n (inr (inr (inr y))) = y

    scx_taken : (s : ℕ) → IsOwnScx t.lay o s → Dec (s < next) → s < suc next → IsTakenScx (three ⊳ two ⊳ one ⊳ k0) s
    scx_taken s own_too (yes less) i = taken_scx_more three (two ⊳ one ⊳ k0) s (taken_scx_more two (one ⊳ k0) s (taken_scx_more one k0 s (x.taken s own_too less)))
    scx_taken s own_too (no d) i = let e : s ≡ next = omega (arith, d, i) in subst (IsTakenScx (three ⊳ two ⊳ one ⊳ k0)) (sym e) (taken_scx_more three (two ⊳ one ⊳ k0) next (taken_scx_more two (one ⊳ k0) next (fill_takes_scx one k0 next Plan refl refl)))

    passes_next_scx : PassedScx (suc next) (three ∷ two ∷ one ∷ rows)
    passes_next_scx = record {
      so_far = record { goes = goes_three; run = both_scx.0; over = scx_rests t.lay k0 o next x.so_far.over; passed = both_scx.1 };
      taken = λ s own_too less. scx_taken s own_too (dec_lt s next) less;
      untaken = λ s own_too more z. ⊎_elim (λ (e : s ≡ next). omega (arith, e, more)) (x.untaken s own_too (omega (arith, more))) (scx_then s z);
      others = λ n z. x.others n (node_then n z);
    }

  pub passes_all_scx : (count next : ℕ) (rows : List Row) → PassedScx next rows → ((s : ℕ) → next ≤ s → s < next + count → IsOwnScx t.lay o s × (¬ IsHeld t held (the_scx s))) → PassedScx (next + count) (past_scxs o next count planting rows)
  passes_all_scx zero next rows x names = subst (λ n. PassedScx n rows) (omega arith) x
  passes_all_scx (suc count) next rows x names =
      let first = names next (omega arith) (omega arith) in
      subst (λ n. PassedScx n (past_scxs o next (suc count) planting rows)) (omega arith)
      (passes_all_scx count (suc next) (scx_rows o next planting rows) (passes_next_scx next rows x first.0 first.1) (λ n more less. names n (omega (arith, more)) (omega (arith, less))))
