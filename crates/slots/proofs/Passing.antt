-- Rows that are of no held record; and names that a pass passes over, if it rests behind that.
use Rattle.std.proofs.Common.{◌≡◌, ◌≢◌, ◌<◌, ◌⊎◌, ℕ, Bool, true, false, List, inl, inr, ⊎_elim, refl, sym, ◌∙◌, ap, subst}
use Rattle.histories.specs.Common.{Layout, Word, Node, Scx, Row, Kind, Fill, Update, Settled, Head, Info, History, Opened, ◌⊳◌, Extends, value, same_word, node, scx, info, field, IsNamedScx, IsTakenNode, IsTakenScx, Obeys}
use Rattle.arena.proofs.Lemmas.{ends_self, fill_takes_node, fill_takes_scx, held_back, node_word_apart, taken_node_more, taken_scx_more, value_apart, value_other, word_same}
use Rattle.histories.proofs.Lemmas.{lawful_row, named_scx_taken}
use Rattle.ordered_map.specs.Paths.{WasInTree}
use Rattle.ordered_map.specs.Runs.{IsMapRun}
use Rattle.ordered_map.proofs.MapLemmas.{run_since}
use Rattle.prims.specs.Moments.{AreFinished}
use Rattle.touching.proofs.Lemmas.{never_stood}
use Rattle.resting.specs.Dead.{IsUnborn, IsUnnamedScx}
use Rattle.resting.specs.Reach.{IsOutOfReach}
use Rattle.resting.specs.Records.{Record, record_of, the_node, the_scx}
use Rattle.resting.specs.Rests.{HaveMovedOn, HaveRestedAt, PassesOver, past_node, past_scx}
use Rattle.resting.proofs.Lemmas.{never_more, out_anew, out_since, row_keeps, unborn_out, unnamed_out}
use Rattle.slots.specs.Counts.{with_rest}
use Rattle.slots.specs.Held.{Held, IsHeld}
use Rattle.slots.specs.Lasting.{Lasting, IsOwnRecord, IsRecord, IsTaken, IsUntaken}
use Rattle.slots.specs.Window.{AreBeside, HasPassedOver, IsWindow}
use Rattle.slots.proofs.Counts.{moves_now, rest_same, rests_now}
use Rattle.slots.proofs.Slots.{record_discrete, untaken_more}
use Rattle.slots.proofs.Untaken.{untaken_own}

-- they leave the words of held records
value_kept : (t : Lasting) (held : Held) (h k : History) (w : Word) → Extends k h → IsHeld t held (record_of w) → AreBeside t held h k → value k w ≡ value h w
value_kept t held h (Opened o) w e is beside = ap (λ m. value m w) (sym e)
value_kept t held h (r ⊳ g) w (inl e) is beside = ap (λ m. value m w) (sym e)
value_kept t held h (r ⊳ g) w (inr e) is beside = go (same_word r.word w) refl ∙ value_kept t held h g w e is (λ q m a b. beside q m (inr a) b)
  where
    go : (b : Bool) → same_word r.word w ≡ b → value (r ⊳ g) w ≡ value g w
    go true d = absurd (beside r g (ends_self (r ⊳ g)) e (subst (λ u. IsHeld t held (record_of u)) (sym (word_same r.word w d)) is))
    go false d = value_other r g w d

pub beside : (t : Lasting) (words : List ℕ) (h k : History) (last next : ℕ → History) (held : Held) → IsWindow t words h last held → Extends k h → IsMapRun t.lay k → HaveMovedOn t.lay k last next → HaveRestedAt t.lay k next → AreBeside t held h k
    → ((x : Record) → IsRecord t.lay x → IsUntaken t.lay h x → IsUntaken t.lay k x ⊎ IsOutOfReach t.lay k next x) → IsWindow t words k next held
beside t words h k last next held w within run moved rested rows out = record {
  lasting = w.lasting;
  run = run;
  rested = rested;
  size = w.size;
  names = w.names;
  shows = λ u i is. w.shows u i is ∙ sym (value_kept t held h k u within is rows);
  every = λ x i. ⊎_elim inl (λ z. inr (⊎_elim (out x i) (λ y. inr (out_anew t.lay k last next x moved (out_since t.lay h k last x within y))) z)) (w.every x i);
}

-- Names that a pass passes over

-- a row of what nobody has taken takes it, or does not
kind_discrete : (k : Kind) → Dec (k ≡ Fill)
kind_discrete Fill = yes refl
kind_discrete k = no (λ e. let d : k ≡ Fill = e in cc)

taken_by : (h : History) (r : Row) (x : Record) → r.kind ≡ Fill → record_of r.word ≡ x → IsTaken (r ⊳ h) x
taken_by h r x kind is = subst (IsTaken (r ⊳ h)) is (go r.word refl)
  where
    go : (w : Word) → r.word ≡ w → IsTaken (r ⊳ h) (record_of w)
    go (Node n part) e = fill_takes_node r h n.0 part kind e
    go (Scx s part) e = fill_takes_scx r h s.0 part kind e

taken_more : (h : History) (r : Row) (x : Record) → IsTaken h x → IsTaken (r ⊳ h) x
taken_more h r (the_node n) taken = taken_node_more r h n taken
taken_more h r (the_scx s) taken = taken_scx_more r h s taken

unfilled : (lay : Layout) (h : History) (r : Row) (x : Record) → r.kind ≢ Fill → IsUntaken lay h x → IsUntaken lay (r ⊳ h) x
unfolding IsTakenNode IsTakenScx
unfilled lay h r (the_node n) other free = (free.0, λ t. ⊎_elim (λ y. other y.1) free.1 t)
unfilled lay h r (the_scx s) other free = (free.0, λ t. ⊎_elim (λ y. other y.1) free.1 t)

takes_or_not : (lay : Layout) (h : History) (r : Row) (x : Record) → IsUntaken lay h x → IsUntaken lay (r ⊳ h) x ⊎ (IsTaken (r ⊳ h) x × (record_of r.word ≡ x))
takes_or_not lay h r x free = go (record_discrete (record_of r.word) x) (kind_discrete r.kind)
  where
    go : Dec (record_of r.word ≡ x) → Dec (r.kind ≡ Fill) → IsUntaken lay (r ⊳ h) x ⊎ (IsTaken (r ⊳ h) x × (record_of r.word ≡ x))
    go (no d) k = inl (untaken_more lay h r x d free)
    go (yes e) (no d) = inl (unfilled lay h r x d free)
    go (yes e) (yes k) = inr (taken_by h r x k e, e)

-- a row that passes over a name leaves each info as it was, and is no update
module _ (lay : Layout) (h : History) (r : Row) (rest : History) (run : IsMapRun lay (r ⊳ h)) (past : PassesOver lay rest r) where
  info_left : (n : ℕ) → value (r ⊳ h) (info n) ≡ value h (info n)
  info_left n = go past
    where
      go : PassesOver lay rest r → value (r ⊳ h) (info n) ≡ value h (info n)
      go (past_node m free kind word) = value_apart r h (node m (Settled Head)) (info n) word (node_word_apart m n (Settled Head) Info refl)
      go (past_scx s part own free word) = value_apart r h (scx s part) (info n) word refl

  no_update : r.kind ≢ Update
  no_update e = go past
    where
      obeys : Obeys lay h r Update
      obeys = subst (λ (k : Kind). Obeys lay h r k) e (lawful_row lay h r run.1.lawful).obeys

      go : PassesOver lay rest r → ⊥
      go (past_node m free kind word) = let d : Fill ≡ Update = sym kind ∙ e in cc
      go (past_scx s part own free word) = let d : scx s part ≡ field h obeys.0 = sym word ∙ obeys.1.word in cc

module _ (t : Lasting) (held : Held) (last : ℕ → History) (o : ℕ) (h : History) where
  -- the moments of the rests stay good
  rested_behind : (k : History) → Extends k h → HaveRestedAt t.lay h last → HasPassedOver t held last o h k → HaveRestedAt t.lay k last
  rested_behind (Opened p) e rested rows = subst (λ m. HaveRestedAt t.lay m last) e rested
  rested_behind (r ⊳ k) (inl e) rested rows = subst (λ m. HaveRestedAt t.lay m last) e rested
  rested_behind (r ⊳ k) (inr e) rested rows =
      let row = rows r k (ends_self (r ⊳ k)) e in
      row_keeps t.lay k r last (rested_behind k e rested (λ q g a b. rows q g (inr a) b)) (inr (subst (λ p. PassesOver t.lay (last p) r) (sym row.0) row.1))

  -- what was never in the tree, and what was never named, stays so
  never_behind : (k : History) (n : ℕ) → Extends k h → IsMapRun t.lay k → HasPassedOver t held last o h k → ¬ WasInTree h n → ¬ WasInTree k n
  never_behind (Opened p) n e run rows never = subst (λ m. ¬ WasInTree m n) e never
  never_behind (r ⊳ k) n (inl e) run rows never = subst (λ m. ¬ WasInTree m n) e never
  never_behind (r ⊳ k) n (inr e) run rows never =
      never_more t.lay k r n run (no_update t.lay k r (last o) run (rows r k (ends_self (r ⊳ k)) e).1)
      (never_behind k n e (run_since t.lay (r ⊳ k) k run (inr (ends_self k))) (λ q g a b. rows q g (inr a) b) never)

  unnamed_behind : (k : History) (s : ℕ) → Extends k h → IsMapRun t.lay k → HasPassedOver t held last o h k → ¬ IsNamedScx h s → ¬ IsNamedScx k s
  unnamed_behind (Opened p) s e run rows free = subst (λ m. ¬ IsNamedScx m s) e free
  unnamed_behind (r ⊳ k) s (inl e) run rows free = subst (λ m. ¬ IsNamedScx m s) e free
  unnamed_behind (r ⊳ k) s (inr e) run rows free = λ p.
      unnamed_behind k s e (run_since t.lay (r ⊳ k) k run (inr (ends_self k))) (λ q g a b. rows q g (inr a) b) free
      (p.0, held_back r k (info p.0) s (info_left t.lay k r (last o) run (rows r k (ends_self (r ⊳ k)) e).1 p.0) p.1)

  -- what is taken by then, the pass has taken
  passed_own : (k : History) (x : Record) → Extends k h → IsMapRun t.lay k → HasPassedOver t held last o h k → IsUntaken t.lay h x → IsUntaken t.lay k x ⊎ (IsTaken k x × IsOwnRecord t.lay o x)
  passed_own (Opened p) x e run rows free = inl (subst (λ m. IsUntaken t.lay m x) e free)
  passed_own (r ⊳ k) x (inl e) run rows free = inl (subst (λ m. IsUntaken t.lay m x) e free)
  passed_own (r ⊳ k) x (inr e) run rows free = go (rows r k (ends_self (r ⊳ k)) e) (passed_own k x e (run_since t.lay (r ⊳ k) k run (inr (ends_self k))) (λ q g a b. rows q g (inr a) b) free)
    where
      now : IsUntaken t.lay k x → (r.pass.0 ≡ o) × PassesOver t.lay (last o) r × ¬ IsHeld t held (record_of r.word) → IsUntaken t.lay (r ⊳ k) x ⊎ (IsTaken (r ⊳ k) x × (record_of r.word ≡ x)) → IsUntaken t.lay (r ⊳ k) x ⊎ (IsTaken (r ⊳ k) x × IsOwnRecord t.lay o x)
      now y row (inl z) = inl z
      now y row (inr z) = inr (z.0, subst (IsOwnRecord t.lay o) z.1 (subst (λ p. IsOwnRecord t.lay p (record_of r.word)) row.0 (untaken_own t.lay k r (last o) run (inr row.1) (subst (IsUntaken t.lay k) (sym z.1) y))))

      go : (r.pass.0 ≡ o) × PassesOver t.lay (last o) r × ¬ IsHeld t held (record_of r.word) → IsUntaken t.lay k x ⊎ (IsTaken k x × IsOwnRecord t.lay o x) → IsUntaken t.lay (r ⊳ k) x ⊎ (IsTaken (r ⊳ k) x × IsOwnRecord t.lay o x)
      go row (inl y) = now y row (takes_or_not t.lay k r x y)
      go row (inr y) = inr (taken_more k r x y.0, y.1)

-- so it is out of reach once the pass rests behind it
module _ (t : Lasting) (words : List ℕ) (h k : History) (last : ℕ → History) (held : Held) (o : ℕ) (w : IsWindow t words h last held) (within : Extends k h) (run : IsMapRun t.lay k) (rows : HasPassedOver t held last o h k) (is_pass : o < t.lay.passes) (over : AreFinished t.lay o 0 k) where
  rested : HaveRestedAt t.lay k last
  rested = rested_behind t held last o h k within w.rested rows

  passed_out : (x : Record) → IsTaken k x → IsOwnRecord t.lay o x → IsUntaken t.lay h x → IsOutOfReach t.lay k (with_rest last o k) x
  passed_out (the_node n) taken own free = unborn_out t.lay k (with_rest last o k) o n is_pass (subst (λ m. IsUnborn t.lay o m n) (sym (rest_same last o k)) record {
    own = own;
    taken = taken;
    never = never_behind t held last o h k n within run rows (never_stood t.lay h n w.run free.0 free.1);
  })
  passed_out (the_scx s) taken own free = unnamed_out t.lay k (with_rest last o k) o s is_pass (subst (λ m. IsUnnamedScx t.lay o m s) (sym (rest_same last o k)) record {
    own = own;
    taken = taken;
    finished = over s own free.0 taken;
    unnamed = unnamed_behind t held last o h k s within run rows (λ p. free.1 (named_scx_taken t.lay h s w.run.1.lawful free.0 p));
  })

  pub passes_over : IsWindow t words k (with_rest last o k) held
  passes_over = beside t words h k last (with_rest last o k) held w within run (moves_now t k last o rested over) (rests_now t k last o rested over) (λ r g a b. (rows r g a b).2)
      (λ x i free. ⊎_elim inl (λ y. inr (passed_out x y.0 y.1 free)) (passed_own t held last o h k x within run rows free))
