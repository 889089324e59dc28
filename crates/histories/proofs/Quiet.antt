-- Loads, lost exchanges, fills, and the rows that set a flag, a mark or a state, each keep what
-- they must.
use Rattle.std.proofs.Common.{◌≡◌, ◌≢◌, ℕ, ◌≤◌, false, ◌⊎◌, inl, inr, ⊎_elim, refl, sym, ◌∙◌, arith}
use native.Mathlib.Decide.{ℕ_discrete}
use Rattle.histories.specs.Common.{NodeWord, Info, Marked, ScxWord, State, AllFrozen, Layout, Row, Kind, Fill, SetFrozen, Mark, Update, Commit, Abort}
use Rattle.histories.specs.Common.{same_node_word, node, scx, info, marked, state, History, ◌⊳◌, value, member, IsMark, IsAbort, IsWin, HasWon, descriptor, IsStuck}
use Rattle.arena.specs.Words.{same_scx_word}
use Rattle.arena.specs.Lawful.{IsSetFrozen, IsCommit}
use Rattle.arena.proofs.Lemmas.{value_at, value_quiet, value_apart, node_word_apart, scx_word_apart, node_apart, scx_apart}
use Rattle.histories.proofs.Changes.{IsNodeFill, IsScxFill, FillsNode, FillsScx}
use Rattle.histories.proofs.Facts.{IsFlagged, About, Facts, won_back, flagged_about}
use Rattle.histories.proofs.Keeps.{Kept, Ends, Marks}

never_info : (a : NodeWord) → IsNodeFill a → same_node_word a Info ≡ false
never_info Info i = absurd i
never_info Marked i = absurd i
never_info _ i = refl

never_mark : (a : NodeWord) → IsNodeFill a → same_node_word a Marked ≡ false
never_mark Info i = absurd i
never_mark Marked i = absurd i
never_mark _ i = refl

pub never_state : (a : ScxWord) → IsScxFill a → same_scx_word a State ≡ false
never_state State i = absurd i
never_state AllFrozen i = absurd i
never_state _ i = refl

pub never_flag : (a : ScxWord) → IsScxFill a → same_scx_word a AllFrozen ≡ false
never_flag State i = absurd i
never_flag AllFrozen i = absurd i
never_flag _ i = refl

pub not_state : (a : ScxWord) → IsScxFill a → same_scx_word State a ≡ false
not_state State i = absurd i
not_state AllFrozen i = absurd i
not_state _ i = refl

pub not_flag : (a : ScxWord) → IsScxFill a → same_scx_word AllFrozen a ≡ false
not_flag State i = absurd i
not_flag AllFrozen i = absurd i
not_flag _ i = refl

not_mark : (a : NodeWord) → IsNodeFill a → same_node_word Marked a ≡ false
not_mark Info i = absurd i
not_mark Marked i = absurd i
not_mark _ i = refl

no_win : (h : History) (r : Row) (k : Kind) → r.kind ≡ k → (k ≡ Update → ⊥) → (s : ℕ) → ¬ IsWin h r s
no_win h r k e d s w = d (sym e ∙ w.kind)

pub after_nothing : (lay : Layout) (h : History) (r : Row) → r.before ≡ value h r.word → r.after ≡ r.before → Kept lay h r
after_nothing lay h r b a =
    let same = value_quiet r h b a in
    record {
      won = won_back r h (λ s w. w.changed (sym a));
      settled = λ s z p a i. same _;
      empty = same _;
      info = λ n. same _;
      node = λ n part i p. same _;
      state = λ s. inl (same _);
      flag = λ s. inl (same _);
      mark = λ n. inl (same _);
    }

pub after_fill_of_node : (lay : Layout) (h : History) (r : Row) (m : ℕ) (a : NodeWord) → FillsNode lay h r m a → Kept lay h r
after_fill_of_node lay h r m a x =
    let at_scx : (s : ℕ) (b : ScxWord) → value (r ⊳ h) (scx s b) ≡ value h (scx s b) = λ s b. value_apart r h (node m a) (scx s b) x.word refl in
    record {
      won = won_back r h (no_win h r Fill x.kind (λ e. cc));
      settled = λ s z p b i. at_scx s b;
      empty = at_scx 0 _;
      info = λ n. value_apart r h (node m a) (info n) x.word (node_word_apart m n a Info (never_info a x.fill));
      node = λ n part i p. value_apart r h (node m a) (node n part) x.word (node_apart m n a part (λ q. x.is_open.unnamed (rw q p)));
      state = λ s. inl (at_scx s _);
      flag = λ s. inl (at_scx s _);
      mark = λ n. inl (value_apart r h (node m a) (marked n) x.word (node_word_apart m n a Marked (never_mark a x.fill)));
    }

pub after_fill_of_scx : (lay : Layout) (h : History) (r : Row) (u : ℕ) (a : ScxWord) → FillsScx lay h r u a → Kept lay h r
after_fill_of_scx lay h r u a x =
    let at_node : (n : ℕ) (b : NodeWord) → value (r ⊳ h) (node n b) ≡ value h (node n b) = λ n b. value_apart r h (scx u a) (node n b) x.word refl in
    let at_other : (s : ℕ) (b : ScxWord) → u ≢ s → value (r ⊳ h) (scx s b) ≡ value h (scx s b) = λ s b d. value_apart r h (scx u a) (scx s b) x.word (scx_apart u s a b d) in
    record {
      won = won_back r h (no_win h r Fill x.kind (λ e. cc));
      settled = λ s z p b j. at_other s b (λ q. x.is_open.unnamed (rw q p));
      empty = at_other 0 _ (let f : 1 ≤ u = omega (arith, x.is_open.own.from) in λ q. omega arith);
      info = λ n. at_node n Info;
      node = λ n part i p. at_node n part;
      state = λ s. inl (value_apart r h (scx u a) (state s) x.word (scx_word_apart u s a State (never_state a x.fill)));
      flag = λ s. inl (value_apart r h (scx u a) (scx s AllFrozen) x.word (scx_word_apart u s a AllFrozen (never_flag a x.fill)));
      mark = λ n. inl (at_node n Marked);
    }

pub after_set_frozen : (lay : Layout) (h : History) (r : Row) (u : ℕ) → r.kind ≡ SetFrozen → IsSetFrozen h r u → Kept lay h r
after_set_frozen lay h r u k x =
    let at_node : (n : ℕ) (b : NodeWord) → value (r ⊳ h) (node n b) ≡ value h (node n b) = λ n b. value_apart r h (scx u AllFrozen) (node n b) x.word refl in
    let at_scx : (s : ℕ) (b : ScxWord) → same_scx_word AllFrozen b ≡ false → value (r ⊳ h) (scx s b) ≡ value h (scx s b) = λ s b d. value_apart r h (scx u AllFrozen) (scx s b) x.word (scx_word_apart u s AllFrozen b d) in
    record {
      won = won_back r h (no_win h r SetFrozen k (λ e. cc));
      settled = λ s y p b j. at_scx s b (not_flag b j);
      empty = at_scx 0 _ refl;
      info = λ n. at_node n Info;
      node = λ n part i p. at_node n part;
      state = λ s. inl (at_scx s State refl);
      flag = λ s. flag s (ℕ_discrete u s);
      mark = λ n. inl (at_node n Marked);
    }
  where
    all : IsFlagged (descriptor h u) h u
    all = record { some = x.some; frozen = x.frozen }

    flag : (s : ℕ) → Dec (u ≡ s) → (value (r ⊳ h) (scx s AllFrozen) ≡ value h (scx s AllFrozen)) ⊎ ((value (r ⊳ h) (scx s AllFrozen) ≡ 1) × IsFlagged (descriptor h s) h s)
    flag s (yes q) = inr (value_at r h (scx s AllFrozen) (rw q at x.word) ∙ x.stored, rw q at all)
    flag s (no q) = inl (value_apart r h (scx u AllFrozen) (scx s AllFrozen) x.word (scx_apart u s AllFrozen AllFrozen q))

pub after_mark : (lay : Layout) (h : History) (r : Row) → Facts lay h → (u j : ℕ) → r.kind ≡ Mark → IsMark h r u j → Kept lay h r
after_mark lay h r f u j k x =
    let at_scx : (s : ℕ) (b : ScxWord) → value (r ⊳ h) (scx s b) ≡ value h (scx s b) = λ s b. value_apart r h (marked (member h u j)) (scx s b) x.word refl in
    record {
      won = won_back r h (no_win h r Mark k (λ e. cc));
      settled = λ s z p b i. at_scx s b;
      empty = at_scx 0 _;
      info = λ n. value_apart r h (marked (member h u j)) (info n) x.word (node_word_apart (member h u j) n Marked Info refl);
      node = λ n part i p. value_apart r h (marked (member h u j)) (node n part) x.word (node_word_apart (member h u j) n Marked part (not_mark part i));
      state = λ s. inl (at_scx s _);
      flag = λ s. inl (at_scx s _);
      mark = λ n. mark n (ℕ_discrete (member h u j) n);
    }
  where
    all : IsFlagged (descriptor h u) h u
    all = f.flagged u (λ e. let y = x.all_frozen in omega arith)

    known : About lay (descriptor h u) h u
    known = flagged_about f all

    stored : value (r ⊳ h) (marked (member h u j)) ≡ 1
    stored = value_at r h (marked (member h u j)) x.word ∙ x.stored

    -- a finished SCX-record has marked the node before
    mine : Dec (value h (state u) ≡ 0) → (value (r ⊳ h) (marked (member h u j)) ≡ value h (marked (member h u j))) ⊎ Marks h (member h u j) (value (r ⊳ h) (marked (member h u j)))
    mine (yes c) = inr record {
      stored = stored;
      scx = u;
      marker = record { flag = x.all_frozen; index = j; within = x.within; is = refl; removed = x.removed; holds = known.holds j x.within (all.frozen j x.within) c };
      running = c;
    }
    mine (no c) = inl (⊎_elim (λ w. stored ∙ sym (f.all_marked u w j x.within x.removed)) (λ y. absurd (y.unfrozen (all.frozen y.index y.within))) (known.done c))

    mark : (n : ℕ) → Dec (member h u j ≡ n) → (value (r ⊳ h) (marked n) ≡ value h (marked n)) ⊎ Marks h n (value (r ⊳ h) (marked n))
    mark n (yes c) = rw c at (mine (ℕ_discrete (value h (state u)) 0))
    mark n (no c) = inl (value_apart r h (marked (member h u j)) (marked n) x.word (node_apart (member h u j) n Marked Marked c))

-- a row on the state of u that ends it
after_end : (lay : Layout) (h : History) (r : Row) (u : ℕ) → ((s : ℕ) → ¬ IsWin h r s) → r.word ≡ state u → Ends h u r.after → Kept lay h r
after_end lay h r u never e x =
    let at_node : (n : ℕ) (b : NodeWord) → value (r ⊳ h) (node n b) ≡ value h (node n b) = λ n b. value_apart r h (state u) (node n b) e refl in
    let at_scx : (s : ℕ) (b : ScxWord) → same_scx_word State b ≡ false → value (r ⊳ h) (scx s b) ≡ value h (scx s b) = λ s b d. value_apart r h (state u) (scx s b) e (scx_word_apart u s State b d) in
    record {
      won = won_back r h never;
      settled = λ s y p b j. at_scx s b (not_state b j);
      empty = at_scx 0 _ refl;
      info = λ n. at_node n Info;
      node = λ n part i p. at_node n part;
      state = λ s. ends s (ℕ_discrete u s);
      flag = λ s. inl (at_scx s AllFrozen refl);
      mark = λ n. inl (at_node n Marked);
    }
  where
    ends : (s : ℕ) → Dec (u ≡ s) → (value (r ⊳ h) (state s) ≡ value h (state s)) ⊎ Ends h s (value (r ⊳ h) (state s))
    ends s (yes q) = inr (rw (value_at r h (state s) (rw q at e)) (rw q at x))
    ends s (no q) = inl (value_apart r h (state u) (state s) e (scx_apart u s State State q))

pub after_commit : (lay : Layout) (h : History) (r : Row) (u : ℕ) → r.kind ≡ Commit → IsCommit h r u → Kept lay h r
after_commit lay h r u k x = after_end lay h r u (no_win h r Commit k (λ e. cc)) x.word (inl (x.stored, x.won))

pub after_abort : (lay : Layout) (h : History) (r : Row) → Facts lay h → (u j : ℕ) → r.kind ≡ Abort → IsAbort lay h r u j → Kept lay h r
after_abort lay h r f u j k x = after_end lay h r u (no_win h r Abort k (λ e. cc)) x.word (inr (x.stored, stuck, never))
  where
    stuck : IsStuck (descriptor h u) h u
    stuck = record { index = j; within = x.within; earlier = x.earlier; unfrozen = x.never; passed = x.passed }

    never : ¬ HasWon h u
    never w = let y = f.winner u w in let z = x.unset in omega arith
