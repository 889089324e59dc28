-- Passes that have no SCX-record of their own in progress: which rows leave them so.
use Rattle.std.proofs.Common.{◌≡◌, ◌≢◌, ℕ, ◌⊎◌, inl, inr, ⊎_elim, refl, sym, ◌∙◌, ap, subst, arith}
use native.Mathlib.Decide.{ℕ_discrete}
use Rattle.histories.specs.Common.{Layout, Child, Info, Marked, AllFrozen, Plan, New, Old, Member, Seen, Row, Step, Freeze, member_index, scx, info, marked, state, History, ◌⊳◌}
use Rattle.histories.specs.Common.{value, HasHeld, Extends, plan, side_of, field_index, member, seen, IsOwnScx, IsNamedScx, IsTakenScx, IsExchange, Lawful, IsInProgress, Call, row_of}
use Rattle.arena.proofs.Lemmas.{value_at, value_apart, node_apart, node_word_apart, held_at, held_split, held_back, same_moment}
use Rattle.histories.proofs.Lemmas.{Effect, effect, facts_before, finished_stays, freeze, named_scx_back, named_scx_taken, one_scx_owner, quiet, update, update_keeps_info}
use Rattle.help.specs.Help.Known.{help_step, HelpWaits}
use Rattle.help.specs.Laws.Help.Lawful.{exchange_of}
use Rattle.help.specs.declared.state.HelpRun.{HelpRun}
use Rattle.help.specs.declared.state.HelpAt.{HelpAt}
use Rattle.help.specs.declared.state.HelpAt.TheVariants.{Start as HelpStart, Plan as AtPlan, Member as AtMember, Seen as AtSeen, Freeze as AtFreeze, AllFrozen as AtAllFrozen, Abort as AtAbort, SetFrozen as AtSetFrozen, Mark as AtMark, New as AtNew, Old as AtOld, Update as AtUpdate, Commit as AtCommit}
use Rattle.prims.specs.Moments.{AreFinished}

-- none of the pass's own SCX-records is in progress: the pass is idle
abbrev pub IsIdle : Layout → ℕ → History → Type 0
IsIdle lay c h = (s : ℕ) → IsOwnScx lay c s → ¬ IsInProgress h s

-- the pass has been idle at each moment from `start` on
abbrev pub IsQuietSince : Layout → ℕ → History → History → Type 0
IsQuietSince lay c start h = (m : History) → Extends h m → Extends m start → IsIdle lay c m

-- a pass is idle if each of its SCX-records that is taken is finished
pub idle_if_over : (lay : Layout) (c : ℕ) (h : History) → Lawful lay h → ((s : ℕ) → IsOwnScx lay c s → IsTakenScx h s → value h (state s) ≢ 0) → IsIdle lay c h
idle_if_over lay c h l over s own x = over s own (named_scx_taken lay h s l (λ e. let p = own.from in omega arith) x.named) x.unfinished

-- and if all of them are finished
pub idle_if_finished : (c : Call) (h : History) → Lawful c.layout h → AreFinished c.layout c.pass 0 h → IsIdle c.layout c.pass h
idle_if_finished c h l over = idle_if_over c.layout c.pass h l (λ s own t. over s own (λ e. let a = own.from in omega (arith, e)) t)

-- One more row

-- an SCX-record that the row does not newly name and that was not in progress is not so then
still_out : (lay : Layout) (h : History) (r : Row) (t : ℕ) → Lawful lay (r ⊳ h) → (IsNamedScx (r ⊳ h) t → IsNamedScx h t) → ¬ IsInProgress h t → ¬ IsInProgress (r ⊳ h) t
still_out lay h r t l back out x = go (ℕ_discrete (value h (state t)) 0)
  where
    go : Dec (value h (state t) ≡ 0) → ⊥
    go (yes z) = out record { unfinished = z; named = back x.named }
    go (no d) = finished_stays lay h r t l d x.unfinished

-- a row of another pass starts none of the pass's own
pub out_by_others : (lay : Layout) (c : ℕ) (h : History) (r : Row) (t : ℕ) → Lawful lay (r ⊳ h) → r.pass.0 ≢ c → IsOwnScx lay c t → ¬ IsInProgress h t → ¬ IsInProgress (r ⊳ h) t
out_by_others lay c h r t l other own = still_out lay h r t l back
  where
    back : IsNamedScx (r ⊳ h) t → IsNamedScx h t
    back p = ⊎_elim (λ q. q) (λ o. absurd (other (one_scx_owner lay r.pass.0 c t o own))) (named_scx_back lay h r t l p)

-- no info word changes by a row that is no freezing exchange
info_kept : (lay : Layout) (h : History) (r : Row) (n : ℕ) → Lawful lay (r ⊳ h) → r.kind ≢ Freeze → value (r ⊳ h) (info n) ≡ value h (info n)
info_kept lay h r n l d = go (effect lay h r l)
  where
    go : Effect lay h r → value (r ⊳ h) (info n) ≡ value h (info n)
    go (quiet k) = k.info n
    go (freeze u j w) = absurd (d w.kind)
    go (update u w) = update_keeps_info (facts_before lay h r l) w n

-- a row that is no freeze starts no SCX-record: a load, a fill, a commit
pub out_by_no_freeze : (lay : Layout) (h : History) (r : Row) (t : ℕ) → Lawful lay (r ⊳ h) → r.kind ≢ Freeze → ¬ IsInProgress h t → ¬ IsInProgress (r ⊳ h) t
out_by_no_freeze lay h r t l d = still_out lay h r t l (λ p. (p.0, held_back r h _ t (info_kept lay h r p.0 l d) p.1))

-- an exchange on an info word leaves each info word, or stores there what it was to store
exchange_stores : (r : Row) (h : History) (k n expected s : ℕ) → r.word ≡ info k → r.before ≡ value h r.word → IsExchange r expected s → (value (r ⊳ h) (info n) ≡ value h (info n)) ⊎ (value (r ⊳ h) (info n) ≡ s)
exchange_stores r h k n expected s w b x = go (ℕ_discrete k n) (ℕ_discrete r.before expected)
  where
    go : Dec (k ≡ n) → Dec (r.before ≡ expected) → (value (r ⊳ h) (info n) ≡ value h (info n)) ⊎ (value (r ⊳ h) (info n) ≡ s)
    go (no d) found = inl (value_apart r h (info k) (info n) w (node_apart k n Info Info d))
    go (yes p) (yes q) = inr (value_at r h (info n) (w ∙ ap info p) ∙ x.won q)
    go (yes p) (no d) = inl (value_at r h (info n) (w ∙ ap info p) ∙ x.lost d ∙ b ∙ ap (value h) (w ∙ ap info p))

-- a step of HELP of s leaves an info word, or stores s there
help_stores : (c : Call) (h : History) (s n : ℕ) (at : HelpAt) → (value (row_of c (help_step h s at) h ⊳ h) (info n) ≡ value h (info n)) ⊎ (value (row_of c (help_step h s at) h ⊳ h) (info n) ≡ s)
help_stores c h s n HelpStart = inl (value_apart (row_of c (help_step h s HelpStart) h) h (scx s Plan) (info n) refl refl)
help_stores c h s n AtPlan = inl (value_apart (row_of c (help_step h s AtPlan) h) h (scx s Plan) (info n) refl refl)
help_stores c h s n (AtMember j) = inl (value_apart (row_of c (help_step h s (AtMember j)) h) h (scx s (Member (member_index j))) (info n) refl refl)
help_stores c h s n (AtSeen j) = inl (value_apart (row_of c (help_step h s (AtSeen j)) h) h (scx s (Seen (member_index j))) (info n) refl refl)
help_stores c h s n (AtAllFrozen j v) = inl (value_apart (row_of c (help_step h s (AtAllFrozen j v)) h) h (scx s AllFrozen) (info n) refl refl)
help_stores c h s n (AtAbort j v) = inl (value_apart (row_of c (help_step h s (AtAbort j v)) h) h (state s) (info n) refl refl)
help_stores c h s n AtSetFrozen = inl (value_apart (row_of c (help_step h s AtSetFrozen) h) h (scx s AllFrozen) (info n) refl refl)
help_stores c h s n (AtMark j) = inl (value_apart (row_of c (help_step h s (AtMark j)) h) h (marked (member h s (member_index j))) (info n) refl (node_word_apart (member h s (member_index j)) n Marked Info refl))
help_stores c h s n AtNew = inl (value_apart (row_of c (help_step h s AtNew) h) h (scx s New) (info n) refl refl)
help_stores c h s n (AtOld v) = inl (value_apart (row_of c (help_step h s (AtOld v)) h) h (scx s Old) (info n) refl refl)
help_stores c h s n AtUpdate = inl (value_apart (row_of c (help_step h s AtUpdate) h) h _ (info n) refl (node_word_apart (member h s (field_index h s)) n (Child (side_of (plan h s))) Info refl))
help_stores c h s n AtCommit = inl (value_apart (row_of c (help_step h s AtCommit) h) h (state s) (info n) refl refl)
help_stores c h s n (AtFreeze j v) =
    exchange_stores (row_of c (help_step h s (AtFreeze j v)) h) h (member h s (member_index j)) n (seen h s (member_index j)) s refl refl (exchange_of c h (help_step h s (AtFreeze j v)) (seen h s (member_index j)) s refl)

-- a step of HELP of s starts none but perhaps s, and not s where an info word has named it before
pub out_by_help : (allows : Layout → History → ℕ → Type 0) (c : Call) (h : History) (m : HelpRun) (step : Step) (t : ℕ) → Lawful c.layout (row_of c step h ⊳ h) → HelpWaits allows c.layout c.pass m h step → (t ≡ m.scx.0 → IsNamedScx h t) → ¬ IsInProgress h t → ¬ IsInProgress (row_of c step h ⊳ h) t
out_by_help allows c h m step t l w named = still_out c.layout h (row_of c step h) t l back
  where
    stores : (n : ℕ) → (value (row_of c step h ⊳ h) (info n) ≡ value h (info n)) ⊎ (value (row_of c step h ⊳ h) (info n) ≡ m.scx.0)
    stores n = rw w.asked (help_stores c h m.scx.0 n m.at)

    at_word : (n : ℕ) → (value (row_of c step h ⊳ h) (info n) ≡ value h (info n)) ⊎ (value (row_of c step h ⊳ h) (info n) ≡ m.scx.0) → (value (row_of c step h ⊳ h) (info n) ≡ t) ⊎ HasHeld h (info n) t → IsNamedScx h t
    at_word n e (inr p) = (n, p)
    at_word n (inl e) (inl q) = (n, held_at h (info n) t (sym e ∙ q))
    at_word n (inr e) (inl q) = named (sym q ∙ e)

    back : IsNamedScx (row_of c step h ⊳ h) t → IsNamedScx h t
    back p = at_word p.0 (stores p.0) (held_split (row_of c step h) h (info p.0) t p.1)

-- The pass stays idle

-- a row of another pass leaves the pass idle
pub idle_by_others : (lay : Layout) (c : ℕ) (h : History) (r : Row) → Lawful lay (r ⊳ h) → r.pass.0 ≢ c → IsIdle lay c h → IsIdle lay c (r ⊳ h)
idle_by_others lay c h r l other idle t own = out_by_others lay c h r t l other own (idle t own)

-- a row that is no freeze leaves the pass idle
pub idle_by_no_freeze : (lay : Layout) (c : ℕ) (h : History) (r : Row) → Lawful lay (r ⊳ h) → r.kind ≢ Freeze → IsIdle lay c h → IsIdle lay c (r ⊳ h)
idle_by_no_freeze lay c h r l d idle t own = out_by_no_freeze lay h r t l d (idle t own)

-- a step of HELP of an SCX-record that an info word has named leaves the pass idle
pub idle_by_help : (allows : Layout → History → ℕ → Type 0) (c : Call) (h : History) (m : HelpRun) (step : Step) → Lawful c.layout (row_of c step h ⊳ h) → HelpWaits allows c.layout c.pass m h step → IsNamedScx h m.scx.0 → IsIdle c.layout c.pass h → IsIdle c.layout c.pass (row_of c step h ⊳ h)
idle_by_help allows c h m step l w named idle t own = out_by_help allows c h m step t l w (λ e. rw e named) (idle t own)

-- Since a call's start

-- a pass that is idle now has been idle since now
pub quiet_at_start : (lay : Layout) (c : ℕ) (h : History) → IsIdle lay c h → IsQuietSince lay c h h
quiet_at_start lay c h idle m e f = subst (IsIdle lay c) (sym (same_moment h m e f)) idle

-- a pass that has been idle since `start`, and is so after one more row, has been idle since then
pub quiet_more : (lay : Layout) (c : ℕ) (start h : History) (r : Row) → IsIdle lay c (r ⊳ h) → IsQuietSince lay c start h → IsQuietSince lay c start (r ⊳ h)
quiet_more lay c start h r idle q m (inl e) f = subst (IsIdle lay c) (sym e) idle
quiet_more lay c start h r idle q m (inr e) f = q m e f
