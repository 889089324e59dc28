use Rattle.std.proofs.Common.{◌≡◌, ℕ, suc, ◌+◌, List, length, ⊎_elim, inl, inr, slice_get, Option, IfSome, IfNone, sym, ◌∙◌, ap, subst, add-one, ltb-true, arith}
use Rattle.histories.specs.Common.{Layout, ScxNo, Row, IsInProgress, History, ◌⊳◌, IsLawful, log}
use Rattle.record.specs.Turns.{history}
use Rattle.judge.specs.Histories.{Judged, seen_history}
use Rattle.audit.specs.declared.memory.Memory.{Memory}
use Rattle.audit.specs.declared.steps.Steps.{Steps}
use Rattle.audit.specs.Remembered.{row_count}
use Rattle.audit.proofs.Remembering.{IsWonBy, finals_made, finals_stay, ended, final_as, noted_as, made_remembered}
use Rattle.audit.proofs.steps.Steps.make.Goals as goal

pub returns-clause-remembered : goal.returns-clause-remembered
returns-clause-remembered c lay calls lines number x =
    let row : Row = c.args.row.now in
    let old : Steps = c.args.self.now in
    let mid : Steps = c.note_end.new.self in
    let late : Steps = c.remember.new.self in
    let new : Steps = c.note_finals.new.self in
    let h : History = history lay.mode lines in
    let w : Option ScxNo = c.winner-winner.result in
    let s = x.remembered.steps in
    let lawful : IsLawful lay h row = subst (λ (k : History). IsLawful lay k row) s.is_seen (subst (λ (l : Layout). IsLawful l (seen_history old.judge) row) s.layout c.requires) in
    let mid_judge : mid.judge ≡ c.make.new.self = ap (λ (k : Steps). k.judge) c.note_end.ensures.same in
    let mid_layout : mid.judge.layout ≡ lay = ap (λ (j : Judged). j.layout) mid_judge ∙ c.make.ensures.layout ∙ s.layout in
    let mid_seen : seen_history mid.judge ≡ row ⊳ h = ap seen_history mid_judge ∙ c.in_ok-make.ensures.history ∙ ap (λ (k : History). row ⊳ k) s.is_seen in
    let mid_count : mid.count + 1 ≡ suc (row_count h) = ap (λ (k : Steps). k.count + 1) c.note_end.ensures.same ∙ add-one old.count ∙ ap suc s.count in
    let late_judge : late.judge ≡ mid.judge = ap (λ (k : Steps). k.judge) c.remember.ensures.same in
    let late_layout : late.judge.layout ≡ lay = ap (λ (j : Judged). j.layout) late_judge ∙ mid_layout in
    let late_seen : seen_history late.judge ≡ row ⊳ h = ap seen_history late_judge ∙ mid_seen in
    let late_count : late.count ≡ suc (row_count h) = ap (λ (k : Steps). k.count) c.remember.ensures.same ∙ mid_count in
    let late_finals : late.finals.items ≡ old.finals.items = ap (λ (k : Steps). k.finals.items) c.remember.ensures.same ∙ ap (λ (k : Steps). k.finals.items) c.note_end.ensures.same in
    let new_judge : new.judge ≡ late.judge = ap (λ (k : Steps). k.judge) c.note_finals.ensures.same in
    let new_memories : new.memories.items ≡ late.memories.items = ap (λ (k : Steps). k.memories.items) c.note_finals.ensures.same in
    let mid_memories : mid.memories.items ≡ old.memories.items = ap (λ (k : Steps). k.memories.items) c.note_end.ensures.same in
    let new_until : new.until.items ≡ mid.until.items = ap (λ (k : Steps). k.until.items) c.note_finals.ensures.same ∙ ap (λ (k : Steps). k.until.items) c.remember.ensures.same in
    let wins : IfSome w (λ t. IsWonBy lay h row t) = subst (λ (k : History). IfSome w (λ t. IsWonBy lay k row t)) s.is_seen (subst (λ (l : Layout). IfSome w (λ t. IsWonBy l (seen_history old.judge) row t)) s.layout c.winner-winner.ensures.logged) in
    let unlogged : IfNone w (log lay (row ⊳ h) ≡ log lay h) = subst (λ (k : History). IfNone w (log lay (row ⊳ k) ≡ log lay k)) s.is_seen (subst (λ (l : Layout). IfNone w (log l (row ⊳ seen_history old.judge) ≡ log l (seen_history old.judge))) s.layout c.winner-winner.ensures.unlogged) in
    let running : IfSome c.ends-ends.result (λ t. IsInProgress h t.0) = subst (λ (k : History). IfSome c.ends-ends.result (λ t. IsInProgress k t.0)) s.is_seen c.ends-ends.ensures in
    made_remembered lay calls lines number row old new x lawful (let few = ltb-true _ _ c.in_ok-require.ensures in let count = s.count in omega arith)
    record {
      layout = ap (λ (j : Judged). j.layout) new_judge ∙ late_layout;
      is_seen = ap seen_history new_judge ∙ late_seen;
      count = ap (λ (k : Steps). k.count) c.note_finals.ensures.same ∙ ap (λ (k : Steps). k.count) c.remember.ensures.same ∙ ap (λ (k : Steps). k.count + 1) c.note_end.ensures.same;
      all_until = ap (λ (l : List ℕ). length l) new_until ∙ c.note_end.ensures.many;
      until = λ t rows get. ⊎_elim (λ q. inl q) (λ q. inr (q.0, ended c.ends-ends.result t h running q.1 q.2)) (c.note_end.ensures.until t rows (ap (λ (l : List ℕ). slice_get l t) (sym new_until) ∙ get));
      all_finals = c.note_finals.ensures.many ∙ ap (λ (l : List ℕ). length l) late_finals;
      finals = finals_made lay h row old new s w wins unlogged (λ e. c.note_finals.ensures.none e ∙ late_finals) (λ t e n rows get. final_as late.judge.layout lay (seen_history late.judge) (row ⊳ h) late.count (suc (row_count h)) late.finals.items old.finals.items t.0 n rows late_layout late_seen late_count late_finals (c.note_finals.ensures.noted t e n rows get));
      stays = finals_stay lay h row old new s w wins unlogged;
      all_memories = ap (λ (l : List Memory). length l) new_memories ∙ c.remember.ensures.many ∙ ap (λ (l : List Memory). length l) mid_memories;
    }
    (λ k d. ap (λ (l : List Memory). slice_get l k) new_memories ∙ c.remember.ensures.others k d ∙ ap (λ (l : List Memory). slice_get l k) mid_memories)
    (λ m get. let z = c.remember.ensures.own m (ap (λ (l : List Memory). slice_get l row.pass.0) (sym new_memories) ∙ get) in (z.0, ap (λ (l : List Memory). slice_get l row.pass.0) (sym mid_memories) ∙ z.1, noted_as mid.judge.layout lay (seen_history mid.judge) (row ⊳ h) (mid.count + 1) (suc (row_count h)) row z.0 m mid_layout mid_seen mid_count z.2))
