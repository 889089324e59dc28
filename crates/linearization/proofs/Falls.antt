-- The turns of a record's entries fall, from the newest to the oldest.
use Rattle.std.proofs.Common.{◌≡◌, ℕ, suc, List, [], ◌∷◌, sym, ◌∙◌, subst, arith}
use Rattle.arena.specs.declared.layout.Layout.{Layout}
use Rattle.record.specs.Common.{Call, turns, AreLines}
use Rattle.record.specs.declared.record.Line.{Line}
use Rattle.record.specs.declared.record.Line.TheVariants.{Step, Log, Reply as ReplyLine}
use Rattle.record.specs.declared.record.TurnRow.TheVariants.{Step as Made, Idle}
use Rattle.record.proofs.Lemmas.{log_step}
use Rattle.linearization.specs.declared.places.Change.{Change}
use Rattle.linearization.specs.Entries.{AreEntries}
use Rattle.linearization.specs.Ordered.{FallFrom}
use Rattle.linearization.proofs.Weights.{fall_less}

-- so do those of the changes that the entries make
pub falls : (lay : Layout) (tries : ℕ) (calls : List Call) (lines : List Line) (cs : List Change) → AreLines lay tries calls lines → AreEntries calls lines cs → FallFrom (suc (turns lines)) cs
unfolding AreLines
falls lay tries calls [] [] a x = tt
falls lay tries calls [] (c ∷ cs) a x = absurd x
falls lay tries calls (Step row ∷ lines) cs a x = fall_less (suc (turns lines)) (suc (suc (turns lines))) cs (omega arith) (falls lay tries calls lines cs a.0 x)
falls lay tries calls (ReplyLine reply ∷ lines) cs a x = falls lay tries calls lines cs a.0 x
falls lay tries calls (Log e ∷ lines) [] a x = absurd x
falls lay tries calls (Log e ∷ Step (Made n row) ∷ lines) (c ∷ cs) a x =
    let s : e.step ≡ suc (turns lines) = log_step lay tries calls (Step (Made n row) ∷ lines) e a.0 a.1 in
    let t : c.turn ≡ suc (turns lines) = x.0.0 ∙ s in
    (omega (t, arith), subst (λ (k : ℕ). FallFrom k cs) (sym t) (falls lay tries calls lines cs a.0.0 x.1))
falls lay tries calls (Log e ∷ Step (Idle n client) ∷ lines) (c ∷ cs) a x = absurd a.1
falls lay tries calls (Log e ∷ Log d ∷ lines) (c ∷ cs) a x = absurd a.1
falls lay tries calls (Log e ∷ ReplyLine reply ∷ lines) (c ∷ cs) a x = absurd a.1
falls lay tries calls (Log e ∷ []) (c ∷ cs) a x = absurd a.1
