-- Where lines fit, the earlier ones of them do.
use Rattle.std.proofs.Common.{◌≡◌, ◌∙◌, ◌+◌, ◌-◌, ◌≤◌, ℕ, zero, suc, List, [], ◌∷◌, ◌++◌, Result, Err, length, take, reverse, refl, ap, subst, arith}
use Rattle.std.proofs.lemmas.List.{reverse-append}
use Rattle.arena.specs.declared.layout.Layout.{Layout}
use Rattle.record.specs.Common.{Call, AreLines}
use Rattle.record.specs.declared.record.Line.{Line}
use Rattle.record.specs.declared.record.Record.{Record}
use Rattle.audit.specs.After.{lines_of, IsAfter}
use Rattle.audit.specs.Faults.{first_row, MayBeAtFault}
use Rattle.audit.specs.declared.run.Replay.{Replay}

-- more of a list extends less of it
take_more_of : (xs : List Line) (i j : ℕ) → i ≤ j → (rest : List Line) × (take j xs ≡ take i xs ++ rest)
take_more_of xs zero j less = (take j xs, refl)
take_more_of xs (suc i) zero less = absurd (omega (arith, less))
take_more_of [] (suc i) (suc j) less = ([], refl)
take_more_of (x ∷ xs) (suc i) (suc j) less = let more = take_more_of xs i j (omega (arith, less)) in (more.0, ap (λ ys. x ∷ ys) more.1)

module _ (lay : Layout) (tries : ℕ) (calls : List Call) where
  older : (newer lines : List Line) → AreLines lay tries calls (newer ++ lines) → AreLines lay tries calls lines
  unfolding AreLines
  older [] lines fit = fit
  older (line ∷ newer) lines fit = older newer lines fit.0

  pub none_fit : AreLines lay tries calls []
  unfolding AreLines
  none_fit = tt

  pub earlier_fit : (lines : List Line) (i j : ℕ) → i ≤ j → AreLines lay tries calls (reverse (take j lines)) → AreLines lay tries calls (reverse (take i lines))
  earlier_fit lines i j less fit =
      let more = take_more_of lines i j less in
      older (reverse more.0) (reverse (take i lines)) (subst (AreLines lay tries calls) (ap reverse more.1 ∙ reverse-append (take i lines) more.0) fit)

-- what is said of a row that a fault names, if this many lines were found to fit
fault_at : (r : Record) (at row : ℕ) → first_row r ≤ row → row ≤ first_row r + length r.lines.items → row ≤ first_row r + at → AreLines r.script.layout r.script.limits.tries r.script.calls.items (reverse (take at r.lines.items)) → MayBeAtFault r row
fault_at r at row from within less fit = record {
  of_line = from;
  within = within;
  fit = earlier_fit r.script.layout r.script.limits.tries r.script.calls.items r.lines.items (row - first_row r) at (omega (arith, less)) fit;
}

-- where none was looked at
pub fault_before : (r : Record) (row : ℕ) → first_row r ≤ row → row ≤ first_row r + 0 → MayBeAtFault r row
fault_before r row from less = fault_at r 0 row from (omega (arith, less)) (omega (arith, less)) (none_fit r.script.layout r.script.limits.tries r.script.calls.items)

-- and after the lines that a run has passed
pub fault_behind : (run : Replay) (r : Record) (at row : ℕ) → run.record.now ≡ r → run.at ≡ at → IsAfter run (lines_of run) → first_row r ≤ row → row ≤ first_row r + length r.lines.items → row ≤ first_row r + at → MayBeAtFault r row
fault_behind run r at row same is after from within less =
    subst (λ (k : Record). first_row k ≤ row → row ≤ first_row k + length k.lines.items → row ≤ first_row k + at → MayBeAtFault k row) same
    (subst (λ n. first_row run.record.now ≤ row → row ≤ first_row run.record.now + length run.record.now.lines.items → row ≤ first_row run.record.now + n → MayBeAtFault run.record.now row) is (λ first some few. fault_at run.record.now run.at row first some few after.in_order)) from within less

-- one fault is no other
pub err_same : {A B : Type 0} (x y : B) (a : Result A B) → a ≡ Err x → a ≡ Err y → x ≡ y
err_same x y a e f = cc
