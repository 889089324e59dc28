use Rattle.std.proofs.Common.{ℕ, ◌≡◌, ◌≤◌, ◌<◌, ◌-◌, ◌^◌, ◌++◌, ◌∷◌, [], List, suc, ◌∙◌, inl, inr, sym, arith, rules}
use Rattle.texts.specs.Reads.{IsAtRow, last_row}
use Rattle.texts.specs.Texts.{IsEndRow, end_row}
use Rattle.texts.proofs.HaveRead.{begins}
use Rattle.texts.proofs.Refusals.{passed_on}
use Rattle.texts.proofs.rows.Rows.end.Given.{Over}
use Rattle.texts.proofs.rows.Rows.end.Goals.{After-advance, After-field, then-ne+in_ok-entry, else-ne}
use Rattle.texts.proofs.rows.Rows.end.Goals as goal

-- the end row counts the entries
right : (g : Over) (c : After-advance g) (bytes : List ℕ) (before : List (List (List ℕ))) → IsAtRow g.R.Read.remaining bytes before (g.F.Format.grammar c.args.format.now).width c.args.self.now → IsEndRow (g.F.Format.grammar c.args.format.now) (last_row c.args.self.now) → last_row c.args.self.now ≡ end_row (g.F.Format.grammar c.args.format.now).width c.args.entries
right g c bytes before st is_end =
    let grammar = g.F.Format.grammar c.args.format.now in
    let width = g.met.F.Format.width c.args.format.now in
    let wide : 2 ≤ grammar.width = omega (arith, width.0, width.1) in
    (c.counts.ensures grammar.width wide st.row.0 is_end).0 (rw c.if-not-counts.false (search rules))

-- the row after it is the next
next : (g : Over) (c : After-advance g) → c.args.self.now.number < 2 ^ 64 - 1 → c.advance.new.self.number ≡ suc c.args.self.now.number
next g c small = omega (arith, c.advance.ensures.number, small)

-- the reader is at that row
late : (g : Over) (c : After-field g) (bytes : List ℕ) (before : List (List (List ℕ))) → IsAtRow g.R.Read.remaining bytes before (g.F.Format.grammar c.args.format.now).width c.args.self.now → IsAtRow g.R.Read.remaining bytes (before ++ last_row c.args.self.now ∷ []) (g.F.Format.grammar c.args.format.now).width c.advance.new.self
late g c bytes before st =
    let found = rw c.if-not-branch.false at (c.in_ok-advance.ensures.row bytes (before ++ last_row c.args.self.now ∷ []) st.read) in
    record { read = found.1; row = (found.0.0 ∙ c.WIDTH.ensures ∙ sym (g.met.F.Format.width c.args.format.now).0, found.0.1) }

pub returns-in_err-advance-clause-fault : goal.returns-in_err-advance-clause-fault
returns-in_err-advance-clause-fault g c bytes before st is_end small =
    let here = (goal.at.returns-in_err-advance-clause-fault g c).After-advance in
    let width = g.met.F.Format.width c.args.format.now in
    passed_on c.advance.result c.from_residual.result c.in_err-advance.field-0.0 c.in_err-advance.was (search rules)
    (λ row cause why. inr (why.0 ∙ next g here small, right g here bytes before st is_end, why.2, why.3, inl (λ r. why.4 (r.0 ∙ width.0 ∙ sym c.WIDTH.ensures, r.1), why.1 ∙ sym (g.met.F.Format.causes c.args.format.now).0)))
    (c.advance.ensures.fault bytes (before ++ last_row c.args.self.now ∷ []) st.read)

pub returns-then-not-branch-clause-ok : goal.returns-then-not-branch-clause-ok
returns-then-not-branch-clause-ok g c bytes before st is_end =
    (right g (goal.at.returns-then-not-branch-clause-ok g c).After-advance bytes before st is_end, rw c.if-not-branch.true at (c.in_ok-advance.ensures.row bytes (before ++ last_row c.args.self.now ∷ []) st.read))

pub returns-in_err-entry-clause-fault : goal.returns-in_err-entry-clause-fault
returns-in_err-entry-clause-fault g c bytes before st is_end small =
    let here = goal.at.returns-in_err-entry-clause-fault g c in
    let found = late g here.After-field bytes before st in
    let not_end : ¬ (IsEndRow (g.F.Format.grammar c.args.format.now) (last_row c.advance.new.self)) = search rules in
    passed_on c.entry.result c.from_residual-in_err-entry.result c.in_err-entry.field-0.0 c.in_err-entry.was (search rules)
    (λ row cause why. inr (why.0 ∙ next g here.After-advance small, right g here.After-advance bytes before st is_end, last_row c.advance.new.self, begins _ bytes _ _ found.read, inr (inl (found.row, not_end, why.1))))
    (c.entry.ensures.fault (found.row.0 ∙ (g.met.F.Format.width c.args.format.now).0))

pub returns-clause-fault : goal.returns-clause-fault
returns-clause-fault g c bytes before st is_end small =
    let here = goal.at.returns-clause-fault g c in
    let found = late g here.After-field bytes before st in
    rw c.fault-2.ensures (inr (
      next g here.After-advance small,
      right g here.After-advance bytes before st is_end,
      last_row c.advance.new.self,
      begins _ bytes _ _ found.read,
      inr (inr (
        found.row,
        (elim c.if-ne.branch [
          | then-ne+in_ok-entry w ↦ inr (w.in_ok-entry.field-0, w.in_ok-entry.ensures.accepted, w.in_ok-entry.ensures.row (found.row.0 ∙ (g.met.F.Format.width c.args.format.now).0))
          | else-ne w ↦ inl (search rules)
        ]),
        c.END-2.ensures ∙ sym (g.met.F.Format.causes c.args.format.now).1,
      )),
    ))
