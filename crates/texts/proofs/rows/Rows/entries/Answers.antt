use Rattle.std.proofs.Common.{ℕ, suc, ◌≡◌, ◌<◌, ◌^◌, ◌++◌, ◌∷◌, [], List, ◌∙◌, inl, inr, length, vec_len, ap, subst, sym, arith, rules}
use Rattle.texts.specs.Reads.{HasRead, IsAtRow, last_row}
use Rattle.texts.specs.Texts.{AreAcceptedEntries, AreRows, IsEndFault, IsEndRow, end_row, rows_of_entries}
use Rattle.texts.proofs.Entries.{fault_at_end, read_so_far, rows_before}
use Rattle.texts.proofs.HaveRead.{begins}
use Rattle.texts.proofs.Refusals.{passed_on}
use Rattle.texts.proofs.rows.Rows.entries.Given.{Over}
use Rattle.texts.proofs.rows.Rows.entries.Goals.{After-advance, After-field, After-len}
use Rattle.texts.proofs.rows.Rows.entries.Goals as goal

-- what has been read are entries, and the row that is read now has the number after them
so_far : (g : Over) (c : After-advance g) (head : List (List (List ℕ))) → c.args.self.now.number ≡ length head → length head < 2 ^ 32 → AreAcceptedEntries (g.F.Format.grammar c.args.format.now) c.loop-entries.entries.items × (c.advance.new.self.number ≡ suc (length (rows_of_entries (g.F.Format.grammar c.args.format.now) head c.loop-entries.entries.items)))
so_far g c head start small =
    let l = c.loop-entries in
    read_so_far (g.F.Format.grammar c.args.format.now) head l.entries.items (vec_len l.entries) _ _ _ l.invariant.1 l.invariant.0 (omega (arith, l.entries.ok.0)) start small l.invariant.3 c.advance.ensures.number

-- the reader is at the row after them
at_row : (g : Over) (c : After-field g) (bytes : List ℕ) (head : List (List (List ℕ))) → HasRead g.R.Read.remaining bytes head c.args.self.now → IsAtRow g.R.Read.remaining bytes (rows_of_entries (g.F.Format.grammar c.args.format.now) head c.loop-entries.entries.items) (g.F.Format.grammar c.args.format.now).width c.advance.new.self
at_row g c bytes head h =
    let l = c.loop-entries in
    let found = rw c.if-branch.true at (c.in_ok-advance.ensures.row bytes (rows_of_entries (g.F.Format.grammar c.args.format.now) head l.entries.items) (l.invariant.2 bytes head h)) in
    record { read = found.1; row = (found.0.0 ∙ c.WIDTH.ensures ∙ sym (g.met.F.Format.width c.args.format.now).0, found.0.1) }

-- the length of the list that the end row is compared with
counted : (g : Over) (c : After-len g) → c.len.result ≡ length c.loop-entries.entries.items
counted g c = let l = c.loop-entries in omega (arith, c.len.ensures, l.entries.ok.0)

pub returns-in_err-advance-clause-fault : goal.returns-in_err-advance-clause-fault
returns-in_err-advance-clause-fault g c bytes head h start small =
    let width = g.met.F.Format.width c.args.format.now in
    let l = c.loop-entries in
    let before = so_far g (goal.at.returns-in_err-advance-clause-fault g c).After-advance head start small in
    passed_on c.advance.result c.from_residual.result c.in_err-advance.field-0.0 c.in_err-advance.was (search rules)
    (λ row cause why. (l.entries.items, before.0, inr (inl (why.2, why.3, why.0 ∙ before.1, inl (λ r. why.4 (r.0 ∙ width.0 ∙ sym c.WIDTH.ensures, r.1), why.1 ∙ sym (g.met.F.Format.causes c.args.format.now).0)))))
    (c.advance.ensures.fault bytes (rows_of_entries (g.F.Format.grammar c.args.format.now) head l.entries.items) (l.invariant.2 bytes head h))

pub returns-in_err-end-clause-fault : goal.returns-in_err-end-clause-fault
returns-in_err-end-clause-fault g c bytes head h start small =
    let grammar = g.F.Format.grammar c.args.format.now in
    let l = c.loop-entries in
    let here = goal.at.returns-in_err-end-clause-fault g c in
    let before = so_far g here.After-advance head start small in
    let found = at_row g here.After-field bytes head h in
    let is_end : IsEndRow grammar (last_row c.advance.new.self) = search rules in
    passed_on c.end.result c.from_residual-in_err-end.result c.in_err-end.field-0.0 c.in_err-end.was (search rules)
    (λ r cause why. fault_at_end grammar bytes head l.entries.items (last_row c.advance.new.self) c.advance.new.self.number r cause before.0 found.row is_end (begins _ bytes _ _ found.read) before.1 (subst (λ (n : ℕ). IsEndFault grammar bytes (rows_of_entries grammar head l.entries.items) (last_row c.advance.new.self) n c.advance.new.self.number r cause) (counted g here.After-len) why))
    (c.end.ensures.fault bytes (rows_of_entries grammar head l.entries.items) found is_end (omega (arith, before.1, start, small, l.invariant.0, l.entries.ok.0, rows_before grammar head l.entries.items)))

pub returns-then-eq-clause-entries : goal.returns-then-eq-clause-entries
returns-then-eq-clause-entries g c bytes head h =
    let grammar = g.F.Format.grammar c.args.format.now in
    let l = c.loop-entries in
    let here = goal.at.returns-then-eq-clause-entries g c in
    let is_end : IsEndRow grammar (last_row c.advance.new.self) = search rules in
    let all = c.in_ok-end.ensures.ok bytes (rows_of_entries grammar head l.entries.items) (at_row g here.After-field bytes head h) is_end in
    let last : last_row c.advance.new.self ≡ end_row grammar.width (length l.entries.items) = all.0 ∙ ap (λ (n : ℕ). end_row grammar.width n) (counted g here.After-len) in
    ((l.invariant.1, omega (arith, l.invariant.0, l.entries.ok.0)), subst (λ (r : List (List ℕ)). AreRows bytes (rows_of_entries grammar head l.entries.items ++ r ∷ [])) last all.1)

pub returns-in_err-entry-clause-fault : goal.returns-in_err-entry-clause-fault
returns-in_err-entry-clause-fault g c bytes head h start small =
    let grammar = g.F.Format.grammar c.args.format.now in
    let here = goal.at.returns-in_err-entry-clause-fault g c in
    let before = so_far g here.After-advance head start small in
    let found = at_row g here.After-field bytes head h in
    let not_end : ¬ (IsEndRow grammar (last_row c.advance.new.self)) = search rules in
    passed_on c.entry.result c.from_residual-in_err-entry.result c.in_err-entry.field-0.0 c.in_err-entry.was (search rules)
    (λ r cause why. (c.loop-entries.entries.items, before.0, inr (inl (last_row c.advance.new.self, begins _ bytes _ _ found.read, why.0 ∙ before.1, inr (inr (inl (found.row, not_end, why.1)))))))
    (c.entry.ensures.fault (found.row.0 ∙ (g.met.F.Format.width c.args.format.now).0))

pub returns-then-len-eq-MOST_ENTRIES-clause-fault : goal.returns-then-len-eq-MOST_ENTRIES-clause-fault
returns-then-len-eq-MOST_ENTRIES-clause-fault g c bytes head h start small =
    let grammar = g.F.Format.grammar c.args.format.now in
    let l = c.loop-entries in
    let here = goal.at.returns-then-len-eq-MOST_ENTRIES-clause-fault g c in
    let before = so_far g here.After-advance head start small in
    let found = at_row g here.After-field bytes head h in
    let not_end : ¬ (IsEndRow grammar (last_row c.advance.new.self)) = search rules in
    let full : length l.entries.items ≡ 65536 = omega (arith, c.len-in-loop-entries.ensures, c.if-len-eq-MOST_ENTRIES.true, l.entries.ok.0) in
    rw c.fault.ensures (l.entries.items, before.0, inr (inl (last_row c.advance.new.self, begins _ bytes _ _ found.read, before.1, inr (inr (inr (found.row, not_end, (c.in_ok-entry.entry, c.in_ok-entry.ensures.accepted, c.in_ok-entry.ensures.row (found.row.0 ∙ (g.met.F.Format.width c.args.format.now).0)), full, c.LONG.ensures ∙ sym (g.met.F.Format.causes c.args.format.now).2))))))

pub returns-clause-fault : goal.returns-clause-fault
returns-clause-fault g c bytes head h start small =
    let l = c.loop-entries in
    let before = so_far g (goal.at.returns-clause-fault g c).After-advance head start small in
    rw c.fault-2.ensures (l.entries.items, before.0, inl (rw c.if-branch.false at (c.in_ok-advance.ensures.row bytes (rows_of_entries (g.F.Format.grammar c.args.format.now) head l.entries.items) (l.invariant.2 bytes head h)), before.1, c.END.ensures ∙ sym (g.met.F.Format.causes c.args.format.now).1))
