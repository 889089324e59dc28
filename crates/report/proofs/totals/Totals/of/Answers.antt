use Rattle.std.proofs.Common.{◌≡◌, ◌+◌, ◌<◌, ◌≤◌, ◌∙◌, ℕ, List, [], ◌∷◌, ◌++◌, ap, arith, get_or, length, sym, take}
use Rattle.std.proofs.lemmas.List.{take_all, take_more}
use Rattle.record.specs.declared.record.Line.{Line}
use Rattle.record.specs.declared.record.Line.TheVariants.{Step, Log, Reply}
use Rattle.report.specs.Report.{entries_in, replies_in, steps_in}
use Rattle.report.proofs.Streams.{entries_after, replies_after, steps_after}
use Rattle.report.proofs.totals.Totals.of.Goals as goal

-- one line more counts by itself
counts_more : (lines : List Line) (i : ℕ) (line : Line) → i < length lines → line ≡ get_or lines i line → (steps_in (take (i + 1) lines) ≡ steps_in (take i lines) + steps_in (line ∷ [])) × (replies_in (take (i + 1) lines) ≡ replies_in (take i lines) + replies_in (line ∷ [])) × (entries_in (take (i + 1) lines) ≡ entries_in (take i lines) + entries_in (line ∷ []))
counts_more lines i line within is =
    let more : take (i + 1) lines ≡ take i lines ++ line ∷ [] = take_more lines i line within ∙ ap (λ (x : Line). take i lines ++ x ∷ []) (sym is) in (
      ap (λ (l : List Line). steps_in l) more ∙ steps_after (take i lines) (line ∷ []),
      ap (λ (l : List Line). replies_in l) more ∙ replies_after (take i lines) (line ∷ []),
      ap (λ (l : List Line). entries_in l) more ∙ entries_after (take i lines) (line ∷ []),
    )

-- it counts once at most
one_at_most : (line : Line) → (steps_in (line ∷ []) ≤ 1) × (replies_in (line ∷ []) ≤ 1) × (entries_in (line ∷ []) ≤ 1)
one_at_most (Step row) = (omega arith, omega arith, omega arith)
one_at_most (Log entry) = (omega arith, omega arith, omega arith)
one_at_most (Reply reply) = (omega arith, omega arith, omega arith)

pub loop-line-preserved : goal.loop-line-preserved
loop-line-preserved c =
    let line = c.line-item.result in
    let more = counts_more c.args.lines.now c.loop-line.line-index line (omega arith) c.line-item.is in
    let once = one_at_most line in
    let x = c.loop-line.invariant in
    let added = c.add.ensures in
    record {
      steps = added.steps ∙ ap (λ n. n + steps_in (line ∷ [])) x.steps ∙ sym more.0;
      replies = added.replies ∙ ap (λ n. n + replies_in (line ∷ [])) x.replies ∙ sym more.1;
      entries = added.entries ∙ ap (λ n. n + entries_in (line ∷ [])) x.entries ∙ sym more.2;
      few_steps = let a = added.steps in let f = x.few_steps in let o = once.0 in omega (arith, a, f, o);
      few_replies = let a = added.replies in let f = x.few_replies in let o = once.1 in omega (arith, a, f, o);
      few_entries = let a = added.entries in let f = x.few_entries in let o = once.2 in omega (arith, a, f, o);
    }

pub returns : goal.returns
returns c =
    let all = take_all c.loop-line.line-index c.args.lines.now c.loop-line-test.false in
    let x = c.loop-line.invariant in
    record { steps = rw all at x.steps; replies = rw all at x.replies; entries = rw all at x.entries }
