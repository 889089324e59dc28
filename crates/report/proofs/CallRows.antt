-- Rows of calls, and their text, in parts.
use Rattle.std.proofs.Common.{arith, ◌≡◌, List, [], ◌∷◌, ◌++◌, ◌+◌, refl, sym, ◌∙◌, ap, append_assoc, append-nil, length, length-append, reverse}
use Rattle.std.proofs.lemmas.Grind.{reverse_onto}
use Rattle.std.proofs.lemmas.List.{reverse-append, length-reverse}
use Rattle.script.specs.declared.call.Call.{Call}
use Rattle.texts.specs.Pages.{line_of, rows_text}
use Rattle.report.specs.Report.{reported_call_row, call_rows}
use Rattle.report.proofs.Texts.{rows_after}

-- the calls that were made after the first one and these
pub reverse_after : (x : Call) (xs earlier : List Call) → reverse xs ++ x ∷ earlier ≡ reverse (x ∷ xs) ++ earlier
reverse_after x xs earlier = sym (append_assoc (reverse xs) (x ∷ []) earlier) ∙ ap (λ calls. calls ++ earlier) (sym (reverse_onto xs x []))

pub call_rows_after : (earlier xs ys : List Call) → call_rows earlier (xs ++ ys) ≡ call_rows earlier xs ++ call_rows (reverse xs ++ earlier) ys
unfolding call_rows
call_rows_after earlier [] ys = refl
call_rows_after earlier (x ∷ xs) ys =
    ap (λ rows. reported_call_row earlier x ∷ rows) (call_rows_after (x ∷ earlier) xs ys ∙ ap (λ before. call_rows (x ∷ earlier) xs ++ call_rows before ys) (reverse_after x xs earlier))

-- the text of the rows of two parts of the calls
pub call_text_append : (earlier xs ys : List Call) → rows_text 7 (call_rows earlier (xs ++ ys)) ≡ rows_text 7 (call_rows earlier xs) ++ rows_text 7 (call_rows (reverse xs ++ earlier) ys)
call_text_append earlier xs ys = ap (rows_text 7) (call_rows_after earlier xs ys) ∙ rows_after 7 (call_rows earlier xs) (call_rows (reverse xs ++ earlier) ys)

-- the rows of some calls, and of those after them
pub call_text_after : (earlier all some more : List Call) → all ≡ some ++ more → rows_text 7 (call_rows earlier all) ≡ rows_text 7 (call_rows earlier some) ++ rows_text 7 (call_rows (reverse some ++ earlier) more)
call_text_after earlier all some more e = ap (λ calls. rows_text 7 (call_rows earlier calls)) e ∙ call_text_append earlier some more

-- one more call after others
pub call_text_more : (earlier done : List Call) (call : Call) → rows_text 7 (call_rows earlier (done ++ call ∷ [])) ≡ rows_text 7 (call_rows earlier done) ++ line_of 7 (reported_call_row (reverse done ++ earlier) call)
unfolding call_rows rows_text
call_text_more earlier done call =
    call_text_append earlier done (call ∷ []) ∙ ap (λ text. rows_text 7 (call_rows earlier done) ++ text) (append-nil (line_of 7 (reported_call_row (reverse done ++ earlier) call)))

pub calls_before_more : (earlier done : List Call) (call : Call) → reverse (done ++ call ∷ []) ++ earlier ≡ call ∷ (reverse done ++ earlier)
calls_before_more earlier done call = ap (λ calls. calls ++ earlier) (reverse-append done (call ∷ []))

pub calls_before_length : (earlier done : List Call) → length (reverse done ++ earlier) ≡ length done + length earlier
calls_before_length earlier done = length-append (reverse done) earlier ∙ ap (λ n. n + length earlier) (length-reverse done)

-- nothing is left of no calls
pub no_call_rows : (earlier calls : List Call) → length calls ≡ 0 → rows_text 7 (call_rows earlier calls) ≡ []
unfolding call_rows rows_text
no_call_rows earlier [] e = refl
no_call_rows earlier (call ∷ calls) e = absurd (omega (arith, e))
