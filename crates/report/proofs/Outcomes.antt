-- The rows of an outcome, as they are written.
use Rattle.std.proofs.Common.{◌≡◌, ℕ, suc, ◌+◌, ◌<◌, ◌≤◌, arith, ◌-◌, ◌^◌, min, Bool, true, false, List, [], ◌∷◌, ◌++◌, ◌∙◌, ⊎_elim, Vec, ap, append-nil, codes, drop, get_or, length, length-append, refl, sym}
use Rattle.std.specs.Global.{Global}
use Rattle.std.proofs.lemmas.Bool.Decides.{leb_tells}
use Rattle.std.proofs.lemmas.List.{drop_all}
use Rattle.std.proofs.Math.Nat.{min-eq_left, min-eq_right}
use Rattle.std.proofs.Math.Seq.{drop-cons}
use Rattle.ordered_map.specs.declared.reply.Reply.{Reply}
use Rattle.std.specs.Fmt.{digits}
use Rattle.report.specs.Outcome.{client_rows, gate_row, outcome_title_row, replies_of_all, reply_row, reply_rows}
use Rattle.report.proofs.Texts.{rows_after, text_behind, two_rows}
use Rattle.texts.specs.Pages.{line_of, rows_text}
use Rattle.texts.proofs.Lemmas.{plain_row}

-- the first two rows
title_line : line_of 4 outcome_title_row ≡ codes "outcome,1,,\n"
unfolding digits
title_line = plain_row (codes "outcome") (codes "1") ([] ∷ [] ∷ []) (refl, (refl, (refl, (refl, tt))))

pub missed_line : line_of 4 (gate_row true) ≡ codes "gate,missed,,\n"
missed_line = plain_row (codes "gate") (codes "missed") ([] ∷ [] ∷ []) (refl, (refl, (refl, (refl, tt))))

pub met_line : line_of 4 (gate_row false) ≡ codes "gate,met,,\n"
met_line = plain_row (codes "gate") (codes "met") ([] ∷ [] ∷ []) (refl, (refl, (refl, (refl, tt))))

pub opened : (missed : Bool) (gate start mid new : List ℕ) → line_of 4 (gate_row missed) ≡ gate → mid ≡ start ++ codes "outcome,1,,\n" → new ≡ mid ++ gate → new ≡ start ++ rows_text 4 (outcome_title_row ∷ gate_row missed ∷ [])
opened missed gate start mid new is first next =
    text_behind start (line_of 4 outcome_title_row) (line_of 4 (gate_row missed)) mid new (next ∙ ap (λ text. mid ++ text) (sym is)) (first ∙ ap (λ text. start ++ text) (sym title_line))
    ∙ ap (λ text. start ++ text) (sym (two_rows 4 outcome_title_row (gate_row missed)))

-- the replies of a client in two pieces
pub reply_rows_after : (client call : ℕ) (some more : List (Reply ℕ ℕ)) → reply_rows client call (some ++ more) ≡ reply_rows client call some ++ reply_rows client (call + length some) more
unfolding reply_rows
reply_rows_after client call [] more = let same : call ≡ call + 0 = omega arith in rw (← same) refl
reply_rows_after client call (reply ∷ some) more =
    let same : suc call + length some ≡ call + suc (length some) = omega arith in
    ap (λ rows. reply_row client call reply ∷ rows) (rw same at (reply_rows_after client (suc call) some more))

-- and their text
pub reply_text_after : (client call : ℕ) (all some more : List (Reply ℕ ℕ)) → all ≡ some ++ more → rows_text 4 (reply_rows client call all) ≡ rows_text 4 (reply_rows client call some) ++ rows_text 4 (reply_rows client (call + length some) more)
reply_text_after client call all some more e = ap (λ replies. rows_text 4 (reply_rows client call replies)) e ∙ ap (λ rows. rows_text 4 rows) (reply_rows_after client call some more) ∙ rows_after 4 (reply_rows client call some) (reply_rows client (call + length some) more)

-- no replies have no text
pub no_replies : (client call : ℕ) (replies : List (Reply ℕ ℕ)) → length replies ≡ 0 → rows_text 4 (reply_rows client call replies) ≡ []
unfolding reply_rows rows_text
no_replies client call [] e = refl
no_replies client call (reply ∷ replies) e = absurd (omega (arith, e))

-- with one reply more
pub reply_text_more : (client first : ℕ) (done : List (Reply ℕ ℕ)) (reply : Reply ℕ ℕ) → rows_text 4 (reply_rows client first (done ++ reply ∷ [])) ≡ rows_text 4 (reply_rows client first done) ++ line_of 4 (reply_row client (first + length done) reply)
unfolding reply_rows rows_text
reply_text_more client first done reply =
    reply_text_after client first (done ++ reply ∷ []) done (reply ∷ []) refl ∙ ap (λ text. rows_text 4 (reply_rows client first done) ++ text) (append-nil (line_of 4 (reply_row client (first + length done) reply)))

-- the replies of the next client, and those of the others
pub client_text_next : (client k : ℕ) (all : List (Vec (Reply ℕ ℕ) Global)) (d : Vec (Reply ℕ ℕ) Global) → k < length all → rows_text 4 (client_rows client (drop k all)) ≡ rows_text 4 (reply_rows client 0 (get_or all k d).items) ++ rows_text 4 (client_rows (suc client) (drop (suc k) all))
unfolding client_rows
client_text_next client k all d within = ap (λ rest. rows_text 4 (client_rows client rest)) (drop-cons all k d within) ∙ rows_after 4 (reply_rows client 0 (get_or all k d).items) (client_rows (suc client) (drop (suc k) all))

-- no clients have no text
pub no_clients : (client k : ℕ) (all : List (Vec (Reply ℕ ℕ) Global)) → length all ≤ k → rows_text 4 (client_rows client (drop k all)) ≡ []
unfolding client_rows rows_text
no_clients client k all past = rw (drop_all k all past) refl

-- how many replies are left after the next client's
pub replies_left : (k : ℕ) (all : List (Vec (Reply ℕ ℕ) Global)) (d : Vec (Reply ℕ ℕ) Global) → k < length all → replies_of_all (drop k all) ≡ length (get_or all k d).items + replies_of_all (drop (suc k) all)
unfolding replies_of_all
replies_left k all d within = ap replies_of_all (drop-cons all k d within)

pub none_left : (k : ℕ) (all : List (Vec (Reply ℕ ℕ) Global)) → length all ≤ k → replies_of_all (drop k all) ≡ 0
unfolding replies_of_all
none_left k all past = rw (drop_all k all past) refl

-- counts that end at the greatest number of 64 bits

-- a count that does not reach it
pub counts_all : (count more next : ℕ) → count + more < 2 ^ 64 → next ≡ min (count + more) (2 ^ 64 - 1) → next ≡ count + more
counts_all count more next fits e = e ∙ min-eq_left (omega (arith, fits))

-- the count after some of what is left, and what is left then
pub counts_chunk : {A : Type 0} (count whole : ℕ) (all some left : List A) → all ≡ some ++ left → count + length all ≡ whole → (count + length some) + length left ≡ whole
counts_chunk count whole all some left split e = let n = ap (λ things. length things) split ∙ length-append some left in omega (arith, e, n)

-- one more count after another
pub counts_on : (gone more count next : ℕ) → count ≡ min gone (2 ^ 64 - 1) → next ≡ min (count + more) (2 ^ 64 - 1) → next ≡ min (gone + more) (2 ^ 64 - 1)
counts_on gone more count next e f = ⊎_elim
    (λ small. f ∙ ap (λ n. min (n + more) (2 ^ 64 - 1)) (e ∙ min-eq_left small.1))
    (λ large. let past = large.1 in let full : count ≡ 2 ^ 64 - 1 = e ∙ min-eq_right (omega (arith, past)) in f ∙ min-eq_right (omega (arith, full)) ∙ sym (min-eq_right (omega (arith, past))))
    (leb_tells gone (2 ^ 64 - 1))
