-- The text of pairs, one by one.
use Rattle.std.proofs.Common.{◌≡◌, ℕ, List, [], ◌∷◌, ◌++◌, codes, decimal, sym, ◌∙◌, ap, append_assoc, append-nil}
use Rattle.report.specs.Answers.{spaced_pairs}

-- one pair after a space
abbrev pub pair_text : ℕ × ℕ → List ℕ
pair_text p = codes " " ++ (decimal p.0 ++ (codes " " ++ decimal p.1))

-- with one pair more
pub pairs_more : (ps : List (ℕ × ℕ)) (p : ℕ × ℕ) → spaced_pairs (ps ++ p ∷ []) ≡ spaced_pairs ps ++ pair_text p
unfolding spaced_pairs
pairs_more [] p = ap (λ (text : List ℕ). codes " " ++ (decimal p.0 ++ (codes " " ++ text))) (append-nil (decimal p.1))
pairs_more (q ∷ ps) p =
    ap (λ (text : List ℕ). codes " " ++ (decimal q.0 ++ (codes " " ++ (decimal q.1 ++ text)))) (pairs_more ps p)
    ∙ ap (λ (text : List ℕ). codes " " ++ (decimal q.0 ++ (codes " " ++ text))) (sym (append_assoc (decimal q.1) (spaced_pairs ps) (pair_text p)))
    ∙ ap (λ (text : List ℕ). codes " " ++ text) (sym (append_assoc (decimal q.0) (codes " " ++ (decimal q.1 ++ spaced_pairs ps)) (pair_text p)))

-- a pair at the head of what is left joins those before
pub pair_taken : (ps : List (ℕ × ℕ)) (p : ℕ × ℕ) (text rest whole : List ℕ) → whole ≡ spaced_pairs ps ++ (codes " " ++ text) → text ≡ decimal p.0 ++ (codes " " ++ (decimal p.1 ++ rest)) → whole ≡ spaced_pairs (ps ++ p ∷ []) ++ rest
pair_taken ps p text rest whole left head =
    left
    ∙ ap (λ (t : List ℕ). spaced_pairs ps ++ (codes " " ++ t)) head
    ∙ ap (λ (t : List ℕ). spaced_pairs ps ++ (codes " " ++ t)) (sym (append_assoc (decimal p.0) (codes " " ++ decimal p.1) rest))
    ∙ sym (append_assoc (spaced_pairs ps) (pair_text p) rest)
    ∙ ap (λ (t : List ℕ). t ++ rest) (sym (pairs_more ps p))
