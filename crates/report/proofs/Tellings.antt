-- What a text says after its name.
use Rattle.std.proofs.Common.{◌≡◌, ◌≢◌, ◌<◌, ◌^◌, ◌∙◌, ℕ, List, [], ◌∷◌, ◌++◌, All, Bor, Option, Some, None, ap, codes, decimal, drop, refl, sym}
use Rattle.std.proofs.lemmas.List.Elements.{All-head, All-tail}
use Rattle.arena.specs.declared.fault.Resource.{Resource}
use Rattle.arena.specs.declared.fault.Resource.TheVariants.{Nodes, Scx}
use Rattle.ordered_map.specs.declared.reply.Reply.{Reply}
use Rattle.ordered_map.specs.declared.reply.Reply.TheVariants.{Value, Pair, Pairs, Contended, NoMemory, Full as FullShare}
use Rattle.record.specs.declared.record.Answer.{Answer}
use Rattle.record.specs.declared.record.Answer.TheVariants.{Snapshot, Finalized, Fail, Done, Lost, Same, Changed, Unlinked, Full, Map}
use Rattle.report.specs.Answers.{answer_text, blame_text, both_text, full_text, reply_text, rest_text, spaced_pairs}
use Rattle.report.specs.Spellings.{HasNoSpace, IsSpelledAnswer, IsSpelledPair, IsTelling, IsTellingAnswer, TellsPairs}
use Rattle.report.specs.declared.version.Version.{Version}
use Rattle.report.proofs.Cuts.{IsTail, literal, one_cut, value_has_no_space}

-- the same name before two cuts
same_name : (name told first rest : List ℕ) → HasNoSpace name → HasNoSpace first → name ++ (32 ∷ told) ≡ first ++ (32 ∷ rest) → name ≡ first
same_name name told first rest free other is = (one_cut name first (32 ∷ told) (32 ∷ rest) free other refl refl is).0

other_full : (name told : List ℕ) → HasNoSpace name → name ≢ codes "full" → (what : Resource) (left : ℕ) → name ++ (32 ∷ told) ≢ full_text what left
other_full name told free other Nodes left is = other (same_name name told (codes "full") (codes "nodes " ++ decimal left) free (literal (codes "full") refl) is)
other_full name told free other Scx left is = other (same_name name told (codes "full") (codes "scx " ++ decimal left) free (literal (codes "full") refl) is)

-- another name is that of no reply
pub other_reply : (name told : List ℕ) → HasNoSpace name → name ≢ codes "some" → name ≢ codes "pair" → name ≢ codes "contended" → name ≢ codes "full" → (version : Version) (reply : Reply ℕ ℕ) → IsTelling version reply → name ++ (32 ∷ told) ≢ reply_text reply
other_reply name told free some pair contended full version (Value (Some value)) fits is = some (same_name name told (codes "some") (decimal value) free (literal (codes "some") refl) is)
other_reply name told free some pair contended full version (Pair (Some p)) fits is = pair (same_name name told (codes "pair") (both_text p.0 p.1) free (literal (codes "pair") refl) is)
other_reply name told free some pair contended full version (Contended node scx) fits is = contended (same_name name told (codes "contended") (blame_text node.0 scx.0) free (literal (codes "contended") refl) is)
other_reply name told free some pair contended full version (FullShare share) fits is = other_full name told free full share.what share.left is
other_reply name told free some pair contended full version reply fits is = absurd fits

-- another name is that of a reply, or of no answer
pub other_answer : (name told : List ℕ) → HasNoSpace name → name ≢ codes "snap" → name ≢ codes "fail" → name ≢ codes "lost" → name ≢ codes "changed" → name ≢ codes "unlinked" → (version : Version) → ((reply : Reply ℕ ℕ) → IsTelling version reply → name ++ (32 ∷ told) ≢ reply_text reply) → (answer : Answer) → IsTellingAnswer version answer → name ++ (32 ∷ told) ≢ answer_text answer
other_answer name told free snap fail lost changed unlinked version none (Snapshot left right) fits is = snap (same_name name told (codes "snap") (both_text left.0 right.0) free (literal (codes "snap") refl) is)
other_answer name told free snap fail lost changed unlinked version none (Fail node scx) fits is = fail (same_name name told (codes "fail") (blame_text node.0 scx.0) free (literal (codes "fail") refl) is)
other_answer name told free snap fail lost changed unlinked version none (Lost node scx) fits is = lost (same_name name told (codes "lost") (blame_text node.0 scx.0) free (literal (codes "lost") refl) is)
other_answer name told free snap fail lost changed unlinked version none (Changed node scx) fits is = changed (same_name name told (codes "changed") (blame_text node.0 scx.0) free (literal (codes "changed") refl) is)
other_answer name told free snap fail lost changed unlinked version none (Unlinked node) fits is = unlinked (same_name name told (codes "unlinked") (codes "n" ++ decimal node.0) free (literal (codes "unlinked") refl) is)
other_answer name told free snap fail lost changed unlinked version none (Full what left) fits is = none (FullShare record { what = what; left = left }) fits is
other_answer name told free snap fail lost changed unlinked version none (Map reply) fits is = none reply fits is
other_answer name told free snap fail lost changed unlinked version none answer fits is = absurd fits

-- a text that is none of these, and says nothing after a name, is at most that of many pairs
pub only_pairs : (text : List ℕ) → text ≢ codes "finalized" → text ≢ codes "done" → text ≢ codes "same" → text ≢ codes "none" → text ≢ codes "no memory" → (version : Version) → ((answer : Answer) → IsTellingAnswer version answer → text ≢ answer_text answer) → (answer : Answer) → IsSpelledAnswer version answer → text ≡ answer_text answer → TellsPairs answer
only_pairs text finalized done same no_value memory version none Finalized fits is = absurd (finalized is)
only_pairs text finalized done same no_value memory version none Done fits is = absurd (done is)
only_pairs text finalized done same no_value memory version none Same fits is = absurd (same is)
only_pairs text finalized done same no_value memory version none (Map (Value None)) fits is = absurd (no_value is)
only_pairs text finalized done same no_value memory version none (Map (Pair None)) fits is = absurd (no_value is)
only_pairs text finalized done same no_value memory version none (Map NoMemory) fits is = absurd (memory is)
only_pairs text finalized done same no_value memory version none (Map (Pairs ps)) fits is = tt
only_pairs text finalized done same no_value memory version none answer fits is = absurd (none answer fits is)

-- Pairs

tail_rest : (r : Option (Bor (List ℕ))) → IsTail (rest_text r)
tail_rest None = tt
tail_rest (Some text) = refl

tail_pairs : (ps : List (ℕ × ℕ)) → IsTail (spaced_pairs ps)
unfolding spaced_pairs
tail_pairs [] = tt
tail_pairs (p ∷ ps) = refl

-- the pairs that a text of many pairs has after its name
pub pairs_cut : (text name : List ℕ) (told : Option (Bor (List ℕ))) → HasNoSpace name → text ≡ name ++ rest_text told → (version : Version) (answer : Answer) → IsSpelledAnswer version answer → TellsPairs answer → text ≡ answer_text answer → (ps : List (ℕ × ℕ)) × All (IsSpelledPair version) ps × (name ≡ codes "pairs") × (rest_text told ≡ spaced_pairs ps)
pairs_cut text name told free whole version (Map (Pairs ps)) fits tells is =
    let both = one_cut name (codes "pairs") (rest_text told) (spaced_pairs ps.items) free (literal (codes "pairs") refl) (tail_rest told) (tail_pairs ps.items) (sym whole ∙ is) in
    (ps.items, fits, both.0, both.1)
pairs_cut text name told free whole version answer fits tells is = absurd tells

-- the number at the head of what is said, and the rest
pub number_cut : (whole word : List ℕ) (rest : Option (Bor (List ℕ))) (n : ℕ) (more : List (ℕ × ℕ)) → n < 2 ^ 128 → HasNoSpace word → whole ≡ word ++ rest_text rest → whole ≡ decimal n ++ spaced_pairs more → (word ≡ decimal n) × (rest_text rest ≡ spaced_pairs more)
number_cut whole word rest n more fits free cut is = one_cut word (decimal n) (rest_text rest) (spaced_pairs more) free (value_has_no_space n fits) (tail_rest rest) (tail_pairs more) (sym cut ∙ is)

-- the first of the pairs that are after a space
pub record IsNextPair (version : Version) (text : List ℕ) : Type 0 where
  pub pair : ℕ × ℕ
  pub more : List (ℕ × ℕ)
  pub fits : IsSpelledPair version pair
  pub all : All (IsSpelledPair version) more
  pub is : text ≡ decimal pair.0 ++ (codes " " ++ (decimal pair.1 ++ spaced_pairs more))

pub next_pair : (version : Version) (text : List ℕ) (ps : List (ℕ × ℕ)) → All (IsSpelledPair version) ps → codes " " ++ text ≡ spaced_pairs ps → IsNextPair version text
unfolding spaced_pairs
next_pair version text [] all is = absurd cc
next_pair version text (p ∷ ps) all is = record { pair = p; more = ps; fits = All-head (IsSpelledPair version) p ps all; all = All-tail (IsSpelledPair version) p ps all; is = ap (λ (t : List ℕ). drop 1 t) is }
