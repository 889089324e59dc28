-- The text of a word, cut at its dot.
use Rattle.std.proofs.Common.{◌≡◌, ◌≢◌, ℕ, zero, suc, ◌<◌, ◌^◌, List, ◌∷◌, ◌++◌, length, get_or, Option, Some, MatchOption, Bor, arith, sym, ap, ◌∙◌, codes, decimal, lit<}
use Rattle.std.proofs.lemmas.Fmt.{decimal_is_IsNumeral}
use Rattle.std.proofs.lemmas.Str.Parse.{digit_at}
use Rattle.std.proofs.lemmas.Str.Pattern.{IsSplitOnceResult, split_after}
use Rattle.arena.specs.Words.{IsScxWord}
use Rattle.arena.specs.declared.word.NodeWord.{NodeWord}
use Rattle.arena.specs.declared.word.ScxWord.{ScxWord}
use Rattle.arena.specs.declared.word.Word.{Word}
use Rattle.arena.specs.declared.word.Word.TheVariants.{Node, Scx}
use Rattle.arena.specs.declared.word.ScxWord.TheVariants.{State, AllFrozen, Plan, New, Old, Member, Seen, Call}
use Rattle.std.specs.Fmt.{digits}
use Rattle.report.specs.Versions.{HasPart}
use Rattle.report.specs.declared.version.Version.{Version}
use Rattle.report.specs.Words.{IsSpelled, node_part, scx_part, word_text}

-- what is before the dot
abbrev record_name : Word → List ℕ
record_name (Node n part) = codes "n" ++ decimal n.0
record_name (Scx s part) = codes "s" ++ decimal s.0

-- and after it
abbrev part_name : Word → List ℕ
part_name (Node n part) = node_part part
part_name (Scx s part) = scx_part part

-- the name of a record has no dot
no_dot : (letter n i : ℕ) → letter ≢ 46 → n < 2 ^ 64 → i < length (letter ∷ decimal n) → get_or (letter ∷ decimal n) i 0 ≢ 46
no_dot letter n zero other fits within = other
no_dot letter n (suc i) other fits within = λ is.
    let digit = digit_at (decimal n) i (decimal_is_IsNumeral n fits).0.1 (omega (arith, within)) in
    omega (arith, digit.0, is)

pub cut_at_dot : (text : List ℕ) (word : Word) (r : Option (Bor (List ℕ) × Bor (List ℕ))) → IsSplitOnceResult 46 text r → (version : Version) → IsSpelled version word → text ≡ word_text word → MatchOption r ⊥ (λ x. (x.0.now ≡ record_name word) × (x.1.now ≡ part_name word))
cut_at_dot text (Node n part) r split version fits is =
    split_after 46 text (codes "n" ++ decimal n.0) (node_part part) r split (lit< tt) is (λ i within. no_dot 110 n.0 i (λ same. omega (arith, same)) fits.0 within)
cut_at_dot text (Scx s part) r split version fits is =
    split_after 46 text (codes "s" ++ decimal s.0) (scx_part part) r split (lit< tt) is (λ i within. no_dot 115 s.0 i (λ same. omega (arith, same)) fits.0 within)

module _ (version : Version) (text : List ℕ) (name part : Bor (List ℕ)) (split : IsSplitOnceResult 46 text (Some (name, part))) where
  -- after a node's name is no word of a node
  pub no_part_of_node : (n : ℕ) → name.now ≡ codes "n" ++ decimal n → ((p : NodeWord) → HasPart version p → part.now ≢ node_part p) → (word : Word) → IsSpelled version word → text ≢ word_text word
  no_part_of_node n named none (Node m p) fits is = none p fits.1 (cut_at_dot text (Node m p) (Some (name, part)) split version fits is).1
  no_part_of_node n named none (Scx s p) fits is =
      let both : codes "n" ++ decimal n ≡ codes "s" ++ decimal s.0 = sym named ∙ (cut_at_dot text (Scx s p) (Some (name, part)) split version fits is).0 in
      omega (arith, ap (λ t. get_or t 0 0) both)

  -- the name is that of no record
  pub no_record : ((n : ℕ) → n < 2 ^ 64 → name.now ≢ codes "n" ++ decimal n) → ((n : ℕ) → n < 2 ^ 64 → name.now ≢ codes "s" ++ decimal n) → (word : Word) → IsSpelled version word → text ≢ word_text word
  no_record no_node no_scx (Node n p) fits is = no_node n.0 fits.0 (cut_at_dot text (Node n p) (Some (name, part)) split version fits is).0
  no_record no_node no_scx (Scx s p) fits is = no_scx s.0 fits.0 (cut_at_dot text (Scx s p) (Some (name, part)) split version fits is).0

  -- after the name of an SCX-record is no word of one
  pub no_part_of_scx : ((n : ℕ) → n < 2 ^ 64 → name.now ≢ codes "n" ++ decimal n) → ((p : ScxWord) → IsScxWord p → part.now ≢ scx_part p) → (word : Word) → IsSpelled version word → text ≢ word_text word
  no_part_of_scx no_node none (Node n p) fits is = no_node n.0 fits.0 (cut_at_dot text (Node n p) (Some (name, part)) split version fits is).0
  no_part_of_scx no_node none (Scx s p) fits is = none p fits.1 (cut_at_dot text (Scx s p) (Some (name, part)) split version fits is).1

-- a text that is none of these is no word of an SCX-record
pub no_scx_part : (name : List ℕ) → name ≢ codes "call" → name ≢ codes "state" → name ≢ codes "allfrozen" → name ≢ codes "plan" → name ≢ codes "new" → name ≢ codes "old" → name ≢ codes "v0" → name ≢ codes "v1" → name ≢ codes "v2" → name ≢ codes "v3" → name ≢ codes "i0" → name ≢ codes "i1" → name ≢ codes "i2" → name ≢ codes "i3" → (part : ScxWord) → IsScxWord part → name ≢ scx_part part
unfolding digits
no_scx_part name call state allfrozen plan new old v0 v1 v2 v3 i0 i1 i2 i3 State fits = state
no_scx_part name call state allfrozen plan new old v0 v1 v2 v3 i0 i1 i2 i3 AllFrozen fits = allfrozen
no_scx_part name call state allfrozen plan new old v0 v1 v2 v3 i0 i1 i2 i3 Plan fits = plan
no_scx_part name call state allfrozen plan new old v0 v1 v2 v3 i0 i1 i2 i3 New fits = new
no_scx_part name call state allfrozen plan new old v0 v1 v2 v3 i0 i1 i2 i3 Old fits = old
no_scx_part name call state allfrozen plan new old v0 v1 v2 v3 i0 i1 i2 i3 Call fits = call
no_scx_part name call state allfrozen plan new old v0 v1 v2 v3 i0 i1 i2 i3 (Member zero) fits = v0
no_scx_part name call state allfrozen plan new old v0 v1 v2 v3 i0 i1 i2 i3 (Member (suc zero)) fits = v1
no_scx_part name call state allfrozen plan new old v0 v1 v2 v3 i0 i1 i2 i3 (Member (suc (suc zero))) fits = v2
no_scx_part name call state allfrozen plan new old v0 v1 v2 v3 i0 i1 i2 i3 (Member (suc (suc (suc zero)))) fits = v3
no_scx_part name call state allfrozen plan new old v0 v1 v2 v3 i0 i1 i2 i3 (Member (suc (suc (suc (suc n))))) fits = absurd (omega (arith, fits))
no_scx_part name call state allfrozen plan new old v0 v1 v2 v3 i0 i1 i2 i3 (Seen zero) fits = i0
no_scx_part name call state allfrozen plan new old v0 v1 v2 v3 i0 i1 i2 i3 (Seen (suc zero)) fits = i1
no_scx_part name call state allfrozen plan new old v0 v1 v2 v3 i0 i1 i2 i3 (Seen (suc (suc zero))) fits = i2
no_scx_part name call state allfrozen plan new old v0 v1 v2 v3 i0 i1 i2 i3 (Seen (suc (suc (suc zero)))) fits = i3
no_scx_part name call state allfrozen plan new old v0 v1 v2 v3 i0 i1 i2 i3 (Seen (suc (suc (suc (suc n))))) fits = absurd (omega (arith, fits))
