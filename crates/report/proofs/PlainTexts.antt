-- Texts, none of which csv quotes.
use Rattle.std.proofs.Common.{◌≡◌, ◌∙◌, ℕ, List, [], ◌∷◌, ◌++◌, append_assoc, append-nil, codes, decimal, refl, sym}
use Rattle.arena.specs.declared.step.Kind.{Kind}
use Rattle.arena.specs.declared.step.Kind.TheVariants.{Fill, LoadSettled, LoadInfo, LoadState, LoadMarked, LoadAllFrozen, LoadChild, Freeze, SetFrozen, Mark, Update, Commit, Abort}
use Rattle.arena.specs.declared.limits.Mode.{Mode}
use Rattle.arena.specs.declared.limits.Mode.TheVariants.{Tree, Trie, Records}
use Rattle.script.specs.Kinds.{kind_text}
use Rattle.report.specs.Report.{mode_text}
use Rattle.texts.specs.Sheets.{IsPlain}
use Rattle.texts.proofs.Lemmas.{plain_append}

-- the names of the kinds of step
pub kind_plain : (kind : Kind) → IsPlain (kind_text kind)
kind_plain Fill = refl
kind_plain LoadSettled = refl
kind_plain LoadInfo = refl
kind_plain LoadState = refl
kind_plain LoadMarked = refl
kind_plain LoadAllFrozen = refl
kind_plain LoadChild = refl
kind_plain Freeze = refl
kind_plain SetFrozen = refl
kind_plain Mark = refl
kind_plain Update = refl
kind_plain Commit = refl
kind_plain Abort = refl

-- the names of the modes
pub mode_plain : (mode : Mode) → IsPlain (mode_text mode)
mode_plain Tree = refl
mode_plain Trie = refl
mode_plain Records = refl

-- a pair
pub pair_plain : (p : ℕ × ℕ) → IsPlain (decimal p.0) → IsPlain (decimal p.1) → IsPlain (codes " " ++ (decimal p.0 ++ (codes " " ++ decimal p.1)))
pair_plain p key value = plain_append (codes " ") (decimal p.0 ++ (codes " " ++ decimal p.1)) refl (plain_append (decimal p.0) (codes " " ++ decimal p.1) key (plain_append (codes " ") (decimal p.1) refl value))

-- texts that are put one after another
abbrev pub behind : List ℕ → List (List ℕ) → List ℕ
behind start [] = start
behind start (text ∷ texts) = behind (start ++ text) texts

-- and the same texts as one
abbrev pub as_one : List (List ℕ) → List ℕ
as_one [] = []
as_one (text ∷ texts) = text ++ as_one texts

pub puts : (start : List ℕ) (texts : List (List ℕ)) → behind start texts ≡ start ++ as_one texts
puts start [] = sym (append-nil start)
puts start (text ∷ texts) = puts (start ++ text) texts ∙ append_assoc start text (as_one texts)
