use Rattle.std.proofs.Common.{ℕ, List, ◌≡◌, ◌++◌, ◌∷◌, None, Some, decimal}
use Rattle.report.specs.Answers.{spaced_pairs}
use Rattle.report.specs.Spellings.{IsSpelledPair}
use Rattle.report.proofs.Cuts.{cut_there, number_has_no_space}
use Rattle.report.proofs.Tellings.{number_cut}
use Rattle.report.proofs.Versions.{small_value}
use Rattle.report.proofs.reply.first_pair_of.Goals.{After-first_word_of}
use Rattle.report.proofs.reply.first_pair_of.Goals as goal

-- the key is before the first space, and the value after it
parts : (c : After-first_word_of) (pair : ℕ × ℕ) (more : List (ℕ × ℕ)) → IsSpelledPair c.args.version pair → c.args.text.now ≡ decimal pair.0 ++ (32 ∷ (decimal pair.1 ++ spaced_pairs more)) → (c.in_ok-key.key.now ≡ decimal pair.0) × (c.in_ok-key.rest.now ≡ decimal pair.1 ++ spaced_pairs more)
parts c pair more fits is = cut_there c.args.text.now (decimal pair.0) (decimal pair.1 ++ spaced_pairs more) (Some (c.in_ok-key.key, c.in_ok-key.rest)) c.in_ok-key.ensures.cases (number_has_no_space pair.0 fits.0) is

pub returns-in_err-key-clause-all : goal.returns-in_err-key-clause-all
returns-in_err-key-clause-all c pair more fits is = rw c.from_residual.ensures
    (cut_there c.args.text.now (decimal pair.0) (decimal pair.1 ++ spaced_pairs more) None c.in_err-key.ensures.cases (number_has_no_space pair.0 fits.0) is)

pub returns-in_err-number_of-clause-all : goal.returns-in_err-number_of-clause-all
returns-in_err-number_of-clause-all c pair more fits is = rw c.from_residual-in_err-number_of.ensures
    (c.in_err-number_of.ensures pair.0 fits.0 (parts (goal.at.returns-in_err-number_of-clause-all c).After-first_word_of pair more fits is).0)

pub returns-in_err-value_of-clause-all : goal.returns-in_err-value_of-clause-all
returns-in_err-value_of-clause-all c pair more fits is = rw c.from_residual-in_err-value_of.ensures
    (c.in_err-value_of.ensures pair.1 fits.1
    (number_cut c.in_ok-key.rest.now c.first_word_of.result.0.now c.first_word_of.result.1 pair.1 more (small_value c.args.version pair.1 fits.1) c.first_word_of.ensures.free c.first_word_of.ensures.whole
    (parts (goal.at.returns-in_err-value_of-clause-all c).After-first_word_of pair more fits is).1).0)

pub returns-clause-all : goal.returns-clause-all
returns-clause-all c pair more fits is =
    (number_cut c.in_ok-key.rest.now c.first_word_of.result.0.now c.first_word_of.result.1 pair.1 more (small_value c.args.version pair.1 fits.1) c.first_word_of.ensures.free c.first_word_of.ensures.whole
    (parts (goal.at.returns-clause-all c).After-first_word_of pair more fits is).1).1
