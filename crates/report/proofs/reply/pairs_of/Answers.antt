use Rattle.std.proofs.Common.{refl}
use Rattle.std.proofs.lemmas.List.Elements.{All-nil, All-push}
use Rattle.report.specs.Answers.{rest_text, spaced_pairs}
use Rattle.report.specs.Spellings.{IsSpelledPair}
use Rattle.report.proofs.PairTexts.{pair_taken}
use Rattle.report.proofs.Tellings.{next_pair}
use Rattle.report.proofs.reply.pairs_of.Goals as goal

pub loop-left-init : goal.loop-left-init
unfolding spaced_pairs
loop-left-init c = record { so_far = rw c.new-pairs.ensures.items refl; fit = rw c.new-pairs.ensures.items (All-nil (IsSpelledPair c.args.version)); rest = λ pairs all is. (pairs, all, is) }

pub loop-left-preserved : goal.loop-left-preserved
loop-left-preserved c =
    let here = rw c.in-Some.is at c.loop-left.invariant.so_far in
    record {
      so_far = rw c.in_ok-push.ensures.items (pair_taken c.loop-left.pairs.items c.in-Some-first_pair_of.pair c.in-Some.text.now (rest_text c.in-Some-first_pair_of.rest) (rest_text c.args.told) here c.in-Some-first_pair_of.ensures.some);
      fit = rw c.in_ok-push.ensures.items (All-push (IsSpelledPair c.args.version) c.loop-left.pairs.items c.in-Some-first_pair_of.pair c.loop-left.invariant.fit c.in-Some-first_pair_of.ensures.fits);
      rest = λ pairs all is.
          let left = c.loop-left.invariant.rest pairs all is in
          let next = next_pair c.args.version c.in-Some.text.now left.0 left.1 (rw c.in-Some.is at left.2) in
          (next.more, next.all, c.in-Some-first_pair_of.ensures.all next.pair next.more next.fits next.is);
    }

pub returns-in_default-first_pair_of-clause-none : goal.returns-in_default-first_pair_of-clause-none
returns-in_default-first_pair_of-clause-none c pairs all is =
    let left = c.loop-left.invariant.rest pairs all is in
    let next = next_pair c.args.version c.in-Some.text.now left.0 left.1 (rw c.in-Some.is at left.2) in
    c.in_default-first_pair_of.ensures.all next.pair next.more next.fits next.is
