-- The claim about a call's tries is strong: with no other pass, a call of a dictionary begins at
-- most one try, and takes at most what one may.
use Rattle.std.proofs.Common.{ℕ, ◌+◌, ◌*◌, ◌≤◌, sym, subst, arith}
use Rattle.std.proofs.Math.Nat.{mul-le-mul_left}
use Rattle.histories.specs.Common.{WasInTheWay, IsOthersScx, Extends}
use Rattle.template.specs.Common.{most_nodes, most_scx, MapCall, tries_since}
use Rattle.template.proofs.Lemmas.{alone_once}
use Rattle.dict.specs.Laws.EachCall.{one_alone, tries_take}
use Rattle.forest.specs.Dictionary.{HasSpentAtMost}
use Rattle.tables.specs.Passes.{PassView, run_of}

one_try : (call : MapCall) (begun old left : ℕ) → begun ≤ 1 → old ≤ left + most_scx call begun → old ≤ left + most_scx call 1
one_try call begun old left one spent = let few = tries_take call begun 1 (subst (λ (n : ℕ). begun ≤ n) (sym (one_alone call)) one) in omega (arith, few, spent)

its_nodes : (call : MapCall) (begun old left : ℕ) → begun ≤ 1 → old ≤ left + most_nodes call * begun → old ≤ left + most_nodes call
its_nodes call begun old left one spent = let few = mul-le-mul_left (most_nodes call) one in omega (arith, few, spent)

-- no SCX-record of another pass was in the way of the call
module _ (old new : PassView) (call : MapCall) (tries : ℕ) (since : Extends (run_of new) (run_of old)) (alone : (n s : ℕ) → IsOthersScx new.layout new.number s → ¬ WasInTheWay (run_of new) (run_of old) n s) (x : HasSpentAtMost old new call tries) where
  pub tries_once : tries_since new.number (run_of new) (run_of old) ≤ 1
  tries_once = alone_once new.layout new.number (run_of new) (run_of old) since alone x.tried.as_needed

  pub takes_one : old.share.scx ≤ new.share.scx + most_scx call 1
  takes_one = one_try call (tries_since new.number (run_of new) (run_of old)) old.share.scx new.share.scx tries_once x.scx

  pub takes_its_nodes : old.share.nodes ≤ new.share.nodes + most_nodes call
  takes_its_nodes = its_nodes call (tries_since new.number (run_of new) (run_of old)) old.share.nodes new.share.nodes tries_once x.nodes
