-- What the outcome of a run says.
use Rattle.std.specs.Prelude.{◌≡◌, ℕ, List, Some, Vec, length, map, slice_get}
use Rattle.std.specs.Global.{Global}
use Rattle.histories.specs.Common.{History, Extends, log, IsRun}
use Rattle.arena.specs.Limits.{IsLayoutOf}
use Rattle.record.specs.Common.{IsRising, Pair, word_pair, Reply, Command, Script, commands}
use Rattle.planting.specs.Plantings.{nothing_planted}
use Rattle.tables.specs.Passes.{Ground, PassView, HaveLeftShares, HoldsOfOwn, IsLook, new_pass, run_of, done_of}
use Rattle.tables.specs.Shares.{entries_of}
use Rattle.runner.specs.Calls.{NumbersAllow, HaveReplies}
use Rattle.runner.specs.Histories.{AreVersions, IsAnswered}

-- All calls of client c are in the history of this run, one after the other from its start on,
-- each with its reply. `lasts` says of each client what its pass knew at the end of its last call.
pub record IsClientOfRun (forest : Ground) (run : History) (versions : History → List Pair) (lasts : List PassView) (c : ℕ) (calls : List Command) (replies : List (Reply ℕ ℕ)) : Type 0 where
  pub last : PassView
  pub is_last : slice_get lasts c ≡ Some last
  pub stand : HaveReplies (IsAnswered forest run versions) (new_pass forest c) calls replies last
  pub within : Extends run (run_of last)
  -- its entries in the run are those of its changing calls, and no others
  pub entries : entries_of c (log forest.layout run) ≡ done_of last
  -- after the last it has only looked at the table: it has made no further call
  pub looks : HoldsOfOwn IsLook c (run_of last) run

-- There is one lawful run of a dictionary of the script's mode within its limits, whose calls make
-- at most the tries that the script says. All calls of all clients are in its history, each
-- client's in the script's order, with one reply for each call; the pairs are those of the last
-- version.
pub record IsOutcome (script : Script) (replies : List (Vec (Reply ℕ ℕ) Global)) (pairs : List (ℕ × ℕ)) : Type 0 where
  pub forest : Ground
  pub layout : IsLayoutOf script.limits script.layout.mode forest.layout
  pub tries : forest.tries ≡ script.limits.tries
  -- it begins with an empty map
  pub empty : forest.planting ≡ nothing_planted script.layout.mode
  pub run : History
  pub lawful : IsRun NumbersAllow forest.layout run
  pub versions : History → List Pair
  pub are : AreVersions forest.layout run versions
  pub count : length replies ≡ script.limits.passes
  pub lasts : List PassView
  pub clients : (c : ℕ) (own : Vec (Reply ℕ ℕ) Global) → slice_get replies c ≡ Some own → IsClientOfRun forest run versions lasts c (commands script.calls.items c) own.items
  -- in the end no client's share still holds an SCX-record that one of them has blamed
  pub blamed : HaveLeftShares lasts
  pub last_map : map (word_pair (λ n. n) (λ n. n)) pairs ≡ versions run
  pub rising : IsRising (map (word_pair (λ n. n) (λ n. n)) pairs)
