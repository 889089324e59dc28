use Rattle.std.proofs.Common.{arith}
use Rattle.regnubas.specs.History.{value}
use Rattle.regnubas.specs.Passes.{run_of}
use Rattle.conclusions.proofs.Heights.{low_tree}
use Rattle.conclusions.proofs.Inserts.{has_set, is_refused}
use Rattle.conclusions.proofs.Together.{self}
use Rattle.conclusions.proofs.insert_low.Goals as goal

pub returns : goal.returns
returns c =
    let made = c.insert.ensures in
    let after = c.insert.new.pass in
    let before = c.args.pass.now in
    let now = run_of after in
    let run = c.version_laws_hold.ensures.trie_runs after.layout now made.mode made.goes_on.lawful in
    record {
      low = λ t is.
          let deep = low_tree (value now) t _ _ is.shows (λ n has. c.trie_laws_hold.ensures.depth _ now n run (record { moment = now; within = self now; tree = t; is_tree = is; has = has })) in
          omega (arith, deep);
      set = has_set before after c.args.key c.args.value c.map_laws_hold.ensures.edits.inserted _ made.told;
      refused = is_refused before after c.args.key c.args.value c.args.map.now.tries _ made.refused;
    }
