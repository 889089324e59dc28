use Rattle.std.proofs.Common.{◌<◌, inl, length, subst}
use Rattle.histories.specs.Common.{Opened, taken_nodes, value}
use Rattle.ordered_map.specs.Paths.{depth}
use Rattle.ordered_map.specs.TreeWords.{level}
use Rattle.ordered_map.proofs.Meanings.{tree_run, one_spelling, log_edits, start_spells, win_makes, walk_answers, spells_log}
use Rattle.ordered_map.proofs.MapRuns.{tree_not_final, tree_remains, stood_blank, passed_depth}
use Rattle.ordered_map.proofs.laws.laws_hold.Goals as goal

pub returns : goal.returns
returns c = record {
  edits = λ lay h g. log_edits lay h (tree_run lay h g);
  opens = λ lay o g. start_spells lay o (tree_run lay (Opened o) g);
  spelled = λ lay h edits g. spells_log lay h edits (tree_run lay h g);
  one_map = one_spelling;
  updates = λ lay h before row s e g. win_makes lay h before row s e (tree_run lay h g);
  walks = λ lay h start k n small g. walk_answers lay h start k n small (tree_run lay h g);
  depth = λ lay h start k n g p. subst (λ mode. level (value h) n < depth mode (length (taken_nodes h))) g.0 (passed_depth lay h start k n (tree_run lay h g) p);
  not_final = λ lay h t n g. tree_not_final lay h t n (tree_run lay h g);
  remains = λ lay h t n g x. tree_remains lay h t n (tree_run lay h g) x (inl g.0);
  blank = λ lay h n g. stood_blank lay h n (tree_run lay h g);
}
