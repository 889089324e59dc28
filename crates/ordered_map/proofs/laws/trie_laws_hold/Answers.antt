use Rattle.std.proofs.Common.{inl, inr}
use Rattle.histories.specs.Common.{Opened}
use Rattle.ordered_map.proofs.Meanings.{trie_run, start_spells, log_edits, spells_log, win_makes, walk_first}
use Rattle.ordered_map.proofs.MapRuns.{tree_not_final, tree_remains, stood_blank}
use Rattle.ordered_map.proofs.Strayed.{walk_strays, walked_next, walked_answers}
use Rattle.ordered_map.proofs.TrieRuns.{trie_depth, trie_forks}
use Rattle.ordered_map.proofs.laws.trie_laws_hold.Goals as goal

pub returns : goal.returns
returns c = record {
  edits = λ lay h g. log_edits lay h (trie_run lay h g);
  opens = λ lay o g. start_spells lay o (trie_run lay (Opened o) g);
  spelled = λ lay h edits g. spells_log lay h edits (trie_run lay h g);
  updates = λ lay h before row s e g. win_makes lay h before row s e (trie_run lay h g);
  begins = λ lay h k g. inl (walk_first lay h k (trie_run lay h g));
  goes_on = λ lay h start k n small g. walked_next lay h start k n small (trie_run lay h g);
  walks = λ lay h start k n small g. walked_answers lay h start k n small (trie_run lay h g);
  strays = λ lay h start k n small g p fork low out. (walk_strays lay h start k n small (trie_run lay h g) g.0 p fork low out).absent;
  forks = trie_forks;
  depth = trie_depth;
  not_final = λ lay h t n g. tree_not_final lay h t n (trie_run lay h g);
  remains = λ lay h t n g x fork. tree_remains lay h t n (trie_run lay h g) x (inr fork);
  blank = λ lay h n g. stood_blank lay h n (trie_run lay h g);
}
