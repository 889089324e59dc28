-- What a run whose passes are all back leaves.
use Rattle.std.proofs.Common.{◌≡◌, ◌∙◌, ℕ, zero, suc, Bool, true, false, rules, List, [], ◌∷◌, map, slice_get, Some, refl, sym, ap, subst, Vec, Global}
use Rattle.histories.specs.Common.{Mode, Layout, Row, History, value, Extends, log, Contents}
use Rattle.arena.specs.Layout.{IsMap}
use Rattle.arena.specs.Limits.{IsLayoutOf}
use Rattle.ordered_map.specs.Laws.{AreEdits}
use Rattle.record.specs.Common.{MapEdit, Pair, Spells, word_pair, Reply, Script, commands}
use Rattle.ordered_map.specs.Runs.{IsMapRun, map_of_log, first_pairs}
use Rattle.ordered_map.proofs.Lemmas.{one_spelling}
use Rattle.ordered_map.proofs.MapLemmas.{log_edits, spells_log}
use Rattle.arena.proofs.Lemmas.{ends_self}
use Rattle.dict.specs.Laws.TypedMaps.{typed_run}
use Rattle.template.specs.Balance.{map_mode}
use Rattle.planting.specs.Plantings.{PlantingView, nothing_planted}
use Rattle.tables.specs.TableRule.{history_of}
use Rattle.tables.specs.Passes.{Ground, PassView, AreNew, AreBegun, HoldsOfOwn, IsClosed, IsLook, new_pass, run_of, done_of}
use Rattle.tables.specs.Shares.{entries_of}
use Rattle.dict.specs.Words.{IsNumber, IsWideNumber}
use Rattle.runner.specs.Calls.{NumbersAllow, HasCalledNumbers, HaveReplies, HaveWorked}
use Rattle.runner.specs.Histories.{AreVersions}
use Rattle.runner.specs.Outcomes.{IsClientOfRun, IsOutcome}
use Rattle.runner.proofs.Gathered.{WorkedAt, worked_at, worked_count, none_some, some_same}
use Rattle.runner.proofs.Placed.{all_answered}

-- a mode of a tree or of a trie is that of a map
pub of_map : (trie : Bool) (mode : Mode) → mode ≡ map_mode trie → IsMap mode
of_map true mode is = rw is (search rules)
of_map false mode is = rw is (search rules)

-- what is said of a pass that is back, of a run of these rows
record IsBackIn (run : History) (p : PassView) : Type 0 where
  within : Extends run (run_of p)
  entries : entries_of p.number (log p.layout run) ≡ done_of p
  looks : HoldsOfOwn IsLook p.number (run_of p) run

-- so it is of each, at its place
back_at : (planting : PlantingView) (rows : List Row) (ps : List PassView) (c : ℕ) (p : PassView) → slice_get ps c ≡ Some p → AreBegun ps planting rows → IsBackIn (history_of planting rows) p
back_at planting rows [] c p e x = absurd (none_some p e)
back_at planting rows (q ∷ ps) zero p e x = subst (IsBackIn (history_of planting rows)) (some_same q p e) (record { within = x.0; entries = x.1; looks = x.3 })
back_at planting rows (q ∷ ps) (suc c) p e x = back_at planting rows ps c p e x.4

module _ (script : Script) (f : Ground) (maps : IsMap script.layout.mode) (layout : IsLayoutOf script.limits script.layout.mode f.layout) (tries : f.tries ≡ script.limits.tries) (empty : f.planting ≡ nothing_planted script.layout.mode) (olds news : List PassView) (owns : List (Vec (Reply ℕ ℕ) Global)) (are_new : AreNew f olds) (worked : HaveWorked f script.calls.items olds news owns) (words : Contents) (closed : IsClosed NumbersAllow f.layout news words) where
  -- the run that the words are of
  abbrev pub whole : History
  whole = history_of closed.planting closed.rows

  map_run : IsMapRun f.layout whole
  map_run = (subst IsMap (sym layout.mode_is) maps, typed_run IsNumber IsWideNumber f.layout whole closed.sound)

  edits : (e : ℕ → MapEdit) × AreEdits e f.layout whole
  edits = log_edits f.layout whole map_run

  -- the map at each moment
  abbrev versions : History → List Pair
  versions moment = map_of_log edits.0 (first_pairs moment) (log f.layout moment)

  are : AreVersions f.layout whole versions
  unfolding log
  are = record {
    spelled = spells_log f.layout whole edits.0 map_run edits.1;
    opens = refl;
    stays = λ row before within same. ap (map_of_log edits.0 (first_pairs before)) same;
  }

  client : (c : ℕ) (own : Vec (Reply ℕ ℕ) Global) → slice_get owns c ≡ Some own → IsClientOfRun f whole versions news c (commands script.calls.items c) own.items
  client c own e =
      let w : WorkedAt f script.calls.items olds news c own.items = worked_at f script.calls.items olds news owns worked c own e in
      let old : w.old ≡ new_pass f c = are_new.each c w.old w.was in
      let lay : w.new.layout ≡ f.layout = w.worked.of_forest.1 in
      let number : w.new.number ≡ c = w.worked.number ∙ ap (λ (p : PassView). p.number) old in
      let end : IsBackIn whole w.new = back_at closed.planting closed.rows news c w.new w.is closed.begun in
      let within : Extends whole (run_of w.new) = end.within in
      let replies = subst (λ (p : PassView). HaveReplies (HasCalledNumbers f) p (commands script.calls.items p.number) own.items w.new) old w.worked.made in
      record {
        last = w.new;
        is_last = w.is;
        stand = all_answered f whole versions are (new_pass f c) w.new (commands script.calls.items c) own.items within replies;
        within = within;
        entries = subst (λ (l : Layout). entries_of c (log l whole) ≡ done_of w.new) lay (subst (λ n. entries_of n (log w.new.layout whole) ≡ done_of w.new) number end.entries);
        looks = subst (λ n. HoldsOfOwn IsLook n (run_of w.new) whole) number end.looks;
      }

  pub outcome : (pairs : List (ℕ × ℕ)) → Spells f.layout (value whole) (map (word_pair (λ n. n) (λ n. n)) pairs) → IsOutcome script owns pairs
  outcome pairs spells = record {
    forest = f;
    layout = layout;
    tries = tries;
    empty = empty;
    run = whole;
    lawful = closed.sound;
    versions = versions;
    are = are;
    count = worked_count f script.calls.items olds news owns worked ∙ are_new.count ∙ layout.passes;
    lasts = news;
    clients = client;
    blamed = closed.blamed;
    last_map = one_spelling f.layout (value whole) _ _ spells (are.spelled whole (ends_self whole));
    rising = spells.rising;
  }
