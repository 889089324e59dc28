use Rattle.arena.specs.Layout.{IsMap}
use Rattle.dict.specs.Laws.Begins.{dict_mode}
use Rattle.std.proofs.Common.{◌≡◌, ℕ, List, Result, Ok, Err, sym, subst, ◌∙◌, IfOk}
use Rattle.histories.specs.Common.{Layout, History, value, all_nodes, Contents, word_at, node}
use Rattle.template.specs.Common.{Pair, Spells}
use Rattle.ordered_map.proofs.Lemmas.{one_spelling}
use Rattle.ordered_map.proofs.MapLemmas.{run_spells}
use Rattle.dict.specs.Typed.{AreTyped, TypedAllows}
use Rattle.dict.specs.Laws.TypedMaps.{typed_map, typed_run}
use Rattle.dict.specs.Words.{IsWordOf}
use Rattle.forest.specs.Copies.{AreCopied}
use Rattle.tables.specs.Passes.{PassView, IsClosed}
use Rattle.tables.specs.TableRule.{history_of}
use Rattle.forest.proofs.Copies.{copy_spells}
use Rattle.forest.proofs.close.Closed+Dict+K+V+B.pairs.Goals as goal

-- the copy spells what the words spell
copy_too : (from to : Contents) → to.layout ≡ from.layout → AreCopied from to (all_nodes from.layout) → (m : List Pair) → Spells from.layout (word_at from) m → Spells to.layout (word_at to) m
copy_too from to e c m x = subst (λ (l : Layout). Spells l (word_at to) m) (sym e) (copy_spells from.layout (word_at from) (word_at to) m c x)

-- what is said of a value holds of it further on
if_ok : {A B : Type 0} (r : Result A B) (P Q : A → Type 0) → ((a : A) → P a → Q a) → IfOk r P → IfOk r Q
if_ok (Ok a) P Q f x = f a x
if_ok (Err b) P Q f x = x

module _ (keys values : ℕ → Type 0) (words copy : Contents) (map : IsMap words.layout.mode) (layout : copy.layout ≡ words.layout) (copied : AreCopied words copy (all_nodes words.layout)) (lay : Layout) (passes : List PassView) (c : IsClosed (TypedAllows keys values) lay passes words) where
  abbrev run : History
  run = history_of c.planting c.rows

  map_there : IsMap lay.mode
  map_there = subst (λ (l : Layout). IsMap l.mode) c.layout map

  -- the map of the run
  map_of : (m : List Pair) × Spells lay (value run) m
  map_of = run_spells lay run (map_there, typed_run keys values lay run c.sound)

  typed : AreTyped keys values map_of.0
  typed = typed_map keys values lay run map_there c.sound map_of.0 map_of.1

  -- which the copy spells too
  copy_is : Spells copy.layout (word_at copy) map_of.0
  copy_is = copy_too words copy layout copied map_of.0 (subst (λ (l : Layout). Spells l (word_at words) map_of.0) (sym c.layout) (copy_spells lay (value run) (word_at words) map_of.0 (λ n part less is. c.holds (node n part) less) map_of.1))

pub returns-in-Some-clause-pairs : goal.returns-in-Some-clause-pairs
returns-in-Some-clause-pairs g c = λ lay passes x.
    let keys = IsWordOf g.K.WordKey.is_valid g.K.WordKey.word_of in
    let values = IsWordOf g.V.WordValue.is_valid g.V.WordValue.word_of in
    let copy = c.in_ok-plain.field-0 in
    let map = dict_mode c.args.self.now.layout.mode (g.B.Balance.trie g.B.FixedBalance.the) c.in_ok-plain.ensures.mode in
    let m = map_of keys values c.args.self.now copy map c.in_ok-plain.ensures.layout c.in_ok-plain.ensures.copied lay passes x in
    let spelled = one_spelling copy.layout (word_at copy) c.in-Some.pairs.items m.0 (rw c.in-Some.is at c.in_ok-pairs.ensures.spells) (copy_is keys values c.args.self.now copy map c.in_ok-plain.ensures.layout c.in_ok-plain.ensures.copied lay passes x) in
    let items : c.deref.result.now ≡ m.0 = let d = c.deref.ensures in cc in
    if_ok c.pairs_of.result _ _ (λ ps z. subst (Spells lay (value (history_of x.planting x.rows))) (sym items ∙ sym (z.words_are (subst (AreTyped keys values) (sym items) (typed keys values c.args.self.now copy map c.in_ok-plain.ensures.layout c.in_ok-plain.ensures.copied lay passes x)))) m.1) c.pairs_of.ensures

pub returns-clause-pairs : goal.returns-clause-pairs
returns-clause-pairs g c = λ lay passes x.
    let keys = IsWordOf g.K.WordKey.is_valid g.K.WordKey.word_of in
    let values = IsWordOf g.V.WordValue.is_valid g.V.WordValue.word_of in
    let copy = c.in_ok-plain.field-0 in
    let map = dict_mode c.args.self.now.layout.mode (g.B.Balance.trie g.B.FixedBalance.the) c.in_ok-plain.ensures.mode in
    absurd ((rw c.in-None.is at c.in_ok-pairs.ensures.none) (map_of keys values c.args.self.now copy map c.in_ok-plain.ensures.layout c.in_ok-plain.ensures.copied lay passes x).0
    (copy_is keys values c.args.self.now copy map c.in_ok-plain.ensures.layout c.in_ok-plain.ensures.copied lay passes x))
