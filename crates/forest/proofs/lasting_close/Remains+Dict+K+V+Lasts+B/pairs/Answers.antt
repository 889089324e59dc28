use Rattle.arena.specs.Layout.{IsMap}
use Rattle.dict.specs.Laws.Begins.{dict_mode}
use Rattle.std.proofs.Common.{◌≡◌, ℕ, List, sym, subst, ◌∙◌}
use Rattle.std.proofs.lemmas.Result.{IfOk-weaker}
use Rattle.histories.specs.Common.{Layout, History, value, all_nodes, Contents, word_at}
use Rattle.template.specs.Common.{Pair, Spells}
use Rattle.ordered_map.proofs.Lemmas.{one_spelling}
use Rattle.ordered_map.proofs.MapLemmas.{run_spells}
use Rattle.dict.specs.Typed.{AreTyped, TypedAllows}
use Rattle.dict.specs.Laws.TypedMaps.{typed_map, typed_run}
use Rattle.dict.specs.Words.{IsWordOf}
use Rattle.tables.specs.Passes.{PassView}
use Rattle.forest.specs.Remains.{AreNamedBySlots, AreRemains, SlotWords}
use Rattle.tables.specs.TableRule.{history_of}
use Rattle.forest.proofs.LastingEnds.{slots_spell}
use Rattle.forest.proofs.lasting_close.Remains+Dict+K+V+Lasts+B.pairs.Goals as goal

module _ (keys values : ℕ → Type 0) (words : SlotWords) (copy : Contents) (map : IsMap words.slots.table.mode) (layout : copy.layout ≡ words.slots.table) (copied : AreNamedBySlots words copy (all_nodes words.slots.table)) (lay : Layout) (passes : List PassView) (c : AreRemains (TypedAllows keys values) lay passes words) where
  abbrev run : History
  run = history_of c.planting c.rows

  map_there : IsMap lay.mode
  map_there = subst (λ (l : Layout). IsMap l.mode) c.names (subst IsMap (sym c.lasting.mode) map)

  -- the map of the run
  map_of : (m : List Pair) × Spells lay (value run) m
  map_of = run_spells lay run (map_there, typed_run keys values lay run c.sound)

  typed : AreTyped keys values map_of.0
  typed = typed_map keys values lay run map_there c.sound map_of.0 map_of.1

  -- which the copy spells too
  copy_is : Spells copy.layout (word_at copy) map_of.0
  copy_is = slots_spell words run copy map_of.0 map c.lasting c.shows layout copied (subst (λ (l : Layout). Spells l (value run) map_of.0) (sym c.names) map_of.1)

pub returns-in-Some-clause-pairs : goal.returns-in-Some-clause-pairs
returns-in-Some-clause-pairs g c = λ lay passes x.
    let keys = IsWordOf g.K.WordKey.is_valid g.K.WordKey.word_of in
    let values = IsWordOf g.V.WordValue.is_valid g.V.WordValue.word_of in
    let copy = c.in_ok-plain.field-0 in
    let map = dict_mode c.args.self.now.slots.table.mode (g.B.Balance.trie g.B.FixedBalance.the) c.in_ok-plain.ensures.mode in
    let m = map_of keys values c.args.self.now copy map c.in_ok-plain.ensures.layout c.in_ok-plain.ensures.copied lay passes x in
    let spelled = one_spelling copy.layout (word_at copy) c.in-Some.pairs.items m.0 (rw c.in-Some.is at c.in_ok-pairs.ensures.spells) (copy_is keys values c.args.self.now copy map c.in_ok-plain.ensures.layout c.in_ok-plain.ensures.copied lay passes x) in
    let items : c.deref.result.now ≡ m.0 = let d = c.deref.ensures in cc in
    IfOk-weaker c.pairs_of.result _ _ (λ ps z. subst (Spells lay (value (history_of x.planting x.rows))) (sym items ∙ sym (z.words_are (subst (AreTyped keys values) (sym items) (typed keys values c.args.self.now copy map c.in_ok-plain.ensures.layout c.in_ok-plain.ensures.copied lay passes x)))) m.1) c.pairs_of.ensures

pub returns-clause-pairs : goal.returns-clause-pairs
returns-clause-pairs g c = λ lay passes x.
    let keys = IsWordOf g.K.WordKey.is_valid g.K.WordKey.word_of in
    let values = IsWordOf g.V.WordValue.is_valid g.V.WordValue.word_of in
    let copy = c.in_ok-plain.field-0 in
    let map = dict_mode c.args.self.now.slots.table.mode (g.B.Balance.trie g.B.FixedBalance.the) c.in_ok-plain.ensures.mode in
    absurd ((rw c.in-None.is at c.in_ok-pairs.ensures.none) (map_of keys values c.args.self.now copy map c.in_ok-plain.ensures.layout c.in_ok-plain.ensures.copied lay passes x).0
    (copy_is keys values c.args.self.now copy map c.in_ok-plain.ensures.layout c.in_ok-plain.ensures.copied lay passes x))
