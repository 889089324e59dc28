use Rattle.std.proofs.Common.{◌≡◌, ℕ, refl, sym, ◌∙◌, ap, subst}
use Rattle.arena.specs.Words.{offset}
use Rattle.histories.specs.Common.{IsWord, Layout, Word, place}
use Rattle.resting.specs.Records.{Record, record_of}
use Rattle.tables.specs.LastingSlots.{memory_cleared}
use Rattle.upkeep.specs.UpkeepBook.{name_numbered, slots_in}
use Rattle.upkeep.proofs.UpkeepLooks.{has_learnt, is_word_of, may_learn, placed, table_in}
use Rattle.upkeep.proofs.clean.clear.Goals as goal

-- the word at this place of the slot is that one
same_place : (lay : Layout) (word other : Word) (x : Record) (k : ℕ) → IsWord lay other → record_of word ≡ x → record_of other ≡ x → offset word ≡ k → offset other ≡ k → ((u : Word) → IsWord lay u → place lay u ≡ place lay word → u ≡ word) → other ≡ word
same_place lay word other x k i is same at there apart = apart other i (placed lay other word (same ∙ sym is) (there ∙ sym at))

pub place-at-requires : goal.place-at-requires
place-at-requires g c = is_word_of c.args.layout.now c.requires.empty.0.number.0 c.word_at-word.result _ c.requires.empty.1.is_pass c.requires.empty.2 c.word_at-word.ensures.record c.word_at-word.ensures.part

pub store_with-requires-clause-may : goal.store_with-requires-clause-may
store_with-requires-clause-may g c =
    let p = c.requires.empty.0 in
    let at = c.requires.empty.1 in
    let t = slots_in c.args.words.now in
    let word = c.word_at-word.result in
    let is = table_in c.args.words.now c.args.layout.now c.args.seat.now p at in
    may_learn g.S.Shape.allows (λ m n rows. memory_cleared m word) c.args.words.now c.args.layout.now c.args.seat.now p (place t.table word) c.place-at.result (λ n. 0) at
    (ap (λ l. place l word) is ∙ sym c.place-at.ensures.place)
    (c.slots_last.ensures.zeros t c.args.words.now.table.shared.key.planting c.args.words.now.table.shared.table_id.slots c.args.seat.now.id c.args.seat.now.me p word (name_numbered c.args.kind c.args.slot) at.alone c.requires.empty.3 (sym c.word_at-word.ensures.record) (subst (λ l. IsWord l word) (sym is) (is_word_of c.args.layout.now p.number.0 word _ at.is_pass c.requires.empty.2 c.word_at-word.ensures.record c.word_at-word.ensures.part)))

pub returns-clause-cleared : goal.returns-clause-cleared
returns-clause-cleared g c =
    let word = c.word_at-word.result in (
      word,
      has_learnt g.S.Shape.allows (λ m n rows. memory_cleared m word) c.args.seat.now.me.0 c.store_with.new.seat.me.0 0 _ (λ m rows. refl) c.store_with.ensures.learnt,
      c.word_at-word.ensures.record,
      λ other i same there. same_place c.args.layout.now word other _ c.args.place i c.word_at-word.ensures.record same c.word_at-word.ensures.place there (λ u j e. c.place-at.ensures.apart u j (e ∙ sym c.place-at.ensures.place)),
    )
