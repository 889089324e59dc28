use Rattle.std.proofs.Common.{◌≡◌, ◌*◌, ◌≤◌, ℕ, IsNone, length, map, refl, sym, ◌∙◌, ap, subst, arith}
use Rattle.std.proofs.Math.Nat.{mul-le-mul_left}
use Rattle.template.specs.Balance.{map_mode}
use Rattle.ordered_map.specs.Replies.{word_pair}
use Rattle.dict.specs.Words.{IsWordOf}
use Rattle.forest.proofs.Begun.{begins_run}
use Rattle.forest.proofs.beginning.plot_with.Goals as goal

pub returns-in-Some-with_room-clause-run : goal.returns-in-Some-with_room-clause-run
returns-in-Some-with_room-clause-run g c =
    let room = c.in-Some-with_room.ensures in
    begins_run (IsWordOf g.K.WordKey.is_valid g.K.WordKey.word_of) (IsWordOf g.V.WordValue.is_valid g.V.WordValue.word_of) c.in-Some-with_room.layout (map_mode c.args.trie) c.in_ok-words.words.items c.in_ok-planting.planting c.in_ok-planting.ensures (room.mode ∙ c.requires.mode)
    (let count = c.count.ensures in let some = room.planted in omega (arith, count, some)) c.in_ok-words.ensures.typed

-- what the passes have is at most this
shares_fit : (p n : ℕ) → p ≤ 32 → n ≤ 32768 → p * n ≤ 1048576
shares_fit p n few small = let a : p * n ≤ p * 32768 = mul-le-mul_left p small in omega (arith, a, few)

pub returns-in-None-clause-refused : goal.returns-in-None-clause-refused
returns-in-None-clause-refused g c =
    let lay = c.args.layout.now in
    let shares = shares_fit lay.passes lay.nodes lay.passes_fit c.requires.shares.0 in
    let full = c.with_room.ensures.full (subst IsNone (sym c.in-None.is) refl) in
    let count = c.count.ensures in
    let same : length c.in_ok-words.words.items ≡ length (map (word_pair g.K.WordKey.word_of g.V.WordValue.word_of) c.args.pairs.now) = ap length c.in_ok-words.ensures.words in (
      omega (arith, shares),
      (let few = c.in_ok-planting.ensures.few in omega (arith, shares, full, count, same, few)),
      (λ tree. let exact = c.in_ok-planting.ensures.full (ap map_mode tree) in omega (arith, shares, full, count, same, exact)),
    )
