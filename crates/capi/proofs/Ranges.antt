-- A range tells no more pairs than it was asked for.
use Rattle.std.proofs.Common.{◌≡◌, ◌≤◌, Bool, ℕ, List, [], length, min, vec_len, sym, ◌∙◌, ap, arith, Result, Ok, Err, IfOk}
use Rattle.std.specs.Global.{Vec}
use Rattle.std.proofs.lemmas.List.{length-take, length-map}
use Rattle.ordered_map.specs.declared.pair.Pair.{Pair}
use Rattle.ordered_map.specs.OrderedMap.{MapReply, OneValue, OnePair, ManyPairs, Range, between}
use Rattle.ordered_map.specs.Replies.{word_pair}
use Rattle.ordered_map.specs.declared.reply.Reply.TheVariants.{Pairs}
use Rattle.forest.specs.declared.fault.OrderFault.{OrderFault}
use Rattle.tables.specs.Passes.{Ground, PassView}
use Rattle.forest.specs.Dictionary.{HasCalledIn, order_reply}

pairs_in : MapReply → List Pair
pairs_in (OneValue v) = []
pairs_in (OnePair p) = []
pairs_in (ManyPairs ps) = ps

below : (n m k : ℕ) → k ≡ min n m → k ≤ n
below n m k e = omega (arith, e)

pub range_few : (in_trie : Bool) (valid_key : ℕ → Type 0) (key : ℕ → ℕ) (valid_value : ℕ → Type 0) (value : ℕ → ℕ) (f : Ground) (old new : PassView) (low high most : ℕ) (told : Result (Vec (ℕ × ℕ)) OrderFault) → HasCalledIn in_trie valid_key key valid_value value f old new (Range low high most) (order_reply Pairs told) → IfOk told (λ pairs. vec_len pairs ≤ most)
unfolding pairs_in
range_few in_trie valid_key key valid_value value f old new low high most (Ok found) says =
    let read = says.told.read in
    below most (length (between low high read.map)) (vec_len found)
    (found.ok.0 ∙ sym (length-map found.items (word_pair key value)) ∙ ap length (sym (ap pairs_in read.gives)) ∙ length-take most (between low high read.map))
range_few in_trie valid_key key valid_value value f old new low high most (Err fault) says = tt
