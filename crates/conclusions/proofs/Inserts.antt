-- What an insert replies is what its key had, or why it was refused.
use Rattle.std.proofs.Common.{◌≡◌, ℕ, List, Option, Some, None, refl, subst, ap}
use Rattle.std.specs.Prelude.{Result, Ok, Err, IfOk, IfErr}
use Rattle.std.specs.Option.{option_map}
use Rattle.regnubas.specs.Dictionary.{IsRefusalOf, IsToldOf, update_reply}
use Rattle.regnubas.specs.OrderedMap.{MapReply, OneValue, call_insert, get, insert, reply}
use Rattle.regnubas.specs.Passes.{PassView}
use Rattle.regnubas.specs.Replies.{told_of}
use Rattle.regnubas.specs.Types.{Pair, UpdateFault}
use Rattle.regnubas.specs.declared.Reply.TheVariants.{Value}
use Rattle.regnubas.specs.declared.UpdateFault.TheVariants.{Contended, Full}
use Rattle.conclusions.specs.Together.{HasSetAt, IsUpdateRefused}

-- the value that a reply has
told_value : MapReply → Option ℕ → Option ℕ
told_value (OneValue v) other = v
told_value _ other = other

-- what an insert tells is what its key had
insert_told : (k v : ℕ) (m : List Pair) (told : Option ℕ) → reply (call_insert k v) m ≡ OneValue told → get k m ≡ told
unfolding told_value
insert_told k v m told e = ap (λ r. told_value r told) e

-- the words of numbers are the numbers
same_words : (told : Option ℕ) → option_map (λ (n : ℕ). n) told ≡ told
same_words None = refl
same_words (Some v) = refl

module _ (old new : PassView) (k v : ℕ) where
  pub has_set : ((k v : ℕ) (m : List Pair) → get k (insert k v m) ≡ Some v) → (r : Result (Option ℕ) UpdateFault) → IsToldOf old new (call_insert k v) (told_of {K = ℕ} {V = ℕ} (λ n. n) (λ n. n) (update_reply Value r)) → IfOk r (HasSetAt old new k v)
  has_set inserted (Ok told) c = subst (HasSetAt old new k v) (same_words told) (record { set = c; had = insert_told k v c.map (option_map (λ (n : ℕ). n) told) c.gives; has = inserted k v c.map })
  has_set inserted (Err fault) c = tt

  pub is_refused : (tries : ℕ) (r : Result (Option ℕ) UpdateFault) → IsRefusalOf {K = ℕ} {V = ℕ} tries old new (call_insert k v) (update_reply Value r) → IfErr r (IsUpdateRefused tries old new (call_insert k v))
  is_refused tries (Ok told) x = tt
  is_refused tries (Err (Contended node scx)) x = x
  is_refused tries (Err (Full full)) x = x
