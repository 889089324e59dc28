-- From place to place of a leaf.
use Rattle.std.proofs.Common.{◌≡◌, ℕ, List, [], ◌∷◌, refl, sym, ◌∙◌, ap, subst, Option, Some, None}
use Rattle.histories.specs.Common.{Settled, Key as KeyWord, Slot, History, value, Extends, Call}
use Rattle.template.specs.Common.{Snap, Pair, held_behind, held_from, slot_behind, pair, WasInTree, IsMapRun}
use Rattle.ordered_map.proofs.Lemmas.{held_next, same_pair}
use Rattle.ordered_map.proofs.MapLemmas.{stood_settled}
use Rattle.order.specs.Found.{StandsIn, TakesPair, more_at, pairs_behind, place_key, place_pair, place_value}
use Rattle.order.specs.Loads.{place_behind, place_in}
use Rattle.order.specs.Meaning.{ReadMeaning}
use Rattle.order.specs.declared.load.LeafPlace.{LeafPlace}

-- from a place on a leaf holds the pair there, and what is after it
pub place_next : (h : History) (p : LeafPlace) → more_at h p.node.0 ≡ p.more → held_from (value h) p.node.0 p.slot ≡ place_pair h p ∷ pairs_behind h p
place_next h p count = held_next (value h) p.node.0 p.slot ∙ ap (λ more. place_pair h p ∷ held_behind (value h) p.node.0 (slot_behind more p.slot)) count

-- where its key has been loaded, the pair there may be taken
pub takes_here : {R A : Type 0} (means : ReadMeaning R A) (r : R) (snaps : List Snap) (c : Call) (h : History) (p : LeafPlace) (key : ℕ) → StandsIn means r snaps c h p → place_key h p ≡ key → means.Takes r key → TakesPair means r snaps c h p key
takes_here means r snaps c h p key x is takes = record { stands = x; key_is = λ b run e hold. stood_settled c.layout b h p.node.0 run e x.stood.stood (Settled (KeyWord p.slot)) tt ∙ is; takes = takes }

-- and once its key and value are known, it is this pair
pub pair_then : (c : Call) (h : History) (p : LeafPlace) (found : Pair) → WasInTree h p.node.0 → place_value h p ≡ found.value → (b : History) → IsMapRun c.layout b → Extends b h → place_key b p ≡ found.key → place_pair b p ≡ found
pair_then c h p found stood is b run e key_is = λ i. pair (key_is i) ((ap (λ (q : Pair). q.value) (same_pair (value h) (value b) p.node.0 p.slot (stood_settled c.layout b h p.node.0 run e stood)) ∙ is) i)

-- the place after one is in the same leaf
record IsPlaceBehind (p q : LeafPlace) : Type 0 where
  slot : Slot
  some : slot_behind p.more p.slot ≡ Some slot
  is : q ≡ record p { slot = slot }

behind_is : (p q : LeafPlace) → place_behind p ≡ Some q → IsPlaceBehind p q
behind_is p q is = go (slot_behind p.more p.slot) refl is
  where
    go : (s : Option Slot) → slot_behind p.more p.slot ≡ s → place_in p s ≡ Some q → IsPlaceBehind p q
    go None e d = absurd (let x : None ≡ Some q = d in cc)
    go (Some slot) e d = record { slot = slot; some = e; is = (let x : Some (record p { slot = slot }) ≡ Some q = d in cc) }

pub behind_node : (p q : LeafPlace) → place_behind p ≡ Some q → q.node ≡ p.node
behind_node p q is = ap (λ (r : LeafPlace). r.node) (behind_is p q is).is

pub behind_more : (h : History) (p q : LeafPlace) → place_behind p ≡ Some q → more_at h p.node.0 ≡ p.more → more_at h q.node.0 ≡ q.more
behind_more h p q is count = subst (λ (r : LeafPlace). more_at h r.node.0 ≡ r.more) (sym (behind_is p q is).is) count

-- there it holds what is after the first; if there is none, nothing is
pub behind_some : (h : History) (p q : LeafPlace) → place_behind p ≡ Some q → pairs_behind h p ≡ held_from (value h) q.node.0 q.slot
behind_some h p q is =
    let x = behind_is p q is in
    ap (held_behind (value h) p.node.0) x.some ∙ ap (λ (r : LeafPlace). held_from (value h) r.node.0 r.slot) (sym x.is)

pub behind_none : (h : History) (p : LeafPlace) → place_behind p ≡ None → pairs_behind h p ≡ []
behind_none h p is = go (slot_behind p.more p.slot) refl is
  where
    go : (s : Option Slot) → slot_behind p.more p.slot ≡ s → place_in p s ≡ None → pairs_behind h p ≡ []
    go None e d = ap (held_behind (value h) p.node.0) e
    go (Some slot) e d = absurd (let x : Some (record p { slot = slot }) ≡ None = d in cc)
