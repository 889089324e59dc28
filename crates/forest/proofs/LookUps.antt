-- What a pass has after it has looked up keys of leaves of its own.
use Rattle.std.proofs.Common.{◌≡◌, ◌⊎◌, ◌-◌, ◌∙◌, ℕ, Bool, true, false, Option, None, ap, inl, inr, subst, sym}
use Rattle.std.specs.Option.{option_map}
use Rattle.histories.specs.Common.{Extends, History, Layout, Opened, Row, ◌⊳◌}
use Rattle.arena.specs.Layout.{first_scx}
use Rattle.arena.proofs.Lemmas.{ends_trans}
use Rattle.dict.specs.Typed.{TypedAllows}
use Rattle.dict.specs.Words.{IsWordOf}
use Rattle.ordered_map.specs.OrderedMap.{get}
use Rattle.ordered_map.specs.Paths.{IsAnswerAt}
use Rattle.ordered_map.specs.declared.reply.Reply.TheVariants as replies
use Rattle.tables.specs.Passes.{Ground, HoldsOfOwn, IsLaterView, PassView, run_of, taken_of}
use Rattle.template.specs.Common.{Get, OneValue}
use Rattle.forest.specs.Dictionary.{HasCalledIn}
use Rattle.forest.specs.LookUps.{HasRestedIn, IsOfRest}
use Rattle.forest.specs.Rests.{HasOnlyRested}

-- Own rows

-- of two moments of a history, one is not before the other
either : (h mid : History) (r : Row) (before : History) → Extends h mid → Extends h (r ⊳ before) → Extends mid (r ⊳ before) ⊎ Extends before mid
either (Opened o) mid r before e f = absurd (let z : r ⊳ before ≡ Opened o = f in cc)
either (q ⊳ h) mid r before (inl e) f = inl (subst (λ m. Extends m (r ⊳ before)) (sym e) f)
either (q ⊳ h) mid r before (inr e) (inl f) = let same : before ≡ h = cc in inr (subst (λ m. Extends m mid) (sym same) e)
either (q ⊳ h) mid r before (inr e) (inr f) = either h mid r before e f

-- what holds of own rows up to a moment, and since then, holds of all
own_both : (P : Row → Type 0) (c : ℕ) (start mid h : History) → Extends h mid → HoldsOfOwn P c start mid → HoldsOfOwn P c mid h → HoldsOfOwn P c start h
own_both P c start mid h e one two r before within since own = go (either h mid r before e within)
  where
    go : Extends mid (r ⊳ before) ⊎ Extends before mid → P r
    go (inl f) = one r before f since own
    go (inr f) = two r before within f own

-- Rests

-- a row of no call is one of a rest
no_call_rests : (trie : Bool) (number : ℕ) (r : Row) → r.call ≡ 0 → IsOfRest trie number r
no_call_rests false number r e = e
no_call_rests true number r e = inl e

-- a pass that has only rested has rested so
pub only_rests : (trie : Bool) (allows : Layout → History → ℕ → Type 0) (old new : PassView) → HasOnlyRested allows old new → HasRestedIn trie allows old new
only_rests trie allows old new x = record {
  later = x.later;
  lawful = x.lawful;
  rows = λ r before within since own. no_call_rests trie (taken_of old) r (x.calls r before within since own);
  done = x.done;
  blamed_same = x.blamed_same;
  rest = x.rest;
  usable = x.usable;
}

-- one that has taken nothing has the same call before it
pub taken_still : (old mid : PassView) → IsLaterView old mid → mid.share ≡ old.share → taken_of mid ≡ taken_of old
taken_still old mid x share = (λ i. (share i).next_scx - first_scx (x.layout i) (x.number i))

-- and one that goes on so has rested so
pub rests_then : (trie : Bool) (allows : Layout → History → ℕ → Type 0) (old mid new : PassView) → mid.share ≡ old.share → HasRestedIn trie allows old mid → HasRestedIn trie allows mid new → HasRestedIn trie allows old new
rests_then trie allows old mid new share x y = record {
  later = record {
    table = y.later.table ∙ x.later.table;
    layout = y.later.layout ∙ x.later.layout;
    number = y.later.number ∙ x.later.number;
    run = ends_trans (run_of new) (run_of mid) (run_of old) y.later.run x.later.run;
  };
  lawful = y.lawful;
  rows = own_both (IsOfRest trie (taken_of old)) new.number (run_of old) (run_of mid) (run_of new) y.later.run
      (subst (λ k. HoldsOfOwn (IsOfRest trie (taken_of old)) k (run_of old) (run_of mid)) (sym y.later.number) x.rows)
      (subst (λ k. HoldsOfOwn (IsOfRest trie k) new.number (run_of mid) (run_of new)) (taken_still old mid x.later share) y.rows);
  done = y.done ∙ x.done;
  blamed_same = y.blamed_same ∙ x.blamed_same;
  rest = y.rest;
  usable = λ snap u. y.usable snap (x.usable snap u);
}

-- a pass that has done nothing
pub rests_nothing : (trie : Bool) (allows : Layout → History → ℕ → Type 0) (p : PassView) → HasOnlyRested allows p p → HasRestedIn trie allows p p
rests_nothing trie allows p x = only_rests trie allows p p x

-- Gets

module _ {K V : Type 0} (valid_key : K → Type 0) (key : K → ℕ) (valid_value : V → Type 0) (value_word : V → ℕ) (trie : Bool) (forest : Ground) (old new : PassView) (wanted : ℕ) (v : Option V) (x : HasCalledIn trie valid_key key valid_value value_word forest old new (Get wanted) (replies.Value v)) where
  -- a get is of a rest
  pub got : HasRestedIn true (TypedAllows (IsWordOf valid_key key) (IsWordOf valid_value value_word)) old new
  got = record {
    later = x.goes_on.later;
    lawful = x.goes_on.lawful;
    rows = λ r before within since own. inr (x.goes_on.calls r before within since own, x.kinds r before within since own);
    done = x.told.done;
    blamed_same = x.goes_on.blamed_these;
    rest = x.goes_on.rest;
    usable = x.goes_on.usable;
  }

  -- and if it answers none, the map did not have the key at a moment of it
  pub got_none : v ≡ None → IsAnswerAt new.layout (run_of new) (run_of old) wanted None
  got_none none = let r = x.told.read in record { moment = r.moment; within = r.within; since = r.since; map = r.map; spelled = r.spelled; gives = value_is (get wanted r.map) (option_map value_word v) r.gives ∙ ap (option_map value_word) none }
    where
      value_is : (a b : Option ℕ) → OneValue a ≡ OneValue b → a ≡ b
      value_is a b e = cc
