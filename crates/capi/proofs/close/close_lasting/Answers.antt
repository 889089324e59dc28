use Rattle.std.proofs.Common.{ℕ, List, [], ◌∷◌, map, sym, subst}
use Rattle.arena.specs.declared.layout.Layout.{Layout}
use Rattle.arena.specs.History.{History, value}
use Rattle.arena.specs.Machines.{IsRun}
use Rattle.dict.specs.Typed.{TypedAllows}
use Rattle.dict.specs.Words.{IsNumber, IsWideNumber}
use Rattle.ordered_map.specs.Replies.{word_pair}
use Rattle.ordered_map.specs.Spelled.{Spells}
use Rattle.tables.specs.Passes.{Ground, PassView, IsOf}
use Rattle.tables.specs.TableRule.{history_of}
use Rattle.forest.specs.Remains.{AreRemains, SlotWords}
use Rattle.capi.specs.Left.{AreLeft}
use Rattle.capi.proofs.close.close_lasting.Goals as goal

module _ (f : Ground) (p : PassView) (of : IsOf f p) (words : SlotWords) (closed : AreRemains (TypedAllows IsNumber IsWideNumber) f.layout (p ∷ []) words) where
  -- the run at the end
  abbrev run : History
  run = history_of closed.planting closed.rows

  left : (pairs : List (ℕ × ℕ)) → Spells f.layout (value run) (map (word_pair (λ k. k) (λ v. v)) pairs) → AreLeft p pairs
  left pairs spelled = record {
    run = run;
    sound = subst (λ (l : Layout). IsRun (TypedAllows IsNumber IsWideNumber) l run) (sym of.1) closed.sound;
    goes_on = closed.known.0;
    done = closed.known.1;
    spelled = subst (λ (l : Layout). Spells l (value run) (map (word_pair (λ k. k) (λ v. v)) pairs)) (sym of.1) spelled;
  }

pub returns-in-Ok-pairs : goal.returns-in-Ok-pairs
returns-in-Ok-pairs g c =
    let f = c.in-Ok.forest in
    let p = c.args.held.pass in
    left f p (subst (λ (g : Ground). IsOf g p) (sym c.in-Ok.ensures.ok) c.args.held.of) c.end.result c.end.ensures.closed c.in-Ok-pairs.pairs.items (c.in-Ok-pairs.ensures.pairs f.layout (p ∷ []) c.end.ensures.closed)
