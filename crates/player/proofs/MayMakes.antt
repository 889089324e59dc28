-- The kinds of step that a call makes.
use Rattle.std.proofs.Common.{ℕ, Option, refl, sym, subst}
use Rattle.histories.specs.Common.{Step, History, Call}
use Rattle.template.specs.Common.{AllowsAll, call_rules}
use Rattle.prims.proofs.Lemmas.{llx_fills_not}
use Rattle.record.specs.Common.{Command, Llx as LlxOf, Scx as ScxOf, Vlx as VlxOf, Set as SetOf, Map as MapOf, MapCall}
use Rattle.dict.specs.Inner.{inner}
use Rattle.dict.specs.Laws.Kinds.{is_of_kind}
use Rattle.dict.proofs.Lemmas.{kind_inside}
use Rattle.player.specs.declared.run.Run.{Run}
use Rattle.player.specs.declared.run.Run.TheVariants.{Llx, Scx, Vlx, Map}
use Rattle.player.specs.declared.client.SetField.{SetField}
use Rattle.record.specs.CommandRules.{MayMake}
use Rattle.player.specs.RunKnown.{RunWaits}
use Rattle.player.specs.ClientView.{IsMachineOf}

-- its machine asks for no other
pub may_make : (command : Command) (number : ℕ) (run : Run) (then : Option SetField) (call : Call) (h : History) (step : Step) → IsMachineOf command number run then → RunWaits run call h step → MayMake command step.kind
may_make (ScxOf update) number run then call h step of w = tt
may_make (SetOf field value) number run then call h step of w = tt
may_make command number (Map m) then call h step of w = subst (λ (k : Command). MayMake k step.kind) (sym of.is) (subst (λ (k : MapCall). (call_rules k).MayMake step.kind) of.called (kind_inside (inner m.run) (is_of_kind m.run) call h step w.1.1))
may_make (VlxOf cells) number (Vlx m) then call h step of w = rw w.asked refl
may_make (LlxOf cell) number (Llx m) then call h step of w = llx_fills_not AllowsAll m call h step w
may_make (VlxOf cells) number (Llx m) then call h step of w = absurd of.1
may_make (VlxOf cells) number (Scx m) then call h step of w = absurd of
may_make (LlxOf cell) number (Scx m) then call h step of w = absurd of
may_make (LlxOf cell) number (Vlx m) then call h step of w = absurd of
may_make (MapOf request) number (Llx m) then call h step of w = absurd of.1
may_make (MapOf request) number (Scx m) then call h step of w = absurd of
may_make (MapOf request) number (Vlx m) then call h step of w = absurd of
