-- What a pass of a table that lasts keeps before its first step.
use Rattle.std.proofs.Common.{arith, ◌<◌, ◌≡◌, ℕ, List, [], ◌∷◌, None, inl, inr, refl, sym, ◌∙◌, ap, subst}
use Rattle.histories.specs.Common.{Row, Extends}
use Rattle.planting.specs.Plantings.{PlantingView}
use Rattle.slots.specs.Lasting.{Lasting}
use Rattle.tables.specs.LastingOpening.{first_memory}
use Rattle.tables.specs.TableRule.{history_of, past_of}
use Rattle.upkeep.specs.UpkeepBook.{HasNoneLost, IsBook}
use Rattle.upkeep.specs.UpkeepKeeper.{IsKeeper, KeepsBooks, RunsSince}
use Rattle.tables.specs.declared.memory.PassMemory.{PassMemory}
use Rattle.upkeep.specs.declared.keeper.Keeper.{Keeper}
use Rattle.upkeep.specs.declared.kind.RecordKind.TheVariants.{Node, Scx}
use Rattle.tables.specs.declared.view.SeatedPass.{SeatedPass}

ends_at_start : (planting : PlantingView) (rows : List Row) → Extends (history_of planting rows) (history_of planting [])
ends_at_start planting [] = refl
ends_at_start planting (r ∷ rs) = inr (ends_at_start planting rs)

-- it is right, if its books are
pub keeper_first : (t : Lasting) (o : ℕ) (p : SeatedPass) → p.memory ≡ first_memory t o → (keeper : Keeper) → keeper.often ≡ 0 → keeper.period ≡ None → keeper.taken ≡ 0 → keeper.nodes.kind ≡ Node → keeper.scxs.kind ≡ Scx → IsBook t p [] keeper.nodes → IsBook t p [] keeper.scxs → HasNoneLost keeper.nodes → HasNoneLost keeper.scxs → IsKeeper t p keeper
keeper_first t o p memory keeper often period taken node_kind scx_kind nodes scxs none_node none_scx = record {
  books = books;
  lost = record { nodes = λ i x there lost. absurd (none_node i x there lost); scxs = λ i x there lost. absurd (none_scx i x there lost) };
  taken = λ n own less. absurd (omega (arith, less, taken));
}
  where
    books : KeepsBooks t p keeper
    books = record {
      there = inr (ap (λ (m : PassMemory). m.away) memory);
      since = [];
      slots = record {
        known = ends_at_start p.planting p.known;
        rested = subst (λ (m : PassMemory). Extends (past_of p []) (history_of p.planting m.rested)) (sym memory) (ends_at_start p.planting p.known);
        often = often ∙ ap (λ (m : PassMemory). m.often) (sym memory);
        node_kind = node_kind;
        scx_kind = scx_kind;
        nodes = nodes;
        scxs = scxs;
      };
      period = subst (RunsSince t.table.passes p []) (sym period) tt;
    }
