-- The nodes of the tree are in the words of a table that lasts.
use Rattle.std.proofs.Common.{◌≡◌, ◌<◌, ◌⊎◌, ℕ, true≢false, inl, inr, ⊎_elim, refl, sym, ◌∙◌, ap, slice_index, arith}
use native.Mathlib.Decide.{ℕ_discrete, dec_lt}
use Rattle.atomic_table.specs.Table.{State}
use Rattle.histories.specs.Common.{Layout, Row, Kind, Fill, NodeWord, Word, Node, Scx, History, Opened, ◌⊳◌, value, node, opening_nodes, IsWord, IsFillOfNode, IsTakenNode}
use Rattle.arena.proofs.Lemmas.{ends_self}
use Rattle.planting.specs.Plantings.{PlantingView}
use Rattle.ordered_map.specs.Paths.{WasInTree}
use Rattle.ordered_map.specs.Runs.{IsMapRun}
use Rattle.touching.specs.Kinds.{IsInTree}
use Rattle.touching.proofs.Lemmas.{never_stood, there_not_final}
use Rattle.resting.specs.Records.{the_node, record_of}
use Rattle.resting.specs.Rests.{HaveRestedAt}
use Rattle.slots.specs.Held.{IsHeld}
use Rattle.slots.specs.Lasting.{Lasting, table_place}
use Rattle.tables.specs.TableRule.{history_of}
use Rattle.tables.specs.LastingMemory.{IsOutForGood, StaysUnborn}
use Rattle.tables.specs.LastingRule.{TableLasts}
use Rattle.tables.specs.declared.view.SeatView.{SeatView}

-- whether a node was taken

kind_discrete : (k : Kind) → Dec (k ≡ Fill)
kind_discrete Fill = yes refl
kind_discrete k = no (λ e. let d : k ≡ Fill = e in cc)

fill_discrete : (n : ℕ) (r : Row) → Dec (IsFillOfNode n r)
fill_discrete n r = go (kind_discrete r.kind) r.word refl
  where
    number : (m : ℕ) → the_node m ≡ the_node n → m ≡ n
    number m e = cc

    at : (m : ℕ) (part : NodeWord) → r.kind ≡ Fill → r.word ≡ node m part → Dec (m ≡ n) → Dec (IsFillOfNode n r)
    at m part kind word (yes e) = yes (part, kind, word ∙ ap (λ i. node i part) e)
    at m part kind word (no d) = no (λ f. d (number m (ap record_of (sym word ∙ f.2))))

    go : Dec (r.kind ≡ Fill) → (w : Word) → r.word ≡ w → Dec (IsFillOfNode n r)
    go (no d) w e = no (λ f. d f.1)
    go (yes kind) (Node m part) e = at m.0 part kind e (ℕ_discrete m.0 n)
    go (yes kind) (Scx s part) e = no (λ f. let q : Scx s part ≡ node n f.0 = sym e ∙ f.2 in cc)

pub taken_discrete : (h : History) (n : ℕ) → Dec (IsTakenNode h n)
unfolding IsTakenNode
taken_discrete (Opened o) n = no (λ z. z)
taken_discrete (r ⊳ h) n = go (fill_discrete n r) (taken_discrete h n)
  where
    go : Dec (IsFillOfNode n r) → Dec (IsTakenNode h n) → Dec (IsFillOfNode n r ⊎ IsTakenNode h n)
    go (yes f) k = yes (inl f)
    go (no d) (yes y) = yes (inr y)
    go (no d) (no e) = no (λ z. ⊎_elim d e z)

-- what is in the tree was there at a moment
stands : (h : History) (n : ℕ) → IsInTree h n → WasInTree h n
stands h n x = record { moment = h; within = ends_self h; tree = x.tree; is_tree = x.is_tree; has = x.has }

-- what is gone is not in the tree
not_gone : (lay : Layout) (h : History) (last : ℕ → History) (n : ℕ) → IsMapRun lay h → HaveRestedAt lay h last → StaysUnborn lay → IsInTree h n → ¬ IsOutForGood lay h last n
not_gone lay h last n run rested stays there (inl final) = true≢false (sym final ∙ there_not_final lay h n run there)
not_gone lay h last n run rested stays there (inr (inl left)) = left.out there
not_gone lay h last n run rested stays there (inr (inr z)) = (stays h z.0 (last z.0) n z.1 run (rested z.0 z.1) z.2).never (stands h n there)

module _ (allows : Layout → History → ℕ → Type 0) (t : Lasting) (planting : PlantingView) (stays : StaysUnborn t.lay) (s : State ℕ SeatView) (kept : TableLasts allows t planting s) (n : ℕ) (there : IsInTree (history_of planting kept.run.rows) n) where
  pub tree_held : IsHeld t kept.run.held (the_node n)
  tree_held = go (taken_discrete (history_of planting kept.run.rows) n) (dec_lt n (opening_nodes t.lay))
    where
      go : Dec (IsTakenNode (history_of planting kept.run.rows) n) → Dec (n < opening_nodes t.lay) → IsHeld t kept.run.held (the_node n)
      go (yes taken) d = ⊎_elim (λ is. is) (λ g. absurd (not_gone t.lay (history_of planting kept.run.rows) kept.run.last n kept.run.window.run kept.run.window.rested stays there g)) (kept.run.gone n taken)
      go (no free) (yes first) = kept.run.window.names.first (the_node n) first
      go (no free) (no late) = absurd (never_stood t.lay (history_of planting kept.run.rows) n kept.run.window.run (omega (arith, late)) free (stands (history_of planting kept.run.rows) n there))

  pub tree_shown : (part : NodeWord) → IsWord t.lay (node n part) → slice_index s.words (table_place t (node n part)) ≡ value (history_of planting kept.run.rows) (node n part)
  tree_shown part inside = kept.run.window.shows (node n part) inside tree_held
