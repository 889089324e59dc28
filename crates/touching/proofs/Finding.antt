-- What a step of a call comes to without a fill: no record of the pass's own that is yet to be
-- filled.
use Rattle.std.proofs.Common.{◌≡◌, ◌⊎◌, ℕ, inl, inr}
use Rattle.histories.specs.Common.{Layout, Word, Node, Scx, Fill, Step, History, value, info, IsOwnScx, IsTakenScx, Call}
use Rattle.prims.specs.Laws.InTheWay.{HasBeen}
use Rattle.touching.specs.Touches.{Touches, TouchesNode, TouchesScx, WasCovered, WasInProgress, WasSo, covered, in_progress, named, own_scx, was_so}

module _ (P : Layout → History → ℕ → Type 0) where
  -- a node that was so, or that an SCX-record had reached, at a moment of the call
  pub data FindsNode (c : Call) (h : History) (n : ℕ) : Type 0 where
    found_so : WasSo P c h n → FindsNode c h n
    found_covered : (s : ℕ) → WasCovered c h s n → FindsNode c h n

  -- an SCX-record that such a node named, or that was in progress, at a moment of the call; or its
  -- own, which it has filled
  pub data FindsScx (c : Call) (h : History) (s : ℕ) : Type 0 where
    found_named : (n : ℕ) → WasSo P c h n → HasBeen h c.start (λ m. value m (info n) ≡ s) → FindsScx c h s
    found_running : WasInProgress c h s → FindsScx c h s
    found_filled : IsOwnScx c.layout c.pass s → ¬ IsTakenScx c.start s → IsTakenScx h s → FindsScx c h s

  -- the word is of such a record
  abbrev pub Finds : Call → History → Word → Type 0
  Finds c h (Node n part) = FindsNode c h n.0
  Finds c h (Scx s part) = FindsScx c h s.0

  -- the step fills what it touches, or finds it
  abbrev pub FillsOrFinds : Call → History → Step → Type 0
  FillsOrFinds c h s = ((s.kind ≡ Fill) × Touches P c h s.word) ⊎ Finds c h s.word

  -- it touches what it finds
  module _ (c : Call) (h : History) where
    pub node_touched : (n : ℕ) → FindsNode c h n → TouchesNode P c h n
    node_touched n (found_so x) = was_so x
    node_touched n (found_covered s x) = covered s x

    scx_touched : (s : ℕ) → FindsScx c h s → TouchesScx P c h s
    scx_touched s (found_named n x y) = named n x y
    scx_touched s (found_running x) = in_progress x
    scx_touched s (found_filled own free taken) = own_scx own free

    pub found_touched : (w : Word) → Finds c h w → Touches P c h w
    found_touched (Node n part) x = node_touched n.0 x
    found_touched (Scx s part) x = scx_touched s.0 x

    pub step_touched : (s : Step) → FillsOrFinds c h s → Touches P c h s.word
    step_touched s (inl x) = x.1
    step_touched s (inr x) = found_touched s.word x
