-- What a pass needs to begin an SCX, with a fresh cell or with other fresh nodes that it has
-- filled.
use Rattle.std.proofs.Common.{◌≡◌, ◌≢◌, ℕ, ◌<◌, arith}
use native.Mathlib.Decide.{ℕ_discrete}
use Rattle.histories.specs.Common.{Layout, Row, New, state, History, ◌⊳◌, value, IsFillOfNode, IsOwnNode, IsOwnScx, IsTakenNode, IsTakenScx, Lawful, Descriptor, IsUnmentioned}
use Rattle.histories.proofs.Lemmas.{finished_taken, named_scx_taken, unmentioned_unnamed}
use Rattle.help.specs.Allowed.{IsLater, IsAllowed}
use Rattle.prims.specs.Cells.{AllowsAll}
use Rattle.prims.specs.Vlx.Known.{AllLinked}
use Rattle.prims.specs.Scx.Known.{Job, job_of, IsUpdateOver, Says, InHand}
use Rattle.prims.specs.Put.Known.{PutHand}
use Rattle.prims.specs.declared.scx.ScxRun.{ScxRun}
use Rattle.prims.specs.declared.scx.ScxAt.TheVariants.{Start}

-- an update over usable snapshots, the next SCX-record of the pass's share, and a fresh node that
-- nothing mentions: the update may begin where the layer above has promised to allow it
pub scx_begin : (allows : Layout → History → ℕ → Type 0) (lay : Layout) (c : ℕ) (h : History) (m : Job) → Lawful lay h → IsUpdateOver m.update → AllLinked lay h m.update.snaps
    → IsOwnScx lay c m.scx.0 → ((t : ℕ) → IsOwnScx lay c t → t < m.scx.0 → IsTakenScx h t) → ¬ IsTakenScx h m.scx.0
    → IsOwnNode lay c m.update.fresh.0 → IsUnmentioned h m.update.fresh.0
    → ((d : Descriptor) → Says d m → IsAllowed allows lay c h m.scx.0 d)
    → InHand allows lay c h m
scx_begin allows lay c h m l over linked own_scx scx_in_order free own_node u promised = record {
  update = over;
  linked = linked;
  is_open = record { own = own_scx; in_order = scx_in_order; unnamed = λ p. free (named_scx_taken lay h m.scx.0 l real p) };
  unfinished = unfinished (ℕ_discrete (value h (state m.scx.0)) 0);
  fresh = own_node;
  unnamed = unmentioned_unnamed lay h c m.update.fresh.0 own_node u;
  in_no_field = u.in_no_field;
  in_no_other = λ t d p. u.in_no_scx t New tt p;
  allowed = promised;
}
  where
    real : m.scx.0 ≢ 0
    real e = let i = own_scx.from in omega arith

    unfinished : Dec (value h (state m.scx.0) ≡ 0) → value h (state m.scx.0) ≡ 0
    unfinished (yes e) = e
    unfinished (no d) = absurd (free (finished_taken lay h m.scx.0 l real d))

-- with a fresh cell: the next node of the share; what it promises is for the time after the fill
-- of the cell
pub put_begin : (allows : Layout → History → ℕ → Type 0) (lay : Layout) (c : ℕ) (h : History) (m : ScxRun) → Lawful lay h → IsUpdateOver m.update → AllLinked lay h m.update.snaps → m.at ≡ Start
    → IsOwnScx lay c m.scx.0 → ((t : ℕ) → IsOwnScx lay c t → t < m.scx.0 → IsTakenScx h t) → ¬ IsTakenScx h m.scx.0
    → IsOwnNode lay c m.update.fresh.0 → ((n : ℕ) → IsOwnNode lay c n → n < m.update.fresh.0 → IsTakenNode h n) → IsUnmentioned h m.update.fresh.0
    → ((k : History) (r : Row) (d : Descriptor) → IsLater c m.scx.0 h k → IsFillOfNode m.update.fresh.0 r → Says d (job_of m) → IsAllowed allows lay c (r ⊳ k) m.scx.0 d)
    → PutHand allows lay c h m
put_begin allows lay c h m l over linked start own_scx scx_in_order free own_node node_in_order u promised = record {
  hand = scx_begin AllowsAll lay c h (job_of m) l over linked own_scx scx_in_order free own_node u (λ d y k later run e b w. tt);
  start = start;
  in_order = node_in_order;
  allowed = promised;
}
