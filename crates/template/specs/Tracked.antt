-- Which edit the SCX-record of an SCX makes: as promised before it begins, and for ever once it has
-- begun.
use Rattle.std.specs.Prelude.{◌≡◌, ℕ}
use Rattle.histories.specs.Common.{Layout, state, History, value, IsNamedScx, Descriptor}
use Rattle.prims.specs.Scx.Known.{Job, Says}
use Rattle.ordered_map.specs.OrderedMap.{MapEdit}
use Rattle.ordered_map.specs.Runs.{Makes}
use Rattle.template.specs.Promises.{IsPromised}

-- The SCX-record of this job, of the pass c, makes the edit e or none: it has not begun, and with
-- the words that the job asks for it makes this edit; or it has begun with it; or it is aborted.
pub data Tracks (lay : Layout) (c : ℕ) (h : History) (m : Job) (e : MapEdit) : Type 0 where
  waits : ((d : Descriptor) → Says d m → IsPromised lay c h m.scx.0 d e) → ¬ IsNamedScx h m.scx.0 → Tracks lay c h m e
  begun : Makes lay h m.scx.0 e → Tracks lay c h m e
  over : value h (state m.scx.0) ≡ 2 → Tracks lay c h m e
