-- How an ordered read begins.
use Rattle.std.proofs.Common.{◌≡◌, suc, [], subst, None}
use Rattle.histories.specs.Common.{History, Call, begun_at}
use Rattle.template.specs.Balance.{map_mode}
use Rattle.template.specs.Common.{AreFinished, IsMapRun}
use Rattle.prims.specs.Laws.Idle.{idle_if_finished}
use Rattle.order.specs.Known.{ReadIsReady}
use Rattle.order.specs.Laws.Kept.{reads_anew}
use Rattle.order.specs.Meaning.{ReadMeaning}
use Rattle.order.specs.Reads.{Reads}
use Rattle.order.specs.declared.run.ReadAt.TheVariants.{Start}
use Rattle.order.specs.declared.run.ReadRun.{ReadRun}
use Rattle.order.proofs.Blaming.{begins_first}

-- a read that has not begun may be called, where all that its pass has taken is finished
pub read_ready_first : {R A : Type 0} (means : ReadMeaning R A) (m : ReadRun R) (c : Call) (h : History) → IsMapRun c.layout h → c.layout.mode ≡ map_mode m.trie → h ≡ c.start → means.suits (means.call m.read) → AreFinished c.layout c.pass 0 h → m.at ≡ Start → m.snaps.items ≡ [] → m.limit ≡ suc m.tries → ReadIsReady means m c h None
read_ready_first means m c h run mode e suits over at items all = (
  record { reads = subst (λ k. Reads (begun_at c k) h m.snaps.items) e (reads_anew c h m.snaps.items items run over); suits = suits; mode = mode },
  at,
  begins_first c h m.limit m.tries e (idle_if_finished c h run.1.lawful over) all,
)
