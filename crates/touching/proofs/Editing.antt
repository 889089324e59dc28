-- What an update fills or finds, if what its edit looks at was there.
use Rattle.std.proofs.Common.{◌<◌, ℕ, inl, inr, sym, ap, subst}
use Rattle.histories.specs.Common.{Step, NodeNo, SettledPart, History, Extends, Call, begun_at}
use Rattle.arena.proofs.Lemmas.{ends_trans}
use Rattle.prims.proofs.Lemmas.{taken_node_since}
use Rattle.prims.specs.Scx.Known.{job_of}
use Rattle.prims.specs.declared.llx.LlxRun.{LlxRun}
use Rattle.prims.specs.declared.scx.ScxRun.{ScxRun}
use Rattle.ordered_map.specs.TreeShape.{TreeAllows}
use Rattle.template.specs.FoundLeaf.{path_key}
use Rattle.template.specs.declared.walk.Found.{Found}
use Rattle.template.proofs.Lemmas.{found_trail}
use Rattle.edits.specs.declared.edit.Work.{Work}
use Rattle.edits.specs.declared.update.UpdateAt.{UpdateAt}
use Rattle.edits.specs.declared.update.UpdateAt.TheVariants.{Start, Walk, Guard, Look, Read, Fill, Scx}
use Rattle.edits.specs.declared.update.UpdateRun.{UpdateRun}
use Rattle.edits.specs.Edits.{EditMeaning}
use Rattle.edits.specs.Known.{Looks, Reads, Scxs, UpdateWaitsAt, UpdateWaits}
use Rattle.edits.specs.Pieces.{nth_node}
use Rattle.touching.specs.Reads.{IsLookedAt, ReadsSeen}
use Rattle.touching.specs.Touches.{own_node}
use Rattle.touching.proofs.Changing.{scx_begun}
use Rattle.touching.proofs.EditLooks.{LooksThere, snapped_there}
use Rattle.touching.proofs.Finding.{FillsOrFinds, found_so}
use Rattle.touching.proofs.Looking.{llx_in_call}
use Rattle.touching.proofs.Moments.{been_wider}
use Rattle.touching.proofs.OwnScx.{InTree, WereSnapped, scx_there}
use Rattle.touching.proofs.Present.{in_tree_kind}
use Rattle.touching.proofs.Standing.{WasThere, passed_there, two_there}
use Rattle.touching.proofs.Updating.{try_since}
use Rattle.touching.proofs.Walks.{walk_in_call}

module _ {E : Type 0} (e : EditMeaning E) (there : LooksThere e) (seen : ReadsSeen e) (m : UpdateRun E UpdateAt) (c : Call) (h : History) where
  looked_there : (f : Found) (llx : LlxRun) (b : History) → Looks e m c h f llx b → WasThere c h llx.node.0
  looked_there f llx b x = there m.edit c h f m.snaps.items llx.node x.run (subst (λ (w : Work). 0 < w.need) x.asked x.room.some) x.looked x.named

  read_there : (f : Found) (n : NodeNo) (part : SettledPart) → Reads e m c h f n part → WasThere c h n.0
  read_there f n part x = go (seen m.edit f m.snaps.items (n, x.from) x.works.enough x.is)
    where
      go : IsLookedAt f m.snaps.items n → WasThere c h n.0
      go (inl q) = subst (λ (k : NodeNo). WasThere c h k.0) (sym q) (passed_there c h (path_key (e.goal m.edit)) f.trail.node.0 x.works.run (found_trail (e.way m.edit) (e.goal m.edit) c h f x.works.looked.found).node)
      go (inr q) =
          subst (λ (k : NodeNo). WasThere c h k.0) (sym q.2)
          (snapped_there e there m.edit c h f m.snaps.items x.works.run (subst (λ (w : Work). 0 < w.need) x.works.asked x.works.need) x.works.looked q.0 q.1)

module _ {E : Type 0} (e : EditMeaning E) (there : LooksThere e) (seen : ReadsSeen e) (m : UpdateRun E UpdateAt) (c : Call) (begin h : History) (since : Extends begin c.start) where
  abbrev try : Call
  try = begun_at c begin

  in_call : (n : ℕ) → WasThere try h n → WasThere c h n
  in_call n x = been_wider h begin c.start _ since x

  snapped : (f : Found) (scx : ScxRun) (b : History) → Scxs e m try h f scx b → WereSnapped c b scx.update.snaps
  snapped f scx b x i p = let u = x.usable i p in record { moment = u.moment; within = u.within; since = ends_trans u.moment begin c.start u.since since; stood = u.stood; is = u.is }

  there_at : (at : UpdateAt) (s : Step) → UpdateWaitsAt e m try h s at → FillsOrFinds InTree c h s
  there_at Start s k = absurd k
  there_at (Walk walk) s k = inr (walk_in_call InTree in_tree_kind c begin h k.1.run walk (ends_trans h begin c.start k.1.since since) s (λ past. since) k.1)
  there_at (Guard walk head llx) s k =
      let x = k.1 in
      inr (llx_in_call InTree TreeAllows c k.0 h llx s x.run.1 (ends_trans k.0 begin c.start x.since since) k.2 (subst (WasThere c h) (sym x.is_two) (two_there c h x.run (ends_trans h begin c.start x.now since))))
  there_at (Look f llx) s k = inr (llx_in_call InTree TreeAllows c k.0 h llx s k.1.run.1 (ends_trans k.0 begin c.start k.1.since since) k.2 (in_call llx.node.0 (looked_there e there seen m try h f llx k.0 k.1)))
  there_at (Read f n part) s k = inr (rw k.1 (found_so (in_call n.0 (read_there e there seen m try h f n part k.0))))
  there_at (Fill f nth part) s k = inl (ap (λ (q : Step). q.kind) k.3, rw k.3 (own_node (k.0.full.hand.own (nth_node m.nodes nth).0 k.0.hand.lowest k.0.hand.highest) (λ t. k.0.works.untaken nth k.0.works.need (taken_node_since begin c.start (nth_node m.nodes nth).0 since t))))
  there_at (Scx f scx) s k = scx_there c k.0 h k.1.run (ends_trans k.0 begin c.start k.1.since since) (scx_begun TreeAllows c k.0 h scx s k.2) (job_of scx) (snapped f scx k.0 k.1) scx.at s k.2

pub update_there : {E : Type 0} (e : EditMeaning E) → LooksThere e → ReadsSeen e → (m : UpdateRun E UpdateAt) (c : Call) (h : History) (s : Step) → UpdateWaits e m c h s → FillsOrFinds InTree c h s
update_there e there seen m c h s w = there_at e there seen m c w.0 h (try_since e m c w.0 h m.at w.1) m.at s w.3
