use Rattle.std.proofs.Common.{◌∙◌, ap, subst, sym}
use Rattle.dict.specs.Calls.{is_in_trie}
use Rattle.template.specs.Balance.{leaf_way, map_mode}
use Rattle.template.specs.FoundLeaf.{FoundBy}
use Rattle.template.proofs.Lemmas.{walk_ready_run}
use Rattle.edits.specs.Laws.Update.{update_spends}
use Rattle.dict.specs.Known.{MapIsReady}
use Rattle.dict.specs.declared.run.MapRun.TheVariants.{Edit, Get, Neighbour, Range}
use Rattle.dict.specs.Inner.{edit_means, range_kind, neighbour_kind}
use Rattle.dict.specs.Laws.Kinds.{range_is, neighbour_is}
use Rattle.dict.proofs.Ends.{edit_goes, edit_ends, get_ends, read_ends, stands_once, tried_once}
use Rattle.dict.proofs.run.MapRun.next.Goals as goal

pub returns-in-Done-clause-turn : goal.returns-in-Done-clause-turn
returns-in-Done-clause-turn g c tries d h run ready =
    let r : MapIsReady tries (Edit c.in-Edit.run') d h c.args.got = rw c.in-Edit.is at ready in
    let same = c.step.ensures.same in
    (_, edit_ends tries d h c.in-Edit.run' c.step.new.self c.in-Done.updated run r.0 same.0 same.1 same.2 same.3 (c.in-Done.ensures.spends (update_spends edit_means c.in-Edit.run' d h c.args.got r.1)) (c.in-Done.ensures.turn d h run r.1), c.of_edit.ensures)

pub returns-in-Done-next-clause-turn : goal.returns-in-Done-next-clause-turn
returns-in-Done-next-clause-turn g c tries d h run ready =
    let r : MapIsReady tries (Get c.in-Get.key c.in-Get.walk c.in-Get.share) d h c.args.got = rw c.in-Get.is at ready in
    let w = r.1.0 in
    (_, get_ends tries d h c.in-Get.key c.next.new.self c.in-Get.share c.in-Done-next.found (rw w.1.0 at (walk_ready_run c.in-Get.walk d h c.args.got w.0).1) r.1.1 r.0.spent (subst (λ goal. FoundBy c.next.new.self.way goal d h c.in-Done-next.found) (c.next.ensures.same.0 ∙ w.1.0) (c.in-Done-next.ensures.turn d h run w.0)) (tried_once c.args.got _ _ w.2), c.of_value.ensures)

pub returns-in-Ask-next-clause-turn : goal.returns-in-Ask-next-clause-turn
returns-in-Ask-next-clause-turn g c tries d h run ready =
    let r : MapIsReady tries (Get c.in-Get.key c.in-Get.walk c.in-Get.share) d h c.args.got = rw c.in-Get.is at ready in
    let w = r.1.0 in
    (record { mode = r.0.mode ∙ ap (λ way. map_mode (is_in_trie way)) (sym c.next.ensures.same.1); small = tt; number = tt; limit = tt; spent = r.0.spent }, ((c.in-Ask-next.ensures.turn d h run w.0, (c.next.ensures.same.0 ∙ w.1.0, c.next.ensures.same.1 ∙ w.1.1 ∙ ap (λ way. leaf_way (is_in_trie way)) (sym c.next.ensures.same.1)), stands_once d h c.in-Get.walk c.next.new.self c.args.got _ _ run w.0 w.2 c.next.ensures.same.1 (λ nodes fits. c.in-Ask-next.ensures.nearer nodes fits)), r.1.1))

pub returns-in-Done-step-clause-turn : goal.returns-in-Done-step-clause-turn
returns-in-Done-step-clause-turn g c tries d h run ready =
    let r : MapIsReady tries (Neighbour c.in-Neighbour.run' c.in-Neighbour.share) d h c.args.got = rw c.in-Neighbour.is at ready in
    (_, read_ends tries d h neighbour_kind neighbour_is c.step-in-Neighbour.new.self c.in-Neighbour.share c.in-Done-step.told r.1.1 r.0.spent (c.step-in-Neighbour.ensures.same.1 ∙ r.0.limit) (c.in-Done-step.ensures.turn d h r.1.0), c.of_neighbour.ensures)

pub returns-in-Done-step-2-clause-turn : goal.returns-in-Done-step-2-clause-turn
returns-in-Done-step-2-clause-turn g c tries d h run ready =
    let r : MapIsReady tries (Range c.in-Range.run' c.in-Range.share) d h c.args.got = rw c.in-Range.is at ready in
    (_, read_ends tries d h range_kind range_is c.step-in-Range.new.self c.in-Range.share c.in-Done-step-2.told r.1.1 r.0.spent (c.step-in-Range.ensures.same.1 ∙ r.0.limit) (c.in-Done-step-2.ensures.turn d h r.1.0), c.of_range.ensures)

pub returns-in-Ask-clause-turn : goal.returns-in-Ask-clause-turn
returns-in-Ask-clause-turn g c tries d h run ready =
    let r : MapIsReady tries (Edit c.in-Edit.run') d h c.args.got = rw c.in-Edit.is at ready in
    let same = c.step.ensures.same in
    (edit_goes tries d c.in-Edit.run' c.step.new.self r.0 same.0 same.1 same.2 same.3 (c.in-Ask.ensures.spends (update_spends edit_means c.in-Edit.run' d h c.args.got r.1)), c.in-Ask.ensures.turn d h run r.1)

pub returns-in-Ask-step-clause-turn : goal.returns-in-Ask-step-clause-turn
returns-in-Ask-step-clause-turn g c tries d h run ready =
    let r : MapIsReady tries (Neighbour c.in-Neighbour.run' c.in-Neighbour.share) d h c.args.got = rw c.in-Neighbour.is at ready in
    (record { mode = r.0.mode ∙ ap map_mode (sym c.step-in-Neighbour.ensures.same.4); small = tt; number = tt; limit = c.step-in-Neighbour.ensures.same.1 ∙ r.0.limit; spent = r.0.spent }, (c.in-Ask-step.ensures.turn d h r.1.0, r.1.1))

pub returns-in-Ask-step-2-clause-turn : goal.returns-in-Ask-step-2-clause-turn
returns-in-Ask-step-2-clause-turn g c tries d h run ready =
    let r : MapIsReady tries (Range c.in-Range.run' c.in-Range.share) d h c.args.got = rw c.in-Range.is at ready in
    (record { mode = r.0.mode ∙ ap map_mode (sym c.step-in-Range.ensures.same.4); small = tt; number = tt; limit = c.step-in-Range.ensures.same.1 ∙ r.0.limit; spent = r.0.spent }, (c.in-Ask-step-2.ensures.turn d h r.1.0, r.1.1))
