use Rattle.std.proofs.Common.{◌∙◌, sym, subst}
use Rattle.record.specs.Common.{MapCall, map_request}
use Rattle.tables.specs.Passes.{IsOf, PassView}
use Rattle.runner.specs.Calls.{HasCalledNumbers}
use Rattle.runner.proofs.client.make_call.Goals as goal

pub returns : goal.returns
returns g c =
    let f = c.args.forest.now in
    let same = c.make_steps.ensures.same in
    let opened = c.open-call.ensures in
    let began = same.began ∙ opened.began in
    subst (λ (p : PassView). HasCalledNumbers f p c.finish-ended.result.0 (map_request c.args.request) c.finish-ended.result.1) began
    (subst (λ (k : MapCall). HasCalledNumbers f c.make_steps.new.call.began c.finish-ended.result.0 k c.finish-ended.result.1) (same.call ∙ opened.call)
    (_, c.finish-ended.ensures.called f (subst (IsOf f) (sym began) c.requires.pass) (same.tries ∙ opened.tries)))
