use Rattle.std.proofs.Common.{rules, sym}
use Rattle.script.specs.Grammars.{IsScriptFault, SayScript}
use Rattle.texts.proofs.Lemmas.{settled_bad, settled_ok}
use Rattle.script.proofs.script.read_script.Goals as goal

pub returns-clause-says : goal.returns-clause-says
returns-clause-says g c bytes told =
    settled_ok (λ s. SayScript c.args.mode bytes s.limits s.layout s.calls.items) c.script_of-script.result c.by_failure_count.result (search rules) (c.script_of-script.ensures.says bytes told)

pub returns-clause-fault : goal.returns-clause-fault
returns-clause-fault g c bytes told =
    settled_bad (IsScriptFault c.args.mode bytes) c.script_of-script.result c.by_failure_count.result c.by_failure_count.ensures.bad (c.script_of-script.ensures.fault bytes told)

pub returns-clause-ok : goal.returns-clause-ok
returns-clause-ok g c = search rules

pub returns-clause-failed : goal.returns-clause-failed
returns-clause-failed g c = λ risen. c.by_failure_count.ensures.failed (λ same. risen (sym same))
