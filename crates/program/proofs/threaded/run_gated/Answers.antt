use Rattle.template.specs.Balance.{map_mode}
use Rattle.program.specs.Status.{fault_of_script}
use Rattle.program.specs.Threaded.{IsDeservedWithThreads}
use Rattle.program.proofs.Deserved.{script_deserves, so_then, told}
use Rattle.program.proofs.threaded.run_gated.Goals as goal

pub returns-in-Open-clause-printed : goal.returns-in-Open-clause-printed
returns-in-Open-clause-printed g c said tells =
    so_then c.run_at.result (λ run. record { script = c.in_ok-script.script; says = rw c.mode_of.ensures.mode at c.in_ok-script.ensures.says said tells; run = run }) c.run_at.ensures.printed

pub returns-in-Alternate-clause-printed : goal.returns-in-Alternate-clause-printed
returns-in-Alternate-clause-printed g c said tells =
    so_then c.run_at-in-Alternate.result (λ run. record { script = c.in_ok-script.script; says = rw c.mode_of.ensures.mode at c.in_ok-script.ensures.says said tells; run = run }) c.run_at-in-Alternate.ensures.printed

pub returns-in-Hold-clause-printed : goal.returns-in-Hold-clause-printed
returns-in-Hold-clause-printed g c said tells =
    so_then c.run_at-in-Hold.result (λ run. record { script = c.in_ok-script.script; says = rw c.mode_of.ensures.mode at c.in_ok-script.ensures.says said tells; run = run }) c.run_at-in-Hold.ensures.printed

pub returns-clause-printed : goal.returns-clause-printed
returns-clause-printed g c said tells =
    so_then c.run_at-in-Freeze.result (λ run. record { script = c.in_ok-script.script; says = rw c.mode_of.ensures.mode at c.in_ok-script.ensures.says said tells; run = run }) c.run_at-in-Freeze.ensures.printed

pub returns-in_err-script-clause-deserved : goal.returns-in_err-script-clause-deserved
returns-in_err-script-clause-deserved g c said tells =
    told _ (fault_of_script c.in_err-script.field-0.0) (IsDeservedWithThreads (map_mode c.args.trie) c.args.gate.now said) c.from_residual.ensures.1
    (script_deserves c.mode_of.result (map_mode c.args.trie) c.args.gate.now said c.in_err-script.field-0.0 c.mode_of.ensures.mode (c.in_err-script.ensures.fault said tells))
