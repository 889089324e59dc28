use Rattle.std.proofs.Common.{All, [], inl, inr, refl, Err, ap, reverse, subst, sym, true≢false, ◌∙◌}
use Rattle.script.specs.Orders.{IsOrder}
use Rattle.script.specs.declared.script.Script.{Script}
use Rattle.player.specs.Player.{PlayerView, ScriptView, script_view}
use Rattle.player.proofs.Lemmas.{run_of, stands_played}
use Rattle.report.proofs.Lemmas.{on_err}
use Rattle.program.specs.Printed.{IsDeserved}
use Rattle.program.specs.Status.{fault_of_schedule}
use Rattle.program.proofs.Deserved.{schedule_deserves, stream_failed, told}
use Rattle.program.proofs.Beginnings.{all_followed, none_followed, report_begins, stopped_begins}
use Rattle.program.proofs.play.play.Goals as goal

-- a script with no turn made
abbrev at_first : Script → PlayerView
at_first script = record { script = script_view script; lines = [] }

pub returns-in_err-schedule-clause-deserved : goal.returns-in_err-schedule-clause-deserved
returns-in_err-schedule-clause-deserved g c said ordered script_tells schedule_tells =
    let script = c.in_ok-script.script in
    let says = c.in_ok-script.ensures.says said script_tells in
    told _ (fault_of_schedule c.in_err-schedule.field-0.0) (IsDeserved c.args.mode said ordered) c.from_residual-in_err-schedule.ensures.1
    (schedule_deserves c.args.mode said ordered script.limits script.layout script.calls.items c.in_err-schedule.field-0.0 says (c.in_err-schedule.ensures.fault ordered schedule_tells))

pub follow-requires : goal.follow-requires
follow-requires g c = rw c.as_slice.ensures.value (subst (λ (s : ScriptView). All (IsOrder s.layout.passes) c.in_ok-schedule.schedule.orders.items) (sym c.in_ok-stream.ensures.begun.stands.script) c.in_ok-schedule.ensures.orders)

pub returns-clause-printed : goal.returns-clause-printed
returns-clause-printed g c said ordered script_tells schedule_tells =
    let went = rw c.as_slice.ensures.value at (c.in_ok-follow.ensures.followed c.args.out.now (at_first c.in_ok-script.script) (c.in_ok-stream.ensures.begun, c.in_ok-stream.ensures.failures.ok)) in
    record {
      script = c.in_ok-script.script;
      schedule = c.in_ok-schedule.schedule;
      lines = reverse went.later.lines;
      says = c.in_ok-script.ensures.says said script_tells;
      orders = c.in_ok-schedule.ensures.says ordered schedule_tells;
      run = run_of c.in_ok-script.script c.in_ok-schedule.schedule _ went (stands_played _ went.later went.stands.0.stands);
      text = c.in_ok-end.ensures.all _ went.later c.in_ok-script.script went.stands.0 (sym went.script);
    }

pub returns-in_err-follow-clause-failed : goal.returns-in_err-follow-clause-failed
returns-in_err-follow-clause-failed g c = λ script schedule out.
    let so_far = (c.in_err-follow.ensures.stopped c.args.out.now (at_first c.in_ok-script.script) (c.in_ok-stream.ensures.begun, c.in_ok-stream.ensures.failures.ok)).stands in
    stream_failed c.from_residual-in_err-follow.result c.in_err-follow.field-0.0 _ _ _ _ _ _ _ c.from_residual-in_err-follow.ensures.1
    so_far.not_ended c.in_ok-script.ensures.ok c.in_ok-schedule.ensures.ok refl so_far.no_memory so_far.write out

pub returns-in_err-end-clause-failed : goal.returns-in_err-end-clause-failed
returns-in_err-end-clause-failed g c = λ script schedule out.
    let went = c.in_ok-follow.ensures.followed c.args.out.now (at_first c.in_ok-script.script) (c.in_ok-stream.ensures.begun, c.in_ok-stream.ensures.failures.ok) in
    stream_failed c.from_residual-in_err-end.result c.in_err-end.field-0.0 _ _ _ _ _ _ _ c.from_residual-in_err-end.ensures.1
    (λ e. true≢false (sym (c.in_err-end.ensures.why (ap (λ f. Err f) e)) ∙ went.stands.0.goes_on))
    c.in_ok-script.ensures.ok c.in_ok-schedule.ensures.ok went.stands.1 (λ e. c.in_err-end.ensures.failures.no_memory (ap (λ f. Err f) e)) (λ e. c.in_err-end.ensures.failures.write (ap (λ f. Err f) e)) out

pub returns-in_err-script-clause-beginning : goal.returns-in_err-script-clause-beginning
returns-in_err-script-clause-beginning g c said ordered script_tells schedule_tells = on_err c.from_residual.result (inl refl)

pub returns-in_err-schedule-clause-beginning : goal.returns-in_err-schedule-clause-beginning
returns-in_err-schedule-clause-beginning g c said ordered script_tells schedule_tells = on_err c.from_residual-in_err-schedule.result (inl refl)

pub returns-in_err-stream-clause-beginning : goal.returns-in_err-stream-clause-beginning
returns-in_err-stream-clause-beginning g c said ordered script_tells schedule_tells =
    let script = c.in_ok-script.script in
    on_err c.from_residual-in_err-stream.result
    (inr record {
      script = script;
      schedule = c.in_ok-schedule.schedule;
      so_far = at_first script;
      says = c.in_ok-script.ensures.says said script_tells;
      orders = c.in_ok-schedule.ensures.says ordered schedule_tells;
      script_is = refl;
      turns = none_followed script.calls.items c.in_ok-schedule.schedule.orders.items;
      played = inl refl;
      text = inl (report_begins _ _ script (at_first script) refl c.in_err-stream.ensures.beginning);
    })

pub returns-in_err-follow-clause-beginning : goal.returns-in_err-follow-clause-beginning
returns-in_err-follow-clause-beginning g c said ordered script_tells schedule_tells =
    let script = c.in_ok-script.script in
    let so_far = rw c.as_slice.ensures.value at (c.in_err-follow.ensures.stopped c.args.out.now (at_first c.in_ok-script.script) (c.in_ok-stream.ensures.begun, c.in_ok-stream.ensures.failures.ok)) in
    on_err c.from_residual-in_err-follow.result
    (inr record {
      script = script;
      schedule = c.in_ok-schedule.schedule;
      so_far = so_far.later;
      says = c.in_ok-script.ensures.says said script_tells;
      orders = c.in_ok-schedule.ensures.says ordered schedule_tells;
      script_is = so_far.script;
      turns = so_far.asked;
      played = inr so_far.stands.played;
      text = stopped_begins _ _ _ script so_far.later so_far.script so_far.stands.text;
    })

pub returns-in_err-end-clause-beginning : goal.returns-in_err-end-clause-beginning
returns-in_err-end-clause-beginning g c said ordered script_tells schedule_tells =
    let script = c.in_ok-script.script in
    let schedule = c.in_ok-schedule.schedule in
    let went = rw c.as_slice.ensures.value at (c.in_ok-follow.ensures.followed c.args.out.now (at_first c.in_ok-script.script) (c.in_ok-stream.ensures.begun, c.in_ok-stream.ensures.failures.ok)) in
    on_err c.from_residual-in_err-end.result
    (inr record {
      script = script;
      schedule = schedule;
      so_far = went.later;
      says = c.in_ok-script.ensures.says said script_tells;
      orders = c.in_ok-schedule.ensures.says ordered schedule_tells;
      script_is = went.script;
      turns = all_followed script.calls.items schedule.orders.items [] went.later.lines went.asked;
      played = inr (stands_played _ went.later went.stands.0.stands);
      text = inl (c.in_err-end.ensures.beginning _ went.later script went.stands.0 (sym went.script));
    })

pub returns-clause-well : goal.returns-clause-well
returns-clause-well g c =
    let went = c.in_ok-follow.ensures.followed c.args.out.now (at_first c.in_ok-script.script) (c.in_ok-stream.ensures.begun, c.in_ok-stream.ensures.failures.ok) in
    (c.in_ok-script.ensures.ok, c.in_ok-schedule.ensures.ok, c.in_ok-end.ensures.failures.ok ∙ went.stands.1)
