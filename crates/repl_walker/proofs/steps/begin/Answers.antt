use Rattle.std.proofs.Common.{◌≡◌, refl, sym, ap, subst, ◌∙◌, None, arith}
use Rattle.repl_asks.specs.Inside.View.{ask_view}
use Rattle.repl_asks.specs.Inside.Jobs.{job_view}
use Rattle.repl_asks.specs.InteractionTree.{InteractionTree, asks}
use Rattle.evaluation_rules.specs.Evaluation.{evaluation}
use Rattle.evaluation_rules.specs.declared.limits.TheConstants.{CALLS}
use Rattle.walker_state.specs.Pending.{tree, tree_with_answer}
use Rattle.walker_state.specs.Position.{TransactionPosition, control_position, wanted_position, IsOn}
use Rattle.walker_state.specs.declared.frames.State.{State}
use Rattle.repl_walker.specs.Steps.{stop_tree, IsOnStop}
use Rattle.repl_walker.specs.declared.steps.AskOrEnd.{AskOrEnd}
use Rattle.repl_walker.proofs.Beginning.{begun-work, begun-calls}
use Rattle.repl_walker.proofs.steps.begin.Goals as goal

pub returns-in-Ends-clause-meaning : goal.returns-in-Ends-clause-meaning
returns-in-Ends-clause-meaning c =
    let control = c.in_ok-control.control in
    let s : State = record {
      frames = c.new.result;
      place = record { locals = c.none.result; home = None };
      calls = CALLS;
      namespace = c.in_ok-copy_text.field-0;
      text = c.new-2.result;
      setting = record { retries = c.args.job.now.retries; occasion = c.of.result };
      transaction = None;
    } in
    let now = c.begin_work.new.state in
    let start : tree control now ≡ evaluation (job_view c.args.job.now) =
    begun-work s now c.args.job.now control c.new.ensures.items c.none.ensures c.new-2.ensures.bytes
    c.in_ok-copy_text.ensures c.of.ensures (refl, refl, refl, refl) c.in_ok-control.ensures.meaning in
    let P : AskOrEnd → Type 0 = λ stop. stop_tree stop c.go_on.new.state ≡ tree control now in
    let ended : P (AskOrEnd.Ends c.in-Ends.end) = subst P c.in-Ends.is c.in_ok-end.ensures.meaning in
    c.end_reached.ensures.meaning ∙ ended ∙ start

pub returns-in_ok-state-in-Asks-clause-meaning : goal.returns-in_ok-state-in-Asks-clause-meaning
returns-in_ok-state-in-Asks-clause-meaning c =
    let control = c.in_ok-control.control in
    let s : State = record {
      frames = c.new.result;
      place = record { locals = c.none.result; home = None };
      calls = CALLS;
      namespace = c.in_ok-copy_text.field-0;
      text = c.new-2.result;
      setting = record { retries = c.args.job.now.retries; occasion = c.of.result };
      transaction = None;
    } in
    let now = c.begin_work.new.state in
    let start : tree control now ≡ evaluation (job_view c.args.job.now) =
    begun-work s now c.args.job.now control c.new.ensures.items c.none.ensures c.new-2.ensures.bytes
    c.in_ok-copy_text.ensures c.of.ensures (refl, refl, refl, refl) c.in_ok-control.ensures.meaning in
    let P : AskOrEnd → Type 0 = λ stop. stop_tree stop c.go_on.new.state ≡ tree control now in
    let asked : P (AskOrEnd.Asks c.in-Asks.ask c.in-Asks.wanted) = subst P c.in-Asks.is c.in_ok-end.ensures.meaning in
    let behind : State → InteractionTree =
    λ now. asks (ask_view c.in-Asks.ask) (λ answer. tree_with_answer c.in-Asks.wanted answer now) in
    ap behind c.in_ok-state-in-Asks.ensures.ok ∙ asked ∙ start

pub returns-in_ok-state-in-Asks-clause-calls : goal.returns-in_ok-state-in-Asks-clause-calls
returns-in_ok-state-in-Asks-clause-calls c =
    let control = c.in_ok-control.control in
    let old = control_position control c.begin_work.new.state in
    let P : AskOrEnd → Type 0 = λ stop. IsOnStop stop c.go_on.new.state old in
    let on : P (AskOrEnd.Asks c.in-Asks.ask c.in-Asks.wanted) = subst P c.in-Asks.is c.in_ok-end.ensures.on in
    let Q : State → Type 0 = λ now. IsOn (wanted_position c.in-Asks.wanted now) old in
    let begun = begun-calls (wanted_position c.in-Asks.wanted c.in_ok-state-in-Asks.state.value) old
    (ap (λ (t : TransactionPosition). t.runs) c.in_ok-control.ensures.around)
    (subst Q (sym c.in_ok-state-in-Asks.ensures.ok) on) in
    omega (arith, begun, c.in_ok-control.ensures.calls)
