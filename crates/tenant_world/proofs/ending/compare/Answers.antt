use Rattle.std.proofs.Common.{List, subst, Box}
use Rattle.std.specs.Global.{Global}
use Rattle.repl_asks.specs.Inside.View.{trace_view}
use Rattle.repl_asks.specs.declared.exchange.Exchange.{Exchange}
use Rattle.tenant_parts.specs.View.{kept_trace, run_view}
use Rattle.trace_comparison.specs.Difference.{DiffersFirstAt}
use Rattle.tenant_world.specs.Answers.{told_ending}
use Rattle.tenant_world.proofs.Ends.{differs-so}
use Rattle.tenant_world.proofs.ending.compare.Goals as goal

pub returns-in-Some-clause-told : goal.returns-in-Some-clause-told
returns-in-Some-clause-told c = λ g right.
    let place = c.in-Some.place in
    let Q : List (Box Exchange Global) → Type 0 = λ ys.
    DiffersFirstAt place (trace_view c.args.ending.now.trace.now) (kept_trace ys) in
    differs-so g right (run_view c.args.run.now) (told_ending c.args.ending.now) place
    (c.same_job.ensures.0 c.if-not-same_job.false)
    (subst Q c.deref.ensures.value c.in-Some.ensures)
    c.first_difference_is_unique.ensures c.equal_traces_differ_nowhere.ensures
