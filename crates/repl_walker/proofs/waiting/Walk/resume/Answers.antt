use Rattle.repl_asks.specs.Inside.View.{ask_view, answer_view, trace_view}
use Rattle.repl_asks.specs.Inside.Jobs.{job_view}
use Rattle.repl_walker.specs.Steps.{tree_behind}
use Rattle.repl_walker.proofs.Leading.{led-to-answered}
use Rattle.repl_walker.proofs.waiting.Walk.resume.Goals as goal

pub progress-requires : goal.progress-requires
progress-requires c =
    let w = c.args.self in
    led-to-answered (job_view w.job) (trace_view w.trace.items) (trace_view c.in_ok-trace.trace.items) (ask_view w.ask) (answer_view c.args.answer)
    (tree_behind w.waiting) _ w.led c.in_ok-trace.ensures c.in_ok-reached.ensures.meaning
