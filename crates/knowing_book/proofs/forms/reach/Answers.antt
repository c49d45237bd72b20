use Rattle.std.proofs.Common.{◌≡◌, ◌∙◌, ap, refl, sym, subst}
use Rattle.repl_asks.specs.Exchange.{AskData}
use Rattle.repl_asks.specs.Inside.Jobs.{job_view}
use Rattle.repl_asks.specs.Inside.View.{ask_view, trace_view}
use Rattle.repl_asks.specs.InteractionTree.{asks}
use Rattle.repl_walker.specs.Led.{LedTo}
use Rattle.repl_walker.specs.Waits.{walk_behind, progress_job, progress_trace}
use Rattle.repl_walker.specs.declared.waiting.Progress.{Progress}
use Rattle.knowing_book.specs.View.{run_of}
use Rattle.knowing_book.proofs.forms.reach.Goals as goal

-- the ask is a copy of what the walk asks, to which its trace led its job
pub returns-in_ok-ask-in-Asks : goal.returns-in_ok-ask-in-Asks
returns-in_ok-ask-in-Asks g c =
    let walk = c.in-Asks.walk in
    let behind = walk_behind walk in
    let ask = ask_view c.in_ok-ask-in-Asks.ask.value in
    let copied : ask ≡ ask_view walk.ask = ap ask_view c.in_ok-ask-in-Asks.ensures.ok
    ∙ c.in_ok-copy-in-Asks.ensures ∙ ap ask_view c.ask.ensures in
    let led : LedTo (job_view walk.job) (trace_view walk.trace.items) (asks ask behind) =
    subst (λ (a : AskData). LedTo (job_view walk.job) (trace_view walk.trace.items) (asks a behind))
    (sym copied) c.comes_from_its_job.ensures in (
      refl,
      ap run_of (sym c.in-Asks.is),
      (
        behind,
        subst (λ (p : Progress). LedTo (progress_job p) (progress_trace p) (asks ask behind))
            (sym c.in-Asks.is) led,
      ),
    )
