use Rattle.std.proofs.Common.{refl, sym}
use Rattle.repl_asks.specs.Inside.View.{ask_view, answer_view}
use Rattle.repl_walker.specs.Waits.{walk_behind}
use Rattle.repl_walker.proofs.Leading.{led-nowhere, led-answered, recorded-nothing}
use Rattle.repl_walker.proofs.Leading.{recorded-answered}
use Rattle.repl_walker.proofs.run.one_further.Goals as goal

pub returns-in-Ok-clause-meaning : goal.returns-in-Ok-clause-meaning
returns-in-Ok-clause-meaning g c =
    let w = c.args.walk in (
      c.in-Ok.ensures.job,
      recorded-answered _ _ _ _ _ _ _ _ (ask_view w.ask) (answer_view c.in_ok-answer.answer) (walk_behind w) (recorded-nothing _ _ _)
          c.in_ok-answer.ensures.grows c.in-Ok.ensures.trace (sym c.in-Ok.ensures.meaning),
    )

pub returns-in-Err-clause-left_at : goal.returns-in-Err-clause-left_at
returns-in-Err-clause-left_at g c =
    let w = c.args.walk in
    let answer = answer_view c.in_ok-answer.answer in
    (walk_behind w answer, led-answered _ _ _ _ _ (ask_view w.ask) answer (walk_behind w) (led-nowhere _ _) c.in_ok-answer.ensures.grows refl)
