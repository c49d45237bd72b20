-- How far a form came, of which its job and its trace are known.
use Rattle.std.specs.Prelude.{◌≡◌}
use Rattle.repl_asks.specs.Exchange.{AskData, AnswerData}
use Rattle.repl_asks.specs.Inside.View.{ask_view}
use Rattle.repl_asks.specs.InteractionTree.{InteractionTree, finished, asks}
use Rattle.repl_asks.specs.Job.{EndingData}
use Rattle.repl_walker.specs.Ends.{ending_view}
use Rattle.repl_walker.specs.Led.{LedTo}
use Rattle.server_rules.specs.Request.{Run}
use Rattle.server_rules.specs.declared.actor.Actor.{Actor}
use Rattle.journal_book.specs.Forms.{form_of}
use Rattle.knowing_book.specs.View.{question_run}
use Rattle.knowing_book.specs.declared.forms.Stage.{Stage}

-- what the form's evaluation asks behind its trace is this
abbrev pub AsksNext : Run → AskData → Type 0
AsksNext form ask =
    (behind : AnswerData → InteractionTree) × LedTo form.job form.trace (asks ask behind)

-- the ending is the form's, whose evaluation ends so behind its trace
abbrev pub EndsItself : Run → EndingData → Type 0
EndsItself form e = (form_of e ≡ form) × LedTo form.job form.trace (finished e.end)

-- the form of an actor came to its next ask or to its end
abbrev pub IsReached : {N : Type 0} → Actor → Run → Stage N → Type 0
IsReached a form (Stage.Asks q) =
    (q.actor ≡ a) × (question_run q ≡ form) × AsksNext form (ask_view q.ask)
IsReached a form (Stage.Ends f) = (f.actor ≡ a) × EndsItself form (ending_view f.ending)
