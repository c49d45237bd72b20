-- Why an evaluation did not end, and where it was left.
use Rattle.std.specs.Prelude.{◌≡◌, true, false, List}
use Rattle.repl_asks.specs.Exchange.{AnswerData, Exchanged, Heard}
use Rattle.repl_asks.specs.Inside.View.{ask_view}
use Rattle.repl_asks.specs.InteractionTree.{InteractionTree, asks}
use Rattle.repl_walker.specs.Led.{Led}
use Rattle.repl_walker.specs.declared.run.WalkError.{WalkError}

-- an ask without an answer leaves who was asked stopped, and want of memory for the walk does not
abbrev pub IsStoppedBy : WalkError → Heard → Type 0
IsStoppedBy WalkError.NoMemory heard = heard.stopped ≡ false
IsStoppedBy (WalkError.Stopped ask) heard = heard.stopped ≡ true

-- an evaluation was left at an ask that has no answer, or somewhere on its way for want of memory
abbrev pub LeftAt : InteractionTree → List Exchanged → List Exchanged → WalkError → Type 0
LeftAt start old new WalkError.NoMemory = (rest : InteractionTree) × Led start old new rest
LeftAt start old new (WalkError.Stopped ask) = (behind : AnswerData → InteractionTree)
    × Led start old new (asks (ask_view ask) behind)
