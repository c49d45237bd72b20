-- What comes of a text of the shared namespace.
use Rattle.std.specs.Prelude.{◌≡◌, ⊤, ℕ, List, None, Result, Ok, Err}
use Rattle.repl_values.specs.Failure.{Failure, broken_rule}
use Rattle.repl_values.specs.declared.rule.Rule.{Rule}
use Rattle.repl_values.specs.Inside.FaultView.{failure_of}
use Rattle.repl_asks.specs.Exchange.{AskData}
use Rattle.repl_asks.specs.Job.{JobData}
use Rattle.repl_asks.specs.InteractionTree.{InteractionTree}
use Rattle.evaluation_rules.specs.Evaluation.{evaluation}
use Rattle.name_spaces.specs.Inside.Seen.{shared_bindings}
use Rattle.server_rules.specs.Readings.{Readings, AreRight}
use Rattle.server_rules.specs.Shared.{SharedData, shared_by_text, told_in_text}
use Rattle.shared_space.specs.Holding.{HoldsShared}
use Rattle.shared_space.specs.Told.{TellerData, shared_so_far}
use Rattle.shared_space.specs.declared.space.SharedSpace.{SharedSpace}
use Rattle.shared_space.specs.declared.space.LoadError.{LoadError}

-- forms are evaluated as the language says
abbrev pub EvaluatesJobs : (JobData → InteractionTree) → Type 0
EvaluatesJobs e = (job : JobData) → e job ≡ evaluation job

-- what the text came to is held
abbrev pub IsLoaded : Result SharedData Failure → SharedSpace → Type 0
IsLoaded r space = (s : SharedData) × (r ≡ Ok s)
    × HoldsShared (shared_bindings space.names) space.refs s

-- the text has this fault, or memory was refused
abbrev pub IsFaultOf : Result SharedData Failure → LoadError → Type 0
IsFaultOf r LoadError.NoMemory = ⊤
IsFaultOf r (LoadError.Fault fault) = r ≡ Err (failure_of fault)

-- the same, however the text is read and its forms are evaluated, if that is right
abbrev pub IsFaultIn : List ℕ → LoadError → Type 0
IsFaultIn text LoadError.NoMemory = ⊤
IsFaultIn text (LoadError.Fault fault) =
    (r : Readings) (e : JobData → InteractionTree) → AreRight r → EvaluatesJobs e
    → shared_by_text r e text ≡ Err (failure_of fault)

-- An ask was left without an answer: it is not for the text, which is the fault; or memory was
-- refused.
abbrev pub IsUntold : TellerData → AskData → LoadError → Type 0
IsUntold t ask LoadError.NoMemory = ⊤
IsUntold t ask (LoadError.Fault fault) =
    (failure_of fault ≡ broken_rule Rule.SharedTextDefinesAlone)
    × (told_in_text ask (shared_so_far t) ≡ None)
