-- Asks and answers, without where they lie in memory.
use Rattle.std.specs.Prelude.{◌≡◌, ℕ, List, [], ◌∷◌, Bool, Option, ⊤}
use Rattle.value_data.specs.Datum.{Datum, nil}
use Rattle.repl_values.specs.Failure.{Failure}
use Rattle.special_forms.specs.Functions.{FunctionData}
pub use Rattle.repl_asks.specs.Sends.{NamedFunctionData, core_function, store_function}
pub use Rattle.repl_asks.specs.Sends.{program_function}
use Rattle.repl_asks.specs.Sends.{SendingData}
use Rattle.repl_asks.specs.Transactions.{RefNameData, IntentData}
use Rattle.repl_asks.specs.declared.ask.AnswerKind.{AnswerKind}

-- what a name is bound to
pub data BindingData : Type 0 where
  bound_value : Datum → BindingData
  bound_function : FunctionData → BindingData

pub data AskData : Type 0 where
  -- what a symbol names in a namespace
  resolve : List ℕ → List ℕ → AskData
  -- a namespace, a name and what it is bound to
  define : List ℕ → List ℕ → BindingData → AskData
  -- a namespace, which is made where it is new
  enter : List ℕ → AskData
  -- a ref with this value, and the least and the greatest count of its history
  new_ref : Datum → ℕ → ℕ → AskData
  -- an attempt at a transaction begins
  begin : AskData
  -- the value of a ref
  read : RefNameData → AskData
  -- how many versions a ref has behind its newest
  history : RefNameData → AskData
  -- the least count of a ref's history, which is set where a number is given; and the greatest
  min_history : RefNameData → Option ℕ → AskData
  max_history : RefNameData → Option ℕ → AskData
  -- what the attempt changed is to stand for all
  commit : IntentData → AskData
  -- an atom with this value
  new_atom : Datum → AskData
  -- the value of the atom with this number
  read_atom : ℕ → AskData
  -- the atom gets this value
  set_atom : ℕ → Datum → AskData
  -- the atom gets its next value if it equals what was seen of it: the number, and both
  try_atom : ℕ → Datum → Datum → AskData
  -- an agent with this state
  new_agent : Datum → AskData
  -- the state of the agent with this number
  read_agent : ℕ → AskData
  -- what that agent failed with, or nil
  agent_fault : ℕ → AskData
  -- that agent, which is failed, gets this state and goes on
  restart_agent : ℕ → Datum → AskData
  -- this is sent to an agent
  send : SendingData → AskData
  -- this is to be sent to an agent, once the attempt is committed or the action has ended well
  may_send : SendingData → AskData
  -- the agents with these numbers have done what was sent to them from here
  await : List ℕ → AskData

-- what a symbol names
pub data ResolutionData : Type 0 where
  names_value : Datum → ResolutionData
  names_function : NamedFunctionData → ResolutionData
  -- nothing, and why
  names_nothing : Failure → ResolutionData

-- the value of a ref in an attempt
pub data ReadingData : Type 0 where
  found : Datum → ReadingData
  -- it is kept no longer: the attempt is to be made again
  retry : ReadingData

-- what comes of a commit
pub data VerdictData : Type 0 where
  committed : VerdictData
  -- another came first: the attempt is to be made again
  conflict : VerdictData
  faulted : Failure → VerdictData

-- what comes of what may be refused
pub data PermissionData : Type 0 where
  granted : PermissionData
  denied : Failure → PermissionData

pub data AnswerData : Type 0 where
  resolution : ResolutionData → AnswerData
  -- what was asked for is done, and gives no value
  done : AnswerData
  value : Datum → AnswerData
  reading : ReadingData → AnswerData
  verdict : VerdictData → AnswerData
  permission : PermissionData → AnswerData

pub record Exchanged : Type 0 where
  pub ask : AskData
  pub answer : AnswerData

-- what has been asked and answered, and whether the last ask was left without an answer
pub record Heard : Type 0 where
  pub trace : List Exchanged
  pub stopped : Bool

-- the kind of answer that an ask wants
abbrev pub kind_wanted : AskData → AnswerKind
kind_wanted (resolve namespace symbol) = AnswerKind.Resolution
kind_wanted (define namespace name b) = AnswerKind.Completion
kind_wanted (enter name) = AnswerKind.Completion
kind_wanted (new_ref d least most) = AnswerKind.Value
kind_wanted begin = AnswerKind.Completion
kind_wanted (read name) = AnswerKind.Reading
kind_wanted (history name) = AnswerKind.Value
kind_wanted (min_history name set) = AnswerKind.Value
kind_wanted (max_history name set) = AnswerKind.Value
kind_wanted (commit intent) = AnswerKind.Verdict
kind_wanted (new_atom d) = AnswerKind.Value
kind_wanted (read_atom n) = AnswerKind.Value
kind_wanted (set_atom n d) = AnswerKind.Value
kind_wanted (try_atom n seen next) = AnswerKind.Value
kind_wanted (new_agent d) = AnswerKind.Value
kind_wanted (read_agent n) = AnswerKind.Value
kind_wanted (agent_fault n) = AnswerKind.Value
kind_wanted (restart_agent n d) = AnswerKind.Permission
kind_wanted (send s) = AnswerKind.Permission
kind_wanted (may_send s) = AnswerKind.Permission
kind_wanted (await ns) = AnswerKind.Permission

abbrev pub kind_of : AnswerData → AnswerKind
kind_of (resolution r) = AnswerKind.Resolution
kind_of done = AnswerKind.Completion
kind_of (value d) = AnswerKind.Value
kind_of (reading r) = AnswerKind.Reading
kind_of (verdict v) = AnswerKind.Verdict
kind_of (permission p) = AnswerKind.Permission

abbrev pub Fits : AskData → AnswerData → Type 0
Fits ask answer = kind_of answer ≡ kind_wanted ask

-- What the answer says of a symbol. To one that fits its ask it is what the symbol names; any other
-- answer counts as nil.
abbrev pub resolution_in : AnswerData → ResolutionData
resolution_in (resolution r) = r
resolution_in done = names_value nil
resolution_in (value d) = names_value nil
resolution_in (reading r) = names_value nil
resolution_in (verdict v) = names_value nil
resolution_in (permission p) = names_value nil

-- What the answer says of a value, of the value of a ref in an attempt, of a commit, and of what
-- may be refused, each to an ask that it fits. Any other answer counts as nil, as committed, and as
-- granted.
abbrev pub value_in : AnswerData → Datum
value_in (value d) = d
value_in answer = nil

abbrev pub reading_in : AnswerData → ReadingData
reading_in (reading r) = r
reading_in answer = found nil

abbrev pub verdict_in : AnswerData → VerdictData
verdict_in (verdict v) = v
verdict_in answer = committed

abbrev pub permission_in : AnswerData → PermissionData
permission_in (permission p) = p
permission_in answer = granted

-- no answer is left for the ask: there is none, or the next is of another kind
abbrev pub NoneFits : AskData → List AnswerData → Type 0
NoneFits ask [] = ⊤
NoneFits ask (answer ∷ answers) = Fits ask answer → ⊥
