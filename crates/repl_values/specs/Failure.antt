-- The faults of evaluation: their classes and texts.
use Rattle.std.specs.Prelude.{ℕ, List, ◌++◌, Result, Ok, Err, codes, decimal}
use Rattle.value_data.specs.Datum.{Datum}
use Rattle.repl_values.specs.Print.{print}
use Rattle.repl_values.specs.declared.rule.Rule.{Rule}

-- why an evaluation has no value
pub record Failure : Type 0 where
  pub class : List ℕ
  pub text : List ℕ

infixl 10 ◌>>=◌
abbrev pub ◌>>=◌ : {A B : Type 0} → Result A Failure → (A → Result B Failure) → Result B Failure
(Ok x) >>= f = f x
(Err e) >>= f = Err e

abbrev pub arithmetic_failure : List ℕ → Failure
arithmetic_failure text = record { class = codes "java.lang.ArithmeticException"; text = text }

abbrev pub class_cast : List ℕ → Failure
class_cast text = record { class = codes "java.lang.ClassCastException"; text = text }

abbrev pub illegal_argument : List ℕ → Failure
illegal_argument text = record { class = codes "java.lang.IllegalArgumentException"; text = text }

abbrev pub illegal_state : List ℕ → Failure
illegal_state text = record { class = codes "java.lang.IllegalStateException"; text = text }

abbrev pub runtime : List ℕ → Failure
runtime text = record { class = codes "java.lang.RuntimeException"; text = text }

abbrev pub integer_overflow : Failure
integer_overflow = arithmetic_failure (codes "integer overflow")

abbrev pub divide_by_zero : Failure
divide_by_zero = arithmetic_failure (codes "Divide by zero")

-- an argument of a kind that the function does not take
abbrev pub wrong_argument : List ℕ → Datum → Failure
wrong_argument function argument =
    class_cast (codes "Wrong argument to " ++ function ++ codes ": " ++ print argument)

-- what stands where a function has to
abbrev pub not_a_function : Datum → Failure
not_a_function d = class_cast (codes "Not a function: " ++ print d)

-- a function, as it is called, with a number of arguments that it does not take
abbrev pub wrong_arity : List ℕ → ℕ → Failure
wrong_arity function arguments = record {
  class = codes "clojure.lang.ArityException";
  text = codes "Wrong number of args (" ++ decimal arguments ++ codes ") passed to: " ++ function;
}

abbrev pub out_of_bounds : Failure
out_of_bounds = record {
  class = codes "java.lang.IndexOutOfBoundsException";
  text =
      codes "Index out of bounds";
}

abbrev pub too_large : Failure
too_large = illegal_argument (codes "Value too large")

abbrev pub output_too_long : Failure
output_too_long = illegal_argument (codes "Output too long")

abbrev pub duplicate_key : Datum → Failure
duplicate_key key = illegal_argument (codes "Duplicate key: " ++ print key)

-- the last of an odd number of keys and values
abbrev pub no_value_supplied : Datum → Failure
no_value_supplied key = illegal_argument (codes "No value supplied for key: " ++ print key)

-- another shape of this special form
abbrev pub bad_form : List ℕ → Failure
bad_form name = illegal_argument (codes "Bad form: " ++ name)

abbrev pub unresolved_symbol : List ℕ → Failure
unresolved_symbol symbol = runtime
    (codes "Unable to resolve symbol: " ++ symbol ++ codes " in this context")

abbrev pub no_such_namespace : List ℕ → Failure
no_such_namespace name = runtime (codes "No such namespace: " ++ name)

abbrev pub no_such_var : List ℕ → Failure
no_such_var symbol = runtime (codes "No such var: " ++ symbol)

-- a namespace that is the same for all, and that nobody enters or defines in
abbrev pub namespace_is_fixed : List ℕ → Failure
namespace_is_fixed name = illegal_state (codes "Namespace is fixed: " ++ name)

-- a symbol that names a function, in a value's place
abbrev pub not_a_value : List ℕ → Failure
not_a_value symbol = runtime (codes "A function isn't a value: " ++ symbol)

abbrev pub too_many_calls : Failure
too_many_calls = runtime (codes "Budget of 10000 calls is passed")

abbrev pub too_deep : Failure
too_deep = record {
  class = codes "java.lang.StackOverflowError";
  text =
      codes "Depth of 200 is passed";
}

-- what a program threw that is no fault, by its text
abbrev pub thrown_text : List ℕ → Failure
thrown_text text = record { class = codes "clojure.lang.ExceptionInfo"; text = text }

-- a rule of references, transactions or the shared namespace that was not kept
abbrev pub broken_rule : Rule → Failure
broken_rule Rule.ATransactionRuns = illegal_state (codes "No transaction running")
broken_rule Rule.NoSetAfterCommute = illegal_state (codes "Can't set after commute")
broken_rule Rule.NoIoInTransaction = illegal_state (codes "I/O in transaction")
broken_rule Rule.NoAwaitInTransaction = illegal_state (codes "await in transaction")
broken_rule Rule.NoAwaitInAction = illegal_state (codes "Can't await in agent action")
broken_rule Rule.SharedBoundsStay = illegal_state (codes "Shared history can't be set")
broken_rule Rule.SharedHistoryIsHidden =
    illegal_state (codes "Shared history can't be read in a transaction")
broken_rule Rule.SharedTextDefinesAlone =
    illegal_state (codes "Not allowed in the shared namespace")
broken_rule Rule.SharedRefsArePlain =
    illegal_argument (codes "Only plain data goes into a shared ref")
broken_rule Rule.CommutesAreOfCore = illegal_argument (codes "commute takes a core function")
broken_rule Rule.AttemptsAreLimited =
    runtime (codes "Transaction failed after reaching retry limit")
broken_rule Rule.AgentHasNotFailed = runtime (codes "Agent is failed, needs restart")
broken_rule Rule.AgentHasFailed = runtime (codes "Agent does not need a restart")
