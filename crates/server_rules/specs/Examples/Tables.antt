-- A server for runs that the prover computes. What is evaluated is given as tables: each byte of a
-- stream stands for a message, and each byte of a text for a form, of which a table says what it
-- asks.
use Rattle.std.specs.Prelude.{ℕ, zero, suc, ◌+◌, ◌==◌, List, [], ◌∷◌, true, Some, None, map, length}
use Rattle.std.specs.Prelude.{codes, replicate, if◌then◌else◌, pos, Result, Ok}
use Rattle.std.specs.Prelude.{Err}
use Rattle.bencode_wire.specs.Stream as streams
use Rattle.value_data.specs.Datum as datum
use Rattle.value_data.specs.Datum.{Datum, tenant}
use Rattle.value_data.specs.Listed.{items_of}
use Rattle.core_scalars.specs.declared.integer_function.ArithmeticFunction.{ArithmeticFunction}
use Rattle.core_scalars.specs.declared.integer_function.IntegerFunction.{IntegerFunction}
use Rattle.core_functions.specs.declared.function.CoreFunction.{CoreFunction}
use Rattle.repl_asks.specs.Transactions.{RefNameData, ChangeData, CommutedData}
use Rattle.repl_asks.specs.Exchange as exchange
use Rattle.repl_asks.specs.Exchange.{AskData, AnswerData, bound_value}
use Rattle.repl_asks.specs.Job as jobs
use Rattle.repl_asks.specs.Job.{WorkData}
use Rattle.repl_asks.specs.InteractionTree.{InteractionTree, finished, asks}
use Rattle.server_rules.specs.Ground.{Ground}
use Rattle.server_rules.specs.Shared.{SharedData, nothing_shared, shared_by_text}
use Rattle.server_rules.specs.Examples.Messages.{message_of}

-- Forms

abbrev pub number : ℕ → Datum
number n = datum.integer (pos n)

abbrev pub ends_with : Datum → InteractionTree
ends_with d = finished (record { result = Ok d; text = []; namespace = codes "user" })

abbrev pub value_told : AnswerData → Datum
value_told (exchange.value d) = d
value_told _ = datum.nil

-- what a symbol names, where that is a ref
abbrev pub ref_answered : AnswerData → RefNameData
ref_answered (exchange.resolution (exchange.names_value (datum.ref owner n))) =
    record { owner = owner; number = n }
ref_answered _ = record { owner = tenant 9; number = 0 }

abbrev pub symbol : List ℕ → AskData
symbol name = exchange.resolve (codes "user") name

-- what is done with a ref's value, or again where it is kept no longer
abbrev pub when_found : AnswerData → (Datum → InteractionTree) → InteractionTree → InteractionTree
when_found (exchange.reading (exchange.found d)) behind again = behind d
when_found _ behind again = again

abbrev pub when_committed : AnswerData → InteractionTree → InteractionTree → InteractionTree
when_committed (exchange.verdict exchange.committed) behind again = behind
when_committed _ behind again = again

abbrev pub committing : List ChangeData → List CommutedData → InteractionTree → InteractionTree
    → InteractionTree
committing sets commuted behind again =
    asks (exchange.commit (record { sets = sets; ensured = []; commuted = commuted; sends = [] }))
    (λ a. when_committed a behind again)

-- `(dosync @r)`, with so many attempts
abbrev pub reading_tree : ℕ → InteractionTree
reading_tree zero = ends_with datum.nil
reading_tree (suc n) = asks exchange.begin (λ b. asks (symbol (codes "r"))
    (λ r. asks (exchange.read (ref_answered r)) (λ a.
    when_found a (λ d. committing [] [] (ends_with d) (reading_tree n)) (reading_tree n))))

-- `(dosync (ref-set name n))`
abbrev pub setting_tree : List ℕ → ℕ → ℕ → InteractionTree
setting_tree name n zero = ends_with datum.nil
setting_tree name n (suc k) = asks exchange.begin (λ b. asks (symbol (codes "ref-set"))
    (λ f. asks (symbol name) (λ r.
    committing (record { name = ref_answered r; now = number n } ∷ []) [] (ends_with (number n))
    (setting_tree name n k))))

abbrev pub adding : CoreFunction
adding = CoreFunction.Integer (IntegerFunction.Arithmetic ArithmeticFunction.Add)

-- `(dosync (commute r + 1) nil)`
abbrev pub commuting_tree : ℕ → InteractionTree
commuting_tree zero = ends_with datum.nil
commuting_tree (suc n) = asks exchange.begin (λ b. asks (symbol (codes "commute"))
    (λ f. asks (symbol (codes "r")) (λ r. asks (symbol (codes "+"))
    (λ g. asks (exchange.read (ref_answered r)) (λ a. when_found a (λ d. committing []
    (record {
      name = ref_answered r;
      commutes = record { function = adding; arguments = number 1 ∷ [] } ∷ [];
    } ∷ []) (ends_with datum.nil) (commuting_tree n)) (commuting_tree n))))))

-- `@shared/r`
abbrev pub looking_tree : InteractionTree
looking_tree = asks (symbol (codes "shared/r"))
    (λ r. asks (exchange.read (ref_answered r)) (λ a. when_found a ends_with (ends_with datum.nil)))

-- `(def r (ref 0))`
abbrev pub defining_tree : List ℕ → InteractionTree
defining_tree space = asks (symbol (codes "ref")) (λ f. asks (exchange.new_ref (number 0) 0 10) (λ a.
    asks (exchange.define space (codes "r") (bound_value (value_told a)))
    (λ b. ends_with (value_told a))))

-- `(ref-history-count r)`
abbrev pub counting_tree : InteractionTree
counting_tree = asks (symbol (codes "ref-history-count")) (λ f. asks (symbol (codes "r")) (λ r.
    asks (exchange.history (ref_answered r)) (λ a. ends_with (value_told a))))

-- `(def a (atom 0))`
abbrev pub making_tree : InteractionTree
making_tree = asks (symbol (codes "atom")) (λ f. asks (exchange.new_atom (number 0)) (λ a.
    asks (exchange.define (codes "user") (codes "a") (bound_value (value_told a)))
    (λ b. ends_with (value_told a))))

-- what a symbol names, where that is an atom
abbrev pub atom_answered : AnswerData → ℕ
atom_answered (exchange.resolution (exchange.names_value (datum.atom n))) = n
atom_answered _ = 9

abbrev pub one_more : Datum → Datum
one_more (datum.integer (pos n)) = number (n + 1)
one_more _ = datum.nil

abbrev pub when_true : AnswerData → InteractionTree → InteractionTree → InteractionTree
when_true (exchange.value (datum.boolean true)) behind again = behind
when_true _ behind again = again

-- the atom is read, and gets one more where it still has what was read; or again, so many times
abbrev pub trying_tree : ℕ → ℕ → InteractionTree
trying_tree n zero = ends_with datum.nil
trying_tree n (suc k) = asks (exchange.read_atom n) (λ r.
    let seen = value_told r in
    asks (exchange.try_atom n seen (one_more seen))
    (λ a. when_true a (ends_with (one_more seen)) (trying_tree n k)))

-- `(swap! a + 1)`
abbrev pub swapping_tree : InteractionTree
swapping_tree = asks (symbol (codes "swap!")) (λ f. asks (symbol (codes "a")) (λ a.
    asks (symbol (codes "+")) (λ g. trying_tree (atom_answered a) 3)))

-- `(reset! a 5)`
abbrev pub resetting_tree : InteractionTree
resetting_tree = asks (symbol (codes "reset!")) (λ f. asks (symbol (codes "a")) (λ a.
    asks (exchange.set_atom (atom_answered a) (number 5)) (λ b. ends_with (value_told b))))

-- the forms `d`, `r`, `s`, `h`, `c`, `a`, `w`, `x`, `g`, `p` and `t`
abbrev pub form_named : ℕ → InteractionTree
form_named n =
    if n == 100 then defining_tree (codes "user") else (
    if n == 114 then reading_tree 3 else (
    if n == 115 then setting_tree (codes "r") 5 3 else (
    if n == 104 then counting_tree else (
    if n == 99 then commuting_tree 3 else (
    if n == 97 then making_tree else (
    if n == 119 then swapping_tree else (
    if n == 120 then resetting_tree else (
    if n == 103 then looking_tree else (
    if n == 112 then setting_tree (codes "shared/r") 7 3 else setting_tree (codes "r") 6 3)))))))))

abbrev pub work_tree : WorkData → InteractionTree
work_tree (jobs.form (datum.integer (pos n))) = form_named n
work_tree (jobs.shared_form d) = defining_tree (codes "shared")
work_tree w = ends_with datum.nil

-- jobs are all the same to this server, and traces where they are of one length
abbrev pub ground : Ground
ground = record {
  readings = record {
    stream = λ bytes. record { messages = map message_of bytes; ending = streams.rest [] };
    program = λ bytes. record { forms = items_of (map number bytes); fault = None };
  };
  comparisons = record {
    is_same_job = λ j k. true;
    difference = λ xs ys. if length xs == length ys then None else Some (length xs);
  };
  evaluation = λ job. work_tree job.work;
  seed = replicate 32 0;
  steps = 1000;
  retries = 10000;
  places = 2;
  shared = nothing_shared;
}

abbrev pub shared_or_nothing : {E : Type 0} → Result SharedData E → SharedData
shared_or_nothing (Ok s) = s
shared_or_nothing (Err f) = nothing_shared

-- the same with what the text `d` defines for all tenants
abbrev pub sharing_ground : Ground
sharing_ground = record ground {
  shared = shared_or_nothing (shared_by_text ground.readings ground.evaluation (codes "d"));
}
