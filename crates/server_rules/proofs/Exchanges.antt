-- Jobs, asks and answers are told apart by their parts.
use Rattle.std.proofs.Common.{◌≡◌, ℕ, List, Option, refl, ◌⊎◌}
use Rattle.std.specs.Coded.{coded_ℕ, coded_list, coded_option}
use base.Stored.{coded_unit}
use denote.Enum.Declared.{Declared}
use denote.Enum.Bare.{Bare, sameb, same_true, true_same}
use mathlib.Core.Logic.{inl, inr}
use Rattle.value_data.specs.Datum.{Datum, OwnerData}
use Rattle.value_data.specs.Inside.Code.{datum_code}
use Rattle.value_data.specs.Inside.CodedNodes.{owner_code}
use Rattle.repl_values.specs.Failure.{Failure}
use Rattle.special_forms.specs.Functions.{FunctionData}
use Rattle.core_scalars.specs.declared.integer_function.ArithmeticFunction.{ArithmeticFunction}
use Rattle.core_scalars.specs.contracts.integer_function.ArithmeticFunction.{the_type as arithmetic}
use Rattle.core_scalars.specs.declared.integer_function.ComparisonFunction.{ComparisonFunction}
use Rattle.core_scalars.specs.contracts.integer_function.ComparisonFunction.{the_type as comparison}
use Rattle.core_scalars.specs.declared.integer_function.IntegerTest.{IntegerTest}
use Rattle.core_scalars.specs.contracts.integer_function.IntegerTest.{the_type as integer_test}
use Rattle.core_scalars.specs.declared.predicate_function.ValueTest.{ValueTest}
use Rattle.core_scalars.specs.contracts.predicate_function.ValueTest.{the_type as value_test}
use Rattle.core_functions.specs.declared.store.StoreFunction.{StoreFunction}
use Rattle.core_functions.specs.contracts.store.StoreFunction.{the_type as storing}
use Rattle.core_scalars.specs.declared.text_function.TextFunction.{TextFunction}
use Rattle.core_scalars.specs.contracts.text_function.TextFunction.{the_type as text_function}
use Rattle.core_scalars.specs.declared.text_function.PrintFunction.{PrintFunction}
use Rattle.core_scalars.specs.contracts.text_function.PrintFunction.{the_type as print_function}
use Rattle.core_collections.specs.declared.sequence_function.SequenceFunction.{SequenceFunction}
use Rattle.core_collections.specs.contracts.sequence_function.SequenceFunction.{the_type as sequence_function}
use Rattle.core_collections.specs.declared.map_function.MapFunction.{MapFunction}
use Rattle.core_collections.specs.contracts.map_function.MapFunction.{the_type as map_function}
use Rattle.core_scalars.specs.declared.integer_function.IntegerFunction.{IntegerFunction}
use Rattle.core_scalars.specs.declared.predicate_function.PredicateFunction.{PredicateFunction}
use Rattle.core_functions.specs.declared.function.CoreFunction.{CoreFunction}
use Rattle.repl_asks.specs.Exchange.{BindingData, bound_value, bound_function, AskData, resolve}
use Rattle.repl_asks.specs.Exchange.{define, enter, new_ref, begin, read, history, min_history}
use Rattle.repl_asks.specs.Exchange.{max_history, commit, new_atom, read_atom, set_atom, try_atom}
use Rattle.repl_asks.specs.Exchange.{new_agent, read_agent, agent_fault, restart_agent, send}
use Rattle.repl_asks.specs.Exchange.{may_send, await}
use Rattle.repl_asks.specs.Exchange.{NamedFunctionData, core_function}
use Rattle.repl_asks.specs.Exchange.{store_function, program_function, ResolutionData, names_value}
use Rattle.repl_asks.specs.Exchange.{names_function, names_nothing, ReadingData, found, retry}
use Rattle.repl_asks.specs.Exchange.{VerdictData, committed, conflict, faulted, PermissionData}
use Rattle.repl_asks.specs.Exchange.{granted, denied, AnswerData, resolution, done, value, reading}
use Rattle.repl_asks.specs.Exchange.{verdict, permission, Exchanged}
use Rattle.repl_asks.specs.Transactions.{RefNameData, ChangeData, CommuteData, CommutedData}
use Rattle.repl_asks.specs.Transactions.{IntentData}
use Rattle.repl_asks.specs.Job.{WorkData, form, shared_form, action, JobData}
use Rattle.repl_asks.specs.Sends.{TaskData, SendingData}
use Rattle.server_rules.proofs.Telling.{Tells, coded, items, pair, either, by_parts}

abbrev Text : Type 0
Text = List ℕ

number : Tells ℕ
number = coded coded_ℕ

text : Tells Text
text = coded (coded_list coded_ℕ)

datum : Tells Datum
datum = coded datum_code

bound : Tells (Option ℕ)
bound = coded (coded_option coded_ℕ)

nothing : Tells (Unit {0})
nothing = coded coded_unit

failure : Tells Failure
failure = by_parts (Text × Text) (pair text text) (λ f. (f.class, f.text))
    (λ p. record { class = p.0; text = p.1 }) (λ _. refl)

ref_name : Tells RefNameData
ref_name = by_parts (OwnerData × ℕ) (pair (coded owner_code) number) (λ r. (r.owner, r.number))
    (λ p. record { owner = p.0; number = p.1 }) (λ _. refl)

change : Tells ChangeData
change = by_parts (RefNameData × Datum) (pair ref_name datum) (λ c. (c.name, c.now))
    (λ p. record { name = p.0; now = p.1 }) (λ _. refl)

-- of functions that are no more than their names
bare : (D : Declared) → Bare D.parts → Tells D.D
bare D is_bare = record {
  same = sameb D;
  sound = same_true D is_bare;
  alike = λ f. true_same D f f refl;
}

abbrev IntegerParts : Type 0
IntegerParts = ArithmeticFunction ⊎ (ComparisonFunction ⊎ (IntegerTest))

abbrev integers_parts : IntegerFunction → IntegerParts
integers_parts (IntegerFunction.Arithmetic f) = inl f
integers_parts (IntegerFunction.Comparison f) = inr (inl f)
integers_parts (IntegerFunction.Test f) = inr (inr f)

abbrev integers_whole : IntegerParts → IntegerFunction
integers_whole (inl f) = IntegerFunction.Arithmetic f
integers_whole (inr (inl f)) = IntegerFunction.Comparison f
integers_whole (inr (inr f)) = IntegerFunction.Test f

integers_back : (f : IntegerFunction) → integers_whole (integers_parts f) ≡ f
integers_back (IntegerFunction.Arithmetic f) = refl
integers_back (IntegerFunction.Comparison f) = refl
integers_back (IntegerFunction.Test f) = refl

integers : Tells IntegerFunction
integers = by_parts IntegerParts
    (either (bare arithmetic tt) (either (bare comparison tt) ((bare integer_test tt))))
    integers_parts integers_whole integers_back

abbrev PredicateParts : Type 0
PredicateParts = Unit {0} ⊎ (Unit {0} ⊎ (Unit {0} ⊎ (ValueTest)))

abbrev predicates_parts : PredicateFunction → PredicateParts
predicates_parts PredicateFunction.Equal = inl tt
predicates_parts PredicateFunction.NotEqual = inr (inl tt)
predicates_parts PredicateFunction.Identity = inr (inr (inl tt))
predicates_parts (PredicateFunction.Test f) = inr (inr (inr f))

abbrev predicates_whole : PredicateParts → PredicateFunction
predicates_whole (inl _) = PredicateFunction.Equal
predicates_whole (inr (inl _)) = PredicateFunction.NotEqual
predicates_whole (inr (inr (inl _))) = PredicateFunction.Identity
predicates_whole (inr (inr (inr f))) = PredicateFunction.Test f

predicates_back : (f : PredicateFunction) → predicates_whole (predicates_parts f) ≡ f
predicates_back PredicateFunction.Equal = refl
predicates_back PredicateFunction.NotEqual = refl
predicates_back PredicateFunction.Identity = refl
predicates_back (PredicateFunction.Test f) = refl

predicates : Tells PredicateFunction
predicates = by_parts PredicateParts
    (either nothing (either nothing (either nothing ((bare value_test tt)))))
    predicates_parts predicates_whole predicates_back

abbrev CoreParts : Type 0
CoreParts = IntegerFunction ⊎ (PredicateFunction ⊎ (TextFunction ⊎ (SequenceFunction ⊎ (MapFunction ⊎ (PrintFunction)))))

abbrev core_parts : CoreFunction → CoreParts
core_parts (CoreFunction.Integer f) = inl f
core_parts (CoreFunction.Predicate f) = inr (inl f)
core_parts (CoreFunction.Text f) = inr (inr (inl f))
core_parts (CoreFunction.Sequence f) = inr (inr (inr (inl f)))
core_parts (CoreFunction.Map f) = inr (inr (inr (inr (inl f))))
core_parts (CoreFunction.Print f) = inr (inr (inr (inr (inr f))))

abbrev core_whole : CoreParts → CoreFunction
core_whole (inl f) = CoreFunction.Integer f
core_whole (inr (inl f)) = CoreFunction.Predicate f
core_whole (inr (inr (inl f))) = CoreFunction.Text f
core_whole (inr (inr (inr (inl f)))) = CoreFunction.Sequence f
core_whole (inr (inr (inr (inr (inl f))))) = CoreFunction.Map f
core_whole (inr (inr (inr (inr (inr f))))) = CoreFunction.Print f

core_back : (f : CoreFunction) → core_whole (core_parts f) ≡ f
core_back (CoreFunction.Integer f) = refl
core_back (CoreFunction.Predicate f) = refl
core_back (CoreFunction.Text f) = refl
core_back (CoreFunction.Sequence f) = refl
core_back (CoreFunction.Map f) = refl
core_back (CoreFunction.Print f) = refl

core : Tells CoreFunction
core = by_parts CoreParts
    (either integers (either predicates (either (bare text_function tt) (either (bare sequence_function tt) (either (bare map_function tt) ((bare print_function tt)))))))
    core_parts core_whole core_back

commute : Tells CommuteData
commute = by_parts (CoreFunction × List Datum) (pair core (items datum))
    (λ c. (c.function, c.arguments)) (λ p. record { function = p.0; arguments = p.1 }) (λ _. refl)

commuted_ref : Tells CommutedData
commuted_ref = by_parts (RefNameData × List CommuteData) (pair ref_name (items commute))
    (λ c. (c.name, c.commutes)) (λ p. record { name = p.0; commutes = p.1 }) (λ _. refl)

function : Tells FunctionData
function = by_parts (Text × (Text × (List Text × List Datum)))
    (pair text (pair text (pair (items text) (items datum))))
    (λ f. (f.space, (f.name, (f.params, f.body))))
    (λ p. record { space = p.0; name = p.1.0; params = p.1.1.0; body = p.1.1.1 }) (λ _. refl)

abbrev NamedParts : Type 0
NamedParts = CoreFunction ⊎ (StoreFunction ⊎ FunctionData)

abbrev named_parts : NamedFunctionData → NamedParts
named_parts (core_function f) = inl f
named_parts (store_function f) = inr (inl f)
named_parts (program_function f) = inr (inr f)

abbrev named_whole : NamedParts → NamedFunctionData
named_whole (inl x) = core_function x
named_whole (inr (inl x)) = store_function x
named_whole (inr (inr x)) = program_function x

named_back : (x : NamedFunctionData) → named_whole (named_parts x) ≡ x
named_back (core_function f) = refl
named_back (store_function f) = refl
named_back (program_function f) = refl

named : Tells NamedFunctionData
named = by_parts NamedParts
    (either core (either (bare storing tt) function))
    named_parts named_whole named_back

task : Tells TaskData
task = by_parts (NamedFunctionData × List Datum) (pair named (items datum))
    (λ t. (t.function, t.arguments)) (λ p. record { function = p.0; arguments = p.1 }) (λ _. refl)

sending : Tells SendingData
sending = by_parts (ℕ × TaskData) (pair number task) (λ x. (x.agent, x.task))
    (λ p. record { agent = p.0; task = p.1 }) (λ _. refl)

intent : Tells IntentData
intent = by_parts (List ChangeData × (List RefNameData × (List CommutedData × List SendingData)))
    (pair (items change) (pair (items ref_name) (pair (items commuted_ref) (items sending))))
    (λ i. (i.sets, (i.ensured, (i.commuted, i.sends))))
    (λ p. record { sets = p.0; ensured = p.1.0; commuted = p.1.1.0; sends = p.1.1.1 }) (λ _. refl)

binding : Tells BindingData
binding = by_parts (Datum ⊎ FunctionData) (either datum function) parts whole back where
  parts : BindingData → Datum ⊎ FunctionData
  parts (bound_value d) = inl d
  parts (bound_function f) = inr f

  whole : Datum ⊎ FunctionData → BindingData
  whole (inl d) = bound_value d
  whole (inr f) = bound_function f

  back : (b : BindingData) → whole (parts b) ≡ b
  back (bound_value d) = refl
  back (bound_function f) = refl

-- the asks of atoms
abbrev AtomAskParts : Type 0
AtomAskParts = Datum ⊎ (ℕ ⊎ ((ℕ × Datum) ⊎ (ℕ × (Datum × Datum))))

abbrev atom_whole : AtomAskParts → AskData
atom_whole (inl d) = new_atom d
atom_whole (inr (inl n)) = read_atom n
atom_whole (inr (inr (inl p))) = set_atom p.0 p.1
atom_whole (inr (inr (inr p))) = try_atom p.0 p.1.0 p.1.1

-- the asks of agents
abbrev AgentAskParts : Type 0
AgentAskParts = Datum ⊎ (ℕ ⊎ (ℕ ⊎ ((ℕ × Datum) ⊎ (SendingData ⊎ (SendingData ⊎ List ℕ)))))

abbrev agent_whole : AgentAskParts → AskData
agent_whole (inl d) = new_agent d
agent_whole (inr (inl n)) = read_agent n
agent_whole (inr (inr (inl n))) = agent_fault n
agent_whole (inr (inr (inr (inl p)))) = restart_agent p.0 p.1
agent_whole (inr (inr (inr (inr (inl x))))) = send x
agent_whole (inr (inr (inr (inr (inr (inl x)))))) = may_send x
agent_whole (inr (inr (inr (inr (inr (inr x)))))) = await x

abbrev AskParts : Type 0
AskParts = (Text × Text) ⊎ ((Text × (Text × BindingData)) ⊎ (Text ⊎ ((Datum × (ℕ × ℕ))
    ⊎ (Unit {0} ⊎ (RefNameData ⊎ (RefNameData ⊎ ((RefNameData × Option ℕ)
    ⊎ ((RefNameData × Option ℕ) ⊎ (IntentData ⊎ (AtomAskParts ⊎ AgentAskParts))))))))))

abbrev of_atoms : AtomAskParts → AskParts
of_atoms x = inr (inr (inr (inr (inr (inr (inr (inr (inr (inr (inl x))))))))))

abbrev of_agents : AgentAskParts → AskParts
of_agents x = inr (inr (inr (inr (inr (inr (inr (inr (inr (inr (inr x))))))))))

abbrev ask_parts : AskData → AskParts
ask_parts (resolve s t) = inl (s, t)
ask_parts (define s t b) = inr (inl (s, (t, b)))
ask_parts (enter s) = inr (inr (inl s))
ask_parts (new_ref d m n) = inr (inr (inr (inl (d, (m, n)))))
ask_parts begin = inr (inr (inr (inr (inl tt))))
ask_parts (read r) = inr (inr (inr (inr (inr (inl r)))))
ask_parts (history r) = inr (inr (inr (inr (inr (inr (inl r))))))
ask_parts (min_history r n) = inr (inr (inr (inr (inr (inr (inr (inl (r, n))))))))
ask_parts (max_history r n) = inr (inr (inr (inr (inr (inr (inr (inr (inl (r, n)))))))))
ask_parts (commit i) = inr (inr (inr (inr (inr (inr (inr (inr (inr (inl i)))))))))
ask_parts (new_atom d) = of_atoms (inl d)
ask_parts (read_atom n) = of_atoms (inr (inl n))
ask_parts (set_atom n d) = of_atoms (inr (inr (inl (n, d))))
ask_parts (try_atom n seen next) = of_atoms (inr (inr (inr (n, (seen, next)))))
ask_parts (new_agent d) = of_agents (inl d)
ask_parts (read_agent n) = of_agents (inr (inl n))
ask_parts (agent_fault n) = of_agents (inr (inr (inl n)))
ask_parts (restart_agent n d) = of_agents (inr (inr (inr (inl (n, d)))))
ask_parts (send x) = of_agents (inr (inr (inr (inr (inl x)))))
ask_parts (may_send x) = of_agents (inr (inr (inr (inr (inr (inl x))))))
ask_parts (await x) = of_agents (inr (inr (inr (inr (inr (inr x))))))

abbrev ask_whole : AskParts → AskData
ask_whole (inl p) = resolve p.0 p.1
ask_whole (inr (inl p)) = define p.0 p.1.0 p.1.1
ask_whole (inr (inr (inl x))) = enter x
ask_whole (inr (inr (inr (inl p)))) = new_ref p.0 p.1.0 p.1.1
ask_whole (inr (inr (inr (inr (inl _))))) = begin
ask_whole (inr (inr (inr (inr (inr (inl x)))))) = read x
ask_whole (inr (inr (inr (inr (inr (inr (inl x))))))) = history x
ask_whole (inr (inr (inr (inr (inr (inr (inr (inl p)))))))) = min_history p.0 p.1
ask_whole (inr (inr (inr (inr (inr (inr (inr (inr (inl p))))))))) = max_history p.0 p.1
ask_whole (inr (inr (inr (inr (inr (inr (inr (inr (inr (inl x)))))))))) = commit x
ask_whole (inr (inr (inr (inr (inr (inr (inr (inr (inr (inr (inl x))))))))))) = atom_whole x
ask_whole (inr (inr (inr (inr (inr (inr (inr (inr (inr (inr (inr x))))))))))) = agent_whole x

ask_back : (x : AskData) → ask_whole (ask_parts x) ≡ x
ask_back (resolve s t) = refl
ask_back (define s t b) = refl
ask_back (enter s) = refl
ask_back (new_ref d m n) = refl
ask_back begin = refl
ask_back (read r) = refl
ask_back (history r) = refl
ask_back (min_history r n) = refl
ask_back (max_history r n) = refl
ask_back (commit i) = refl
ask_back (new_atom d) = refl
ask_back (read_atom n) = refl
ask_back (set_atom n d) = refl
ask_back (try_atom n seen next) = refl
ask_back (new_agent d) = refl
ask_back (read_agent n) = refl
ask_back (agent_fault n) = refl
ask_back (restart_agent n d) = refl
ask_back (send x) = refl
ask_back (may_send x) = refl
ask_back (await x) = refl

atom_ask : Tells AtomAskParts
atom_ask = either datum (either number (either (pair number datum) (pair number (pair datum datum))))

agent_ask : Tells AgentAskParts
agent_ask = either datum (either number (either number (either (pair number datum)
    (either sending (either sending (items number))))))

ask : Tells AskData
ask = by_parts AskParts
    (either (pair text text) (either (pair text (pair text binding)) (either text
    (either (pair datum (pair number number)) (either nothing (either ref_name (either ref_name
    (either (pair ref_name bound) (either (pair ref_name bound) (either intent
    (either atom_ask agent_ask)))))))))))
    ask_parts ask_whole ask_back

abbrev ToldParts : Type 0
ToldParts = Datum ⊎ (NamedFunctionData ⊎ Failure)

abbrev told_parts : ResolutionData → ToldParts
told_parts (names_value d) = inl d
told_parts (names_function f) = inr (inl f)
told_parts (names_nothing f) = inr (inr f)

abbrev told_whole : ToldParts → ResolutionData
told_whole (inl x) = names_value x
told_whole (inr (inl x)) = names_function x
told_whole (inr (inr x)) = names_nothing x

told_back : (x : ResolutionData) → told_whole (told_parts x) ≡ x
told_back (names_value d) = refl
told_back (names_function f) = refl
told_back (names_nothing f) = refl

told : Tells ResolutionData
told = by_parts ToldParts
    (either datum (either named failure))
    told_parts told_whole told_back

abbrev ReadingParts : Type 0
ReadingParts = Datum ⊎ ((Unit {0}))

abbrev in_attempt_parts : ReadingData → ReadingParts
in_attempt_parts (found d) = inl d
in_attempt_parts retry = inr tt

abbrev in_attempt_whole : ReadingParts → ReadingData
in_attempt_whole (inl x) = found x
in_attempt_whole (inr _) = retry

in_attempt_back : (x : ReadingData) → in_attempt_whole (in_attempt_parts x) ≡ x
in_attempt_back (found d) = refl
in_attempt_back retry = refl

in_attempt : Tells ReadingData
in_attempt = by_parts ReadingParts
    (either datum nothing)
    in_attempt_parts in_attempt_whole in_attempt_back

abbrev VerdictParts : Type 0
VerdictParts = Unit {0} ⊎ (Unit {0} ⊎ Failure)

abbrev said_parts : VerdictData → VerdictParts
said_parts committed = inl tt
said_parts conflict = inr (inl tt)
said_parts (faulted f) = inr (inr f)

abbrev said_whole : VerdictParts → VerdictData
said_whole (inl _) = committed
said_whole (inr (inl _)) = conflict
said_whole (inr (inr x)) = faulted x

said_back : (x : VerdictData) → said_whole (said_parts x) ≡ x
said_back committed = refl
said_back conflict = refl
said_back (faulted f) = refl

said : Tells VerdictData
said = by_parts VerdictParts
    (either nothing (either nothing failure))
    said_parts said_whole said_back

abbrev PermissionParts : Type 0
PermissionParts = Unit {0} ⊎ Failure

abbrev permitted_parts : PermissionData → PermissionParts
permitted_parts granted = inl tt
permitted_parts (denied f) = inr f

abbrev permitted_whole : PermissionParts → PermissionData
permitted_whole (inl _) = granted
permitted_whole (inr x) = denied x

permitted_back : (x : PermissionData) → permitted_whole (permitted_parts x) ≡ x
permitted_back granted = refl
permitted_back (denied f) = refl

permitted : Tells PermissionData
permitted = by_parts PermissionParts (either nothing failure)
    permitted_parts permitted_whole permitted_back

abbrev AnswerParts : Type 0
AnswerParts = ResolutionData ⊎ (Unit {0} ⊎ (Datum ⊎ (ReadingData ⊎ (VerdictData ⊎ PermissionData))))

abbrev answer_parts : AnswerData → AnswerParts
answer_parts (resolution r) = inl r
answer_parts done = inr (inl tt)
answer_parts (value d) = inr (inr (inl d))
answer_parts (reading r) = inr (inr (inr (inl r)))
answer_parts (verdict v) = inr (inr (inr (inr (inl v))))
answer_parts (permission p) = inr (inr (inr (inr (inr p))))

abbrev answer_whole : AnswerParts → AnswerData
answer_whole (inl x) = resolution x
answer_whole (inr (inl _)) = done
answer_whole (inr (inr (inl x))) = value x
answer_whole (inr (inr (inr (inl x)))) = reading x
answer_whole (inr (inr (inr (inr (inl x))))) = verdict x
answer_whole (inr (inr (inr (inr (inr x))))) = permission x

answer_back : (x : AnswerData) → answer_whole (answer_parts x) ≡ x
answer_back (resolution r) = refl
answer_back done = refl
answer_back (value d) = refl
answer_back (reading r) = refl
answer_back (verdict v) = refl
answer_back (permission p) = refl

answer : Tells AnswerData
answer = by_parts AnswerParts
    (either told (either nothing (either datum (either in_attempt (either said permitted)))))
    answer_parts answer_whole answer_back

pub exchange : Tells Exchanged
exchange = by_parts (AskData × AnswerData) (pair ask answer) (λ e. (e.ask, e.answer))
    (λ p. record { ask = p.0; answer = p.1 }) (λ _. refl)

abbrev WorkParts : Type 0
WorkParts = Datum ⊎ (Datum ⊎ (Datum × TaskData))

work : Tells WorkData
work = by_parts WorkParts (either datum (either datum (pair datum task))) parts whole back where
  parts : WorkData → WorkParts
  parts (form d) = inl d
  parts (shared_form d) = inr (inl d)
  parts (action d x) = inr (inr (d, x))

  whole : WorkParts → WorkData
  whole (inl d) = form d
  whole (inr (inl d)) = shared_form d
  whole (inr (inr p)) = action p.0 p.1

  back : (w : WorkData) → whole (parts w) ≡ w
  back (form d) = refl
  back (shared_form d) = refl
  back (action d x) = refl

pub job : Tells JobData
job = by_parts (WorkData × (Text × ℕ)) (pair work (pair text number))
    (λ j. (j.work, (j.namespace, j.retries)))
    (λ p. record { work = p.0; namespace = p.1.0; retries = p.1.1 }) (λ _. refl)
