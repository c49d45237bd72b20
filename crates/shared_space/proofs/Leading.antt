-- What evaluations of the text make of the shared namespace, by what was told.
use Rattle.std.proofs.Common.{◌≡◌, [], ◌∷◌, ◌++◌, List, Option, None, Some, Result, Ok, Err, IfErr, OnOk, refl, sym}
use Rattle.std.proofs.Common.{false, ap, subst, option_map, ◌∙◌, ℕ, ◌<◌, ◌+◌, length, get_or, drop}
use Rattle.std.specs.Result.{IsErrAnd}
use Rattle.std.proofs.lemmas.List.{drop_more}
use Rattle.value_data.specs.Datum.{Items, item, Datum}
use Rattle.value_data.specs.Inside.View.{view, items_view}
use Rattle.value_data.specs.declared.value.Value.{Value}
use Rattle.repl_values.specs.Failure.{Failure, ◌>>=◌}
use Rattle.repl_values.specs.Inside.FaultView.{failure_of}
use Rattle.repl_asks.specs.Exchange.{AnswerData, Exchanged}
use Rattle.repl_asks.specs.Inside.View.{ask_view}
use Rattle.repl_asks.specs.declared.ask.Ask.{Ask}
use Rattle.repl_asks.specs.Job.{JobData, EndData}
use Rattle.repl_asks.specs.InteractionTree.{InteractionTree, finished, asks}
use Rattle.repl_asks.specs.Leading.{Leads}
use Rattle.evaluation_rules.specs.Evaluation.{evaluation}
use Rattle.repl_walker.specs.Led.{Led}
use Rattle.repl_walker.specs.Stops.{LeftAt}
use Rattle.repl_walker.specs.declared.run.WalkError.{WalkError}
use Rattle.server_rules.specs.Shared.{SharedData, nothing_shared, left_by_form, shared_by}
use Rattle.server_rules.specs.Shared.{shared_by_forms, told_in_text, when_told_in_text, shared_after}
use Rattle.server_rules.specs.Shared.{text_job, unless_unread, shared_by_text}
use Rattle.server_rules.specs.Readings.{Readings, AreRight, text_failure}
use Rattle.repl_reader.specs.Fault.{FaultData}
use Rattle.repl_reader.specs.Grammar.{IsReading}
use Rattle.repl_reader.specs.Inside.Laws.{ReadingsAreUnique}
use Rattle.repl_values.specs.declared.fault.Fault.{Fault}
use Rattle.shared_space.specs.Loaded.{EvaluatesJobs, IsFaultIn, IsFaultOf, IsUntold}
use Rattle.shared_space.specs.Told.{TellerData, exchanges, shared_from, shared_so_far, AreTold}
use Rattle.shared_space.specs.declared.space.LoadError.{LoadError}
use Rattle.shared_space.proofs.Traces.{from-join, told-rest, led-shared}

-- where exchanges lead, what they made of it is what is shared then
led-on : (t end : InteractionTree) (old more new : List Exchanged) → new ≡ old ++ more
    → AreTold nothing_shared new → Leads t more end
    → shared_by t (shared_from nothing_shared old) ≡ shared_by end (shared_from nothing_shared new)
led-on t end old more new is told leads =
    led-shared t end more (shared_from nothing_shared old) leads
    (told-rest nothing_shared old more (subst (AreTold nothing_shared) is told))
    ∙ ap (shared_by end) (sym (from-join nothing_shared old more)
    ∙ ap (shared_from nothing_shared) (sym is))

as-evaluated : (e : JobData → InteractionTree) (job other : JobData) (s : SharedData) → EvaluatesJobs e
    → job ≡ other → shared_by (e other) s ≡ shared_by (evaluation job) s
as-evaluated e job other s evaluates same =
    ap (λ t. shared_by t s) (ap e (sym same) ∙ evaluates job)

-- an evaluation that ended leaves what its end says
pub ended : (e : JobData → InteractionTree) (job other : JobData) (old more new : List Exchanged)
    (end : EndData) → EvaluatesJobs e → job ≡ other → new ≡ old ++ more → AreTold nothing_shared new
    → Leads (evaluation job) more (finished end)
    → shared_by (e other) (shared_from nothing_shared old)
    ≡ left_by_form end.result (shared_from nothing_shared new)
ended e job other old more new end evaluates same is told leads =
    as-evaluated e job other (shared_from nothing_shared old) evaluates same
    ∙ led-on (evaluation job) (finished end) old more new is told leads

-- one that was left at an ask without an answer has the fault that the text may not ask so
pub untold-faults : (e : JobData → InteractionTree) (job other : JobData) (old new : List Exchanged)
    (t : TellerData) (ask : Ask) (behind : AnswerData → InteractionTree) (error : LoadError)
    → EvaluatesJobs e → job ≡ other → shared_so_far t ≡ shared_from nothing_shared new
    → AreTold nothing_shared new → Led (evaluation job) old new (asks (ask_view ask) behind)
    → IsUntold t (ask_view ask) error
    → IsFaultOf (shared_by (e other) (shared_from nothing_shared old)) error
untold-faults e job other old new t ask behind LoadError.NoMemory evaluates same far told led it = tt
untold-faults e job other old new t ask behind (LoadError.Fault fault) evaluates same far told led it =
    as-evaluated e job other (shared_from nothing_shared old) evaluates same
    ∙ led-on (evaluation job) (asks (ask_view ask) behind) old led.0 new led.1 told led.2
    ∙ ap (λ o. when_told_in_text o (λ answer. shared_by (behind answer)
    (shared_after (ask_view ask) (shared_from nothing_shared new))))
    (subst (λ s. told_in_text (ask_view ask) s ≡ None) far it.1)
    ∙ ap Err (sym it.0)

pub left-untold : (e : JobData → InteractionTree) (job other : JobData) (old : List Exchanged)
    (t : TellerData) (ask : Ask) (error : LoadError)
    → EvaluatesJobs e → job ≡ other → AreTold nothing_shared (exchanges t)
    → LeftAt (evaluation job) old (exchanges t) (WalkError.Stopped ask)
    → IsUntold t (ask_view ask) error
    → IsFaultOf (shared_by (e other) (shared_from nothing_shared old)) error
left-untold e job other old t ask error evaluates same told (behind, led) it =
    untold-faults e job other old (exchanges t) t ask behind error evaluates same refl told led it

pub on_ok : {R E P Q : Type 0} (r : Result R E) → (P → Q) → OnOk r P → OnOk r Q
on_ok (Ok value) f p = f p
on_ok (Err error) f p = tt

-- Forms in a row

-- the forms from one place on are that one and those behind it
pub forms-from : (vs : List Value) (i : ℕ) (v : Value) → v ≡ get_or vs i v → i < length vs
    → items_view (drop i vs) ≡ item (view v) (items_view (drop (i + 1) vs))
forms-from vs i v is lt =
    ap items_view (drop_more vs i v lt) ∙ ap (λ w. item (view w) (items_view (drop (i + 1) vs))) (sym is)

pub forms-more : (e : JobData → InteractionTree) (d : Datum) (ds : Items) (s after : SharedData)
    → shared_by (e (text_job d)) s ≡ Ok after
    → shared_by_forms e (item d ds) s ≡ shared_by_forms e ds after
forms-more e d ds s after is = ap (λ r. r >>= shared_by_forms e ds) is

pub forms-fault : (e : JobData → InteractionTree) (d : Datum) (ds : Items) (s : SharedData)
    (error : LoadError) → IsFaultOf (shared_by (e (text_job d)) s) error
    → IsFaultOf (shared_by_forms e (item d ds) s) error
forms-fault e d ds s LoadError.NoMemory is = tt
forms-fault e d ds s (LoadError.Fault fault) is = ap (λ r. r >>= shared_by_forms e ds) is

-- A text as a whole

-- what a text comes to, by any reading of it
pub by-reading : ReadingsAreUnique → (r : Readings) (e : JobData → InteractionTree) → AreRight r
    → (text : List ℕ) (ds : Items) (fault : Option FaultData) → IsReading text ds fault
    → shared_by_text r e text ≡ (shared_by_forms e ds nothing_shared >>= unless_unread fault)
unfolding shared_by_text
by-reading unique r e right text ds fault reads =
    let same = unique text (r.program text).forms ds (r.program text).fault fault
    (right.program text) reads in
    ap (λ fs. shared_by_forms e fs nothing_shared >>= unless_unread (r.program text).fault) same.0
    ∙ ap (λ f. shared_by_forms e ds nothing_shared >>= unless_unread f) same.1

-- its forms have a fault
pub forms-fault-in : ReadingsAreUnique → (text : List ℕ) (ds : Items) (fault : Option FaultData)
    (error : LoadError) → IsReading text ds fault
    → ((e : JobData → InteractionTree) → EvaluatesJobs e
    → IsFaultOf (shared_by_forms e ds nothing_shared) error)
    → IsFaultIn text error
forms-fault-in unique text ds fault LoadError.NoMemory reads has = tt
forms-fault-in unique text ds fault (LoadError.Fault f) reads has = λ r e right evaluates.
    by-reading unique r e right text ds fault reads
    ∙ ap (λ made. made >>= unless_unread fault) (has e evaluates)

-- they came to what is shared
pub text-comes : ReadingsAreUnique → (r : Readings) (e : JobData → InteractionTree) → AreRight r
    → (text : List ℕ) (ds : Items) (fault : Option FaultData) (s : SharedData)
    → IsReading text ds fault → shared_by_forms e ds nothing_shared ≡ Ok s
    → shared_by_text r e text ≡ unless_unread fault s
text-comes unique r e right text ds fault s reads comes =
    by-reading unique r e right text ds fault reads ∙ ap (λ made. made >>= unless_unread fault) comes

unless_failed : Option Failure → SharedData → Result SharedData Failure
unless_failed None s = Ok s
unless_failed (Some f) s = Err f

as-failed : (fault : Option FaultData) (s : SharedData)
    → unless_unread fault s ≡ unless_failed (option_map text_failure fault) s
unfolding unless_failed
as-failed None s = refl
as-failed (Some f) s = refl

-- the text itself has the fault that was told, or none
pub text-fault-in : ReadingsAreUnique → (text : List ℕ) (ds : Items) (fault : Option FaultData)
    (s : SharedData) (f : Fault) → IsReading text ds fault
    → ((e : JobData → InteractionTree) → EvaluatesJobs e
    → shared_by_forms e ds nothing_shared ≡ Ok s)
    → Some (failure_of f) ≡ option_map text_failure fault
    → IsFaultIn text (LoadError.Fault f)
unfolding unless_failed
text-fault-in unique text ds fault s f reads comes told = λ r e right evaluates.
    text-comes unique r e right text ds fault s reads (comes e evaluates)
    ∙ as-failed fault s ∙ ap (λ o. unless_failed o s) (sym told)

pub text-clear : (fault : Option FaultData) (s : SharedData) → None ≡ option_map text_failure fault
    → unless_unread fault s ≡ Ok s
unfolding unless_failed
text-clear fault s told = as-failed fault s ∙ ap (λ o. unless_failed o s) (sym told)

pub err-so : {A E : Type 0} (P : E → Type 0) (r : Result A E) (e : E) → IsErrAnd r (λ x. x ≡ e)
    → P e → IfErr r P
err-so P (Ok x) e never p = tt
err-so P (Err x) e is p = subst P (sym is) p

-- the forms that were read, evaluated by a teller that was asked nothing before
pub begun : (e : JobData → InteractionTree) (ds es : Items) (t : TellerData) → ds ≡ es
    → t ≡ record { trace = []; stopped = false }
    → shared_by_forms e ds (shared_so_far t) ≡ shared_by_forms e es nothing_shared
begun e ds es t same none =
    ap (λ xs. shared_by_forms e xs (shared_so_far t)) same
    ∙ ap (λ x. shared_by_forms e es (shared_so_far x)) none
