-- Where the work of a job begins.
use Rattle.std.proofs.Common.{◌≡◌, ◌∙◌, ◌≤◌, [], Bool, true, false, None, if◌then◌else◌, refl}
use Rattle.std.proofs.Common.{sym, ap}
use Rattle.std.specs.Prelude.{string_bytes, codes}
use Rattle.std.specs.Arc.{arc_str_bytes}
use Rattle.value_data.specs.Datum.{Datum}
use Rattle.repl_values.specs.Failure.{bad_form}
use Rattle.repl_asks.specs.Job as jobs
use Rattle.repl_asks.specs.Job.{WorkData}
use Rattle.repl_asks.specs.Inside.Jobs.{work_view, job_view}
use Rattle.repl_asks.specs.declared.job.Job.{Job}
use Rattle.evaluation_rules.specs.Doing.{Part, fails}
use Rattle.evaluation_rules.specs.Evaluation.{evaluation, value_at, shared_form_value, work_value}
use Rattle.evaluation_rules.specs.Places.{PlaceData, outside}
use Rattle.evaluation_rules.specs.SharedText.{occasion_of, is_definition}
use Rattle.evaluation_rules.specs.declared.limits.TheConstants.{CALLS, ROOM}
use Rattle.walker_state.specs.Pending.{from_state, place_of, tree}
use Rattle.walker_state.specs.Position.{IsOn, Position, TransactionPosition, outer_calls}
use Rattle.walker_state.specs.UnderWay.{inside_attempt}
use Rattle.walker_state.specs.declared.frames.Control.{Control}
use Rattle.walker_state.specs.declared.frames.State.{State}

begun-at : (s : State) (job : Job) → s.frames.items ≡ [] → place_of s ≡ outside
    → string_bytes s.text ≡ [] → arc_str_bytes s.namespace ≡ arc_str_bytes job.namespace
    → s.setting.occasion ≡ occasion_of (work_view job.work)
    → (s.calls ≡ CALLS) × (s.setting.retries ≡ job.retries) × (s.transaction ≡ None)
    → from_state (work_value (work_view job.work)) s ≡ evaluation (job_view job)
unfolding inside_attempt
begun-at s job none placed empty named occasion fresh =
    rw (none, placed, empty, named, occasion, fresh.0, fresh.1, fresh.2) refl

-- what comes first is the evaluation of the job
pub begun-work : (s now : State) (job : Job) (control : Control) → s.frames.items ≡ []
    → s.place.locals ≡ [] → string_bytes s.text ≡ []
    → arc_str_bytes s.namespace ≡ arc_str_bytes job.namespace
    → s.setting.occasion ≡ occasion_of (work_view job.work)
    → (s.place.home ≡ None) × (s.calls ≡ CALLS) × (s.setting.retries ≡ job.retries) × (s.transaction ≡ None)
    → (place_of s ≡ outside → tree control now ≡ from_state (work_value (work_view job.work)) s)
    → tree control now ≡ evaluation (job_view job)
begun-work s now job control none locals empty named occasion fresh meaning =
    let placed : place_of s ≡ outside = rw (locals, fresh.0) refl in
    meaning placed ∙ begun-at s job none placed empty named occasion (fresh.1, fresh.2, fresh.3)

-- a form is evaluated
pub begun-form : (w : WorkData) (form given : Datum) (s : State) → w ≡ jobs.form form → given ≡ form
    → place_of s ≡ outside
    → from_state (value_at ROOM (place_of s) given) s ≡ from_state (work_value w) s
begun-form w form given s is same placed =
    ap (λ (p : PlaceData). from_state (value_at ROOM p given) s) placed
    ∙ ap (λ (d : Datum). from_state (value_at ROOM outside d) s) same
    ∙ ap (λ (v : WorkData). from_state (work_value v) s) (sym is)

-- The text of the shared namespace

-- a definition is evaluated
pub begun-shared : (form given : Datum) (s : State) → true ≡ is_definition form → given ≡ form
    → place_of s ≡ outside
    → from_state (value_at ROOM (place_of s) given) s ≡ from_state (shared_form_value form) s
unfolding shared_form_value
begun-shared form given s defines same placed =
    let meant : Part Datum = value_at ROOM outside form in
    let other : Part Datum = fails (bad_form (codes "shared")) in
    ap (λ (p : PlaceData). from_state (value_at ROOM p given) s) placed
    ∙ ap (λ (d : Datum). from_state (value_at ROOM outside d) s) same
    ∙ ap (λ (b : Bool). from_state (if b then meant else other) s) defines

-- without an answer, and outside of transactions
pub begun-calls : (new old : Position) → old.transaction.runs ≡ false → IsOn new old → outer_calls new ≤ old.calls
unfolding IsOn
begun-calls new old outside on =
    let runs : new.transaction.runs ≡ false = ap (λ (a : TransactionPosition). a.runs) on.0 ∙ outside in
    rw runs on.1
