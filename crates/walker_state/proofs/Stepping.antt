-- What an attempt around a part of an evaluation leaves as it is.
use Rattle.std.specs.Global.{Global}
use Rattle.std.specs.Prelude.{Box, string_bytes, nat_lt}
use Rattle.std.specs.Arc.{arc_str_bytes}
use Rattle.std.proofs.Common.{true, false, ◌≡◌, ◌≢◌, ◌-◌, ◌+◌, ℕ, zero, suc, List, [], ◌++◌, length}
use Rattle.std.proofs.Common.{Option, Some, None, Result, Ok, Err, IfOk, ap, ◌∙◌, if◌then◌else◌}
use Rattle.std.proofs.Common.{refl, sym, arith}
use Rattle.value_data.specs.Datum.{Datum, nil}
use Rattle.repl_values.specs.Failure.{Failure, broken_rule, output_too_long}
use Rattle.repl_values.specs.declared.rule.Rule.{Rule}
use Rattle.core_scalars.specs.Limits.{most_text}
use Rattle.repl_asks.specs.Transactions.{IntentData}
use Rattle.repl_asks.specs.Exchange.{AskData, AnswerData, begin, commit, committed, verdict_in}
use Rattle.repl_asks.specs.InteractionTree.{InteractionTree, asks}
use Rattle.special_forms.specs.Inside.Seen.{forms_view}
use Rattle.special_forms.specs.declared.forms.Forms.{Forms}
use Rattle.repl_asks.specs.Accesses.{AttemptData, intent_of, nothing_noted}
use Rattle.tx_attempt.specs.Inside.Seen.{attempt_view}
use Rattle.tx_attempt.specs.declared.attempt.Attempt.{Attempt}
use Rattle.evaluation_rules.specs.Doing.{Kept, Doing, left, failed, retried, asking, printing}
use Rattle.evaluation_rules.specs.Doing.{looking, trying, Part, pure_part, fails}
use Rattle.evaluation_rules.specs.Tree.{with_attempt, ends, written_tree}
use Rattle.evaluation_rules.specs.Places.{PlaceData}
use Rattle.evaluation_rules.specs.Rows.{value_of_last}
use Rattle.evaluation_rules.specs.Evaluation.{value_at}
use Rattle.evaluation_rules.specs.Transactions.{attempts, after_body, body_of, transacted_value}
use Rattle.evaluation_rules.specs.Transactions.{with_running}
use Rattle.walker_state.specs.Pending.{begun_tree, from_state, kept_of, next_of, place_of}
use Rattle.walker_state.specs.UnderWay.{body_at, again, inside_attempt, so_far}
use Rattle.walker_state.specs.Frames.{frames_next, bottom}
use Rattle.walker_state.specs.Pending.{settled_tree, whole}
use Rattle.walker_state.specs.declared.frames.Setting.{Setting}
use Rattle.walker_state.specs.declared.frames.State.{State}
use Rattle.walker_state.specs.declared.frames.Transaction.{Transaction}

abbrev Running : Type 0
Running = Option (Box Transaction Global)

pub inside_attempt-failed : (r : Setting) (t : Running) (p : PlaceData) (f : Failure) (kept : Kept) (text : List ℕ)
    → written_tree text (inside_attempt r t p (left (failed f) kept)) ≡ ends (Err f) text kept
unfolding inside_attempt
inside_attempt-failed r None p f kept text = refl
inside_attempt-failed r (Some t) p f kept text = refl

pub inside_attempt-asking : (r : Setting) (t : Running) (p : PlaceData) (ask : AskData) (behind : AnswerData → Doing) (text : List ℕ)
    → written_tree text (inside_attempt r t p (asking ask behind)) ≡ asks ask (λ answer. written_tree text (inside_attempt r t p (behind answer)))
unfolding inside_attempt
inside_attempt-asking r None p ask behind text = refl
inside_attempt-asking r (Some t) p ask behind text = refl

pub inside_attempt-printing : (r : Setting) (t : Running) (p : PlaceData) (more : List ℕ) (kept : Kept) (d : Doing) (text : List ℕ)
    → written_tree text (inside_attempt r t p (printing more kept d))
    ≡ (if nat_lt most_text (length text + length more) then ends (Err output_too_long) text kept else written_tree (text ++ more) (inside_attempt r t p d))
unfolding inside_attempt
inside_attempt-printing r None p more kept d text = refl
inside_attempt-printing r (Some t) p more kept d text = refl

pub inside_attempt-looking : (r : Setting) (t : Running) (p : PlaceData) (behind : AttemptData → Doing) (text : List ℕ)
    → written_tree text (inside_attempt r t p (looking behind)) ≡ written_tree text (inside_attempt r t p (behind (so_far t)))
unfolding inside_attempt
inside_attempt-looking r None p behind text = refl
inside_attempt-looking r (Some t) p behind text = refl

-- a fault ends the evaluation, wherever it stands
pub fails-at : (f : Failure) (s : State) → from_state (fails f) s ≡ ends (Err f) (string_bytes s.text) (kept_of s)
fails-at f s = inside_attempt-failed s.setting s.transaction (bottom s.frames.items (place_of s)) f (kept_of s) (string_bytes s.text)

pub ruleset steps = (inside_attempt-failed, inside_attempt-asking, inside_attempt-printing, inside_attempt-looking)

-- what comes next is the one, and so the other
pub if_ok-turned : {A E : Type 0} (F : A → InteractionTree) {t u : InteractionTree} (r : Result A E) → t ≡ u → IfOk r (λ a. F a ≡ t) → IfOk r (λ a. F a ≡ u)
if_ok-turned F (Ok a) turned h = h ∙ turned
if_ok-turned F (Err e) turned h = tt

-- an attempt that is left is asked for
pub attempts-left : (n : ℕ) (body : Doing) (next : Datum → Kept → Doing) (last : Kept) → n ≢ 0
    → attempts n body next last ≡ asking begin (λ answer. trying body (with_attempt (after_body (attempts (n - 1) body next) next) nothing_noted body))
attempts-left zero body next last some = absurd (some refl)
attempts-left (suc n) body next last some =
    let e : suc n - 1 ≡ n = omega arith in
    ap (λ (m : ℕ). asking begin (λ answer. trying body (with_attempt (after_body (attempts m body next) next) nothing_noted body))) (sym e)

-- no attempt is left
pub again-none : (r : Setting) (t : Transaction) (p : PlaceData) (last : Kept) (text : List ℕ) → t.left ≡ 0
    → written_tree text (again r t p last) ≡ ends (Err (broken_rule Rule.AttemptsAreLimited)) text last
unfolding again
again-none r t p last text none = rw none refl

-- one is, and it begins
pub again-left : (r : Setting) (t u : Transaction) (p : PlaceData) (last : Kept) (text : List ℕ) → t.left ≢ 0
    → u ≡ record t { left = t.left - 1; is_first = false }
    → asks begin (λ answer. written_tree text (with_attempt (after_body (again r u p) (frames_next u.frames.items p)) nothing_noted (body_at r u p)))
    ≡ written_tree text (again r t p last)
unfolding again
again-left r t u p last text some is =
    rw is (ap (written_tree text) (sym (attempts-left t.left (body_at r t p) (frames_next t.frames.items p) last some)))

-- where no transaction runs
pub outside : (r : Setting) (t : Running) (p : PlaceData) (d : Doing) → t ≡ None → inside_attempt r t p d ≡ d
unfolding inside_attempt
outside r t p d none = rw none refl

pub transaction-none : (s : State) (body : Part Datum) → s.transaction ≡ None → s.setting.retries ≡ 0
    → ends (Err (broken_rule Rule.AttemptsAreLimited)) (string_bytes s.text) (kept_of s) ≡ from_state (transacted_value false body) s
transaction-none s body none nothing =
    sym (ap (written_tree (string_bytes s.text)) (outside s.setting s.transaction _ (transacted_value false body (next_of s) (kept_of s)) none) ∙ rw nothing refl)

-- the first attempt is asked for
pub transaction-begun : (s u : State) (t : Transaction) (forms : Forms) (room : ℕ) → s.transaction ≡ None → s.setting.retries ≢ 0
    → (place_of u ≡ place_of s) × (string_bytes u.text ≡ string_bytes s.text) × (u.setting ≡ s.setting)
    → (t.body ≡ forms) × (t.room ≡ room) × (t.calls ≡ s.calls) × (arc_str_bytes t.namespace ≡ arc_str_bytes s.namespace)
    → (t.left ≡ s.setting.retries - 1) × (t.frames ≡ s.frames)
    → asks begin (λ answer. begun_tree t u) ≡ from_state (transacted_value false (value_of_last (value_at room (place_of s)) nil (forms_view forms))) s
unfolding again
transaction-begun s u t forms room none some same entered around =
    let body : Part Datum = value_of_last (value_at room (place_of s)) nil (forms_view forms) in
    rw (same.0, same.1, same.2, entered.0, entered.1, entered.2, entered.3, around.0, around.1)
    (sym (ap (written_tree (string_bytes s.text)) (outside s.setting s.transaction _ (transacted_value false body (next_of s) (kept_of s)) none
    ∙ attempts-left s.setting.retries (body_of body (kept_of s)) (next_of s) (kept_of s) some)))

-- an attempt that is left for another
pub retried-at : (s : State) (t : Box Transaction Global) → s.transaction ≡ Some t
    → whole s (left retried (kept_of s))
    ≡ written_tree (string_bytes s.text) (again s.setting t.value (bottom s.frames.items (place_of s)) (with_running true (kept_of s)))
unfolding inside_attempt
retried-at s t runs = rw runs refl

pub left-outside : (s : State) (v : Datum) → s.frames.items ≡ [] → s.transaction ≡ None
    → ends (Ok v) (string_bytes s.text) (kept_of s) ≡ from_state (pure_part v) s
unfolding inside_attempt
left-outside s v empty none = rw (empty, none) refl

pub left-inside : (s : State) (t : Box Transaction Global) (u : Transaction) (a : Attempt) (v : Datum) (intent : IntentData)
    → s.frames.items ≡ [] → s.transaction ≡ Some t → u ≡ record (t.value) { attempt = a } → intent ≡ intent_of (attempt_view t.value.attempt)
    → asks (commit intent) (λ answer. settled_tree u v (verdict_in answer) (record s { transaction = None })) ≡ from_state (pure_part v) s
unfolding inside_attempt again
left-inside s t u a v intent empty runs is wants = rw (empty, runs, is, wants) refl

-- an attempt that has begun
pub begun-at : (s u : State) (b : Box Transaction Global) (t : Transaction) (a : Attempt) (forms : Forms) (room : ℕ) (v : Datum)
    → (place_of u ≡ place_of s) × (string_bytes u.text ≡ string_bytes s.text) × (u.setting ≡ s.setting)
    → (u.frames.items ≡ []) × (u.calls ≡ t.calls) × (arc_str_bytes u.namespace ≡ arc_str_bytes t.namespace) × (u.transaction ≡ Some b)
    → (b.value ≡ record t { attempt = a }) × (attempt_view a ≡ nothing_noted)
    → (forms_view forms ≡ forms_view t.body) × (room ≡ t.room) × (v ≡ nil)
    → from_state (value_of_last (value_at room (place_of u)) v (forms_view forms)) u ≡ begun_tree t s
unfolding inside_attempt again
begun-at s u b t a forms room v same entered fresh body =
    rw (same.0, same.1, same.2, entered.0, entered.1, entered.2, entered.3, fresh.0, fresh.1, body.0, body.1, body.2) refl

-- no transaction runs, so no attempt can be made again
pub retried-outside : (s : State) → s.transaction ≡ None
    → ends (Err (broken_rule Rule.AttemptsAreLimited)) (string_bytes s.text) (kept_of s) ≡ whole s (left retried (kept_of s))
unfolding inside_attempt
retried-outside s none = rw none refl

-- the attempt is over, and its frames are unwound
pub retried-from : (s u : State) (t : Box Transaction Global) → s.transaction ≡ Some t
    → (place_of u ≡ bottom s.frames.items (place_of s)) × (u.text ≡ s.text) × (u.setting ≡ s.setting) × (u.calls ≡ s.calls)
    → arc_str_bytes u.namespace ≡ arc_str_bytes s.namespace
    → written_tree (string_bytes u.text) (again u.setting t.value (place_of u) (with_running true (kept_of u))) ≡ whole s (left retried (kept_of s))
retried-from s u t runs same named = rw (same.0, same.1, same.2, same.3, named) (sym (retried-at s t runs))

-- the transaction is over, and its value goes on
pub committed-at : (s u : State) (t : Transaction) (v : Datum)
    → (place_of u ≡ place_of s) × (u.text ≡ s.text) × (u.setting ≡ s.setting) × (u.calls ≡ s.calls) × (u.namespace ≡ s.namespace)
    → (u.frames ≡ t.frames) × (u.transaction ≡ None)
    → from_state (pure_part v) u ≡ settled_tree t v committed s
unfolding inside_attempt
committed-at s u t v same around = rw (same.0, same.1, same.2, same.3, same.4, around.0, around.1) refl
