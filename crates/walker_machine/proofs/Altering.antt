-- What takes a function between its arguments, and what stands where a function is named.
use Rattle.std.proofs.Common.{◌≡◌, ◌∙◌, ap, ℕ, zero, suc, Bool, Option, Some, None, Result, Ok, Err}
use Rattle.std.proofs.Common.{List, [], ◌∷◌, refl, sym}
use Rattle.std.specs.Prelude.{string_bytes, is_some, Box}
use Rattle.std.specs.Global.{Global}
use Rattle.value_data.specs.Datum.{Datum, symbol}
use Rattle.value_data.specs.Inside.View.{view, views}
use Rattle.value_data.specs.declared.value.Value.{Value}
use Rattle.repl_values.specs.Failure.{Failure, too_many_calls, wrong_arity, not_a_function}
use Rattle.core_functions.specs.declared.function.CoreFunction.{CoreFunction}
use Rattle.core_functions.specs.StoreNames.{store_name_of}
use Rattle.core_functions.specs.declared.store.StoreFunction.{StoreFunction}
use Rattle.repl_asks.specs.Transactions.{RefNameData}
use Rattle.repl_asks.specs.Exchange.{NamedFunctionData, core_function, store_function}
use Rattle.repl_asks.specs.Inside.View.{named_view}
use Rattle.repl_asks.specs.declared.answer.NamedFunction.{NamedFunction}
use Rattle.evaluation_rules.specs.Calling.{altered_in, altering, updating}
use Rattle.evaluation_rules.specs.declared.altering.Alteration.{Alteration}
use Rattle.evaluation_rules.specs.declared.sending.Dispatch.{Dispatch}
use Rattle.evaluation_rules.specs.declared.updating.Update.{Update}
use Rattle.evaluation_rules.specs.Inside.View.{altered_view}
use Rattle.evaluation_rules.specs.declared.outcome.Altered.{Altered}
use Rattle.evaluation_rules.specs.Doing.{Kept, Doing, fails}
use Rattle.evaluation_rules.specs.Tree.{ends}
use Rattle.evaluation_rules.specs.Places.{PlaceData, Evaluator}
use Rattle.evaluation_rules.specs.Naming.{function_value, symbol_value}
use Rattle.evaluation_rules.specs.Refs.{held_value, ref_value}
use Rattle.evaluation_rules.specs.Calls.{call_value, alter_call, named_call, commute_applied}
use Rattle.evaluation_rules.specs.Applying.{core_call, function_called, named_callee, update_callee}
use Rattle.evaluation_rules.specs.Calls.{commute_noted, commuting_value}
use Rattle.evaluation_rules.specs.Atoms.{tried_value, seen_value}
use Rattle.evaluation_rules.specs.Evaluation.{value_at}
use Rattle.walker_state.specs.Pending.{from_state, kept_of, next_of, place_of}
use Rattle.walker_state.specs.UnderWay.{is_running}
use Rattle.walker_state.specs.Frames.{call_behind, update_with, update_behind, alter_step, bottom}
use Rattle.walker_state.specs.Frames.{swap_again, swap_step}
use Rattle.walker_state.specs.declared.frames.State.{State}
use Rattle.walker_state.specs.declared.frames.Swap.{Swap}
use Rattle.walker_state.specs.declared.frames.Transaction.{Transaction}
use Rattle.walker_state.proofs.Stepping.{fails-at, inside_attempt-failed}

-- A list with one of them at its head

pub update-none : (by : Update) (room : ℕ) (ds es : List Datum) (s : State) → ds ≡ [] → es ≡ []
    → from_state (call_behind room (place_of s) (named_callee (store_function (updating by))) [] es) s
    ≡ from_state (named_call (value_at room) (place_of s) ds (store_function (updating by))) s
unfolding call_behind
update-none by room ds es s none nothing = rw (none, nothing) refl

pub named_call-other : (walk : Evaluator) (p : PlaceData) (ds : List Datum) (f : NamedFunction) → (f ≡ NamedFunction.Store StoreFunction.Alter → ⊥)
    → (f ≡ NamedFunction.Store StoreFunction.Commute → ⊥) → (f ≡ NamedFunction.Store StoreFunction.Swap → ⊥)
    → (f ≡ NamedFunction.Store StoreFunction.Send → ⊥) → (f ≡ NamedFunction.Store StoreFunction.SendOff → ⊥)
    → named_call walk p ds (named_view f) ≡ call_value walk p ds (named_callee (named_view f))
named_call-other walk p [] f other apart away sent sent_off = refl
named_call-other walk p (d ∷ []) f other apart away sent sent_off = refl
named_call-other walk p (d ∷ e ∷ ds) (NamedFunction.Core f) other apart away sent sent_off = refl
named_call-other walk p (d ∷ e ∷ ds) (NamedFunction.Program f) other apart away sent sent_off = refl
named_call-other walk p (d ∷ e ∷ ds) (NamedFunction.Store StoreFunction.Ref) other apart away sent sent_off = refl
named_call-other walk p (d ∷ e ∷ ds) (NamedFunction.Store StoreFunction.Deref) other apart away sent sent_off = refl
named_call-other walk p (d ∷ e ∷ ds) (NamedFunction.Store StoreFunction.RefSet) other apart away sent sent_off = refl
named_call-other walk p (d ∷ e ∷ ds) (NamedFunction.Store StoreFunction.Alter) other apart away sent sent_off = absurd (other refl)
named_call-other walk p (d ∷ e ∷ ds) (NamedFunction.Store StoreFunction.Commute) other apart away sent sent_off = absurd (apart refl)
named_call-other walk p (d ∷ e ∷ ds) (NamedFunction.Store StoreFunction.Ensure) other apart away sent sent_off = refl
named_call-other walk p (d ∷ e ∷ ds) (NamedFunction.Store StoreFunction.HistoryCount) other apart away sent sent_off = refl
named_call-other walk p (d ∷ e ∷ ds) (NamedFunction.Store StoreFunction.MinHistory) other apart away sent sent_off = refl
named_call-other walk p (d ∷ e ∷ ds) (NamedFunction.Store StoreFunction.MaxHistory) other apart away sent sent_off = refl
named_call-other walk p (d ∷ e ∷ ds) (NamedFunction.Store StoreFunction.Atom) other apart away sent sent_off = refl
named_call-other walk p (d ∷ e ∷ ds) (NamedFunction.Store StoreFunction.Swap) other apart away sent sent_off = absurd (away refl)
named_call-other walk p (d ∷ e ∷ ds) (NamedFunction.Store StoreFunction.Reset) other apart away sent sent_off = refl
named_call-other walk p (d ∷ e ∷ ds) (NamedFunction.Store StoreFunction.CompareAndSet) other apart away sent sent_off = refl
named_call-other walk p (d ∷ e ∷ ds) (NamedFunction.Store StoreFunction.Agent) other apart away sent sent_off = refl
named_call-other walk p (d ∷ e ∷ ds) (NamedFunction.Store StoreFunction.AgentError) other apart away sent sent_off = refl
named_call-other walk p (d ∷ e ∷ ds) (NamedFunction.Store StoreFunction.RestartAgent) other apart away sent sent_off = refl
named_call-other walk p (d ∷ e ∷ ds) (NamedFunction.Store StoreFunction.Send) other apart away sent sent_off = absurd (sent refl)
named_call-other walk p (d ∷ e ∷ ds) (NamedFunction.Store StoreFunction.SendOff) other apart away sent sent_off = absurd (sent_off refl)
named_call-other walk p (d ∷ e ∷ ds) (NamedFunction.Store StoreFunction.Await) other apart away sent sent_off = refl

-- Its function

pub function_value-other : (s : State) (by : Update) (room : ℕ) (v d : Datum) (ds : List Datum) (told : Failure)
    → function_value (place_of s) d ≡ fails (not_a_function d) → told ≡ not_a_function d
    → ends (Err told) (string_bytes s.text) (kept_of s) ≡ from_state (update_behind room (place_of s) by v d ds) s
unfolding update_behind
function_value-other s by room v d ds told other is = rw (other, is) (sym (fails-at (not_a_function d) s))

pub update_with-start : (by : Update) (room : ℕ) (p : PlaceData) (f : NamedFunctionData) (v : Value) (vs : List Value) (ds : List Datum) (next : Datum → Kept → Doing)
    → vs ≡ v ∷ [] → call_behind room p (update_callee by f) (views vs) ds next ≡ update_with room p by (view v) ds f next
unfolding call_behind
update_with-start by room p f v vs ds next is = rw is refl

-- Its call

pub alter_call-empty : (walk : Evaluator) (by : Alteration) (f : NamedFunctionData) (vs : List Value) (told : Failure) (s : State) → vs ≡ []
    → told ≡ wrong_arity (store_name_of (altering by)) 1
    → ends (Err told) (string_bytes s.text) (kept_of s) ≡ from_state (alter_call walk by f (views vs)) s
unfolding alter_call
alter_call-empty walk by f vs told s none is =
    rw (none, is) (sym (fails-at (wrong_arity (store_name_of (altering by)) 1) s))

pub alter_call-refused : (walk : Evaluator) (by : Alteration) (f : NamedFunctionData) (d : Datum) (ds : List Datum) (vs : List Value) (told : Failure) (s : State)
    → views vs ≡ d ∷ ds → altered_in by (is_running s.transaction) d ≡ Err told
    → ends (Err told) (string_bytes s.text) (kept_of s) ≡ from_state (alter_call walk by f (views vs)) s
unfolding alter_call
alter_call-refused walk by f d ds vs told s given refused = rw (given, refused) (sym (fails-at told s))

-- A state that differs from another in its frames alone: with this done with the value of the innermost form
abbrev pub IsPushed : State → State → (Datum → Kept → Doing) → Type 0
IsPushed s u next = (next_of u ≡ next) × (bottom u.frames.items (place_of u) ≡ bottom s.frames.items (place_of s)) × (place_of u ≡ place_of s)
    × (kept_of u ≡ kept_of s) × (string_bytes u.text ≡ string_bytes s.text) × (u.setting ≡ s.setting) × (u.transaction ≡ s.transaction)

-- the ref is read, and then its function called
pub alter_call-reads : (s u : State) (by : Alteration) (f : NamedFunctionData) (name : RefNameData) (room : ℕ) (d : Datum) (ds : List Datum) (vs : List Value)
    → IsPushed s u (λ (v : Datum) (kept : Kept). alter_step room by name f ds v (next_of s) kept) → views vs ≡ d ∷ ds → altered_in by (is_running s.transaction) d ≡ Ok name
    → from_state (ref_value name) u ≡ from_state (alter_call (value_at room) by f (views vs)) s
unfolding alter_call alter_step
alter_call-reads s u by f name room d ds vs same given reads = rw (same.0, same.1, same.3, same.4, same.5, same.6, given, reads) refl

-- the function is called, and its value goes into the ref
pub alter_step-calls : (s u : State) (f : NamedFunctionData) (name : RefNameData) (room : ℕ) (d : Datum) (ds : List Datum) (vs : List Value)
    → IsPushed s u (λ (v : Datum) (kept : Kept). held_value name v (next_of s) kept) → views vs ≡ d ∷ ds
    → from_state (function_called (value_at room) f (views vs)) u ≡ from_state (alter_step room Alteration.Alter name f ds d) s
unfolding alter_step
alter_step-calls s u f name room d ds vs same given = rw (same.0, same.1, same.3, same.4, same.5, same.6, given) refl

-- the function is applied and noted
pub alter_step-commutes : (s : State) (f : NamedFunctionData) (name : RefNameData) (room : ℕ) (d : Datum) (ds : List Datum)
    → from_state (commuting_value f ds name d) s ≡ from_state (alter_step room Alteration.Commute name f ds d) s
unfolding alter_step
alter_step-commutes s f name room d ds = refl

-- the function is called, and its value is tried
pub swap_step-calls : (s u : State) (w : Swap) (d : Datum) (vs : List Value)
    → IsPushed s u (λ (v : Datum) (kept : Kept). tried_value w.atom d (swap_again w) v (next_of s) kept)
    → views vs ≡ d ∷ views w.arguments.items
    → from_state (function_called (value_at w.room) (named_view w.function) (views vs)) u ≡ from_state (swap_step w d) s
unfolding swap_step seen_value
swap_step-calls s u w d vs same given = rw (same.0, same.1, same.3, same.4, same.5, same.6, given) refl

-- but where no call is left
pub swap_step-none : (s : State) (w : Swap) (d : Datum) (told : Failure) → s.calls ≡ 0 → told ≡ too_many_calls
    → ends (Err told) (string_bytes s.text) (kept_of s) ≡ from_state (swap_step w d) s
unfolding swap_step seen_value function_called
swap_step-none s w d told none is =
    rw (none, is) (sym (inside_attempt-failed s.setting s.transaction (bottom s.frames.items (place_of s)) too_many_calls _ (string_bytes s.text)))

pub commute-applied : (s u : State) (f : CoreFunction) (name : RefNameData) (d : Datum) (ds : List Datum) (vs : List Value)
    → IsPushed s u (λ (v : Datum) (kept : Kept). commute_noted name (record { function = f; arguments = ds }) v (next_of s) kept)
    → views vs ≡ d ∷ ds
    → from_state (core_call f (views vs)) u ≡ from_state (commute_applied (core_function f) ds name d) s
commute-applied s u f name d ds vs same given = rw (same.0, same.1, same.3, same.4, same.5, same.6, given) refl

-- the first argument is evaluated, with a function behind it
pub update-target : (s u : State) (by : Update) (room : ℕ) (d e : Datum) (ds whole : List Datum)
    → IsPushed s u (λ (v : Datum) (kept : Kept). update_behind room (place_of s) by v e ds (next_of s) kept) → whole ≡ d ∷ e ∷ ds
    → from_state (value_at room (place_of u) d) u ≡ from_state (named_call (value_at room) (place_of s) whole (store_function (updating by))) s
unfolding update_behind
update-target s u (Update.Ref Alteration.Alter) room d e ds whole same given = rw (same.0, same.1, same.2, same.3, same.4, same.5, same.6, given) refl
update-target s u (Update.Ref Alteration.Commute) room d e ds whole same given = rw (same.0, same.1, same.2, same.3, same.4, same.5, same.6, given) refl
update-target s u Update.Atom room d e ds whole same given = rw (same.0, same.1, same.2, same.3, same.4, same.5, same.6, given) refl
update-target s u (Update.Agent Dispatch.Send) room d e ds whole same given = rw (same.0, same.1, same.2, same.3, same.4, same.5, same.6, given) refl
update-target s u (Update.Agent Dispatch.SendOff) room d e ds whole same given = rw (same.0, same.1, same.2, same.3, same.4, same.5, same.6, given) refl

-- with nothing behind it
pub update-alone : (s u : State) (by : Update) (room : ℕ) (d : Datum) (whole : List Datum)
    → IsPushed s u (λ (v : Datum) (kept : Kept). call_behind room (place_of s) (named_callee (store_function (updating by))) (v ∷ []) [] (next_of s) kept)
    → whole ≡ d ∷ []
    → from_state (value_at room (place_of u) d) u ≡ from_state (named_call (value_at room) (place_of s) whole (store_function (updating by))) s
unfolding call_behind
update-alone s u by room d whole same given = rw (same.0, same.1, same.2, same.3, same.4, same.5, same.6, given) refl

-- a symbol in a value's place
pub symbol-at : (room : ℕ) (p : PlaceData) (s : List ℕ) → value_at room p (symbol s) ≡ symbol_value p s
symbol-at zero p s = refl
symbol-at (suc room) p s = refl

-- what is no symbol names no function
pub function_value-of : (p : PlaceData) (v : Value) → ((x : _) → v ≡ Value.Symbol x → ⊥) → function_value p (view v) ≡ fails (not_a_function (view v))
function_value-of p Value.Nil other = refl
function_value-of p (Value.Bool b) other = refl
function_value-of p (Value.Int n) other = refl
function_value-of p (Value.Str s) other = refl
function_value-of p (Value.Keyword s) other = refl
function_value-of p (Value.Symbol s) other = absurd (other s refl)
function_value-of p (Value.List items) other = refl
function_value-of p (Value.Vector items) other = refl
function_value-of p (Value.Map pairs) other = refl
function_value-of p (Value.Ref name) other = refl
function_value-of p (Value.Atom n) other = refl
function_value-of p (Value.Agent n) other = refl
function_value-of p (Value.Var space name) other = refl
function_value-of p (Value.Fault class text) other = refl

pub running-some : (t : Option (Box Transaction Global)) → is_running t ≡ is_some t
running-some None = refl
running-some (Some t) = refl

-- the ref that is altered, or why none is
pub altered-told : (a : Altered) (by : Alteration) (r : Result RefNameData Failure) (t : Option (Box Transaction Global)) (b : Bool) (d : Datum)
    → altered_view a ≡ altered_in by b d → b ≡ is_some t → altered_view a ≡ r → altered_in by (is_running t) d ≡ r
altered-told a by r t b d told some is = ap (λ (c : Bool). altered_in by c d) (running-some t ∙ sym some) ∙ sym told ∙ is
