-- `swap!` and its tries.
use Rattle.std.proofs.Common.{◌≡◌, ◌≢◌, ◌-◌, ℕ, zero, suc, List, [], ◌∷◌, Result, Ok, Err, refl}
use Rattle.std.proofs.Common.{sym, ap, ◌∙◌, arith}
use Rattle.std.specs.Prelude.{string_bytes}
use Rattle.value_data.specs.Datum.{Datum}
use Rattle.value_data.specs.declared.value.Value.{Value}
use Rattle.repl_values.specs.Failure.{Failure, too_many_calls, wrong_arity}
use Rattle.core_functions.specs.StoreNames.{store_name_of}
use Rattle.core_functions.specs.declared.store.StoreFunction.{StoreFunction}
use Rattle.repl_asks.specs.Exchange.{AskData, NamedFunctionData, AnswerData, read_atom, try_atom}
use Rattle.repl_asks.specs.Exchange.{value_in}
use Rattle.repl_asks.specs.Inside.View.{named_view}
use Rattle.repl_asks.specs.InteractionTree.{asks}
use Rattle.value_data.specs.Inside.View.{views}
use Rattle.evaluation_rules.specs.Arguments.{atom_in}
use Rattle.evaluation_rules.specs.Inside.View.{swapped_view}
use Rattle.evaluation_rules.specs.declared.outcome.Swapped.{Swapped}
use Rattle.evaluation_rules.specs.Doing.{Doing, asking, Part, ◌|>◌}
use Rattle.evaluation_rules.specs.Tree.{ends}
use Rattle.evaluation_rules.specs.Places.{Evaluator}
use Rattle.evaluation_rules.specs.Refs.{asked_value}
use Rattle.evaluation_rules.specs.Atoms.{settled_value, tried_value, seen_value, swapped_value}
use Rattle.evaluation_rules.specs.Atoms.{swap_call}
use Rattle.evaluation_rules.specs.Evaluation.{value_at}
use Rattle.walker_state.specs.Frames.{bottom, swap_again, swap_step}
use Rattle.walker_state.specs.Pending.{from_state, whole, kept_of, next_of, place_of}
use Rattle.walker_state.specs.declared.frames.State.{State}
use Rattle.walker_state.specs.declared.frames.Swap.{Swap}
use Rattle.walker_state.proofs.Stepping.{inside_attempt-asking, fails-at}

-- an ask, wherever it stands
pub asked-at : (s : State) (ask : AskData) (behind : AnswerData → Doing)
    → asks ask (λ answer. whole s (behind answer)) ≡ whole s (asking ask behind)
asked-at s ask behind =
    sym (inside_attempt-asking s.setting s.transaction (bottom s.frames.items (place_of s)) ask behind (string_bytes s.text))

-- Its call

pub swap_call-empty : (walk : Evaluator) (f : NamedFunctionData) (vs : List Value) (told : Failure) (s : State) → vs ≡ []
    → told ≡ wrong_arity (store_name_of StoreFunction.Swap) 1
    → ends (Err told) (string_bytes s.text) (kept_of s) ≡ from_state (swap_call walk f (views vs)) s
unfolding swap_call
swap_call-empty walk f vs told s none is =
    rw (none, is) (sym (fails-at (wrong_arity (store_name_of StoreFunction.Swap) 1) s))

pub swap_call-refused : (walk : Evaluator) (f : NamedFunctionData) (d : Datum) (ds : List Datum) (vs : List Value) (told : Failure) (s : State)
    → views vs ≡ d ∷ ds → atom_in StoreFunction.Swap d ≡ Err told
    → ends (Err told) (string_bytes s.text) (kept_of s) ≡ from_state (swap_call walk f (views vs)) s
unfolding swap_call
swap_call-refused walk f d ds vs told s given refused = rw (given, refused) (sym (fails-at told s))

-- the atom is read, as many tries left as calls
pub swap_call-asks : (w : Swap) (d : Datum) (vs : List Value) (s : State)
    → views vs ≡ d ∷ views w.arguments.items → atom_in StoreFunction.Swap d ≡ Ok w.atom → w.left ≡ s.calls
    → asks (read_atom w.atom) (λ answer. from_state (swap_step w (value_in answer)) s)
    ≡ from_state (swap_call (value_at w.room) (named_view w.function) (views vs)) s
unfolding swap_call swap_step swap_again swapped_value
swap_call-asks w d vs s given is left =
    rw (given, is, left) (asked-at s (read_atom w.atom) (λ answer. seen_value (value_at w.room) (named_view w.function)
    (views w.arguments.items) w.atom (swapped_value s.calls (value_at w.room) (named_view w.function) (views w.arguments.items) w.atom)
    (value_in answer) (next_of s) (kept_of s)))

-- A try

pub tried-asks : (w : Swap) (seen next : Datum) (s : State)
    → asks (try_atom w.atom seen next) (λ answer. from_state (settled_value (swap_again w) next (value_in answer)) s)
    ≡ from_state (tried_value w.atom seen (swap_again w) next) s
unfolding tried_value
tried-asks w seen next s =
    asked-at s (try_atom w.atom seen next) (λ answer. settled_value (swap_again w) next (value_in answer) (next_of s) (kept_of s))

-- no try is left
pub swap_again-none : (w : Swap) (told : Failure) (s : State) → w.left ≡ 0 → told ≡ too_many_calls
    → ends (Err told) (string_bytes s.text) (kept_of s) ≡ from_state (swap_again w) s
unfolding swap_again swapped_value
swap_again-none w told s none is = rw (none, is) (sym (fails-at too_many_calls s))

swapped-left : (n : ℕ) (walk : Evaluator) (f : NamedFunctionData) (args : List Datum) (atom : ℕ) → n ≢ 0
    → swapped_value n walk f args atom
    ≡ (asked_value (read_atom atom) |> seen_value walk f args atom (swapped_value (n - 1) walk f args atom))
unfolding swapped_value
swapped-left zero walk f args atom some = absurd (some refl)
swapped-left (suc n) walk f args atom some =
    let e : suc n - 1 ≡ n = omega arith in
    ap (λ (m : ℕ). asked_value (read_atom atom) |> seen_value walk f args atom (swapped_value m walk f args atom)) (sym e)

-- one is
pub swap_again-left : (w u : Swap) (s : State) → w.left ≢ 0 → u ≡ record w { left = w.left - 1 }
    → asks (read_atom u.atom) (λ answer. from_state (swap_step u (value_in answer)) s) ≡ from_state (swap_again w) s
unfolding swap_again swap_step
swap_again-left w u s some is =
    let walk : Evaluator = value_at w.room in
    let f : NamedFunctionData = named_view w.function in
    let args : List Datum = views w.arguments.items in
    rw is (asked-at s (read_atom w.atom) (λ answer. seen_value walk f args w.atom (swapped_value (w.left - 1) walk f args w.atom)
    (value_in answer) (next_of s) (kept_of s))
    ∙ ap (λ (part : Part Datum). from_state part s) (sym (swapped-left w.left walk f args w.atom some)))

-- the atom that is swapped, or why none is
pub swapped-told : (a : Swapped) (r : Result ℕ Failure) (d : Datum)
    → swapped_view a ≡ atom_in StoreFunction.Swap d → swapped_view a ≡ r → atom_in StoreFunction.Swap d ≡ r
swapped-told a r d told is = sym told ∙ is
