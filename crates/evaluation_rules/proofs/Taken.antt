-- Values of a call, by their places.
use Rattle.std.proofs.Common.{◌≡◌, ◌≢◌, List, [], ◌∷◌, ◌++◌, get_or, take, drop, length, Bool}
use Rattle.std.proofs.Common.{true, Err, option_map, slice_get, arith, refl}
use Rattle.std.proofs.lemmas.Bool.Decides.{nat_tests}
use Rattle.value_data.specs.Datum.{Datum}
use Rattle.value_data.specs.Inside.View.{view, views}
use Rattle.value_data.specs.declared.value.Value.{Value}
use Rattle.repl_values.specs.Failure.{broken_rule}
use Rattle.repl_values.specs.declared.rule.Rule.{Rule}
use Rattle.core_functions.specs.StoreNames.{store_fits}
use Rattle.core_functions.specs.declared.store.StoreFunction.{StoreFunction}
use Rattle.evaluation_rules.specs.Calling.{call_with, ref_call, deref_call, ref_set_call, ensure_call}
use Rattle.evaluation_rules.specs.Calling.{history_count_call, alter_by_value, atom_call, swap_by_value}
use Rattle.evaluation_rules.specs.Calling.{reset_call, compare_and_set_call, agent_call}
use Rattle.evaluation_rules.specs.Calling.{agent_error_call, restart_agent_call, send_by_value, await_call}
use Rattle.evaluation_rules.specs.Calling.{shared_call_with}
use Rattle.evaluation_rules.specs.Calling.{plain_ref_call}
use Rattle.evaluation_rules.specs.Inside.Parts.{bound_call}
use Rattle.evaluation_rules.specs.declared.altering.Alteration.{Alteration}
use Rattle.evaluation_rules.specs.declared.bounds.HistoryBound.{HistoryBound}
use Rattle.evaluation_rules.specs.declared.sending.Dispatch.{Dispatch}

pub ref-called : (running : Bool) (xs : List Value) (x : Value)
    → store_fits StoreFunction.Ref (length xs) ≡ true → x ≡ get_or xs 0 x
    → call_with StoreFunction.Ref running (views xs) ≡ ref_call (view x ∷ views (drop 1 xs))
ref-called running [] x fits is = absurd (grind (arith, nat_tests))
ref-called running (y ∷ xs) x fits is = let same : x ≡ y = is in cc

pub deref-called : (running : Bool) (xs : List Value) (x : Value)
    → store_fits StoreFunction.Deref (length xs) ≡ true → x ≡ get_or xs 0 x
    → call_with StoreFunction.Deref running (views xs) ≡ deref_call (view x)
deref-called running [] x fits is = absurd (grind (arith, nat_tests))
deref-called running (y ∷ []) x fits is = let same : x ≡ y = is in cc
deref-called running (y ∷ z ∷ xs) x fits is = absurd (grind (arith, nat_tests))

pub set-called : (running : Bool) (xs ys : List Value) (x y : Value)
    → store_fits StoreFunction.RefSet (length xs) ≡ true → y ≡ get_or xs 1 y
    → ys ≡ take 1 xs ++ drop 2 xs → x ≡ get_or ys 0 x
    → call_with StoreFunction.RefSet running (views xs) ≡ ref_set_call running (view x) (view y)
set-called running [] ys x y fits is left first = absurd (grind (arith, nat_tests))
set-called running (u ∷ []) ys x y fits is left first = absurd (grind (arith, nat_tests))
set-called running (u ∷ v ∷ []) ys x y fits is left first =
    let one : ys ≡ u ∷ [] = left in
    let same : x ≡ u = rw one at first in
    let other : y ≡ v = is in cc
set-called running (u ∷ v ∷ w ∷ xs) ys x y fits is left first = absurd (grind (arith, nat_tests))

pub alter-called : (running : Bool) (xs : List Value) (x y : Value)
    → store_fits StoreFunction.Alter (length xs) ≡ true → x ≡ get_or xs 0 x → y ≡ get_or xs 1 y
    → call_with StoreFunction.Alter running (views xs) ≡ alter_by_value Alteration.Alter (view x) (view y)
alter-called running [] x y fits first is = absurd (grind (arith, nat_tests))
alter-called running (u ∷ []) x y fits first is = absurd (grind (arith, nat_tests))
alter-called running (u ∷ v ∷ xs) x y fits first is =
    let one : x ≡ u = first in let other : y ≡ v = is in cc

pub commute-called : (running : Bool) (xs : List Value) (x y : Value)
    → store_fits StoreFunction.Commute (length xs) ≡ true → x ≡ get_or xs 0 x → y ≡ get_or xs 1 y
    → call_with StoreFunction.Commute running (views xs) ≡ alter_by_value Alteration.Commute (view x) (view y)
commute-called running [] x y fits first is = absurd (grind (arith, nat_tests))
commute-called running (u ∷ []) x y fits first is = absurd (grind (arith, nat_tests))
commute-called running (u ∷ v ∷ xs) x y fits first is =
    let one : x ≡ u = first in let other : y ≡ v = is in cc

pub ensure-called : (running : Bool) (xs : List Value) (x : Value)
    → store_fits StoreFunction.Ensure (length xs) ≡ true → x ≡ get_or xs 0 x
    → call_with StoreFunction.Ensure running (views xs) ≡ ensure_call running (view x)
ensure-called running [] x fits is = absurd (grind (arith, nat_tests))
ensure-called running (y ∷ []) x fits is = let same : x ≡ y = is in cc
ensure-called running (y ∷ z ∷ xs) x fits is = absurd (grind (arith, nat_tests))

pub count-called : (running : Bool) (xs : List Value) (x : Value)
    → store_fits StoreFunction.HistoryCount (length xs) ≡ true → x ≡ get_or xs 0 x
    → call_with StoreFunction.HistoryCount running (views xs) ≡ history_count_call running (view x)
count-called running [] x fits is = absurd (grind (arith, nat_tests))
count-called running (y ∷ []) x fits is = let same : x ≡ y = is in cc
count-called running (y ∷ z ∷ xs) x fits is = absurd (grind (arith, nat_tests))

pub least-called : (running : Bool) (xs : List Value) (x : Value)
    → store_fits StoreFunction.MinHistory (length xs) ≡ true → x ≡ get_or xs 0 x
    → call_with StoreFunction.MinHistory running (views xs)
    ≡ bound_call HistoryBound.Least (view x) (option_map view (slice_get xs 1))
least-called running [] x fits is = absurd (grind (arith, nat_tests))
least-called running (y ∷ []) x fits is = let same : x ≡ y = is in cc
least-called running (y ∷ z ∷ []) x fits is = let same : x ≡ y = is in cc
least-called running (y ∷ z ∷ w ∷ xs) x fits is = absurd (grind (arith, nat_tests))

pub greatest-called : (running : Bool) (xs : List Value) (x : Value)
    → store_fits StoreFunction.MaxHistory (length xs) ≡ true → x ≡ get_or xs 0 x
    → call_with StoreFunction.MaxHistory running (views xs)
    ≡ bound_call HistoryBound.Greatest (view x) (option_map view (slice_get xs 1))
greatest-called running [] x fits is = absurd (grind (arith, nat_tests))
greatest-called running (y ∷ []) x fits is = let same : x ≡ y = is in cc
greatest-called running (y ∷ z ∷ []) x fits is = let same : x ≡ y = is in cc
greatest-called running (y ∷ z ∷ w ∷ xs) x fits is = absurd (grind (arith, nat_tests))

pub atom-called : (running : Bool) (xs : List Value) (x : Value)
    → store_fits StoreFunction.Atom (length xs) ≡ true → x ≡ get_or xs 0 x
    → call_with StoreFunction.Atom running (views xs) ≡ atom_call (view x)
atom-called running [] x fits is = absurd (grind (arith, nat_tests))
atom-called running (y ∷ []) x fits is = let same : x ≡ y = is in cc
atom-called running (y ∷ z ∷ xs) x fits is = absurd (grind (arith, nat_tests))

pub swap-called : (running : Bool) (xs : List Value) (x y : Value)
    → store_fits StoreFunction.Swap (length xs) ≡ true → x ≡ get_or xs 0 x → y ≡ get_or xs 1 y
    → call_with StoreFunction.Swap running (views xs) ≡ swap_by_value (view x) (view y)
swap-called running [] x y fits first is = absurd (grind (arith, nat_tests))
swap-called running (u ∷ []) x y fits first is = absurd (grind (arith, nat_tests))
swap-called running (u ∷ v ∷ xs) x y fits first is =
    let one : x ≡ u = first in let other : y ≡ v = is in cc

pub reset-called : (running : Bool) (xs ys : List Value) (x y : Value)
    → store_fits StoreFunction.Reset (length xs) ≡ true → y ≡ get_or xs 1 y
    → ys ≡ take 1 xs ++ drop 2 xs → x ≡ get_or ys 0 x
    → call_with StoreFunction.Reset running (views xs) ≡ reset_call (view x) (view y)
reset-called running [] ys x y fits is left first = absurd (grind (arith, nat_tests))
reset-called running (u ∷ []) ys x y fits is left first = absurd (grind (arith, nat_tests))
reset-called running (u ∷ v ∷ []) ys x y fits is left first =
    let one : ys ≡ u ∷ [] = left in
    let same : x ≡ u = rw one at first in
    let other : y ≡ v = is in cc
reset-called running (u ∷ v ∷ w ∷ xs) ys x y fits is left first = absurd (grind (arith, nat_tests))

pub compare-called : (running : Bool) (xs ys zs : List Value) (x y z : Value)
    → store_fits StoreFunction.CompareAndSet (length xs) ≡ true → z ≡ get_or xs 2 z
    → ys ≡ take 2 xs ++ drop 3 xs → y ≡ get_or ys 1 y → zs ≡ take 1 ys ++ drop 2 ys → x ≡ get_or zs 0 x
    → call_with StoreFunction.CompareAndSet running (views xs) ≡ compare_and_set_call (view x) (view y) (view z)
compare-called running [] ys zs x y z fits is left seen rest first = absurd (grind (arith, nat_tests))
compare-called running (u ∷ []) ys zs x y z fits is left seen rest first = absurd (grind (arith, nat_tests))
compare-called running (u ∷ v ∷ []) ys zs x y z fits is left seen rest first = absurd (grind (arith, nat_tests))
compare-called running (u ∷ v ∷ w ∷ []) ys zs x y z fits is left seen rest first =
    let two : ys ≡ u ∷ v ∷ [] = left in
    let middle : y ≡ v = rw two at seen in
    let one : zs ≡ u ∷ [] = rw two at rest in
    let same : x ≡ u = rw one at first in
    let last : z ≡ w = is in cc
compare-called running (u ∷ v ∷ w ∷ t ∷ xs) ys zs x y z fits is left seen rest first = absurd (grind (arith, nat_tests))

pub agent-called : (running : Bool) (xs : List Value) (x : Value)
    → store_fits StoreFunction.Agent (length xs) ≡ true → x ≡ get_or xs 0 x
    → call_with StoreFunction.Agent running (views xs) ≡ agent_call (view x)
agent-called running [] x fits is = absurd (grind (arith, nat_tests))
agent-called running (y ∷ []) x fits is = let same : x ≡ y = is in cc
agent-called running (y ∷ z ∷ xs) x fits is = absurd (grind (arith, nat_tests))

pub error-called : (running : Bool) (xs : List Value) (x : Value)
    → store_fits StoreFunction.AgentError (length xs) ≡ true → x ≡ get_or xs 0 x
    → call_with StoreFunction.AgentError running (views xs) ≡ agent_error_call (view x)
error-called running [] x fits is = absurd (grind (arith, nat_tests))
error-called running (y ∷ []) x fits is = let same : x ≡ y = is in cc
error-called running (y ∷ z ∷ xs) x fits is = absurd (grind (arith, nat_tests))

pub restart-called : (running : Bool) (xs ys : List Value) (x y : Value)
    → store_fits StoreFunction.RestartAgent (length xs) ≡ true → y ≡ get_or xs 1 y
    → ys ≡ take 1 xs ++ drop 2 xs → x ≡ get_or ys 0 x
    → call_with StoreFunction.RestartAgent running (views xs) ≡ restart_agent_call (view x) (view y)
restart-called running [] ys x y fits is left first = absurd (grind (arith, nat_tests))
restart-called running (u ∷ []) ys x y fits is left first = absurd (grind (arith, nat_tests))
restart-called running (u ∷ v ∷ []) ys x y fits is left first =
    let one : ys ≡ u ∷ [] = left in
    let same : x ≡ u = rw one at first in
    let other : y ≡ v = is in cc
restart-called running (u ∷ v ∷ w ∷ xs) ys x y fits is left first = absurd (grind (arith, nat_tests))

pub send-called : (running : Bool) (xs : List Value) (x y : Value)
    → store_fits StoreFunction.Send (length xs) ≡ true → x ≡ get_or xs 0 x → y ≡ get_or xs 1 y
    → call_with StoreFunction.Send running (views xs) ≡ send_by_value Dispatch.Send (view x) (view y)
send-called running [] x y fits first is = absurd (grind (arith, nat_tests))
send-called running (u ∷ []) x y fits first is = absurd (grind (arith, nat_tests))
send-called running (u ∷ v ∷ xs) x y fits first is =
    let one : x ≡ u = first in let other : y ≡ v = is in cc

pub send-off-called : (running : Bool) (xs : List Value) (x y : Value)
    → store_fits StoreFunction.SendOff (length xs) ≡ true → x ≡ get_or xs 0 x → y ≡ get_or xs 1 y
    → call_with StoreFunction.SendOff running (views xs) ≡ send_by_value Dispatch.SendOff (view x) (view y)
send-off-called running [] x y fits first is = absurd (grind (arith, nat_tests))
send-off-called running (u ∷ []) x y fits first is = absurd (grind (arith, nat_tests))
send-off-called running (u ∷ v ∷ xs) x y fits first is =
    let one : x ≡ u = first in let other : y ≡ v = is in cc

pub await-called : (running : Bool) (ds : List Datum)
    → call_with StoreFunction.Await running ds ≡ await_call running ds
await-called running ds = refl

-- the calls of all functions
pub ruleset calls = (
  ref-called,
  deref-called,
  set-called,
  alter-called,
  commute-called,
  ensure-called,
  count-called,
  least-called,
  greatest-called,
  atom-called,
  swap-called,
  reset-called,
  compare-called,
  agent-called,
  error-called,
  restart-called,
  send-called,
  send-off-called,
  await-called,
)

-- In the text of the shared namespace

pub plain-ref-called : (xs : List Value) (x : Value) → length xs ≡ 1 → x ≡ get_or xs 0 x
    → shared_call_with StoreFunction.Ref (views xs) ≡ plain_ref_call (view x)
plain-ref-called [] x one is = absurd (omega (arith, one))
plain-ref-called (y ∷ []) x one is = let same : x ≡ y = is in cc
plain-ref-called (y ∷ z ∷ xs) x one is = absurd (omega (arith, one))

pub options-refused : (xs : List Value) → store_fits StoreFunction.Ref (length xs) ≡ true → length xs ≢ 1
    → shared_call_with StoreFunction.Ref (views xs) ≡ Err (broken_rule Rule.SharedTextDefinesAlone)
options-refused [] fits other = absurd (grind (arith, nat_tests))
options-refused (y ∷ []) fits other = absurd (other refl)
options-refused (y ∷ z ∷ xs) fits other = refl

pub shared-deref-called : (xs : List Value) (x : Value)
    → store_fits StoreFunction.Deref (length xs) ≡ true → x ≡ get_or xs 0 x
    → shared_call_with StoreFunction.Deref (views xs) ≡ deref_call (view x)
shared-deref-called [] x fits is = absurd (grind (arith, nat_tests))
shared-deref-called (y ∷ []) x fits is = let same : x ≡ y = is in cc
shared-deref-called (y ∷ z ∷ xs) x fits is = absurd (grind (arith, nat_tests))

pub ruleset shared_calls = (plain-ref-called, options-refused, shared-deref-called)
