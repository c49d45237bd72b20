-- The agents that are awaited, one after another.
use Rattle.std.proofs.Common.{◌≡◌, ◌<◌, ◌+◌, ℕ, suc, List, [], ◌∷◌, ◌++◌, get_or, drop, length, Result}
use Rattle.std.proofs.Common.{Ok, Err, refl, ap, sym, ◌∙◌, append_assoc, arith}
use Rattle.std.proofs.Math.Seq.{drop-cons}
use Rattle.std.proofs.lemmas.List.{append-nil}
use Rattle.value_data.specs.Inside.View.{view, views}
use Rattle.value_data.specs.declared.value.Value.{Value}
use Rattle.repl_values.specs.Failure.{Failure, ◌>>=◌}
use Rattle.core_functions.specs.declared.store.StoreFunction.{StoreFunction}
use Rattle.evaluation_rules.specs.Arguments.{agent_in}
use Rattle.evaluation_rules.specs.Calling.{agents_in}

-- these numbers, and those of the agents that are left
abbrev pub behind : List ℕ → List Value → Result (List ℕ) Failure
behind numbers left = agents_in (views left) >>= λ ns. Ok (numbers ++ ns)

joined : (numbers : List ℕ) (n : ℕ) (r : Result (List ℕ) Failure)
    → ((r >>= λ ns. Ok (n ∷ ns)) >>= λ ns. Ok (numbers ++ ns))
    ≡ (r >>= λ ns. Ok ((numbers ++ n ∷ []) ++ ns))
joined numbers n (Ok ns) = ap Ok (sym (append_assoc numbers (n ∷ []) ns))
joined numbers n (Err f) = refl

pub one-more : (xs : List Value) (i : ℕ) (d : Value) (numbers : List ℕ) (n : ℕ) → i < length xs
    → agent_in StoreFunction.Await (view (get_or xs i d)) ≡ Ok n
    → behind numbers (drop i xs) ≡ behind (numbers ++ n ∷ []) (drop (i + 1) xs)
one-more xs i d numbers n within is =
    let next : i + 1 ≡ suc i = omega arith in
    ap (behind numbers) (drop-cons xs i d within)
    ∙ ap (λ r. (r >>= λ m. (agents_in (views (drop (suc i) xs)) >>= λ ns. Ok (m ∷ ns)))
    >>= λ ns. Ok (numbers ++ ns)) is
    ∙ joined numbers n (agents_in (views (drop (suc i) xs)))
    ∙ ap (λ j. behind (numbers ++ n ∷ []) (drop j xs)) (sym next)

pub one-refused : (xs : List Value) (i : ℕ) (d : Value) (numbers : List ℕ) (f : Failure) → i < length xs
    → agent_in StoreFunction.Await (view (get_or xs i d)) ≡ Err f
    → behind numbers (drop i xs) ≡ Err f
one-refused xs i d numbers f within is =
    ap (behind numbers) (drop-cons xs i d within)
    ∙ ap (λ r. (r >>= λ m. (agents_in (views (drop (suc i) xs)) >>= λ ns. Ok (m ∷ ns)))
    >>= λ ns. Ok (numbers ++ ns)) is

pub none-left : (numbers : List ℕ) → behind numbers [] ≡ Ok numbers
none-left numbers = ap Ok (append-nil numbers)
