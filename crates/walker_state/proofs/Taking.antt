-- Arguments that are counted and taken out.
use Rattle.std.proofs.Common.{◌≡◌, ℕ, true, false, length, get_or, drop, List, [], ◌∷◌, refl, arith}
use Rattle.std.specs.Prelude.{◌==◌}
use Rattle.std.proofs.lemmas.Bool.Decides.{nat_tests}
use Rattle.std.proofs.lemmas.List.{length-map}
use Rattle.value_data.specs.Inside.View.{view, views}
use Rattle.value_data.specs.declared.value.Value.{Value}

-- as many parameters as there are names
pub ruleset lengths = (length-map)

-- the arguments of a call, of which the first was taken out
pub no_items : (vs : List Value) (n : ℕ) → n ≡ length vs → true ≡ (n == 0) → vs ≡ []
no_items [] n same test = refl
no_items (v ∷ vs) n same test =
    let none : n ≡ 0 = grind (arith, nat_tests, test) in
    absurd (omega (arith, same, none))

pub first-removed : (vs ws : List Value) (v : Value) (n : ℕ) → n ≡ length vs → false ≡ (n == 0) → v ≡ get_or vs 0 v → ws ≡ drop 1 vs
    → views vs ≡ view v ∷ views ws
first-removed [] ws v n same test is rest =
    let none : n ≡ 0 = same in absurd (grind (arith, nat_tests, test, none))
first-removed (u ∷ us) ws v n same test is rest =
    let first : v ≡ u = is in
    let others : ws ≡ us = rest in
    rw (first, others) refl
