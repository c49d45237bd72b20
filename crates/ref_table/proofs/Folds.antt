-- What commutes come to, in order.
use Rattle.std.proofs.Common.{◌≡◌, List, [], ◌∷◌, map, Option, refl, sym, ap, ◌∙◌}
use Rattle.std.specs.Prelude.{Result, Ok, Err}
use Rattle.value_data.specs.Datum.{Datum}
use Rattle.repl_values.specs.Failure.{Failure, ◌>>=◌}
use Rattle.repl_asks.specs.Transactions.{RefNameData, ChangeData, CommutedData}
use Rattle.ref_table.specs.Commit.{folded_from, all_folded}

abbrev pub in_front
    : RefNameData → Result Datum Failure → Result (List ChangeData) Failure
    → Result (List ChangeData) Failure
in_front name first rest =
    first >>= λ d. (rest >>= λ changes. Ok (record { name = name; now = d } ∷ changes))

ok-same : {A : Type 0} (x y : A) → ◌≡◌ {A = Result A Failure} (Ok x) (Ok y) → x ≡ y
ok-same x y e = cc

-- each gets a value
pub folded-names
    : (value : RefNameData → Option Datum) (cs : List CommutedData) (changes : List ChangeData)
    → all_folded value cs ≡ Ok changes → map (λ c. c.name) changes ≡ map (λ c. c.name) cs
folded-names value [] changes e = ap (map (λ c. c.name)) (sym (ok-same [] changes e))
folded-names value (c ∷ cs) changes e =
    by (folded_from c (value c.name)) (all_folded value cs) (folded-names value cs) e where
      by : (first : Result Datum Failure) (rest : Result (List ChangeData) Failure)
          → ((ds : List ChangeData) → rest ≡ Ok ds
          → map (λ c. c.name) ds ≡ map (λ c. c.name) cs)
          → in_front c.name first rest ≡ Ok changes
          → map (λ c. c.name) changes ≡ c.name ∷ map (λ c. c.name) cs
      by (Err f) rest behind e = cc
      by (Ok d) (Err f) behind e = cc
      by (Ok d) (Ok ds) behind e =
          ap (map (λ c. c.name)) (sym (ok-same (record { name = c.name; now = d } ∷ ds) changes e))
          ∙ ap (λ ns. c.name ∷ ns) (behind ds refl)
