-- What an attempt has once an access was noted.
use Rattle.std.proofs.Common.{◌≡◌, List, [], ◌∷◌, ◌++◌, Bool, not, Option, cond, refl}
use Rattle.std.proofs.Common.{ap, ap₂, ◌∙◌, Result, Ok, Err}
use Rattle.std.specs.Prelude.{OnErr}
use Rattle.value_data.specs.Datum.{Datum}
use Rattle.value_data.specs.declared.value.RefName.{RefName}
use Rattle.repl_asks.specs.Transactions.{RefNameData, CommuteData}
use Rattle.repl_asks.specs.Sends.{SendingData}
use Rattle.repl_asks.specs.Inside.View.{name_view}
use Rattle.tx_attempt.specs.declared.state.Mark.{Mark}
use Rattle.repl_asks.specs.Accesses.{got, put, commuted, ensured, noted}
use Rattle.tx_attempt.specs.Inside.States.{States, has_value, has_commute, marked}
use Rattle.tx_attempt.specs.Inside.Marks.{KeepsMark}
use Rattle.tx_attempt.proofs.Listed.{listed}
use Rattle.tx_attempt.proofs.Stated.{data_of, Restated, values-now, commutes-stay, commutes-more}

-- what holds holds behind an error
pub on-err : {A E P : Type 0} (r : Result A E) → P → OnErr r P
on-err (Ok a) p = tt
on-err (Err e) p = p

pub got-noted : (sends : List SendingData) (f g : States) (name : RefName) (d : Datum) (s e c : List RefName)
    → Restated f g (name_view name) (has_value d (f (name_view name)))
    → data_of sends g s e c ≡ noted (got (name_view name) d) (data_of sends f s e c)
unfolding noted
got-noted sends f g name d s e c now =
    let new = has_value d (f (name_view name)) in
    ap₂ (λ (v : RefNameData → Option Datum) (cs : RefNameData → List CommuteData). record (data_of sends f s e c) {
      value = v;
      commutes = cs;
    })
    (values-now f g (name_view name) new d now refl) (commutes-stay f g (name_view name) new now refl)

pub put-noted : (sends : List SendingData) (f g : States) (name : RefName) (d : Datum) (first : Bool) (s t e c : List RefName)
    → Restated f g (name_view name) (marked Mark.Set (has_value d (f (name_view name))))
    → first ≡ not (f (name_view name)).is_set → t ≡ cond first (s ++ name ∷ []) s
    → KeepsMark (λ x. x.is_set) f s
    → data_of sends g t e c ≡ noted (put (name_view name) d) (data_of sends f s e c)
unfolding noted
put-noted sends f g name d first s t e c now is more kept =
    let new = marked Mark.Set (has_value d (f (name_view name))) in
    ap₂ (λ (v : RefNameData → Option Datum) (cs : RefNameData → List CommuteData). record (data_of sends f t e c) {
      value = v;
      commutes = cs;
    })
    (values-now f g (name_view name) new d now refl) (commutes-stay f g (name_view name) new now refl)
    ∙ ap (λ (names : List RefNameData). record (noted (got (name_view name) d) (data_of sends f s e c)) { sets = names })
    (listed first (f (name_view name)).is_set name s t is (kept (name_view name)) more)

pub ensured-noted : (sends : List SendingData) (f g : States) (name : RefName) (d : Datum) (first : Bool) (s e r c : List RefName)
    → Restated f g (name_view name) (marked Mark.Ensure (has_value d (f (name_view name))))
    → first ≡ not (f (name_view name)).is_ensured → r ≡ cond first (e ++ name ∷ []) e
    → KeepsMark (λ x. x.is_ensured) f e
    → data_of sends g s r c ≡ noted (ensured (name_view name) d) (data_of sends f s e c)
unfolding noted
ensured-noted sends f g name d first s e r c now is more kept =
    let new = marked Mark.Ensure (has_value d (f (name_view name))) in
    ap₂ (λ (v : RefNameData → Option Datum) (cs : RefNameData → List CommuteData). record (data_of sends f s r c) {
      value = v;
      commutes = cs;
    })
    (values-now f g (name_view name) new d now refl) (commutes-stay f g (name_view name) new now refl)
    ∙ ap (λ (names : List RefNameData). record (noted (got (name_view name) d) (data_of sends f s e c)) { ensured = names })
    (listed first (f (name_view name)).is_ensured name e r is (kept (name_view name)) more)

pub commuted-noted : (sends : List SendingData) (f g : States) (name : RefName) (cd : CommuteData) (d : Datum) (first : Bool)
    (s e c b : List RefName)
    → Restated f g (name_view name) (has_value d (has_commute cd (f (name_view name))))
    → first ≡ not (f (name_view name)).is_commuted → b ≡ cond first (c ++ name ∷ []) c
    → KeepsMark (λ x. x.is_commuted) f c
    → data_of sends g s e b ≡ noted (commuted (name_view name) cd d) (data_of sends f s e c)
unfolding noted
commuted-noted sends f g name cd d first s e c b now is more kept =
    let new = has_value d (has_commute cd (f (name_view name))) in
    ap₂ (λ (v : RefNameData → Option Datum) (cs : RefNameData → List CommuteData). record (data_of sends f s e b) {
      value = v;
      commutes = cs;
    })
    (values-now f g (name_view name) new d now refl) (commutes-more f g (name_view name) new cd now refl)
    ∙ ap (λ (names : List RefNameData). record (noted (commuted (name_view name) cd d) (data_of sends f s e c)) { commuted = names })
    (listed first (f (name_view name)).is_commuted name c b is (kept (name_view name)) more)
