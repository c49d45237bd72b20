-- Where a commit puts its values.
use Rattle.std.specs.Prelude.{◌≡◌, ◌≢◌, ℕ, List, [], ◌∷◌, Option, None, Some, ⊤, All}
use Rattle.std.specs.Prelude.{Bool, true, not, ◌&&◌, ◌++◌, Result, Ok}
use Rattle.std.specs.List.{list_any}
use Rattle.value_data.specs.Datum.{Datum}
use Rattle.value_data.specs.Inside.View.{view}
use Rattle.repl_values.specs.Failure.{Failure, ◌>>=◌}
use Rattle.repl_asks.specs.Transactions.{ChangeData}
use Rattle.ref_history.specs.Versioned.{Ref, with_version}
use Rattle.ref_history.specs.Changes.{Changed}
use Rattle.ref_history.specs.Effects.{version}
use Rattle.ref_history.specs.declared.ref_id.RefId.{RefId}
use Rattle.ref_table.specs.Directory.{id_named}
use Rattle.ref_table.specs.declared.directory.Directory.{Directory}
use Rattle.ref_table.specs.declared.placing.Placed.{Placed}

-- an id and the value that its ref gets
abbrev pub placed_view : Placed → RefId × Datum
placed_view p = (p.id, view p.value)

abbrev pub with_place : Option RefId → Datum → List (RefId × Datum) → List (RefId × Datum)
with_place None d rest = rest
with_place (Some id) d rest = (id, d) ∷ rest

-- each change with the id of its ref, where it is there
abbrev pub placed_changes : Directory → ℕ → List ChangeData → List (RefId × Datum)
placed_changes d caller [] = []
placed_changes d caller (c ∷ cs) =
    with_place (id_named d caller c.name) c.now (placed_changes d caller cs)

-- where what is set goes, and what was folded behind it
abbrev pub all_placed
    : Directory → ℕ → List ChangeData → Result (List ChangeData) Failure
    → Result (List (RefId × Datum)) Failure
all_placed d caller sets folds = folds >>= λ changes. Ok (placed_changes d caller (sets ++ changes))

-- no two are the same
abbrev pub all_distinct : {K : Type 0} → (K → K → Bool) → List K → Bool
all_distinct same [] = true
all_distinct same (k ∷ ks) = not (list_any (same k) ks) && all_distinct same ks

-- the places have room, and no two are the same
abbrev pub HaveRoom : {H : Type 0} → (H → RefId → Type 0) → H → List Placed → Type 0
HaveRoom has_room h [] = ⊤
HaveRoom has_room h (p ∷ ps) =
    has_room h p.id × All (λ q. q.id ≢ p.id) ps × HaveRoom has_room h ps

-- one after the other gets a version with this stamp
abbrev pub AddsAll : {H : Type 0} → (H → RefId → Ref → Type 0) → ℕ → H → List Placed → H → Type 0
AddsAll stands stamp old [] new = old ≡ new
AddsAll stands stamp old (p ∷ ps) new = (next : _)
    × Changed p.id (with_version (version stamp (view p.value))) (stands old) (stands next)
    × AddsAll stands stamp next ps new
