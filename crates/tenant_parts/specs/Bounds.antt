-- What is asked of the bounds of a ref's history.
use Rattle.std.specs.Prelude.{ℕ, Bool, true, false, Option, None, Some, is_some}
use Rattle.value_data.specs.Datum.{OwnerData, shared, tenant}
use Rattle.repl_asks.specs.Transactions.{RefNameData}
use Rattle.ref_table.specs.Calls.{StoreCall, tells_least, tells_most, sets_least, sets_most}
use Rattle.ref_history.specs.Versioned.{Ref}

abbrev pub least_call : RefNameData → Option ℕ → StoreCall
least_call name None = tells_least name
least_call name (Some n) = sets_least name n

abbrev pub most_call : RefNameData → Option ℕ → StoreCall
most_call name None = tells_most name
most_call name (Some n) = sets_most name n

-- whether a bound is told, or set; those of a shared ref are not set
abbrev pub is_bounded : Bool → OwnerData → Option Ref → Bool
is_bounded true shared r = false
is_bounded true (tenant t) r = is_some r
is_bounded false owner r = is_some r
