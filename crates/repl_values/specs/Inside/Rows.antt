-- The items that the code goes by.
use Rattle.std.specs.Prelude.{List, [], Option, Some, None, map}
use denote.Ref.{Bor}
use Rattle.value_data.specs.Datum.{Datum, Pairs}
use Rattle.value_data.specs.Inside.Held.{SequenceData}
use Rattle.value_data.specs.Listed.{listed, pairs_listed, vector_of_two}
use Rattle.repl_values.specs.declared.row.ItemRow.{ItemRow}

abbrev pub pair_vectors : Pairs → List Datum
pair_vectors ps = map vector_of_two (pairs_listed ps)

abbrev pub row_view : ItemRow → List Datum
row_view ItemRow.NoItems = []
row_view (ItemRow.Items s) = listed s.now.items
row_view (ItemRow.Pairs t) = pair_vectors t.now.pairs

-- a list or a vector, or nothing
abbrev pub listed_in : Option (Bor SequenceData) → List Datum
listed_in None = []
listed_in (Some s) = listed s.now.items
