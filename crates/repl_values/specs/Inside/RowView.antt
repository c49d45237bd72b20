-- What a row of the code stands for.
use Rattle.repl_values.specs.FunctionRows.{FunctionRowData}
use Rattle.repl_values.specs.declared.function_row.FunctionRow.{FunctionRow}

abbrev pub function_row_view : FunctionRow → FunctionRowData
function_row_view r = record { name = r.name.now; arity = r.arity }
