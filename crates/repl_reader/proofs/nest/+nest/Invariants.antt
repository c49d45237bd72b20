use Rattle.std.proofs.Common.{◌+◌, ◌-◌, ◌*◌, ◌≤◌, length, map}
use Rattle.std.specs.Str.{IsUtf8}
use Rattle.value_data.specs.Datum.{Items}
use Rattle.value_data.specs.Inside.View.{view}
use Rattle.repl_reader.specs.Reading.{FormReading}
use Rattle.repl_reader.specs.Grammar.{Reads, ReadsRow}
use Rattle.repl_reader.proofs.Rows.{onto}
use Rattle.repl_reader.proofs.Owed.{Owed}
use Rattle.repl_reader.proofs.nest.+nest.Given as goal

abbrev pub decreases-read_row : goal.decreases-read_row
decreases-read_row l = 5 * (65 - l.depth) + 4

abbrev pub decreases-read_form : goal.decreases-read_form
decreases-read_form l = 5 * (65 - l.depth) + 3

abbrev pub decreases-read_front : goal.decreases-read_front
decreases-read_front l = 5 * (65 - l.depth) + 2

abbrev pub decreases-read_marked : goal.decreases-read_marked
decreases-read_marked l = 5 * (65 - l.depth) + 1

abbrev pub decreases-read_enclosed : goal.decreases-read_enclosed
decreases-read_enclosed l = 5 * (65 - l.depth) + 1

-- forms that follow here make a row with those so far
abbrev pub invariant-read_row-loop-forms : goal.invariant-read_row-loop-forms
invariant-read_row-loop-forms l = record {
  utf8 : IsUtf8 l.text;
  rows : (ds : Items) (r : FormReading) → ReadsRow l.depth l.text ds r → ReadsRow l.depth l.fn.text (onto (map view l.forms.items) ds) r;
}

abbrev pub decreases-read_row-loop-forms : goal.decreases-read_row-loop-forms
decreases-read_row-loop-forms l = length l.text

-- what is read here, behind the forms that are to be dropped, is read from the start
abbrev pub invariant-read_form-loop-rest : goal.invariant-read_form-loop-rest
invariant-read_form-loop-rest l = record {
  utf8 : IsUtf8 l.text;
  bound : l.to_drop + length l.text ≤ length l.fn.text;
  owed : (r : FormReading) → Owed l.depth l.to_drop l.text r → Reads l.depth l.fn.text r;
}

abbrev pub decreases-read_form-loop-rest : goal.decreases-read_form-loop-rest
decreases-read_form-loop-rest l = length l.text
