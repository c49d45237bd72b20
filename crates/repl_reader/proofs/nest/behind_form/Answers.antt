use Rattle.std.proofs.Common.{ap}
use Rattle.value_data.specs.Inside.View.{view}
use Rattle.repl_reader.specs.Inside.View.{form_reading_view}
use Rattle.repl_reader.proofs.nest.behind_form.Goals as goal

pub returns-in-Form : goal.returns-in-Form
returns-in-Form c = (view c.in-Form.field-0, ap form_reading_view c.in-Form.is)
