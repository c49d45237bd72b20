use Rattle.std.proofs.Common.{List, Option, ap₂}
use Rattle.bencode_wire.specs.Tree.{Tree}
use Rattle.bencode_wire.specs.Stream.{StreamEnding}
use Rattle.value_data.specs.Datum.{Items}
use Rattle.repl_reader.specs.Fault.{FaultData}
use Rattle.server_rules.specs.Readings.{Readings, StreamData, ProgramData, message_limit}
use Rattle.server_rules.proofs.laws.there_is_one_right_reading.Goals as goal

read_so : List Tree → StreamEnding → StreamData
read_so messages ending = record { messages = messages; ending = ending }

program_of : Items → Option FaultData → ProgramData
program_of forms fault = record { forms = forms; fault = fault }

pub returns-clause-there : goal.returns-clause-there
unfolding read_so program_of
returns-clause-there c =
    let streams = c.every_stream_reads.ensures in
    let programs = c.every_text_reads.ensures in
    let r : Readings = record {
      stream = λ bytes. read_so (streams message_limit bytes).0 (streams message_limit bytes).1;
      program = λ text. program_of (programs text).0 (programs text).1;
    } in
    (r, record { stream = λ bytes. (streams message_limit bytes).2; program = λ text. (programs text).2 })

pub returns-clause-one : goal.returns-clause-one
unfolding read_so program_of
returns-clause-one c = λ r q right other. (
  λ bytes.
      let same = c.a_stream_has_one_reading.ensures message_limit bytes _ _ _ _ (right.stream bytes) (other.stream bytes) in
      ap₂ read_so same.0 same.1,
  λ text.
      let same = c.readings_are_unique.ensures text _ _ _ _ (right.program text) (other.program text) in
      ap₂ program_of same.0 same.1,
)
