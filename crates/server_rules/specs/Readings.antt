-- How bytes are read: a stream as its messages (BEP 3), a program's text as its forms (the Clojure
-- reference, The Reader). Each is a relation with exactly one answer for all bytes; here the
-- answers are the values of functions.
use Rattle.std.specs.Prelude.{ℕ, List, Option}
use Rattle.bencode_wire.specs.Tree.{Tree}
use Rattle.bencode_wire.specs.Stream.{StreamEnding, Streams}
use Rattle.value_data.specs.Datum.{Items}
use Rattle.repl_values.specs.Failure.{Failure}
use Rattle.repl_reader.specs.Fault.{FaultData, class_of}
use Rattle.repl_reader.specs.Grammar.{IsReading}
use Rattle.server_rules.specs.declared.limits.TheConstants.{MESSAGE_LIMIT}

-- the whole messages of a stream, and how it ends
pub record StreamData : Type 0 where
  pub messages : List Tree
  pub ending : StreamEnding

-- the forms of a text before its first fault, and that fault
pub record ProgramData : Type 0 where
  pub forms : Items
  pub fault : Option FaultData

-- the fault of a program's text, as a fault of evaluation is told
abbrev pub text_failure : FaultData → Failure
text_failure f = record { class = class_of f.kind; text = f.text }

pub record Readings : Type 0 where
  pub stream : List ℕ → StreamData
  pub program : List ℕ → ProgramData

-- the greatest length of a message, and of a string in one
abbrev pub message_limit : ℕ
message_limit = MESSAGE_LIMIT

pub record AreRight (r : Readings) : Type 0 where
  pub stream : (bytes : List ℕ)
      → Streams message_limit 0 bytes (r.stream bytes).messages (r.stream bytes).ending
  pub program : (text : List ℕ) → IsReading text (r.program text).forms (r.program text).fault
