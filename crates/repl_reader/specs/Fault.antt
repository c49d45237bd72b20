-- What a text can be refused for, and what is reported then.
use Rattle.std.specs.Prelude.{ℕ, List, ◌++◌, codes}
use Rattle.repl_reader.specs.declared.fault.FaultKind.{FaultKind}
use Rattle.repl_reader.specs.declared.fault.FaultKind.TheVariants.{Eof, Unmatched, BadNumber}
use Rattle.repl_reader.specs.declared.fault.FaultKind.TheVariants.{BadToken, BadEscape, BadDispatch}
use Rattle.repl_reader.specs.declared.fault.FaultKind.TheVariants.{BadChar, OddMap, SameKey}
use Rattle.repl_reader.specs.declared.fault.FaultKind.TheVariants.{TooDeep}

abbrev pub class_of : FaultKind → List ℕ
class_of Eof = codes "java.lang.RuntimeException"
class_of Unmatched = codes "java.lang.RuntimeException"
class_of BadNumber = codes "java.lang.NumberFormatException"
class_of BadToken = codes "java.lang.RuntimeException"
class_of BadEscape = codes "java.lang.RuntimeException"
class_of BadDispatch = codes "java.lang.RuntimeException"
class_of BadChar = codes "java.lang.RuntimeException"
class_of OddMap = codes "java.lang.RuntimeException"
class_of SameKey = codes "java.lang.IllegalArgumentException"
class_of TooDeep = codes "java.lang.RuntimeException"

-- what the message of a kind begins with
abbrev pub fault_message : FaultKind → List ℕ
fault_message Eof = codes "EOF while reading"
fault_message Unmatched = codes "Unmatched delimiter: "
fault_message BadNumber = codes "Invalid number: "
fault_message BadToken = codes "Invalid token: "
fault_message BadEscape = codes "Unsupported escape character: \\"
fault_message BadDispatch = codes "No dispatch macro for: "
fault_message BadChar = codes "Unsupported reader character: "
fault_message OddMap = codes "Map literal must contain an even number of forms"
fault_message SameKey = codes "Duplicate key: "
fault_message TooDeep = codes "Nested too deep"

-- a fault of a text: which rule, the byte offset, and the message
pub record FaultData : Type 0 where
  pub kind : FaultKind
  pub at : ℕ
  pub text : List ℕ

-- the same, its place told by how many bytes of the text are left from there
pub record BreakData : Type 0 where
  pub kind : FaultKind
  pub left : ℕ
  pub text : List ℕ

-- a fault whose message ends in what was found
unfoldable pub break_of : FaultKind → ℕ → List ℕ → BreakData
break_of kind left found = record { kind = kind; left = left; text = fault_message kind ++ found }
