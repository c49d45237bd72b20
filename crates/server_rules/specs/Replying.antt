-- The replies to a request to evaluate (the nREPL manual, "Supported nREPL operations", `eval` and
-- `load-file`).
use Rattle.std.specs.Prelude.{ℕ, List, [], ◌∷◌, ◌++◌, codes}
use Rattle.value_data.specs.Datum.{Datum}
use Rattle.repl_values.specs.Print.{print}
use Rattle.repl_values.specs.Failure.{Failure}
use Rattle.repl_replies.specs.Replies.{OriginData, BodyData, value, output, exception, error_text}
use Rattle.repl_replies.specs.Replies.{ReplyData}

abbrev pub reply : OriginData → BodyData → ReplyData
reply origin body = record { origin = origin; body = body }

-- a fault is told twice: its class, and the whole as a line of text
abbrev pub fault_line : Failure → List ℕ
fault_line f = f.class ++ codes ": " ++ f.text ++ codes "\n"

abbrev pub fault_replies : OriginData → Failure → List ReplyData
fault_replies origin f =
    reply origin (exception f.class) ∷ reply origin (error_text (fault_line f)) ∷ []

-- what was printed, if that is anything
abbrev pub output_replies : OriginData → List ℕ → List ReplyData
output_replies origin [] = []
output_replies origin (byte ∷ bytes) = reply origin (output (byte ∷ bytes)) ∷ []

abbrev pub value_reply : OriginData → List ℕ → Datum → ReplyData
value_reply origin namespace d = reply origin (value (print d) namespace)
