-- What comes of a call: what is told, if anything, and the store behind it.
use Rattle.std.specs.Prelude.{Option, Some}
use Rattle.repl_asks.specs.Exchange.{AnswerData}

pub record Performed (S : Type 0) : Type 0 where
  pub told : Option AnswerData
  pub store : S

abbrev pub as_was : {S : Type 0} → S → Option AnswerData → Performed S
as_was s told = record { told = told; store = s }

abbrev pub tells : {S : Type 0} → AnswerData → S → Performed S
tells answer s = record { told = Some answer; store = s }
