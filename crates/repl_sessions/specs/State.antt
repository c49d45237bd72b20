-- What a session remembers (the Clojure reference, The REPL and main entry points: `*ns*`, `*1`,
-- `*2`, `*3` and `*e`).
use Rattle.std.specs.Prelude.{ℕ, List, codes}
use Rattle.value_data.specs.Datum as datum
use Rattle.value_data.specs.Datum.{Datum, nil}

pub record StateData : Type 0 where
  -- the name of the namespace
  pub namespace : List ℕ
  -- the last three values, the newest first: `*1`, `*2`, `*3`
  pub one : Datum
  pub two : Datum
  pub three : Datum
  -- the last fault: `*e`
  pub fault : Datum

abbrev pub fresh : StateData
fresh = record { namespace = codes "user"; one = nil; two = nil; three = nil; fault = nil }

-- a value becomes `*1`; what was `*1` becomes `*2`, and what was `*2` becomes `*3`
abbrev pub after_value : Datum → StateData → StateData
after_value value s = record s { one = value; two = s.one; three = s.two }

-- a fault of this class and text becomes `*e`, and moves no value
abbrev pub after_fault : List ℕ → List ℕ → StateData → StateData
after_fault class text s = record s { fault = datum.fault class text }

abbrev pub in_namespace : List ℕ → StateData → StateData
in_namespace name s = record s { namespace = name }
