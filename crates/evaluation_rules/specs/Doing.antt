-- What a part of an evaluation does until it is left. It sees neither the text that was printed
-- before it nor what an attempt has so far, unless it looks.
use Rattle.std.specs.Prelude.{ℕ, List, Bool}
use Rattle.value_data.specs.Datum.{Datum}
use Rattle.repl_values.specs.Failure.{Failure}
use Rattle.repl_asks.specs.Exchange.{AskData, AnswerData, ResolutionData, resolution_in}
use Rattle.repl_asks.specs.Accesses.{AccessData, AttemptData}
use Rattle.evaluation_rules.specs.declared.occasion.Occasion.{Occasion}

-- What an evaluation carries from form to form: the calls that it may still make, its namespace,
-- whether a transaction runs, how many attempts a transaction may make, and on which occasion it is
-- made.
pub record Kept : Type 0 where
  pub calls : ℕ
  pub namespace : List ℕ
  pub running : Bool
  pub retries : ℕ
  pub occasion : Occasion

-- how a part is left
pub data Exit : Type 0 where
  gave : Datum → Exit
  failed : Failure → Exit
  -- the attempt that it belongs to is over, and the next is to be made
  retried : Exit

pub data Doing : Type 0 where
  left : Exit → Kept → Doing
  asking : AskData → (AnswerData → Doing) → Doing
  printing : List ℕ → Kept → Doing → Doing
  -- at what the attempt has so far
  looking : (AttemptData → Doing) → Doing
  -- one more access of the attempt
  noting : AccessData → Doing → Doing
  -- an attempt has begun: its body by itself, and what goes on
  trying : Doing → Doing → Doing

-- a part of an evaluation, which gives an A: by what is done with it, and from there, the whole
abbrev pub Part : Type 0 → Type 0
Part A = (A → Kept → Doing) → Kept → Doing

-- one part, and then the next with what the first gave
infixl 10 ◌|>◌
abbrev pub ◌|>◌ : {A B : Type 0} → Part A → (A → Part B) → Part B
◌|>◌ part behind next kept = part (λ a. behind a next) kept

abbrev pub pure_part : {A : Type 0} → A → Part A
pure_part a next kept = next a kept

abbrev pub fails : {A : Type 0} → Failure → Part A
fails f next kept = left (failed f) kept

-- what a symbol names, by an ask
abbrev pub resolving : AskData → Part ResolutionData
resolving ask next kept = asking ask (λ answer. next (resolution_in answer) kept)
