-- When two attempts at one body see the same, as far as both go.
use Rattle.std.specs.Prelude.{◌≡◌, ◌⊎◌, ⊤, ℕ, List, [], ◌∷◌, ◌++◌, Bool, true, false, if◌then◌else◌}
use Rattle.value_data.specs.Datum.{Datum, nil}
use Rattle.repl_asks.specs.Transactions.{RefNameData}
use Rattle.repl_asks.specs.Exchange.{AskData, AnswerData, read, history, min_history, max_history}
use Rattle.repl_asks.specs.Exchange.{reading, retry, Exchanged}
use Rattle.evaluation_rules.specs.Arguments.{is_shared}
use Rattle.evaluation_rules.specs.Doing.{Kept, Doing}
use Rattle.evaluation_rules.specs.Places.{PlaceData}
use Rattle.evaluation_rules.specs.Rows.{value_of_last}
use Rattle.evaluation_rules.specs.Transactions.{body_of}
use Rattle.evaluation_rules.specs.Evaluation.{value_at}
use Rattle.repl_walker.specs.Attempts.{AsksThese, answers_in}
use Rattle.repl_walker.specs.Standing.{standing_after}
use Rattle.repl_walker.specs.Values.{values_after}

-- whether an ask names a ref that all tenants share: in a body none commits
abbrev pub names_shared : AskData → Bool
names_shared (read name) = is_shared name.owner
names_shared (history name) = is_shared name.owner
names_shared (min_history name set) = is_shared name.owner
names_shared (max_history name set) = is_shared name.owner
names_shared ask = false

-- the answers to the asks that name none, in order
abbrev pub own_answers : List Exchanged → List AnswerData
own_answers [] = []
own_answers (x ∷ xs) = if names_shared x.ask then own_answers xs else x.answer ∷ own_answers xs

abbrev pub IsToReadAgain : Exchanged → Type 0
IsToReadAgain x = (name : RefNameData) × (x.ask ≡ read name) × (x.answer ≡ reading retry)

-- An ask that names a shared ref is answered so, unless it reads and is to read again.
abbrev pub IsToldBy : (AskData → AnswerData) → Exchanged → Type 0
IsToldBy told x = names_shared x.ask ≡ true → (x.answer ≡ told x.ask) ⊎ IsToReadAgain x

abbrev pub AreToldBy : (AskData → AnswerData) → List Exchanged → Type 0
AreToldBy told [] = ⊤
AreToldBy told (x ∷ xs) = IsToldBy told x × AreToldBy told xs

-- the first list begins with the second, or the second with the first
abbrev pub OneBegins : {A : Type 0} → List A → List A → Type 0
OneBegins {A} xs ys = ((rest : List A) × (xs ≡ ys ++ rest)) ⊎ ((rest : List A) × (ys ≡ xs ++ rest))

-- the body of a `dosync` with these forms, in a place, with so much room, and with what was kept
-- where it began
abbrev pub dosync_body : ℕ → PlaceData → List Datum → Kept → Doing
dosync_body room p forms begun = body_of (value_of_last (value_at room p) nil forms) begun

-- Two attempts at one `dosync` with the same setting, whatever was printed before each. Where shared
-- refs told both the same, and their own answers are equal one by one as far as both have one, the
-- values that one saw begin those that the other saw.
abbrev pub AgreeingAttempts : Type 0
AgreeingAttempts =
    (room : ℕ) (p : PlaceData) (forms : List Datum) (begun : Kept) (told : AskData → AnswerData)
    (printed other : List ℕ) (xs ys : List Exchanged)
    → let body = dosync_body room p forms begun in
    AsksThese (standing_after printed [] body) xs → AsksThese (standing_after other [] body) ys
    → AreToldBy told xs → AreToldBy told ys → OneBegins (own_answers xs) (own_answers ys)
    → OneBegins (values_after printed body (answers_in xs)) (values_after other body (answers_in ys))
