-- Attempts at one body that are told the same see the same.
use Rattle.std.proofs.Common.{◌≡◌, ◌∙◌, ℕ, ◌+◌, List, [], ◌∷◌, ◌++◌, length, filter_map, drop, nat_lt, Bool}
use Rattle.std.proofs.Common.{true, false, if◌then◌else◌, refl, sym, ap, subst, ◌⊎◌, inl, inr}
use Rattle.std.proofs.lemmas.List.Elements.{filter_map-append}
use Rattle.core_scalars.specs.Limits.{most_text}
use Rattle.repl_asks.specs.Transactions.{RefNameData}
use Rattle.repl_asks.specs.Exchange.{AskData, AnswerData, read, reading, retry, Exchanged}
use Rattle.repl_asks.specs.Accesses.{AccessData, value_accessed}
use Rattle.evaluation_rules.specs.Doing.{Kept, Doing, left, retried, asking, printing, looking, noting}
use Rattle.evaluation_rules.specs.Doing.{trying}
use Rattle.repl_walker.specs.Agreeing.{names_shared, own_answers, IsToReadAgain, IsToldBy, AreToldBy}
use Rattle.repl_walker.specs.Agreeing.{OneBegins, dosync_body, AgreeingAttempts}
use Rattle.repl_walker.specs.Attempts.{AsksThese, answers_in}
use Rattle.repl_walker.specs.Standing.{Standing, attempt_of, standing_after}
use Rattle.repl_walker.proofs.Retries.{Leaves, body-leaves}
use Rattle.repl_walker.proofs.Values.{Begins, same, grows}

-- Lists

head_or : {A : Type 0} → A → List A → A
head_or x [] = x
head_or x (y ∷ ys) = y

uncons : {A : Type 0} (x y : A) (xs ys : List A) → OneBegins (x ∷ xs) (y ∷ ys)
    → (x ≡ y) × OneBegins xs ys
unfolding head_or
uncons x y xs ys (inl b) = (ap (head_or x) b.1, inl (b.0, ap (drop 1) b.1))
uncons x y xs ys (inr b) = (sym (ap (head_or y) b.1), inr (b.0, ap (drop 1) b.1))

own-own : (x : Exchanged) (xs : List Exchanged) → names_shared x.ask ≡ false
    → own_answers (x ∷ xs) ≡ x.answer ∷ own_answers xs
own-own x xs e = ap (λ (b : Bool). if b then own_answers xs else x.answer ∷ own_answers xs) e

own-shared : (x : Exchanged) (xs : List Exchanged) → names_shared x.ask ≡ true
    → own_answers (x ∷ xs) ≡ own_answers xs
own-shared x xs e = ap (λ (b : Bool). if b then own_answers xs else x.answer ∷ own_answers xs) e

-- What is asked

asked_or : AskData → Doing → AskData
asked_or ask (left exit kept) = ask
asked_or ask (asking other behind) = other
asked_or ask (printing text kept d) = ask
asked_or ask (looking behind) = ask
asked_or ask (noting op d) = ask
asked_or ask (trying body d) = ask

first-asked : (text : List ℕ) (ops : List AccessData) (ask : AskData) (behind : AnswerData → Doing)
    (x : Exchanged) (xs : List Exchanged)
    → AsksThese (standing_after text ops (asking ask behind)) (x ∷ xs) → ask ≡ x.ask
unfolding asked_or
first-asked text ops ask behind x xs asks = ap (asked_or ask) (asks [] x xs refl).1

next-asked : (text : List ℕ) (ops : List AccessData) (ask : AskData) (behind : AnswerData → Doing)
    (x : Exchanged) (xs : List Exchanged)
    → AsksThese (standing_after text ops (asking ask behind)) (x ∷ xs)
    → AsksThese (standing_after text ops (behind x.answer)) xs
next-asked text ops ask behind x xs asks =
    λ before y rest is. asks (x ∷ before) y rest (ap (λ zs. x ∷ zs) is)

-- A body that is told to read again does no more.
left-there : (text : List ℕ) (ops : List AccessData) (ask : AskData) (behind : AnswerData → Doing)
    (x : Exchanged) (xs : List Exchanged) → Leaves (asking ask behind) → ask ≡ x.ask
    → IsToReadAgain x → (standing_after text ops (behind x.answer) (answers_in xs)).accesses ≡ ops
left-there text ops ask behind x xs leaves is again =
    let gone : (kept : Kept) × (behind x.answer ≡ left retried kept) =
    subst (λ answer. (kept : Kept) × (behind answer ≡ left retried kept)) (sym again.2)
    (retry-leaves ask behind again.0 leaves (is ∙ again.1)) in
    ap (λ d. (standing_after text ops d (answers_in xs)).accesses) gone.1
  where
    retry-leaves : (ask : AskData) (behind : AnswerData → Doing) (name : RefNameData)
        → Leaves (asking ask behind) → ask ≡ read name
        → (kept : Kept) × (behind (reading retry) ≡ left retried kept)
    retry-leaves ask behind name leaves is =
        (subst (λ ask. Leaves (asking ask behind)) is leaves (reading retry)).0

-- One ask, which both make

asking-agrees
    : (told : AskData → AnswerData) (ask : AskData) (behind : AnswerData → Doing)
    (ops : List AccessData) (text other : List ℕ) (x y : Exchanged) (xs ys : List Exchanged)
    → Leaves (asking ask behind)
    → AsksThese (standing_after text ops (asking ask behind)) (x ∷ xs)
    → AsksThese (standing_after other ops (asking ask behind)) (y ∷ ys)
    → IsToldBy told x → IsToldBy told y → OneBegins (own_answers (x ∷ xs)) (own_answers (y ∷ ys))
    → ((answer : AnswerData) → AsksThese (standing_after text ops (behind answer)) xs
    → AsksThese (standing_after other ops (behind answer)) ys
    → OneBegins (own_answers xs) (own_answers ys)
    → OneBegins (standing_after text ops (behind answer) (answers_in xs)).accesses
    (standing_after other ops (behind answer) (answers_in ys)).accesses)
    → OneBegins (standing_after text ops (behind x.answer) (answers_in xs)).accesses
    (standing_after other ops (behind y.answer) (answers_in ys)).accesses
asking-agrees told ask behind ops text other x y xs ys leaves h k tx ty own ih =
    by (names_shared ask) refl
  where
    ex : ask ≡ x.ask
    ex = first-asked text ops ask behind x xs h

    ey : ask ≡ y.ask
    ey = first-asked other ops ask behind y ys k

    Goal : AnswerData → AnswerData → Type 0
    Goal a b = OneBegins (standing_after text ops (behind a) (answers_in xs)).accesses
        (standing_after other ops (behind b) (answers_in ys)).accesses

    equal : x.answer ≡ y.answer → OneBegins (own_answers xs) (own_answers ys)
        → Goal x.answer y.answer
    equal e o = subst (Goal x.answer) e (ih x.answer (next-asked text ops ask behind x xs h)
        (subst (λ a. AsksThese (standing_after other ops (behind a)) ys) (sym e)
        (next-asked other ops ask behind y ys k)) o)

    left-x : IsToReadAgain x → Goal x.answer y.answer
    left-x again = inr (subst (Begins _) (sym (left-there text ops ask behind x xs leaves ex again))
        (grows other ops (behind y.answer) (answers_in ys)))

    left-y : IsToReadAgain y → Goal x.answer y.answer
    left-y again = inl (subst (Begins _) (sym (left-there other ops ask behind y ys leaves ey again))
        (grows text ops (behind x.answer) (answers_in xs)))

    told-both : OneBegins (own_answers xs) (own_answers ys)
        → (x.answer ≡ told x.ask) ⊎ IsToReadAgain x → (y.answer ≡ told y.ask) ⊎ IsToReadAgain y
        → Goal x.answer y.answer
    told-both o (inr again) by_y = left-x again
    told-both o (inl is) (inr again) = left-y again
    told-both o (inl is) (inl it) = equal (is ∙ ap told (sym ex ∙ ey) ∙ sym it) o

    by : (b : Bool) → names_shared ask ≡ b → Goal x.answer y.answer
    by false e =
        let o = uncons x.answer y.answer (own_answers xs) (own_answers ys)
        (subst (λ l. OneBegins l (y.answer ∷ own_answers ys))
        (own-own x xs (ap names_shared (sym ex) ∙ e))
        (subst (OneBegins (own_answers (x ∷ xs))) (own-own y ys (ap names_shared (sym ey) ∙ e)) own)) in
        equal o.0 o.1
    by true e =
        let ax = ap names_shared (sym ex) ∙ e in
        let ay = ap names_shared (sym ey) ∙ e in
        told-both
        (subst (λ l. OneBegins l (own_answers ys)) (own-shared x xs ax)
        (subst (OneBegins (own_answers (x ∷ xs))) (own-shared y ys ay) own))
        (tx ax) (ty ay)

-- Text that one prints, and the other

printing-agrees
    : (ops : List AccessData) (text other more : List ℕ) (kept : Kept) (d : Doing)
    (xs ys : List Exchanged)
    → AsksThese (standing_after text ops (printing more kept d)) xs
    → AsksThese (standing_after other ops (printing more kept d)) ys
    → (AsksThese (standing_after (text ++ more) ops d) xs
    → AsksThese (standing_after (other ++ more) ops d) ys
    → OneBegins (standing_after (text ++ more) ops d (answers_in xs)).accesses
    (standing_after (other ++ more) ops d (answers_in ys)).accesses)
    → OneBegins (standing_after text ops (printing more kept d) (answers_in xs)).accesses
    (standing_after other ops (printing more kept d) (answers_in ys)).accesses
printing-agrees ops text other more kept d xs ys h k ih =
    by (nat_lt most_text (length text + length more)) (nat_lt most_text (length other + length more))
    refl refl
  where
    at : List ℕ → Bool → List AnswerData → Standing
    at before passes answers =
        if passes then record { text = before; accesses = ops; rest = printing more kept d }
        else standing_after (before ++ more) ops d answers

    Goal : Bool → Bool → Type 0
    Goal a b = OneBegins (at text a (answers_in xs)).accesses (at other b (answers_in ys)).accesses

    all-x : Begins (standing_after text ops (printing more kept d) (answers_in xs)).accesses ops
    all-x = grows text ops (printing more kept d) (answers_in xs)

    all-y : Begins (standing_after other ops (printing more kept d) (answers_in ys)).accesses ops
    all-y = grows other ops (printing more kept d) (answers_in ys)

    by : (a b : Bool) → nat_lt most_text (length text + length more) ≡ a
        → nat_lt most_text (length other + length more) ≡ b
        → Goal (nat_lt most_text (length text + length more))
        (nat_lt most_text (length other + length more))
    by true b ea eb = subst (λ c. Goal c (nat_lt most_text (length other + length more))) (sym ea)
        (inr all-y)
    by false true ea eb = subst (λ c. Goal (nat_lt most_text (length text + length more)) c) (sym eb)
        (inl all-x)
    by false false ea eb =
        subst (λ c. Goal c (nat_lt most_text (length other + length more))) (sym ea)
        (subst (Goal false) (sym eb)
        (ih (subst (λ c. AsksThese (at text c) xs) ea h)
        (subst (λ c. AsksThese (at other c) ys) eb k)))

agrees
    : (told : AskData → AnswerData) (d : Doing) (ops : List AccessData) (text other : List ℕ)
    (xs ys : List Exchanged) → Leaves d
    → AsksThese (standing_after text ops d) xs → AsksThese (standing_after other ops d) ys
    → AreToldBy told xs → AreToldBy told ys → OneBegins (own_answers xs) (own_answers ys)
    → OneBegins (standing_after text ops d (answers_in xs)).accesses
    (standing_after other ops d (answers_in ys)).accesses
agrees told (left exit kept) ops text other xs ys leaves h k tx ty own = inl (same ops)
agrees told (asking ask behind) ops text other [] ys leaves h k tx ty own =
    inr (grows other ops (asking ask behind) (answers_in ys))
agrees told (asking ask behind) ops text other (x ∷ xs) [] leaves h k tx ty own =
    inl (grows text ops (asking ask behind) (answers_in (x ∷ xs)))
agrees told (asking ask behind) ops text other (x ∷ xs) (y ∷ ys) leaves h k tx ty own =
    asking-agrees told ask behind ops text other x y xs ys leaves h k tx.0 ty.0 own
    (λ answer hx hy o. agrees told (behind answer) ops text other xs ys (leaves answer).1 hx hy tx.1 ty.1 o)
agrees told (printing more kept d) ops text other xs ys leaves h k tx ty own =
    printing-agrees ops text other more kept d xs ys h k
    (λ hx hy. agrees told d ops (text ++ more) (other ++ more) xs ys leaves hx hy tx ty own)
agrees told (looking behind) ops text other xs ys leaves h k tx ty own =
    agrees told (behind (attempt_of ops)) ops text other xs ys (leaves (attempt_of ops)) h k tx ty own
agrees told (noting op d) ops text other xs ys leaves h k tx ty own =
    agrees told d (ops ++ op ∷ []) text other xs ys leaves h k tx ty own
agrees told (trying body d) ops text other xs ys leaves h k tx ty own =
    agrees told d ops text other xs ys leaves h k tx ty own

values-begin : (xs ys : List AccessData) → OneBegins xs ys
    → OneBegins (filter_map value_accessed xs) (filter_map value_accessed ys)
values-begin xs ys (inl b) = inl (
  filter_map value_accessed b.0,
  ap (filter_map value_accessed) b.1 ∙ filter_map-append value_accessed ys b.0,
)
values-begin xs ys (inr b) = inr (
  filter_map value_accessed b.0,
  ap (filter_map value_accessed) b.1 ∙ filter_map-append value_accessed xs b.0,
)

pub attempts-agree : AgreeingAttempts
attempts-agree room p forms begun told printed other xs ys h k tx ty own =
    values-begin _ _ (agrees told (dosync_body room p forms begun) [] printed other xs ys
    (body-leaves room p forms begun) h k tx ty own)
