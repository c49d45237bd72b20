-- The trace of an attempt is that of its body, and then that of what follows.
use Rattle.std.proofs.Common.{◌≡◌, ℕ, ◌+◌, ◌⊎◌, inl, inr, List, [], ◌∷◌, ◌++◌, Bool, true, false}
use Rattle.std.proofs.Common.{length, if◌then◌else◌, refl, sym, ap, subst, ◌∙◌, arith}
use Rattle.std.proofs.lemmas.List.{length-append}
use Rattle.std.specs.Prelude.{nat_lt}
use Rattle.std.specs.List.{fold}
use Rattle.core_scalars.specs.Limits.{most_text}
use Rattle.repl_asks.specs.Exchange.{AskData, AnswerData, Exchanged}
use Rattle.repl_asks.specs.InteractionTree.{InteractionTree}
use Rattle.repl_asks.specs.Leading.{Leads}
use Rattle.repl_asks.specs.Accesses.{AccessData, AttemptData, nothing_noted, noted}
use Rattle.evaluation_rules.specs.Doing.{Kept, Exit, Doing, left, asking, printing, looking, noting}
use Rattle.evaluation_rules.specs.Doing.{trying}
use Rattle.evaluation_rules.specs.Tree.{with_attempt, ends, written_tree}
use Rattle.repl_values.specs.Failure.{output_too_long}
use Rattle.std.proofs.Common.{Err}
use Rattle.repl_walker.specs.Standing.{Standing, standing_after, attempt_of}
use Rattle.repl_walker.specs.Attempts.{answers_in, AsksThese, IsUnderWay, IsDivided}

abbrev After : Type 0
After = Exit → Kept → AttemptData → Doing

abbrev Divides : After → (List AnswerData → Standing)
    → List Exchanged → InteractionTree → Type 0
Divides after body xs end = IsUnderWay after body xs end ⊎ IsDivided after body xs end

-- Traces

abbrev first_or : Exchanged → List Exchanged → Exchanged
first_or x [] = x
first_or x (y ∷ ys) = y

abbrev behind_first : List Exchanged → List Exchanged
behind_first [] = []
behind_first (x ∷ xs) = xs

asks-none : (body : List AnswerData → Standing) → AsksThese body []
asks-none body before x behind e =
    let lengths = ap (λ (ys : List Exchanged). length ys) e in
    absurd (omega (arith, lengths, length-append before (x ∷ behind)))

asks-more : (text : List ℕ) (ops : List AccessData) (ask : AskData) (behind : AnswerData → Doing)
    (x : Exchanged) (xs : List Exchanged)
    → x.ask ≡ ask
    → AsksThese (standing_after text ops (behind x.answer)) xs
    → AsksThese (standing_after text ops (asking ask behind)) (x ∷ xs)
asks-more text ops ask behind x xs asked on [] y after e =
    let same = ap (λ (ys : List Exchanged). (first_or x ys).ask) e in
    (behind, ap (λ (a : AskData). asking a behind) (sym asked ∙ same))
asks-more text ops ask behind x xs asked on (b ∷ before) y after e =
    let P : AnswerData → Type 0 = λ a. (goes_on : AnswerData → Doing)
    × ((standing_after text ops (behind a) (answers_in before)).rest ≡ asking y.ask goes_on) in
    let same = ap (λ (ys : List Exchanged). (first_or x ys).answer) e in
    subst P same (on before y after (ap behind_first e))

-- one exchange more
longer : (after : After) (text : List ℕ) (ops : List AccessData) (ask : AskData)
    (behind : AnswerData → Doing)
    (x : Exchanged) (xs : List Exchanged) (end : InteractionTree) → x.ask ≡ ask
    → Divides after (standing_after text ops (behind x.answer)) xs end
    → Divides after (standing_after text ops (asking ask behind)) (x ∷ xs) end
longer after text ops ask behind x xs end asked (inl u) =
    inl (asks-more text ops ask behind x xs asked u.0, u.1, u.2)
longer after text ops ask behind x xs end asked (inr d) =
    let asks = asks-more text ops ask behind x d.0 asked d.3 in
    inr (x ∷ d.0, d.1, ap (λ (ys : List Exchanged). x ∷ ys) d.2, asks, d.4)

-- a text, which is too long or not
abbrev printed : Bool → List ℕ → List ℕ → List AccessData → Kept → Doing → List AnswerData
    → Standing
printed b text more ops kept d answers =
    if b then record { text = text; accesses = ops; rest = printing more kept d }
    else standing_after (text ++ more) ops d answers

abbrev written : Bool → After → List ℕ → List ℕ → List AccessData → Kept → Doing → InteractionTree
written b after text more ops kept d = if b then ends (Err output_too_long) text kept
    else written_tree (text ++ more) (with_attempt after (attempt_of ops) d)

too-long : (after : After) (text more : List ℕ) (ops : List AccessData) (kept : Kept) (d : Doing)
    (xs : List Exchanged)
    (end : InteractionTree) → nat_lt most_text (length text + length more) ≡ true
    → Leads (ends (Err output_too_long) text kept) xs end
    → Divides after (printed true text more ops kept d) xs end
too-long after text more ops kept d [] end passes leads =
    inl (
      asks-none (printed true text more ops kept d),
      tt,
      sym leads ∙ sym (ap (λ b. written b after text more ops kept d) passes),
    )
too-long after text more ops kept d (x ∷ xs) end passes leads = absurd leads

printed-on : (after : After) (text more : List ℕ) (ops : List AccessData) (kept : Kept) (d : Doing)
    (xs : List Exchanged)
    (end : InteractionTree) (b : Bool) → nat_lt most_text (length text + length more) ≡ b
    → (Leads (written false after text more ops kept d) xs end
    → Divides after (standing_after (text ++ more) ops d) xs end)
    → Leads (written b after text more ops kept d) xs end
    → Divides after (printed b text more ops kept d) xs end
printed-on after text more ops kept d xs end true test on leads =
    too-long after text more ops kept d xs end test leads
printed-on after text more ops kept d xs end false test on leads = on leads

one-more : (ops : List AccessData) (op : AccessData)
    → attempt_of (ops ++ op ∷ []) ≡ noted op (attempt_of ops)
one-more ops op = at nothing_noted ops
  where
    at : (a : AttemptData) (xs : List AccessData)
        → fold (λ (b : AttemptData) (x : AccessData). noted x b) a (xs ++ op ∷ [])
        ≡ noted op (fold (λ (b : AttemptData) (x : AccessData). noted x b) a xs)
    at a [] = refl
    at a (x ∷ xs) = at (noted x a) xs

pub divides : (after : After) (d : Doing) (text : List ℕ) (ops : List AccessData)
    (xs : List Exchanged) (end : InteractionTree)
    → Leads (written_tree text (with_attempt after (attempt_of ops) d)) xs end
    → Divides after (standing_after text ops d) xs end
divides after (left exit kept) text ops xs end leads =
    let asks = asks-none (standing_after text ops (left exit kept)) in
    inr ([], xs, refl, asks, (exit, kept, refl, leads))
divides after (asking ask behind) text ops [] end leads =
    inl (asks-none (standing_after text ops (asking ask behind)), tt, sym leads)
divides after (asking ask behind) text ops (x ∷ xs) end leads =
    longer after text ops ask behind x xs end leads.0
    (divides after (behind x.answer) text ops xs end leads.1)
divides after (printing more kept d) text ops xs end leads =
    printed-on after text more ops kept d xs end (nat_lt most_text (length text + length more)) refl
    (divides after d (text ++ more) ops xs end) leads
divides after (looking behind) text ops xs end leads =
    divides after (behind (attempt_of ops)) text ops xs end leads
divides after (noting op d) text ops xs end leads =
    divides after d text (ops ++ op ∷ []) xs end
    (subst (λ (a : AttemptData). Leads (written_tree text (with_attempt after a d)) xs end)
    (sym (one-more ops op)) leads)
divides after (trying body d) text ops xs end leads = divides after d text ops xs end leads
