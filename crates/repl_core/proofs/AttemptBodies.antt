-- What an attempt asked since it began is what its body asks.
use Rattle.std.proofs.Common.{◌≡◌, ◌∙◌, ◌⊎◌, inl, inr, ℕ, zero, suc, List, [], ◌∷◌, ◌++◌, true}
use Rattle.std.proofs.Common.{false, refl, sym, ap, subst, append-nil, true≢false}
use Rattle.std.specs.List.{AllByRecursion}
use Rattle.value_data.specs.Datum.{Datum}
use Rattle.repl_asks.specs.Exchange.{AskData, Exchanged, begin}
use Rattle.repl_asks.specs.InteractionTree.{InteractionTree, finished, asks}
use Rattle.repl_asks.specs.Leading.{Leads, tree_after, AreItsAsks}
use Rattle.evaluation_rules.specs.Doing.{Kept, Exit, gave, failed, retried, Doing}
use Rattle.evaluation_rules.specs.Transactions.{after_body, attempts}
use Rattle.evaluation_rules.specs.Tree.{with_attempt, written_tree}
use Rattle.repl_walker.specs.Attempts.{answers_in, AsksThese, IsUnderWay, IsDivided}
use Rattle.repl_walker.specs.Standing.{Standing, attempt_of, standing_after}
use Rattle.repl_walker.proofs.Attempts.{divides}
use Rattle.repl_walker.proofs.Leading.{leads-as-tree_after}
use Rattle.repl_core.specs.AttemptsUnderWay.{begun_attempt, is_within}

abbrev Within : List Exchanged → Type 0
Within xs = AllByRecursion (λ x. is_within x.ask ≡ true) xs

within-behind : (xs ys : List Exchanged) → Within (xs ++ ys) → Within ys
within-behind [] ys all = all
within-behind (x ∷ xs) ys all = within-behind xs ys all.1

not-within : (x : Exchanged) (ask : AskData) → x.ask ≡ ask → is_within ask ≡ false
    → is_within x.ask ≡ true → ⊥
not-within x ask is none within = true≢false (sym within ∙ ap is_within is ∙ none)

-- what is asked behind a part of a trace
pub asks-behind : (start : InteractionTree) (before rest : List Exchanged)
    → AreItsAsks start (before ++ rest) → AreItsAsks (tree_after start before) rest
asks-behind start [] rest all = all
asks-behind (finished e) (x ∷ before) rest all = absurd all
asks-behind (asks ask next) (x ∷ before) rest all = asks-behind (next x.answer) before rest all.1

-- another attempt would begin
again-none : (more : ℕ) (body : Doing) (next : Datum → Kept → Doing) (last : Kept) (text : List ℕ)
    (rest : List Exchanged) (end : InteractionTree)
    → Leads (written_tree text (attempts more body next last)) rest end → Within rest → rest ≡ []
again-none zero body next last text [] end leads within = refl
again-none zero body next last text (x ∷ rest) end leads within = absurd leads
again-none (suc more) body next last text [] end leads within = refl
again-none (suc more) body next last text (x ∷ rest) end leads within =
    absurd (not-within x begin leads.0 refl within.0)

-- behind the body comes its commit, another attempt, or the end
left-none : (more : ℕ) (body : Doing) (next : Datum → Kept → Doing) (exit : Exit) (kept : Kept)
    (s : Standing) (rest : List Exchanged) (end : InteractionTree)
    → Leads (written_tree s.text
    (after_body (attempts more body next) next exit kept (attempt_of s.accesses))) rest end
    → Within rest → rest ≡ []
left-none more body next (gave d) kept s [] end leads within = refl
left-none more body next (gave d) kept s (x ∷ rest) end leads within =
    absurd (not-within x _ leads.0 refl within.0)
left-none more body next (failed f) kept s [] end leads within = refl
left-none more body next (failed f) kept s (x ∷ rest) end leads within = absurd leads
left-none more body next retried kept s rest end leads within =
    again-none more body next kept s.text rest end leads within

pub body-asks : (more : ℕ) (body : Doing) (next : Datum → Kept → Doing) (last : Kept)
    (printed : List ℕ) (xs : List Exchanged)
    → AreItsAsks (written_tree printed (attempts (suc more) body next last)) (begun_attempt ∷ xs)
    → AllByRecursion (λ x. is_within x.ask ≡ true) xs
    → AsksThese (standing_after printed [] body) xs
body-asks more body next last printed xs all within =
    by (divides (after_body (attempts more body next) next) body printed [] xs end leads)
  where
    end : InteractionTree
    end = tree_after (written_tree printed
        (with_attempt (after_body (attempts more body next) next) (attempt_of []) body)) xs

    leads : Leads (written_tree printed
        (with_attempt (after_body (attempts more body next) next) (attempt_of []) body)) xs end
    leads = (leads-as-tree_after (written_tree printed
        (with_attempt (after_body (attempts more body next) next) (attempt_of []) body)) end xs).1
        (all.1, refl)

    by : IsUnderWay (after_body (attempts more body next) next) (standing_after printed [] body) xs
        end
        ⊎ IsDivided (after_body (attempts more body next) next) (standing_after printed [] body) xs
        end
        → AsksThese (standing_after printed [] body) xs
    by (inl u) = u.0
    by (inr d) =
        let left = d.4 in
        let none : d.1 ≡ [] = left-none more body next left.0 left.1
        (standing_after printed [] body (answers_in d.0)) d.1 end left.3
        (within-behind d.0 d.1 (subst Within d.2 within)) in
        let same : xs ≡ d.0 = d.2 ∙ ap (λ ys. d.0 ++ ys) none ∙ append-nil d.0 in
        subst (AsksThese (standing_after printed [] body)) (sym same) d.3
