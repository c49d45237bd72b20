-- The trace of a transaction, attempt by attempt. `body` says where an attempt's body stands after
-- these answers, and `after` what is done when it is left.
use Rattle.std.specs.Prelude.{◌≡◌, List, ◌∷◌, ◌++◌, map, ⊤}
use Rattle.repl_asks.specs.Exchange.{AnswerData, Exchanged}
use Rattle.repl_asks.specs.InteractionTree.{InteractionTree}
use Rattle.repl_asks.specs.Leading.{Leads}
use Rattle.repl_asks.specs.Accesses.{AttemptData}
use Rattle.evaluation_rules.specs.Doing.{Kept, Exit, Doing, left, asking, printing, looking, noting}
use Rattle.evaluation_rules.specs.Doing.{trying}
use Rattle.evaluation_rules.specs.Tree.{with_attempt, written_tree}
use Rattle.repl_walker.specs.Standing.{Standing, attempt_of}

abbrev pub answers_in : List Exchanged → List AnswerData
answers_in = map (λ x. x.answer)

-- Each ask of the trace is what the body asks next, after the answers before it.
abbrev pub AsksThese : (List AnswerData → Standing) → List Exchanged → Type 0
AsksThese body trace = (before : List Exchanged) (x : Exchanged) (behind : List Exchanged)
    → trace ≡ before ++ x ∷ behind
    → (goes_on : AnswerData → Doing) × ((body (answers_in before)).rest ≡ asking x.ask goes_on)

-- it stands at an ask, or at a text that is too long
abbrev pub IsWithin : Doing → Type 0
IsWithin (left exit kept) = ⊥
IsWithin (asking ask behind) = ⊤
IsWithin (printing text kept d) = ⊤
IsWithin (looking behind) = ⊥
IsWithin (noting op d) = ⊥
IsWithin (trying body d) = ⊥

-- what is done from where it stands
abbrev pub tree_from : (Exit → Kept → AttemptData → Doing) → Standing → InteractionTree
tree_from after s = written_tree s.text (with_attempt after (attempt_of s.accesses) s.rest)

-- The trace is that of the body, which is under way, or prints what is too long.
abbrev pub IsUnderWay : (Exit → Kept → AttemptData → Doing) → (List AnswerData → Standing)
    → List Exchanged → InteractionTree → Type 0
IsUnderWay after body trace end = AsksThese body trace × IsWithin (body (answers_in trace)).rest
    × (end ≡ tree_from after (body (answers_in trace)))

-- The body is left so where it stands, and the trace leads on from there.
abbrev pub IsLeft : (Exit → Kept → AttemptData → Doing) → Standing → List Exchanged
    → InteractionTree → Type 0
IsLeft after s trace end = (exit : Exit) × (kept : Kept) × (s.rest ≡ left exit kept)
    × Leads (written_tree s.text (after exit kept (attempt_of s.accesses))) trace end

-- The trace is that of the body until it was left, and then that of what follows.
abbrev pub IsDivided : (Exit → Kept → AttemptData → Doing) → (List AnswerData → Standing)
    → List Exchanged → InteractionTree → Type 0
IsDivided after body trace end = (first : List Exchanged) × (rest : List Exchanged)
    × (trace ≡ first ++ rest) × AsksThese body first
    × IsLeft after (body (answers_in first)) rest end
