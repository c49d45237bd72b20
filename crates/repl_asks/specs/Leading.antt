-- Where a trace leads an evaluation.
use Rattle.std.specs.Prelude.{◌≡◌, ⊤, List, [], ◌∷◌}
use Rattle.repl_asks.specs.Exchange.{Exchanged}
use Rattle.repl_asks.specs.InteractionTree.{InteractionTree, finished, asks}

-- The exchanges lead from one tree to the other: each ask is what the evaluation asks next, after
-- the answers before it, and the evaluation goes on with its answer.
abbrev pub Leads : InteractionTree → List Exchanged → InteractionTree → Type 0
Leads start [] end = start ≡ end
Leads (finished e) (x ∷ xs) end = ⊥
Leads (asks ask behind) (x ∷ xs) end = (x.ask ≡ ask) × Leads (behind x.answer) xs end

-- what is still done after these answers; behind the end there is nothing
abbrev pub tree_after : InteractionTree → List Exchanged → InteractionTree
tree_after t [] = t
tree_after (finished e) (x ∷ xs) = finished e
tree_after (asks ask behind) (x ∷ xs) = tree_after (behind x.answer) xs

-- each ask of a trace is what the evaluation asks next
abbrev pub AreItsAsks : InteractionTree → List Exchanged → Type 0
AreItsAsks t [] = ⊤
AreItsAsks (finished e) (x ∷ xs) = ⊥
AreItsAsks (asks ask behind) (x ∷ xs) = (x.ask ≡ ask) × AreItsAsks (behind x.answer) xs
