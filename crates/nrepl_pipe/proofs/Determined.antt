-- The pieces of a stream determine their turns: a schedule is a function, said as a relation.
use Rattle.std.proofs.Common.{◌≡◌, ℕ, List, [], ◌∷◌, ◌++◌, refl, sym, ap, ◌∙◌, subst}
use Rattle.server_rules.specs.Ground.{Ground}
use Rattle.server_rules.specs.LoneTurns.{LoneTenant, LoneTurn, hears, lone_after, lone_run}
use Rattle.nrepl_pipe.specs.Schedule.{round, AreRounds, last, more, IsSchedule}

pub rounds-same : (g : Ground) (q : LoneTenant) (ts us : List LoneTurn) → AreRounds g q ts
    → AreRounds g q us → ts ≡ us
rounds-same g q ts us (last v end) (last u other) = refl
rounds-same g q ts us (last v end) (more u behind on rounds) = absurd (on end)
rounds-same g q ts us (more v behind on rounds) (last u end) = absurd (on end)
rounds-same g q ts us (more v behind on rounds) (more u others too more_rounds) =
    ap (λ (turns : List LoneTurn). round g v ++ turns)
    (rounds-same g (lone_run g v (round g v)) behind others rounds more_rounds)

pub schedule-same : (g : Ground) (q : LoneTenant) (pieces : List (List ℕ)) (ts us : List LoneTurn)
    → IsSchedule g q pieces ts → IsSchedule g q pieces us → ts ≡ us
schedule-same g q [] ts us is same = is ∙ sym same
schedule-same g q (piece ∷ pieces) ts us (rounds, behind, are, on, more_turns, is)
    (others, later, too, goes, rest, same) =
    let first : rounds ≡ others = rounds-same g (lone_after g q (hears piece)) rounds others are too in
    let v = lone_run g q (hears piece ∷ others) in
    let moved : IsSchedule g v pieces behind =
    subst (λ (turns : List LoneTurn). IsSchedule g (lone_run g q (hears piece ∷ turns)) pieces behind)
    first more_turns in
    let behind_same : behind ≡ later = schedule-same g v pieces behind later moved rest in
    is ∙ ap (λ (turns : List LoneTurn). (hears piece ∷ turns) ++ behind) first
    ∙ ap (λ (turns : List LoneTurn). (hears piece ∷ others) ++ turns) behind_same ∙ sym same
