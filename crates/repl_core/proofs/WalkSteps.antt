-- The evaluations that are kept, through changes.
use Rattle.std.proofs.Common.{◌≡◌, ◌≢◌, ◌==◌, ℕ, ◌+◌, ◌<◌, List, [], ◌∷◌, ◌++◌, Bool, true, false}
use Rattle.std.proofs.Common.{Option, Some, None, Result, Ok, Err, OnOk, option_map, take, length, get_or}
use Rattle.std.proofs.Common.{refl, sym, ap, ◌∙◌, is_some, Box}
use Rattle.std.specs.Global.{Global}
use Rattle.std.proofs.lemmas.Bool.{eqb-true, eqb-false, false≢true}
use Rattle.std.proofs.lemmas.List.{map-append, take_more}
use Rattle.repl_asks.specs.Exchange.{AnswerData, Exchanged}
use Rattle.repl_asks.specs.Inside.View.{ask_view, exchange_view}
use Rattle.repl_asks.specs.declared.ask.Ask.{Ask}
use Rattle.repl_asks.specs.declared.exchange.Exchange.{Exchange}
use Rattle.repl_asks.specs.InteractionTree.{InteractionTree, finished, asks}
use Rattle.repl_asks.specs.Leading.{tree_after}
use Rattle.repl_walker.specs.Steps.{tree_behind, reached_tree}
use Rattle.repl_walker.specs.declared.steps.WaitingEvaluation.{WaitingEvaluation}
use Rattle.repl_walker.specs.declared.steps.Reached.{Reached}
use Rattle.repl_asks.specs.declared.job.Finished.{Finished}
use Rattle.server_rules.specs.Tenant.{actor_at}
use Rattle.server_rules.specs.Request.{Run}
use Rattle.server_rules.specs.Tenant.{TenantState, seat_of}
use Rattle.server_rules.specs.declared.actor.Actor.{Actor}
use Rattle.evaluation_rules.specs.Evaluation.{evaluation}
use Rattle.tenant_parts.specs.View.{kept_trace}
use Rattle.tenant_asks.specs.Asking.{exchange_from, run_with}
use Rattle.tenant_world.specs.Running.{running_in}
use Rattle.repl_core.specs.Inside.Walked.{IsWalkOf, AreWalked}

seat-back : (a : Actor) → actor_at (seat_of a) ≡ a
seat-back Actor.Agents = refl
seat-back Actor.Bare = refl
seat-back (Actor.Session n) = refl

-- each actor has a seat of its own
pub seat-same : (a b : Actor) → seat_of a ≡ seat_of b → a ≡ b
seat-same a b e = sym (seat-back a) ∙ ap actor_at e ∙ seat-back b

-- the evaluations of every other actor are walked
abbrev pub AreWalkedBut : Actor → (Actor → Option Reached) → TenantState → Type 0
AreWalkedBut a walk q = (b : Actor) (run : Run) (p : Reached) → seat_of b ≢ seat_of a
    → running_in b q ≡ Some run → walk b ≡ Some p → IsWalkOf run p

-- this actor's, and those of all others
pub walked-all : (a : Actor) (walk : Actor → Option Reached) (q : TenantState) → AreWalkedBut a walk q
    → ((run : Run) (p : Reached) → running_in a q ≡ Some run → walk a ≡ Some p → IsWalkOf run p)
    → AreWalked walk q
walked-all a walk q others mine = λ b run p runs at. by b run p runs at (seat_of b == seat_of a) refl
  where
    by : (b : Actor) (run : Run) (p : Reached) → running_in b q ≡ Some run → walk b ≡ Some p
        → (same : Bool) → (seat_of b == seat_of a) ≡ same → IsWalkOf run p
    by b run p runs at true is =
        let equal : b ≡ a = seat-same b a (eqb-true (seat_of b) (seat_of a) is) in
        mine run p (sym (ap (λ x. running_in x q) equal) ∙ runs) (sym (ap walk equal) ∙ at)
    by b run p runs at false apart =
        others b run p (eqb-false (seat_of b) (seat_of a) apart) runs at

pub some-same : {A : Type 0} (a b : A) → Some a ≡ Some b → a ≡ b
some-same a b e = cc

tree_after-more : (t : InteractionTree) (xs : List Exchanged) (x : Exchanged)
    → tree_after t (xs ++ x ∷ []) ≡ tree_after (tree_after t xs) (x ∷ [])
tree_after-more t [] x = refl
tree_after-more (finished e) (y ∷ ys) x = refl
tree_after-more (asks ask k) (y ∷ ys) x = tree_after-more (k y.answer) ys x

-- an evaluation that goes on with an answer
pub walk-resumed : (run : Run) (w : WaitingEvaluation) (k : Ask) (p : Reached) (answer : AnswerData)
    → IsWalkOf run (Reached.Asks w k) → reached_tree p ≡ tree_behind w answer
    → IsWalkOf (run_with (exchange_from (ask_view k) answer) run) p
walk-resumed run w k p answer walk tree =
    let x = exchange_from (ask_view k) answer in
    tree
    ∙ ap (λ t. tree_after t (x ∷ [])) walk
    ∙ sym (tree_after-more (evaluation run.job) run.trace x)

-- an evaluation that was led by the front of a trace, and goes on with the next answer in it
pub led-further : (t : InteractionTree) (items : List (Box Exchange Global)) (i : ℕ)
    (x : Box Exchange Global)
    (old later : Reached) → i < length items → x ≡ get_or items i x
    → reached_tree old ≡ tree_after t (kept_trace (take i items))
    → reached_tree later ≡ tree_after (reached_tree old) (exchange_view x.value ∷ [])
    → reached_tree later ≡ tree_after t (kept_trace (take (i + 1) items))
led-further t items i x old later within at led next =
    let kept : Box Exchange Global → Exchanged = λ y. exchange_view y.value in
    let more : kept_trace (take (i + 1) items) ≡ kept_trace (take i items) ++ kept x ∷ [] =
    ap kept_trace (take_more items i x within)
    ∙ map-append kept (take i items) (get_or items i x ∷ [])
    ∙ ap (λ y. kept_trace (take i items) ++ kept y ∷ []) (sym at) in
    next
    ∙ ap (λ u. tree_after u (kept x ∷ [])) led
    ∙ sym (tree_after-more t (kept_trace (take i items)) (kept x))
    ∙ sym (ap (tree_after t) more)

pub asks-same : (v w : WaitingEvaluation) (j k : Ask) → Reached.Asks v j ≡ Reached.Asks w k → j ≡ k
asks-same v w j k e = cc

pub ends-same : (d e : Finished) → Reached.Ends d ≡ Reached.Ends e → d ≡ e
ends-same d e h = cc

-- what is kept is what was looked at
pub at-so : {P : Type 0} (now : P → Reached) (r : Option P) (x : P) (p : Reached)
    (o : Option Reached) → option_map now r ≡ o → r ≡ Some x → now x ≡ p → o ≡ Some p
at-so now r x p o got is same = sym got ∙ ap (option_map now) is ∙ ap Some same

-- what was put in is there
pub there-where : {X E : Type 0} (r : Result X E) (o : Option Reached) (p : Reached)
    → OnOk r (o ≡ Some p) → OnOk r (o ≢ None)
there-where (Ok x) o p put = λ none. let never : Some p ≡ None = sym put ∙ none in absurd (cc)
there-where (Err e) o p put = tt

-- nothing is kept where nothing was found
pub none-where : {P : Type 0} (now : P → Reached) (r : Option P) (o : Option Reached) (b : Bool)
    → option_map now r ≡ o → b ≡ is_some r → b ≡ false → o ≡ None
none-where now None o b got is none = sym got
none-where now (Some x) o b got is none = absurd (false≢true (sym none ∙ is))
