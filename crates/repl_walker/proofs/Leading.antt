-- Exchanges that lead on, one after another.
use Rattle.std.proofs.Common.{◌≡◌, ◌↔◌, List, [], ◌∷◌, ◌++◌, refl, sym, subst, ap, ◌∙◌}
use Rattle.std.proofs.Common.{append_assoc, append-nil}
use Rattle.std.proofs.Math.Logic.{∥∥₁_map}
use Rattle.repl_asks.specs.Exchange.{AskData, AnswerData, Exchanged}
use Rattle.repl_asks.specs.Inside.View.{ask_view, exchange_view, trace_view}
use Rattle.repl_asks.specs.declared.exchange.Exchange.{Exchange}
use Rattle.std.proofs.lemmas.List.{map-append}
use Rattle.repl_asks.specs.Job.{JobData, EndingData}
use Rattle.repl_asks.specs.InteractionTree.{InteractionTree, finished, asks}
use Rattle.repl_asks.specs.Leading.{Leads, tree_after, AreItsAsks}
use Rattle.evaluation_rules.specs.Evaluation.{evaluation}
use Rattle.repl_walker.specs.Led.{LedTo, Led, Recorded}
use Rattle.repl_walker.specs.Ends.{IsEndOf}
use Rattle.repl_walker.specs.Stops.{LeftAt}
use Rattle.repl_walker.specs.Waits.{walk_tree, WentOn}
use Rattle.repl_walker.specs.declared.waiting.Walk.{Walk}
use Rattle.repl_walker.specs.declared.waiting.Progress.{Progress}
use Rattle.repl_walker.specs.declared.run.WalkError.{WalkError}

leads-append : (start middle end : InteractionTree) (xs ys : List Exchanged) → Leads start xs middle → Leads middle ys end → Leads start (xs ++ ys) end
leads-append start middle end [] ys first second = subst (λ (t : InteractionTree). Leads t ys end) (sym first) second
leads-append (finished e) middle end (x ∷ xs) ys first second = absurd first
leads-append (asks ask behind) middle end (x ∷ xs) ys first second = (first.0, leads-append (behind x.answer) middle end xs ys first.1 second)

-- The trace of a job

pub led-begun : (job : JobData) (trace : List Exchanged) (t : InteractionTree) → trace ≡ [] → t ≡ evaluation job → LedTo job trace t
led-begun job trace t none is =
    let P : List Exchanged → Type 0 = λ xs. Leads (evaluation job) xs t in ∣ (subst P (sym none) (sym is)) ∣₁

pub led-to-answered : (job : JobData) (old new : List Exchanged) (ask : AskData) (answer : AnswerData) (behind : AnswerData → InteractionTree) (rest : InteractionTree)
    → LedTo job old (asks ask behind) → new ≡ old ++ record { ask = ask; answer = answer } ∷ [] → rest ≡ behind answer → LedTo job new rest
led-to-answered job old new ask answer behind rest led grown goes_on =
    ∥∥₁_map led (λ h.
    let P : List Exchanged → Type 0 = λ xs. Leads (evaluation job) xs rest in
    subst P (sym grown) (leads-append (evaluation job) (asks ask behind) rest old (record { ask = ask; answer = answer } ∷ []) h (refl, sym goes_on)))

pub led-to-same : (job other : JobData) (trace more : List Exchanged) (t u : InteractionTree) → other ≡ job → more ≡ trace → u ≡ t → LedTo job trace t → LedTo other more u
led-to-same job other trace more t u same traced is led =
    let P : JobData → Type 0 = λ j. LedTo j more u in
    let Q : List Exchanged → Type 0 = λ xs. LedTo job xs u in
    let R : InteractionTree → Type 0 = λ v. LedTo job trace v in
    subst P (sym same) (subst Q (sym traced) (subst R (sym is) led))

pub trace-pushed : (old new : List Exchange) (x : Exchange) (e : Exchanged) → new ≡ old ++ x ∷ [] → exchange_view x ≡ e → trace_view new ≡ trace_view old ++ e ∷ []
trace-pushed old new x e grown is =
    ap trace_view grown ∙ map-append exchange_view old (x ∷ []) ∙ ap (λ (y : Exchanged). trace_view old ++ y ∷ []) is

-- The trace of who answers

pub led-nowhere : (start : InteractionTree) (trace : List Exchanged) → Led start trace trace start
led-nowhere start trace = ([], sym (append-nil trace), refl)

pub led-on : (start middle end : InteractionTree) (old now new : List Exchanged) → Led start old now middle → Led middle now new end → Led start old new end
led-on start middle end old now new first second = (
  first.0 ++ second.0,
  second.1 ∙ ap (λ (front : List Exchanged). front ++ second.0) first.1 ∙ append_assoc old first.0 second.0,
  leads-append start middle end first.0 second.0 first.2 second.2,
)

-- one more ask has its answer
pub led-answered : (start rest : InteractionTree) (old now new : List Exchanged) (ask : AskData) (answer : AnswerData) (behind : AnswerData → InteractionTree)
    → Led start old now (asks ask behind) → new ≡ now ++ record { ask = ask; answer = answer } ∷ [] → behind answer ≡ rest → Led start old new rest
led-answered start rest old now new ask answer behind led grown goes_on =
    led-on start (asks ask behind) rest old now new led (record { ask = ask; answer = answer } ∷ [], grown, (refl, goes_on))

pub left-on : (start middle : InteractionTree) (old now new : List Exchanged) (error : WalkError) → Led start old now middle → LeftAt middle now new error → LeftAt start old new error
left-on start middle old now new WalkError.NoMemory led left = (left.0, led-on start middle left.0 old now new led left.1)
left-on start middle old now new (WalkError.Stopped ask) led left = (left.0, led-on start middle (asks (ask_view ask) left.0) old now new led left.1)

pub recorded-on : (start middle end : InteractionTree) (old now new kept_old kept_now kept_new : List Exchanged)
    → Recorded start old now kept_old kept_now middle → Recorded middle now new kept_now kept_new end → Recorded start old new kept_old kept_new end
recorded-on start middle end old now new kept_old kept_now kept_new first second = (
  first.0 ++ second.0,
  second.1 ∙ ap (λ (front : List Exchanged). front ++ second.0) first.1 ∙ append_assoc old first.0 second.0,
  second.2 ∙ ap (λ (front : List Exchanged). front ++ second.0) first.2 ∙ append_assoc kept_old first.0 second.0,
  leads-append start middle end first.0 second.0 first.3 second.3,
)

pub recorded-nothing : (start : InteractionTree) (trace kept : List Exchanged) → Recorded start trace trace kept kept start
recorded-nothing start trace kept = ([], sym (append-nil trace), sym (append-nil kept), refl)

pub recorded-led : (start end : InteractionTree) (old new kept_old kept_new : List Exchanged) → Recorded start old new kept_old kept_new end → Led start old new end
recorded-led start end old new kept_old kept_new recorded = (recorded.0, recorded.1, recorded.3)

-- one more ask has its answer, and both were written down
pub recorded-answered : (start rest : InteractionTree) (old now new kept_old kept_now kept_new : List Exchanged) (ask : AskData) (answer : AnswerData) (behind : AnswerData → InteractionTree)
    → Recorded start old now kept_old kept_now (asks ask behind) → new ≡ now ++ record { ask = ask; answer = answer } ∷ []
    → kept_new ≡ kept_now ++ record { ask = ask; answer = answer } ∷ [] → behind answer ≡ rest → Recorded start old new kept_old kept_new rest
recorded-answered start rest old now new kept_old kept_now kept_new ask answer behind recorded grown written goes_on =
    recorded-on start (asks ask behind) rest old now new kept_old kept_now kept_new recorded
    (record { ask = ask; answer = answer } ∷ [], grown, written, (refl, goes_on))

-- an ask that was handed back without an answer
pub led-stayed : (old new : List Exchanged) (ask stopped : AskData) (behind : AnswerData → InteractionTree) → new ≡ old → stopped ≡ ask → Led (asks ask behind) old new (asks stopped behind)
led-stayed old new ask stopped behind stays handed_back =
    ([], stays ∙ sym (append-nil old), ap (λ (a : AskData). asks a behind) (sym handed_back))

pub end-recorded : (job : JobData) (old new kept : List Exchanged) (e : EndingData) → e.job ≡ job → e.trace ≡ kept
    → Recorded (evaluation job) old new [] kept (finished e.end) → IsEndOf job old new e
end-recorded job old new kept e same traced r =
    let whole : e.trace ≡ r.0 = traced ∙ r.2 in
    let P : List Exchanged → Type 0 = λ xs. Leads (evaluation job) xs (finished e.end) in
    (same, r.1 ∙ ap (λ (xs : List Exchanged). old ++ xs) (sym whole), subst P (sym whole) r.3)

-- Walks that go on

pub went-nowhere : (w : Walk) (trace : List Exchanged) → WentOn w trace trace (Progress.Asks w)
went-nowhere w trace = (refl, recorded-nothing _ _ _)

pub went-on : (a b : Walk) (old now new : List Exchanged) (p : Progress) → WentOn a old now (Progress.Asks b) → WentOn b now new p → WentOn a old new p
went-on a b old now new p first second = (second.0 ∙ first.0, recorded-on _ _ _ _ _ _ _ _ _ first.1 second.1)

pub left-further : (a b : Walk) (old now new : List Exchanged) (error : WalkError) → WentOn a old now (Progress.Asks b)
    → LeftAt (walk_tree b) now new error → LeftAt (walk_tree a) old new error
left-further a b old now new error came left = left-on _ _ _ _ _ error (recorded-led _ _ _ _ _ _ came.1) left

-- What comes after a trace

its-asks : (start end : InteractionTree) (trace : List Exchanged) → Leads start trace end → AreItsAsks start trace × (tree_after start trace ≡ end)
its-asks start end [] leads = (tt, leads)
its-asks (finished e) end (x ∷ xs) leads = absurd leads
its-asks (asks ask behind) end (x ∷ xs) leads =
    let more = its-asks (behind x.answer) end xs leads.1 in ((leads.0, more.0), more.1)

leads-tree_after : (start end : InteractionTree) (trace : List Exchanged) → AreItsAsks start trace → tree_after start trace ≡ end → Leads start trace end
leads-tree_after start end [] asked comes = comes
leads-tree_after (finished e) end (x ∷ xs) asked comes = absurd asked
leads-tree_after (asks ask behind) end (x ∷ xs) asked comes = (asked.0, leads-tree_after (behind x.answer) end xs asked.1 comes)

pub leads-as-tree_after : (start end : InteractionTree) (trace : List Exchanged) → (Leads start trace end ↔ AreItsAsks start trace × (tree_after start trace ≡ end))
leads-as-tree_after start end trace = (its-asks start end trace, λ h. leads-tree_after start end trace h.0 h.1)
