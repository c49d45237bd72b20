-- What shared refs told an attempt is of its read point, through any steps.
use Rattle.std.proofs.Common.{◌≡◌, ◌∙◌, ◌≤◌, inl, inr, ℕ, List, [], ◌∷◌, ◌++◌, true, Option, Some}
use Rattle.std.proofs.Common.{None, option_and_then, slice_get, refl, sym, ap, subst, append_assoc}
use Rattle.std.proofs.Common.{arith, drop, true≢false}
use Rattle.std.specs.Prelude.{⊤, option_map, unwrap_or}
use Rattle.std.specs.List.{AllByRecursion}
use Rattle.repl_asks.specs.Transactions.{RefNameData}
use Rattle.repl_asks.specs.Exchange as exchange
use Rattle.repl_asks.specs.Exchange.{AskData, AnswerData, Exchanged, begin, read, reading}
use Rattle.evaluation_rules.specs.Arguments.{is_shared}
use Rattle.repl_walker.specs.Agreeing.{names_shared, IsToldBy, AreToldBy}
use Rattle.ref_history.specs.Versioned.{Ref}
use Rattle.ref_table.specs.Calls.{number_told, performed}
use Rattle.server_rules.specs.Ground.{Ground}
use Rattle.ref_table.specs.Numbered.{part_under}
use Rattle.server_rules.specs.Request.{Run}
use Rattle.server_rules.specs.Tenant.{seat_of}
use Rattle.server_rules.specs.Asking.{answer_to, call_of}
use Rattle.server_rules.specs.Machine.World.{World, Step, step, world_or, opened_world, run}
use Rattle.server_rules.specs.declared.actor.Actor.{Actor}
use Rattle.tenant_asks.specs.Asking.{exchange_from, run_with}
use Rattle.tenant_world.specs.Running.{running_in}
use Rattle.repl_core.specs.Standing.{store_in}
use Rattle.repl_core.specs.Commits.{refs_in, ref_in_world, point_in}
use Rattle.repl_core.specs.Points.{held_at, shared_ref, reading_of, bound_told, told_at}
use Rattle.repl_core.specs.AttemptsUnderWay.{form_in, begun_attempt, is_within, UnderWay}
use Rattle.repl_core.specs.AttemptsUnderWay.{PointsAreOfAttempts, AttemptsAreToldTheirPoint}
use Rattle.repl_core.proofs.SharedRefs.{shown_at, ShowsAt, step-shows}
use Rattle.repl_core.proofs.AskedPoints.{is-shared, PointAfter, asked-point}
use Rattle.repl_core.proofs.WorldSteps.{Asks, StepMoves, step-moves}

-- What shared refs tell

-- the number of the ref that an ask names
abbrev pub number_in : AskData → ℕ
number_in (read name) = name.number
number_in (exchange.history name) = name.number
number_in (exchange.min_history name set) = name.number
number_in (exchange.max_history name set) = name.number
number_in ask = 0

abbrev pub SameBound : (Ref → ℕ) → ℕ → World → World → Type 0
SameBound bound n w v =
    option_map bound (slice_get w.around.refs n) ≡ option_map bound (slice_get v.around.refs n)

ref-shared : (name : RefNameData) (w : World) → is_shared name.owner ≡ true
    → ref_in_world name w ≡ ref_in_world (shared_ref name.number) w
ref-shared name w names =
    ap (λ o. slice_get (refs_in o w) name.number) (is-shared name.owner names)

-- where a shared ref held the same and has the same bounds, it tells the same
pub told_at-same : (ask : AskData) (point other : ℕ) (w v : World) → names_shared ask ≡ true
    → held_at point (ref_in_world (shared_ref (number_in ask)) w)
    ≡ held_at other (ref_in_world (shared_ref (number_in ask)) v)
    → SameBound (λ r. r.least) (number_in ask) w v → SameBound (λ r. r.most) (number_in ask) w v
    → told_at point w ask ≡ told_at other v ask
told_at-same (read name) point other w v names held least most =
    ap (λ o. reading (reading_of (held_at point o))) (ref-shared name w names)
    ∙ ap (λ d. reading (reading_of d)) held
    ∙ sym (ap (λ o. reading (reading_of (held_at other o))) (ref-shared name v names))
told_at-same (exchange.min_history name set) point other w v names held least most =
    ap (bound_told (λ r. r.least)) (ref-shared name w names)
    ∙ ap (λ o. number_told (unwrap_or o 0)) least
    ∙ sym (ap (bound_told (λ r. r.least)) (ref-shared name v names))
told_at-same (exchange.max_history name set) point other w v names held least most =
    ap (bound_told (λ r. r.most)) (ref-shared name w names)
    ∙ ap (λ o. number_told (unwrap_or o 0)) most
    ∙ sym (ap (bound_told (λ r. r.most)) (ref-shared name v names))
told_at-same (exchange.history name) point other w v names held least most = refl
told_at-same ask point other w v names held least most = absurd (true≢false (sym names))

-- each bound is one of what is shown
pub shown-held : (point : ℕ) (o : Option Ref)
    → option_and_then (λ s. s.held) (option_map (shown_at point) o) ≡ held_at point o
shown-held point None = refl
shown-held point (Some r) = refl

pub shown-least : (point : ℕ) (o : Option Ref)
    → option_map (λ s. s.least) (option_map (shown_at point) o) ≡ option_map (λ r. r.least) o
shown-least point None = refl
shown-least point (Some r) = refl

pub shown-most : (point : ℕ) (o : Option Ref)
    → option_map (λ s. s.most) (option_map (shown_at point) o) ≡ option_map (λ r. r.most) o
shown-most point None = refl
shown-most point (Some r) = refl

shown-told : (point : ℕ) (w v : World) (ask : AskData) → ShowsAt point w.around v.around
    → names_shared ask ≡ true → told_at point v ask ≡ told_at point w ask
shown-told point w v ask shows names =
    let n = number_in ask in
    let old = slice_get w.around.refs n in
    let new = slice_get v.around.refs n in
    let same : option_map (shown_at point) new ≡ option_map (shown_at point) old = shows.1 n in
    told_at-same ask point point v w names
    (sym (shown-held point new) ∙ ap (option_and_then (λ s. s.held)) same ∙ shown-held point old)
    (sym (shown-least point new) ∙ ap (option_map (λ s. s.least)) same ∙ shown-least point old)
    (sym (shown-most point new) ∙ ap (option_map (λ s. s.most)) same ∙ shown-most point old)

told-later : (point : ℕ) (w v : World) (xs : List Exchanged) → ShowsAt point w.around v.around
    → AreToldBy (told_at point w) xs → AreToldBy (told_at point v) xs
told-later point w v [] shows told = tt
told-later point w v (x ∷ xs) shows told = (one, told-later point w v xs shows told.1)
  where
    one : IsToldBy (told_at point v) x
    one names = elim (told.0 names) [
      | inl is ↦ inl (is ∙ sym (shown-told point w v x.ask shows names))
      | inr again ↦ inr again
    ]

-- Traces

all-behind : (P : Exchanged → Type 0) (xs : List Exchanged) (x : Exchanged) → AllByRecursion P xs
    → P x → AllByRecursion P (xs ++ x ∷ [])
all-behind P [] x all is = (is, tt)
all-behind P (y ∷ ys) x all is = (all.0, all-behind P ys x all.1 is)

told-behind : (told : AskData → AnswerData) (xs : List Exchanged) (x : Exchanged)
    → AreToldBy told xs → IsToldBy told x → AreToldBy told (xs ++ x ∷ [])
told-behind told [] x all is = (is, tt)
told-behind told (y ∷ ys) x all is = (all.0, told-behind told ys x all.1 is)

-- the trace of an attempt with this read point
record ToldSince (w : World) (point : ℕ) (trace : List Exchanged) : Type 0 where
  before : List Exchanged
  since : List Exchanged
  parted : trace ≡ before ++ begun_attempt ∷ since
  within : AllByRecursion (λ x. is_within x.ask ≡ true) since
  told : AreToldBy (told_at point w) since

-- an actor without a read point, or with one in its attempt
abbrev Stands : World → Option ℕ → Option Run → Type 0
Stands w None f = ⊤
Stands w (Some point) None = ⊥
Stands w (Some point) (Some form) = (point ≤ w.around.counter) × ToldSince w point form.trace

later : (w v : World) (p : Option ℕ) (f : Option Run)
    → ((point : ℕ) → point ≤ w.around.counter → ShowsAt point w.around v.around)
    → Stands w p f → Stands v p f
later w v None f shows stands = tt
later w v (Some point) None shows stands = stands
later w v (Some point) (Some form) shows stands =
    let same = shows point stands.0 in
    let it = stands.1 in (
      omega (arith, stands.0, same.0),
      record {
        before = it.before;
        since = it.since;
        parted = it.parted;
        within = it.within;
        told = told-later point w v it.since same it.told;
      },
    )

-- a form begins only where there is no point
fresh-stands : (w v : World) (p : Option ℕ) (f : Option Run) → Stands w p None → Stands v p f
fresh-stands w v None f stands = tt
fresh-stands w v (Some point) f stands = absurd stands

asked-stands : (w v : World) (o p : Option ℕ) (form : Run) (ask : AskData) (answer : AnswerData)
    → ((point : ℕ) → point ≤ w.around.counter → ShowsAt point w.around v.around)
    → Stands w o (Some form) → PointAfter w ask answer o p
    → Stands v p (Some (run_with (exchange_from ask answer) form))
asked-stands w v o p form ask answer shows stands (inl none) =
    subst (λ k. Stands v k (Some (run_with (exchange_from ask answer) form))) (sym none) tt
asked-stands w v o p form ask answer shows stands (inr (inl begins)) =
    let x : Exchanged = exchange_from ask answer in
    let is : x ≡ begun_attempt = ap (λ y. exchange_from y answer) begins.0
    ∙ ap (λ y. exchange_from begin y) begins.1 in
    let same = shows w.around.counter (omega arith) in
    subst (λ k. Stands v k (Some (run_with x form))) (sym begins.2) (
      same.0,
      record {
        before = form.trace;
        since = [];
        parted = ap (λ y. form.trace ++ y ∷ []) is;
        within = tt;
        told = tt;
      },
    )
asked-stands w v o p form ask answer shows stands (inr (inr on)) =
    let x : Exchanged = exchange_from ask answer in
    let old = subst (λ k. Stands w k (Some form)) on.began stands in
    let it = old.1 in
    let same = shows on.point old.0 in
    subst (λ k. Stands v k (Some (run_with x form))) (sym on.stays) (
      omega (arith, old.0, same.0),
      record {
        before = it.before;
        since = it.since ++ x ∷ [];
        parted = ap (λ xs. xs ++ x ∷ []) it.parted
            ∙ append_assoc it.before (begun_attempt ∷ it.since) (x ∷ []);
        within = all-behind (λ y. is_within y.ask ≡ true) it.since x it.within on.within;
        told = told-later on.point w v (it.since ++ x ∷ []) same
            (told-behind (told_at on.point w) it.since x it.told on.told);
      },
    )

-- Steps

step-stands : (g : Ground) (w : World) (s : Step) (t : ℕ) (a : Actor)
    → Stands w (point_in t a w) (form_in t a w)
    → Stands (world_or w (step g w s)) (point_in t a (world_or w (step g w s)))
    (form_in t a (world_or w (step g w s)))
step-stands g w s t a stands = by (step-moves g w s t a)
  where
    v : World
    v = world_or w (step g w s)

    shows : (point : ℕ) → point ≤ w.around.counter → ShowsAt point w.around v.around
    shows point reached = step-shows point g w s reached

    point_as : (p : Option ℕ) → point_in t a v ≡ p → Stands v p (form_in t a v)
        → Stands v (point_in t a v) (form_in t a v)
    point_as p is h = subst (λ k. Stands v k (form_in t a v)) (sym is) h

    asked : Asks g w s (step g w s) t a → Stands v (point_in t a v) (form_in t a v)
    asked it =
        let ask = it.asked.ask in
        let answer = answer_to g a it.kept.state ask it.asked.told in
        let seat = seat_of a in
        let old = part_under seat it.kept.mine.points in
        let runs : form_in t a w ≡ Some it.asked.form =
        ap (option_and_then (λ kept. running_in a kept.state)) it.there ∙ it.asked.runs in
        let began : point_in t a w ≡ old =
        ap (option_and_then (λ kept. part_under seat kept.mine.points)) it.there in
        let before = subst (λ k. Stands w k (Some it.asked.form)) began
        (subst (Stands w (point_in t a w)) runs stands) in
        let s = store_in w.around t it.kept.mine in
        let now = part_under seat (performed s (call_of seat ask)).store.mine.points in
        point_as now it.asked.point_after
        (subst (Stands v now) (sym it.asked.form_after)
        (asked-stands w v old now it.asked.form ask answer shows before
        (asked-point w t seat it.kept it.there g a ask it.asked.told it.asked.tells)))

    by : StepMoves g w s (step g w s) t a → Stands v (point_in t a v) (form_in t a v)
    by (inl m) = point_as (point_in t a w) m.1
        (subst (Stands v (point_in t a w)) (sym m.0)
        (later w v (point_in t a w) (form_in t a w) shows stands))
    by (inr (inl m)) = point_as (point_in t a w) m.2
        (fresh-stands w v (point_in t a w) (form_in t a v)
        (subst (Stands w (point_in t a w)) m.0 stands))
    by (inr (inr (inl m))) = point_as None m.1 tt
    by (inr (inr (inr m))) = asked m

run-stands : (g : Ground) (w : World) (steps : List Step) (t : ℕ) (a : Actor)
    → Stands w (point_in t a w) (form_in t a w)
    → Stands (run g w steps) (point_in t a (run g w steps)) (form_in t a (run g w steps))
run-stands g w [] t a stands = stands
run-stands g w (s ∷ ss) t a stands =
    run-stands g (world_or w (step g w s)) ss t a (step-stands g w s t a stands)

-- The laws

pub points-of-attempts : PointsAreOfAttempts
points-of-attempts g steps t a point began =
    by (form_in t a w) refl (subst (λ k. Stands w k (form_in t a w)) began
    (run-stands g (opened_world g) steps t a tt))
  where
    w : World
    w = run g (opened_world g) steps

    by : (f : Option Run) → form_in t a w ≡ f → Stands w (Some point) f → UnderWay w t a
    by None is stands = absurd stands
    by (Some form) is stands = record {
      point = point;
      began = began;
      form = form;
      runs = is;
      before = stands.1.before;
      since = stands.1.since;
      parted = stands.1.parted;
      within = stands.1.within;
    }

abbrev Within : List Exchanged → Type 0
Within xs = AllByRecursion (λ x. is_within x.ask ≡ true) xs

begun-within : (before xs : List Exchanged) → Within (before ++ begun_attempt ∷ xs) → ⊥
begun-within [] xs all = true≢false (sym all.0)
begun-within (x ∷ before) xs all = begun-within before xs all.1

-- a trace has one last begin
same-since : (before other xs ys : List Exchanged)
    → before ++ begun_attempt ∷ xs ≡ other ++ begun_attempt ∷ ys → Within xs → Within ys → xs ≡ ys
same-since [] [] xs ys same h k = ap (drop 1) same
same-since [] (y ∷ other) xs ys same h k =
    absurd (begun-within other ys (subst Within (ap (drop 1) same) h))
same-since (x ∷ before) [] xs ys same h k =
    absurd (begun-within before xs (subst Within (sym (ap (drop 1) same)) k))
same-since (x ∷ before) (y ∷ other) xs ys same h k =
    same-since before other xs ys (ap (drop 1) same) h k

pub attempts-are-told : AttemptsAreToldTheirPoint
attempts-are-told g steps t a it =
    let w = run g (opened_world g) steps in
    let stands = subst (Stands w (Some it.point)) it.runs
    (subst (λ k. Stands w k (form_in t a w)) it.began
    (run-stands g (opened_world g) steps t a tt)) in
    let found = stands.1 in
    let same : found.since ≡ it.since = same-since found.before it.before found.since it.since
    (sym found.parted ∙ it.parted) found.within it.within in
    (stands.0, subst (AreToldBy (told_at it.point w)) same found.told)
