-- Attempts at one `dosync` in two runs of a server.
use Rattle.std.proofs.Common.{◌≡◌, ◌∙◌, inl, inr, ℕ, List, [], ◌∷◌, ◌++◌, Bool, true, false, ◌||◌}
use Rattle.std.proofs.Common.{◌&&◌, ◌==◌, slice_get, refl, sym, ap, subst, arith, true≢false}
use Rattle.std.proofs.Common.{if◌then◌else◌}
use Rattle.std.specs.Prelude.{option_map}
use Rattle.std.proofs.lemmas.Bool.{eq-eqb}
use Rattle.value_data.specs.Datum.{shared}
use Rattle.value_data.specs.Same.{same_owner}
use Rattle.repl_asks.specs.Transactions.{RefNameData, same_name}
use Rattle.repl_asks.specs.Exchange as exchange
use Rattle.repl_asks.specs.Exchange.{AskData, AnswerData, Exchanged, read}
use Rattle.repl_asks.specs.Leading.{AreItsAsks}
use Rattle.evaluation_rules.specs.Arguments.{is_shared}
use Rattle.repl_walker.specs.Agreeing.{names_shared, IsToldBy, AreToldBy}
use Rattle.repl_walker.specs.Attempts.{AsksThese}
use Rattle.repl_walker.specs.Standing.{standing_after}
use Rattle.repl_walker.proofs.Agreeing as walker
use Rattle.server_rules.specs.Ground.{Ground}
use Rattle.server_rules.specs.Machine.World.{World, Step, opened_world, run}
use Rattle.server_rules.specs.declared.actor.Actor.{Actor}
use Rattle.repl_core.specs.Points.{shared_ref, told_at}
use Rattle.repl_core.specs.AttemptsUnderWay.{begun_attempt, UnderWay}
use Rattle.repl_core.specs.HonestRuns.{AreHonest}
use Rattle.repl_core.specs.DosyncSettings.{DosyncSetting, body_in, IsAttemptAt}
use Rattle.repl_core.specs.AttemptsInRuns.{names_ref, is_named_in, AttemptsInRunsAgree}
use Rattle.repl_core.proofs.SharedRefs.{shown_in, run-shows}
use Rattle.repl_core.proofs.AskedPoints.{is-shared}
use Rattle.repl_core.proofs.AttemptTraces.{number_in, SameBound, told_at-same, shown-least}
use Rattle.repl_core.proofs.AttemptTraces.{shown-most, attempts-are-told}
use Rattle.repl_core.proofs.AttemptBodies.{asks-behind, body-asks}
use Rattle.repl_core.proofs.HonestTraces.{honest-forms}

-- What both were told, as one

same_name-shared : (name : RefNameData) → is_shared name.owner ≡ true
    → same_name (shared_ref name.number) name ≡ true
same_name-shared name names =
    ap (λ o. same_owner shared o && name.number == name.number) (is-shared name.owner names)
    ∙ eq-eqb name.number name.number refl

-- the ask names the shared ref of its number
names-its_ref : (ask : AskData) → names_shared ask ≡ true
    → names_ref (shared_ref (number_in ask)) ask ≡ true
names-its_ref (read name) names = same_name-shared name names
names-its_ref (exchange.history name) names = same_name-shared name names
names-its_ref (exchange.min_history name set) names = same_name-shared name names
names-its_ref (exchange.max_history name set) names = same_name-shared name names
names-its_ref ask names = absurd (true≢false (sym names))

or-later : (a b : Bool) → b ≡ true → (a || b) ≡ true
or-later true b e = refl
or-later false b e = e

named-first : (x : Exchanged) (xs : List Exchanged) → names_shared x.ask ≡ true
    → is_named_in (x ∷ xs) (shared_ref (number_in x.ask)) ≡ true
named-first x xs names = ap (λ b. b || is_named_in xs (shared_ref (number_in x.ask)))
    (names-its_ref x.ask names)

named-later : (x : Exchanged) (xs : List Exchanged) (n : ℕ)
    → is_named_in xs (shared_ref n) ≡ true → is_named_in (x ∷ xs) (shared_ref n) ≡ true
named-later x xs n named =
    or-later (names_ref (shared_ref n) x.ask) (is_named_in xs (shared_ref n)) named

-- of refs with these numbers it is the first that tells, and of others the second
abbrev Told : Type 0
Told = AskData → AnswerData

abbrev told_of : (ℕ → Bool) → Told → Told → Told
told_of named f h ask = if named (number_in ask) then f ask else h ask

first-told : (named : ℕ → Bool) (f h : Told) (xs : List Exchanged)
    → ((n : ℕ) → is_named_in xs (shared_ref n) ≡ true → named n ≡ true)
    → AreToldBy f xs → AreToldBy (told_of named f h) xs
first-told named f h [] all told = tt
first-told named f h (x ∷ xs) all told = (
  one,
  first-told named f h xs (λ n is. all n (named-later x xs n is)) told.1,
)
  where
    one : IsToldBy (told_of named f h) x
    one names = elim (told.0 names) [
      | inl is ↦ inl (is ∙ sym (ap (λ (b : Bool). if b then f x.ask else h x.ask)
          (all (number_in x.ask) (named-first x xs names))))
      | inr again ↦ inr again
    ]

second-told : (named : ℕ → Bool) (f h : Told) (ys : List Exchanged)
    → ((ask : AskData) → names_shared ask ≡ true
    → is_named_in ys (shared_ref (number_in ask)) ≡ true → named (number_in ask) ≡ true
    → f ask ≡ h ask)
    → AreToldBy h ys → AreToldBy (told_of named f h) ys
second-told named f h [] same told = tt
second-told named f h (y ∷ ys) same told = (
  one,
  second-told named f h ys
      (λ ask names is. same ask names (named-later y ys (number_in ask) is)) told.1,
)
  where
    by : names_shared y.ask ≡ true → (b : Bool) → named (number_in y.ask) ≡ b
        → h y.ask ≡ told_of named f h y.ask
    by names true is = sym (same y.ask names (named-first y ys names) is)
        ∙ sym (ap (λ (b : Bool). if b then f y.ask else h y.ask) is)
    by names false is = sym (ap (λ (b : Bool). if b then f y.ask else h y.ask) is)

    one : IsToldBy (told_of named f h) y
    one names = elim (told.0 names) [
      | inl is ↦ inl (is ∙ by names (named (number_in y.ask)) refl)
      | inr again ↦ inr again
    ]

-- The bounds of shared refs are those with which the server began

module _ (g : Ground) (steps other_steps : List Step) (n : ℕ) where
  abbrev w : World
  w = run g (opened_world g) steps

  abbrev v : World
  v = run g (opened_world g) other_steps

  shown-same : shown_in n 0 w.around.refs ≡ shown_in n 0 v.around.refs
  shown-same = (run-shows 0 g steps (opened_world g) (omega arith)).1 n
      ∙ sym ((run-shows 0 g other_steps (opened_world g) (omega arith)).1 n)

  least-same : SameBound (λ r. r.least) n w v
  least-same = sym (shown-least 0 (slice_get w.around.refs n))
      ∙ ap (option_map (λ s. s.least)) shown-same ∙ shown-least 0 (slice_get v.around.refs n)

  most-same : SameBound (λ r. r.most) n w v
  most-same = sym (shown-most 0 (slice_get w.around.refs n))
      ∙ ap (option_map (λ s. s.most)) shown-same ∙ shown-most 0 (slice_get v.around.refs n)

-- An attempt asks what its body asks

body_in-asks : (g : Ground) (steps : List Step) (t : ℕ) (a : Actor)
    (d : DosyncSetting) (printed : List ℕ) → AreHonest g (opened_world g) t a steps
    → (x : UnderWay (run g (opened_world g) steps) t a)
    → IsAttemptAt g x.form x.before d printed
    → AsksThese (standing_after printed [] (body_in d)) x.since
body_in-asks g steps t a d printed honest x at =
    let tree = g.evaluation x.form.job in
    let all : AreItsAsks tree (x.before ++ begun_attempt ∷ x.since) =
    subst (AreItsAsks tree) x.parted (honest-forms g steps t a x.form honest x.runs) in
    body-asks at.more (body_in d) at.next at.last printed x.since
    (subst (λ k. AreItsAsks k (begun_attempt ∷ x.since)) at.stood
    (asks-behind tree x.before (begun_attempt ∷ x.since) all)) x.within

pub attempts-agree : AttemptsInRunsAgree
attempts-agree g steps other_steps t u a b honest other_honest d printed other x y at other_at own
    held =
    let w = run g (opened_world g) steps in
    let v = run g (opened_world g) other_steps in
    let named : ℕ → Bool = λ n. is_named_in x.since (shared_ref n) in
    let f : Told = told_at x.point w in
    let h : Told = told_at y.point v in
    walker.attempts-agree d.room d.place d.forms d.kept (told_of named f h) printed other x.since
    y.since
    (body_in-asks g steps t a d printed honest x at)
    (body_in-asks g other_steps u b d other other_honest y other_at)
    (first-told named f h x.since (λ n is. is) (attempts-are-told g steps t a x).1)
    (second-told named f h y.since
    (λ ask names in_y in_x. told_at-same ask x.point y.point w v names
    (held (number_in ask) in_x in_y)
    (least-same g steps other_steps (number_in ask))
    (most-same g steps other_steps (number_in ask)))
    (attempts-are-told g other_steps u b y).1)
    own
