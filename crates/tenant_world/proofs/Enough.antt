-- The actors that have something to do, found by their names.
use Rattle.std.proofs.Common.{◌≡◌, ℕ, suc, ◌<◌, ◌==◌, List, [], ◌∷◌, ◌++◌, Bool, true, false, not}
use Rattle.std.proofs.Common.{◌||◌, if◌then◌else◌, true≢false}
use Rattle.std.proofs.Common.{Some, inr, filter, map, length, refl, sym, ap, ◌∙◌}
use Rattle.std.proofs.Common.{subst, arith}
use Rattle.std.specs.Prelude.{⊤}
use Rattle.std.proofs.Math.Dec.{eqb-suc-zero}
use Rattle.std.proofs.lemmas.Bool.{ne_eqb, eq-eqb}
use Rattle.server_rules.specs.Machine.Ready.{is_busy}
use Rattle.ref_table.specs.Numbered.{Entry, part_under}
use Rattle.server_rules.specs.Tenant.{ActorData, seat_of, actor_at}
use Rattle.server_rules.specs.declared.actor.Actor.{Actor}
use Rattle.server_rules.specs.LoneTurns.{LoneTenant, is_of_agents, agents_last}
use Rattle.server_rules.specs.Inside.Rounds.{is_some_busy, busy_actors, IsEnough}
use Rattle.tenant_parts.specs.Busy.{busy_of}
use Rattle.tenant_parts.specs.Lent.{AreAbove, ActorsAscend}
use Rattle.tenant_parts.proofs.Listing.{number-back}

abbrev Entries : Type 0
Entries = List (Entry ActorData)

-- each of these is found under its number
abbrev AreFound : Entries → Entries → Type 0
AreFound whole [] = ⊤
AreFound whole (e ∷ es) = (part_under e.number whole ≡ Some e.part) × AreFound whole es

apart : (n m : ℕ) → m < n → (n == m) ≡ false
apart n m less = ne_eqb n m (λ same.
    let never : m < m = subst (λ k. m < k) same less in omega (arith, never))

found-behind : (e : Entry ActorData) (whole es : Entries) → AreAbove e.number es
    → AreFound whole es → AreFound (e ∷ whole) es
found-behind e whole [] above found = tt
found-behind e whole (f ∷ es) above found = (
  ap (λ b. if b then Some e.part else part_under f.number whole)
      (apart f.number e.number above.0) ∙ found.0,
  found-behind e whole es above.1 found.1,
)

found-all : (es : Entries) → ActorsAscend es → AreFound es es
found-all [] rise = tt
found-all (e ∷ es) rise = (
  ap (λ b. if b then Some e.part else part_under e.number es) (eq-eqb e.number e.number refl),
  found-behind e es es rise.0 (found-all es rise.1),
)

abbrev names : Entries → List Actor
names es = map (λ e. actor_at e.number) es

abbrev is_busy_in : Entries → Actor → Bool
is_busy_in whole a = is_some_busy (part_under (seat_of a) whole)

busy-found : (whole es : Entries) → AreFound whole es
    → busy_of es ≡ filter (is_busy_in whole) (names es)
busy-found whole [] found = refl
busy-found whole (e ∷ es) found = by (is_busy e.part) refl (busy-found whole es found.1) where
  here : is_busy_in whole (actor_at e.number) ≡ is_busy e.part
  here =
      ap (λ n. is_some_busy (part_under n whole)) (number-back e.number)
      ∙ ap is_some_busy found.0

  by : (b : Bool) → is_busy e.part ≡ b → busy_of es ≡ filter (is_busy_in whole) (names es)
      → busy_of (e ∷ es) ≡ filter (is_busy_in whole) (names (e ∷ es))
  by true is behind =
      ap (λ b. names (if b then e ∷ filter (λ e. is_busy e.part) es
      else filter (λ e. is_busy e.part) es)) is
      ∙ ap (λ rest. actor_at e.number ∷ rest) behind
      ∙ sym (ap (λ b. if b then actor_at e.number ∷ filter (is_busy_in whole) (names es)
      else filter (is_busy_in whole) (names es)) (here ∙ is))
  by false is behind =
      ap (λ b. names (if b then e ∷ filter (λ e. is_busy e.part) es
      else filter (λ e. is_busy e.part) es)) is
      ∙ behind
      ∙ sym (ap (λ b. if b then actor_at e.number ∷ filter (is_busy_in whole) (names es)
      else filter (is_busy_in whole) (names es)) (here ∙ is))

-- That of agents, which is asked last

abbrev not_agents : Actor → Bool
not_agents a = not (is_of_agents a)

abbrev may_be_busy : Entries → Actor → Bool
may_be_busy whole a = (seat_of a == 0) || is_busy_in whole a

filter-both : {A : Type 0} (f : A → Bool) (xs ys : List A)
    → filter f (xs ++ ys) ≡ filter f xs ++ filter f ys
filter-both f [] ys = refl
filter-both {A} f (x ∷ xs) ys = by (f x) (filter-both f xs ys) where
  by : (b : Bool) → filter f (xs ++ ys) ≡ filter f xs ++ filter f ys
      → (if b then x ∷ filter f (xs ++ ys) else filter f (xs ++ ys))
      ≡ (if b then x ∷ filter f xs else filter f xs) ++ filter f ys
  by true behind = ap (λ rest. x ∷ rest) behind
  by false behind = behind

others-busy : (whole : Entries) (a : Actor) → not_agents a ≡ true
    → may_be_busy whole a ≡ is_busy_in whole a
others-busy whole Actor.Agents other = absurd (true≢false (sym other))
others-busy whole Actor.Bare other = refl
others-busy whole (Actor.Session n) other =
    ap (λ b. b || is_busy_in whole (Actor.Session n)) (eqb-suc-zero (suc n))

others-filtered : (whole : Entries) (xs : List Actor)
    → filter (may_be_busy whole) (filter not_agents xs)
    ≡ filter not_agents (filter (is_busy_in whole) xs)
others-filtered whole [] = refl
others-filtered whole (x ∷ xs) =
    by (not_agents x) refl (is_busy_in whole x) refl (others-filtered whole xs)
  where
    rest : List Actor
    rest = filter (is_busy_in whole) xs

    by : (b : Bool) → not_agents x ≡ b → (c : Bool) → is_busy_in whole x ≡ c
        → filter (may_be_busy whole) (filter not_agents xs) ≡ filter not_agents rest
        → filter (may_be_busy whole) (if b then x ∷ filter not_agents xs else filter not_agents xs)
        ≡ filter not_agents (if c then x ∷ rest else rest)
    by true is true busy behind =
        ap (λ d. if d then x ∷ filter (may_be_busy whole) (filter not_agents xs)
        else filter (may_be_busy whole) (filter not_agents xs)) (others-busy whole x is ∙ busy)
        ∙ ap (λ ys. x ∷ ys) behind
        ∙ sym (ap (λ d. if d then x ∷ filter not_agents rest else filter not_agents rest) is)
    by true is false busy behind =
        ap (λ d. if d then x ∷ filter (may_be_busy whole) (filter not_agents xs)
        else filter (may_be_busy whole) (filter not_agents xs)) (others-busy whole x is ∙ busy)
        ∙ behind
    by false is true busy behind =
        behind ∙ sym (ap (λ d. if d then x ∷ filter not_agents rest else filter not_agents rest) is)
    by false is false busy behind = behind

busy-last : (es : Entries) → ActorsAscend es
    → agents_last (busy_of es) ≡ filter (may_be_busy es) (agents_last (names es))
busy-last es rise =
    ap agents_last (busy-found es es (found-all es rise))
    ∙ ap (λ xs. xs ++ Actor.Agents ∷ []) (sym (others-filtered es (names es)))
    ∙ sym (filter-both (may_be_busy es) (filter not_agents (names es)) (Actor.Agents ∷ []))

pub busy-enough : (l : LoneTenant) (es : Entries) (actors : List Actor) (count steps : ℕ)
    → es ≡ l.state.actors → ActorsAscend es → actors ≡ agents_last (busy_of es) → count ≡ length actors
    → steps ≡ l.state.steps → count < steps → IsEnough l actors
busy-enough l es actors count steps same rise are counted left room =
    let found : agents_last (busy_of es) ≡ busy_actors l =
    busy-last es rise ∙ ap (λ fs. filter (may_be_busy fs) (agents_last (names fs))) same in
    inr (are ∙ found, subst (λ n. n < l.state.steps) counted (subst (λ n. count < n) left room))
