-- Those that pass a test, found through the list of those that have something to do.
use Rattle.std.proofs.Common.{◌≡◌, ℕ, ◌<◌, Bool, true, false, ◌||◌, ◌==◌, cond, List, [], ◌∷◌, map}
use Rattle.std.proofs.Common.{find, Option, Some, None, is_some, option_map, refl, sym, ap, ◌∙◌}
use Rattle.std.proofs.Common.{subst, true≢false, arith}
use Rattle.std.specs.List.{AllByRecursion, filter, list_any}
use Rattle.std.specs.List.Sorted.{IsStrictlySortedBy}
use Rattle.std.specs.Map.{keys_of}
use Rattle.std.specs.Ordering.{nat_cmp}
use Rattle.std.specs.declared.cmp.Ordering.{Ordering}
use Rattle.std.specs.declared.cmp.Ordering.TheVariants.{Less, Equal, Greater}
use Rattle.std.proofs.lemmas.Bool.{eq-eqb, ne_eqb}
use Rattle.std.proofs.lemmas.Cmp.{ranked}
use Rattle.std.proofs.lemmas.Map.Keys.{sorted_head, sorted_tail}
use Rattle.server_rules.specs.Machine.Ready.{has_waiting, may_begin}
use Rattle.ref_table.specs.Numbered.{Entry, part_under}
use Rattle.server_rules.specs.Request.{Waiting, WorkInHand}
use Rattle.server_rules.specs.Tenant.{ActorData, actor_at, seat_of}
use Rattle.server_rules.specs.declared.actor.Actor.{Actor}
use Rattle.tenant_parts.specs.Busy.{is_busy, passes}
use Rattle.tenant_parts.specs.Lent.{AreAbove, ActorsAscend}
use Rattle.tenant_parts.specs.Listed.{are_listed}
use Rattle.tenant_parts.proofs.EntryLaws.{found_first}
use Rattle.tenant_parts.proofs.Seats as code
use Rattle.tenant_parts.proofs.Seats.{seen, at, at-seats, by_name, by-seats, seat-back}
use Rattle.tenant_parts.proofs.Listing.{Names, Entries, number-back, listed-first, listed-others}

-- whether the actor of a name passes the test
abbrev pub passing : (ActorData → Bool) → Entries → Actor → Bool
passing test es a = passes test (part_under (seat_of a) es)

-- the names of those that pass it
abbrev pub passed : (ActorData → Bool) → Entries → List Actor
passed test es = map (λ e. actor_at e.number) (filter (λ e. test e.part) es)

-- Order

-- all names have higher seats
abbrev pub AreHigher : ℕ → List Actor → Type 0
AreHigher n [] = Unit {0}
AreHigher n (k ∷ ks) = (n < seat_of k) × AreHigher n ks

abbrev pub NamesAscend : List Actor → Type 0
NamesAscend [] = Unit {0}
NamesAscend (k ∷ ks) = AreHigher (seat_of k) ks × NamesAscend ks

less-from : (a b : Actor) → by_name a b ≡ Less → seat_of a < seat_of b
less-from a b h = ranked (seat_of a) (seat_of b) Less (sym h ∙ by-seats a b)

higher-from : (k : Actor) (ks : List Actor) → AllByRecursion (λ y. by_name k y ≡ Less) ks
    → AreHigher (seat_of k) ks
higher-from k [] h = tt
higher-from k (x ∷ ks) h = (less-from k x h.0, higher-from k ks h.1)

pub names-ascend : (ks : List Actor) → IsStrictlySortedBy by_name ks → NamesAscend ks
names-ascend [] h = tt
names-ascend (k ∷ ks) h = (
  higher-from k ks (sorted_head by_name k ks h),
  names-ascend ks (sorted_tail by_name k ks h),
)

above-from : (k : Actor) (es : code.Entries)
    → AllByRecursion (λ y. by_name k y ≡ Less) (keys_of es) → AreAbove (seat_of k) (seen es)
above-from k [] h = tt
above-from k (e ∷ es) h = (less-from k e.0 h.0, above-from k es h.1)

pub ascend-from : (es : code.Entries) → IsStrictlySortedBy by_name (keys_of es) → ActorsAscend (seen es)
ascend-from [] h = tt
ascend-from (e ∷ es) h = (
  above-from e.0 es (sorted_head by_name e.0 (keys_of es) h),
  ascend-from es (sorted_tail by_name e.0 (keys_of es) h),
)

higher-more : (m n : ℕ) (ks : List Actor) → m < n → AreHigher n ks → AreHigher m ks
higher-more m n [] less h = tt
higher-more m n (k ∷ ks) less h =
    let first : n < seat_of k = h.0 in
    (omega (arith, less, first), higher-more m n ks less h.1)

above-more : (m n : ℕ) (es : Entries) → m < n → AreAbove n es → AreAbove m es
above-more m n [] less h = tt
above-more m n (e ∷ es) less h =
    let first : n < e.number = h.0 in
    (omega (arith, less, first), above-more m n es less h.1)

lower-apart : (m n : ℕ) → m < n → (m == n) ≡ false
lower-apart m n less = ne_eqb m n (λ same.
    let never : n < n = subst (λ k. k < n) same less in omega (arith, never))

higher-apart : (m n : ℕ) → n < m → (m == n) ≡ false
higher-apart m n less = ne_eqb m n (λ same.
    let never : m < m = subst (λ k. k < m) (sym same) less in omega (arith, never))

-- The list

-- each that passes is on it
abbrev pub Covers : (ActorData → Bool) → List Actor → Entries → Type 0
Covers test ks [] = Unit {0}
Covers test ks (e ∷ es) = (test e.part ≡ true → list_any (at (actor_at e.number)) ks ≡ true)
    × Covers test ks es

pub covers-from : (test : ActorData → Bool) (s : Names) (es : Entries)
    → ((a : ActorData) → test a ≡ true → is_busy a ≡ true) → are_listed s es ≡ true
    → Covers test s.keys es
covers-from test s [] busy h = tt
covers-from test s (e ∷ es) busy h = (
  λ p. listed-first s e es h (busy e.part p),
  covers-from test s es busy (listed-others s e es h),
)

at-number : (n : ℕ) (k : Actor) → at (actor_at n) k ≡ (n == seat_of k)
at-number n k = at-seats (actor_at n) k ∙ ap (λ m. m == seat_of k) (number-back n)

either : (b c : Bool) → b ≡ false → (b || c) ≡ c
either true c h = absurd (true≢false h)
either false c h = refl

not-listed : (n : ℕ) (ks : List Actor) → AreHigher n ks → list_any (at (actor_at n)) ks ≡ false
not-listed n [] h = refl
not-listed n (k ∷ ks) h =
    either (at (actor_at n) k) (list_any (at (actor_at n)) ks)
    (at-number n k ∙ lower-apart n (seat_of k) h.0)
    ∙ not-listed n ks h.1

covers-drop : (test : ActorData → Bool) (k : Actor) (ks : List Actor) (es : Entries)
    → AreAbove (seat_of k) es → Covers test (k ∷ ks) es → Covers test ks es
covers-drop test k ks [] above h = tt
covers-drop test k ks (e ∷ es) above h = (
  λ p. sym (either (at (actor_at e.number) k) (list_any (at (actor_at e.number)) ks)
      (at-number e.number k ∙ higher-apart e.number (seat_of k) above.0)) ∙ h.0 p,
  covers-drop test k ks es above.1 h.1,
)

-- What passes

abbrev kept : {A : Type 0} → Bool → A → List A → List A
kept b x rest = cond b (x ∷ rest) rest

none-found : (test : ActorData → Bool) (ks : List Actor) → filter (passing test []) ks ≡ []
none-found test [] = refl
none-found test (k ∷ ks) = none-found test ks

none-passed : (test : ActorData → Bool) (es : Entries) → Covers test [] es → passed test es ≡ []
none-passed test [] h = refl
none-passed test (e ∷ es) h = by (none-passed test es h.1) (test e.part) h.0
  where
    by : passed test es ≡ [] → (b : Bool) → (b ≡ true → false ≡ true)
        → map (λ e. actor_at e.number) (kept b e (filter (λ e. test e.part) es)) ≡ []
    by behind true never = absurd (true≢false (sym (never refl)))
    by behind false never = behind

found-low : (n : ℕ) (es : Entries) → AreAbove n es → part_under n es ≡ None
found-low n [] above = refl
found-low n (e ∷ es) above =
    ap (λ (b : Bool). found_first b e.part (part_under n es)) (lower-apart n e.number above.0)
    ∙ found-low n es above.1

-- names with higher seats do not find the first
skip-first : (test : ActorData → Bool) (e : Entry ActorData) (es : Entries) (ks : List Actor)
    → AreHigher e.number ks → filter (passing test (e ∷ es)) ks ≡ filter (passing test es) ks
skip-first test e es [] higher = refl
skip-first test e es (k ∷ ks) higher =
    ap (λ (b : Bool). kept (passes test (found_first b e.part (part_under (seat_of k) es))) k
    (filter (passing test (e ∷ es)) ks)) (higher-apart (seat_of k) e.number higher.0)
    ∙ ap (kept (passing test es k) k) (skip-first test e es ks higher.1)

first-passed : (test : ActorData → Bool) (k : Actor) (e : Entry ActorData) (es : Entries)
    → k ≡ actor_at e.number → kept (test e.part) k (passed test es) ≡ passed test (e ∷ es)
first-passed test k e es same = by (test e.part)
  where
    by : (b : Bool) → kept b k (passed test es)
        ≡ map (λ e. actor_at e.number) (kept b e (filter (λ e. test e.part) es))
    by true = ap (λ a. a ∷ passed test es) same
    by false = refl

not-true : (b : Bool) → (b ≡ true → ⊥) → b ≡ false
not-true true never = absurd (never refl)
not-true false never = refl

-- the names on the list that pass, if all that pass are on it
pub passed-listed : (test : ActorData → Bool) (ks : List Actor) (es : Entries) → NamesAscend ks
    → ActorsAscend es → Covers test ks es → filter (passing test es) ks ≡ passed test es
passed-listed test [] es up rise covers = sym (none-passed test es covers)
passed-listed test (k ∷ ks) es up rise covers =
    with-first (λ fs r c. passed-listed test ks fs up.1 r c) es rise covers
  where
    by-order : ((fs : Entries) → ActorsAscend fs → Covers test ks fs
        → filter (passing test fs) ks ≡ passed test fs)
        → (e : Entry ActorData) (fs : Entries) → ActorsAscend (e ∷ fs) → Covers test (k ∷ ks) (e ∷ fs)
        → filter (passing test fs) (k ∷ ks) ≡ passed test fs
        → (o : Ordering) → nat_cmp (seat_of k) e.number ≡ o
        → filter (passing test (e ∷ fs)) (k ∷ ks) ≡ passed test (e ∷ fs)
    by-order behind e fs r c further Less h =
        let below : seat_of k < e.number = ranked (seat_of k) e.number Less (sym h) in
        let above : AreAbove (seat_of k) (e ∷ fs) =
        (below, above-more (seat_of k) e.number fs below r.0) in
        ap (λ o. kept (passes test o) k (filter (passing test (e ∷ fs)) ks))
        (found-low (seat_of k) (e ∷ fs) above)
        ∙ behind (e ∷ fs) r (covers-drop test k ks (e ∷ fs) above c)
    by-order behind e fs r c further Equal h =
        let same : seat_of k ≡ e.number = ranked (seat_of k) e.number Equal (sym h) in
        let rest = filter (passing test (e ∷ fs)) ks in
        ap (λ (b : Bool). kept (passes test (found_first b e.part (part_under (seat_of k) fs))) k rest)
        (eq-eqb (seat_of k) e.number same)
        ∙ ap (kept (test e.part) k)
        (skip-first test e fs ks (subst (λ n. AreHigher n ks) same up.0)
        ∙ behind fs r.1 (covers-drop test k ks fs (subst (λ n. AreAbove n fs) (sym same) r.0) c.1))
        ∙ first-passed test k e fs (sym (seat-back k) ∙ ap actor_at same)
    by-order behind e fs r c further Greater h =
        let over : e.number < seat_of k = ranked (seat_of k) e.number Greater (sym h) in
        let higher : AreHigher e.number (k ∷ ks) =
        (over, higher-more e.number (seat_of k) ks over up.0) in
        let idle : test e.part ≡ false = not-true (test e.part) (λ p.
        true≢false (sym (c.0 p) ∙ not-listed e.number (k ∷ ks) higher)) in
        skip-first test e fs (k ∷ ks) higher ∙ further
        ∙ sym (ap (λ (b : Bool). map (λ e. actor_at e.number)
        (kept b e (filter (λ e. test e.part) fs))) idle)

    with-first : ((fs : Entries) → ActorsAscend fs → Covers test ks fs
        → filter (passing test fs) ks ≡ passed test fs)
        → (fs : Entries) → ActorsAscend fs → Covers test (k ∷ ks) fs
        → filter (passing test fs) (k ∷ ks) ≡ passed test fs
    with-first behind [] r c = none-found test ks
    with-first behind (e ∷ fs) r c =
        by-order behind e fs r c (with-first behind fs r.1 c.1) (nat_cmp (seat_of k) e.number) refl

-- The first

abbrev first : {A : Type 0} → List A → Option A
first [] = None
first (x ∷ xs) = Some x

find-first : {A : Type 0} (test : A → Bool) (xs : List A) → find test xs ≡ first (filter test xs)
find-first test [] = refl
find-first {A} test (x ∷ xs) = by (find-first test xs) (test x)
  where
    by : find test xs ≡ first (filter test xs) → (b : Bool)
        → cond b (Some x) (find test xs) ≡ first (kept b x (filter test xs))
    by behind true = refl
    by behind false = behind

first-map : {A B : Type 0} (f : A → B) (xs : List A) → first (map f xs) ≡ option_map f (first xs)
first-map f [] = refl
first-map f (x ∷ xs) = refl

pub first-listed : (test : ActorData → Bool) (ks : List Actor) (es : Entries) → NamesAscend ks
    → ActorsAscend es → Covers test ks es
    → find (passing test es) ks ≡ option_map (λ e. actor_at e.number) (find (λ e. test e.part) es)
first-listed test ks es up rise covers =
    find-first (passing test es) ks
    ∙ ap first (passed-listed test ks es up rise covers)
    ∙ first-map (λ e. actor_at e.number) (filter (λ e. test e.part) es)
    ∙ ap (option_map (λ e. actor_at e.number)) (sym (find-first (λ e. test e.part) es))

-- an actor that has something to begin has something to do
busy-begins : (ws : List Waiting) (h : Option WorkInHand) → may_begin ws h ≡ true
    → (is_some h || has_waiting ws) ≡ true
busy-begins ws None begins = begins
busy-begins ws (Some h) begins = refl

pub begins-busy : (a : ActorData) → may_begin a.waiting a.hand ≡ true → is_busy a ≡ true
begins-busy a begins = busy-begins a.waiting a.hand begins
