-- The sessions that remain, as more leave or are made.
use Rattle.std.proofs.Common.{◌≡◌, ℕ, ◌+◌, ◌==◌, Bool, true, false, not, ◌||◌, ◌&&◌, cond, List, []}
use Rattle.std.proofs.Common.{◌∷◌, ◌++◌, filter, find, Option, Some, None, option_map, is_some}
use Rattle.std.proofs.Common.{refl, sym, ap, ◌∙◌, ◌<◌, length, unwrap_or, true≢false, arith}
use Rattle.std.specs.BTreeSet.{insert_key}
use Rattle.std.specs.Ordering.{nat_cmp, match_ordering, MatchOrdering}
use Rattle.std.specs.declared.cmp.Ordering.{Ordering}
use Rattle.std.specs.declared.cmp.Ordering.TheVariants.{Less, Equal, Greater}
use Rattle.std.proofs.lemmas.Bool.{eqb-true, eq-eqb}
use Rattle.std.proofs.lemmas.Cmp.{ranked}
use Rattle.std.proofs.lemmas.List.Elements.{filter-append}
use Rattle.repl_sessions.specs.State.{StateData, fresh}
use Rattle.repl_sessions.specs.Sessions.{SessionData, SessionsData, is_numbered, state_of, is_open}
use Rattle.repl_sessions.specs.Sessions.{cloned_state, opened_with, without_session}
use Rattle.repl_sessions.specs.Inside.Leaving.{is_leaving, remaining_sessions, remaining_named}
use Rattle.repl_sessions.specs.Named.{NamedSessions}

same-test : (n m : ℕ) → (n == m) ≡ (m == n)
same-test n m = by (n == m) (m == n) refl refl
  where
    by : (b c : Bool) → (n == m) ≡ b → (m == n) ≡ c → b ≡ c
    by true true i j = refl
    by false false i j = refl
    by true false i j = absurd (true≢false (sym (eq-eqb m n (sym (eqb-true n m i))) ∙ j))
    by false true i j = absurd (true≢false (sym (eq-eqb n m (sym (eqb-true m n j))) ∙ i))

-- one number more leaves
pub leaving-inserted : (n : ℕ) (ks : List ℕ) (m : ℕ) → is_leaving (insert_key nat_cmp ks n) m ≡ ((m == n) || is_leaving ks m)
leaving-inserted n [] m = refl
leaving-inserted n (k ∷ ks) m =
    by (nat_cmp n k) (ranked n k (nat_cmp n k) refl) (leaving-inserted n ks m)
  where
    swap : (a b c : Bool) → (a || (b || c)) ≡ (b || (a || c))
    swap true true c = refl
    swap true false c = refl
    swap false true c = refl
    swap false false c = refl

    twice : (a c : Bool) → (a || c) ≡ (a || (a || c))
    twice true c = refl
    twice false c = refl

    by : (o : Ordering) → MatchOrdering o (n < k) (n ≡ k) (k < n)
        → is_leaving (insert_key nat_cmp ks n) m ≡ ((m == n) || is_leaving ks m)
        → is_leaving (match_ordering o (n ∷ k ∷ ks) (k ∷ ks) (k ∷ insert_key nat_cmp ks n)) m
        ≡ ((m == n) || ((m == k) || is_leaving ks m))
    by Less h ih = refl
    by Equal h ih =
        twice (m == k) (is_leaving ks m) ∙ ap (λ (j : ℕ). (m == j) || ((m == k) || is_leaving ks m)) (sym h)
    by Greater h ih =
        ap (λ (b : Bool). (m == k) || b) ih ∙ swap (m == k) (m == n) (is_leaving ks m)

filter-filter : {X : Type 0} (p q r : X → Bool) (xs : List X) → ((x : X) → r x ≡ (q x && p x)) → filter p (filter q xs) ≡ filter r xs
filter-filter p q r [] both = refl
filter-filter {X} p q r (x ∷ xs) both =
    by (q x) (filter-filter p q r xs both) ∙ sym (ap (λ (b : Bool). cond b (x ∷ filter r xs) (filter r xs)) (both x))
  where
    by : (b : Bool) → filter p (filter q xs) ≡ filter r xs
        → filter p (cond b (x ∷ filter q xs) (filter q xs)) ≡ cond (b && p x) (x ∷ filter r xs) (filter r xs)
    by true ih = ap (λ (l : List X). cond (p x) (x ∷ l) l) ih
    by false ih = ih

not-or : (a b : Bool) → not (a || b) ≡ (not b && not a)
not-or true true = refl
not-or true false = refl
not-or false true = refl
not-or false false = refl

not-or-first : (a b : Bool) → not (a || b) ≡ (not a && not b)
not-or-first true b = refl
not-or-first false b = refl

pub remaining_sessions-inserted : (n : ℕ) (ks : List ℕ) (s : SessionsData) → remaining_sessions (insert_key nat_cmp ks n) s ≡ without_session (remaining_sessions ks s) n
remaining_sessions-inserted n ks s =
    ap (λ (l : List SessionData). record s { live = l })
    (sym (filter-filter (λ x. not (is_numbered n x)) (λ x. not (is_leaving ks x.number)) (λ x. not (is_leaving (insert_key nat_cmp ks n) x.number)) s.live
    (λ x. ap not (leaving-inserted n ks x.number ∙ ap (λ (b : Bool). b || is_leaving ks x.number) (same-test x.number n))
    ∙ not-or (n == x.number) (is_leaving ks x.number))))

pub remaining_sessions-first : (k : ℕ) (ks : List ℕ) (s : SessionsData) → remaining_sessions (k ∷ ks) s ≡ remaining_sessions ks (without_session s k)
remaining_sessions-first k ks s =
    ap (λ (l : List SessionData). record s { live = l })
    (sym (filter-filter (λ x. not (is_leaving ks x.number)) (λ x. not (is_numbered k x)) (λ x. not (is_leaving (k ∷ ks) x.number)) s.live
    (λ x. ap (λ (b : Bool). not (b || is_leaving ks x.number)) (same-test x.number k) ∙ not-or-first (k == x.number) (is_leaving ks x.number))))

filter-all : {X : Type 0} (p : X → Bool) (xs : List X) → ((x : X) → p x ≡ true) → filter p xs ≡ xs
filter-all p [] h = refl
filter-all {X} p (x ∷ xs) h =
    ap (λ (b : Bool). cond b (x ∷ filter p xs) (filter p xs)) (h x) ∙ ap (λ (l : List X). x ∷ l) (filter-all p xs h)

pub remaining_sessions-none : (s : SessionsData) → remaining_sessions [] s ≡ s
remaining_sessions-none s = ap (λ (l : List SessionData). record s { live = l }) (filter-all (λ x. not (is_leaving [] x.number)) s.live (λ x. refl))

-- one session among those that remain
find-remaining : (ks : List ℕ) (n : ℕ) (xs : List SessionData) → is_leaving ks n ≡ false
    → find (is_numbered n) (filter (λ x. not (is_leaving ks x.number)) xs) ≡ find (is_numbered n) xs
find-remaining ks n [] absent = refl
find-remaining ks n (x ∷ xs) absent =
    by (is_leaving ks x.number) (n == x.number) refl refl (find-remaining ks n xs absent)
  where
    rest : List SessionData
    rest = filter (λ x. not (is_leaving ks x.number)) xs

    by : (b c : Bool) → is_leaving ks x.number ≡ b → (n == x.number) ≡ c → find (is_numbered n) rest ≡ find (is_numbered n) xs
        → find (is_numbered n) (cond (not b) (x ∷ rest) rest) ≡ cond c (Some x) (find (is_numbered n) xs)
    by true true i j ih =
        let same = eqb-true n x.number j in
        absurd (true≢false (sym i ∙ ap (is_leaving ks) (sym same) ∙ absent))
    by true false i j ih = ih
    by false c i j ih = ap (λ (b : Bool). cond b (Some x) (find (is_numbered n) rest)) j ∙ ap (cond c (Some x)) ih

pub state-remaining_sessions : (ks : List ℕ) (n : ℕ) (s : SessionsData) → is_leaving ks n ≡ false → state_of (remaining_sessions ks s) n ≡ state_of s n
state-remaining_sessions ks n s absent = ap (option_map (λ x. x.state)) (find-remaining ks n s.live absent)

find-leaving : (ks : List ℕ) (n : ℕ) (xs : List SessionData) → is_leaving ks n ≡ true
    → find (is_numbered n) (filter (λ x. not (is_leaving ks x.number)) xs) ≡ None
find-leaving ks n [] is = refl
find-leaving ks n (x ∷ xs) is =
    by (is_leaving ks x.number) (n == x.number) refl refl (find-leaving ks n xs is)
  where
    rest : List SessionData
    rest = filter (λ x. not (is_leaving ks x.number)) xs

    by : (b c : Bool) → is_leaving ks x.number ≡ b → (n == x.number) ≡ c → find (is_numbered n) rest ≡ None
        → find (is_numbered n) (cond (not b) (x ∷ rest) rest) ≡ None
    by true c i j ih = ih
    by false true i j ih =
        let same = eqb-true n x.number j in
        absurd (true≢false (sym is ∙ ap (is_leaving ks) same ∙ i))
    by false false i j ih = ap (λ (b : Bool). cond b (Some x) (find (is_numbered n) rest)) j ∙ ih

pub open-remaining_sessions : (ks : List ℕ) (n : ℕ) (s : SessionsData) → is_open (remaining_sessions ks s) n ≡ true → is_leaving ks n ≡ false
open-remaining_sessions ks n s is = by (is_leaving ks n) refl
  where
    by : (b : Bool) → is_leaving ks n ≡ b → is_leaving ks n ≡ false
    by true i =
        let none : is_open (remaining_sessions ks s) n ≡ false = ap (λ (o : Option SessionData). is_some (option_map (λ x. x.state) o)) (find-leaving ks n s.live i) in
        absurd (true≢false (sym is ∙ none))
    by false i = i

pub open-still : (ks : List ℕ) (n : ℕ) (s : SessionsData) → is_open (remaining_sessions ks s) n ≡ true → is_open s n ≡ true
open-still ks n s is = sym (ap is_some (state-remaining_sessions ks n s (open-remaining_sessions ks n s is))) ∙ is

-- a session more, which is not leaving
pub remaining_sessions-opened : (ks : List ℕ) (s : SessionsData) (state : StateData) → is_leaving ks s.opened ≡ false
    → remaining_sessions ks (opened_with s state) ≡ opened_with (remaining_sessions ks s) state
remaining_sessions-opened ks s state absent =
    ap (λ (l : List SessionData). record { opened = s.opened + 1; live = l })
    (filter-append (λ x. not (is_leaving ks x.number)) s.live (new ∷ [])
    ∙ ap (λ (b : Bool). filter (λ x. not (is_leaving ks x.number)) s.live ++ cond (not b) (new ∷ []) []) absent)
  where
    new : SessionData
    new = record { number = s.opened; state = state }

pub first-remaining_sessions : (ks : List ℕ) (s : SessionsData) (n : ℕ) → is_leaving ks n ≡ false → cloned_state (remaining_sessions ks s) (Some n) ≡ cloned_state s (Some n)
first-remaining_sessions ks s n absent = ap (λ (o : Option StateData). unwrap_or o fresh) (state-remaining_sessions ks n s absent)

pub remaining-all : (s : NamedSessions) (ks : List ℕ) → (0 < length ks → ⊥) → s ≡ remaining_named ks s
remaining-all s [] none = ap (λ x. record s { sessions = x }) (sym (remaining_sessions-none s.sessions))
remaining-all s (k ∷ ks) none = absurd (none (omega arith))
