-- Sessions by their numbers: the entries of the map, seen as data.
use Rattle.std.proofs.Common.{◌≡◌, ℕ, ◌<◌, Bool, true, false, cond, eqb, not, List, [], ◌∷◌, ◌++◌}
use Rattle.std.proofs.Common.{map, filter, find, Option, Some, None, option_map, is_some, refl, sym}
use Rattle.std.proofs.Common.{ap, ◌∙◌, ap₂, append-nil, arith}
use denote.Ref.{Bor}
use Rattle.std.specs.Option.{option_copied}
use Rattle.std.specs.Ordering.{nat_cmp, match_ordering}
use Rattle.std.specs.declared.cmp.Ordering.{Ordering}
use Rattle.std.specs.declared.cmp.Ordering.TheVariants.{Less, Greater}
use Rattle.std.specs.Cmp.{unsigned_tied, nat_cmp_is}
use Rattle.std.specs.BTreeMap.{insert_entry, is_at}
use Rattle.std.specs.List.{AllByRecursion, AllZip}
use Rattle.std.specs.List.Sorted.{IsStrictlySortedBy}
use Rattle.std.specs.Map.{keys_of, lookup, remove_entry, set_value}
use Rattle.std.proofs.lemmas.Bool.{eqb-true, eq-eqb, ne_eqb}
use Rattle.std.proofs.lemmas.Cmp.{ranked}
use Rattle.std.proofs.lemmas.List.{map-append}
use Rattle.std.proofs.lemmas.List.Elements.{filter-append}
use Rattle.std.proofs.lemmas.Map.Keys.{sorted_head, sorted_tail}
use Rattle.repl_sessions.specs.State.{StateData}
use Rattle.repl_sessions.specs.Inside.StateView.{state_view}
use Rattle.repl_sessions.specs.Sessions.{SessionData, is_numbered, with_changed_state}
use Rattle.repl_sessions.specs.Inside.View.{session_view, live_view}
use Rattle.repl_sessions.specs.declared.state.SessionState.{SessionState}

abbrev pub Entries : Type 0
Entries = List (ℕ × SessionState)

abbrev pub at : ℕ → ℕ → Bool
at n = is_at (nat_cmp n)

abbrev pub among : Entries → ℕ → Bool
among es n = is_some (lookup (at n) es)

-- the numbers of the entries, as they stand: each is above n, or below n, or they rise
abbrev pub AllAbove : ℕ → Entries → Type 0
AllAbove n [] = Unit {0}
AllAbove n (e ∷ es) = (n < e.0) × AllAbove n es

abbrev pub AllBelow : ℕ → Entries → Type 0
AllBelow n [] = Unit {0}
AllBelow n (e ∷ es) = (e.0 < n) × AllBelow n es

abbrev pub Rise : Entries → Type 0
Rise [] = Unit {0}
Rise (e ∷ es) = AllAbove e.0 es × Rise es

above : (n : ℕ) (es : Entries) → AllByRecursion (λ y. nat_cmp n y ≡ Less) (keys_of es) → AllAbove n es
above n [] h = tt
above n (e ∷ es) h = (ranked n e.0 Less (sym h.0), above n es h.1)

pub rise : (es : Entries) → IsStrictlySortedBy nat_cmp (keys_of es) → Rise es
rise [] h = tt
rise (e ∷ es) h = (above e.0 es (sorted_head nat_cmp e.0 (keys_of es) h), rise es (sorted_tail nat_cmp e.0 (keys_of es) h))

-- one more entry in front hides none behind it
pub among-behind : (e : ℕ × SessionState) (es : Entries) (n : ℕ) → among es n ≡ true → among (e ∷ es) n ≡ true
among-behind e es n h = by (at n e.0)
  where
    by : (b : Bool) → is_some (cond b (Some e.1) (lookup (at n) es)) ≡ true
    by true = refl
    by false = h

pub among-first : (e : ℕ × SessionState) (es : Entries) → among (e ∷ es) e.0 ≡ true
among-first e es =
    ap (λ (b : Bool). is_some (cond b (Some e.1) (lookup (at e.0) es))) (unsigned_tied e.0 e.0 ∙ eq-eqb e.0 e.0 refl)

pub all-below : (es : Entries) (n : ℕ) → ((k : ℕ) → among es k ≡ true → k < n) → AllBelow n es
all-below [] n h = tt
all-below (e ∷ es) n h = (h e.0 (among-first e es), all-below es n (λ k is. h k (among-behind e es k is)))

-- no entry has a number that is below them all
none-above : (n : ℕ) (es : Entries) → AllAbove n es → among es n ≡ false
none-above n [] h = refl
none-above n (e ∷ es) h =
    ap (λ (b : Bool). is_some (cond b (Some e.1) (lookup (at n) es))) (unsigned_tied n e.0 ∙ ne_eqb n e.0 (λ same. omega (arith, h.0)))
    ∙ none-above n es h.1

-- the state of a number
pub state-found : (es : Entries) (n : ℕ)
    → option_map (λ x. x.state) (find (is_numbered n) (live_view es)) ≡ option_map state_view (lookup (at n) es)
state-found [] n = refl
state-found (e ∷ es) n =
    by (eqb n e.0) (state-found es n)
    ∙ ap (λ (b : Bool). option_map state_view (cond b (Some e.1) (lookup (at n) es))) (sym (unsigned_tied n e.0))
  where
    by : (b : Bool) → option_map (λ x. x.state) (find (is_numbered n) (live_view es)) ≡ option_map state_view (lookup (at n) es)
        → option_map (λ x. x.state) (cond b (Some (session_view e)) (find (is_numbered n) (live_view es)))
        ≡ option_map state_view (cond b (Some e.1) (lookup (at n) es))
    by true ih = refl
    by false ih = ih

-- a number above all goes behind them
pub put-behind : (es : Entries) (n : ℕ) (v : SessionState) → AllBelow n es → insert_entry nat_cmp es n v ≡ es ++ (n, v) ∷ []
put-behind [] n v h = refl
put-behind (e ∷ es) n v h =
    ap (λ (o : Ordering). match_ordering o ((n, v) ∷ e ∷ es) ((e.0, v) ∷ es) (e ∷ insert_entry nat_cmp es n v)) (sym (nat_cmp_is n e.0 Greater h.0))
    ∙ ap (λ (l : Entries). e ∷ l) (put-behind es n v h.1)

pub opened-view : (es : Entries) (n : ℕ) (v : SessionState) → AllBelow n es
    → live_view (insert_entry nat_cmp es n v) ≡ live_view es ++ session_view (n, v) ∷ []
opened-view es n v h = ap live_view (put-behind es n v h) ∙ map-append session_view es ((n, v) ∷ [])

-- one number is taken out
kept-above : (es : Entries) (n : ℕ) → AllAbove n es → filter (λ x. not (is_numbered n x)) (live_view es) ≡ live_view es
kept-above [] n h = refl
kept-above (e ∷ es) n h =
    ap (λ (b : Bool). cond (not b) (session_view e ∷ filter (λ x. not (is_numbered n x)) (live_view es)) (filter (λ x. not (is_numbered n x)) (live_view es)))
    (ne_eqb n e.0 (λ same. omega (arith, h.0)))
    ∙ ap (λ (l : List SessionData). session_view e ∷ l) (kept-above es n h.1)

pub closed-view : (es : Entries) (n : ℕ) → Rise es
    → live_view (remove_entry (at n) es) ≡ filter (λ x. not (is_numbered n x)) (live_view es)
closed-view [] n h = refl
closed-view (e ∷ es) n h =
    ap (λ (b : Bool). live_view (cond b es (e ∷ remove_entry (at n) es))) (unsigned_tied n e.0)
    ∙ by (eqb n e.0) (λ is. eqb-true n e.0 is) (closed-view es n h.1)
  where
    by : (b : Bool) → (b ≡ true → n ≡ e.0)
        → live_view (remove_entry (at n) es) ≡ filter (λ x. not (is_numbered n x)) (live_view es)
        → live_view (cond b es (e ∷ remove_entry (at n) es))
        ≡ cond (not b) (session_view e ∷ filter (λ x. not (is_numbered n x)) (live_view es)) (filter (λ x. not (is_numbered n x)) (live_view es))
    by true same ih =
        sym (ap (λ (k : ℕ). filter (λ x. not (is_numbered k x)) (live_view es)) (same refl) ∙ kept-above es e.0 h.0)
    by false same ih = ap (λ (l : List SessionData). session_view e ∷ l) ih

-- a number above all is none of theirs
kept-below : (es : Entries) (n : ℕ) → AllBelow n es → filter (λ x. not (is_numbered n x)) (live_view es) ≡ live_view es
kept-below [] n h = refl
kept-below (e ∷ es) n h =
    ap (λ (b : Bool). cond (not b) (session_view e ∷ filter (λ x. not (is_numbered n x)) (live_view es)) (filter (λ x. not (is_numbered n x)) (live_view es)))
    (ne_eqb n e.0 (λ same. omega (arith, h.0)))
    ∙ ap (λ (l : List SessionData). session_view e ∷ l) (kept-below es n h.1)

-- the newest is taken out again
pub newest-out : (xs : List SessionData) (n : ℕ) (v : SessionState) → filter (λ x. not (is_numbered n x)) xs ≡ xs
    → filter (λ x. not (is_numbered n x)) (xs ++ session_view (n, v) ∷ []) ≡ xs
newest-out xs n v same = filter-append (λ x. not (is_numbered n x)) xs (session_view (n, v) ∷ []) ∙ ap₂ (λ p q. p ++ q) same first ∙ append-nil xs
  where
    first : filter (λ x. not (is_numbered n x)) (session_view (n, v) ∷ []) ≡ []
    first = ap (λ (b : Bool). cond (not b) (session_view (n, v) ∷ []) []) (eq-eqb n n refl)

pub opened-out : (es : Entries) (n : ℕ) (v : SessionState) → AllBelow n es
    → filter (λ x. not (is_numbered n x)) (live_view (insert_entry nat_cmp es n v)) ≡ live_view es
opened-out es n v h =
    ap (filter (λ x. not (is_numbered n x))) (opened-view es n v h) ∙ newest-out (live_view es) n v (kept-below es n h)

-- the state of one number changes
unchanged-above : (f : StateData → StateData) (es : Entries) (n : ℕ) → AllAbove n es → map (with_changed_state f n) (live_view es) ≡ live_view es
unchanged-above f [] n h = refl
unchanged-above f (e ∷ es) n h =
    ap (λ (b : Bool). cond b (record (session_view e) { state = f (state_view e.1) }) (session_view e) ∷ map (with_changed_state f n) (live_view es))
    (ne_eqb n e.0 (λ same. omega (arith, h.0)))
    ∙ ap (λ (l : List SessionData). session_view e ∷ l) (unchanged-above f es n h.1)

pub with_changed_state-view : (f : StateData → StateData) (es : Entries) (n : ℕ) (v w : SessionState) → Rise es → lookup (at n) es ≡ Some v
    → state_view w ≡ f (state_view v) → live_view (set_value (at n) es w) ≡ map (with_changed_state f n) (live_view es)
with_changed_state-view f [] n v w h is step = absurd (cc)
with_changed_state-view f (e ∷ es) n v w h is step =
    ap (λ (b : Bool). live_view (cond b ((e.0, w) ∷ es) (e ∷ set_value (at n) es w))) (unsigned_tied n e.0)
    ∙ by (eqb n e.0) (λ same. eqb-true n e.0 same) (ap (λ (b : Bool). cond b (Some e.1) (lookup (at n) es)) (sym (unsigned_tied n e.0)) ∙ is)
    (λ it. with_changed_state-view f es n v w h.1 it step)
  where
    by : (b : Bool) → (b ≡ true → n ≡ e.0) → cond b (Some e.1) (lookup (at n) es) ≡ Some v
        → (lookup (at n) es ≡ Some v → live_view (set_value (at n) es w) ≡ map (with_changed_state f n) (live_view es))
        → live_view (cond b ((e.0, w) ∷ es) (e ∷ set_value (at n) es w))
        ≡ cond b (record (session_view e) { state = f (state_view e.1) }) (session_view e) ∷ map (with_changed_state f n) (live_view es)
    by true same found ih =
        let first : e.1 ≡ v = cc in
        let new : state_view w ≡ f (state_view e.1) = step ∙ ap (λ (x : SessionState). f (state_view x)) (sym first) in
        let rest : map (with_changed_state f n) (live_view es) ≡ live_view es =
        ap (λ (k : ℕ). map (with_changed_state f k) (live_view es)) (same refl) ∙ unchanged-above f es e.0 h.0 in
        ap (λ (s : StateData). record (session_view e) { state = s } ∷ live_view es) new
        ∙ ap (λ (l : List SessionData). record (session_view e) { state = f (state_view e.1) } ∷ l) (sym rest)
    by false same found ih = ap (λ (l : List SessionData). session_view e ∷ l) (ih found)

pub unchanged-view : (f : StateData → StateData) (es : Entries) (n : ℕ) → lookup (at n) es ≡ None → map (with_changed_state f n) (live_view es) ≡ live_view es
unchanged-view f [] n is = refl
unchanged-view f (e ∷ es) n is =
    by (eqb n e.0) (ap (λ (b : Bool). cond b (Some e.1) (lookup (at n) es)) (sym (unsigned_tied n e.0)) ∙ is) (λ it. unchanged-view f es n it)
  where
    by : (b : Bool) → cond b (Some e.1) (lookup (at n) es) ≡ None
        → (lookup (at n) es ≡ None → map (with_changed_state f n) (live_view es) ≡ live_view es)
        → cond b (record (session_view e) { state = f (state_view e.1) }) (session_view e) ∷ map (with_changed_state f n) (live_view es) ≡ session_view e ∷ live_view es
    by true found ih = absurd (cc)
    by false found ih = ap (λ (l : List SessionData). session_view e ∷ l) (ih found)

-- a map with the same numbers
pub among-same : (es fs : Entries) (n : ℕ) → keys_of es ≡ keys_of fs → among es n ≡ among fs n
among-same es fs n same = by es ∙ ap (found n) same ∙ sym (by fs)
  where
    found : ℕ → List ℕ → Bool
    found k [] = false
    found k (x ∷ xs) = cond (at k x) true (found k xs)

    by : (gs : Entries) → among gs n ≡ found n (keys_of gs)
    by [] = refl
    by (g ∷ gs) = which (at n g.0) (by gs)
      where
        which : (b : Bool) → among gs n ≡ found n (keys_of gs) → is_some (cond b (Some g.1) (lookup (at n) gs)) ≡ cond b true (found n (keys_of gs))
        which true ih = refl
        which false ih = ih

-- a clone of a map, whose states are seen as those that they were made of
pub clone-view : (es fs : Entries) → AllZip (λ p q. (q.0 ≡ p.0) × (state_view q.1 ≡ state_view p.1)) es fs → live_view fs ≡ live_view es
clone-view [] [] h = refl
clone-view [] (f ∷ fs) h = absurd h
clone-view (e ∷ es) [] h = absurd h
clone-view (e ∷ es) (f ∷ fs) h =
    ap (λ (n : ℕ). record { number = n; state = state_view f.1 } ∷ live_view fs) h.0.0
    ∙ ap (λ (s : StateData). record { number = e.0; state = s } ∷ live_view fs) h.0.1
    ∙ ap (λ (l : List SessionData). session_view e ∷ l) (clone-view es fs h.1)

pub clone-numbers : (es fs : Entries) → AllZip (λ p q. (q.0 ≡ p.0) × (state_view q.1 ≡ state_view p.1)) es fs → keys_of fs ≡ keys_of es
clone-numbers [] [] h = refl
clone-numbers [] (f ∷ fs) h = absurd h
clone-numbers (e ∷ es) [] h = absurd h
clone-numbers (e ∷ es) (f ∷ fs) h =
    ap (λ (n : ℕ). n ∷ keys_of fs) h.0.0 ∙ ap (λ (l : List ℕ). e.0 ∷ l) (clone-numbers es fs h.1)

pub is_open-among : (es : Entries) (n : ℕ) → is_some (option_map (λ x. x.state) (find (is_numbered n) (live_view es))) ≡ among es n
is_open-among es n = ap is_some (state-found es n) ∙ by (lookup (at n) es)
  where
    by : (o : Option SessionState) → is_some (option_map state_view o) ≡ is_some o
    by (Some x) = refl
    by None = refl

-- a state behind a reference
pub state-behind : (o : Option (Bor SessionState)) → option_map (λ x. state_view x.now) o ≡ option_map state_view (option_copied o)
state-behind (Some x) = refl
state-behind None = refl
