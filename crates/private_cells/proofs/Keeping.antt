-- What waits and runs where one agent is changed.
use Rattle.std.proofs.Common.{◌≡◌, ℕ, zero, suc, ◌+◌, ◌-◌, ◌<◌, ◌≤◌, ◌==◌, List, [], ◌∷◌, ◌++◌, map}
use Rattle.std.proofs.Common.{length}
use Rattle.std.proofs.Common.{refl, ap, sym, ◌∙◌, Option, Some, None, arith, cond}
use Rattle.std.proofs.Common.{Bool, true, false, nat_eq, if◌then◌else◌, length-append}
use Rattle.std.specs.Prelude.{◌&&◌}
use lib.Dec.{eqb-zero-suc, eqb-suc-zero, eqb-suc-suc}
use Rattle.value_data.specs.Datum.{Datum}
use Rattle.repl_values.specs.Places.{changed_at}
use Rattle.private_cells.specs.Actions.{is_of}
use Rattle.private_cells.specs.Agents.{AgentData, SentAction, ActionTurn, with_begun, begun}
use Rattle.private_cells.specs.Agents.{at_rest}
use Rattle.private_cells.specs.Agents.{over_with, runs_action}
use Rattle.private_cells.specs.Inside.Turns.{turn_weight, open_sum, open_turn}
use Rattle.private_cells.specs.Inside.Kept.{waiting_at, count_from, runs_at}
use Rattle.private_cells.specs.Inside.Changes.{with_these}

-- a change that leaves what waits
pub waiting_kept : (g : AgentData → AgentData) → ((a : AgentData) → (g a).waiting ≡ a.waiting)
    → (n i : ℕ) (xs : List AgentData) → waiting_at i (changed_at n g xs) ≡ waiting_at i xs
waiting_kept g k n i [] = refl
waiting_kept g k zero zero (x ∷ xs) = k x
waiting_kept g k zero (suc i) (x ∷ xs) = refl
waiting_kept g k (suc n) zero (x ∷ xs) = refl
waiting_kept g k (suc n) (suc i) (x ∷ xs) = waiting_kept g k n i xs

-- a change that leaves what runs
pub runs_kept : (g : AgentData → AgentData) → ((a : AgentData) → (g a).running ≡ a.running)
    → (n i : ℕ) (xs : List AgentData) → runs_at i (changed_at n g xs) ≡ runs_at i xs
runs_kept g k n i [] = refl
runs_kept g k zero zero (x ∷ xs) = ap (λ r. runs_action (record x { running = r })) (k x)
runs_kept g k zero (suc i) (x ∷ xs) = refl
runs_kept g k (suc n) zero (x ∷ xs) = refl
runs_kept g k (suc n) (suc i) (x ∷ xs) = runs_kept g k n i xs

one_more : (b : Bool) (n : ℕ) → cond b 1 0 + (n + 0) ≡ (if b then n + 1 else n)
one_more true n = omega arith
one_more false n = omega arith

more_behind : (b c : Bool) (m n k : ℕ) → m ≡ (if c then n + 1 else n)
    → cond b 1 0 + m ≡ (if c then cond b 1 0 + n + 1 else cond b 1 0 + n)
more_behind b true m n k h = omega (arith, h)
more_behind b false m n k h = omega (arith, h)

pub count_pushed : (s : Option ℕ) (x : SentAction) (ys : List SentAction)
    → count_from s (ys ++ x ∷ [])
    ≡ (if is_of s x.action then count_from s ys + 1 else count_from s ys)
count_pushed s x [] = one_more (is_of s x.action) 0
count_pushed s x (y ∷ ys) =
    more_behind (is_of s y.action) (is_of s x.action) _ _ 0 (count_pushed s x ys)

-- one more waits for one agent, from one session
pub count_sent : (n i : ℕ) (s : Option ℕ) (x : SentAction) (xs : List AgentData) → n < length xs
    → count_from s (waiting_at i (changed_at n (with_these (x ∷ [])) xs))
    ≡ (if nat_eq n i && is_of s x.action then count_from s (waiting_at i xs) + 1
    else count_from s (waiting_at i xs))
count_sent n i s x [] l = absurd (omega arith)
count_sent zero zero s x (a ∷ xs) l = count_pushed s x a.waiting
count_sent zero (suc i) s x (a ∷ xs) l =
    let v = count_from s (waiting_at i xs) in
    sym (ap (λ e. if e && is_of s x.action then v + 1 else v) (eqb-zero-suc i))
count_sent (suc n) zero s x (a ∷ xs) l =
    let v = count_from s a.waiting in
    sym (ap (λ e. if e && is_of s x.action then v + 1 else v) (eqb-suc-zero n))
count_sent (suc n) (suc i) s x (a ∷ xs) l =
    let v = count_from s (waiting_at i xs) in
    count_sent n i s x xs (omega arith)
    ∙ sym (ap (λ e. if e && is_of s x.action then v + 1 else v) (eqb-suc-suc n i))

-- and no agent has more than one more
pub length_sent : (n i : ℕ) (ys : List SentAction) (xs : List AgentData)
    → length (waiting_at i (changed_at n (with_these ys) xs))
    ≤ length (waiting_at i xs) + length ys
length_sent n i ys [] = omega arith
length_sent zero zero ys (a ∷ xs) = omega (arith, length-append a.waiting ys)
length_sent zero (suc i) ys (a ∷ xs) = omega arith
length_sent (suc n) zero ys (a ∷ xs) = omega arith
length_sent (suc n) (suc i) ys (a ∷ xs) = length_sent n i ys xs

taken_one : (b : Bool) (n : ℕ) → n ≡ (if b then cond b 1 0 + n - 1 else cond b 1 0 + n)
taken_one true n = omega arith
taken_one false n = omega arith

-- the first no more waits for one agent
pub count_begun : (n i : ℕ) (s : Option ℕ) (x : SentAction) (ys : List SentAction)
    (xs : List AgentData) → waiting_at n xs ≡ x ∷ ys
    → count_from s (waiting_at i (changed_at n with_begun xs))
    ≡ (if nat_eq n i && is_of s x.action then count_from s (waiting_at i xs) - 1
    else count_from s (waiting_at i xs))
count_begun n i s x ys [] h = absurd (let no : ⊥ = cc in no)
count_begun zero zero s x ys (a ∷ xs) h = rw h (taken_one (is_of s x.action) (count_from s ys))
count_begun zero (suc i) s x ys (a ∷ xs) h =
    let v = count_from s (waiting_at i xs) in
    sym (ap (λ e. if e && is_of s x.action then v - 1 else v) (eqb-zero-suc i))
count_begun (suc n) zero s x ys (a ∷ xs) h =
    let v = count_from s a.waiting in
    sym (ap (λ e. if e && is_of s x.action then v - 1 else v) (eqb-suc-zero n))
count_begun (suc n) (suc i) s x ys (a ∷ xs) h =
    let v = count_from s (waiting_at i xs) in
    count_begun n i s x ys xs h
    ∙ sym (ap (λ e. if e && is_of s x.action then v - 1 else v) (eqb-suc-suc n i))

begun_length : (xs : List SentAction) (a : AgentData) → a.waiting ≡ xs
    → length (begun xs a).waiting ≤ length a.waiting
begun_length [] a h = omega arith
begun_length (x ∷ xs) a h = omega (arith, ap length h)

pub length_begun : (n i : ℕ) (xs : List AgentData)
    → length (waiting_at i (changed_at n with_begun xs)) ≤ length (waiting_at i xs)
length_begun n i [] = omega arith
length_begun zero zero (a ∷ xs) = begun_length a.waiting a refl
length_begun zero (suc i) (a ∷ xs) = omega arith
length_begun (suc n) zero (a ∷ xs) = omega arith
length_begun (suc n) (suc i) (a ∷ xs) = length_begun n i xs

-- where none runs, the agent that begins runs alone
pub runs_begun : (n i : ℕ) (x : SentAction) (ys : List SentAction) (xs : List AgentData)
    → waiting_at n xs ≡ x ∷ ys → ((j : ℕ) → runs_at j xs ≡ false)
    → runs_at i (changed_at n with_begun xs) ≡ (n == i)
runs_begun n i x ys [] h k = absurd (let no : ⊥ = cc in no)
runs_begun zero zero x ys (a ∷ xs) h k = rw h refl
runs_begun zero (suc i) x ys (a ∷ xs) h k = k (suc i) ∙ sym (eqb-zero-suc i)
runs_begun (suc n) zero x ys (a ∷ xs) h k = k zero ∙ sym (eqb-suc-zero n)
runs_begun (suc n) (suc i) x ys (a ∷ xs) h k =
    runs_begun n i x ys xs h (λ j. k (suc j)) ∙ sym (eqb-suc-suc n i)

-- where one ran alone and is over, none runs
pub runs_over : (g : AgentData → AgentData) → ((a : AgentData) → (g a).running ≡ None)
    → (n i : ℕ) (xs : List AgentData) → ((j : ℕ) → runs_at j xs ≡ (n == j))
    → runs_at i (changed_at n g xs) ≡ false
runs_over g o n i [] k = refl
runs_over g o zero zero (a ∷ xs) k = ap (λ r. runs_action (record a { running = r })) (o a)
runs_over g o zero (suc i) (a ∷ xs) k = k (suc i) ∙ eqb-zero-suc i
runs_over g o (suc n) zero (a ∷ xs) k = k zero ∙ eqb-suc-zero n
runs_over g o (suc n) (suc i) (a ∷ xs) k =
    runs_over g o n i xs (λ j. k (suc j) ∙ eqb-suc-suc n j)

-- what ends, where none runs
pub over_none : (g : AgentData → AgentData) (xs : List AgentData)
    → ((j : ℕ) → runs_at j xs ≡ false) → map (over_with g) xs ≡ xs
over_none g [] k = refl
over_none g (a ∷ xs) k =
    let here : over_with g a ≡ a
    = ap (λ b. if b then g (record a { running = None }) else a) (k zero) in
    ap (λ b. b ∷ map (over_with g) xs) here ∙ ap (λ ys. a ∷ ys) (over_none g xs (λ j. k (suc j)))

-- and where one runs alone
pub over_one : (g : AgentData → AgentData) (n : ℕ) (xs : List AgentData)
    → ((j : ℕ) → runs_at j xs ≡ (n == j))
    → map (over_with g) xs ≡ changed_at n (λ a. g (record a { running = None })) xs
over_one g n [] k = refl
over_one g zero (a ∷ xs) k =
    let here : over_with g a ≡ g (record a { running = None })
    = ap (λ b. if b then g (record a { running = None }) else a) (k zero) in
    ap (λ b. b ∷ map (over_with g) xs) here
    ∙ ap (λ ys. g (record a { running = None }) ∷ ys)
    (over_none g xs (λ j. k (suc j) ∙ eqb-zero-suc j))
over_one g (suc n) (a ∷ xs) k =
    let here : over_with g a ≡ a
    = ap (λ b. if b then g (record a { running = None }) else a) (k zero ∙ eqb-suc-zero n) in
    ap (λ b. b ∷ map (over_with g) xs) here
    ∙ ap (λ ys. a ∷ ys) (over_one g n xs (λ j. k (suc j) ∙ eqb-suc-suc n j))

-- one agent more, at rest
pub waiting_made : (d : Datum) (i : ℕ) (xs : List AgentData)
    → waiting_at i (xs ++ at_rest d ∷ []) ≡ waiting_at i xs
waiting_made d zero [] = refl
waiting_made d (suc i) [] = refl
waiting_made d zero (x ∷ xs) = refl
waiting_made d (suc i) (x ∷ xs) = waiting_made d i xs

pub runs_made : (d : Datum) (i : ℕ) (xs : List AgentData)
    → runs_at i (xs ++ at_rest d ∷ []) ≡ runs_at i xs
runs_made d zero [] = refl
runs_made d (suc i) [] = refl
runs_made d zero (x ∷ xs) = refl
runs_made d (suc i) (x ∷ xs) = runs_made d i xs

pub turns_made : (d : Datum) (f : ActionTurn → ℕ) (p : ℕ) (xs : List AgentData)
    → open_sum f p (xs ++ at_rest d ∷ []) ≡ open_sum f p xs
turns_made d f p [] = omega arith
turns_made d f p (x ∷ xs) = ap (λ n. turn_weight f (open_turn p x) + n) (turns_made d f (suc p) xs)

-- no more turns than agents
one_at_most : (t : Option ActionTurn) → turn_weight (λ _. 1) t ≤ 1
one_at_most None = omega arith
one_at_most (Some t) = omega arith

pub turns_bounded : (p : ℕ) (xs : List AgentData) → open_sum (λ _. 1) p xs ≤ length xs
turns_bounded p [] = omega arith
turns_bounded p (x ∷ xs) =
    let here = one_at_most (open_turn p x) in
    let behind = turns_bounded (suc p) xs in
    omega (arith, here, behind)

counted_one : (b : Bool) (m n : ℕ) → m ≤ n → cond b 1 0 + m ≤ suc n
counted_one true m n h = omega arith
counted_one false m n h = omega arith

-- of those that wait no more come from one session than there are
pub count_short : (s : Option ℕ) (xs : List SentAction) → count_from s xs ≤ length xs
count_short s [] = omega arith
count_short s (x ∷ xs) = counted_one (is_of s x.action) _ _ (count_short s xs)
