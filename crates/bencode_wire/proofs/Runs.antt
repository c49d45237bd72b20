-- A run of bytes is read as its bytes one by one.
use Rattle.std.proofs.Common.{◌≡◌, ℕ, suc, ◌+◌, ◌-◌, ◌<◌, ◌≤◌, true, false, cond, nat_lt, nat_le}
use Rattle.std.proofs.Common.{List, [], ◌∷◌, ◌++◌, length, take, drop, sym, ap, ◌∙◌, append_assoc}
use Rattle.std.proofs.Common.{take-append-drop, drop-drop, length-take, length-drop, arith}
use Rattle.std.proofs.lemmas.Bool.Decides.{nat_tests}
use Rattle.bencode_wire.specs.Inside.Cut.{OpenContainer, Token, between, after_i, after_minus, digits, count, part}
use Rattle.bencode_wire.specs.Inside.Cut.{Cut, cut}
use Rattle.bencode_wire.specs.Fault.{too_long}
use Rattle.bencode_wire.specs.Tree.{string}
use Rattle.bencode_wire.specs.Inside.ByteSteps.{step_run, judged, within_limit, StreamReading}
use Rattle.bencode_wire.specs.Inside.ByteSteps.{ended_reading, faults, onward, stream_reading, start}
use Rattle.bencode_wire.specs.Inside.ByteSteps.{TakesRun}
use Rattle.bencode_wire.specs.Inside.ByteEffects.{text_bytes}
use Rattle.bencode_wire.specs.Inside.Beginnings.{ByteEffect, Adding, put, goes}

le_false : (a b : ℕ) → b < a → nat_le a b ≡ false
le_false a b h = grind (arith, nat_tests)

le_true : (a b : ℕ) → a ≤ b → nat_le a b ≡ true
le_true a b h = grind (arith, nat_tests)

lt_true : (a b : ℕ) → a < b → nat_lt a b ≡ true
lt_true a b h = grind (arith, nat_tests)

lt_same : (a b c d : ℕ) → (a < b → c < d) → (c < d → a < b) → nat_lt a b ≡ nat_lt c d
lt_same a b c d f g = grind (arith, nat_tests)

-- a byte behind a whole limit is too long
pub stream_reading-over : (limit : ℕ) (add : Adding) (before : ℕ) (c : Cut) (at : ℕ) (bs : List ℕ) → 0 < length bs → limit ≤ before
    → stream_reading limit add before c at bs ≡ ended_reading (faults too_long at)
stream_reading-over limit add before c at [] some over = absurd (omega arith)
stream_reading-over limit add before (cut fs token) at (b ∷ bs) some over = rw (le_true limit before over)

-- what comes after a run
abbrev pub after_run : ℕ → Adding → ℕ → ℕ → ℕ → List ℕ → ByteEffect → StreamReading
after_run limit add before at n more next =
    onward (within_limit limit (judged next)) (at + n - 1) (λ c. stream_reading limit add (before + n) c (at + n) more) (stream_reading limit add 0 start (at + n) more)

one_byte : (limit : ℕ) (add : Adding) (before : ℕ) (fs : List OpenContainer) (token : Token) (at b : ℕ) (more : List ℕ) → before + 1 ≤ limit
    → stream_reading limit add before (cut fs token) at (b ∷ more) ≡ after_run limit add before at 1 more (step_run add fs token (b ∷ []))
one_byte limit add before fs token at b more room =
    let within : nat_le limit before ≡ false = le_false limit before (omega arith) in
    let place : at ≡ at + 1 - 1 = omega arith in
    rw within (ap (λ p. onward (within_limit limit (judged (step_run add fs token (b ∷ [])))) p (λ c. stream_reading limit add (before + 1) c (at + 1) more) (stream_reading limit add 0 start (at + 1) more)) place)

text_bytes-cons : (add : Adding) (fs : List OpenContainer) (bytes : List ℕ) (left b : ℕ) (r : List ℕ) → 1 + length r ≤ left
    → text_bytes add fs (bytes ++ b ∷ []) (left - 1) r ≡ text_bytes add fs bytes left (b ∷ r)
text_bytes-cons add fs bytes left b r room =
    let test : nat_lt (length r) (left - 1) ≡ nat_lt (suc (length r)) left = lt_same _ _ _ _ (λ h. omega arith) (λ h. omega arith) in
    let rest : (left - 1) - length r ≡ left - suc (length r) = omega arith in
    let all : (bytes ++ b ∷ []) ++ r ≡ bytes ++ b ∷ r = append_assoc bytes (b ∷ []) r in
    ap (λ t. cond t (goes fs (part ((bytes ++ b ∷ []) ++ r) ((left - 1) - length r))) (put add fs (string ((bytes ++ b ∷ []) ++ r)))) test
    ∙ ap (λ n. cond (nat_lt (suc (length r)) left) (goes fs (part ((bytes ++ b ∷ []) ++ r) n)) (put add fs (string ((bytes ++ b ∷ []) ++ r)))) rest
    ∙ ap (λ bs. cond (nat_lt (suc (length r)) left) (goes fs (part bs (left - suc (length r)))) (put add fs (string bs))) all

after_run-shift : (limit : ℕ) (add : Adding) (before at n : ℕ) (more : List ℕ) (next : ByteEffect)
    → after_run limit add (before + 1) (at + 1) n more next ≡ after_run limit add before at (suc n) more next
after_run-shift limit add before at n more next =
    let a : at + 1 + n ≡ at + suc n = omega arith in
    let b : before + 1 + n ≡ before + suc n = omega arith in
    ap (λ k. onward (within_limit limit (judged next)) (k - 1) (λ c. stream_reading limit add (before + 1 + n) c k more) (stream_reading limit add 0 start k more)) a
    ∙ ap (λ k. onward (within_limit limit (judged next)) (at + suc n - 1) (λ c. stream_reading limit add k c (at + suc n) more) (stream_reading limit add 0 start (at + suc n) more)) b

-- some of a string's bytes
string_run : (limit : ℕ) (add : Adding) (before : ℕ) (fs : List OpenContainer) (bytes : List ℕ) (left at : ℕ) (r more : List ℕ)
    → 0 < length r → length r ≤ left → before + length r ≤ limit
    → stream_reading limit add before (cut fs (part bytes left)) at (r ++ more) ≡ after_run limit add before at (length r) more (text_bytes add fs bytes left r)
string_run limit add before fs bytes left at [] more some within room = absurd (omega arith)
string_run limit add before fs bytes left at (b ∷ []) more some within room = one_byte limit add before fs (part bytes left) at b more room
string_run limit add before fs bytes left at (b ∷ d ∷ r) more some within room =
    let first : nat_le limit before ≡ false = le_false limit before (omega arith) in
    let goes_on : nat_lt 1 left ≡ true = lt_true 1 left (omega arith) in
    rw (first, goes_on)
    (string_run limit add (before + 1) fs (bytes ++ b ∷ []) (left - 1) (at + 1) (d ∷ r) more (omega arith) (omega arith) (omega arith)
    ∙ after_run-shift limit add before at (length (d ∷ r)) more (text_bytes add fs (bytes ++ b ∷ []) (left - 1) (d ∷ r))
    ∙ ap (λ next. after_run limit add before at (suc (length (d ∷ r))) more next) (text_bytes-cons add fs bytes left b (d ∷ r) (omega arith)))

-- a run that may come as one
pub stream_reading-run : (limit : ℕ) (add : Adding) (before : ℕ) (fs : List OpenContainer) (token : Token) (at : ℕ) (r more : List ℕ)
    → 0 < length r → TakesRun token (length r) → before + length r ≤ limit
    → stream_reading limit add before (cut fs token) at (r ++ more) ≡ after_run limit add before at (length r) more (step_run add fs token r)
stream_reading-run limit add before fs (part bytes left) at [] more some takes room = absurd (omega arith)
stream_reading-run limit add before fs (part bytes left) at (b ∷ r) more some takes room = string_run limit add before fs bytes left at (b ∷ r) more some takes room
stream_reading-run limit add before fs between at [] more some takes room = absurd (omega arith)
stream_reading-run limit add before fs between at (b ∷ []) more some takes room = one_byte limit add before fs between at b more room
stream_reading-run limit add before fs between at (b ∷ d ∷ r) more some takes room = absurd (omega arith)
stream_reading-run limit add before fs after_i at [] more some takes room = absurd (omega arith)
stream_reading-run limit add before fs after_i at (b ∷ []) more some takes room = one_byte limit add before fs after_i at b more room
stream_reading-run limit add before fs after_i at (b ∷ d ∷ r) more some takes room = absurd (omega arith)
stream_reading-run limit add before fs after_minus at [] more some takes room = absurd (omega arith)
stream_reading-run limit add before fs after_minus at (b ∷ []) more some takes room = one_byte limit add before fs after_minus at b more room
stream_reading-run limit add before fs after_minus at (b ∷ d ∷ r) more some takes room = absurd (omega arith)
stream_reading-run limit add before fs (digits negative n) at [] more some takes room = absurd (omega arith)
stream_reading-run limit add before fs (digits negative n) at (b ∷ []) more some takes room = one_byte limit add before fs (digits negative n) at b more room
stream_reading-run limit add before fs (digits negative n) at (b ∷ d ∷ r) more some takes room = absurd (omega arith)
stream_reading-run limit add before fs (count n) at [] more some takes room = absurd (omega arith)
stream_reading-run limit add before fs (count n) at (b ∷ []) more some takes room = one_byte limit add before fs (count n) at b more room
stream_reading-run limit add before fs (count n) at (b ∷ d ∷ r) more some takes room = absurd (omega arith)

-- the same in the middle of bytes
pub stream_reading-slice : (limit : ℕ) (add : Adding) (before : ℕ) (fs : List OpenContainer) (token : Token) (at n : ℕ) (bytes : List ℕ)
    → 0 < n → at + n ≤ length bytes → TakesRun token n → before + n ≤ limit
    → stream_reading limit add before (cut fs token) at (drop at bytes) ≡ after_run limit add before at n (drop (at + n) bytes) (step_run add fs token (take n (drop at bytes)))
stream_reading-slice limit add before fs token at n bytes some within takes room =
    let r = take n (drop at bytes) in
    let long : length r ≡ n = grind (arith, length-take, length-drop) in
    let split : drop at bytes ≡ r ++ drop (at + n) bytes = sym (take-append-drop n (drop at bytes)) ∙ ap (λ m. r ++ m) (drop-drop n at bytes) in
    ap (λ bs. stream_reading limit add before (cut fs token) at bs) split
    ∙ stream_reading-run limit add before fs token at r (drop (at + n) bytes) (rw long some) (rw long takes) (rw long room)
    ∙ ap (λ k. after_run limit add before at k (drop (at + n) bytes) (step_run add fs token r)) long
