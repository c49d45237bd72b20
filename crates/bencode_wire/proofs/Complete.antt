-- The text of a value is read as the value, and the text of a cut as the cut.
use Rattle.std.proofs.Common.{◌≡◌, ℕ, suc, ◌+◌, ◌-◌, ◌*◌, ◌/◌, ◌%◌, ◌^◌, ◌<◌, ◌≤◌, ◌⊎◌, inl, inr}
use Rattle.std.proofs.Common.{Bool, true, false, cond, nat_lt, nat_le, ◌==◌, ℤ, pos, negsuc, List}
use Rattle.std.proofs.Common.{[], ◌∷◌, ◌++◌, length, decimal, refl, sym, ap, ◌∙◌, append_assoc}
use Rattle.std.proofs.Common.{append-nil, arith}
use Rattle.std.proofs.lemmas.Bool.Decides.{nat_tests}
use Rattle.std.proofs.lemmas.Fmt.{decimal_by_steps, decimal_by_steps_wide}
use Rattle.bencode_wire.specs.Tree.{Tree, integer, string, list, dictionary, Trees, no_trees, tree}
use Rattle.bencode_wire.specs.Tree.{TreePairs, no_pairs, pair, add_tree, add_pair}
use Rattle.bencode_wire.specs.Spelling.{text, trees_text, pairs_text, string_text, integer_text}
use Rattle.bencode_wire.specs.Spelling.{IsInteger, IsString, IsSpellable, AreSpellable, ArePairs}
use Rattle.bencode_wire.specs.Inside.Cut.{OpenContainer, in_list, at_key, at_value, between, after_i, after_minus}
use Rattle.bencode_wire.specs.Inside.Cut.{digits, count, part, Cut, cut, frames_text, token_text, cut_text}
use Rattle.bencode_wire.specs.Inside.Cut.{IfAny, TakesValue, TakesKey, greatest, IsCut}
use Rattle.bencode_wire.specs.Inside.Sign.{sign_of}
use Rattle.bencode_wire.specs.declared.sign.Sign.TheVariants as signs
use Rattle.bencode_wire.specs.Inside.ByteSteps.{step_run}
use Rattle.bencode_wire.specs.Inside.ByteEffects.{integer_minus, more_digits}
use Rattle.bencode_wire.specs.Inside.Beginnings.{ByteEffect, put, begin, goes, opens, names, ends, stuck}
use Rattle.bencode_wire.specs.Inside.ByteEffects.{length_digits, more_length, integer_digits}

-- what a byte makes of what has come
abbrev pub after : ByteEffect → ℕ → ByteEffect
after (goes fs token) b = step_run add_pair fs token (b ∷ [])
after (opens f fs) b = step_run add_pair (f ∷ fs) between (b ∷ [])
after (names ps key fs) b = step_run add_pair (at_value ps key ∷ fs) between (b ∷ [])
after (ends t) b = stuck
after stuck b = stuck

abbrev pub run : ByteEffect → List ℕ → ByteEffect
run next [] = next
run next (b ∷ bs) = run (after next b) bs

pub run-append : (next : ByteEffect) (xs ys : List ℕ) → run next (xs ++ ys) ≡ run (run next xs) ys
run-append next [] ys = refl
run-append next (b ∷ xs) ys = run-append (after next b) xs ys

pub run-stuck : (bs : List ℕ) → run stuck bs ≡ stuck
run-stuck [] = refl
run-stuck (b ∷ bs) = run-stuck bs

-- the last byte of a list with values ended one, and so on
abbrev pub resting : OpenContainer → List OpenContainer → ByteEffect
resting (in_list no_trees) fs = opens (in_list no_trees) fs
resting (in_list (tree t ts)) fs = goes (in_list (tree t ts) ∷ fs) between
resting (at_key no_pairs) fs = opens (at_key no_pairs) fs
resting (at_key (pair k t ps)) fs = goes (at_key (pair k t ps) ∷ fs) between
resting (at_value ps key) fs = names ps key fs

abbrev pub between_in : List OpenContainer → ByteEffect
between_in [] = goes [] between
between_in (f ∷ fs) = resting f fs

abbrev pub next_of : Cut → ByteEffect
next_of (cut fs between) = between_in fs
next_of (cut fs after_i) = goes fs after_i
next_of (cut fs after_minus) = goes fs after_minus
next_of (cut fs (digits negative n)) = goes fs (digits negative n)
next_of (cut fs (count n)) = goes fs (count n)
next_of (cut fs (part bytes left)) = goes fs (part bytes left)

after-resting : (f : OpenContainer) (fs : List OpenContainer) (b : ℕ) → after (resting f fs) b ≡ step_run add_pair (f ∷ fs) between (b ∷ [])
after-resting (in_list no_trees) fs b = refl
after-resting (in_list (tree t ts)) fs b = refl
after-resting (at_key no_pairs) fs b = refl
after-resting (at_key (pair k t ps)) fs b = refl
after-resting (at_value ps key) fs b = refl

-- a byte between two tokens, whatever token has ended
pub after-between : (fs : List OpenContainer) (b : ℕ) → after (between_in fs) b ≡ step_run add_pair fs between (b ∷ [])
after-between [] b = refl
after-between (f ∷ fs) b = after-resting f fs b

pub run-between : (fs : List OpenContainer) (b : ℕ) (bs : List ℕ) → run (between_in fs) (b ∷ bs) ≡ run (step_run add_pair fs between (b ∷ [])) bs
run-between fs b bs = ap (λ next. run next bs) (after-between fs b)

-- frames in which a token of this kind may come
abbrev pub Takes : List OpenContainer → Type 0
Takes fs = TakesValue fs ⊎ TakesKey fs

sign_of-digit : (d : ℕ) → d < 10 → sign_of (48 + d) ≡ signs.Digit d
sign_of-digit d small =
    let a : 48 + d == 105 ≡ false = grind (arith, nat_tests) in
    let b : 48 + d == 108 ≡ false = grind (arith, nat_tests) in
    let c : 48 + d == 100 ≡ false = grind (arith, nat_tests) in
    let e : 48 + d == 101 ≡ false = grind (arith, nat_tests) in
    let f : 48 + d == 45 ≡ false = grind (arith, nat_tests) in
    let g : 48 + d == 58 ≡ false = grind (arith, nat_tests) in
    let h : nat_le 48 (48 + d) ≡ true = grind (arith, nat_tests) in
    let i : nat_le (48 + d) 57 ≡ true = grind (arith, nat_tests) in
    let j : 48 + d - 48 ≡ d = omega arith in
    rw (a, b, c, e, f, g, h, i) (ap signs.Digit j)

begin_digit : (fs : List OpenContainer) (d : ℕ) → Takes fs → begin add_pair fs (signs.Digit d) ≡ goes fs (count d)
begin_digit [] d (inl h) = absurd h
begin_digit [] d (inr h) = absurd h
begin_digit (in_list ts ∷ fs) d h = refl
begin_digit (at_key ps ∷ fs) d h = refl
begin_digit (at_value ps key ∷ fs) d h = refl

not_zero : (n : ℕ) → 0 < n → n == 0 ≡ false
not_zero n h = grind (arith, nat_tests)

is_within : (n m : ℕ) → n ≤ m → nat_le n m ≡ true
is_within n m h = grind (arith, nat_tests)

is_below : (n m : ℕ) → n < m → nat_lt n m ≡ true
is_below n m h = grind (arith, nat_tests)

more_length-fits : (fs : List OpenContainer) (n d : ℕ) → 0 < n → 10 * n + d < 10 ^ 64 → more_length fs n d ≡ goes fs (count (10 * n + d))
more_length-fits fs n d some fits = rw (not_zero n some, is_below (10 * n + d) (10 ^ 64) fits)

more_digits-fits : (fs : List OpenContainer) (negative : Bool) (n d : ℕ) → 0 < n → 10 * n + d ≤ greatest negative → more_digits fs negative n d ≡ goes fs (digits negative (10 * n + d))
more_digits-fits fs negative n d some fits = rw (not_zero n some, is_within (10 * n + d) (greatest negative) fits)

-- the digits of a string's length
run-count : (fs : List OpenContainer) → Takes fs → (n : ℕ) → n < 10 ^ 64 → (n < 10 ^ 64 → run (between_in fs) (decimal n) ≡ goes fs (count n))
run-count fs h = decimal_by_steps_wide (λ n ds. n < 10 ^ 64 → run (between_in fs) ds ≡ goes fs (count n))
    (λ n small fits. run-between fs (48 + n) [] ∙ ap (λ s. begin add_pair fs s) (sign_of-digit n small) ∙ begin_digit fs n h)
    (λ n ds big before fits.
    let digit : n % 10 < 10 = omega arith in
    let all : 10 * (n / 10) + n % 10 ≡ n = omega arith in
    run-append (between_in fs) ds ((48 + n % 10) ∷ []) ∙ ap (λ next. run next ((48 + n % 10) ∷ [])) (before (omega arith))
    ∙ ap (λ s. length_digits add_pair fs (n / 10) s) (sign_of-digit (n % 10) digit)
    ∙ more_length-fits fs (n / 10) (n % 10) (omega arith) (omega arith) ∙ ap (λ k. goes fs (count k)) all)

-- the digits of an integer behind its first
run-digits : (fs : List OpenContainer) (negative : Bool) (from : ByteEffect) → ((d : ℕ) → d < 10 → (negative ≡ true → 0 < d) → after from (48 + d) ≡ goes fs (digits negative d))
    → (n : ℕ) → n < 2 ^ 64 → (n ≤ greatest negative → (negative ≡ true → 0 < n) → run from (decimal n) ≡ goes fs (digits negative n))
run-digits fs negative from first = decimal_by_steps (λ n ds. n ≤ greatest negative → (negative ≡ true → 0 < n) → run from ds ≡ goes fs (digits negative n))
    (λ n small fits some. first n small some)
    (λ n ds big before fits some.
    let digit : n % 10 < 10 = omega arith in
    let all : 10 * (n / 10) + n % 10 ≡ n = omega arith in
    run-append from ds ((48 + n % 10) ∷ []) ∙ ap (λ next. run next ((48 + n % 10) ∷ [])) (before (omega arith) (λ e. omega arith))
    ∙ ap (λ s. integer_digits add_pair fs negative (n / 10) s) (sign_of-digit (n % 10) digit)
    ∙ more_digits-fits fs negative (n / 10) (n % 10) (omega arith) (omega arith) ∙ ap (λ k. goes fs (digits negative k)) all)

begin_i : (fs : List OpenContainer) → TakesValue fs → begin add_pair fs signs.Integer ≡ goes fs after_i
begin_i [] h = absurd h
begin_i (in_list ts ∷ fs) h = refl
begin_i (at_key ps ∷ fs) h = absurd h
begin_i (at_value ps key ∷ fs) h = refl

run-i : (fs : List OpenContainer) (bs : List ℕ) → TakesValue fs → run (between_in fs) (105 ∷ bs) ≡ run (goes fs after_i) bs
run-i fs bs h = run-between fs 105 bs ∙ ap (λ next. run next bs) (begin_i fs h)

pub run-positive : (fs : List OpenContainer) (n : ℕ) → TakesValue fs → n ≤ greatest false → run (goes fs after_i) (decimal n) ≡ goes fs (digits false n)
run-positive fs n h fits =
    run-digits fs false (goes fs after_i) (λ d small some. rw (sign_of-digit d small)) n (omega arith) fits (λ e. absurd (cc))

pub run-negative : (fs : List OpenContainer) (n : ℕ) → TakesValue fs → 0 < n → n ≤ greatest true → run (goes fs after_minus) (decimal n) ≡ goes fs (digits true n)
run-negative fs n h some fits =
    run-digits fs true (goes fs after_minus) (λ d small some. let s = some refl in ap (λ s. integer_minus fs s) (sign_of-digit d small) ∙ rw (not_zero d s)) n (omega arith) fits (λ e. some)

run-integer : (fs : List OpenContainer) (n : ℤ) → TakesValue fs → IsInteger n → run (between_in fs) (integer_text n) ≡ put add_pair fs (integer n)
run-integer fs (pos n) h fits =
    run-i fs (decimal n ++ 101 ∷ []) h ∙ run-append (goes fs after_i) (decimal n) (101 ∷ []) ∙ ap (λ next. run next (101 ∷ [])) (run-positive fs n h (omega arith))
run-integer fs (negsuc n) h fits =
    let same : suc n - 1 ≡ n = omega arith in
    run-i fs (45 ∷ (decimal (suc n) ++ 101 ∷ [])) h ∙ run-append (goes fs after_minus) (decimal (suc n)) (101 ∷ [])
    ∙ ap (λ next. run next (101 ∷ [])) (run-negative fs (suc n) h (omega arith) (omega arith)) ∙ ap (λ k. put add_pair fs (integer (negsuc k))) same

-- the bytes of a string
pub run-part : (fs : List OpenContainer) (bytes : List ℕ) (left : ℕ) (bs : List ℕ) → length bs < left → run (goes fs (part bytes left)) bs ≡ goes fs (part (bytes ++ bs) (left - length bs))
run-part fs bytes left [] more =
    let same : left ≡ left - 0 = omega arith in
    ap (λ x. goes fs (part x left)) (sym (append-nil bytes)) ∙ ap (λ k. goes fs (part (bytes ++ []) k)) same
run-part fs bytes left (b ∷ bs) more =
    let test : nat_lt 1 left ≡ true = grind (arith, nat_tests) in
    let rest : left - 1 - length bs ≡ left - suc (length bs) = omega arith in
    ap (λ t. run (cond t (goes fs (part (bytes ++ b ∷ []) (left - 1))) (put add_pair fs (string (bytes ++ b ∷ [])))) bs) test
    ∙ run-part fs (bytes ++ b ∷ []) (left - 1) bs (omega arith)
    ∙ ap (λ x. goes fs (part x (left - 1 - length bs))) (append_assoc bytes (b ∷ []) bs) ∙ ap (λ k. goes fs (part (bytes ++ b ∷ bs) k)) rest

run-last : (fs : List OpenContainer) (bytes : List ℕ) (bs : List ℕ) → 0 < length bs → run (goes fs (part bytes (length bs))) bs ≡ put add_pair fs (string (bytes ++ bs))
run-last fs bytes [] some = absurd (omega arith)
run-last fs bytes (b ∷ []) some = refl
run-last fs bytes (b ∷ d ∷ bs) some =
    let test : nat_lt 1 (suc (suc (length bs))) ≡ true = grind (arith, nat_tests) in
    let rest : suc (suc (length bs)) - 1 ≡ length (d ∷ bs) = omega arith in
    ap (λ t. run (cond t (goes fs (part (bytes ++ b ∷ []) (suc (suc (length bs)) - 1))) (put add_pair fs (string (bytes ++ b ∷ [])))) (d ∷ bs)) test
    ∙ ap (λ k. run (goes fs (part (bytes ++ b ∷ []) k)) (d ∷ bs)) rest
    ∙ run-last fs (bytes ++ b ∷ []) (d ∷ bs) (omega arith) ∙ ap (λ x. put add_pair fs (string x)) (append_assoc bytes (b ∷ []) (d ∷ bs))

run-opened : (fs : List OpenContainer) (bs : List ℕ) → run (goes fs (count (length bs))) (58 ∷ bs) ≡ put add_pair fs (string bs)
run-opened fs [] = refl
run-opened fs (b ∷ bs) =
    let test : suc (length bs) == 0 ≡ false = grind (arith, nat_tests) in
    ap (λ t. run (cond t (put add_pair fs (string [])) (goes fs (part [] (suc (length bs))))) (b ∷ bs)) test ∙ run-last fs [] (b ∷ bs) (omega arith)

pub run-length : (fs : List OpenContainer) (n : ℕ) → Takes fs → n < 10 ^ 64 → run (between_in fs) (decimal n) ≡ goes fs (count n)
run-length fs n h fits = run-count fs h n fits fits

run-string : (fs : List OpenContainer) (bytes : List ℕ) → Takes fs → IsString bytes → run (between_in fs) (string_text bytes) ≡ put add_pair fs (string bytes)
run-string fs bytes h fits =
    ap (λ x. run (between_in fs) x) (append_assoc (decimal (length bytes)) (58 ∷ []) bytes)
    ∙ run-append (between_in fs) (decimal (length bytes)) (58 ∷ bytes)
    ∙ ap (λ next. run next (58 ∷ bytes)) (run-length fs (length bytes) h fits) ∙ run-opened fs bytes

-- values behind others
abbrev pub append_trees : Trees → Trees → Trees
append_trees ts no_trees = ts
append_trees ts (tree u us) = append_trees (add_tree ts u) us

abbrev pub append_pairs : TreePairs → TreePairs → TreePairs
append_pairs ps no_pairs = ps
append_pairs ps (pair k t qs) = append_pairs (add_pair ps k t) qs

append_trees-first : (t : Tree) (ts us : Trees) → append_trees (tree t ts) us ≡ tree t (append_trees ts us)
append_trees-first t ts no_trees = refl
append_trees-first t ts (tree u us) = append_trees-first t (add_tree ts u) us

append_trees-none : (us : Trees) → append_trees no_trees us ≡ us
append_trees-none no_trees = refl
append_trees-none (tree u us) = append_trees-first u no_trees us ∙ ap (tree u) (append_trees-none us)

append_pairs-first : (k : List ℕ) (t : Tree) (ps qs : TreePairs) → append_pairs (pair k t ps) qs ≡ pair k t (append_pairs ps qs)
append_pairs-first k t ps no_pairs = refl
append_pairs-first k t ps (pair l u qs) = append_pairs-first k t (add_pair ps l u) qs

pub append_pairs-none : (qs : TreePairs) → append_pairs no_pairs qs ≡ qs
append_pairs-none no_pairs = refl
append_pairs-none (pair l u qs) = append_pairs-first l u no_pairs qs ∙ ap (pair l u) (append_pairs-none qs)

added_tree : (fs : List OpenContainer) (ts : Trees) (t : Tree) → put add_pair (in_list ts ∷ fs) t ≡ between_in (in_list (add_tree ts t) ∷ fs)
added_tree fs no_trees t = refl
added_tree fs (tree u us) t = refl

added_pair : (fs : List OpenContainer) (ps : TreePairs) (key : List ℕ) (t : Tree) → put add_pair (at_value ps key ∷ fs) t ≡ between_in (at_key (add_pair ps key t) ∷ fs)
added_pair fs no_pairs key t = refl
added_pair fs (pair k u ps) key t = refl

begin_list : (fs : List OpenContainer) → TakesValue fs → begin add_pair fs signs.List ≡ opens (in_list no_trees) fs
begin_list [] h = absurd h
begin_list (in_list ts ∷ fs) h = refl
begin_list (at_key ps ∷ fs) h = absurd h
begin_list (at_value ps key ∷ fs) h = refl

begin_dictionary : (fs : List OpenContainer) → IfAny fs (TakesValue fs) → begin add_pair fs signs.Dictionary ≡ opens (at_key no_pairs) fs
begin_dictionary [] h = refl
begin_dictionary (in_list ts ∷ fs) h = refl
begin_dictionary (at_key ps ∷ fs) h = absurd h
begin_dictionary (at_value ps key ∷ fs) h = refl

some_frames : (fs : List OpenContainer) → TakesValue fs → IfAny fs (TakesValue fs)
some_frames [] h = tt
some_frames (f ∷ fs) h = h

closed_list : (fs : List OpenContainer) (ts : Trees) → run (between_in (in_list ts ∷ fs)) (101 ∷ []) ≡ put add_pair fs (list ts)
closed_list fs ts = run-between (in_list ts ∷ fs) 101 []

closed_dictionary : (fs : List OpenContainer) (ps : TreePairs) → run (between_in (at_key ps ∷ fs)) (101 ∷ []) ≡ put add_pair fs (dictionary ps)
closed_dictionary fs ps = run-between (at_key ps ∷ fs) 101 []

AreSpellable-add : (ts : Trees) (t : Tree) → AreSpellable ts → IsSpellable t → AreSpellable (add_tree ts t)
AreSpellable-add no_trees t h g = (g, tt)
AreSpellable-add (tree u ts) t h g = (h.0, AreSpellable-add ts t h.1 g)

ArePairs-add : (ps : TreePairs) (key : List ℕ) (t : Tree) → ArePairs ps → IsString key → IsSpellable t → ArePairs (add_pair ps key t)
ArePairs-add no_pairs key t h k g = (k, g, tt)
ArePairs-add (pair l u ps) key t h k g = (h.0, h.1, ArePairs-add ps key t h.2 k g)

run-braces : (ps : TreePairs) (fs : List OpenContainer) → IfAny fs (TakesValue fs)
    → run (between_in (at_key no_pairs ∷ fs)) (pairs_text ps) ≡ between_in (at_key (append_pairs no_pairs ps) ∷ fs)
    → run (between_in fs) (text (dictionary ps)) ≡ put add_pair fs (dictionary ps)
run-braces ps fs h e =
    run-between fs 100 (pairs_text ps ++ 101 ∷ []) ∙ ap (λ next. run next (pairs_text ps ++ 101 ∷ [])) (begin_dictionary fs h)
    ∙ run-append (between_in (at_key no_pairs ∷ fs)) (pairs_text ps) (101 ∷ [])
    ∙ ap (λ next. run next (101 ∷ [])) e
    ∙ closed_dictionary fs (append_pairs no_pairs ps) ∙ ap (λ x. put add_pair fs (dictionary x)) (append_pairs-none ps)

mutual
  pub run-text : (t : Tree) (fs : List OpenContainer) → TakesValue fs → IsSpellable t → run (between_in fs) (text t) ≡ put add_pair fs t
  run-text (integer n) fs h g = run-integer fs n h g
  run-text (string s) fs h g = run-string fs s (inl h) g
  run-text (list ts) fs h g =
      run-between fs 108 (trees_text ts ++ 101 ∷ []) ∙ ap (λ next. run next (trees_text ts ++ 101 ∷ [])) (begin_list fs h)
      ∙ run-append (between_in (in_list no_trees ∷ fs)) (trees_text ts) (101 ∷ [])
      ∙ ap (λ next. run next (101 ∷ [])) (run-trees ts no_trees fs h tt g)
      ∙ closed_list fs (append_trees no_trees ts) ∙ ap (λ x. put add_pair fs (list x)) (append_trees-none ts)
  run-text (dictionary ps) fs h g = run-braces ps fs (some_frames fs h) (run-pairs ps no_pairs fs (some_frames fs h) tt g)

  pub run-trees : (us ts : Trees) (fs : List OpenContainer) → TakesValue fs → AreSpellable ts → AreSpellable us
      → run (between_in (in_list ts ∷ fs)) (trees_text us) ≡ between_in (in_list (append_trees ts us) ∷ fs)
  run-trees no_trees ts fs h k g = refl
  run-trees (tree u us) ts fs h k g =
      run-append (between_in (in_list ts ∷ fs)) (text u) (trees_text us)
      ∙ ap (λ next. run next (trees_text us)) (run-text u (in_list ts ∷ fs) (k, h) g.0 ∙ added_tree fs ts u)
      ∙ run-trees us (add_tree ts u) fs h (AreSpellable-add ts u k g.0) g.1

  pub run-pairs : (qs ps : TreePairs) (fs : List OpenContainer) → IfAny fs (TakesValue fs) → ArePairs ps → ArePairs qs
      → run (between_in (at_key ps ∷ fs)) (pairs_text qs) ≡ between_in (at_key (append_pairs ps qs) ∷ fs)
  run-pairs no_pairs ps fs h k g = refl
  run-pairs (pair l u qs) ps fs h k g =
      run-append (between_in (at_key ps ∷ fs)) (string_text l ++ text u) (pairs_text qs)
      ∙ ap (λ next. run next (pairs_text qs)) (run-append (between_in (at_key ps ∷ fs)) (string_text l) (text u)
      ∙ ap (λ next. run next (text u)) (run-string (at_key ps ∷ fs) l (inr (k, h)) g.0)
      ∙ run-text u (at_value ps l ∷ fs) (k, g.0, h) g.1 ∙ added_pair fs ps l u)
      ∙ run-pairs qs (add_pair ps l u) fs h (ArePairs-add ps l u k g.0 g.1) g.2

if_value : (fs : List OpenContainer) → IfAny fs (TakesValue fs) → IfAny fs (Takes fs)
if_value [] h = tt
if_value (f ∷ fs) h = inl h

run-open : (ps : TreePairs) (fs : List OpenContainer) → IfAny fs (TakesValue fs) → ArePairs ps → run (goes [] between) (frames_text fs) ≡ between_in fs
    → run (goes [] between) (frames_text fs ++ 100 ∷ pairs_text ps) ≡ between_in (at_key ps ∷ fs)
run-open ps fs h g e =
    run-append (goes [] between) (frames_text fs) (100 ∷ pairs_text ps) ∙ ap (λ next. run next (100 ∷ pairs_text ps)) e
    ∙ run-between fs 100 (pairs_text ps) ∙ ap (λ next. run next (pairs_text ps)) (begin_dictionary fs h)
    ∙ run-pairs ps no_pairs fs h tt g ∙ ap (λ x. between_in (at_key x ∷ fs)) (append_pairs-none ps)

-- the text of open frames
pub run-frames : (fs : List OpenContainer) → IfAny fs (Takes fs) → run (goes [] between) (frames_text fs) ≡ between_in fs
run-frames [] h = refl
run-frames (in_list ts ∷ fs) (inl h) =
    run-append (goes [] between) (frames_text fs) (108 ∷ trees_text ts)
    ∙ ap (λ next. run next (108 ∷ trees_text ts)) (run-frames fs (if_value fs (some_frames fs h.1)))
    ∙ run-between fs 108 (trees_text ts) ∙ ap (λ next. run next (trees_text ts)) (begin_list fs h.1)
    ∙ run-trees ts no_trees fs h.1 tt h.0 ∙ ap (λ x. between_in (in_list x ∷ fs)) (append_trees-none ts)
run-frames (in_list ts ∷ fs) (inr h) = absurd h
run-frames (at_key ps ∷ fs) (inl h) = absurd h
run-frames (at_key ps ∷ fs) (inr h) = run-open ps fs h.1 h.0 (run-frames fs (if_value fs h.1))
run-frames (at_value ps key ∷ fs) (inl h) =
    ap (λ x. run (goes [] between) x) (sym (append_assoc (frames_text fs) (100 ∷ pairs_text ps) (string_text key)))
    ∙ run-append (goes [] between) (frames_text fs ++ 100 ∷ pairs_text ps) (string_text key)
    ∙ ap (λ next. run next (string_text key)) (run-open ps fs h.2 h.0 (run-frames fs (if_value fs h.2)))
    ∙ run-string (at_key ps ∷ fs) key (inr (h.0, h.2)) h.1
run-frames (at_value ps key ∷ fs) (inr h) = absurd h

pub if_any : (fs : List OpenContainer) → Takes fs → IfAny fs (Takes fs)
if_any [] h = tt
if_any (f ∷ fs) h = h

behind : (fs : List OpenContainer) (bs : List ℕ) → IfAny fs (Takes fs) → run (goes [] between) (frames_text fs ++ bs) ≡ run (between_in fs) bs
behind fs bs h = run-append (goes [] between) (frames_text fs) bs ∙ ap (λ next. run next bs) (run-frames fs h)

-- the text of a cut is read as the cut
pub run-cut : (c : Cut) → IsCut c → run (goes [] between) (cut_text c) ≡ next_of c
run-cut (cut fs between) h = ap (λ x. run (goes [] between) x) (append-nil (frames_text fs)) ∙ run-frames fs h
run-cut (cut fs after_i) h = behind fs (105 ∷ []) (if_any fs (inl h)) ∙ run-i fs [] h
run-cut (cut fs after_minus) h = behind fs (105 ∷ 45 ∷ []) (if_any fs (inl h)) ∙ run-i fs (45 ∷ []) h
run-cut (cut fs (digits false n)) h = behind fs (105 ∷ decimal n) (if_any fs (inl h.0)) ∙ run-i fs (decimal n) h.0 ∙ run-positive fs n h.0 h.1
run-cut (cut fs (digits true n)) h = behind fs (105 ∷ 45 ∷ decimal n) (if_any fs (inl h.0)) ∙ run-i fs (45 ∷ decimal n) h.0 ∙ run-negative fs n h.0 h.1 h.2
run-cut (cut fs (count n)) h = behind fs (decimal n) (if_any fs h.0) ∙ run-length fs n h.0 h.1
run-cut (cut fs (part bytes left)) h =
    let n = length bytes + left in
    let some = h.1 in
    let opened : n == 0 ≡ false = not_zero n (omega arith) in
    let rest : n - length bytes ≡ left = omega arith in
    behind fs (token_text (part bytes left)) (if_any fs h.0)
    ∙ ap (λ x. run (between_in fs) x) (append_assoc (decimal n) (58 ∷ []) bytes)
    ∙ run-append (between_in fs) (decimal n) (58 ∷ bytes) ∙ ap (λ next. run next (58 ∷ bytes)) (run-length fs n h.0 h.2)
    ∙ ap (λ t. run (cond t (put add_pair fs (string [])) (goes fs (part [] n))) bytes) opened
    ∙ run-part fs [] n bytes (omega arith) ∙ ap (λ k. goes fs (part bytes k)) rest

-- the text of a message is read as the message
pub run-message : (ps : TreePairs) → ArePairs ps → run (goes [] between) (text (dictionary ps)) ≡ ends (dictionary ps)
run-message ps g = run-braces ps [] tt (run-pairs ps no_pairs [] tt tt g)
