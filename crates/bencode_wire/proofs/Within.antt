-- A dictionary's text within the limits is read as the dictionary.
use Rattle.std.proofs.Common.{◌≡◌, ℕ, suc, ◌+◌, ◌-◌, ◌*◌, ◌^◌, ◌<◌, ◌≤◌, Bool, true, false, cond}
use Rattle.std.proofs.Common.{nat_lt, nat_le, ◌==◌, ◌||◌, List, [], ◌∷◌, ◌++◌, length, refl, sym}
use Rattle.std.proofs.Common.{ap, ◌∙◌, subst, length-append, arith}
use Rattle.std.proofs.lemmas.Bool.Decides.{nat_tests}
use Rattle.std.proofs.lemmas.Slice.Eq.{bytes_eq-Decides}
use Rattle.std.specs.Str.{bytes_eq}
use Rattle.bencode_wire.specs.Tree.{Tree, integer, string, list, dictionary, Trees, no_trees, tree}
use Rattle.bencode_wire.specs.Tree.{TreePairs, no_pairs, pair, add_tree, add_pair, holds_key, HasKey}
use Rattle.bencode_wire.specs.Spelling.{text, ArePairs}
use Rattle.bencode_wire.specs.Inside.Cut.{OpenContainer, in_list, at_key, at_value, Token, between, after_i}
use Rattle.bencode_wire.specs.Inside.Cut.{after_minus, digits, count, part, Cut, cut, greatest}
use Rattle.bencode_wire.specs.Fault.{StreamRule, malformed, too_long, too_deep}
use Rattle.bencode_wire.specs.Inside.Sign.{sign_of}
use Rattle.bencode_wire.specs.declared.sign.Sign.{Sign}
use Rattle.bencode_wire.specs.declared.sign.Sign.TheVariants as signs
use Rattle.bencode_wire.specs.Inside.ByteSteps.{step_run, reads, whole, refuses, judged, within_limit}
use Rattle.bencode_wire.specs.Inside.Beginnings.{ByteEffect, put, begin_value, begin_item, begin_key, goes}
use Rattle.bencode_wire.specs.Inside.Beginnings.{stuck, ends, names, opens, begin}
use Rattle.bencode_wire.specs.Inside.ByteEffects.{length_digits, more_length, integer_digits, more_digits}
use Rattle.bencode_wire.specs.Inside.ByteEffects.{integer_with_sign, integer_minus, integer_open}
use Rattle.bencode_wire.specs.Stream.{IsClean}
use Rattle.bencode_wire.proofs.Complete.{after, run, run-append, run-message}
use Rattle.bencode_wire.proofs.Limits.{KeysDiffer, IsWithin, AreWithin, PairsWithin}
use Rattle.bencode_wire.proofs.Verdicts.{read, meets_verdict}

-- what is open is within the limits, each at its depth
abbrev FramesWithin : ℕ → List OpenContainer → Type 0
FramesWithin limit [] = Unit {0}
FramesWithin limit (in_list ts ∷ fs) = (length fs < 64) × AreWithin limit (64 - suc (length fs)) ts × FramesWithin limit fs
FramesWithin limit (at_key ps ∷ fs) = (length fs < 64) × KeysDiffer ps × PairsWithin limit (64 - suc (length fs)) ps × FramesWithin limit fs
FramesWithin limit (at_value ps key ∷ fs) =
    (length fs < 64) × KeysDiffer ps × PairsWithin limit (64 - suc (length fs)) ps × FramesWithin limit fs × (HasKey key ps → ⊥) × (length key ≤ limit)

abbrev TokenWithin : ℕ → Token → Type 0
TokenWithin limit between = Unit {0}
TokenWithin limit after_i = Unit {0}
TokenWithin limit after_minus = Unit {0}
TokenWithin limit (digits negative n) = Unit {0}
TokenWithin limit (count n) = n ≤ limit
TokenWithin limit (part bytes left) = length bytes + left ≤ limit

abbrev NextWithin : ℕ → ByteEffect → Type 0
NextWithin limit (goes fs token) = FramesWithin limit fs × TokenWithin limit token
NextWithin limit (opens f fs) = FramesWithin limit (f ∷ fs)
NextWithin limit (names ps key fs) = FramesWithin limit (at_value ps key ∷ fs)
NextWithin limit (ends t) = IsWithin limit 64 t
NextWithin limit stuck = ⊥

AreWithin-back : (limit depth : ℕ) (ts : Trees) (t : Tree) → AreWithin limit depth (add_tree ts t) → AreWithin limit depth ts × IsWithin limit depth t
AreWithin-back limit depth no_trees t h = (tt, h.0)
AreWithin-back limit depth (tree u ts) t h = let more = AreWithin-back limit depth ts t h.1 in ((h.0, more.0), more.1)

PairsWithin-back : (limit depth : ℕ) (ps : TreePairs) (key : List ℕ) (t : Tree) → PairsWithin limit depth (add_pair ps key t)
    → PairsWithin limit depth ps × (length key ≤ limit) × IsWithin limit depth t
PairsWithin-back limit depth no_pairs key t h = (tt, h.0, h.1)
PairsWithin-back limit depth (pair k u ps) key t h = let more = PairsWithin-back limit depth ps key t h.2 in ((h.0, h.1, more.0), more.1, more.2)

or_true : (a : Bool) → a || true ≡ true
or_true true = refl
or_true false = refl

pub holds_key-added : (key : List ℕ) (ps : TreePairs) (t : Tree) → HasKey key (add_pair ps key t)
holds_key-added key no_pairs t = let same : bytes_eq key key ≡ true = grind (arith, bytes_eq-Decides) in ap (λ b. b || false) same
holds_key-added key (pair k u ps) t = ap (λ b. bytes_eq key k || b) (holds_key-added key ps t) ∙ or_true (bytes_eq key k)

or_below : (a b c : Bool) → (b ≡ true → c ≡ true) → a || b ≡ true → a || c ≡ true
or_below true b c f h = refl
or_below false b c f h = f h

or_left : (a b : Bool) → a || b ≡ true → (b ≡ true → ⊥) → a ≡ true
or_left true b h other = refl
or_left false b h other = absurd (other h)

same_key : (key k : List ℕ) → bytes_eq key k ≡ true → key ≡ k
same_key key k e = grind (arith, bytes_eq-Decides)

pub holds_key-below : (k key : List ℕ) (ps : TreePairs) (t : Tree) → HasKey k ps → HasKey k (add_pair ps key t)
holds_key-below k key no_pairs t h = absurd (cc)
holds_key-below k key (pair l u ps) t h = or_below (bytes_eq k l) (holds_key k ps) (holds_key k (add_pair ps key t)) (λ g. holds_key-below k key ps t g) h

KeysDiffer-back : (ps : TreePairs) (key : List ℕ) (t : Tree) → KeysDiffer (add_pair ps key t) → KeysDiffer ps × (HasKey key ps → ⊥)
KeysDiffer-back no_pairs key t h = (tt, λ g. absurd (cc))
KeysDiffer-back (pair k u ps) key t h =
    let more = KeysDiffer-back ps key t h.1 in (
      (λ g. h.0 (holds_key-below k key ps t g), more.0),
      λ g. h.0 (subst (λ x. HasKey x (add_pair ps key t)) (same_key key k (or_left (bytes_eq key k) (holds_key key ps) g more.1)) (holds_key-added key ps t)),
    )

-- a value that is put within the limits was within them, and so were the frames
put_key-back : (limit : ℕ) (ps : TreePairs) (fs : List OpenContainer) (t : Tree) → NextWithin limit (put add_pair (at_key ps ∷ fs) t)
    → FramesWithin limit (at_key ps ∷ fs) × IsWithin limit (64 - suc (length fs)) t
put_key-back limit ps fs (integer n) h = absurd h
put_key-back limit ps fs (string key) h = ((h.0, h.1, h.2, h.3), h.5)
put_key-back limit ps fs (list ts) h = absurd h
put_key-back limit ps fs (dictionary qs) h = absurd h

put-back : (limit : ℕ) (fs : List OpenContainer) (t : Tree) → NextWithin limit (put add_pair fs t) → FramesWithin limit fs × IsWithin limit (64 - length fs) t
put-back limit [] t h = (tt, h)
put-back limit (in_list ts ∷ fs) t h = let b = AreWithin-back limit (64 - suc (length fs)) ts t h.0.1 in ((h.0.0, b.0, h.0.2), b.1)
put-back limit (at_key ps ∷ fs) t h = put_key-back limit ps fs t h
put-back limit (at_value ps key ∷ fs) t h =
    let b = PairsWithin-back limit (64 - suc (length fs)) ps key t h.0.2 in
    let d = KeysDiffer-back ps key t h.0.1 in
    ((h.0.0, d.0, b.0, h.0.3, d.1, b.1), b.2)

depth_same : (n : ℕ) → 64 - n - 1 ≡ 64 - suc n
depth_same n = omega arith

close_list-back : (limit : ℕ) (ts : Trees) (fs : List OpenContainer) → NextWithin limit (put add_pair fs (list ts)) → FramesWithin limit (in_list ts ∷ fs)
close_list-back limit ts fs h =
    let b = put-back limit fs (list ts) h in
    let room = b.1.0 in
    (omega arith, subst (λ d. AreWithin limit d ts) (depth_same (length fs)) b.1.1, b.0)

close_dictionary-back : (limit : ℕ) (ps : TreePairs) (fs : List OpenContainer) → NextWithin limit (put add_pair fs (dictionary ps)) → FramesWithin limit (at_key ps ∷ fs)
close_dictionary-back limit ps fs h =
    let b = put-back limit fs (dictionary ps) h in
    let room = b.1.0 in
    (omega arith, b.1.1, subst (λ d. PairsWithin limit d ps) (depth_same (length fs)) b.1.2, b.0)

begin_value-back : (limit : ℕ) (fs : List OpenContainer) (s : Sign) → NextWithin limit (begin_value fs s) → FramesWithin limit fs
begin_value-back limit fs signs.Integer h = h.0
begin_value-back limit fs signs.List h = h.2
begin_value-back limit fs signs.Dictionary h = h.3
begin_value-back limit fs signs.End h = absurd h
begin_value-back limit fs signs.Minus h = absurd h
begin_value-back limit fs signs.Colon h = absurd h
begin_value-back limit fs (signs.Digit d) h = h.0
begin_value-back limit fs signs.Other h = absurd h

begin_item-back : (limit : ℕ) (ts : Trees) (fs : List OpenContainer) (s : Sign) → NextWithin limit (begin_item add_pair (in_list ts ∷ fs) s) → FramesWithin limit (in_list ts ∷ fs)
begin_item-back limit ts fs signs.Integer h = h.0
begin_item-back limit ts fs signs.List h = h.2
begin_item-back limit ts fs signs.Dictionary h = h.3
begin_item-back limit ts fs signs.End h = close_list-back limit ts fs h
begin_item-back limit ts fs signs.Minus h = absurd h
begin_item-back limit ts fs signs.Colon h = absurd h
begin_item-back limit ts fs (signs.Digit d) h = h.0
begin_item-back limit ts fs signs.Other h = absurd h

begin_key-back : (limit : ℕ) (ps : TreePairs) (fs : List OpenContainer) (s : Sign) → NextWithin limit (begin_key add_pair (at_key ps ∷ fs) s) → FramesWithin limit (at_key ps ∷ fs)
begin_key-back limit ps fs signs.Integer h = absurd h
begin_key-back limit ps fs signs.List h = absurd h
begin_key-back limit ps fs signs.Dictionary h = absurd h
begin_key-back limit ps fs signs.End h = close_dictionary-back limit ps fs h
begin_key-back limit ps fs signs.Minus h = absurd h
begin_key-back limit ps fs signs.Colon h = absurd h
begin_key-back limit ps fs (signs.Digit d) h = h.0
begin_key-back limit ps fs signs.Other h = absurd h

begin-back : (limit : ℕ) (fs : List OpenContainer) (s : Sign) → NextWithin limit (begin add_pair fs s) → FramesWithin limit fs
begin-back limit [] s h = tt
begin-back limit (in_list ts ∷ fs) s h = begin_item-back limit ts fs s h
begin-back limit (at_key ps ∷ fs) s h = begin_key-back limit ps fs s h
begin-back limit (at_value ps key ∷ fs) s h = begin_value-back limit (at_value ps key ∷ fs) s h

unless-back : (limit : ℕ) (t : Bool) (next : ByteEffect) → NextWithin limit (cond t stuck next) → NextWithin limit next
unless-back limit true next h = absurd h
unless-back limit false next h = h

where-back : (limit : ℕ) (t : Bool) (next : ByteEffect) → NextWithin limit (cond t next stuck) → NextWithin limit next
where-back limit true next h = h
where-back limit false next h = absurd h

integer_open-back : (limit : ℕ) (fs : List OpenContainer) (s : Sign) → NextWithin limit (integer_open fs s) → FramesWithin limit fs
integer_open-back limit fs signs.Integer h = absurd h
integer_open-back limit fs signs.List h = absurd h
integer_open-back limit fs signs.Dictionary h = absurd h
integer_open-back limit fs signs.End h = absurd h
integer_open-back limit fs signs.Minus h = h.0
integer_open-back limit fs signs.Colon h = absurd h
integer_open-back limit fs (signs.Digit d) h = h.0
integer_open-back limit fs signs.Other h = absurd h

integer_minus-back : (limit : ℕ) (fs : List OpenContainer) (s : Sign) → NextWithin limit (integer_minus fs s) → FramesWithin limit fs
integer_minus-back limit fs signs.Integer h = absurd h
integer_minus-back limit fs signs.List h = absurd h
integer_minus-back limit fs signs.Dictionary h = absurd h
integer_minus-back limit fs signs.End h = absurd h
integer_minus-back limit fs signs.Minus h = absurd h
integer_minus-back limit fs signs.Colon h = absurd h
integer_minus-back limit fs (signs.Digit d) h = let g = unless-back limit (d == 0) (goes fs (digits true d)) h in g.0
integer_minus-back limit fs signs.Other h = absurd h

more_digits-back : (limit : ℕ) (fs : List OpenContainer) (negative : Bool) (n d : ℕ) → NextWithin limit (more_digits fs negative n d) → FramesWithin limit fs
more_digits-back limit fs negative n d h =
    let token = digits negative (10 * n + d) in
    let g = where-back limit (nat_le (10 * n + d) (greatest negative)) (goes fs token)
    (unless-back limit (n == 0) (cond (nat_le (10 * n + d) (greatest negative)) (goes fs token) stuck) h) in g.0

integer_digits-back : (limit : ℕ) (fs : List OpenContainer) (negative : Bool) (n : ℕ) (s : Sign) → NextWithin limit (integer_digits add_pair fs negative n s) → FramesWithin limit fs
integer_digits-back limit fs negative n signs.Integer h = absurd h
integer_digits-back limit fs negative n signs.List h = absurd h
integer_digits-back limit fs negative n signs.Dictionary h = absurd h
integer_digits-back limit fs negative n signs.End h = let g = put-back limit fs (integer (integer_with_sign negative n)) h in g.0
integer_digits-back limit fs negative n signs.Minus h = absurd h
integer_digits-back limit fs negative n signs.Colon h = absurd h
integer_digits-back limit fs negative n (signs.Digit d) h = more_digits-back limit fs negative n d h
integer_digits-back limit fs negative n signs.Other h = absurd h

more_length-back : (limit : ℕ) (fs : List OpenContainer) (n d : ℕ) → NextWithin limit (more_length fs n d) → FramesWithin limit fs × (n ≤ limit)
more_length-back limit fs n d h =
    let token = count (10 * n + d) in
    let g = where-back limit (nat_lt (10 * n + d) (10 ^ 64)) (goes fs token)
    (unless-back limit (n == 0) (cond (nat_lt (10 * n + d) (10 ^ 64)) (goes fs token) stuck) h) in
    let fits : 10 * n + d ≤ limit = g.1 in
    (g.0, omega arith)

open_string-back : (limit : ℕ) (fs : List OpenContainer) (n : ℕ) (t : Bool) → n == 0 ≡ t → NextWithin limit (cond t (put add_pair fs (string [])) (goes fs (part [] n))) → FramesWithin limit fs × (n ≤ limit)
open_string-back limit fs n true e h =
    let g = put-back limit fs (string []) h in
    let none : n ≡ 0 = grind (arith, nat_tests) in
    (g.0, omega arith)
open_string-back limit fs n false e h = let fits : 0 + n ≤ limit = h.1 in (h.0, omega arith)

length_digits-back : (limit : ℕ) (fs : List OpenContainer) (n : ℕ) (s : Sign) → NextWithin limit (length_digits add_pair fs n s) → FramesWithin limit fs × (n ≤ limit)
length_digits-back limit fs n signs.Integer h = absurd h
length_digits-back limit fs n signs.List h = absurd h
length_digits-back limit fs n signs.Dictionary h = absurd h
length_digits-back limit fs n signs.End h = absurd h
length_digits-back limit fs n signs.Minus h = absurd h
length_digits-back limit fs n signs.Colon h = open_string-back limit fs n (n == 0) refl h
length_digits-back limit fs n (signs.Digit d) h = more_length-back limit fs n d h
length_digits-back limit fs n signs.Other h = absurd h

text_bytes-back : (limit : ℕ) (fs : List OpenContainer) (bytes : List ℕ) (left b : ℕ) (t : Bool) → nat_lt 1 left ≡ t
    → NextWithin limit (cond t (goes fs (part (bytes ++ b ∷ []) (left - 1))) (put add_pair fs (string (bytes ++ b ∷ [])))) → FramesWithin limit fs × (length bytes + left ≤ limit)
text_bytes-back limit fs bytes left b true e h =
    let long = length-append bytes (b ∷ []) in
    let more : 1 < left = grind (arith, nat_tests) in
    let fits : length (bytes ++ b ∷ []) + (left - 1) ≤ limit = h.1 in
    (h.0, omega arith)
text_bytes-back limit fs bytes left b false e h =
    let long = length-append bytes (b ∷ []) in
    let last : left ≤ 1 = grind (arith, nat_tests) in
    let g = put-back limit fs (string (bytes ++ b ∷ [])) h in
    let fits : length (bytes ++ b ∷ []) ≤ limit = g.1 in
    (g.0, omega arith)

step-back : (limit : ℕ) (fs : List OpenContainer) (token : Token) (b : ℕ) → NextWithin limit (step_run add_pair fs token (b ∷ [])) → FramesWithin limit fs × TokenWithin limit token
step-back limit fs between b h = (begin-back limit fs (sign_of b) h, tt)
step-back limit fs after_i b h = (integer_open-back limit fs (sign_of b) h, tt)
step-back limit fs after_minus b h = (integer_minus-back limit fs (sign_of b) h, tt)
step-back limit fs (digits negative n) b h = (integer_digits-back limit fs negative n (sign_of b) h, tt)
step-back limit fs (count n) b h = length_digits-back limit fs n (sign_of b) h
step-back limit fs (part bytes left) b h = text_bytes-back limit fs bytes left b (nat_lt 1 left) refl h

after-back : (limit : ℕ) (next : ByteEffect) (b : ℕ) → NextWithin limit (after next b) → NextWithin limit next
after-back limit (goes fs token) b h = step-back limit fs token b h
after-back limit (opens f fs) b h = let g = step-back limit (f ∷ fs) between b h in g.0
after-back limit (names ps key fs) b h = let g = step-back limit (at_value ps key ∷ fs) between b h in g.0
after-back limit (ends t) b h = absurd h
after-back limit stuck b h = absurd h

-- what is read on to a value within the limits is within them
run-back : (limit : ℕ) (next : ByteEffect) (bs : List ℕ) → NextWithin limit (run next bs) → NextWithin limit next
run-back limit next [] h = h
run-back limit next (b ∷ bs) h = after-back limit next b (run-back limit (after next b) bs h)

frame_depth : (limit : ℕ) (f : OpenContainer) (fs : List OpenContainer) → FramesWithin limit (f ∷ fs) → length fs < 64
frame_depth limit (in_list ts) fs h = h.0
frame_depth limit (at_key ps) fs h = h.0
frame_depth limit (at_value ps key) fs h = h.0

lt_false : (a b : ℕ) → b ≤ a → nat_lt a b ≡ false
lt_false a b h = grind (arith, nat_tests)

lt_true : (a b : ℕ) → a < b → nat_lt a b ≡ true
lt_true a b h = grind (arith, nat_tests)

reads_not : (c : Cut) (rule : StreamRule) → reads c ≡ refuses rule → ⊥
reads_not c rule e = absurd (cc)

token_passes : (limit : ℕ) (fs : List OpenContainer) (token : Token) → TokenWithin limit token → (rule : StreamRule) → within_limit limit (reads (cut fs token)) ≡ refuses rule → ⊥
token_passes limit fs between h rule e = reads_not (cut fs between) rule e
token_passes limit fs after_i h rule e = reads_not (cut fs after_i) rule e
token_passes limit fs after_minus h rule e = reads_not (cut fs after_minus) rule e
token_passes limit fs (digits negative n) h rule e = reads_not (cut fs (digits negative n)) rule e
token_passes limit fs (count n) h rule e = reads_not (cut fs (count n)) rule (ap (λ t. cond t (refuses too_long) (reads (cut fs (count n)))) (sym (lt_false limit n h)) ∙ e)
token_passes limit fs (part bytes left) h rule e = reads_not (cut fs (part bytes left)) rule e

no_key : (b : Bool) → (b ≡ true → ⊥) → b ≡ false
no_key true h = absurd (h refl)
no_key false h = refl

-- no rule applies to it
next_passes : (limit : ℕ) (next : ByteEffect) → NextWithin limit next → (rule : StreamRule) → within_limit limit (judged next) ≡ refuses rule → ⊥
next_passes limit (goes fs token) h rule e = token_passes limit fs token h.1 rule e
next_passes limit (opens f fs) h rule e =
    reads_not (cut (f ∷ fs) between) rule (ap (λ t. within_limit limit (cond t (reads (cut (f ∷ fs) between)) (refuses too_deep))) (sym (lt_true (length fs) 64 (frame_depth limit f fs h))) ∙ e)
next_passes limit (names ps key fs) h rule e =
    reads_not (cut (at_value ps key ∷ fs) between) rule
    (ap (λ t. within_limit limit (cond t (refuses malformed) (reads (cut (at_value ps key ∷ fs) between)))) (sym (no_key (holds_key key ps) h.4)) ∙ e)
next_passes limit (ends t) h rule e = let f : whole t ≡ refuses rule = e in absurd (cc)
next_passes limit stuck h rule e = absurd h

-- a dictionary's text within the limits is clean
pub text_clean : (limit : ℕ) (ps : TreePairs) → ArePairs ps → IsWithin limit 64 (dictionary ps) → length (text (dictionary ps)) ≤ limit → IsClean limit (text (dictionary ps))
text_clean limit ps g h fits front more rule e meets =
    let all : run (read front) more ≡ ends (dictionary ps) = sym (run-append (goes [] between) front more) ∙ ap read (sym e) ∙ run-message ps g in
    let now : NextWithin limit (read front) = run-back limit (read front) more (subst (λ next. NextWithin limit next) (sym all) h) in
    let size : length (text (dictionary ps)) ≡ length front + length more = ap length e ∙ length-append front more in
    let brief : nat_lt limit (length front) ≡ false = lt_false limit (length front) (omega arith) in
    next_passes limit (read front) now rule
    (ap (λ t. cond t (refuses too_long) (within_limit limit (judged (read front)))) (sym brief) ∙ meets_verdict limit front rule meets)
