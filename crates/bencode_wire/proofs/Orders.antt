-- Reading with the pairs kept sorted is reading in the order in which they come, sorted.
use Rattle.std.proofs.Common.{◌≡◌, ℕ, suc, ◌+◌, ◌-◌, ◌*◌, ◌^◌, Bool, true, false, cond, nat_lt}
use Rattle.std.proofs.Common.{nat_le, ◌==◌, ◌||◌, Ordering, Less, Equal, Greater, nat_cmp, is_eq}
use Rattle.std.proofs.Common.{List, [], ◌∷◌, ◌++◌, length, refl, sym, ap, ◌∙◌, arith}
use Rattle.std.proofs.lemmas.Map.Text.{is_eq-slice_cmp}
use Rattle.std.proofs.lemmas.Slice.Eq.{bytes_eq-Decides}
use Rattle.std.specs.Str.{bytes_eq}
use Rattle.std.specs.Cmp.Lexicographic.{slice_cmp}
use Rattle.std.specs.Ordering.{match_ordering}
use Rattle.bencode_wire.specs.Tree.{Tree, integer, string, list, dictionary, Trees, no_trees, tree}
use Rattle.bencode_wire.specs.Tree.{TreePairs, no_pairs, pair, add_tree, add_pair, holds_key}
use Rattle.bencode_wire.specs.Spelling.{put_sorted, put_tree_pairs, sorted, sorted_trees}
use Rattle.bencode_wire.specs.Inside.Cut.{OpenContainer, in_list, at_key, at_value, Token, between, after_i}
use Rattle.bencode_wire.specs.Inside.Cut.{after_minus, digits, count, part, cut, greatest, sorted_frame}
use Rattle.bencode_wire.specs.Inside.Cut.{sorted_frames, sorted_cut}
use Rattle.bencode_wire.specs.Inside.Sign.{sign_of}
use Rattle.bencode_wire.specs.Fault.{malformed, too_long, too_deep}
use Rattle.bencode_wire.specs.declared.sign.Sign.{Sign}
use Rattle.bencode_wire.specs.declared.sign.Sign.TheVariants as signs
use Rattle.bencode_wire.specs.Inside.ByteSteps.{step_run, Judged, reads, whole, refuses, judged}
use Rattle.bencode_wire.specs.Inside.ByteSteps.{within_limit, is_large_token}
use Rattle.bencode_wire.specs.Inside.Beginnings.{ByteEffect, put, begin_message, begin_value, begin_item}
use Rattle.bencode_wire.specs.Inside.Beginnings.{stuck, ends, names, opens, goes, begin, begin_key}
use Rattle.bencode_wire.specs.Inside.ByteEffects.{text_bytes, length_digits, integer_digits}
use Rattle.bencode_wire.specs.Inside.ByteEffects.{integer_with_sign, integer_minus, integer_open}

abbrev sorted_next : ByteEffect → ByteEffect
sorted_next (goes fs token) = goes (sorted_frames fs) token
sorted_next (opens f fs) = opens (sorted_frame f) (sorted_frames fs)
sorted_next (names ps key fs) = names (put_tree_pairs no_pairs ps) key (sorted_frames fs)
sorted_next (ends t) = ends (sorted t)
sorted_next stuck = stuck

sorted_trees-add : (ts : Trees) (t : Tree) → sorted_trees (add_tree ts t) ≡ add_tree (sorted_trees ts) (sorted t)
sorted_trees-add no_trees t = refl
sorted_trees-add (tree u ts) t = ap (tree (sorted u)) (sorted_trees-add ts t)

put_tree_pairs-add : (done ps : TreePairs) (key : List ℕ) (t : Tree) → put_tree_pairs done (add_pair ps key t) ≡ put_sorted (put_tree_pairs done ps) key (sorted t)
put_tree_pairs-add done no_pairs key t = refl
put_tree_pairs-add done (pair k u ps) key t = put_tree_pairs-add (put_sorted done k (sorted u)) ps key t

put-sorted : (fs : List OpenContainer) (t : Tree) → put put_sorted (sorted_frames fs) (sorted t) ≡ sorted_next (put add_pair fs t)
put-sorted [] t = refl
put-sorted (in_list ts ∷ fs) t = ap (λ x. goes (in_list x ∷ sorted_frames fs) between) (sym (sorted_trees-add ts t))
put-sorted (at_key ps ∷ fs) (integer n) = refl
put-sorted (at_key ps ∷ fs) (string key) = refl
put-sorted (at_key ps ∷ fs) (list ts) = refl
put-sorted (at_key ps ∷ fs) (dictionary qs) = refl
put-sorted (at_value ps key ∷ fs) t = ap (λ x. goes (at_key x ∷ sorted_frames fs) between) (sym (put_tree_pairs-add no_pairs ps key t))

begin_message-sorted : (s : Sign) → begin_message [] s ≡ sorted_next (begin_message [] s)
begin_message-sorted signs.Dictionary = refl
begin_message-sorted signs.Integer = refl
begin_message-sorted signs.List = refl
begin_message-sorted signs.End = refl
begin_message-sorted signs.Minus = refl
begin_message-sorted signs.Colon = refl
begin_message-sorted (signs.Digit d) = refl
begin_message-sorted signs.Other = refl

begin_value-sorted : (fs : List OpenContainer) (s : Sign) → begin_value (sorted_frames fs) s ≡ sorted_next (begin_value fs s)
begin_value-sorted fs signs.Dictionary = refl
begin_value-sorted fs signs.Integer = refl
begin_value-sorted fs signs.List = refl
begin_value-sorted fs signs.End = refl
begin_value-sorted fs signs.Minus = refl
begin_value-sorted fs signs.Colon = refl
begin_value-sorted fs (signs.Digit d) = refl
begin_value-sorted fs signs.Other = refl

begin_item-sorted : (ts : Trees) (fs : List OpenContainer) (s : Sign)
    → begin_item put_sorted (sorted_frames (in_list ts ∷ fs)) s ≡ sorted_next (begin_item add_pair (in_list ts ∷ fs) s)
begin_item-sorted ts fs signs.Dictionary = refl
begin_item-sorted ts fs signs.Integer = refl
begin_item-sorted ts fs signs.List = refl
begin_item-sorted ts fs signs.End = put-sorted fs (list ts)
begin_item-sorted ts fs signs.Minus = refl
begin_item-sorted ts fs signs.Colon = refl
begin_item-sorted ts fs (signs.Digit d) = refl
begin_item-sorted ts fs signs.Other = refl

begin_key-sorted : (ps : TreePairs) (fs : List OpenContainer) (s : Sign)
    → begin_key put_sorted (sorted_frames (at_key ps ∷ fs)) s ≡ sorted_next (begin_key add_pair (at_key ps ∷ fs) s)
begin_key-sorted ps fs signs.Dictionary = refl
begin_key-sorted ps fs signs.Integer = refl
begin_key-sorted ps fs signs.List = refl
begin_key-sorted ps fs signs.End = put-sorted fs (dictionary ps)
begin_key-sorted ps fs signs.Minus = refl
begin_key-sorted ps fs signs.Colon = refl
begin_key-sorted ps fs (signs.Digit d) = refl
begin_key-sorted ps fs signs.Other = refl

begin-sorted : (fs : List OpenContainer) (s : Sign) → begin put_sorted (sorted_frames fs) s ≡ sorted_next (begin add_pair fs s)
begin-sorted [] s = begin_message-sorted s
begin-sorted (in_list ts ∷ fs) s = begin_item-sorted ts fs s
begin-sorted (at_key ps ∷ fs) s = begin_key-sorted ps fs s
begin-sorted (at_value ps key ∷ fs) s = begin_value-sorted (at_value ps key ∷ fs) s

sorted_next-cond : (t : Bool) (a b : ByteEffect) → sorted_next (cond t a b) ≡ cond t (sorted_next a) (sorted_next b)
sorted_next-cond true a b = refl
sorted_next-cond false a b = refl

cond_same : (t : Bool) (a b c d : ByteEffect) → a ≡ c → b ≡ d → cond t a b ≡ cond t c d
cond_same true a b c d e f = e
cond_same false a b c d e f = f

integer_open-sorted : (fs : List OpenContainer) (s : Sign) → integer_open (sorted_frames fs) s ≡ sorted_next (integer_open fs s)
integer_open-sorted fs signs.Dictionary = refl
integer_open-sorted fs signs.Integer = refl
integer_open-sorted fs signs.List = refl
integer_open-sorted fs signs.End = refl
integer_open-sorted fs signs.Minus = refl
integer_open-sorted fs signs.Colon = refl
integer_open-sorted fs (signs.Digit d) = refl
integer_open-sorted fs signs.Other = refl

integer_minus-sorted : (fs : List OpenContainer) (s : Sign) → integer_minus (sorted_frames fs) s ≡ sorted_next (integer_minus fs s)
integer_minus-sorted fs signs.Dictionary = refl
integer_minus-sorted fs signs.Integer = refl
integer_minus-sorted fs signs.List = refl
integer_minus-sorted fs signs.End = refl
integer_minus-sorted fs signs.Minus = refl
integer_minus-sorted fs signs.Colon = refl
integer_minus-sorted fs (signs.Digit d) = sym (sorted_next-cond (d == 0) stuck (goes fs (digits true d)))
integer_minus-sorted fs signs.Other = refl

twice_tested : (a b : Bool) (fs : List OpenContainer) (token : Token) → cond a stuck (cond b (goes (sorted_frames fs) token) stuck) ≡ sorted_next (cond a stuck (cond b (goes fs token) stuck))
twice_tested true b fs token = refl
twice_tested false true fs token = refl
twice_tested false false fs token = refl

integer_digits-sorted : (fs : List OpenContainer) (negative : Bool) (n : ℕ) (s : Sign)
    → integer_digits put_sorted (sorted_frames fs) negative n s ≡ sorted_next (integer_digits add_pair fs negative n s)
integer_digits-sorted fs negative n signs.Dictionary = refl
integer_digits-sorted fs negative n signs.Integer = refl
integer_digits-sorted fs negative n signs.List = refl
integer_digits-sorted fs negative n signs.End = put-sorted fs (integer (integer_with_sign negative n))
integer_digits-sorted fs negative n signs.Minus = refl
integer_digits-sorted fs negative n signs.Colon = refl
integer_digits-sorted fs negative n (signs.Digit d) = twice_tested (n == 0) (nat_le (10 * n + d) (greatest negative)) fs (digits negative (10 * n + d))
integer_digits-sorted fs negative n signs.Other = refl

length_digits-sorted : (fs : List OpenContainer) (n : ℕ) (s : Sign) → length_digits put_sorted (sorted_frames fs) n s ≡ sorted_next (length_digits add_pair fs n s)
length_digits-sorted fs n signs.Dictionary = refl
length_digits-sorted fs n signs.Integer = refl
length_digits-sorted fs n signs.List = refl
length_digits-sorted fs n signs.End = refl
length_digits-sorted fs n signs.Minus = refl
length_digits-sorted fs n signs.Colon =
    cond_same (n == 0) _ _ _ _ (put-sorted fs (string [])) refl ∙ sym (sorted_next-cond (n == 0) (put add_pair fs (string [])) (goes fs (part [] n)))
length_digits-sorted fs n (signs.Digit d) = twice_tested (n == 0) (nat_lt (10 * n + d) (10 ^ 64)) fs (count (10 * n + d))
length_digits-sorted fs n signs.Other = refl

text_bytes-sorted : (fs : List OpenContainer) (bytes : List ℕ) (left : ℕ) (bs : List ℕ) → text_bytes put_sorted (sorted_frames fs) bytes left bs ≡ sorted_next (text_bytes add_pair fs bytes left bs)
text_bytes-sorted fs bytes left bs =
    cond_same (nat_lt (length bs) left) _ _ _ _ refl (put-sorted fs (string (bytes ++ bs)))
    ∙ sym (sorted_next-cond (nat_lt (length bs) left) (goes fs (part (bytes ++ bs) (left - length bs))) (put add_pair fs (string (bytes ++ bs))))

step-sorted : (fs : List OpenContainer) (token : Token) (b : ℕ) → step_run put_sorted (sorted_frames fs) token (b ∷ []) ≡ sorted_next (step_run add_pair fs token (b ∷ []))
step-sorted fs between b = begin-sorted fs (sign_of b)
step-sorted fs after_i b = integer_open-sorted fs (sign_of b)
step-sorted fs after_minus b = integer_minus-sorted fs (sign_of b)
step-sorted fs (digits negative n) b = integer_digits-sorted fs negative n (sign_of b)
step-sorted fs (count n) b = length_digits-sorted fs n (sign_of b)
step-sorted fs (part bytes left) b = text_bytes-sorted fs bytes left (b ∷ [])

abbrev pub sorted_judged : Judged → Judged
sorted_judged (reads c) = reads (sorted_cut c)
sorted_judged (whole t) = whole (sorted t)
sorted_judged (refuses rule) = refuses rule

sorted_judged-cond : (t : Bool) (a b : Judged) → sorted_judged (cond t a b) ≡ cond t (sorted_judged a) (sorted_judged b)
sorted_judged-cond true a b = refl
sorted_judged-cond false a b = refl

sorted_length : (fs : List OpenContainer) → length (sorted_frames fs) ≡ length fs
sorted_length [] = refl
sorted_length (f ∷ fs) = ap suc (sorted_length fs)

or_first : (a b c : Bool) → a || (b || c) ≡ b || (a || c)
or_first true true c = refl
or_first true false c = refl
or_first false true c = refl
or_first false false c = refl

or_grouped : (a b c : Bool) → (a || b) || c ≡ b || (a || c)
or_grouped true true c = refl
or_grouped true false c = refl
or_grouped false true c = refl
or_grouped false false c = refl

or_twice : (a b : Bool) → a || b ≡ a || (a || b)
or_twice true b = refl
or_twice false b = refl

-- where a key compares equal, it is the key
pub same_key : (key l : List ℕ) → slice_cmp nat_cmp key l ≡ Equal → key ≡ l
same_key key l e =
    let eq : bytes_eq key l ≡ true = sym (is_eq-slice_cmp key l) ∙ ap is_eq e in
    grind (arith, bytes_eq-Decides)

holds_key-ordered : (o : Ordering) (k : List ℕ) (key : List ℕ) (t : Tree) (l : List ℕ) (u : Tree) (ps more : TreePairs)
    → (o ≡ Equal → key ≡ l) → holds_key k more ≡ bytes_eq k key || holds_key k ps
    → holds_key k (match_ordering o (pair key t (pair l u ps)) (pair l t ps) (pair l u more)) ≡ bytes_eq k key || (bytes_eq k l || holds_key k ps)
holds_key-ordered Less k key t l u ps more same e = refl
holds_key-ordered Equal k key t l u ps more same e = or_twice (bytes_eq k l) (holds_key k ps) ∙ ap (λ x. bytes_eq k x || (bytes_eq k l || holds_key k ps)) (sym (same refl))
holds_key-ordered Greater k key t l u ps more same e = ap (λ x. bytes_eq k l || x) e ∙ or_first (bytes_eq k l) (bytes_eq k key) (holds_key k ps)

pub holds_key-put_sorted : (k : List ℕ) (ps : TreePairs) (key : List ℕ) (t : Tree) → holds_key k (put_sorted ps key t) ≡ bytes_eq k key || holds_key k ps
holds_key-put_sorted k no_pairs key t = refl
holds_key-put_sorted k (pair l u ps) key t =
    holds_key-ordered (slice_cmp nat_cmp key l) k key t l u ps (put_sorted ps key t) (same_key key l) (holds_key-put_sorted k ps key t)

or_false : (a : Bool) → a ≡ a || false
or_false true = refl
or_false false = refl

holds_key-put_tree_pairs : (k : List ℕ) (done ps : TreePairs) → holds_key k (put_tree_pairs done ps) ≡ holds_key k done || holds_key k ps
holds_key-put_tree_pairs k done no_pairs = or_false (holds_key k done)
holds_key-put_tree_pairs k done (pair key t ps) =
    holds_key-put_tree_pairs k (put_sorted done key (sorted t)) ps ∙ ap (λ x. x || holds_key k ps) (holds_key-put_sorted k done key (sorted t))
    ∙ or_grouped (bytes_eq k key) (holds_key k done) (holds_key k ps)

pub holds_key-sorted : (k : List ℕ) (ps : TreePairs) → holds_key k (put_tree_pairs no_pairs ps) ≡ holds_key k ps
holds_key-sorted k ps = holds_key-put_tree_pairs k no_pairs ps

judged-sorted : (next : ByteEffect) → judged (sorted_next next) ≡ sorted_judged (judged next)
judged-sorted (goes fs token) = refl
judged-sorted (opens f fs) =
    ap (λ n. cond (nat_lt n 64) (reads (cut (sorted_frame f ∷ sorted_frames fs) between)) (refuses too_deep)) (sorted_length fs)
    ∙ sym (sorted_judged-cond (nat_lt (length fs) 64) (reads (cut (f ∷ fs) between)) (refuses too_deep))
judged-sorted (names ps key fs) =
    ap (λ t. cond t (refuses malformed) (reads (cut (at_value (put_tree_pairs no_pairs ps) key ∷ sorted_frames fs) between))) (holds_key-sorted key ps)
    ∙ sym (sorted_judged-cond (holds_key key ps) (refuses malformed) (reads (cut (at_value ps key ∷ fs) between)))
judged-sorted (ends t) = refl
judged-sorted stuck = refl

within_limit-sorted : (limit : ℕ) (j : Judged) → within_limit limit (sorted_judged j) ≡ sorted_judged (within_limit limit j)
within_limit-sorted limit (reads (cut fs token)) = sym (sorted_judged-cond (is_large_token limit token) (refuses too_long) (reads (cut fs token)))
within_limit-sorted limit (whole t) = refl
within_limit-sorted limit (refuses rule) = refl

-- a byte behind a cut whose pairs are sorted
pub judged-step : (limit : ℕ) (fs : List OpenContainer) (token : Token) (b : ℕ)
    → within_limit limit (judged (step_run put_sorted (sorted_frames fs) token (b ∷ []))) ≡ sorted_judged (within_limit limit (judged (step_run add_pair fs token (b ∷ []))))
judged-step limit fs token b =
    ap (λ next. within_limit limit (judged next)) (step-sorted fs token b)
    ∙ ap (λ j. within_limit limit j) (judged-sorted (step_run add_pair fs token (b ∷ [])))
    ∙ within_limit-sorted limit (judged (step_run add_pair fs token (b ∷ [])))
