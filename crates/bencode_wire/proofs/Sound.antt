-- A byte read behind a cut makes a cut whose text is the text and the byte.
use Rattle.std.proofs.Common.{◌≡◌, ℕ, suc, ◌+◌, ◌-◌, ◌*◌, ◌/◌, ◌%◌, ◌^◌, ◌<◌, ◌≤◌, ◌⊎◌, inl, inr}
use Rattle.std.proofs.Common.{Bool, true, false, cond, nat_lt, nat_le, ◌==◌, ◌&&◌, List, [], ◌∷◌}
use Rattle.std.proofs.Common.{◌++◌, length, decimal, refl, sym, ap, ◌∙◌, subst, append_assoc}
use Rattle.std.proofs.Common.{append-nil, length-append, arith}
use Rattle.std.proofs.lemmas.Bool.Decides.{nat_tests}
use Rattle.std.proofs.lemmas.Fmt.{decimal_digit, decimal_step_wide}
use Rattle.bencode_wire.specs.Tree.{Tree, integer, string, list, dictionary, Trees, no_trees, tree}
use Rattle.bencode_wire.specs.Tree.{TreePairs, no_pairs, pair, add_tree, add_pair}
use Rattle.bencode_wire.specs.Spelling.{text, trees_text, pairs_text, string_text, IsInteger}
use Rattle.bencode_wire.specs.Spelling.{IsString, IsSpellable, AreSpellable, ArePairs}
use Rattle.bencode_wire.specs.Inside.Cut.{OpenContainer, in_list, at_key, at_value, Token, between, after_i}
use Rattle.bencode_wire.specs.Inside.Cut.{after_minus, digits, count, part, cut, frames_text, token_text}
use Rattle.bencode_wire.specs.Inside.Cut.{cut_text, IfAny, TakesValue, TakesKey, greatest, IsCut}
use Rattle.bencode_wire.specs.Inside.Sign.{sign_of}
use Rattle.bencode_wire.specs.declared.sign.Sign.{Sign}
use Rattle.bencode_wire.specs.declared.sign.Sign.TheVariants as signs
use Rattle.bencode_wire.specs.Inside.ByteSteps.{step_run}
use Rattle.bencode_wire.specs.Inside.Beginnings.{ByteEffect, put_key, put, close, begin_message, begin_key}
use Rattle.bencode_wire.specs.Inside.Beginnings.{stuck, ends, names, opens, goes, begin, begin_item}
use Rattle.bencode_wire.specs.Inside.Beginnings.{begin_value}
use Rattle.bencode_wire.specs.Inside.ByteEffects.{text_bytes, length_digits, open_string, more_length}
use Rattle.bencode_wire.specs.Inside.ByteEffects.{integer_digits, more_digits, integer_with_sign}
use Rattle.bencode_wire.specs.Inside.ByteEffects.{integer_minus, integer_open}

-- the pairs behind others
pub pairs_text-add_pair : (ps : TreePairs) (key : List ℕ) (t : Tree) → pairs_text (add_pair ps key t) ≡ pairs_text ps ++ string_text key ++ text t
pairs_text-add_pair no_pairs key t = append-nil (string_text key ++ text t)
pairs_text-add_pair (pair k u ps) key t =
    ap (λ x. (string_text k ++ text u) ++ x) (pairs_text-add_pair ps key t) ∙ simp append_assoc

pub trees_text-add_tree : (ts : Trees) (t : Tree) → trees_text (add_tree ts t) ≡ trees_text ts ++ text t
trees_text-add_tree no_trees t = append-nil (text t)
trees_text-add_tree (tree u ts) t = ap (λ x. text u ++ x) (trees_text-add_tree ts t) ∙ simp append_assoc

pub ArePairs-add_pair : (ps : TreePairs) (key : List ℕ) (t : Tree) → ArePairs ps → IsString key → IsSpellable t → ArePairs (add_pair ps key t)
ArePairs-add_pair no_pairs key t h k g = (k, g, tt)
ArePairs-add_pair (pair l u ps) key t h k g = (h.0, h.1, ArePairs-add_pair ps key t h.2 k g)

pub AreSpellable-add_tree : (ts : Trees) (t : Tree) → AreSpellable ts → IsSpellable t → AreSpellable (add_tree ts t)
AreSpellable-add_tree no_trees t h g = (g, tt)
AreSpellable-add_tree (tree u ts) t h g = (h.0, AreSpellable-add_tree ts t h.1 g)

-- one digit more
pub decimal-more : (n d : ℕ) → 0 < n → d < 10 → 10 * n + d < 10 ^ 64 → decimal (10 * n + d) ≡ decimal n ++ (48 + d) ∷ []
decimal-more n d some digit fits =
    let ten : 10 ≤ 10 * n + d = omega arith in
    let front : (10 * n + d) / 10 ≡ n = omega arith in
    let last : (10 * n + d) % 10 ≡ d = omega arith in
    decimal_step_wide (10 * n + d) ten fits ∙ ap (λ k. decimal k ++ (48 + (10 * n + d) % 10) ∷ []) front ∙ ap (λ k. decimal n ++ (48 + k) ∷ []) last

-- the bytes that have a sign
abbrev pub Means : ℕ → Sign → Type 0
Means b signs.Integer = b ≡ 105
Means b signs.List = b ≡ 108
Means b signs.Dictionary = b ≡ 100
Means b signs.End = b ≡ 101
Means b signs.Minus = b ≡ 45
Means b signs.Colon = b ≡ 58
Means b (signs.Digit d) = (b ≡ 48 + d) × (d < 10)
Means b signs.Other = Unit {0}

tested : (b k : ℕ) (s t : Sign) → ((b ≡ k) → Means b s) → Means b t → Means b (cond (b == k) s t)
tested b k s t same other =
    let P : Bool → Type 0 = λ v. (v ≡ true → b ≡ k) → Means b (cond v s t) in
    (elim (b == k) as P [ true ↦ λ h. same (h refl) | false ↦ λ h. other ]) (λ h. grind (arith, nat_tests))

digit_tested : (b : ℕ) → Means b (cond (nat_le 48 b && nat_le b 57) (signs.Digit (b - 48)) signs.Other)
digit_tested b =
    let P : Bool → Type 0 = λ v. (v ≡ true → (48 ≤ b) × (b ≤ 57)) → Means b (cond v (signs.Digit (b - 48)) signs.Other) in
    (elim (nat_le 48 b && nat_le b 57) as P [ true ↦ λ h. let l = (h refl).0 in let u = (h refl).1 in (omega arith, omega arith) | false ↦ λ h. tt ])
    (λ h. (grind (arith, nat_tests), grind (arith, nat_tests)))

pub sign_of-Means : (b : ℕ) → Means b (sign_of b)
sign_of-Means b =
    tested b 105 signs.Integer _ (λ e. e) (tested b 108 signs.List _ (λ e. e) (tested b 100 signs.Dictionary _ (λ e. e) (tested b 101 signs.End _ (λ e. e)
    (tested b 45 signs.Minus _ (λ e. e) (tested b 58 signs.Colon _ (λ e. e) (digit_tested b))))))

-- what a byte has made of the bytes before
abbrev pub Sound : ByteEffect → List ℕ → Type 0
Sound (goes fs token) bytes = IsCut (cut fs token) × (cut_text (cut fs token) ≡ bytes)
Sound (opens f fs) bytes = IsCut (cut (f ∷ fs) between) × (cut_text (cut (f ∷ fs) between) ≡ bytes) × ((f ≡ in_list no_trees) ⊎ (f ≡ at_key no_pairs))
Sound (names ps key fs) bytes = IsCut (cut (at_value ps key ∷ fs) between) × (cut_text (cut (at_value ps key ∷ fs) between) ≡ bytes)
Sound (ends t) bytes = (ps : TreePairs) × (t ≡ dictionary ps) × ArePairs ps × (text t ≡ bytes)
Sound stuck bytes = Unit {0}

pub sound_at : (next : ByteEffect) (a b : List ℕ) → a ≡ b → Sound next a → Sound next b
sound_at next a b e h = subst (λ x. Sound next x) e h

-- the bound where there are no frames either
abbrev pub Puts : List OpenContainer → Tree → Type 0
Puts [] t = (ps : TreePairs) × (t ≡ dictionary ps) × ArePairs ps
Puts (in_list ts ∷ fs) t = TakesValue (in_list ts ∷ fs) × IsSpellable t
Puts (at_key ps ∷ fs) t = TakesKey (at_key ps ∷ fs) × IsSpellable t
Puts (at_value ps key ∷ fs) t = TakesValue (at_value ps key ∷ fs) × IsSpellable t

put_key-sound : (ps : TreePairs) (fs : List OpenContainer) (t : Tree) → TakesKey (at_key ps ∷ fs) → IsSpellable t
    → Sound (put_key ps fs t) (frames_text (at_key ps ∷ fs) ++ text t)
put_key-sound ps fs (integer n) h g = tt
put_key-sound ps fs (string key) h g = (inl (h.0, g, h.1), simp (append_assoc, append-nil))
put_key-sound ps fs (list ts) h g = tt
put_key-sound ps fs (dictionary qs) h g = tt

behind_key : (xs ps key ts : List ℕ) → (xs ++ 100 ∷ ((ps ++ key) ++ ts)) ++ [] ≡ (xs ++ ((100 ∷ ps) ++ key)) ++ ts
behind_key xs ps key ts = simp (append_assoc, append-nil)

-- a whole value
pub put-sound : (fs : List OpenContainer) (t : Tree) → Puts fs t → Sound (put add_pair fs t) (frames_text fs ++ text t)
put-sound [] t h = (h.0, h.1, h.2, refl)
put-sound (in_list ts ∷ fs) t h = (inl (AreSpellable-add_tree ts t h.0.0 h.1, h.0.1), rw (trees_text-add_tree ts t) (simp (append_assoc, append-nil)))
put-sound (at_key ps ∷ fs) t h = put_key-sound ps fs t h.0 h.1
put-sound (at_value ps key ∷ fs) t h = (inr (ArePairs-add_pair ps key t h.0.0 h.0.1 h.1, h.0.2), ap (λ x. (frames_text fs ++ 100 ∷ x) ++ []) (pairs_text-add_pair ps key t) ∙ behind_key (frames_text fs) (pairs_text ps) (string_text key) (text t))

puts_string : (fs : List OpenContainer) (bytes : List ℕ) → TakesValue fs ⊎ TakesKey fs → IsString bytes → Puts fs (string bytes)
puts_string [] bytes (inl h) g = absurd h
puts_string [] bytes (inr h) g = absurd h
puts_string (in_list ts ∷ fs) bytes (inl h) g = (h, g)
puts_string (in_list ts ∷ fs) bytes (inr h) g = absurd h
puts_string (at_key ps ∷ fs) bytes (inl h) g = absurd h
puts_string (at_key ps ∷ fs) bytes (inr h) g = (h, g)
puts_string (at_value ps key ∷ fs) bytes (inl h) g = (h, g)
puts_string (at_value ps key ∷ fs) bytes (inr h) g = absurd h

puts_value : (fs : List OpenContainer) (t : Tree) → TakesValue fs → IsSpellable t → Puts fs t
puts_value [] t h g = absurd h
puts_value (in_list ts ∷ fs) t h g = (h, g)
puts_value (at_key ps ∷ fs) t h g = absurd h
puts_value (at_value ps key ∷ fs) t h g = (h, g)

puts_list : (fs : List OpenContainer) (ts : Trees) → TakesValue (in_list ts ∷ fs) → Puts fs (list ts)
puts_list fs ts h = puts_value fs (list ts) h.1 h.0

puts_dictionary : (fs : List OpenContainer) (ps : TreePairs) → TakesKey (at_key ps ∷ fs) → Puts fs (dictionary ps)
puts_dictionary [] ps h = (ps, refl, h.0)
puts_dictionary (in_list ts ∷ fs) ps h = (h.1, h.0)
puts_dictionary (at_key qs ∷ fs) ps h = absurd h.1
puts_dictionary (at_value qs key ∷ fs) ps h = (h.1, h.0)

-- the end of a frame
close_list : (fs : List OpenContainer) (ts : Trees) → TakesValue (in_list ts ∷ fs) → Sound (close add_pair (in_list ts ∷ fs)) (frames_text (in_list ts ∷ fs) ++ 101 ∷ [])
close_list fs ts h = sound_at (put add_pair fs (list ts)) _ _ (simp append_assoc) (put-sound fs (list ts) (puts_list fs ts h))

close_dictionary : (fs : List OpenContainer) (ps : TreePairs) → TakesKey (at_key ps ∷ fs) → Sound (close add_pair (at_key ps ∷ fs)) (frames_text (at_key ps ∷ fs) ++ 101 ∷ [])
close_dictionary fs ps h = sound_at (put add_pair fs (dictionary ps)) _ _ (simp append_assoc) (put-sound fs (dictionary ps) (puts_dictionary fs ps h))

digit_text : (fs : List OpenContainer) (b d : ℕ) → (b ≡ 48 + d) × (d < 10) → frames_text fs ++ decimal d ≡ frames_text fs ++ b ∷ []
digit_text fs b d h = ap (λ x. frames_text fs ++ x) (decimal_digit d h.1 ∙ ap (λ k. k ∷ []) (sym h.0))

one_byte : (fs : List OpenContainer) (k b : ℕ) → b ≡ k → frames_text fs ++ k ∷ [] ≡ frames_text fs ++ b ∷ []
one_byte fs k b e = ap (λ x. frames_text fs ++ x ∷ []) (sym e)

opened : (fs : List OpenContainer) (k b : ℕ) → b ≡ k → (frames_text fs ++ (k ∷ [])) ++ [] ≡ frames_text fs ++ b ∷ []
opened fs k b e = append-nil (frames_text fs ++ k ∷ []) ∙ one_byte fs k b e

some_frames : (fs : List OpenContainer) → TakesValue fs → IfAny fs (TakesValue fs)
some_frames [] h = tt
some_frames (f ∷ fs) h = h

begin_value-sound : (fs : List OpenContainer) (b : ℕ) (s : Sign) → TakesValue fs → Means b s → Sound (begin_value fs s) (frames_text fs ++ b ∷ [])
begin_value-sound fs b signs.Integer h m = (h, one_byte fs 105 b m)
begin_value-sound fs b signs.List h m = (inl (tt, h), opened fs 108 b m, inl refl)
begin_value-sound fs b signs.Dictionary h m = (inr (tt, some_frames fs h), opened fs 100 b m, inr refl)
begin_value-sound fs b (signs.Digit d) h m = ((inl h, let small = m.1 in omega arith), digit_text fs b d m)
begin_value-sound fs b signs.End h m = tt
begin_value-sound fs b signs.Minus h m = tt
begin_value-sound fs b signs.Colon h m = tt
begin_value-sound fs b signs.Other h m = tt

begin_item-sound : (fs : List OpenContainer) (ts : Trees) (b : ℕ) (s : Sign) → TakesValue (in_list ts ∷ fs) → Means b s
    → Sound (begin_item add_pair (in_list ts ∷ fs) s) (frames_text (in_list ts ∷ fs) ++ b ∷ [])
begin_item-sound fs ts b signs.Integer h m = (h, one_byte (in_list ts ∷ fs) 105 b m)
begin_item-sound fs ts b signs.List h m = (inl (tt, h), opened (in_list ts ∷ fs) 108 b m, inl refl)
begin_item-sound fs ts b signs.Dictionary h m = (inr (tt, h), opened (in_list ts ∷ fs) 100 b m, inr refl)
begin_item-sound fs ts b (signs.Digit d) h m = ((inl h, let small = m.1 in omega arith), digit_text (in_list ts ∷ fs) b d m)
begin_item-sound fs ts b signs.End h m = sound_at (close add_pair (in_list ts ∷ fs)) _ _ (one_byte (in_list ts ∷ fs) 101 b m) (close_list fs ts h)
begin_item-sound fs ts b signs.Minus h m = tt
begin_item-sound fs ts b signs.Colon h m = tt
begin_item-sound fs ts b signs.Other h m = tt

begin_key-sound : (fs : List OpenContainer) (ps : TreePairs) (b : ℕ) (s : Sign) → TakesKey (at_key ps ∷ fs) → Means b s
    → Sound (begin_key add_pair (at_key ps ∷ fs) s) (frames_text (at_key ps ∷ fs) ++ b ∷ [])
begin_key-sound fs ps b (signs.Digit d) h m = ((inr h, let small = m.1 in omega arith), digit_text (at_key ps ∷ fs) b d m)
begin_key-sound fs ps b signs.End h m = sound_at (close add_pair (at_key ps ∷ fs)) _ _ (one_byte (at_key ps ∷ fs) 101 b m) (close_dictionary fs ps h)
begin_key-sound fs ps b signs.Integer h m = tt
begin_key-sound fs ps b signs.List h m = tt
begin_key-sound fs ps b signs.Dictionary h m = tt
begin_key-sound fs ps b signs.Minus h m = tt
begin_key-sound fs ps b signs.Colon h m = tt
begin_key-sound fs ps b signs.Other h m = tt

begin_message-sound : (b : ℕ) (s : Sign) → Means b s → Sound (begin_message [] s) (b ∷ [])
begin_message-sound b signs.Dictionary m = (inr (tt, tt), opened [] 100 b m, inr refl)
begin_message-sound b signs.Integer m = tt
begin_message-sound b signs.List m = tt
begin_message-sound b signs.End m = tt
begin_message-sound b signs.Minus m = tt
begin_message-sound b signs.Colon m = tt
begin_message-sound b (signs.Digit d) m = tt
begin_message-sound b signs.Other m = tt

-- between two tokens
begin-sound : (fs : List OpenContainer) (b : ℕ) → IsCut (cut fs between) → Sound (begin add_pair fs (sign_of b)) (frames_text fs ++ b ∷ [])
begin-sound [] b h = begin_message-sound b (sign_of b) (sign_of-Means b)
begin-sound (in_list ts ∷ fs) b (inl h) = begin_item-sound fs ts b (sign_of b) h (sign_of-Means b)
begin-sound (in_list ts ∷ fs) b (inr h) = absurd h
begin-sound (at_key ps ∷ fs) b (inl h) = absurd h
begin-sound (at_key ps ∷ fs) b (inr h) = begin_key-sound fs ps b (sign_of b) h (sign_of-Means b)
begin-sound (at_value ps key ∷ fs) b (inl h) = begin_value-sound (at_value ps key ∷ fs) b (sign_of b) h (sign_of-Means b)
begin-sound (at_value ps key ∷ fs) b (inr h) = absurd h

unless : (t : Bool) (next : ByteEffect) (bytes : List ℕ) → (t ≡ false → Sound next bytes) → Sound (cond t stuck next) bytes
unless true next bytes f = tt
unless false next bytes f = f refl

where_true : (t : Bool) (next : ByteEffect) (bytes : List ℕ) → (t ≡ true → Sound next bytes) → Sound (cond t next stuck) bytes
where_true true next bytes f = f refl
where_true false next bytes f = tt

either : (t : Bool) (a b : ByteEffect) (bytes : List ℕ) → (t ≡ true → Sound a bytes) → (t ≡ false → Sound b bytes) → Sound (cond t a b) bytes
either true a b bytes f g = f refl
either false a b bytes f g = g refl

above_zero : (n : ℕ) → n == 0 ≡ false → 0 < n
above_zero n e = grind (arith, nat_tests)

within : (n m : ℕ) → nat_le n m ≡ true → n ≤ m
within n m e = grind (arith, nat_tests)

below : (n m : ℕ) → nat_lt n m ≡ true → n < m
below n m e = grind (arith, nat_tests)

integer_open-sound : (fs : List OpenContainer) (b : ℕ) (s : Sign) → TakesValue fs → Means b s → Sound (integer_open fs s) (frames_text fs ++ 105 ∷ b ∷ [])
integer_open-sound fs b signs.Minus h m = (h, ap (λ x. frames_text fs ++ 105 ∷ x ∷ []) (sym m))
integer_open-sound fs b (signs.Digit d) h m = ((h, let small = m.1 in omega arith), ap (λ x. frames_text fs ++ 105 ∷ x) (decimal_digit d m.1 ∙ ap (λ k. k ∷ []) (sym m.0)))
integer_open-sound fs b signs.Integer h m = tt
integer_open-sound fs b signs.List h m = tt
integer_open-sound fs b signs.Dictionary h m = tt
integer_open-sound fs b signs.End h m = tt
integer_open-sound fs b signs.Colon h m = tt
integer_open-sound fs b signs.Other h m = tt

integer_minus-sound : (fs : List OpenContainer) (b : ℕ) (s : Sign) → TakesValue fs → Means b s → Sound (integer_minus fs s) (frames_text fs ++ 105 ∷ 45 ∷ b ∷ [])
integer_minus-sound fs b (signs.Digit d) h m =
    unless (d == 0) (goes fs (digits true d)) _ (λ e. (
      (h, above_zero d e, let small = m.1 in omega arith),
      ap (λ x. frames_text fs ++ 105 ∷ 45 ∷ x) (decimal_digit d m.1 ∙ ap (λ k. k ∷ []) (sym m.0)),
    ))
integer_minus-sound fs b signs.Minus h m = tt
integer_minus-sound fs b signs.Integer h m = tt
integer_minus-sound fs b signs.List h m = tt
integer_minus-sound fs b signs.Dictionary h m = tt
integer_minus-sound fs b signs.End h m = tt
integer_minus-sound fs b signs.Colon h m = tt
integer_minus-sound fs b signs.Other h m = tt

token_more : (negative : Bool) (n d b : ℕ) → 0 < n → (b ≡ 48 + d) × (d < 10) → 10 * n + d ≤ greatest negative
    → token_text (digits negative (10 * n + d)) ≡ token_text (digits negative n) ++ b ∷ []
token_more false n d b some m fits =
    let more = decimal-more n d some m.1 (omega arith) in
    ap (λ x. 105 ∷ x) (more ∙ ap (λ k. decimal n ++ k ∷ []) (sym m.0))
token_more true n d b some m fits =
    let more = decimal-more n d some m.1 (omega arith) in
    ap (λ x. 105 ∷ 45 ∷ x) (more ∙ ap (λ k. decimal n ++ k ∷ []) (sym m.0))

digits_cut : (fs : List OpenContainer) (negative : Bool) (n : ℕ) → TakesValue fs → 0 < n → n ≤ greatest negative → IsCut (cut fs (digits negative n))
digits_cut fs false n h some fits = (h, fits)
digits_cut fs true n h some fits = (h, some, fits)

more_digits-sound : (fs : List OpenContainer) (negative : Bool) (n d b : ℕ) → TakesValue fs → (b ≡ 48 + d) × (d < 10)
    → Sound (more_digits fs negative n d) (frames_text fs ++ (token_text (digits negative n) ++ b ∷ []))
more_digits-sound fs negative n d b h m =
    unless (n == 0) (cond (nat_le (10 * n + d) (greatest negative)) (goes fs (digits negative (10 * n + d))) stuck) _ (λ e.
    where_true (nat_le (10 * n + d) (greatest negative)) (goes fs (digits negative (10 * n + d))) _ (λ f.
    let some : 0 < n = above_zero n e in
    let fits : 10 * n + d ≤ greatest negative = within _ _ f in
    (digits_cut fs negative (10 * n + d) h (omega arith) fits, ap (λ x. frames_text fs ++ x) (token_more negative n d b some m fits))))

signed_text : (negative : Bool) (n : ℕ) → (negative ≡ true → 0 < n) → text (integer (integer_with_sign negative n)) ≡ token_text (digits negative n) ++ 101 ∷ []
signed_text false n h = refl
signed_text true n h = let some : suc (n - 1) ≡ n = let s = h refl in omega arith in ap (λ k. 105 ∷ 45 ∷ (decimal k ++ 101 ∷ [])) some

signed_fits : (negative : Bool) (n : ℕ) → n ≤ greatest negative → (negative ≡ true → 0 < n) → IsInteger (integer_with_sign negative n)
signed_fits false n h g = omega arith
signed_fits true n h g = let some = g refl in omega arith

integer_digits-sound : (fs : List OpenContainer) (negative : Bool) (n b : ℕ) (s : Sign) → TakesValue fs → n ≤ greatest negative → (negative ≡ true → 0 < n) → Means b s
    → Sound (integer_digits add_pair fs negative n s) (frames_text fs ++ (token_text (digits negative n) ++ b ∷ []))
integer_digits-sound fs negative n b signs.End h fits some m =
    sound_at (put add_pair fs (integer (integer_with_sign negative n))) _ _
    (ap (λ x. frames_text fs ++ x) (signed_text negative n some ∙ ap (λ k. token_text (digits negative n) ++ k ∷ []) (sym m)))
    (put-sound fs (integer (integer_with_sign negative n)) (puts_value fs (integer (integer_with_sign negative n)) h (signed_fits negative n fits some)))
integer_digits-sound fs negative n b (signs.Digit d) h fits some m = more_digits-sound fs negative n d b h m
integer_digits-sound fs negative n b signs.Minus h fits some m = tt
integer_digits-sound fs negative n b signs.Integer h fits some m = tt
integer_digits-sound fs negative n b signs.List h fits some m = tt
integer_digits-sound fs negative n b signs.Dictionary h fits some m = tt
integer_digits-sound fs negative n b signs.Colon h fits some m = tt
integer_digits-sound fs negative n b signs.Other h fits some m = tt

more_length-sound : (fs : List OpenContainer) (n d b : ℕ) → TakesValue fs ⊎ TakesKey fs → (b ≡ 48 + d) × (d < 10)
    → Sound (more_length fs n d) (frames_text fs ++ (decimal n ++ b ∷ []))
more_length-sound fs n d b h m =
    unless (n == 0) (cond (nat_lt (10 * n + d) (10 ^ 64)) (goes fs (count (10 * n + d))) stuck) _ (λ e.
    where_true (nat_lt (10 * n + d) (10 ^ 64)) (goes fs (count (10 * n + d))) _ (λ f.
    let some : 0 < n = above_zero n e in
    let fits : 10 * n + d < 10 ^ 64 = below _ _ f in
    let more = decimal-more n d some m.1 (omega arith) in
    ((h, omega arith), ap (λ x. frames_text fs ++ x) (more ∙ ap (λ k. decimal n ++ k ∷ []) (sym m.0)))))

open_string-sound : (fs : List OpenContainer) (n : ℕ) → TakesValue fs ⊎ TakesKey fs → n < 10 ^ 64 → Sound (open_string add_pair fs n) (frames_text fs ++ (decimal n ++ 58 ∷ []))
open_string-sound fs n h fits =
    either (n == 0) (put add_pair fs (string [])) (goes fs (part [] n)) _
    (λ e. let none : n ≡ 0 = grind (arith, nat_tests) in
    sound_at (put add_pair fs (string [])) _ _ (ap (λ x. frames_text fs ++ x) (append-nil (decimal 0 ++ 58 ∷ []) ∙ ap (λ k. decimal k ++ 58 ∷ []) (sym none)))
    (put-sound fs (string []) (puts_string fs [] h (omega arith))))
    (λ e. (
      (h, above_zero n e, let all : 0 + n ≡ n = omega arith in omega arith),
      ap (λ x. frames_text fs ++ x) (append-nil (decimal (0 + n) ++ 58 ∷ []) ∙ (let all : 0 + n ≡ n = omega arith in ap (λ k. decimal k ++ 58 ∷ []) all)),
    ))

length_digits-sound : (fs : List OpenContainer) (n b : ℕ) (s : Sign) → TakesValue fs ⊎ TakesKey fs → n < 10 ^ 64 → Means b s
    → Sound (length_digits add_pair fs n s) (frames_text fs ++ (decimal n ++ b ∷ []))
length_digits-sound fs n b signs.Colon h fits m =
    sound_at (open_string add_pair fs n) _ _ (ap (λ k. frames_text fs ++ (decimal n ++ k ∷ [])) (sym m)) (open_string-sound fs n h fits)
length_digits-sound fs n b (signs.Digit d) h fits m = more_length-sound fs n d b h m
length_digits-sound fs n b signs.Minus h fits m = tt
length_digits-sound fs n b signs.Integer h fits m = tt
length_digits-sound fs n b signs.List h fits m = tt
length_digits-sound fs n b signs.Dictionary h fits m = tt
length_digits-sound fs n b signs.End h fits m = tt
length_digits-sound fs n b signs.Other h fits m = tt

text_bytes-sound : (fs : List OpenContainer) (bytes : List ℕ) (left b : ℕ) → TakesValue fs ⊎ TakesKey fs → 0 < left → length bytes + left < 10 ^ 64
    → Sound (text_bytes add_pair fs bytes left (b ∷ [])) (frames_text fs ++ ((decimal (length bytes + left) ++ 58 ∷ bytes) ++ b ∷ []))
text_bytes-sound fs bytes left b h some fits =
    let long : length (bytes ++ b ∷ []) ≡ length bytes + 1 = length-append bytes (b ∷ []) in
    either (nat_lt 1 left) (goes fs (part (bytes ++ b ∷ []) (left - 1))) (put add_pair fs (string (bytes ++ b ∷ []))) _
    (λ e. let more : 1 < left = grind (arith, nat_tests) in
    let all : length (bytes ++ b ∷ []) + (left - 1) ≡ length bytes + left = omega arith in
    ((h, omega arith, omega arith), ap (λ x. frames_text fs ++ x) (ap (λ k. (decimal k ++ 58 ∷ []) ++ (bytes ++ b ∷ [])) all ∙ simp append_assoc)))
    (λ e. let last : left ≡ 1 = grind (arith, nat_tests) in
    let all : length (bytes ++ b ∷ []) ≡ length bytes + left = omega arith in
    sound_at (put add_pair fs (string (bytes ++ b ∷ []))) _ _
    (ap (λ x. frames_text fs ++ x) (ap (λ k. (decimal k ++ 58 ∷ []) ++ (bytes ++ b ∷ [])) all ∙ simp append_assoc))
    (put-sound fs (string (bytes ++ b ∷ [])) (puts_string fs (bytes ++ b ∷ []) h (omega arith))))

-- a byte behind a cut
pub step-sound : (fs : List OpenContainer) (token : Token) (b : ℕ) → IsCut (cut fs token) → Sound (step_run add_pair fs token (b ∷ [])) (cut_text (cut fs token) ++ b ∷ [])
step-sound fs between b h = sound_at (begin add_pair fs (sign_of b)) _ _ (ap (λ x. x ++ b ∷ []) (sym (append-nil (frames_text fs)))) (begin-sound fs b h)
step-sound fs after_i b h = sound_at (integer_open fs (sign_of b)) _ _ (sym (append_assoc (frames_text fs) (105 ∷ []) (b ∷ []))) (integer_open-sound fs b (sign_of b) h (sign_of-Means b))
step-sound fs after_minus b h = sound_at (integer_minus fs (sign_of b)) _ _ (sym (append_assoc (frames_text fs) (105 ∷ 45 ∷ []) (b ∷ []))) (integer_minus-sound fs b (sign_of b) h (sign_of-Means b))
step-sound fs (digits false n) b h =
    sound_at (integer_digits add_pair fs false n (sign_of b)) _ _ (sym (append_assoc (frames_text fs) (token_text (digits false n)) (b ∷ [])))
    (integer_digits-sound fs false n b (sign_of b) h.0 h.1 (λ e. absurd (cc)) (sign_of-Means b))
step-sound fs (digits true n) b h =
    sound_at (integer_digits add_pair fs true n (sign_of b)) _ _ (sym (append_assoc (frames_text fs) (token_text (digits true n)) (b ∷ [])))
    (integer_digits-sound fs true n b (sign_of b) h.0 h.2 (λ e. h.1) (sign_of-Means b))
step-sound fs (count n) b h =
    sound_at (length_digits add_pair fs n (sign_of b)) _ _ (sym (append_assoc (frames_text fs) (decimal n) (b ∷ []))) (length_digits-sound fs n b (sign_of b) h.0 h.1 (sign_of-Means b))
step-sound fs (part bytes left) b h =
    sound_at (text_bytes add_pair fs bytes left (b ∷ [])) _ _ (simp append_assoc) (text_bytes-sound fs bytes left b h.0 h.1 h.2)
