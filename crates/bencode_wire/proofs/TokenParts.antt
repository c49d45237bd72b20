-- What has come of a token: the bytes behind the last place between two tokens.
use Rattle.std.proofs.Common.{◌≡◌, ℕ, ◌+◌, ◌-◌, ◌/◌, ◌%◌, ◌^◌, ◌<◌, ◌≤◌, ◌⊎◌, inl, inr, true, false}
use Rattle.std.proofs.Common.{List, [], ◌∷◌, ◌++◌, length, decimal, refl, sym, ap, ◌∙◌, subst}
use Rattle.std.proofs.Common.{append-nil, length-append, arith}
use Rattle.std.proofs.lemmas.Fmt.{decimal_digit, decimal_step_wide, decimal_by_steps_wide}
use Rattle.bencode_wire.specs.Tree.{Tree, no_trees, tree, no_pairs, pair}
use Rattle.bencode_wire.specs.TokenPart.{IsBetweenTokens, HoldsOfToken}
use Rattle.bencode_wire.specs.Stream.{rest, Streams}
use Rattle.bencode_wire.specs.Inside.Cut.{OpenContainer, in_list, at_key, at_value, Token, between, after_i}
use Rattle.bencode_wire.specs.Inside.Cut.{after_minus, digits, count, part, Cut, cut, frames_text, token_text}
use Rattle.bencode_wire.specs.Inside.Cut.{cut_text, IsCut, sorted_cut}
use Rattle.bencode_wire.specs.Inside.Beginnings.{goes}
use Rattle.bencode_wire.specs.Inside.Decoder.{ready_of, held_of, rest_size, bytes_read, fault_of, Shows}
use Rattle.bencode_wire.specs.Inside.Decoder.{DecoderStands}
use Rattle.bencode_wire.specs.Inside.Reader.{token_view}
use Rattle.bencode_wire.specs.declared.decoder.Decoder.{Decoder}
use Rattle.bencode_wire.proofs.Awaits.{FramesBehind, frames_behind, string_awaited}
use Rattle.bencode_wire.proofs.Complete.{Takes, resting, between_in, next_of, run-frames, run-cut, if_any}
use Rattle.bencode_wire.proofs.Kept.{split_last}
use Rattle.bencode_wire.proofs.Unique.{streams_same}
use Rattle.bencode_wire.proofs.Verdicts.{read}

-- Where bytes break off in two ways

split_more : (xs ys x y : List ℕ) (a b : ℕ) → b ≡ a → ((z : List ℕ) × (xs ≡ x ++ z)) ⊎ ((z : List ℕ) × (0 < length z) × (x ≡ xs ++ z) × (ys ≡ z ++ y))
    → ((z : List ℕ) × (b ∷ xs ≡ a ∷ (x ++ z))) ⊎ ((z : List ℕ) × (0 < length z) × (a ∷ x ≡ b ∷ (xs ++ z)) × (ys ≡ z ++ y))
split_more xs ys x y a b e (inl h) = inl (h.0, cc)
split_more xs ys x y a b e (inr h) = inr (h.0, h.1, cc, h.3)

split_at : (xs ys x y : List ℕ) → xs ++ ys ≡ x ++ y → ((z : List ℕ) × (xs ≡ x ++ z)) ⊎ ((z : List ℕ) × (0 < length z) × (x ≡ xs ++ z) × (ys ≡ z ++ y))
split_at xs ys [] y e = inl (xs, refl)
split_at [] ys (a ∷ x) y e = inr (a ∷ x, omega arith, refl, e)
split_at (b ∷ xs) ys (a ∷ x) y e = split_more xs ys x y a b (cc) (split_at xs ys x y (cc))

-- The first digits of a number

record FirstDigits (n : ℕ) (x : List ℕ) : Type 0 where
  pub number : ℕ
  pub is : decimal number ≡ x
  pub within : number ≤ n
  pub some : 0 < n → 0 < number

one_digit : (n : ℕ) → n < 10 → (x y : List ℕ) → (48 + n) ∷ [] ≡ x ++ y → 0 < length x → FirstDigits n x
one_digit n small [] y e some = absurd (omega arith)
one_digit n small (a ∷ []) y e some = record { number = n; is = decimal_digit n small ∙ (cc); within = omega arith; some = λ h. h }
one_digit n small (a ∷ b ∷ x) y e some = absurd (cc)

abbrev StartsWithDigits : ℕ → List ℕ → Type 0
StartsWithDigits n ds = n < 10 ^ 64 → (ds ≡ decimal n) × ((x y : List ℕ) → ds ≡ x ++ y → 0 < length x → FirstDigits n x)

more_digits : (n : ℕ) (ds : List ℕ) → 10 ≤ n → n < 10 ^ 64 → StartsWithDigits (n / 10) ds → (x y : List ℕ) → ds ++ (48 + n % 10) ∷ [] ≡ x ++ y → 0 < length x → FirstDigits n x
more_digits n ds big fits before x y e some =
    let h = before (omega arith) in
    elim (split_last ds x y (48 + n % 10) e) [
      | inl p ↦ record { number = n; is = decimal_step_wide n big fits ∙ ap (λ d. d ++ (48 + n % 10) ∷ []) (sym h.0) ∙ sym p; within = omega arith; some = λ g. g }
      | inr p ↦ (let r = h.1 x p.0 p.1 some in let w = r.within in let s = r.some in record { number = r.number; is = r.is; within = omega arith; some = λ g. s (omega arith) })
    ]

first_digits : (n : ℕ) → n < 10 ^ 64 → (x y : List ℕ) → decimal n ≡ x ++ y → 0 < length x → FirstDigits n x
first_digits n fits =
    (decimal_by_steps_wide StartsWithDigits (λ n small fits. (sym (decimal_digit n small), one_digit n small))
    (λ n ds big before fits. (ap (λ d. d ++ (48 + n % 10) ∷ []) (before (omega arith)).0 ∙ sym (decimal_step_wide n big fits), more_digits n ds big fits before)) n fits fits).1

-- The first bytes of a token

abbrev IsOpen : Token → Type 0
IsOpen between = ⊥
IsOpen after_i = Unit {0}
IsOpen after_minus = Unit {0}
IsOpen (digits negative n) = Unit {0}
IsOpen (count n) = Unit {0}
IsOpen (part bytes left) = Unit {0}

record FirstBytes (fs : List OpenContainer) (x : List ℕ) : Type 0 where
  pub token : Token
  pub is_open : IsOpen token
  pub is : IsCut (cut fs token)
  pub text : token_text token ≡ x

first_of_string : (fs : List OpenContainer) (bytes : List ℕ) (left : ℕ) → Takes fs → 0 < left → length bytes + left < 10 ^ 64
    → (x y : List ℕ) → token_text (part bytes left) ≡ x ++ y → 0 < length x → FirstBytes fs x
first_of_string fs bytes left h some fits x y e long =
    let n = length bytes + left in
    elim (split_at (decimal n ++ 58 ∷ []) bytes x y e) [
      | inl p ↦ elim (split_last (decimal n) x p.0 58 p.1) [
        | inl q ↦ (
            let none : 0 + n ≡ n = omega arith in
            record {
              token = part [] n;
              is_open = tt;
              is = (h, omega arith, omega arith);
              text = append-nil (decimal (0 + n) ++ 58 ∷ []) ∙ ap (λ k. decimal k ++ 58 ∷ []) none ∙ sym q;
            })
        | inr q ↦ (let r = first_digits n fits x q.0 q.1 long in let w = r.within in record { token = count r.number; is_open = tt; is = (h, omega arith); text = r.is })
      ]
      | inr p ↦ (
          let size : length bytes ≡ length p.0 + length y = ap length p.3 ∙ length-append p.0 y in
          let all : length p.0 + (n - length p.0) ≡ n = omega arith in
          record {
            token = part p.0 (n - length p.0);
            is_open = tt;
            is = (h, omega arith, omega arith);
            text = ap (λ k. (decimal k ++ 58 ∷ []) ++ p.0) all ∙ sym p.2;
          })
    ]

first_bytes : (fs : List OpenContainer) (token : Token) → IsCut (cut fs token) → (x y : List ℕ) → token_text token ≡ x ++ y → 0 < length x → FirstBytes fs x
first_bytes fs token h [] y e some = absurd (omega arith)
first_bytes fs between h (a ∷ x) y e some = absurd (cc)
first_bytes fs after_i h (a ∷ []) y e some = record { token = after_i; is_open = tt; is = h; text = cc }
first_bytes fs after_i h (a ∷ b ∷ x) y e some = absurd (cc)
first_bytes fs after_minus h (a ∷ []) y e some = record { token = after_i; is_open = tt; is = h; text = cc }
first_bytes fs after_minus h (a ∷ b ∷ []) y e some = record { token = after_minus; is_open = tt; is = h; text = cc }
first_bytes fs after_minus h (a ∷ b ∷ c ∷ x) y e some = absurd (cc)
first_bytes fs (digits false n) h (a ∷ []) y e some = record { token = after_i; is_open = tt; is = h.0; text = cc }
first_bytes fs (digits false n) h (a ∷ b ∷ x) y e some =
    let fits = h.1 in
    let r = first_digits n (omega arith) (b ∷ x) y (cc) (omega arith) in
    let w = r.within in
    let is = r.is in
    record { token = digits false r.number; is_open = tt; is = (h.0, omega arith); text = cc }
first_bytes fs (digits true n) h (a ∷ []) y e some = record { token = after_i; is_open = tt; is = h.0; text = cc }
first_bytes fs (digits true n) h (a ∷ b ∷ []) y e some = record { token = after_minus; is_open = tt; is = h.0; text = cc }
first_bytes fs (digits true n) h (a ∷ b ∷ c ∷ x) y e some =
    let fits = h.2 in
    let r = first_digits n (omega arith) (c ∷ x) y (cc) (omega arith) in
    let w = r.within in
    let is = r.is in
    record { token = digits true r.number; is_open = tt; is = (h.0, r.some h.1, omega arith); text = cc }
first_bytes fs (count n) h (a ∷ x) y e some =
    let fits = h.1 in
    let r = first_digits n fits (a ∷ x) y e some in
    let w = r.within in
    record { token = count r.number; is_open = tt; is = (h.0, omega arith); text = r.is }
first_bytes fs (part bytes left) h (a ∷ x) y e some = first_of_string fs bytes left h.0 h.1 h.2 (a ∷ x) y e some

-- No place among them is between two tokens

goes_open : (fs : List OpenContainer) (token : Token) → IsOpen token → next_of (cut fs token) ≡ goes fs token
goes_open fs between h = absurd h
goes_open fs after_i h = refl
goes_open fs after_minus h = refl
goes_open fs (digits negative n) h = refl
goes_open fs (count n) h = refl
goes_open fs (part bytes left) h = refl

not_between : (fs gs : List OpenContainer) (token : Token) → IsOpen token → goes gs between ≡ goes fs token → ⊥
not_between fs gs token h e = let is : between ≡ token = cc in subst IsOpen (sym is) h

not_resting : (fs gs : List OpenContainer) (f : OpenContainer) (token : Token) → IsOpen token → resting f gs ≡ goes fs token → ⊥
not_resting fs gs (in_list no_trees) token h e = absurd (cc)
not_resting fs gs (in_list (tree t ts)) token h e = not_between fs (in_list (tree t ts) ∷ gs) token h e
not_resting fs gs (at_key no_pairs) token h e = absurd (cc)
not_resting fs gs (at_key (pair k t ps)) token h e = not_between fs (at_key (pair k t ps) ∷ gs) token h e
not_resting fs gs (at_value ps key) token h e = absurd (cc)

not_open : (fs gs : List OpenContainer) (token : Token) → IsOpen token → between_in gs ≡ goes fs token → ⊥
not_open fs [] token h e = not_between fs [] token h e
not_open fs (f ∷ gs) token h e = not_resting fs gs f token h e

none_among : (fs : List OpenContainer) (other z : List ℕ) → FramesBehind other → other ≡ frames_text fs ++ z → FirstBytes fs z → ⊥
none_among fs other z r e p =
    let here : between_in r.frames ≡ read other = sym (run-frames r.frames (if_any r.frames r.takes)) ∙ ap read r.text in
    let there : read other ≡ next_of (cut fs p.token) = ap read e ∙ ap (λ x. read (frames_text fs ++ x)) (sym p.text) ∙ run-cut (cut fs p.token) p.is in
    not_open fs r.frames p.token p.is_open (here ∙ there ∙ goes_open fs p.token p.is_open)

last_place : (fs : List OpenContainer) (token : Token) (other more : List ℕ) → IsCut (cut fs token) → IsBetweenTokens other → frames_text fs ++ token_text token ≡ other ++ more
    → length other ≤ length (frames_text fs)
last_place fs token other more h (inl none) e = let size = ap length none in omega arith
last_place fs token other more h (inr a) e =
    elim (split_at (frames_text fs) (token_text token) other more e) [
      | inl p ↦ (let size = ap length p.1 in let all = length-append other p.0 in omega arith)
      | inr p ↦ absurd (none_among fs other p.0 (frames_behind other a) p.2 (first_bytes fs token h p.0 more p.3 p.1))
    ]

between_tokens : (fs : List OpenContainer) (token : Token) → IsCut (cut fs token) → IsBetweenTokens (frames_text fs)
between_tokens [] between h = inl refl
between_tokens (f ∷ fs) between h = inr (string_awaited (f ∷ fs) h)
between_tokens fs after_i h = inr (string_awaited fs (inl h))
between_tokens fs after_minus h = inr (string_awaited fs (inl h))
between_tokens fs (digits false n) h = inr (string_awaited fs (inl h.0))
between_tokens fs (digits true n) h = inr (string_awaited fs (inl h.0))
between_tokens fs (count n) h = inr (string_awaited fs h.0)
between_tokens fs (part bytes left) h = inr (string_awaited fs h.0)

holds_of_token : (fs : List OpenContainer) (token : Token) (m : List ℕ) → IsCut (cut fs token) → cut_text (cut fs token) ≡ m → HoldsOfToken m (length (token_text token))
holds_of_token fs token m h e = (
  frames_text fs,
  token_text token,
  between_tokens fs token h,
  sym e,
  refl,
  λ other more b s. last_place fs token other more h b (e ∙ s),
)

-- What a decoder holds of a token

held_as : (c : Cut) (fs : List OpenContainer) (token : Token) (m : List ℕ) → IsCut c → cut_text c ≡ m → cut fs token ≡ sorted_cut c → HoldsOfToken m (length (token_text token))
held_as (cut gs t) fs token m h e same =
    let held : token ≡ t = cc in
    subst (λ t. HoldsOfToken m (length (token_text t))) (sym held) (holds_of_token gs t m h e)

-- of the bytes of a stream that a decoder stands for
abbrev pub HoldsSoMany : Decoder → ℕ → Type 0
HoldsSoMany d n = (limit : ℕ) (all : List ℕ) (taken : List Tree) (m : List ℕ) → DecoderStands limit d all taken → Streams limit 0 all (taken ++ ready_of d) (rest m) → HoldsOfToken m n

-- what it answers is so many
pub held_stands : (n : ℕ) (d : Decoder) → n ≡ length (token_text (token_view d.reader.string.items d.reader.token)) → HoldsSoMany d n
held_stands n d size limit all taken m s h =
    let same = (streams_same limit all (taken ++ ready_of d) (taken ++ ready_of d) s.end (rest m) s.streams h).1 in
    let shows : Shows (held_of d) (rest_size d) (bytes_read d) (fault_of d) all (rest m) =
    subst (λ e. Shows (held_of d) (rest_size d) (bytes_read d) (fault_of d) all e) same s.shows in
    let come = shows.1 in
    subst (λ k. HoldsOfToken m k) (sym size) (held_as come.cut _ _ m come.is_cut come.text come.sorted)
