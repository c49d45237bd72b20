-- No text is a proper prefix of another: where two texts begin the same bytes, the values are the same.
use Rattle.std.proofs.Common.{◌≡◌, ℕ, suc, ◌+◌, ◌%◌, ◌^◌, ◌<◌, ◌≤◌, ℤ, pos, negsuc, List, [], ◌∷◌, ◌++◌, length, decimal, refl, sym, ap, ◌∙◌, append_assoc, length-append, arith}
use Rattle.std.specs.Fmt.{signed_decimal}
use Rattle.std.proofs.lemmas.Fmt.{decimal_by_steps_wide, decimal_is_IsNumeral_wide}
use Rattle.std.specs.Str.Parse.{digits_value}
use Rattle.bencode_wire.specs.Tree.{Tree, integer, string, list, dictionary, Trees, no_trees, tree, TreePairs, no_pairs, pair}
use Rattle.bencode_wire.specs.Spelling.{text, trees_text, pairs_text, string_text, IsInteger, IsString, IsSpellable, AreSpellable, ArePairs}

abbrev AreDigits : List ℕ → Type 0
AreDigits [] = Unit {0}
AreDigits (b ∷ bs) = (48 ≤ b) × (b < 58) × AreDigits bs

AreDigits-more : (ds : List ℕ) (d : ℕ) → AreDigits ds → d < 10 → AreDigits (ds ++ (48 + d) ∷ [])
AreDigits-more [] d h small = (omega arith, omega arith, tt)
AreDigits-more (b ∷ bs) d h small = (h.0, h.1, AreDigits-more bs d h.2 small)

abbrev IsNumber : List ℕ → Type 0
IsNumber ds = AreDigits ds × (0 < length ds)

decimal_IsNumber : (n : ℕ) → n < 10 ^ 64 → IsNumber (decimal n)
decimal_IsNumber = decimal_by_steps_wide (λ n ds. IsNumber ds)
    (λ n small. ((omega arith, omega arith, tt), omega arith))
    (λ n ds big h. (AreDigits-more ds (n % 10) h.0 (omega arith), let long = length-append ds ((48 + n % 10) ∷ []) in omega arith))

decimal_same : (m n : ℕ) → m < 10 ^ 64 → n < 10 ^ 64 → decimal m ≡ decimal n → m ≡ n
decimal_same m n p q e = sym (decimal_is_IsNumeral_wide m p).1 ∙ ap (digits_value 10) e ∙ (decimal_is_IsNumeral_wide n q).1

tail_same : (a b : ℕ) (xs ys : List ℕ) → a ∷ xs ≡ b ∷ ys → xs ≡ ys
tail_same a b xs ys e = cc

head_same : (a b : ℕ) (xs ys : List ℕ) → a ∷ xs ≡ b ∷ ys → a ≡ b
head_same a b xs ys e = cc

-- digits end at the first byte that is none
digits_same : (ds es x y : List ℕ) (s : ℕ) → AreDigits ds → AreDigits es → 58 ≤ s → ds ++ s ∷ x ≡ es ++ s ∷ y → (ds ≡ es) × (x ≡ y)
digits_same [] [] x y s g h over e = (refl, tail_same s s x y e)
digits_same [] (b ∷ es) x y s g h over e = let same = head_same s b x (es ++ s ∷ y) e in let low = h.1 in absurd (omega arith)
digits_same (a ∷ ds) [] x y s g h over e = let same = head_same a s (ds ++ s ∷ x) y e in let low = g.1 in absurd (omega arith)
digits_same (a ∷ ds) (b ∷ es) x y s g h over e =
    let same = digits_same ds es x y s g.2 h.2 over (tail_same a b (ds ++ s ∷ x) (es ++ s ∷ y) e) in
    let first = head_same a b (ds ++ s ∷ x) (es ++ s ∷ y) e in
    let rest = same.0 in
    (cc, same.1)

-- the first byte of digits
first_digit : (ds r z : List ℕ) (c : ℕ) → IsNumber ds → ds ++ r ≡ c ∷ z → (48 ≤ c) × (c < 58)
first_digit [] r z c h e = let some = h.1 in absurd (omega arith)
first_digit (b ∷ ds) r z c h e =
    let same = head_same b c (ds ++ r) z e in
    let low = h.0.0 in
    let high = h.0.1 in
    (omega arith, omega arith)

front_same : (p q x y : List ℕ) → length p ≡ length q → p ++ x ≡ q ++ y → (p ≡ q) × (x ≡ y)
front_same [] [] x y l e = (refl, e)
front_same [] (b ∷ q) x y l e = absurd (omega arith)
front_same (a ∷ p) [] x y l e = absurd (omega arith)
front_same (a ∷ p) (b ∷ q) x y l e =
    let same = front_same p q x y (omega arith) (tail_same a b (p ++ x) (q ++ y) e) in
    let first = head_same a b (p ++ x) (q ++ y) e in
    let rest = same.0 in
    (cc, same.1)

string_grouped : (p x : List ℕ) → string_text p ++ x ≡ decimal (length p) ++ 58 ∷ (p ++ x)
string_grouped p x = append_assoc (decimal (length p) ++ 58 ∷ []) p x ∙ append_assoc (decimal (length p)) (58 ∷ []) (p ++ x)

pub string_same : (p q x y : List ℕ) → IsString p → IsString q → string_text p ++ x ≡ string_text q ++ y → (p ≡ q) × (x ≡ y)
string_same p q x y g h e =
    let same = digits_same (decimal (length p)) (decimal (length q)) (p ++ x) (q ++ y) 58 (decimal_IsNumber (length p) g).0 (decimal_IsNumber (length q) h).0 (omega arith)
    (sym (string_grouped p x) ∙ e ∙ string_grouped q y) in
    front_same p q x y (decimal_same (length p) (length q) g h same.0) same.1

string_first : (p x z : List ℕ) (c : ℕ) → IsString p → string_text p ++ x ≡ c ∷ z → (48 ≤ c) × (c < 58)
string_first p x z c g e = first_digit (decimal (length p)) (58 ∷ (p ++ x)) z c (decimal_IsNumber (length p) g) (sym (string_grouped p x) ∙ e)

-- an integer's digits, behind `i`
signed_grouped : (n : ℤ) (x : List ℕ) → (signed_decimal n ++ 101 ∷ []) ++ x ≡ signed_decimal n ++ 101 ∷ x
signed_grouped n x = append_assoc (signed_decimal n) (101 ∷ []) x

signed_same : (n m : ℤ) (x y : List ℕ) → IsInteger n → IsInteger m → signed_decimal n ++ 101 ∷ x ≡ signed_decimal m ++ 101 ∷ y → (n ≡ m) × (x ≡ y)
signed_same (pos n) (pos m) x y g h e =
    let same = digits_same (decimal n) (decimal m) x y 101 (decimal_IsNumber n (omega arith)).0 (decimal_IsNumber m (omega arith)).0 (omega arith) e in
    (ap pos (decimal_same n m (omega arith) (omega arith) same.0), same.1)
signed_same (pos n) (negsuc m) x y g h e =
    let first = first_digit (decimal n) (101 ∷ x) (decimal (suc m) ++ 101 ∷ y) 45 (decimal_IsNumber n (omega arith)) e in
    let low = first.0 in absurd (omega arith)
signed_same (negsuc n) (pos m) x y g h e =
    let first = first_digit (decimal m) (101 ∷ y) (decimal (suc n) ++ 101 ∷ x) 45 (decimal_IsNumber m (omega arith)) (sym e) in
    let low = first.0 in absurd (omega arith)
signed_same (negsuc n) (negsuc m) x y g h e =
    let same = digits_same (decimal (suc n)) (decimal (suc m)) x y 101 (decimal_IsNumber (suc n) (omega arith)).0 (decimal_IsNumber (suc m) (omega arith)).0 (omega arith)
    (tail_same 45 45 (decimal (suc n) ++ 101 ∷ x) (decimal (suc m) ++ 101 ∷ y) e) in
    let by : suc n ≡ suc m = decimal_same (suc n) (suc m) (omega arith) (omega arith) same.0 in
    let back : n ≡ m = omega arith in
    (ap negsuc back, same.1)

-- a value begins with no `e`
begins_otherwise : (t : Tree) (r z : List ℕ) → IsSpellable t → text t ++ r ≡ 101 ∷ z → ⊥
begins_otherwise (integer n) r z h e = let first = head_same 105 101 _ z e in absurd (omega arith)
begins_otherwise (string s) r z h e = let first = string_first s r z 101 h e in let high = first.1 in absurd (omega arith)
begins_otherwise (list ts) r z h e = let first = head_same 108 101 _ z e in absurd (omega arith)
begins_otherwise (dictionary ps) r z h e = let first = head_same 100 101 _ z e in absurd (omega arith)

inner_grouped : (inner x : List ℕ) → (inner ++ 101 ∷ []) ++ x ≡ inner ++ 101 ∷ x
inner_grouped inner x = append_assoc inner (101 ∷ []) x

pair_grouped : (k : List ℕ) (t : Tree) (ps : TreePairs) (x : List ℕ)
    → (string_text k ++ text t ++ pairs_text ps) ++ 101 ∷ x ≡ string_text k ++ (text t ++ (pairs_text ps ++ 101 ∷ x))
pair_grouped k t ps x =
    append_assoc (string_text k ++ text t) (pairs_text ps) (101 ∷ x) ∙ append_assoc (string_text k) (text t) (pairs_text ps ++ 101 ∷ x)

mutual
  pub text_same : (v w : Tree) (x y : List ℕ) → IsSpellable v → IsSpellable w → text v ++ x ≡ text w ++ y → (v ≡ w) × (x ≡ y)
  text_same (integer n) (integer m) x y g h e =
      let same = signed_same n m x y g h (sym (signed_grouped n x) ∙ tail_same 105 105 _ _ e ∙ signed_grouped m y) in (ap integer same.0, same.1)
  text_same (integer n) (string s) x y g h e = let first = string_first s y _ 105 h (sym e) in let high = first.1 in absurd (omega arith)
  text_same (integer n) (list ts) x y g h e = let first = head_same 105 108 _ _ e in absurd (omega arith)
  text_same (integer n) (dictionary ps) x y g h e = let first = head_same 105 100 _ _ e in absurd (omega arith)
  text_same (string r) (integer m) x y g h e = let first = string_first r x _ 105 g e in let high = first.1 in absurd (omega arith)
  text_same (string r) (string s) x y g h e = let same = string_same r s x y g h e in (ap string same.0, same.1)
  text_same (string r) (list ts) x y g h e = let first = string_first r x _ 108 g e in let high = first.1 in absurd (omega arith)
  text_same (string r) (dictionary ps) x y g h e = let first = string_first r x _ 100 g e in let high = first.1 in absurd (omega arith)
  text_same (list us) (integer m) x y g h e = let first = head_same 108 105 _ _ e in absurd (omega arith)
  text_same (list us) (string s) x y g h e = let first = string_first s y _ 108 h (sym e) in let high = first.1 in absurd (omega arith)
  text_same (list us) (list ts) x y g h e =
      let same = trees_same us ts x y g h (sym (inner_grouped (trees_text us) x) ∙ tail_same 108 108 _ _ e ∙ inner_grouped (trees_text ts) y) in (ap list same.0, same.1)
  text_same (list us) (dictionary ps) x y g h e = let first = head_same 108 100 _ _ e in absurd (omega arith)
  text_same (dictionary qs) (integer m) x y g h e = let first = head_same 100 105 _ _ e in absurd (omega arith)
  text_same (dictionary qs) (string s) x y g h e = let first = string_first s y _ 100 h (sym e) in let high = first.1 in absurd (omega arith)
  text_same (dictionary qs) (list ts) x y g h e = let first = head_same 100 108 _ _ e in absurd (omega arith)
  text_same (dictionary qs) (dictionary ps) x y g h e =
      let same = pairs_same qs ps x y g h (sym (inner_grouped (pairs_text qs) x) ∙ tail_same 100 100 _ _ e ∙ inner_grouped (pairs_text ps) y) in (ap dictionary same.0, same.1)

  trees_same : (us ts : Trees) (x y : List ℕ) → AreSpellable us → AreSpellable ts → trees_text us ++ 101 ∷ x ≡ trees_text ts ++ 101 ∷ y → (us ≡ ts) × (x ≡ y)
  trees_same no_trees no_trees x y g h e = (refl, tail_same 101 101 x y e)
  trees_same no_trees (tree t ts) x y g h e = absurd (begins_otherwise t (trees_text ts ++ 101 ∷ y) x h.0 (sym (e ∙ append_assoc (text t) (trees_text ts) (101 ∷ y))))
  trees_same (tree u us) no_trees x y g h e = absurd (begins_otherwise u (trees_text us ++ 101 ∷ x) y g.0 (sym (append_assoc (text u) (trees_text us) (101 ∷ x)) ∙ e))
  trees_same (tree u us) (tree t ts) x y g h e =
      let first = text_same u t (trees_text us ++ 101 ∷ x) (trees_text ts ++ 101 ∷ y) g.0 h.0
      (sym (append_assoc (text u) (trees_text us) (101 ∷ x)) ∙ e ∙ append_assoc (text t) (trees_text ts) (101 ∷ y)) in
      let more = trees_same us ts x y g.1 h.1 first.1 in
      (ap (λ a. tree a us) first.0 ∙ ap (λ b. tree t b) more.0, more.1)

  pairs_same : (qs ps : TreePairs) (x y : List ℕ) → ArePairs qs → ArePairs ps → pairs_text qs ++ 101 ∷ x ≡ pairs_text ps ++ 101 ∷ y → (qs ≡ ps) × (x ≡ y)
  pairs_same no_pairs no_pairs x y g h e = (refl, tail_same 101 101 x y e)
  pairs_same no_pairs (pair k t ps) x y g h e =
      let first = string_first k (text t ++ (pairs_text ps ++ 101 ∷ y)) x 101 h.0 (sym (e ∙ pair_grouped k t ps y)) in
      let high = first.1 in absurd (omega arith)
  pairs_same (pair l u qs) no_pairs x y g h e =
      let first = string_first l (text u ++ (pairs_text qs ++ 101 ∷ x)) y 101 g.0 (sym (pair_grouped l u qs x) ∙ e) in
      let high = first.1 in absurd (omega arith)
  pairs_same (pair l u qs) (pair k t ps) x y g h e =
      let key = string_same l k (text u ++ (pairs_text qs ++ 101 ∷ x)) (text t ++ (pairs_text ps ++ 101 ∷ y)) g.0 h.0 (sym (pair_grouped l u qs x) ∙ e ∙ pair_grouped k t ps y) in
      let value = text_same u t (pairs_text qs ++ 101 ∷ x) (pairs_text ps ++ 101 ∷ y) g.1 h.1 key.1 in
      let more = pairs_same qs ps x y g.2 h.2 value.1 in
      (ap (λ a. pair a u qs) key.0 ∙ ap (λ b. pair k b qs) value.0 ∙ ap (λ c. pair k t c) more.0, more.1)
