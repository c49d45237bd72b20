-- Each cut is the front of a message's text.
use Rattle.std.proofs.Common.{◌≡◌, ℕ, suc, ◌+◌, ◌-◌, ◌<◌, ◌^◌, ◌⊎◌, inl, inr, true, false, ℤ, pos, negsuc, List, [], ◌∷◌, ◌++◌, length, decimal, refl, sym, ap, ◌∙◌, append_assoc, append-nil, length-append, arith}
use Rattle.std.proofs.lemmas.List.{length-replicate}
use Rattle.std.proofs.lemmas.Fmt.{decimal_digit}
use Rattle.std.proofs.Math.ListN.{replicate}
use Rattle.bencode_wire.specs.Tree.{Tree, integer, string, list, dictionary, no_trees, TreePairs, no_pairs, add_tree, add_pair}
use Rattle.bencode_wire.specs.Spelling.{text, trees_text, pairs_text, string_text, integer_text, IsInteger, IsString, IsSpellable, ArePairs}
use Rattle.bencode_wire.specs.Inside.Cut.{OpenContainer, in_list, at_key, at_value, between, after_i, after_minus, digits, count, part, Cut, cut, frames_text, cut_text, IfAny, TakesValue, TakesKey, IsCut}
use Rattle.bencode_wire.proofs.Sound.{pairs_text-add_pair, trees_text-add_tree, ArePairs-add_pair, AreSpellable-add_tree}

-- bytes that are less than a message
abbrev pub IsFront : List ℕ → Type 0
IsFront m = (ps : TreePairs) × (b : ℕ) × (more : List ℕ) × ArePairs ps × (text (dictionary ps) ≡ m ++ b ∷ more)

-- bytes with which a message ends
abbrev Ends : List ℕ → Type 0
Ends m = (ps : TreePairs) × (more : List ℕ) × ArePairs ps × (text (dictionary ps) ≡ m ++ more)

ends_at : (m n x : List ℕ) → m ≡ n ++ x → Ends m → Ends n
ends_at m n x e h = (h.0, x ++ h.1, h.2, h.3 ∙ ap (λ y. y ++ h.1) e ∙ append_assoc n x h.1)

inner_list : (xs ts t : List ℕ) → xs ++ (108 ∷ ((ts ++ t) ++ 101 ∷ [])) ≡ ((xs ++ 108 ∷ ts) ++ t) ++ 101 ∷ []
inner_list xs ts t = simp append_assoc

inner_pair : (xs ps key t : List ℕ) → xs ++ (100 ∷ (((ps ++ key) ++ t) ++ 101 ∷ [])) ≡ ((xs ++ ((100 ∷ ps) ++ key)) ++ t) ++ 101 ∷ []
inner_pair xs ps key t = simp append_assoc

inner_dictionary : (xs ps : List ℕ) → xs ++ (100 ∷ (ps ++ 101 ∷ [])) ≡ (xs ++ 100 ∷ ps) ++ 101 ∷ []
inner_dictionary xs ps = simp append_assoc

-- a value that is whole in its frames
close_value : (fs : List OpenContainer) (t : Tree) → TakesValue fs → IsSpellable t → Ends (frames_text fs ++ text t)
close_value [] t h g = absurd h
close_value (in_list ts ∷ fs) t h g =
    ends_at (frames_text fs ++ text (list (add_tree ts t))) (frames_text (in_list ts ∷ fs) ++ text t) (101 ∷ [])
    (ap (λ x. frames_text fs ++ (108 ∷ (x ++ 101 ∷ []))) (trees_text-add_tree ts t) ∙ inner_list (frames_text fs) (trees_text ts) (text t))
    (close_value fs (list (add_tree ts t)) h.1 (AreSpellable-add_tree ts t h.0 g))
close_value (at_key ps ∷ fs) t h g = absurd h
close_value (at_value ps key ∷ []) t h g =
    ends_at (text (dictionary (add_pair ps key t))) (frames_text (at_value ps key ∷ []) ++ text t) (101 ∷ [])
    (ap (λ x. 100 ∷ (x ++ 101 ∷ [])) (pairs_text-add_pair ps key t) ∙ inner_pair [] (pairs_text ps) (string_text key) (text t))
    (add_pair ps key t, [], ArePairs-add_pair ps key t h.0 h.1 g, sym (append-nil (text (dictionary (add_pair ps key t)))))
close_value (at_value ps key ∷ f ∷ fs) t h g =
    ends_at (frames_text (f ∷ fs) ++ text (dictionary (add_pair ps key t))) (frames_text (at_value ps key ∷ f ∷ fs) ++ text t) (101 ∷ [])
    (ap (λ x. frames_text (f ∷ fs) ++ (100 ∷ (x ++ 101 ∷ []))) (pairs_text-add_pair ps key t) ∙ inner_pair (frames_text (f ∷ fs)) (pairs_text ps) (string_text key) (text t))
    (close_value (f ∷ fs) (dictionary (add_pair ps key t)) h.2 (ArePairs-add_pair ps key t h.0 h.1 g))

close_dictionary : (fs : List OpenContainer) (ps : TreePairs) → IfAny fs (TakesValue fs) → ArePairs ps → Ends (frames_text fs ++ text (dictionary ps))
close_dictionary [] ps h g = (ps, [], g, sym (append-nil (text (dictionary ps))))
close_dictionary (f ∷ fs) ps h g = close_value (f ∷ fs) (dictionary ps) h g

-- a byte more
front_at : (m x : List ℕ) (b : ℕ) → Ends (m ++ b ∷ x) → IsFront m
front_at m x b h = (h.0, b, x ++ h.1, h.2, h.3 ∙ append_assoc m (b ∷ x) h.1)

front_by : (m n x : List ℕ) (b : ℕ) → m ≡ n ++ b ∷ x → Ends m → IsFront n
front_by m n x b e h = front_at n x b (ends_at m (n ++ b ∷ x) [] (e ∙ sym (append-nil (n ++ b ∷ x))) h)

abbrev zeros : ℕ → List ℕ
zeros n = replicate n 0

-- a string that is whole in its frames, be it a key
close_string : (fs : List OpenContainer) (bytes : List ℕ) → TakesValue fs ⊎ TakesKey fs → IsString bytes → Ends (frames_text fs ++ string_text bytes)
close_string fs bytes (inl h) g = close_value fs (string bytes) h g
close_string [] bytes (inr h) g = absurd h
close_string (in_list ts ∷ fs) bytes (inr h) g = absurd h
close_string (at_key ps ∷ fs) bytes (inr h) g =
    let value : Ends (frames_text (at_value ps bytes ∷ fs) ++ string_text []) = close_value (at_value ps bytes ∷ fs) (string []) (h.0, g, h.1) (omega arith) in
    ends_at (frames_text (at_value ps bytes ∷ fs) ++ string_text []) (frames_text (at_key ps ∷ fs) ++ string_text bytes) (string_text [])
    (ap (λ x. x ++ string_text []) (sym (append_assoc (frames_text fs) (100 ∷ pairs_text ps) (string_text bytes)))) value
close_string (at_value ps key ∷ fs) bytes (inr h) g = absurd h

close_integer : (fs : List OpenContainer) (n : ℤ) (m x : List ℕ) (b : ℕ) → TakesValue fs → IsInteger n → frames_text fs ++ integer_text n ≡ m ++ b ∷ x → IsFront m
close_integer fs n m x b h g e = front_by (frames_text fs ++ integer_text n) m x b e (close_value fs (integer n) h g)

in_part : (xs ds bytes more : List ℕ) → xs ++ (ds ++ (bytes ++ more)) ≡ (xs ++ (ds ++ bytes)) ++ more
in_part xs ds bytes more = simp append_assoc

-- part of a string
close_part : (fs : List OpenContainer) (bytes : List ℕ) (left : ℕ) → TakesValue fs ⊎ TakesKey fs → 0 < left → length bytes + left < 10 ^ 64 → IsFront (cut_text (cut fs (part bytes left)))
close_part fs bytes left h some fits =
    let all = bytes ++ 0 ∷ zeros (left - 1) in
    let zs : length (zeros (left - 1)) ≡ left - 1 = length-replicate (left - 1) 0 in
    let long : length all ≡ length bytes + left = length-append bytes (0 ∷ zeros (left - 1)) ∙ (omega arith) in
    front_by (frames_text fs ++ string_text all) (cut_text (cut fs (part bytes left))) (zeros (left - 1)) 0
    (ap (λ n. frames_text fs ++ ((decimal n ++ 58 ∷ []) ++ all)) long ∙ in_part (frames_text fs) (decimal (length bytes + left) ++ 58 ∷ []) bytes (0 ∷ zeros (left - 1)))
    (close_string fs all h (let l = long in omega arith))

in_count : (xs ds more : List ℕ) → xs ++ ((ds ++ 58 ∷ []) ++ more) ≡ (xs ++ ds) ++ 58 ∷ more
in_count xs ds more = simp append_assoc

close_count : (fs : List OpenContainer) (n : ℕ) → TakesValue fs ⊎ TakesKey fs → n < 10 ^ 64 → IsFront (cut_text (cut fs (count n)))
close_count fs n h fits =
    let long : length (zeros n) ≡ n = length-replicate n 0 in
    front_by (frames_text fs ++ string_text (zeros n)) (frames_text fs ++ decimal n) (zeros n) 58
    (ap (λ k. frames_text fs ++ ((decimal k ++ 58 ∷ []) ++ zeros n)) long ∙ in_count (frames_text fs) (decimal n) (zeros n))
    (close_string fs (zeros n) h (let l = long in omega arith))

integer_at : (xs ds : List ℕ) → xs ++ (ds ++ 101 ∷ []) ≡ (xs ++ ds) ++ 101 ∷ []
integer_at xs ds = simp append_assoc

close_between : (fs : List OpenContainer) → IfAny fs (TakesValue fs ⊎ TakesKey fs) → IsFront (frames_text fs)
close_between [] h = (no_pairs, 100, 101 ∷ [], tt, refl)
close_between (in_list ts ∷ fs) (inl h) =
    front_by (frames_text fs ++ text (list ts)) (frames_text (in_list ts ∷ fs)) [] 101 (simp append_assoc) (close_value fs (list ts) h.1 h.0)
close_between (in_list ts ∷ fs) (inr h) = absurd h
close_between (at_key ps ∷ fs) (inl h) = absurd h
close_between (at_key ps ∷ fs) (inr h) =
    front_by (frames_text fs ++ text (dictionary ps)) (frames_text (at_key ps ∷ fs)) [] 101 (inner_dictionary (frames_text fs) (pairs_text ps)) (close_dictionary fs ps h.1 h.0)
close_between (at_value ps key ∷ fs) (inl h) =
    front_by (frames_text (at_value ps key ∷ fs) ++ text (list no_trees)) (frames_text (at_value ps key ∷ fs)) (101 ∷ []) 108 refl
    (close_value (at_value ps key ∷ fs) (list no_trees) h tt)
close_between (at_value ps key ∷ fs) (inr h) = absurd h

fronted : (m : List ℕ) → IsFront m → IsFront (m ++ [])
fronted m h = (h.0, h.1, h.2, h.3, h.4 ∙ ap (λ x. x ++ h.1 ∷ h.2) (sym (append-nil m)))

-- a cut is less than a message
pub close : (c : Cut) → IsCut c → IsFront (cut_text c)
close (cut fs between) h = fronted (frames_text fs) (close_between fs h)
close (cut fs after_i) h =
    close_integer fs (pos 0) (cut_text (cut fs after_i)) (101 ∷ []) 48 h (omega arith)
    (ap (λ x. frames_text fs ++ (105 ∷ (x ++ 101 ∷ []))) (decimal_digit 0 (omega arith)) ∙ sym (append_assoc (frames_text fs) (105 ∷ []) (48 ∷ 101 ∷ [])))
close (cut fs after_minus) h =
    close_integer fs (negsuc 0) (cut_text (cut fs after_minus)) (101 ∷ []) 49 h (omega arith)
    (ap (λ x. frames_text fs ++ (105 ∷ 45 ∷ (x ++ 101 ∷ []))) (decimal_digit 1 (omega arith)) ∙ sym (append_assoc (frames_text fs) (105 ∷ 45 ∷ []) (49 ∷ 101 ∷ [])))
close (cut fs (digits false n)) h =
    close_integer fs (pos n) (cut_text (cut fs (digits false n))) [] 101 h.0 (let fits = h.1 in omega arith) (integer_at (frames_text fs) (105 ∷ decimal n))
close (cut fs (digits true n)) h =
    let some = h.1 in
    let fits = h.2 in
    let same : suc (n - 1) ≡ n = omega arith in
    close_integer fs (negsuc (n - 1)) (cut_text (cut fs (digits true n))) [] 101 h.0 (omega arith)
    (ap (λ k. frames_text fs ++ (105 ∷ 45 ∷ (decimal k ++ 101 ∷ []))) same ∙ integer_at (frames_text fs) (105 ∷ 45 ∷ decimal n))
close (cut fs (count n)) h = close_count fs n h.0 h.1
close (cut fs (part bytes left)) h = close_part fs bytes left h.0 h.1 h.2
