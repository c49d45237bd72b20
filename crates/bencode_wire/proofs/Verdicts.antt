-- The rules of the grammar at the last byte of some bytes are what reading them comes to.
use Rattle.std.proofs.Common.{◌≡◌, ℕ, ◌+◌, ◌<◌, ◌≤◌, inl, inr, Bool, true, false, cond, nat_lt}
use Rattle.std.proofs.Common.{nat_le, List, [], ◌∷◌, ◌++◌, length, refl, sym, ap, ◌∙◌, subst}
use Rattle.std.proofs.Common.{append_assoc, append-nil, length-append, arith}
use Rattle.std.proofs.lemmas.Bool.Decides.{nat_tests}
use Rattle.bencode_wire.specs.Tree.{dictionary, TreePairs, add_pair, holds_key}
use Rattle.bencode_wire.specs.Spelling.{text, put_sorted}
use Rattle.bencode_wire.specs.Inside.Cut.{OpenContainer, at_value, between, after_i, after_minus, digits, count}
use Rattle.bencode_wire.specs.Inside.Cut.{part, Cut, cut, cut_text, IsCut, sorted_frames, sorted_cut}
use Rattle.bencode_wire.specs.Fault.{StreamRule, malformed, too_long, too_deep}
use Rattle.bencode_wire.specs.Inside.ByteSteps.{step_run, Judged, reads, whole, refuses, judged}
use Rattle.bencode_wire.specs.Inside.ByteSteps.{within_limit, bite}
use Rattle.bencode_wire.specs.Inside.Beginnings.{ByteEffect, goes, opens, names, ends, stuck}
use Rattle.bencode_wire.specs.Stream.{BeginsMessage, IsLarge, IsDeep, IsTooLong, IsMalformed, Meets}
use Rattle.bencode_wire.proofs.Sound.{Sound, sound_at, step-sound}
use Rattle.bencode_wire.proofs.Complete.{after, run, run-append, run-stuck, next_of, run-cut}
use Rattle.bencode_wire.proofs.Complete.{run-message}
use Rattle.bencode_wire.proofs.Close.{close}
use Rattle.bencode_wire.proofs.Awaits.{IsEmpty, repeats_at, repeats_key, large_at, is_large}
use Rattle.bencode_wire.proofs.Awaits.{deep_at, is_deep}
use Rattle.bencode_wire.proofs.Orders.{sorted_judged, judged-step}

-- what bytes of a message come to
abbrev pub read : List ℕ → ByteEffect
read m = run (goes [] between) m

after-sound : (next : ByteEffect) (m : List ℕ) (b : ℕ) → Sound next m → Sound (after next b) (m ++ b ∷ [])
after-sound (goes fs token) m b h = sound_at (step_run add_pair fs token (b ∷ [])) _ _ (ap (λ x. x ++ b ∷ []) h.1) (step-sound fs token b h.0)
after-sound (opens f fs) m b h = sound_at (step_run add_pair (f ∷ fs) between (b ∷ [])) _ _ (ap (λ x. x ++ b ∷ []) h.1) (step-sound (f ∷ fs) between b h.0)
after-sound (names ps key fs) m b h =
    sound_at (step_run add_pair (at_value ps key ∷ fs) between (b ∷ [])) _ _ (ap (λ x. x ++ b ∷ []) h.1) (step-sound (at_value ps key ∷ fs) between b h.0)
after-sound (ends t) m b h = tt
after-sound stuck m b h = tt

run-sound : (next : ByteEffect) (m bs : List ℕ) → Sound next m → Sound (run next bs) (m ++ bs)
run-sound next m [] h = sound_at next m (m ++ []) (sym (append-nil m)) h
run-sound next m (b ∷ bs) h = sound_at (run (after next b) bs) _ _ (append_assoc m (b ∷ []) bs) (run-sound (after next b) (m ++ b ∷ []) bs (after-sound next m b h))

-- what has come is what was read
pub read-sound : (m : List ℕ) → Sound (read m) m
read-sound m = run-sound (goes [] between) [] m (tt, refl)

begins_cut : (c : Cut) (m : List ℕ) → IsCut c → cut_text c ≡ m → BeginsMessage m
begins_cut c m h e = let front = close c h in (front.0, front.1 ∷ front.2, front.3, front.4 ∙ ap (λ x. x ++ front.1 ∷ front.2) e)

-- bytes that are not stuck begin a message
begins_next : (next : ByteEffect) (m : List ℕ) → (next ≡ stuck → ⊥) → Sound next m → BeginsMessage m
begins_next (goes fs token) m h s = begins_cut (cut fs token) m s.0 s.1
begins_next (opens f fs) m h s = begins_cut (cut (f ∷ fs) between) m s.0 s.1
begins_next (names ps key fs) m h s = begins_cut (cut (at_value ps key ∷ fs) between) m s.0 s.1
begins_next (ends t) m h s = (s.0, [], s.2, ap text (sym s.1) ∙ s.3 ∙ sym (append-nil m))
begins_next stuck m h s = absurd (h refl)

-- bytes that begin a message are not stuck
begins_read : (m : List ℕ) → BeginsMessage m → read m ≡ stuck → ⊥
begins_read m h e =
    let is : ends (dictionary h.0) ≡ stuck = sym (run-message h.0 h.2) ∙ ap read h.3 ∙ run-append (goes [] between) m h.1 ∙ ap (λ next. run next h.1) e ∙ run-stuck h.1 in
    absurd (cc)

refuses_stuck : (m : List ℕ) → (BeginsMessage m → ⊥) → (next : ByteEffect) → read m ≡ next → judged next ≡ refuses malformed
refuses_stuck m h (goes fs token) e = absurd (h (begins_next (goes fs token) m (λ f. cc) (subst (λ n. Sound n m) e (read-sound m))))
refuses_stuck m h (opens f fs) e = absurd (h (begins_next (opens f fs) m (λ f. cc) (subst (λ n. Sound n m) e (read-sound m))))
refuses_stuck m h (names ps key fs) e = absurd (h (begins_next (names ps key fs) m (λ f. cc) (subst (λ n. Sound n m) e (read-sound m))))
refuses_stuck m h (ends t) e = absurd (h (begins_next (ends t) m (λ f. cc) (subst (λ n. Sound n m) e (read-sound m))))
refuses_stuck m h stuck e = refl

-- a cut's text is read as it
cut_read : (m : List ℕ) (c : Cut) → IsCut c → cut_text c ≡ m → read m ≡ next_of c
cut_read m c h e = ap read (sym e) ∙ run-cut c h

-- malformed bytes are refused
pub malformed_judged : (m : List ℕ) → IsMalformed m → judged (read m) ≡ refuses malformed
malformed_judged m (inl h) = refuses_stuck m h (read m) refl
malformed_judged m (inr h) =
    let r = repeats_at m h in
    ap judged (cut_read m (cut (at_value r.pairs r.key ∷ r.frames) between) r.is r.text)
    ∙ ap (λ t. cond t (refuses malformed) (reads (cut (at_value r.pairs r.key ∷ r.frames) between))) r.has

-- a length above the limit, as it is read
large_read : (limit : ℕ) (m : List ℕ) → IsLarge limit m → (fs : List OpenContainer) × (n : ℕ) × (read m ≡ goes fs (count n)) × (limit < n)
large_read limit m h = let r = large_at limit m h in (r.frames, r.len, cut_read m (cut r.frames (count r.len)) r.is r.text, r.large)

opened : (f : OpenContainer) (fs : List OpenContainer) → IsEmpty f → next_of (cut (f ∷ fs) between) ≡ opens f fs
opened f fs (inl e) = ap (λ g. next_of (cut (g ∷ fs) between)) e ∙ ap (λ g. opens g fs) (sym e)
opened f fs (inr e) = ap (λ g. next_of (cut (g ∷ fs) between)) e ∙ ap (λ g. opens g fs) (sym e)

-- a nesting too deep, as it is read
deep_read : (m : List ℕ) → IsDeep m → (f : OpenContainer) × (fs : List OpenContainer) × (read m ≡ opens f fs) × (64 ≤ length fs)
deep_read m h = let r = deep_at m h in (r.frame, r.frames, cut_read m (cut (r.frame ∷ r.frames) between) r.is r.text ∙ opened r.frame r.frames r.empty, r.deep)

-- what the rules make of bytes at their last
abbrev pub verdict_of : ℕ → List ℕ → ByteEffect → Judged
verdict_of limit m next = cond (nat_lt limit (length m)) (refuses too_long) (within_limit limit (judged next))

abbrev pub verdict : ℕ → List ℕ → Judged
verdict limit m = verdict_of limit m (read m)

lt_of : (a b : ℕ) → nat_lt a b ≡ true → a < b
lt_of a b e = grind (arith, nat_tests)

ge_of : (a b : ℕ) → nat_lt a b ≡ false → b ≤ a
ge_of a b e = grind (arith, nat_tests)

lt_true : (a b : ℕ) → a < b → nat_lt a b ≡ true
lt_true a b h = grind (arith, nat_tests)

lt_false : (a b : ℕ) → b ≤ a → nat_lt a b ≡ false
lt_false a b h = grind (arith, nat_tests)

short : (limit : ℕ) (m : List ℕ) → (IsTooLong limit m → ⊥) → nat_lt limit (length m) ≡ false
short limit m h = elim (nat_lt limit (length m)) as (λ t. (t ≡ true → limit < length m) → t ≡ false) [ true ↦ λ f. absurd (h (f refl)) | false ↦ λ f. refl ] (λ e. lt_of limit (length m) e)

-- where no rule on lengths applies
verdict_short : (limit : ℕ) (m : List ℕ) → (IsTooLong limit m → ⊥) → verdict limit m ≡ within_limit limit (judged (read m))
verdict_short limit m h = ap (λ t. cond t (refuses too_long) (within_limit limit (judged (read m)))) (short limit m h)

large_verdict : (limit : ℕ) (m : List ℕ) (t : Bool) → IsLarge limit m → cond t (refuses too_long) (within_limit limit (judged (read m))) ≡ refuses too_long
large_verdict limit m true h = refl
large_verdict limit m false h =
    let is = large_read limit m h in
    ap (λ next. within_limit limit (judged next)) is.2 ∙ ap (λ t. cond t (refuses too_long) (reads (cut is.0 (count is.1)))) (lt_true limit is.1 is.3)

-- bytes at which a rule applies are refused by it
pub meets_verdict : (limit : ℕ) (m : List ℕ) (rule : StreamRule) → Meets limit m rule → verdict limit m ≡ refuses rule
meets_verdict limit m malformed h = verdict_short limit m h.0 ∙ ap (λ j. within_limit limit j) (malformed_judged m h.1)
meets_verdict limit m too_long (inl h) = ap (λ t. cond t (refuses too_long) (within_limit limit (judged (read m)))) (lt_true limit (length m) h)
meets_verdict limit m too_long (inr h) = large_verdict limit m (nat_lt limit (length m)) h.1
meets_verdict limit m too_deep h =
    let is = deep_read m h.3 in
    verdict_short limit m h.0 ∙ ap (λ next. within_limit limit (judged next)) is.2
    ∙ ap (λ t. within_limit limit (cond t (reads (cut (is.0 ∷ is.1) between)) (refuses too_deep))) (lt_false (length is.1) 64 is.3)

not_long : (limit : ℕ) (m : List ℕ) → nat_lt limit (length m) ≡ false → IsTooLong limit m → ⊥
not_long limit m e h = let f = ge_of limit (length m) e in absurd (omega arith)

not_malformed : (m : List ℕ) (j : Judged) → judged (read m) ≡ j → (j ≡ refuses malformed → ⊥) → IsMalformed m → ⊥
not_malformed m j e other h = other (sym e ∙ malformed_judged m h)

not_large : (limit : ℕ) (m : List ℕ) (next : ByteEffect) → read m ≡ next → ((fs : List OpenContainer) (n : ℕ) → next ≡ goes fs (count n) → ⊥) → IsLarge limit m → ⊥
not_large limit m next e other h = let is = large_read limit m h in other is.0 is.1 (sym e ∙ is.2)

meets_at : (limit : ℕ) (m : List ℕ) (a rule : StreamRule) → refuses a ≡ refuses rule → Meets limit m a → Meets limit m rule
meets_at limit m a rule e h = let same : a ≡ rule = cc in subst (λ r. Meets limit m r) same h

reads_refuses : {A : Type 0} → (c : Cut) (rule : StreamRule) → reads c ≡ refuses rule → A
reads_refuses c rule e = absurd (cc)

names_meets : (limit : ℕ) (m : List ℕ) (ps : TreePairs) (key : List ℕ) (fs : List OpenContainer) (rule : StreamRule) → (IsTooLong limit m → ⊥) → Sound (names ps key fs) m
    → (t : Bool) → holds_key key ps ≡ t → within_limit limit (cond t (refuses malformed) (reads (cut (at_value ps key ∷ fs) between))) ≡ refuses rule → Meets limit m rule
names_meets limit m ps key fs rule brief s true has e =
    meets_at limit m malformed rule e (brief, inr (repeats_key m ps key fs s.0 s.1 has))
names_meets limit m ps key fs rule brief s false has e = reads_refuses (cut (at_value ps key ∷ fs) between) rule e

opens_meets : (limit : ℕ) (m : List ℕ) (f : OpenContainer) (fs : List OpenContainer) (rule : StreamRule) → (IsTooLong limit m → ⊥) → read m ≡ opens f fs → Sound (opens f fs) m
    → (t : Bool) → nat_lt (length fs) 64 ≡ t → within_limit limit (cond t (reads (cut (f ∷ fs) between)) (refuses too_deep)) ≡ refuses rule → Meets limit m rule
opens_meets limit m f fs rule brief is s true deep e = reads_refuses (cut (f ∷ fs) between) rule e
opens_meets limit m f fs rule brief is s false deep e =
    let j : judged (read m) ≡ refuses too_deep = ap judged is ∙ ap (λ t. cond t (reads (cut (f ∷ fs) between)) (refuses too_deep)) deep in
    meets_at limit m too_deep rule e (
      brief,
      not_malformed m (refuses too_deep) j (λ x. cc),
      not_large limit m (opens f fs) is (λ gs n x. cc),
      is_deep m f fs s.0 s.1 s.2 (ge_of (length fs) 64 deep),
    )

count_meets : (limit : ℕ) (m : List ℕ) (fs : List OpenContainer) (n : ℕ) (rule : StreamRule) → read m ≡ goes fs (count n) → Sound (goes fs (count n)) m
    → (t : Bool) → nat_lt limit n ≡ t → cond t (refuses too_long) (reads (cut fs (count n))) ≡ refuses rule → Meets limit m rule
count_meets limit m fs n rule is s true large e =
    meets_at limit m too_long rule e
    (inr (not_malformed m (reads (cut fs (count n))) (ap judged is) (λ x. cc), is_large limit m fs n s.0 s.1 (lt_of limit n large)))
count_meets limit m fs n rule is s false large e = reads_refuses (cut fs (count n)) rule e

short_meets : (limit : ℕ) (m : List ℕ) (next : ByteEffect) (rule : StreamRule) → (IsTooLong limit m → ⊥) → read m ≡ next → Sound next m → within_limit limit (judged next) ≡ refuses rule → Meets limit m rule
short_meets limit m (goes fs between) rule brief is s e = reads_refuses (cut fs between) rule e
short_meets limit m (goes fs after_i) rule brief is s e = reads_refuses (cut fs after_i) rule e
short_meets limit m (goes fs after_minus) rule brief is s e = reads_refuses (cut fs after_minus) rule e
short_meets limit m (goes fs (digits negative n)) rule brief is s e = reads_refuses (cut fs (digits negative n)) rule e
short_meets limit m (goes fs (count n)) rule brief is s e = count_meets limit m fs n rule is s (nat_lt limit n) refl e
short_meets limit m (goes fs (part bytes left)) rule brief is s e = reads_refuses (cut fs (part bytes left)) rule e
short_meets limit m (opens f fs) rule brief is s e = opens_meets limit m f fs rule brief is s (nat_lt (length fs) 64) refl e
short_meets limit m (names ps key fs) rule brief is s e = names_meets limit m ps key fs rule brief s (holds_key key ps) refl e
short_meets limit m (ends t) rule brief is s e = let other : whole t ≡ refuses rule = e in absurd (cc)
short_meets limit m stuck rule brief is s e = meets_at limit m malformed rule e (brief, inl (λ b. begins_read m b is))

verdict_meets_by : (limit : ℕ) (m : List ℕ) (rule : StreamRule) (t : Bool) → nat_lt limit (length m) ≡ t
    → cond t (refuses too_long) (within_limit limit (judged (read m))) ≡ refuses rule → Meets limit m rule
verdict_meets_by limit m rule true long e = meets_at limit m too_long rule e (inl (lt_of limit (length m) long))
verdict_meets_by limit m rule false long e = short_meets limit m (read m) rule (not_long limit m long) refl (read-sound m) e

-- bytes that are refused by a rule meet it
pub verdict_meets : (limit : ℕ) (m : List ℕ) (rule : StreamRule) → verdict limit m ≡ refuses rule → Meets limit m rule
verdict_meets limit m rule e = verdict_meets_by limit m rule (nat_lt limit (length m)) refl e

-- what was read is less than a message, and so far this cut
abbrev pub At : ByteEffect → Cut → Type 0
At (goes fs token) d = d ≡ cut fs token
At (opens f fs) d = d ≡ cut (f ∷ fs) between
At (names ps key fs) d = d ≡ cut (at_value ps key ∷ fs) between
At (ends t) d = ⊥
At stuck d = ⊥

abbrev step_of : Cut → ℕ → ByteEffect
step_of (cut fs token) b = step_run add_pair fs token (b ∷ [])

after_at : (next : ByteEffect) (d : Cut) (b : ℕ) → At next d → after next b ≡ step_of d b
after_at (goes fs token) d b h = ap (λ x. step_of x b) (sym h)
after_at (opens f fs) d b h = ap (λ x. step_of x b) (sym h)
after_at (names ps key fs) d b h = ap (λ x. step_of x b) (sym h)
after_at (ends t) d b h = absurd h
after_at stuck d b h = absurd h

le_lt : (limit n k : ℕ) → k ≡ n + 1 → nat_le limit n ≡ nat_lt limit k
le_lt limit n k e = grind (arith, nat_tests)

sorted_verdict : (t : Bool) (j : Judged) → cond t (refuses too_long) (sorted_judged j) ≡ sorted_judged (cond t (refuses too_long) j)
sorted_verdict true j = refl
sorted_verdict false j = refl

-- a byte's verdict is what the machine makes of the byte
pub bite_at : (limit : ℕ) (m : List ℕ) (d : Cut) (b : ℕ) → At (read m) d
    → bite limit put_sorted (length m) (sorted_cut d) (b ∷ []) ≡ sorted_judged (verdict limit (m ++ b ∷ []))
bite_at limit m (cut fs token) b h =
    let long = le_lt limit (length m) (length (m ++ b ∷ [])) (length-append m (b ∷ [])) in
    let now : read (m ++ b ∷ []) ≡ step_run add_pair fs token (b ∷ []) = run-append (goes [] between) m (b ∷ []) ∙ after_at (read m) (cut fs token) b h in
    ap (λ t. cond t (refuses too_long) (within_limit limit (judged (step_run put_sorted (sorted_frames fs) token (b ∷ []))))) long
    ∙ ap (λ j. cond (nat_lt limit (length (m ++ b ∷ []))) (refuses too_long) j) (judged-step limit fs token b)
    ∙ ap (λ next. cond (nat_lt limit (length (m ++ b ∷ []))) (refuses too_long) (sorted_judged (within_limit limit (judged next)))) (sym now)
    ∙ sorted_verdict (nat_lt limit (length (m ++ b ∷ []))) (within_limit limit (judged (read (m ++ b ∷ []))))
