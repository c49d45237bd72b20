-- Bytes of a message that are clean, and the cut as which the machine holds them.
use Rattle.std.proofs.Common.{◌≡◌, ℕ, ◌+◌, ◌⊎◌, inl, inr, Bool, true, false, cond, nat_lt, List, []}
use Rattle.std.proofs.Common.{◌∷◌, ◌++◌, length, refl, sym, ap, ◌∙◌, subst, append_assoc}
use Rattle.std.proofs.Common.{append-nil, length-append, arith}
use Rattle.std.proofs.lemmas.Bool.Decides.{nat_tests}
use Rattle.bencode_wire.specs.Tree.{Tree, dictionary, TreePairs, no_pairs, pair, no_trees, tree}
use Rattle.bencode_wire.specs.Tree.{holds_key}
use Rattle.bencode_wire.specs.Spelling.{text, pairs_text, sorted, put_sorted}
use Rattle.bencode_wire.specs.Inside.Cut.{OpenContainer, at_value, between, Cut, cut, cut_text, IsCut, sorted_cut}
use Rattle.bencode_wire.specs.Inside.Cut.{in_list, at_key, after_i, after_minus, digits, count, part}
use Rattle.bencode_wire.specs.Fault.{StreamRule, malformed, too_long, too_deep}
use Rattle.bencode_wire.specs.Inside.ByteSteps.{Judged, reads, whole, refuses, judged, within_limit}
use Rattle.bencode_wire.specs.Inside.ByteSteps.{is_large_token, start, bite, rests, ended_reading, onward}
use Rattle.bencode_wire.specs.Inside.ByteSteps.{stream_reading}
use Rattle.bencode_wire.specs.Inside.Beginnings.{ByteEffect, goes, opens, names, ends, stuck}
use Rattle.bencode_wire.specs.Stream.{Meets, IsClean, IsMessage, IsRest}
use Rattle.bencode_wire.proofs.Sound.{Sound}
use Rattle.bencode_wire.proofs.Complete.{run, run-append, run-stuck, run-message, next_of, resting}
use Rattle.bencode_wire.proofs.Complete.{run-cut}
use Rattle.bencode_wire.proofs.Close.{close, IsFront}
use Rattle.bencode_wire.proofs.Orders.{sorted_judged}
use Rattle.bencode_wire.proofs.Appends.{stream_reading-append}
use Rattle.bencode_wire.proofs.Messages.{clean_message, message_text}
use Rattle.bencode_wire.proofs.Verdicts.{read, read-sound, verdict, meets_verdict, verdict_meets}
use Rattle.bencode_wire.proofs.Verdicts.{At, bite_at}

pub record Kept (limit : ℕ) (m : List ℕ) (c : Cut) : Type 0 where
  pub inner : Cut
  pub at : At (read m) inner
  pub is : c ≡ sorted_cut inner
  pub reads : stream_reading limit put_sorted 0 start 0 m ≡ ended_reading (rests (length m) c)
  pub clean : IsClean limit m

none_refused : (limit : ℕ) (rule : StreamRule) → Meets limit [] rule → ⊥
none_refused limit rule h =
    let test : nat_lt limit 0 ≡ false = grind (arith, nat_tests) in
    let e : reads start ≡ refuses rule = ap (λ t. cond t (refuses too_long) (reads start)) (sym test) ∙ meets_verdict limit [] rule h in
    absurd (cc)

none_clean : (limit : ℕ) → IsClean limit []
none_clean limit [] more rule e h = none_refused limit rule h
none_clean limit (b ∷ front) more rule e h = absurd (cc)

-- nothing
pub kept_none : (limit : ℕ) → Kept limit [] start
kept_none limit = record { inner = start; at = refl; is = refl; reads = refl; clean = none_clean limit }

split_more : (x : ℕ) (m : List ℕ) (f : ℕ) (front : List ℕ) (b : ℕ) → x ≡ f → (front ≡ m ++ b ∷ []) ⊎ ((left : List ℕ) × (m ≡ front ++ left))
    → (f ∷ front ≡ x ∷ (m ++ b ∷ [])) ⊎ ((left : List ℕ) × (x ∷ m ≡ f ∷ (front ++ left)))
split_more x m f front b e (inl h) = inl (cc)
split_more x m f front b e (inr h) = let left = h.1 in inr (h.0, cc)

pub split_last : (m front more : List ℕ) (b : ℕ) → m ++ b ∷ [] ≡ front ++ more → (front ≡ m ++ b ∷ []) ⊎ ((left : List ℕ) × (m ≡ front ++ left))
split_last [] [] more b e = inr ([], refl)
split_last [] (f ∷ []) more b e = inl (cc)
split_last [] (f ∷ g ∷ front) more b e = absurd (cc)
split_last (x ∷ m) [] more b e = inr (x ∷ m, refl)
split_last (x ∷ m) (f ∷ front) more b e = split_more x m f front b (cc) (split_last m front more b (cc))

-- one byte more that is not refused
clean_more : (limit : ℕ) (m : List ℕ) (b : ℕ) → IsClean limit m → ((rule : StreamRule) → verdict limit (m ++ b ∷ []) ≡ refuses rule → ⊥) → IsClean limit (m ++ b ∷ [])
clean_more limit m b h never front more rule e meets =
    elim (split_last m front more b e) [
      | inl p ↦ never rule (meets_verdict limit (m ++ b ∷ []) rule (subst (λ x. Meets limit x rule) p meets))
      | inr p ↦ h front p.0 rule p.1 meets
    ]

clean_front : (limit : ℕ) (m more : List ℕ) → IsClean limit (m ++ more) → IsClean limit m
clean_front limit m more h front left rule e meets = h front (left ++ more) rule (ap (λ x. x ++ more) e ∙ append_assoc front left more) meets

verdict_clean : (limit : ℕ) (m more : List ℕ) (rule : StreamRule) → IsClean limit (m ++ more) → verdict limit m ≡ refuses rule → ⊥
verdict_clean limit m more rule h e = h m more rule refl (verdict_meets limit m rule e)

-- what sorting leaves of what was judged
reads_back : (v : Judged) (c : Cut) → sorted_judged v ≡ reads c → (d : Cut) × (v ≡ reads d) × (c ≡ sorted_cut d)
reads_back (reads d) c e = (d, refl, let same : sorted_cut d ≡ c = cc in sym same)
reads_back (whole t) c e = absurd (cc)
reads_back (refuses rule) c e = absurd (cc)

whole_back : (v : Judged) (t : Tree) → sorted_judged v ≡ whole t → (u : Tree) × (v ≡ whole u) × (t ≡ sorted u)
whole_back (reads d) t e = absurd (cc)
whole_back (whole u) t e = (u, refl, let same : sorted u ≡ t = cc in sym same)
whole_back (refuses rule) t e = absurd (cc)

refuses_back : (v : Judged) (rule : StreamRule) → sorted_judged v ≡ refuses rule → v ≡ refuses rule
refuses_back (reads d) rule e = absurd (cc)
refuses_back (whole u) rule e = absurd (cc)
refuses_back (refuses other) rule e = e

-- what is judged so was read so
cut_of : (t : Bool) (rule : StreamRule) (c d : Cut) → cond t (refuses rule) (reads c) ≡ reads d → d ≡ c
cut_of true rule c d e = absurd (cc)
cut_of false rule c d e = cc

cut_where : (t : Bool) (rule : StreamRule) (limit : ℕ) (c d : Cut) → within_limit limit (cond t (reads c) (refuses rule)) ≡ reads d → within_limit limit (reads c) ≡ reads d
cut_where true rule limit c d e = e
cut_where false rule limit c d e = absurd (cc)

cut_unless : (t : Bool) (rule : StreamRule) (limit : ℕ) (c d : Cut) → within_limit limit (cond t (refuses rule) (reads c)) ≡ reads d → within_limit limit (reads c) ≡ reads d
cut_unless true rule limit c d e = absurd (cc)
cut_unless false rule limit c d e = e

checked_at : (limit : ℕ) (next : ByteEffect) (d : Cut) → within_limit limit (judged next) ≡ reads d → At next d
checked_at limit (goes fs token) d e = cut_of (is_large_token limit token) too_long (cut fs token) d e
checked_at limit (opens f fs) d e = cut_of false too_long (cut (f ∷ fs) between) d (cut_where (nat_lt (length fs) 64) too_deep limit (cut (f ∷ fs) between) d e)
checked_at limit (names ps key fs) d e =
    cut_of false too_long (cut (at_value ps key ∷ fs) between) d (cut_unless (holds_key key ps) malformed limit (cut (at_value ps key ∷ fs) between) d e)
checked_at limit (ends t) d e = let f : whole t ≡ reads d = e in absurd (cc)
checked_at limit stuck d e = let f : refuses malformed ≡ reads d = e in absurd (cc)

verdict_at : (limit : ℕ) (next : ByteEffect) (t : Bool) (d : Cut) → cond t (refuses too_long) (within_limit limit (judged next)) ≡ reads d → At next d
verdict_at limit next true d e = absurd (cc)
verdict_at limit next false d e = checked_at limit next d e

whole_never : {A : Type 0} → (t : Bool) (rule : StreamRule) (c : Cut) (u : Tree) → cond t (refuses rule) (reads c) ≡ whole u → A
whole_never true rule c u e = absurd (cc)
whole_never false rule c u e = absurd (cc)

opens_never : {A : Type 0} → (t : Bool) (limit : ℕ) (f : OpenContainer) (fs : List OpenContainer) (u : Tree) → within_limit limit (cond t (reads (cut (f ∷ fs) between)) (refuses too_deep)) ≡ whole u → A
opens_never true limit f fs u e = absurd (let g : reads (cut (f ∷ fs) between) ≡ whole u = e in cc)
opens_never false limit f fs u e = absurd (let g : refuses too_deep ≡ whole u = e in cc)

names_never : {A : Type 0} → (t : Bool) (limit : ℕ) (ps : TreePairs) (key : List ℕ) (fs : List OpenContainer) (u : Tree)
    → within_limit limit (cond t (refuses malformed) (reads (cut (at_value ps key ∷ fs) between))) ≡ whole u → A
names_never true limit ps key fs u e = absurd (let g : refuses malformed ≡ whole u = e in cc)
names_never false limit ps key fs u e = absurd (let g : reads (cut (at_value ps key ∷ fs) between) ≡ whole u = e in cc)

checked_ends : (limit : ℕ) (next : ByteEffect) (u : Tree) → within_limit limit (judged next) ≡ whole u → next ≡ ends u
checked_ends limit (goes fs token) u e = whole_never (is_large_token limit token) too_long (cut fs token) u e
checked_ends limit (opens f fs) u e = opens_never (nat_lt (length fs) 64) limit f fs u e
checked_ends limit (names ps key fs) u e = names_never (holds_key key ps) limit ps key fs u e
checked_ends limit (ends t) u e = let f : whole t ≡ whole u = e in cc
checked_ends limit stuck u e = let f : refuses malformed ≡ whole u = e in absurd (cc)

verdict_ends : (limit : ℕ) (next : ByteEffect) (t : Bool) (u : Tree) → cond t (refuses too_long) (within_limit limit (judged next)) ≡ whole u → next ≡ ends u
verdict_ends limit next true u e = absurd (cc)
verdict_ends limit next false u e = checked_ends limit next u e

ended_by : (v : Judged) (t : Tree) → v ≡ whole t → (rule : StreamRule) → v ≡ refuses rule → ⊥
ended_by v t e rule f = absurd (cc)

cut_by : (v : Judged) (c : Cut) → v ≡ reads c → (rule : StreamRule) → v ≡ refuses rule → ⊥
cut_by v c e rule f = absurd (cc)

-- a byte behind what is kept
pub kept_bite : (limit : ℕ) (m : List ℕ) (c : Cut) (b : ℕ) → Kept limit m c → bite limit put_sorted (length m) c (b ∷ []) ≡ sorted_judged (verdict limit (m ++ b ∷ []))
kept_bite limit m c b k = ap (λ x. bite limit put_sorted (length m) x (b ∷ [])) k.is ∙ bite_at limit m k.inner b k.at

-- what the machine makes of one byte more
pub reads_more : (limit : ℕ) (m : List ℕ) (c : Cut) (b : ℕ) (j : Judged) → stream_reading limit put_sorted 0 start 0 m ≡ ended_reading (rests (length m) c)
    → bite limit put_sorted (length m) c (b ∷ []) ≡ j
    → stream_reading limit put_sorted 0 start 0 (m ++ b ∷ []) ≡ onward j (length m) (λ next. ended_reading (rests (length m + 1) next)) (ended_reading (rests 0 start))
reads_more limit m c b j e is =
    let place : 0 + length m ≡ length m = omega arith in
    stream_reading-append limit put_sorted 0 start 0 (length m) c m (b ∷ []) e
    ∙ ap (λ j. onward j (0 + length m) (λ d. ended_reading (rests (length m + 1) d)) (ended_reading (rests 0 start))) is
    ∙ ap (λ k. onward j k (λ d. ended_reading (rests (length m + 1) d)) (ended_reading (rests 0 start))) place

-- the message goes on
pub kept_reads : (limit : ℕ) (m : List ℕ) (c : Cut) (b : ℕ) (next : Cut) → Kept limit m c → bite limit put_sorted (length m) c (b ∷ []) ≡ reads next → Kept limit (m ++ b ∷ []) next
kept_reads limit m c b next k e =
    let v = verdict limit (m ++ b ∷ []) in
    let back = reads_back v next (sym (kept_bite limit m c b k) ∙ e) in
    let long : length m + 1 ≡ length (m ++ b ∷ []) = sym (length-append m (b ∷ [])) in
    record {
      inner = back.0;
      at = verdict_at limit (read (m ++ b ∷ [])) (nat_lt limit (length (m ++ b ∷ []))) back.0 back.1;
      is = back.2;
      reads = reads_more limit m c b (reads next) k.reads e ∙ ap (λ n. ended_reading (rests n next)) long;
      clean = clean_more limit m b k.clean (cut_by v back.0 back.1);
    }

ends_message : (limit : ℕ) (m : List ℕ) (u : Tree) → read m ≡ ends u → IsClean limit m → IsMessage limit (sorted u) m
ends_message limit m u e clean =
    let s : Sound (ends u) m = subst (λ next. Sound next m) e (read-sound m) in
    subst (λ x. IsMessage limit x m) (ap sorted (sym s.1)) (clean_message limit s.0 m s.2 (ap text (sym s.1) ∙ s.3) clean)

-- a message is whole
pub kept_whole : (limit : ℕ) (m : List ℕ) (c : Cut) (b : ℕ) (t : Tree) → Kept limit m c → bite limit put_sorted (length m) c (b ∷ []) ≡ whole t → IsMessage limit t (m ++ b ∷ [])
kept_whole limit m c b t k e =
    let v = verdict limit (m ++ b ∷ []) in
    let back = whole_back v t (sym (kept_bite limit m c b k) ∙ e) in
    subst (λ x. IsMessage limit x (m ++ b ∷ [])) (sym back.2)
    (ends_message limit (m ++ b ∷ []) back.0 (verdict_ends limit (read (m ++ b ∷ [])) (nat_lt limit (length (m ++ b ∷ []))) back.0 back.1)
    (clean_more limit m b k.clean (ended_by v back.0 back.1)))

-- a rule is met
pub kept_refuses : (limit : ℕ) (m : List ℕ) (c : Cut) (b : ℕ) (rule : StreamRule) → Kept limit m c → bite limit put_sorted (length m) c (b ∷ []) ≡ refuses rule → Meets limit (m ++ b ∷ []) rule
kept_refuses limit m c b rule k e = verdict_meets limit (m ++ b ∷ []) rule (refuses_back (verdict limit (m ++ b ∷ [])) rule (sym (kept_bite limit m c b k) ∙ e))

pub kept_meets : (limit : ℕ) (m : List ℕ) (c : Cut) (b : ℕ) (rule : StreamRule) → Kept limit m c → Meets limit (m ++ b ∷ []) rule → bite limit put_sorted (length m) c (b ∷ []) ≡ refuses rule
kept_meets limit m c b rule k h = kept_bite limit m c b k ∙ ap sorted_judged (meets_verdict limit (m ++ b ∷ []) rule h)

front_of : (next : ByteEffect) (d : Cut) (m : List ℕ) → At next d → Sound next m → IsFront m
front_of (goes fs token) d m h s = subst (λ x. IsFront x) s.1 (close (cut fs token) s.0)
front_of (opens f fs) d m h s = subst (λ x. IsFront x) s.1 (close (cut (f ∷ fs) between) s.0)
front_of (names ps key fs) d m h s = subst (λ x. IsFront x) s.1 (close (cut (at_value ps key ∷ fs) between) s.0)
front_of (ends t) d m h s = absurd h
front_of stuck d m h s = absurd h

-- what is kept is a rest
pub rest_of_kept : (limit : ℕ) (m : List ℕ) (c : Cut) → Kept limit m c → IsRest limit m
rest_of_kept limit m c k = (k.clean, front_of (read m) k.inner m k.at (read-sound m))

run-ended : (t : Tree) (xs : List ℕ) (y : ℕ) (more : List ℕ) → run (ends t) (xs ++ y ∷ more) ≡ stuck
run-ended t [] y more = run-stuck more
run-ended t (x ∷ xs) y more = run-stuck (xs ++ y ∷ more)

never_ended : (m xs : List ℕ) (u : Tree) → read m ≡ ends u → IsFront (m ++ xs) → ⊥
never_ended m xs u e f =
    let all : ends (dictionary f.0) ≡ stuck =
    sym (run-message f.0 f.3) ∙ ap read (f.4 ∙ append_assoc m xs (f.1 ∷ f.2)) ∙ run-append (goes [] between) m (xs ++ f.1 ∷ f.2)
    ∙ ap (λ next. run next (xs ++ f.1 ∷ f.2)) e ∙ run-ended u xs f.1 f.2 in
    absurd (cc)

abbrev pub IsKept : ℕ → List ℕ → Type 0
IsKept limit m = (c : Cut) × Kept limit m c

kept_by : (limit : ℕ) (m : List ℕ) (c : Cut) (b : ℕ) (bs : List ℕ) → Kept limit m c → IsClean limit ((m ++ b ∷ []) ++ bs) → IsFront ((m ++ b ∷ []) ++ bs)
    → (v : Judged) → verdict limit (m ++ b ∷ []) ≡ v → IsKept limit (m ++ b ∷ [])
kept_by limit m c b bs k clean front (reads d) e = (sorted_cut d, kept_reads limit m c b (sorted_cut d) k (kept_bite limit m c b k ∙ ap sorted_judged e))
kept_by limit m c b bs k clean front (whole u) e =
    absurd (never_ended (m ++ b ∷ []) bs u (verdict_ends limit (read (m ++ b ∷ [])) (nat_lt limit (length (m ++ b ∷ []))) u e) front)
kept_by limit m c b bs k clean front (refuses rule) e = absurd (verdict_clean limit (m ++ b ∷ []) bs rule clean e)

kept_on : (limit : ℕ) (m : List ℕ) (c : Cut) (bs : List ℕ) → Kept limit m c → IsClean limit (m ++ bs) → IsFront (m ++ bs) → IsKept limit (m ++ bs)
kept_on limit m c [] k clean front = subst (λ x. IsKept limit x) (sym (append-nil m)) (c, k)
kept_on limit m c (b ∷ bs) k clean front =
    let by : (m ++ b ∷ []) ++ bs ≡ m ++ b ∷ bs = append_assoc m (b ∷ []) bs in
    let clean_now : IsClean limit ((m ++ b ∷ []) ++ bs) = subst (λ x. IsClean limit x) (sym by) clean in
    let front_now : IsFront ((m ++ b ∷ []) ++ bs) = subst (λ x. IsFront x) (sym by) front in
    let now = kept_by limit m c b bs k clean_now front_now (verdict limit (m ++ b ∷ [])) refl in
    subst (λ x. IsKept limit x) by (kept_on limit (m ++ b ∷ []) now.0 bs now.1 clean_now front_now)

-- a rest is kept
pub rest_kept : (limit : ℕ) (m : List ℕ) → IsRest limit m → IsKept limit m
rest_kept limit m h = kept_on limit [] start m (kept_none limit) h.0 h.1

message_verdict : (limit : ℕ) (m : List ℕ) (u : Tree) (t : Bool) → IsClean limit m → nat_lt limit (length m) ≡ t → read m ≡ ends u → verdict limit m ≡ whole u
message_verdict limit m u true clean long e =
    absurd (verdict_clean limit m [] too_long (subst (λ x. IsClean limit x) (sym (append-nil m)) clean) (ap (λ t. cond t (refuses too_long) (within_limit limit (judged (read m)))) long))
message_verdict limit m u false clean long e =
    ap (λ t. cond t (refuses too_long) (within_limit limit (judged (read m)))) long ∙ ap (λ next. within_limit limit (judged next)) e

-- a message is read as the message
pub message_read : (limit : ℕ) (t : Tree) (m : List ℕ) → IsMessage limit t m → stream_reading limit put_sorted 0 start 0 m ≡ record { messages = t ∷ []; end = rests 0 start }
message_read limit t m h =
    let by = message_text limit t m h in
    let ps = by.pairs in
    let front = 100 ∷ pairs_text ps in
    let is : m ≡ front ++ 101 ∷ [] = by.text in
    let clean : IsClean limit (front ++ 101 ∷ []) = subst (λ x. IsClean limit x) is h.4 in
    let k = rest_kept limit front (clean_front limit front (101 ∷ []) clean, (ps, 101, [], by.spellable, refl)) in
    let v = message_verdict limit (front ++ 101 ∷ []) (dictionary ps) (nat_lt limit (length (front ++ 101 ∷ []))) clean refl (run-message ps by.spellable) in
    ap (λ x. stream_reading limit put_sorted 0 start 0 x) is
    ∙ reads_more limit front k.0 101 (whole (sorted (dictionary ps))) k.1.reads (kept_bite limit front k.0 101 k.1 ∙ ap sorted_judged v)
    ∙ ap (λ u. record { messages = u ∷ []; end = rests 0 start }) (sym by.sorted)

cut_at : (next : ByteEffect) (d : Cut) (m : List ℕ) → At next d → Sound next m → IsCut d × (cut_text d ≡ m)
cut_at (goes fs token) d m h s = subst (λ x. IsCut x × (cut_text x ≡ m)) (sym h) s
cut_at (opens f fs) d m h s = subst (λ x. IsCut x × (cut_text x ≡ m)) (sym h) (s.0, s.1)
cut_at (names ps key fs) d m h s = subst (λ x. IsCut x × (cut_text x ≡ m)) (sym h) s
cut_at (ends t) d m h s = absurd h
cut_at stuck d m h s = absurd h

-- the machine holds the cut whose text has come, its pairs sorted
pub kept_cut : (limit : ℕ) (m : List ℕ) (c : Cut) → Kept limit m c → (d : Cut) × IsCut d × (cut_text d ≡ m) × (c ≡ sorted_cut d)
kept_cut limit m c k = let h = cut_at (read m) k.inner m k.at (read-sound m) in (k.inner, h.0, h.1, k.is)

resting_at : (f : OpenContainer) (fs : List OpenContainer) (x : Cut) → At (resting f fs) x → x ≡ cut (f ∷ fs) between
resting_at (in_list no_trees) fs x h = h
resting_at (in_list (tree t ts)) fs x h = h
resting_at (at_key no_pairs) fs x h = h
resting_at (at_key (pair k t ps)) fs x h = h
resting_at (at_value ps key) fs x h = h

at_next_of : (d x : Cut) → At (next_of d) x → x ≡ d
at_next_of (cut [] between) x h = h
at_next_of (cut (f ∷ fs) between) x h = resting_at f fs x h
at_next_of (cut fs after_i) x h = h
at_next_of (cut fs after_minus) x h = h
at_next_of (cut fs (digits negative n)) x h = h
at_next_of (cut fs (count n)) x h = h
at_next_of (cut fs (part bytes left)) x h = h

-- and no other
pub kept_is : (limit : ℕ) (m : List ℕ) (c d : Cut) → Kept limit m c → IsCut d → cut_text d ≡ m → c ≡ sorted_cut d
kept_is limit m c d k h e =
    k.is ∙ ap sorted_cut (at_next_of d k.inner (subst (λ next. At next k.inner) (ap read (sym e) ∙ run-cut d h) k.at))
