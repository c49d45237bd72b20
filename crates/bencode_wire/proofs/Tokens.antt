-- What the functions that read tokens give.
use Rattle.std.proofs.Common.{◌≡◌, ℕ, ◌-◌, ◌<◌, ◌≤◌, ◌⊎◌, inl, inr, Bool, true, false, cond, nat_lt, List, [], ◌∷◌, ◌++◌, length, Result, Ok, refl, sym, ap, ◌∙◌, subst, arith}
use Rattle.std.proofs.lemmas.Bool.Decides.{nat_tests}
use Rattle.std.specs.List.{slice_index_or}
use Rattle.bencode_wire.specs.Fault.{StreamRule, malformed, too_long}
use Rattle.bencode_wire.specs.Spelling.{put_sorted}
use Rattle.bencode_wire.specs.Tree.{Tree, TreePairs, integer, string, list, dictionary, add_tree, holds_key}
use Rattle.bencode_wire.specs.Inside.Beginnings.{ByteEffect, goes, put, put_key}
use Rattle.bencode_wire.specs.Inside.ByteEffects.{text_bytes}
use Rattle.bencode_wire.specs.Inside.ByteSteps.{Judged, judged, reads, whole, refuses, within_limit, is_large, is_large_token, step_run}
use Rattle.bencode_wire.specs.Inside.Cut as cuts
use Rattle.bencode_wire.specs.Inside.Gives.{Refuses, Comes, Yields}
use Rattle.bencode_wire.specs.Inside.Reader.{token_view}
use Rattle.bencode_wire.specs.declared.cut.Token.{Token}
use Rattle.bencode_wire.specs.declared.cut.TokenProgress.{TokenProgress}
use Rattle.bencode_wire.specs.declared.fault.WireFaultKind.{WireFaultKind}

pub partial : (j : Judged) (fs : List cuts.OpenContainer) (p : Result TokenProgress WireFaultKind) (t : Token) → p ≡ Ok (TokenProgress.Partial t) → Yields j fs p
    → (s : List ℕ) → j ≡ reads (cuts.cut fs (token_view s t))
partial j fs p t e y = subst (λ p. Yields j fs p) e y

pub large : (limit other : ℕ) (j : Judged) (fs : List cuts.OpenContainer) (t : cuts.Token) → j ≡ reads (cuts.cut fs t) → is_large_token limit t ≡ true
    → within_limit other (within_limit limit j) ≡ refuses too_long
large limit other j fs t e is =
    ap (λ x. within_limit other (within_limit limit x)) e ∙ ap (λ b. within_limit other (cond b (refuses too_long) (reads (cuts.cut fs t)))) is

pub yields_by : (a b : ByteEffect) (fs : List cuts.OpenContainer) (p : Result TokenProgress WireFaultKind) → a ≡ b → Yields (judged b) fs p → Yields (judged a) fs p
yields_by a b fs p e y = subst (λ x. Yields (judged x) fs p) (sym e) y

pub step_by : (fs : List cuts.OpenContainer) (s : List ℕ) (token t : Token) (run : List ℕ) (b : ℕ) (more : List ℕ) → token ≡ t → run ≡ b ∷ more
    → step_run put_sorted fs (token_view s token) run ≡ step_run put_sorted fs (token_view s t) (b ∷ more)
step_by fs s token t run b more e is = ap (λ x. step_run put_sorted fs (token_view s x) run) e ∙ ap (step_run put_sorted fs (token_view s t)) is

pub first : (run : List ℕ) → 0 < length run → (more : List ℕ) × (run ≡ slice_index_or run 0 0 ∷ more)
first [] h = absurd (omega arith)
first (b ∷ bs) h = (bs, refl)

pub text_whole : (fs : List cuts.OpenContainer) (s : List ℕ) (left : ℕ) (run : List ℕ) → left ≤ length run → text_bytes put_sorted fs s left run ≡ put put_sorted fs (string (s ++ run))
text_whole fs s left run last =
    let test : nat_lt (length run) left ≡ false = grind (arith, nat_tests) in
    ap (λ b. cond b (goes fs (cuts.part (s ++ run) (left - length run))) (put put_sorted fs (string (s ++ run)))) test

pub comes_by : (a b : ByteEffect) (fs : List cuts.OpenContainer) (p : TokenProgress) → a ≡ b → Comes (judged b) fs p → Comes (judged a) fs p
comes_by a b fs p e y = subst (λ x. Comes (judged x) fs p) (sym e) y

cond_too_long : (b d : Bool) (c : cuts.Cut) (limit : ℕ) → is_large limit c ≡ d → within_limit limit (reads c) ≡ refuses too_long → within_limit limit (cond b (refuses too_long) (reads c)) ≡ refuses too_long
cond_too_long true d c limit is e = refl
cond_too_long false d c limit is e = e

too_long_within : (limit other : ℕ) (j : Judged) → within_limit other j ≡ refuses too_long → within_limit other (within_limit limit j) ≡ refuses too_long
too_long_within limit other (reads c) e = cond_too_long (is_large limit c) (is_large other c) c other refl e
too_long_within limit other (whole t) e = e
too_long_within limit other (refuses rule) e = e

pub refuses_within : (limit : ℕ) (j : Judged) (k : WireFaultKind) → Refuses j k → Refuses (within_limit limit j) k
refuses_within limit j WireFaultKind.NoMemory h = h
refuses_within limit j WireFaultKind.Malformed h = ap (within_limit limit) h
refuses_within limit j WireFaultKind.TooLong h = λ other small. too_long_within limit other j (h other small)
refuses_within limit j WireFaultKind.TooDeep h = ap (within_limit limit) h

pub refuses_by : (a b : ByteEffect) (k : WireFaultKind) → a ≡ b → Refuses (judged b) k → Refuses (judged a) k
refuses_by a b k e h = subst (λ x. Refuses (judged x) k) (sym e) h

-- between two tokens, or by a rule that is met
abbrev pub IsBetween : Judged → Type 0
IsBetween j = ((fs : List cuts.OpenContainer) × (j ≡ reads (cuts.cut fs cuts.between))) ⊎ ((rule : StreamRule) × (j ≡ refuses rule))

named_between : (b : Bool) (fs : List cuts.OpenContainer) (rule : StreamRule) → IsBetween (cond b (refuses rule) (reads (cuts.cut fs cuts.between)))
named_between true fs rule = inr (rule, refl)
named_between false fs rule = inl (fs, refl)

key_between : (ps : TreePairs) (fs : List cuts.OpenContainer) (t : Tree) → IsBetween (judged (put_key ps fs t))
key_between ps fs (integer n) = inr (malformed, refl)
key_between ps fs (string key) = named_between (holds_key key ps) (cuts.at_value ps key ∷ fs) malformed
key_between ps fs (list ts) = inr (malformed, refl)
key_between ps fs (dictionary qs) = inr (malformed, refl)

put_between : (f : cuts.OpenContainer) (fs : List cuts.OpenContainer) (t : Tree) → IsBetween (judged (put put_sorted (f ∷ fs) t))
put_between (cuts.in_list ts) fs t = inl (cuts.in_list (add_tree ts t) ∷ fs, refl)
put_between (cuts.at_key ps) fs t = key_between ps fs t
put_between (cuts.at_value ps key) fs t = inl (cuts.at_key (put_sorted ps key t) ∷ fs, refl)

reads_token : (j : Judged) (fs gs : List cuts.OpenContainer) (t : cuts.Token) → j ≡ reads (cuts.cut fs cuts.between) → j ≡ reads (cuts.cut gs t) → j ≡ reads (cuts.cut gs cuts.between)
reads_token j fs gs t e h =
    let same : reads (cuts.cut fs cuts.between) ≡ reads (cuts.cut gs t) = sym e ∙ h in
    let token : cuts.between ≡ t = cc in
    h ∙ ap (λ x. reads (cuts.cut gs x)) (sym token)

reads_never : {A : Type 0} → (j : Judged) (c : cuts.Cut) (rule : StreamRule) → j ≡ refuses rule → j ≡ reads c → A
reads_never j c rule e h = absurd (cc)

whole_reads : {A : Type 0} → (j : Judged) (c : cuts.Cut) (t : Tree) → j ≡ reads c → j ≡ whole t → A
whole_reads j c t e h = absurd (cc)

whole_refused : {A : Type 0} → (j : Judged) (t : Tree) (rule : StreamRule) → j ≡ refuses rule → j ≡ whole t → A
whole_refused j t rule e h = absurd (cc)

come_between : (j : Judged) (gs : List cuts.OpenContainer) (p : TokenProgress) → IsBetween j → Comes j gs p → j ≡ reads (cuts.cut gs cuts.between)
come_between j gs (TokenProgress.Partial token) (inl h) y = reads_token j h.0 gs (token_view [] token) h.1 (y [])
come_between j gs (TokenProgress.Partial token) (inr h) y = reads_never j _ h.0 h.1 (y [])
come_between j gs (TokenProgress.OpenString bytes p) (inl h) y = reads_token j h.0 gs (cuts.part bytes.items p.left) h.1 y
come_between j gs (TokenProgress.OpenString bytes p) (inr h) y = reads_never j _ h.0 h.1 y
come_between j gs (TokenProgress.Whole v) (inl h) y = whole_reads j _ _ h.1 y.0
come_between j gs (TokenProgress.Whole v) (inr h) y = whole_refused j _ h.0 h.1 y.0

some_inside : (fs : List cuts.OpenContainer) → 0 < length fs → (f : cuts.OpenContainer) × (outer : List cuts.OpenContainer) × (fs ≡ f ∷ outer)
some_inside [] h = absurd (omega arith)
some_inside (f ∷ fs) h = (f, fs, refl)

-- a value that goes into something ends its token
pub put_inside : (fs gs : List cuts.OpenContainer) (t : Tree) (p : TokenProgress) → 0 < length fs → Comes (judged (put put_sorted fs t)) gs p
    → judged (put put_sorted fs t) ≡ reads (cuts.cut gs cuts.between)
put_inside fs gs t p some y =
    let s = some_inside fs some in
    let is : IsBetween (judged (put put_sorted fs t)) = subst (λ fs. IsBetween (judged (put put_sorted fs t))) (sym s.2) (put_between s.0 s.1 t) in
    come_between _ gs p is y
