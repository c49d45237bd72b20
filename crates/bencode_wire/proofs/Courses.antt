-- What one run makes of what is ahead, by what it comes to.
use Rattle.std.proofs.Common.{◌≡◌, ℕ, zero, suc, ◌+◌, ◌-◌, ◌<◌, ◌≤◌, ◌^◌, min, true, false, Bool, cond, nat_lt, ◌==◌, List}
use Rattle.std.proofs.Common.{[], ◌∷◌, ◌++◌, length, take, drop, Option, Some, None, Ok, refl, sym, ap, ◌∙◌}
use Rattle.std.proofs.Common.{subst, append-nil, append_assoc, length-drop, length-take, arith}
use Rattle.std.proofs.lemmas.List.{map-append}
use Rattle.bencode_wire.specs.Spelling.{put_sorted}
use Rattle.std.specs.List.{slice_index_or}
use Rattle.std.proofs.lemmas.Bool.Decides.{nat_tests}
use Rattle.bencode_wire.specs.Tree.{string, add_tree, holds_key}
use Rattle.bencode_wire.specs.Inside.Cut.{OpenContainer, in_list, at_key, at_value, Token, between, count, part, Cut, cut}
use Rattle.bencode_wire.specs.Inside.Sign.{sign_of}
use Rattle.bencode_wire.specs.Inside.Beginnings.{begin, put, goes}
use Rattle.bencode_wire.specs.Inside.ByteEffects.{length_digits, text_bytes}
use Rattle.bencode_wire.specs.declared.sign.Sign.{Sign}
use Rattle.bencode_wire.specs.Fault.{StreamRule, malformed, too_long, too_deep, counted_place}
use Rattle.bencode_wire.specs.Fault.{fault_at}
use Rattle.bencode_wire.specs.Inside.ByteSteps.{step_run, Judged, judged, is_large, within_limit, reads}
use Rattle.bencode_wire.specs.Inside.ByteSteps.{whole, refuses, StreamReading, ended_reading, faults}
use Rattle.bencode_wire.specs.Inside.ByteSteps.{onward, stream_reading, start, TakesRun}
use Rattle.bencode_wire.specs.Inside.Gives.{Refuses, Steps}
use Rattle.bencode_wire.specs.Inside.Refusals.{refusal_at}
use Rattle.bencode_wire.specs.Inside.Course.{fault_of_end, ahead, ready_view, Advances, Faults, Stops}
use Rattle.bencode_wire.specs.Inside.View.{tree_view}
use Rattle.bencode_wire.specs.declared.ben.Ben.{Ben}
use Rattle.bencode_wire.specs.Inside.Reader.{cut_view}
use Rattle.bencode_wire.specs.declared.cut.Reader.{Reader}
use Rattle.bencode_wire.specs.declared.cut.Unfinished.{Unfinished}
use Rattle.bencode_wire.specs.declared.fault.WireFaultKind.{WireFaultKind}
use Rattle.bencode_wire.specs.declared.fault.WireFaultKind.TheVariants as refusals
use Rattle.bencode_wire.specs.declared.fault.WireFault.{WireFault}
use Rattle.bencode_wire.proofs.Runs.{stream_reading-slice, stream_reading-over}

-- a run in the middle of bytes, as the code cuts it out
pub record Runs (limit come : ℕ) (token : Token) (at n : ℕ) (bytes : List ℕ) : Type 0 where
  pub some : 0 < n
  pub within : at + n ≤ length bytes
  pub takes : TakesRun token n
  pub room : come + n ≤ limit

-- what the run comes to
abbrev pub outcome : ℕ → List OpenContainer → Token → ℕ → ℕ → List ℕ → Judged
outcome limit fs token at n bytes = within_limit limit (judged (step_run put_sorted fs token (take (at + n - at) (drop at bytes))))

run_onward : (limit come : ℕ) (fs : List OpenContainer) (token : Token) (at n : ℕ) (bytes : List ℕ) (j : Judged)
    → Runs limit come token at n bytes → outcome limit fs token at n bytes ≡ j
    → stream_reading limit put_sorted come (cut fs token) at (drop at bytes)
    ≡ onward j (at + n - 1) (λ c. stream_reading limit put_sorted (come + n) c (at + n) (drop (at + n) bytes)) (stream_reading limit put_sorted 0 start (at + n) (drop (at + n) bytes))
run_onward limit come fs token at n bytes j h e =
    let size : n ≡ at + n - at = omega arith in
    let by : within_limit limit (judged (step_run put_sorted fs token (take n (drop at bytes)))) ≡ j =
    ap (λ k. within_limit limit (judged (step_run put_sorted fs token (take k (drop at bytes))))) size ∙ e in
    stream_reading-slice limit put_sorted come fs token at n bytes h.some h.within h.takes h.room
    ∙ ap (λ i. onward i (at + n - 1) (λ c. stream_reading limit put_sorted (come + n) c (at + n) (drop (at + n) bytes)) (stream_reading limit put_sorted 0 start (at + n) (drop (at + n) bytes))) by

same_reading : (now next : StreamReading) (old : List Ben) → now ≡ next → Advances now next old old
same_reading now next old e = record { messages = ap (λ r. ready_view old ++ r.messages) (sym e); end = ap (λ r. r.end) (sym e) }

-- the message goes on
pub advances_in : (limit come : ℕ) (fs : List OpenContainer) (token : Token) (at n : ℕ) (bytes : List ℕ) (c : Cut) (old : List Ben)
    → Runs limit come token at n bytes → outcome limit fs token at n bytes ≡ reads c
    → Advances (stream_reading limit put_sorted come (cut fs token) at (drop at bytes)) (stream_reading limit put_sorted (come + n) c (at + n) (drop (at + n) bytes)) old old
advances_in limit come fs token at n bytes c old h e = same_reading _ _ old (run_onward limit come fs token at n bytes (reads c) h e)

-- a message is whole
pub advances_past : (limit come : ℕ) (fs : List OpenContainer) (token : Token) (at n : ℕ) (bytes : List ℕ) (c : Cut) (message : Ben) (old new : List Ben)
    → Runs limit come token at n bytes → outcome limit fs token at n bytes ≡ whole (tree_view message) → c ≡ start → new ≡ old ++ message ∷ []
    → Advances (stream_reading limit put_sorted come (cut fs token) at (drop at bytes)) (stream_reading limit put_sorted 0 c (at + n) (drop (at + n) bytes)) old new
advances_past limit come fs token at n bytes c message old new h e fresh pushed =
    let next = stream_reading limit put_sorted 0 start (at + n) (drop (at + n) bytes) in
    let same : next ≡ stream_reading limit put_sorted 0 c (at + n) (drop (at + n) bytes) =
    ap (λ d. stream_reading limit put_sorted 0 d (at + n) (drop (at + n) bytes)) (sym fresh) in
    let now = run_onward limit come fs token at n bytes (whole (tree_view message)) h e in
    let views : ready_view new ≡ ready_view old ++ tree_view message ∷ [] = ap ready_view pushed ∙ map-append tree_view old (message ∷ []) in
    record {
      messages =
          ap (λ r. ready_view new ++ r.messages) (sym same)
          ∙ ap (λ vs. vs ++ next.messages) views
          ∙ append_assoc (ready_view old) (tree_view message ∷ []) next.messages
          ∙ ap (λ r. ready_view old ++ r.messages) (sym now);
      end = ap (λ r. r.end) (sym same) ∙ ap (λ r. r.end) (sym now);
    }

-- a rule is met
faults_by : (place : ℕ) (now : StreamReading) (old : List Ben) (rule : StreamRule) (i p : ℕ) → now ≡ ended_reading (faults rule i) → p ≡ counted_place (place + i)
    → Faults place now old old (fault_at rule p)
faults_by place now old rule i p e at = record {
  messages = sym (append-nil (ready_view old)) ∙ ap (λ r. ready_view old ++ r.messages) (sym e);
  end = ap (λ r. fault_of_end place r.end) e ∙ ap (λ k. Some (fault_at rule k)) (sym at);
}

pub faults_over : (limit place : ℕ) (message : Unfinished) (at : ℕ) (bytes : List ℕ) (old : List Ben) (p : ℕ)
    → at < length bytes → limit ≤ message.come → p ≡ min (place + at) (2 ^ 64 - 1)
    → Faults place (ahead limit bytes message at) old old (WireFault.TooLong p)
faults_over limit place message at bytes old p within over is =
    faults_by place _ old too_long at p (stream_reading-over limit put_sorted message.come _ at (drop at bytes) (let long = length-drop at bytes in omega arith) over) is

cond_twice : (t : Bool) (c : Cut) (limit : ℕ) → is_large limit c ≡ t → within_limit limit (cond t (refuses too_long) (reads c)) ≡ cond t (refuses too_long) (reads c)
cond_twice true c limit e = refl
cond_twice false c limit e = ap (λ t. cond t (refuses too_long) (reads c)) e

-- what was checked passes
pub checked_twice : (limit : ℕ) (j : Judged) → within_limit limit (within_limit limit j) ≡ within_limit limit j
checked_twice limit (reads c) = cond_twice (is_large limit c) c limit refl
checked_twice limit (whole t) = refl
checked_twice limit (refuses rule) = refl

stops_by : (limit place : ℕ) (bytes : List ℕ) (message : Unfinished) (at : ℕ) (old new : List Ben) (f fault : WireFault) → Stops limit place bytes message at old new f → fault ≡ f
    → Stops limit place bytes message at old new fault
stops_by limit place bytes message at old new f fault s e = subst (λ f. Stops limit place bytes message at old new f) (sym e) s

pub faults_in : (limit place : ℕ) (message : Unfinished) (fs : List OpenContainer) (token : Token) (at n : ℕ) (bytes : List ℕ) (old : List Ben) (refusal : WireFaultKind) (q : ℕ) (fault : WireFault)
    → limit < 2 ^ 64 → cut_view message.reader ≡ cut fs token
    → Runs limit message.come token at n bytes → Refuses (outcome limit fs token at n bytes) refusal
    → q ≡ counted_place (place + (at + n - 1)) → fault ≡ refusal_at refusal q
    → Stops limit place bytes message at old old fault
faults_in limit place message fs token at n bytes old refusals.NoMemory q fault small is h g from e = stops_by limit place bytes message at old old WireFault.NoMemory fault tt e
faults_in limit place message fs token at n bytes old refusals.Malformed q fault small is h g from e =
    let on = ap (λ c. stream_reading limit put_sorted message.come c at (drop at bytes)) is in
    stops_by limit place bytes message at old old (WireFault.Malformed q) fault
    (faults_by place _ old malformed (at + n - 1) q (on ∙ run_onward limit message.come fs token at n bytes _ h g) from) e
faults_in limit place message fs token at n bytes old refusals.TooLong q fault small is h g from e =
    let on = ap (λ c. stream_reading limit put_sorted message.come c at (drop at bytes)) is in
    let now = sym (checked_twice limit (judged (step_run put_sorted fs token (take (at + n - at) (drop at bytes))))) ∙ g limit small in
    stops_by limit place bytes message at old old (WireFault.TooLong q) fault
    (faults_by place _ old too_long (at + n - 1) q (on ∙ run_onward limit message.come fs token at n bytes _ h now) from) e
faults_in limit place message fs token at n bytes old refusals.TooDeep q fault small is h g from e =
    let on = ap (λ c. stream_reading limit put_sorted message.come c at (drop at bytes)) is in
    stops_by limit place bytes message at old old (WireFault.TooDeep q) fault
    (faults_by place _ old too_deep (at + n - 1) q (on ∙ run_onward limit message.come fs token at n bytes _ h g) from) e

pub step_none : (j : Judged) (r : Reader) (o : Option Ben) → o ≡ None → Steps j r (Ok o) → j ≡ reads (cut_view r)
step_none j r o e s = subst (λ o. Steps j r (Ok o)) e s

pub step_some : (j : Judged) (r : Reader) (o : Option Ben) (v : Ben) → o ≡ Some v → Steps j r (Ok o) → (j ≡ whole (tree_view v)) × (cut_view r ≡ start)
step_some j r o v e s = subst (λ o. Steps j r (Ok o)) e s

begin_digit : (f : OpenContainer) (fs : List OpenContainer) (d : ℕ) → begin put_sorted (f ∷ fs) (Sign.Digit d) ≡ goes (f ∷ fs) (count d)
begin_digit (in_list ts) fs d = refl
begin_digit (at_key ps) fs d = refl
begin_digit (at_value ps key) fs d = refl

first : (bytes : List ℕ) (at : ℕ) → at < length bytes → (more : List ℕ) × (drop at bytes ≡ slice_index_or bytes at 0 ∷ more)
first [] at h = absurd (omega arith)
first (b ∷ bs) zero h = (bs, refl)
first (b ∷ bs) (suc at) h = first bs at (omega arith)

one_byte : (bytes : List ℕ) (at : ℕ) → at < length bytes → take (at + 1 - at) (drop at bytes) ≡ slice_index_or bytes at 0 ∷ []
one_byte bytes at h =
    let f = first bytes at h in
    let one : at + 1 - at ≡ 1 = omega arith in
    ap (λ n. take n (drop at bytes)) one ∙ ap (take 1) f.1

part_step : (fs : List OpenContainer) (d : ℕ) (run : List ℕ) → 0 < length run → step_run put_sorted fs (part [] d) run ≡ text_bytes put_sorted fs [] d run
part_step fs d [] some = absurd (omega arith)
part_step fs d (b ∷ run) some = refl

-- a short string is read as its bytes
abbrev pub ReadsShort : ℕ → ℕ → List OpenContainer → Token → ℕ → ℕ → List ℕ → Type 0
ReadsShort limit come fs token at d bytes =
    stream_reading limit put_sorted come (cut fs token) at (drop at bytes)
    ≡ onward (within_limit limit (judged (put put_sorted fs (string (take (at + 2 + d - (at + 2)) (drop (at + 2) bytes))))))
    (at + 2 + d - 1) (λ c. stream_reading limit put_sorted (come + (2 + d)) c (at + 2 + d) (drop (at + 2 + d) bytes))
    (stream_reading limit put_sorted 0 start (at + 2 + d) (drop (at + 2 + d) bytes))

short_onward : (limit come at d : ℕ) (f : OpenContainer) (fs : List OpenContainer) (bytes : List ℕ) → 0 < d → at + 2 + d ≤ length bytes → come + 2 + d ≤ limit
    → sign_of (slice_index_or bytes at 0) ≡ Sign.Digit d → slice_index_or bytes (at + 1) 0 ≡ 58
    → ReadsShort limit come (f ∷ fs) between at d bytes
short_onward limit come at d f fs bytes some within room digit colon =
    let small : nat_lt limit d ≡ false = grind (arith, nat_tests) in
    let positive : (d == 0) ≡ false = grind (arith, nat_tests) in
    let runs1 : Runs limit come between at 1 bytes = record { some = omega arith; within = omega arith; takes = refl; room = omega arith } in
    let e1 : outcome limit (f ∷ fs) between at 1 bytes ≡ reads (cut (f ∷ fs) (count d)) =
    ap (λ run. within_limit limit (judged (step_run put_sorted (f ∷ fs) between run))) (one_byte bytes at (omega arith))
    ∙ ap (λ x. within_limit limit (judged (begin put_sorted (f ∷ fs) x))) digit
    ∙ ap (λ x. within_limit limit (judged x)) (begin_digit f fs d)
    ∙ ap (λ t. cond t (refuses too_long) (reads (cut (f ∷ fs) (count d)))) small in
    let runs2 : Runs limit (come + 1) (count d) (at + 1) 1 bytes = record { some = omega arith; within = omega arith; takes = refl; room = omega arith } in
    let e2 : outcome limit (f ∷ fs) (count d) (at + 1) 1 bytes ≡ reads (cut (f ∷ fs) (part [] d)) =
    ap (λ run. within_limit limit (judged (step_run put_sorted (f ∷ fs) (count d) run))) (one_byte bytes (at + 1) (omega arith))
    ∙ ap (λ x. within_limit limit (judged (length_digits put_sorted (f ∷ fs) d (sign_of x)))) colon
    ∙ ap (λ t. within_limit limit (judged (cond t (put put_sorted (f ∷ fs) (string [])) (goes (f ∷ fs) (part [] d))))) positive in
    let run = take (at + 2 + d - (at + 2)) (drop (at + 2) bytes) in
    let size : length run ≡ d = let a = length-take (at + 2 + d - (at + 2)) (drop (at + 2) bytes) in let b = length-drop (at + 2) bytes in omega arith in
    let over : nat_lt (length run) d ≡ false = grind (arith, nat_tests, size) in
    let runs3 : Runs limit (come + 1 + 1) (part [] d) (at + 2) d bytes = record { some = some; within = within; takes = omega arith; room = omega arith } in
    let e3 : outcome limit (f ∷ fs) (part [] d) (at + 2) d bytes ≡ within_limit limit (judged (put put_sorted (f ∷ fs) (string run))) =
    ap (λ e. within_limit limit (judged e)) (part_step (f ∷ fs) d run (omega arith))
    ∙ ap (λ t. within_limit limit (judged (cond t (goes (f ∷ fs) (part run (d - length run))) (put put_sorted (f ∷ fs) (string run))))) over in
    let all : come + 1 + 1 + d ≡ come + (2 + d) = omega arith in
    let next : at + 1 + 1 ≡ at + 2 = omega arith in
    run_onward limit come (f ∷ fs) between at 1 bytes _ runs1 e1
    ∙ run_onward limit (come + 1) (f ∷ fs) (count d) (at + 1) 1 bytes _ runs2 e2
    ∙ ap (λ k. stream_reading limit put_sorted (come + 1 + 1) (cut (f ∷ fs) (part [] d)) k (drop k bytes)) next
    ∙ run_onward limit (come + 1 + 1) (f ∷ fs) (part [] d) (at + 2) d bytes _ runs3 e3
    ∙ ap (λ k. onward (within_limit limit (judged (put put_sorted (f ∷ fs) (string run)))) (at + 2 + d - 1)
    (λ c. stream_reading limit put_sorted k c (at + 2 + d) (drop (at + 2 + d) bytes)) (stream_reading limit put_sorted 0 start (at + 2 + d) (drop (at + 2 + d) bytes))) all

some_frames : (fs : List OpenContainer) → 0 < length fs → (f : OpenContainer) × (outer : List OpenContainer) × (fs ≡ f ∷ outer)
some_frames [] h = absurd (omega arith)
some_frames (f ∷ fs) h = (f, fs, refl)

pub reads_short : (limit come at d : ℕ) (fs : List OpenContainer) (token : Token) (bytes : List ℕ) → token ≡ between → 0 < length fs → 0 < d → at + 2 + d ≤ length bytes → come + 2 + d ≤ limit
    → sign_of (slice_index_or bytes at 0) ≡ Sign.Digit d → slice_index_or bytes (at + 1) 0 ≡ 58
    → ReadsShort limit come fs token at d bytes
reads_short limit come at d fs token bytes is inside some within room digit colon =
    let s = some_frames fs inside in
    subst (λ t. ReadsShort limit come fs t at d bytes) (sym is)
    (subst (λ fs. ReadsShort limit come fs between at d bytes) (sym s.2) (short_onward limit come at d s.0 s.1 bytes some within room digit colon))

-- a short string is read
pub short_in : (limit come at d : ℕ) (fs : List OpenContainer) (token : Token) (bytes : List ℕ) (c : Cut) (old : List Ben) → ReadsShort limit come fs token at d bytes
    → within_limit limit (judged (put put_sorted fs (string (take (at + 2 + d - (at + 2)) (drop (at + 2) bytes))))) ≡ reads c
    → Advances (stream_reading limit put_sorted come (cut fs token) at (drop at bytes)) (stream_reading limit put_sorted (come + (2 + d)) c (at + 2 + d) (drop (at + 2 + d) bytes)) old old
short_in limit come at d fs token bytes c old is e =
    same_reading _ _ old (is ∙ ap (λ j. onward j (at + 2 + d - 1) (λ c. stream_reading limit put_sorted (come + (2 + d)) c (at + 2 + d) (drop (at + 2 + d) bytes)) (stream_reading limit put_sorted 0 start (at + 2 + d) (drop (at + 2 + d) bytes))) e)

-- behind a string no length is open
small_by : (limit : ℕ) (fs : List OpenContainer) (c : Cut) → reads (cut fs between) ≡ reads c → within_limit limit (reads c) ≡ reads c
small_by limit fs c e = subst (λ j. within_limit limit j ≡ j) e refl

small_unless : (t : Bool) (limit : ℕ) (fs : List OpenContainer) (c : Cut) → cond t (refuses malformed) (reads (cut fs between)) ≡ reads c → within_limit limit (reads c) ≡ reads c
small_unless true limit fs c e = absurd (cc)
small_unless false limit fs c e = small_by limit fs c e

pub small_put : (limit : ℕ) (fs : List OpenContainer) (bytes : List ℕ) (c : Cut) → judged (put put_sorted fs (string bytes)) ≡ reads c → within_limit limit (reads c) ≡ reads c
small_put limit [] bytes c e = absurd (let f : whole (string bytes) ≡ reads c = e in cc)
small_put limit (in_list ts ∷ fs) bytes c e = small_by limit (in_list (add_tree ts (string bytes)) ∷ fs) c e
small_put limit (at_key ps ∷ fs) bytes c e = small_unless (holds_key bytes ps) limit (at_value ps bytes ∷ fs) c e
small_put limit (at_value ps key ∷ fs) bytes c e = small_by limit (at_key (put_sorted ps key (string bytes)) ∷ fs) c e

-- a short string meets a rule
pub faults_short : (limit place : ℕ) (message : Unfinished) (at : ℕ) (old : List Ben) (bytes : List ℕ) (j : Judged) (same : Cut → StreamReading) (fresh : StreamReading) (refusal : WireFaultKind) (k q : ℕ) (fault : WireFault)
    → limit < 2 ^ 64 → ahead limit bytes message at ≡ onward (within_limit limit j) k same fresh → Refuses j refusal → q ≡ counted_place (place + k) → fault ≡ refusal_at refusal q
    → Stops limit place bytes message at old old fault
faults_short limit place message at old bytes j same fresh refusals.NoMemory k q fault small is g from e = stops_by limit place bytes message at old old WireFault.NoMemory fault tt e
faults_short limit place message at old bytes j same fresh refusals.Malformed k q fault small is g from e =
    stops_by limit place bytes message at old old (WireFault.Malformed q) fault (faults_by place _ old malformed k q (is ∙ ap (λ j. onward (within_limit limit j) k same fresh) g) from) e
faults_short limit place message at old bytes j same fresh refusals.TooLong k q fault small is g from e =
    stops_by limit place bytes message at old old (WireFault.TooLong q) fault (faults_by place _ old too_long k q (is ∙ ap (λ j. onward j k same fresh) (g limit small)) from) e
faults_short limit place message at old bytes j same fresh refusals.TooDeep k q fault small is g from e =
    stops_by limit place bytes message at old old (WireFault.TooDeep q) fault (faults_by place _ old too_deep k q (is ∙ ap (λ j. onward (within_limit limit j) k same fresh) g) from) e
