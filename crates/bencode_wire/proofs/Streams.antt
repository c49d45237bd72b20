-- A reading from a message's start is a stream, and streams are put together.
use Rattle.std.proofs.Common.{◌≡◌, ℕ, ◌+◌, ◌-◌, ◌≤◌, List, [], ◌∷◌, ◌++◌, length, refl, sym, ap}
use Rattle.std.proofs.Common.{◌∙◌, subst, append_assoc, append-nil, length-append, arith}
use Rattle.bencode_wire.specs.Tree.{Tree}
use Rattle.bencode_wire.specs.Spelling.{put_sorted}
use Rattle.bencode_wire.specs.Inside.Cut.{Cut}
use Rattle.bencode_wire.specs.Fault.{StreamRule}
use Rattle.bencode_wire.specs.Inside.ByteSteps.{bite, Judged, reads, whole, refuses, StreamReading}
use Rattle.bencode_wire.specs.Inside.ByteSteps.{ReadingEnd, rests, faults, ended_reading, onward}
use Rattle.bencode_wire.specs.Inside.ByteSteps.{stream_reading, start}
use Rattle.bencode_wire.proofs.Appends.{same_reads}
use Rattle.bencode_wire.specs.Stream.{IsMessage, StreamEnding, rest, fault, IsRest, Streams}
use Rattle.bencode_wire.proofs.Kept.{Kept, kept_none, kept_reads, kept_whole, kept_refuses}
use Rattle.bencode_wire.proofs.Kept.{rest_of_kept}

-- what a reading of all bytes of a stream from a place on has found
abbrev pub Found : ℕ → ℕ → List ℕ → List Tree → ReadingEnd → Type 0
Found limit place bytes ms (rests n c) =
    (front : List ℕ) × (m : List ℕ) × (bytes ≡ front ++ m) × (length m ≡ n) × (stream_reading limit put_sorted 0 start 0 m ≡ ended_reading (rests n c)) × Streams limit place bytes ms (rest m)
Found limit place bytes ms (faults rule at) = Streams limit place bytes ms (fault rule at)

found_more : (limit place : ℕ) (m more : List ℕ) (t : Tree) (ms : List Tree) (end : ReadingEnd) → IsMessage limit t m
    → Found limit (place + length m) more ms end → Found limit place (m ++ more) (t ∷ ms) end
found_more limit place m more t ms (rests n c) is found =
    (m ++ found.0, found.1, ap (λ bs. m ++ bs) found.2 ∙ sym (append_assoc m found.0 found.1), found.3, found.4, (m, more, is, refl, found.5))
found_more limit place m more t ms (faults rule at) is found = (m, more, is, refl, found)

abbrev pub FoundBy : ℕ → ℕ → List ℕ → StreamReading → Type 0
FoundBy limit place bytes r = Found limit place bytes r.messages r.end

found_on : (limit place : ℕ) (m : List ℕ) (b : ℕ) (bs : List ℕ) (c : Cut) (j : Judged)
    → Kept limit m c
    → bite limit put_sorted (length m) c (b ∷ []) ≡ j
    → ((next : Cut) → Kept limit (m ++ b ∷ []) next
    → FoundBy limit place ((m ++ b ∷ []) ++ bs) (stream_reading limit put_sorted (length (m ++ b ∷ [])) next (place + length (m ++ b ∷ [])) bs))
    → FoundBy limit (place + length (m ++ b ∷ [])) bs (stream_reading limit put_sorted 0 start (place + length (m ++ b ∷ [])) bs)
    → FoundBy limit place (m ++ b ∷ bs)
    (onward j (place + length m) (λ next. stream_reading limit put_sorted (length m + 1) next (place + length m + 1) bs) (stream_reading limit put_sorted 0 start (place + length m + 1) bs))
found_on limit place m b bs c (reads next) k is same fresh =
    let long : length (m ++ b ∷ []) ≡ length m + 1 = length-append m (b ∷ []) in
    subst (λ bytes. FoundBy limit place bytes (stream_reading limit put_sorted (length m + 1) next (place + length m + 1) bs)) (append_assoc m (b ∷ []) bs)
    (subst (λ r. FoundBy limit place ((m ++ b ∷ []) ++ bs) r)
    (same_reads limit put_sorted _ _ next next _ _ bs long refl (omega arith)) (same next (kept_reads limit m c b next k is)))
found_on limit place m b bs c (whole t) k is same fresh =
    let long : length (m ++ b ∷ []) ≡ length m + 1 = length-append m (b ∷ []) in
    let r = stream_reading limit put_sorted 0 start (place + length m + 1) bs in
    let found : FoundBy limit (place + length (m ++ b ∷ [])) bs r =
    subst (λ r. FoundBy limit (place + length (m ++ b ∷ [])) bs r) (same_reads limit put_sorted 0 0 start start _ _ bs refl refl (omega arith)) fresh in
    subst (λ bytes. Found limit place bytes (t ∷ r.messages) r.end) (append_assoc m (b ∷ []) bs)
    (found_more limit place (m ++ b ∷ []) bs t r.messages r.end (kept_whole limit m c b t k is) found)
found_on limit place m b bs c (refuses rule) k is same fresh =
    (m, b, bs, rest_of_kept limit m c k, refl, kept_refuses limit m c b rule k is, refl)

-- reading goes on behind part of a message
pub found_behind : (limit place : ℕ) (m bs : List ℕ) (c : Cut) → Kept limit m c
    → FoundBy limit place (m ++ bs) (stream_reading limit put_sorted (length m) c (place + length m) bs)
found_behind limit place m [] c k = ([], m, append-nil m, refl, k.reads, (rest_of_kept limit m c k, append-nil m))
found_behind limit place m (b ∷ bs) c k =
    found_on limit place m b bs c (bite limit put_sorted (length m) c (b ∷ [])) k refl
    (λ next h. found_behind limit place (m ++ b ∷ []) bs next h)
    (let p = place + length (m ++ b ∷ []) in
    subst (λ r. FoundBy limit p bs r) (same_reads limit put_sorted 0 0 start start (p + 0) p bs refl refl (omega arith))
    (found_behind limit p [] bs start (kept_none limit)))

-- the rest is part of the stream
pub rest_within : (limit place : ℕ) (all m : List ℕ) (ms : List Tree) → Streams limit place all ms (rest m) → length m ≤ length all
rest_within limit place all m [] h = let long = ap length h.1 in omega arith
rest_within limit place all m (t ∷ ms) h =
    let later = rest_within limit (place + length h.0) h.1 m ms h.4 in
    let long : length all ≡ length h.0 + length h.1 = ap length h.3 ∙ length-append h.0 h.1 in
    omega arith

-- the rest is one
pub rest_is : (limit place : ℕ) (all m : List ℕ) (ms : List Tree) → Streams limit place all ms (rest m) → IsRest limit m
rest_is limit place all m [] h = h.0
rest_is limit place all m (t ∷ ms) h = rest_is limit (place + length h.0) h.1 m ms h.4

-- a stream that ends with a rest goes on
pub streams_join : (limit place : ℕ) (all m more : List ℕ) (ms ns : List Tree) (end : StreamEnding) → Streams limit place all ms (rest m)
    → Streams limit (place + (length all - length m)) (m ++ more) ns end → Streams limit place (all ++ more) (ms ++ ns) end
streams_join limit place all m more [] ns end h g =
    let whole_rest : all ≡ m = h.1 in
    let p : place + (length all - length m) ≡ place = let long = ap length whole_rest in omega arith in
    subst (λ bytes. Streams limit place bytes ns end) (ap (λ bs. bs ++ more) (sym whole_rest)) (subst (λ k. Streams limit k (m ++ more) ns end) p g)
streams_join limit place all m more (t ∷ ms) ns end h g =
    let later = rest_within limit (place + length h.0) h.1 m ms h.4 in
    let long : length all ≡ length h.0 + length h.1 = ap length h.3 ∙ length-append h.0 h.1 in
    let p : place + (length all - length m) ≡ place + length h.0 + (length h.1 - length m) = omega arith in (
      h.0,
      h.1 ++ more,
      h.2,
      ap (λ bs. bs ++ more) h.3 ∙ append_assoc h.0 h.1 more,
      streams_join limit (place + length h.0) h.1 m more ms ns end h.4 (subst (λ k. Streams limit k (m ++ more) ns end) p g),
    )

-- a stream that ends with a fault stays so
pub streams_stay : (limit place : ℕ) (all more : List ℕ) (ms : List Tree) (rule : StreamRule) (at : ℕ) → Streams limit place all ms (fault rule at)
    → Streams limit place (all ++ more) ms (fault rule at)
streams_stay limit place all more [] rule at h =
    (h.0, h.1, h.2 ++ more, h.3, ap (λ bs. bs ++ more) h.4 ∙ append_assoc h.0 (h.1 ∷ h.2) more, h.5, h.6)
streams_stay limit place all more (t ∷ ms) rule at h =
    (h.0, h.1 ++ more, h.2, ap (λ bs. bs ++ more) h.3 ∙ append_assoc h.0 h.1 more, streams_stay limit (place + length h.0) h.1 more ms rule at h.4)

stream_of : (limit : ℕ) (bytes : List ℕ) (ms : List Tree) (end : ReadingEnd) → Found limit 0 bytes ms end
    → (ts : List Tree) × (ending : StreamEnding) × Streams limit 0 bytes ts ending
stream_of limit bytes ms (rests n c) found = (ms, rest found.1, found.5)
stream_of limit bytes ms (faults rule at) found = (ms, fault rule at, found)

-- a stream has a reading
pub stream_read : (limit : ℕ) (bytes : List ℕ) → (ts : List Tree) × (ending : StreamEnding) × Streams limit 0 bytes ts ending
stream_read limit bytes =
    let r = stream_reading limit put_sorted 0 start 0 bytes in
    stream_of limit bytes r.messages r.end (found_behind limit 0 [] bytes start (kept_none limit))
