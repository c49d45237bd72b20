-- A stream has one reading.
use Rattle.std.proofs.Common.{◌≡◌, ℕ, suc, ◌+◌, List, [], ◌∷◌, ◌++◌, length, drop, refl, sym, ap}
use Rattle.std.proofs.Common.{◌∙◌, subst, append_assoc, length-append, arith}
use Rattle.std.proofs.Math.Seq.{drop-append_seam}
use Rattle.bencode_wire.specs.Tree.{Tree}
use Rattle.bencode_wire.specs.Spelling.{put_sorted}
use Rattle.bencode_wire.specs.Inside.Cut.{Cut}
use Rattle.bencode_wire.specs.Inside.ByteSteps.{bite, Judged, reads, whole, refuses, StreamReading}
use Rattle.bencode_wire.specs.Inside.ByteSteps.{ReadingEnd, rests, faults, ended_reading}
use Rattle.bencode_wire.specs.Inside.ByteSteps.{with_message_first, onward, stream_reading, start}
use Rattle.bencode_wire.specs.Inside.Beginnings.{Adding}
use Rattle.bencode_wire.specs.Stream.{StreamEnding, rest, fault, Ends, Streams}
use Rattle.bencode_wire.proofs.Kept.{rest_kept, kept_meets, message_read}
use Rattle.bencode_wire.proofs.Appends.{stream_reading-append}

-- a reading of bytes that lie further on
abbrev moved_end : ℕ → ReadingEnd → ReadingEnd
moved_end k (rests n c) = rests n c
moved_end k (faults rule i) = faults rule (k + i)

abbrev moved : ℕ → StreamReading → StreamReading
moved k r = record { messages = r.messages; end = moved_end k r.end }

onward-moved : (j : Judged) (k at : ℕ) (same other : Cut → StreamReading) (fresh late : StreamReading) → ((c : Cut) → same c ≡ moved k (other c)) → fresh ≡ moved k late
    → onward j (k + at) same fresh ≡ moved k (onward j at other late)
onward-moved (reads c) k at same other fresh late e f = e c
onward-moved (whole t) k at same other fresh late e f = ap (with_message_first t) f
onward-moved (refuses rule) k at same other fresh late e f = refl

stream_reading-moved : (limit : ℕ) (add : Adding) (before : ℕ) (c : Cut) (k at : ℕ) (bs : List ℕ) → stream_reading limit add before c (k + at) bs ≡ moved k (stream_reading limit add before c at bs)
stream_reading-moved limit add before c k at [] = refl
stream_reading-moved limit add before c k at (b ∷ bs) =
    let step : k + at + 1 ≡ k + (at + 1) = omega arith in
    onward-moved (bite limit add before c (b ∷ [])) k at _ _ _ _
    (λ next. ap (λ i. stream_reading limit add (before + 1) next i bs) step ∙ stream_reading-moved limit add (before + 1) next k (at + 1) bs)
    (ap (λ i. stream_reading limit add 0 start i bs) step ∙ stream_reading-moved limit add 0 start k (at + 1) bs)

none_some : (t : Tree) (ts : List Tree) → [] ≡ t ∷ ts → ⊥
none_some t ts e = cc

onward-message : (limit : ℕ) (add : Adding) (j : Judged) (before at : ℕ) (t : Tree) (bs more : List ℕ)
    → onward j at (λ next. stream_reading limit add (before + 1) next (at + 1) bs) (stream_reading limit add 0 start (at + 1) bs) ≡ record { messages = t ∷ []; end = rests 0 start }
    → ((next : Cut) → stream_reading limit add (before + 1) next (at + 1) bs ≡ record { messages = t ∷ []; end = rests 0 start }
    → stream_reading limit add (before + 1) next (at + 1) (bs ++ more) ≡ with_message_first t (stream_reading limit add 0 start (at + 1 + length bs) more))
    → onward j at (λ next. stream_reading limit add (before + 1) next (at + 1) (bs ++ more)) (stream_reading limit add 0 start (at + 1) (bs ++ more))
    ≡ with_message_first t (stream_reading limit add 0 start (at + suc (length bs)) more)
onward-message limit add (reads next) before at t bs more e same =
    let i : at + 1 + length bs ≡ at + suc (length bs) = omega arith in
    same next e ∙ ap (λ k. with_message_first t (stream_reading limit add 0 start k more)) i
onward-message limit add (whole u) before at t bs more e same =
    let r = stream_reading limit add 0 start (at + 1) bs in
    let all : u ∷ r.messages ≡ t ∷ [] = ap (λ r. r.messages) e in
    let first : u ≡ t = cc in
    let none : r.messages ≡ [] = cc in
    let end : r.end ≡ rests 0 start = ap (λ r. r.end) e in
    let rest_of : r ≡ ended_reading (rests 0 start) = ap (λ ms. record { messages = ms; end = r.end }) none ∙ ap (λ x. record { messages = []; end = x }) end in
    let i : at + 1 + length bs ≡ at + suc (length bs) = omega arith in
    ap (λ v. with_message_first v (stream_reading limit add 0 start (at + 1) (bs ++ more))) first
    ∙ ap (with_message_first t) (stream_reading-append limit add 0 start (at + 1) 0 start bs more rest_of ∙ ap (λ k. stream_reading limit add 0 start k more) i)
onward-message limit add (refuses rule) before at t bs more e same = absurd (none_some t [] (ap (λ r. r.messages) e))

-- behind a message a stream begins anew
message-append : (limit : ℕ) (add : Adding) (before : ℕ) (c : Cut) (at : ℕ) (t : Tree) (bs more : List ℕ)
    → stream_reading limit add before c at bs ≡ record { messages = t ∷ []; end = rests 0 start }
    → stream_reading limit add before c at (bs ++ more) ≡ with_message_first t (stream_reading limit add 0 start (at + length bs) more)
message-append limit add before c at t [] more e = absurd (none_some t [] (ap (λ r. r.messages) e))
message-append limit add before c at t (b ∷ bs) more e =
    onward-message limit add (bite limit add before c (b ∷ [])) before at t bs more e (λ next h. message-append limit add (before + 1) next (at + 1) t bs more h)

-- what a reading says of a stream's end
abbrev Tells : List ℕ → StreamEnding → ReadingEnd → Type 0
Tells bytes (rest m) end = (c : Cut) × (front : List ℕ) × (end ≡ rests (length m) c) × (bytes ≡ front ++ m)
Tells bytes (fault rule at) end = end ≡ faults rule at

tells_behind : (m more : List ℕ) (e : StreamEnding) (end : ReadingEnd) → Tells more e end → Tells (m ++ more) e end
tells_behind m more (rest r) end h = (h.0, m ++ h.1, h.2, ap (λ x. m ++ x) h.3 ∙ sym (append_assoc m h.1 r))
tells_behind m more (fault rule at) end h = h

ends_read : (limit place : ℕ) (bytes : List ℕ) (e : StreamEnding) → Ends limit place bytes e
    → let r = stream_reading limit put_sorted 0 start place bytes in (r.messages ≡ []) × Tells bytes e r.end
ends_read limit place bytes (rest m) h =
    let k = rest_kept limit m h.0 in
    let none : place ≡ place + 0 = omega arith in
    let is : stream_reading limit put_sorted 0 start place bytes ≡ ended_reading (rests (length m) k.0) =
    ap (λ bs. stream_reading limit put_sorted 0 start place bs) h.1 ∙ ap (λ i. stream_reading limit put_sorted 0 start i m) none
    ∙ stream_reading-moved limit put_sorted 0 start place 0 m ∙ ap (moved place) k.1.reads in
    (ap (λ r. r.messages) is, (k.0, [], ap (λ r. r.end) is, h.1))
ends_read limit place bytes (fault rule at) h =
    let m = h.0 in
    let k = rest_kept limit m h.3 in
    let c = k.0 in
    let none : place ≡ place + 0 = omega arith in
    let part : stream_reading limit put_sorted 0 start place m ≡ ended_reading (rests (length m) c) =
    ap (λ i. stream_reading limit put_sorted 0 start i m) none ∙ stream_reading-moved limit put_sorted 0 start place 0 m ∙ ap (moved place) k.1.reads in
    let j = bite limit put_sorted (length m) c (h.1 ∷ []) in
    let refuse : j ≡ refuses rule = kept_meets limit m c h.1 rule k.1 h.5 in
    let is : stream_reading limit put_sorted 0 start place bytes ≡ ended_reading (faults rule at) =
    ap (λ bs. stream_reading limit put_sorted 0 start place bs) h.4
    ∙ stream_reading-append limit put_sorted 0 start place (length m) c m (h.1 ∷ h.2) part
    ∙ ap (λ i. onward i (place + length m) (λ next. stream_reading limit put_sorted (length m + 1) next (place + length m + 1) h.2) (stream_reading limit put_sorted 0 start (place + length m + 1) h.2)) refuse
    ∙ ap (λ k. ended_reading (faults rule k)) (sym h.6) in
    (ap (λ r. r.messages) is, ap (λ r. r.end) is)

streams_read : (limit place : ℕ) (bytes : List ℕ) (ms : List Tree) (e : StreamEnding) → Streams limit place bytes ms e
    → let r = stream_reading limit put_sorted 0 start place bytes in (r.messages ≡ ms) × Tells bytes e r.end
streams_read limit place bytes [] e h = ends_read limit place bytes e h
streams_read limit place bytes (t ∷ ms) e h =
    let m = h.0 in
    let more = h.1 in
    let none : place ≡ place + 0 = omega arith in
    let message : stream_reading limit put_sorted 0 start place m ≡ record { messages = t ∷ []; end = rests 0 start } =
    ap (λ i. stream_reading limit put_sorted 0 start i m) none ∙ stream_reading-moved limit put_sorted 0 start place 0 m ∙ ap (moved place) (message_read limit t m h.2) in
    let is : stream_reading limit put_sorted 0 start place bytes ≡ with_message_first t (stream_reading limit put_sorted 0 start (place + length m) more) =
    ap (λ bs. stream_reading limit put_sorted 0 start place bs) h.3 ∙ message-append limit put_sorted 0 start place t m more message in
    let later = streams_read limit (place + length m) more ms e h.4 in (
      ap (λ r. r.messages) is ∙ ap (λ xs. t ∷ xs) later.0,
      subst (λ r. Tells bytes e r) (sym (ap (λ r. r.end) is)) (subst (λ bs. Tells bs e (stream_reading limit put_sorted 0 start (place + length m) more).end) (sym h.3)
          (tells_behind m more e (stream_reading limit put_sorted 0 start (place + length m) more).end later.1)),
    )

tells_same : (bytes : List ℕ) (e f : StreamEnding) (end : ReadingEnd) → Tells bytes e end → Tells bytes f end → e ≡ f
tells_same bytes (rest m) (rest n) end g h =
    let ends : rests (length m) g.0 ≡ rests (length n) h.0 = sym g.2 ∙ h.2 in
    let long : length m ≡ length n = cc in
    let size : length bytes ≡ length g.1 + length m = ap length g.3 ∙ length-append g.1 m in
    let other : length bytes ≡ length h.1 + length n = ap length h.3 ∙ length-append h.1 n in
    let fronts : length g.1 ≡ length h.1 = omega arith in
    ap rest (sym (drop-append_seam g.1 m) ∙ ap (λ x. drop (length g.1) x) (sym g.3) ∙ ap (λ k. drop k bytes) fronts ∙ ap (λ x. drop (length h.1) x) h.3 ∙ drop-append_seam h.1 n)
tells_same bytes (rest m) (fault rule at) end g h = let ends : rests (length m) g.0 ≡ faults rule at = sym g.2 ∙ h in absurd (cc)
tells_same bytes (fault rule at) (rest n) end g h = let ends : rests (length n) h.0 ≡ faults rule at = sym h.2 ∙ g in absurd (cc)
tells_same bytes (fault rule at) (fault other place) end g h = let ends : faults rule at ≡ faults other place = sym g ∙ h in cc

-- the messages, the end, the fault and the place of a stream are known
pub streams_same : (limit : ℕ) (bytes : List ℕ) (ms ns : List Tree) (e f : StreamEnding) → Streams limit 0 bytes ms e → Streams limit 0 bytes ns f → (ms ≡ ns) × (e ≡ f)
streams_same limit bytes ms ns e f g h =
    let first = streams_read limit 0 bytes ms e g in
    let other = streams_read limit 0 bytes ns f h in
    (sym first.0 ∙ other.0, tells_same bytes e f (stream_reading limit put_sorted 0 start 0 bytes).end first.1 other.1)
