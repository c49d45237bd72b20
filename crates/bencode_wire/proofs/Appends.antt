-- Where bytes are part of a message, reading goes on from what they are read as.
use Rattle.std.proofs.Common.{◌≡◌, ℕ, suc, ◌+◌, List, [], ◌∷◌, ◌++◌, length, refl, ap, ◌∙◌, arith}
use Rattle.bencode_wire.specs.Inside.Cut.{Cut}
use Rattle.bencode_wire.specs.Inside.ByteSteps.{bite, Judged, reads, whole, refuses, rests, faults}
use Rattle.bencode_wire.specs.Inside.ByteSteps.{ended_reading, onward, stream_reading, start}
use Rattle.bencode_wire.specs.Inside.Beginnings.{Adding}

pub same_reads : (limit : ℕ) (add : Adding) (a b : ℕ) (c d : Cut) (i j : ℕ) (bs : List ℕ) → a ≡ b → c ≡ d → i ≡ j → stream_reading limit add a c i bs ≡ stream_reading limit add b d j bs
same_reads limit add a b c d i j bs e f g =
    ap (λ k. stream_reading limit add k c i bs) e ∙ ap (λ k. stream_reading limit add b k i bs) f ∙ ap (λ k. stream_reading limit add b d k bs) g

rests_before : (a b : ℕ) (c d : Cut) → rests a c ≡ rests b d → a ≡ b
rests_before a b c d e = cc

rests_cut : (a b : ℕ) (c d : Cut) → rests a c ≡ rests b d → c ≡ d
rests_cut a b c d e = cc

onward-append : (limit : ℕ) (add : Adding) (j : Judged) (before at n : ℕ) (d : Cut) (xs ys : List ℕ)
    → onward j at (λ next. stream_reading limit add (before + 1) next (at + 1) xs) (stream_reading limit add 0 start (at + 1) xs) ≡ ended_reading (rests n d)
    → ((next : Cut) → stream_reading limit add (before + 1) next (at + 1) xs ≡ ended_reading (rests n d)
    → stream_reading limit add (before + 1) next (at + 1) (xs ++ ys) ≡ stream_reading limit add n d (at + 1 + length xs) ys)
    → onward j at (λ next. stream_reading limit add (before + 1) next (at + 1) (xs ++ ys)) (stream_reading limit add 0 start (at + 1) (xs ++ ys)) ≡ stream_reading limit add n d (at + suc (length xs)) ys
onward-append limit add (reads next) before at n d xs ys e more =
    more next e ∙ same_reads limit add n n d d (at + 1 + length xs) (at + suc (length xs)) ys refl refl (omega arith)
onward-append limit add (whole t) before at n d xs ys e more = let none : t ∷ (stream_reading limit add 0 start (at + 1) xs).messages ≡ [] = ap (λ r. r.messages) e in absurd (cc)
onward-append limit add (refuses rule) before at n d xs ys e more = let other : faults rule at ≡ rests n d = ap (λ r. r.end) e in absurd (cc)

-- where bytes are part of a message, reading goes on from what they are read as
pub stream_reading-append : (limit : ℕ) (add : Adding) (before : ℕ) (c : Cut) (at n : ℕ) (d : Cut) (xs ys : List ℕ)
    → stream_reading limit add before c at xs ≡ ended_reading (rests n d)
    → stream_reading limit add before c at (xs ++ ys) ≡ stream_reading limit add n d (at + length xs) ys
stream_reading-append limit add before c at n d [] ys e =
    let same : rests before c ≡ rests n d = ap (λ r. r.end) e in
    same_reads limit add before n c d at (at + 0) ys (rests_before before n c d same) (rests_cut before n c d same) (omega arith)
stream_reading-append limit add before c at n d (b ∷ xs) ys e =
    onward-append limit add (bite limit add before c (b ∷ [])) before at n d xs ys e (λ next h. stream_reading-append limit add (before + 1) next (at + 1) n d xs ys h)
