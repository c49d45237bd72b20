-- Reading byte by byte: what a byte makes of a cut. No public clause speaks of it.
use Rattle.std.specs.Prelude.{◌≡◌, ℕ, ◌≤◌, ◌+◌, Bool, false, cond, nat_lt, nat_le, List, []}
use Rattle.std.specs.Prelude.{◌∷◌, length}
use Rattle.bencode_wire.specs.Tree.{Tree, holds_key}
use Rattle.bencode_wire.specs.Inside.Cut.{OpenContainer, at_value, Token, between, after_i}
use Rattle.bencode_wire.specs.Inside.Cut.{after_minus}
use Rattle.bencode_wire.specs.Inside.Cut.{digits}
use Rattle.bencode_wire.specs.Inside.Cut.{count, part, Cut, cut}
use Rattle.bencode_wire.specs.Inside.Sign.{sign_of}
use Rattle.bencode_wire.specs.Fault.{StreamRule, malformed, too_long, too_deep}
use Rattle.bencode_wire.specs.Inside.ByteEffects.{integer_open, integer_minus}
use Rattle.bencode_wire.specs.Inside.Beginnings.{ByteEffect, Adding, begin, goes, opens, names}
use Rattle.bencode_wire.specs.Inside.Beginnings.{ends}
use Rattle.bencode_wire.specs.Inside.Beginnings.{stuck}
use Rattle.bencode_wire.specs.Inside.ByteEffects.{integer_digits, length_digits, text_bytes}
use Rattle.bencode_wire.specs.declared.frames.TheConstants.{MAX_NESTING}

-- what a byte comes to by the rules
pub data Judged : Type 0 where
  reads : Cut → Judged
  whole : Tree → Judged
  refuses : StreamRule → Judged

abbrev pub judged : ByteEffect → Judged
judged (goes fs token) = reads (cut fs token)
judged (opens f fs) =
    cond (nat_lt (length fs) MAX_NESTING) (reads (cut (f ∷ fs) between)) (refuses too_deep)
judged (names ps key fs) = cond (holds_key key ps) (refuses malformed)
    (reads (cut (at_value ps key ∷ fs) between))
judged (ends t) = whole t
judged stuck = refuses malformed

-- before a message
abbrev pub start : Cut
start = cut [] between

-- what a run of bytes makes of a cut: one byte, or some of a string
abbrev pub step_run : Adding → List OpenContainer → Token → List ℕ → ByteEffect
step_run add fs token [] = stuck
step_run add fs between (b ∷ bs) = begin add fs (sign_of b)
step_run add fs after_i (b ∷ bs) = integer_open fs (sign_of b)
step_run add fs after_minus (b ∷ bs) = integer_minus fs (sign_of b)
step_run add fs (digits negative n) (b ∷ bs) = integer_digits add fs negative n (sign_of b)
step_run add fs (count n) (b ∷ bs) = length_digits add fs n (sign_of b)
step_run add fs (part bytes left) (b ∷ bs) = text_bytes add fs bytes left (b ∷ bs)

-- how many bytes may come as one run
abbrev pub TakesRun : Token → ℕ → Type 0
TakesRun (part bytes left) n = n ≤ left
TakesRun between n = n ≡ 1
TakesRun after_i n = n ≡ 1
TakesRun after_minus n = n ≡ 1
TakesRun (digits negative m) n = n ≡ 1
TakesRun (count m) n = n ≡ 1

-- whether the digits of a string's length are above the limit
abbrev pub is_large_token : ℕ → Token → Bool
is_large_token limit between = false
is_large_token limit after_i = false
is_large_token limit after_minus = false
is_large_token limit (digits negative n) = false
is_large_token limit (count n) = nat_lt limit n
is_large_token limit (part bytes left) = false

abbrev pub is_large : ℕ → Cut → Bool
is_large limit (cut fs token) = is_large_token limit token

abbrev pub within_limit : ℕ → Judged → Judged
within_limit limit (reads c) = cond (is_large limit c) (refuses too_long) (reads c)
within_limit limit (whole t) = whole t
within_limit limit (refuses rule) = refuses rule

-- what a run makes of a cut, behind `before` bytes of the message
abbrev pub bite : ℕ → Adding → ℕ → Cut → List ℕ → Judged
bite limit add before (cut fs token) run =
    cond (nat_le limit before) (refuses too_long)
    (within_limit limit (judged (step_run add fs token run)))

-- how reading ends: `before` bytes of an unfinished message have come, or a rule is met at an index
pub data ReadingEnd : Type 0 where
  rests : ℕ → Cut → ReadingEnd
  faults : StreamRule → ℕ → ReadingEnd

pub record StreamReading : Type 0 where
  pub messages : List Tree
  pub end : ReadingEnd

abbrev pub ended_reading : ReadingEnd → StreamReading
ended_reading e = record { messages = []; end = e }

abbrev pub with_message_first : Tree → StreamReading → StreamReading
with_message_first t r = record { messages = t ∷ r.messages; end = r.end }

-- the reading after a byte at an index: of the same message, or of a fresh one
abbrev pub onward : Judged → ℕ → (Cut → StreamReading) → StreamReading → StreamReading
onward (reads c) at same fresh = same c
onward (whole t) at same fresh = with_message_first t fresh
onward (refuses rule) at same fresh = ended_reading (faults rule at)

-- reading bytes from an index on, `before` bytes of a message having come as the cut
abbrev pub stream_reading : ℕ → Adding → ℕ → Cut → ℕ → List ℕ → StreamReading
stream_reading limit add before c at [] = ended_reading (rests before c)
stream_reading limit add before c at (b ∷ bs) =
    onward (bite limit add before c (b ∷ [])) at
    (λ next. stream_reading limit add (before + 1) next (at + 1) bs)
    (stream_reading limit add 0 start (at + 1) bs)
