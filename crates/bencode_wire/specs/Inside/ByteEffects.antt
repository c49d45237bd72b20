-- What a byte does to a token that is open, and where it breaks a rule.
use Rattle.std.specs.Prelude.{ℕ, ◌+◌, ◌-◌, ◌*◌, ◌^◌, Bool, true, false, cond, nat_lt, nat_le, ◌==◌}
use Rattle.std.specs.Prelude.{ℤ, pos, negsuc, List, [], ◌++◌, length}
use Rattle.bencode_wire.specs.Tree.{integer, string}
use Rattle.bencode_wire.specs.Inside.Cut.{OpenContainer, after_minus, digits, count, part, greatest}
use Rattle.bencode_wire.specs.declared.sign.Sign.{Sign}
use Rattle.bencode_wire.specs.Inside.Beginnings.{ByteEffect, Adding, put, goes, stuck}

abbrev pub integer_open : List OpenContainer → Sign → ByteEffect
integer_open fs Sign.Minus = goes fs after_minus
integer_open fs (Sign.Digit d) = goes fs (digits false d)
integer_open fs Sign.Integer = stuck
integer_open fs Sign.List = stuck
integer_open fs Sign.Dictionary = stuck
integer_open fs Sign.End = stuck
integer_open fs Sign.Colon = stuck
integer_open fs Sign.Other = stuck

abbrev pub integer_minus : List OpenContainer → Sign → ByteEffect
integer_minus fs (Sign.Digit d) = cond (d == 0) stuck (goes fs (digits true d))
integer_minus fs Sign.Minus = stuck
integer_minus fs Sign.Integer = stuck
integer_minus fs Sign.List = stuck
integer_minus fs Sign.Dictionary = stuck
integer_minus fs Sign.End = stuck
integer_minus fs Sign.Colon = stuck
integer_minus fs Sign.Other = stuck

abbrev pub integer_with_sign : Bool → ℕ → ℤ
integer_with_sign false n = pos n
integer_with_sign true n = negsuc (n - 1)

abbrev pub more_digits : List OpenContainer → Bool → ℕ → ℕ → ByteEffect
more_digits fs negative n d = cond (n == 0) stuck
    (cond (nat_le (10 * n + d) (greatest negative)) (goes fs (digits negative (10 * n + d))) stuck)

abbrev pub integer_digits : Adding → List OpenContainer → Bool → ℕ → Sign → ByteEffect
integer_digits add fs negative n Sign.End = put add fs (integer (integer_with_sign negative n))
integer_digits add fs negative n (Sign.Digit d) = more_digits fs negative n d
integer_digits add fs negative n Sign.Minus = stuck
integer_digits add fs negative n Sign.Integer = stuck
integer_digits add fs negative n Sign.List = stuck
integer_digits add fs negative n Sign.Dictionary = stuck
integer_digits add fs negative n Sign.Colon = stuck
integer_digits add fs negative n Sign.Other = stuck

abbrev pub more_length : List OpenContainer → ℕ → ℕ → ByteEffect
more_length fs n d = cond (n == 0) stuck
    (cond (nat_lt (10 * n + d) (10 ^ 64)) (goes fs (count (10 * n + d))) stuck)

abbrev pub open_string : Adding → List OpenContainer → ℕ → ByteEffect
open_string add fs n = cond (n == 0) (put add fs (string [])) (goes fs (part [] n))

abbrev pub length_digits : Adding → List OpenContainer → ℕ → Sign → ByteEffect
length_digits add fs n Sign.Colon = open_string add fs n
length_digits add fs n (Sign.Digit d) = more_length fs n d
length_digits add fs n Sign.Minus = stuck
length_digits add fs n Sign.Integer = stuck
length_digits add fs n Sign.List = stuck
length_digits add fs n Sign.Dictionary = stuck
length_digits add fs n Sign.End = stuck
length_digits add fs n Sign.Other = stuck

-- more bytes of a string, at most those that are left
abbrev pub text_bytes : Adding → List OpenContainer → List ℕ → ℕ → List ℕ → ByteEffect
text_bytes add fs bytes left run =
    cond (nat_lt (length run) left) (goes fs (part (bytes ++ run) (left - length run)))
    (put add fs (string (bytes ++ run)))
