-- What a token stands for.
use Rattle.std.specs.Prelude.{ℕ, ℤ, ◌-◌, pos, neg_ℤ, List, Bool, true, false, Option, None, Some}
use Rattle.std.specs.Prelude.{◌==◌, ◌||◌, ◌&&◌, not, ◌^◌, if◌then◌else◌, codes, length, drop}
use Rattle.std.specs.Prelude.{nat_lt, nat_le, slice_index, count_by}
use Rattle.std.specs.Char.{is_ascii_digit}
use Rattle.std.specs.Str.{bytes_eq, all_ascii_digits}
use Rattle.std.specs.Str.Parse.{digits_value}
use Rattle.value_data.specs.Datum as datum
use Rattle.value_data.specs.Datum.{Datum}

abbrev pub is_sign : ℕ → Bool
is_sign b = b == 43 || b == 45

-- a digit, or a sign and a digit
unfoldable pub begins_number : List ℕ → Bool
begins_number t = is_ascii_digit (slice_index t 0)
    || (is_sign (slice_index t 0) && is_ascii_digit (slice_index t 1))

abbrev pub without_sign : List ℕ → List ℕ
without_sign t = drop (if is_sign (slice_index t 0) then 1 else 0) t

-- a zero before other digits
abbrev pub has_leading_zero : List ℕ → Bool
has_leading_zero digits = slice_index digits 0 == 48 && nat_lt 1 (length digits)

-- the number with this sign and this size, if it fits 64 bits
abbrev pub signed : Bool → ℕ → Option ℤ
signed negative n =
    if negative then (if nat_le n (2 ^ 63) then Some (neg_ℤ (pos n)) else None)
    else (if nat_lt n (2 ^ 63) then Some (pos n) else None)

-- digits without a leading zero, behind a sign or none
abbrev pub is_numeral : List ℕ → Bool
is_numeral digits = all_ascii_digits digits && nat_lt 0 (length digits)
    && not (has_leading_zero digits)

unfoldable pub integer_of : List ℕ → Option ℤ
integer_of t = if is_numeral (without_sign t)
    then signed (slice_index t 0 == 45) (digits_value 10 (without_sign t)) else None

-- of what follows the colon: it isn't empty, and has no colon at its front
unfoldable pub keyword_of : List ℕ → Option Datum
keyword_of name = if nat_lt 0 (length name) && not (slice_index name 0 == 58)
    then Some (datum.keyword name) else None

abbrev pub slashes : List ℕ → ℕ
slashes = count_by (λ b. b == 47)

abbrev pub touches_slash : List ℕ → Bool
touches_slash t = slice_index t 0 == 47 || slice_index t (length t - 1) == 47

-- no slash, or a slash alone, or one slash with something on both sides
unfoldable pub is_symbol_text : List ℕ → Bool
is_symbol_text t = slashes t == 0 || (slashes t == 1 && (length t == 1 || not (touches_slash t)))

unfoldable pub symbol_of : List ℕ → Option Datum
symbol_of t = if is_symbol_text t then Some (datum.symbol t) else None

unfoldable pub word_of : List ℕ → Option Datum
word_of t = if slice_index t 0 == 58 then keyword_of (drop 1 t) else symbol_of t

-- what a token that begins no number stands for
unfoldable pub named_datum : List ℕ → Option Datum
named_datum t =
    if bytes_eq t (codes "nil") then Some datum.nil else (
    if bytes_eq t (codes "true") then Some (datum.boolean true) else (
    if bytes_eq t (codes "false") then Some (datum.boolean false) else word_of t))
