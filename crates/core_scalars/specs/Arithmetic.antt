-- Functions of integers. They have 64 signed bits: what does not fit is a fault, never a wrap.
use Rattle.std.specs.Prelude.{ℤ, pos, negsuc, ◌+ℤ◌, ◌-ℤ◌, ◌*ℤ◌, neg_ℤ, int_div, int_rem, int_lt}
use Rattle.std.specs.Prelude.{◌^◌, ◌==◌, Bool, false, not, ◌||◌, nat_lt, List, [], ◌∷◌, length}
use Rattle.std.specs.Prelude.{drop, Result, Ok, Err, if◌then◌else◌, slice_index_or}
use Rattle.std.specs.Int.{int_min, int_max}
use Rattle.repl_values.specs.Failure.{Failure, ◌>>=◌, integer_overflow, divide_by_zero}
use Rattle.core_scalars.specs.declared.integer_function.ArithmeticFunction.{ArithmeticFunction}

-- -(2 ^ 63) ≤ n < 2 ^ 63
abbrev pub fits_64 : ℤ → Bool
fits_64 (pos n) = nat_lt n (2 ^ 63)
fits_64 (negsuc n) = nat_lt n (2 ^ 63)

-- the integer, where 64 signed bits hold it
unfoldable pub or_overflow : ℤ → Result ℤ Failure
or_overflow n = if fits_64 n then Ok n else Err integer_overflow

abbrev pub is_zero : ℤ → Bool
is_zero (pos n) = n == 0
is_zero (negsuc n) = false

abbrev pub add : ℤ → ℤ → Result ℤ Failure
add a b = or_overflow (a +ℤ b)

abbrev pub subtract : ℤ → ℤ → Result ℤ Failure
subtract a b = or_overflow (a -ℤ b)

abbrev pub multiply : ℤ → ℤ → Result ℤ Failure
multiply a b = or_overflow (a *ℤ b)

-- toward zero
unfoldable pub quotient : ℤ → ℤ → Result ℤ Failure
quotient a b = if is_zero b then Err divide_by_zero else or_overflow (int_div a b)

-- what is left of `a` when the quotient times `b` is taken away
unfoldable pub remainder : ℤ → ℤ → Result ℤ Failure
remainder a b = if is_zero b then Err divide_by_zero else Ok (int_rem a b)

-- whether both are negative, or neither
abbrev pub same_sign : ℤ → ℤ → Bool
same_sign a b = if int_lt a (pos 0) then int_lt b (pos 0) else not (int_lt b (pos 0))

-- a remainder other than zero is given the divisor's sign
abbrev pub with_sign_of : ℤ → ℤ → ℤ
with_sign_of b r = if is_zero r || same_sign r b then r else r +ℤ b

unfoldable pub modulo : ℤ → ℤ → Result ℤ Failure
modulo a b = if is_zero b then Err divide_by_zero else Ok (with_sign_of b (int_rem a b))

abbrev pub maximum : ℤ → ℤ → Result ℤ Failure
maximum a b = Ok (int_max a b)

abbrev pub minimum : ℤ → ℤ → Result ℤ Failure
minimum a b = Ok (int_min a b)

-- from the left, up to the first failure
abbrev pub left_fold : (ℤ → ℤ → Result ℤ Failure) → ℤ → List ℤ → Result ℤ Failure
left_fold step total [] = Ok total
left_fold step total (n ∷ ns) = step total n >>= λ next. left_fold step next ns

-- an argument by its place
abbrev pub first_integer : List ℤ → ℤ
first_integer ns = slice_index_or ns 0 (pos 0)

abbrev pub second_integer : List ℤ → ℤ
second_integer ns = slice_index_or ns 1 (pos 0)

-- from the first argument on
abbrev pub from_first : (ℤ → ℤ → Result ℤ Failure) → List ℤ → Result ℤ Failure
from_first step ns = left_fold step (first_integer ns) (drop 1 ns)

-- one argument is negated
unfoldable pub difference : List ℤ → Result ℤ Failure
difference ns = if length ns == 1 then or_overflow (neg_ℤ (first_integer ns))
    else from_first subtract ns

unfoldable pub arithmetic : ArithmeticFunction → List ℤ → Result ℤ Failure
arithmetic ArithmeticFunction.Add ns = left_fold add (pos 0) ns
arithmetic ArithmeticFunction.Subtract ns = difference ns
arithmetic ArithmeticFunction.Multiply ns = left_fold multiply (pos 1) ns
arithmetic ArithmeticFunction.Increment ns = add (first_integer ns) (pos 1)
arithmetic ArithmeticFunction.Decrement ns = subtract (first_integer ns) (pos 1)
arithmetic ArithmeticFunction.Quotient ns = quotient (first_integer ns) (second_integer ns)
arithmetic ArithmeticFunction.Remainder ns = remainder (first_integer ns) (second_integer ns)
arithmetic ArithmeticFunction.Modulo ns = modulo (first_integer ns) (second_integer ns)
arithmetic ArithmeticFunction.Maximum ns = from_first maximum ns
arithmetic ArithmeticFunction.Minimum ns = from_first minimum ns
