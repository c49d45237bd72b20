-- What a byte may mean outside a string.
use Rattle.std.specs.Prelude.{ℕ, ◌-◌, ◌==◌, ◌&&◌, nat_le, cond}
use Rattle.bencode_wire.specs.declared.sign.Sign.{Sign}

abbrev pub sign_of : ℕ → Sign
sign_of b =
    cond (b == 105) Sign.Integer
    (cond (b == 108) Sign.List
    (cond (b == 100) Sign.Dictionary
    (cond (b == 101) Sign.End
    (cond (b == 45) Sign.Minus
    (cond (b == 58) Sign.Colon
    (cond (nat_le 48 b && nat_le b 57) (Sign.Digit (b - 48)) Sign.Other))))))
