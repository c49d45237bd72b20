-- Bytes that are written part by part, from the front.
use Rattle.std.proofs.Common.{◌≡◌, ℕ, ◌-◌, ◌≤◌, List, [], ◌∷◌, ◌++◌, length, take, drop, sym, ap}
use Rattle.std.proofs.Common.{◌∙◌, append_assoc, append-nil, take-append-drop, take_all}
use Rattle.std.proofs.Common.{length-drop, le_of_eq, arith, Result, Ok, Err, OnErr}

pub on_err : {A E P : Type 0} (result : Result A E) → P → OnErr result P
on_err (Ok value) p = tt
on_err (Err error) p = p

-- a part of the rest is in front now
pub front-grows : (whole front rest : List ℕ) (n : ℕ) → whole ≡ front ++ rest
    → whole ≡ (front ++ take n rest) ++ drop n rest
front-grows whole front rest n is =
    is ∙ ap (λ (bytes : List ℕ). front ++ bytes) (sym (take-append-drop n rest))
    ∙ sym (append_assoc front (take n rest) (drop n rest))

pub front-grows_slice : (whole front rest : List ℕ) (n : ℕ) → whole ≡ front ++ rest
    → whole ≡ (front ++ take n rest) ++ take (length rest - n) (drop n rest)
front-grows_slice whole front rest n is =
    let left = drop n rest in
    let long : length left ≤ length rest - n = le_of_eq (length-drop n rest) in
    front-grows whole front rest n is
    ∙ ap (λ (bytes : List ℕ). (front ++ take n rest) ++ bytes)
    (sym (take_all (length rest - n) left long))

-- all is in front
pub front-whole : (whole front rest : List ℕ) → whole ≡ front ++ rest → length rest ≡ 0
    → front ≡ whole
front-whole whole front [] is none = sym (is ∙ append-nil front)
front-whole whole front (byte ∷ rest) is none = absurd (omega arith)
