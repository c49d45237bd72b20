-- What a field of a request is read as.
use Rattle.std.proofs.Common.{◌≡◌, ℕ, List, Vec, Global, Option, Some, None, Bool, true, false, Result, Ok, Err, String, string_bytes, cond, refl, ap, subst, IfOk, IsOk}
use Rattle.std.proofs.lemmas.Str.{IsUtf8-string_bytes, IsUtf8-from_is_utf8, is_utf8-from_IsUtf8}
use Rattle.std.specs.Prelude.{option_map}
use Rattle.std.specs.Result.{result_ok}
use Rattle.std.specs.Str.{IsUtf8, is_utf8}
use Rattle.std.specs.String.{string_vec}
use Rattle.bencode_wire.specs.Inside.View.{tree_view}
use Rattle.bencode_wire.specs.declared.ben.Ben.{Ben}
use Rattle.repl_replies.specs.Inside.View.{field_view}

pub field_view-option_map : (value : Option Ben) → field_view value ≡ option_map tree_view value
field_view-option_map None = refl
field_view-option_map (Some b) = refl

not_text : (b : Bool) (bytes : List ℕ) → (b ≡ true → false ≡ true) → None ≡ cond b (Some bytes) None
not_text true bytes h = let never = h refl in cc
not_text false bytes h = refl

-- what is read of bytes as UTF-8
pub text_read : {E : Type 0} (bytes : Vec ℕ Global) (r : Result (String Global) E) → IfOk r (λ t. string_vec t ≡ bytes) → (IsUtf8 bytes.items → IsOk r)
    → option_map string_bytes (result_ok r) ≡ cond (is_utf8 bytes.items) (Some bytes.items) None
text_read bytes (Ok t) is succeeds =
    let same : string_bytes t ≡ bytes.items = ap (λ v. v.items) is in
    let yes : is_utf8 bytes.items ≡ true = is_utf8-from_IsUtf8 bytes.items (subst IsUtf8 same (IsUtf8-string_bytes t)) in
    rw yes (ap Some same)
text_read bytes (Err e) is succeeds =
    not_text (is_utf8 bytes.items) bytes.items (λ yes. succeeds (IsUtf8-from_is_utf8 bytes.items yes))
