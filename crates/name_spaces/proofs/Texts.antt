-- Bytes that are no text are no name.
use Rattle.std.proofs.Common.{◌≡◌, ℕ, false, cond, List, [], ◌∷◌, None, Some, refl, sym, ap}
use Rattle.std.proofs.Common.{subst, ◌∙◌}
use Rattle.std.specs.Prelude.{IsUtf8}
use Rattle.std.specs.BTreeMap.{BTreeMap, get_by_text, is_at}
use Rattle.std.specs.Str.{bytes_eq}
use Rattle.std.specs.String.{string_bytes}
use Rattle.std.specs.declared.string.String.{String}
use Rattle.std.specs.Map.{lookup}
use Rattle.std.proofs.lemmas.Bool.{false_from_ne_true}
use Rattle.std.proofs.lemmas.Slice.Eq.{bytes_eq-Decides}
use Rattle.std.proofs.lemmas.Map.Text.{is_eq-slice_cmp, text_cmp}
use mathlib.Core.Logic.{∥∥₁_elim}

differs : {Y : Type 0} (bytes : List ℕ) (key : String Y) → ¬ (IsUtf8 bytes)
    → bytes_eq bytes (string_bytes key) ≡ false
differs bytes key no_text = false_from_ne_true _ (λ same.
    let is_key = (bytes_eq-Decides bytes (string_bytes key)).0 same in
    ∥∥₁_elim key.ok (λ x y. absurd x) (λ text. no_text (subst IsUtf8 (sym is_key) text)))

no_entry : {X Y : Type 0} (bytes : List ℕ) → ¬ (IsUtf8 bytes) → (es : List (String Y × X))
    → lookup (is_at (text_cmp bytes)) es ≡ None
no_entry bytes no_text [] = refl
no_entry bytes no_text (e ∷ es) =
    let here = is_eq-slice_cmp bytes (string_bytes e.0) ∙ differs bytes e.0 no_text in
    ap (λ b. cond b (Some e.1) (lookup (is_at (text_cmp bytes)) es)) here
    ∙ no_entry bytes no_text es

pub none-not_text : {X Y : Type 0} (m : BTreeMap (String Y) X) (bytes : List ℕ) → ¬ (IsUtf8 bytes)
    → get_by_text m bytes ≡ None
none-not_text m bytes no_text = no_entry bytes no_text m.entries
