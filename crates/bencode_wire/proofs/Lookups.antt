-- Look-ups in a map beside those in the data that it stands for.
use Rattle.std.proofs.Common.{◌≡◌, ℕ, List, [], ◌∷◌, Option, Some, None, Bool, true, false, is_eq, nat_cmp, cond, arith, refl, sym, ap, ◌∙◌}
use Rattle.std.proofs.lemmas.Cmp.{eq_by_cmp_equiv, nat_list_cmp_total}
use Rattle.std.proofs.lemmas.Map.Text.{is_eq-slice_cmp}
use Rattle.std.proofs.lemmas.Slice.Eq.{bytes_eq-Decides}
use Rattle.std.specs.Prelude.{option_map, bytes_eq}
use Rattle.std.specs.BTreeMap.{is_at}
use Rattle.std.specs.Cmp.Lexicographic.{slice_cmp}
use Rattle.std.specs.Map.{lookup, KeepsOthers}
use Rattle.std.specs.Ordering.{eq_by_cmp}
use Rattle.bencode_wire.specs.Tree.{field}
use Rattle.bencode_wire.specs.Inside.View.{tree_view, entries_view}
use Rattle.bencode_wire.specs.declared.ben.Ben.{Ben}
use Rattle.bencode_wire.proofs.Views.{Key, Entry, key_cmp}

-- whether a map's key has these bytes
abbrev pub has_bytes : List ℕ → Key → Bool
has_bytes k = is_at (λ (q : Key). slice_cmp nat_cmp k q.items)

option_map-cond : (b : Bool) (v : Ben) (rest : Option Ben) → option_map tree_view (cond b (Some v) rest) ≡ cond b (Some (tree_view v)) (option_map tree_view rest)
option_map-cond true v rest = refl
option_map-cond false v rest = refl

-- a map's value under a key is the field
pub field-entries_view : (k : List ℕ) (es : List Entry) → option_map tree_view (lookup (has_bytes k) es) ≡ field k (entries_view es)
field-entries_view k [] = refl
field-entries_view k (e ∷ es) = option_map-cond (is_eq (slice_cmp nat_cmp k e.0.items)) e.1 _ ∙ rw (is_eq-slice_cmp, field-entries_view k es)

apart : (k other : List ℕ) → bytes_eq other k ≡ false → (q : Key) → has_bytes k q ≡ true → has_bytes other q ≡ false
apart k other differ q is = is_eq-slice_cmp other q.items ∙ ap (bytes_eq other) (sym same) ∙ differ
  where
    same : k ≡ q.items
    same = grind (arith, bytes_eq-Decides, is_eq-slice_cmp k q.items)

found_still : (k other : List ℕ) (old new : List Entry) → KeepsOthers (eq_by_cmp key_cmp) (has_bytes k) old new → bytes_eq other k ≡ false
    → lookup (has_bytes other) new ≡ lookup (has_bytes other) old
unfolding KeepsOthers
found_still k other old new kept differ =
    kept (has_bytes other) (λ x y. (eq_by_cmp_equiv nat_list_cmp_total).congr other x.items y.items) (apart k other differ)

field_by : (b : Bool) (k other : List ℕ) (old new : List Entry) → bytes_eq other k ≡ b → KeepsOthers (eq_by_cmp key_cmp) (has_bytes k) old new
    → lookup (has_bytes k) new ≡ None → field other (entries_view new) ≡ cond b None (field other (entries_view old))
field_by true k other old new is kept gone =
    let same : other ≡ k = grind (arith, bytes_eq-Decides) in
    ap (λ key. field key (entries_view new)) same ∙ sym (field-entries_view k new) ∙ ap (option_map tree_view) gone
field_by false k other old new is kept gone =
    sym (field-entries_view other new) ∙ ap (option_map tree_view) (found_still k other old new kept is) ∙ field-entries_view other old

-- the fields that are left where the value under a key is taken out
pub field-taken : (k other : List ℕ) (old new : List Entry) → KeepsOthers (eq_by_cmp key_cmp) (has_bytes k) old new
    → lookup (has_bytes k) new ≡ None → field other (entries_view new) ≡ cond (bytes_eq other k) None (field other (entries_view old))
field-taken k other old new = field_by (bytes_eq other k) k other old new refl
