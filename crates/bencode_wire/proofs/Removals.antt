-- A value that was put last is taken out again.
use Rattle.std.proofs.Common.{◌≡◌, ℕ, zero, suc, ◌<◌, take, List, [], ◌∷◌, ◌++◌, Bool, true, false, ◌||◌, cond, Option, Some, None, is_eq, nat_cmp, Ordering, Less, Equal, Greater, refl, sym, ap, ◌∙◌, arith}
use Rattle.std.proofs.lemmas.Map.Text.{is_eq-slice_cmp}
use Rattle.std.proofs.lemmas.Slice.Eq.{bytes_eq-Decides}
use Rattle.std.specs.Prelude.{option_map, bytes_eq}
use Rattle.std.specs.Cmp.Lexicographic.{slice_cmp}
use Rattle.std.specs.Map.{lookup, remove_entry}
use Rattle.std.specs.Ordering.{match_ordering}
use Rattle.bencode_wire.specs.Tree.{Tree, Trees, no_trees, tree, TreePairs, no_pairs, pair, add_tree, holds_key, field}
use Rattle.bencode_wire.specs.Spelling.{put_sorted}
use Rattle.bencode_wire.specs.Inside.Cut.{OpenContainer, in_list, at_key, at_value}
use Rattle.bencode_wire.specs.Inside.Places.{WasPut}
use Rattle.bencode_wire.specs.Inside.Reader.{dictionary_view, frames_view}
use Rattle.bencode_wire.specs.declared.cut.OpenContainer as container
use Rattle.bencode_wire.specs.Inside.View.{tree_view, trees_view, entries_view}
use Rattle.bencode_wire.specs.declared.ben.Ben.{Ben}
use Rattle.bencode_wire.specs.declared.cut.Place.{Place}
use Rattle.bencode_wire.proofs.Lookups.{has_bytes, field-entries_view}
use Rattle.bencode_wire.proofs.Views.{Key, Entry, trees_view-push}

none_added : (ts : Trees) (t : Tree) → no_trees ≡ add_tree ts t → ⊥
none_added no_trees t e = absurd (cc)
none_added (tree u ts) t e = absurd (cc)

-- the last is the one that was added
add_tree-last : (ts us : Trees) (t u : Tree) → add_tree ts t ≡ add_tree us u → (ts ≡ us) × (t ≡ u)
add_tree-last no_trees no_trees t u e = let same : t ≡ u = cc in (refl, same)
add_tree-last no_trees (tree v us) t u e = let rest : no_trees ≡ add_tree us u = cc in absurd (none_added us u rest)
add_tree-last (tree v ts) no_trees t u e = let rest : no_trees ≡ add_tree ts t = cc in absurd (none_added ts t rest)
add_tree-last (tree v ts) (tree w us) t u e =
    let head : v ≡ w = cc in
    let rest : add_tree ts t ≡ add_tree us u = cc in
    let same = add_tree-last ts us t u rest in
    (ap (tree v) same.0 ∙ ap (λ x. tree x us) head, same.1)

pub item_out : (old new : List Ben) (item : Ben) (before outer : List OpenContainer) (t : Tree) → old ≡ new ++ item ∷ []
    → WasPut Place.Item t before (in_list (trees_view old) ∷ outer) → (before ≡ in_list (trees_view new) ∷ outer) × (tree_view item ≡ t)
item_out old new item before outer t e w =
    let view : trees_view old ≡ add_tree (trees_view new) (tree_view item) = ap trees_view e ∙ trees_view-push new item in
    let put : in_list (trees_view old) ∷ outer ≡ in_list (add_tree w.0 t) ∷ w.1 = w.3 in
    let trees : trees_view old ≡ add_tree w.0 t = cc in
    let around : outer ≡ w.1 = cc in
    let same = add_tree-last w.0 (trees_view new) t (tree_view item) (sym trees ∙ view) in
    (w.2 ∙ ap (λ ts. in_list ts ∷ w.1) same.0 ∙ ap (λ fs. in_list (trees_view new) ∷ fs) (sym around), sym same.1)

pub no_item : (old : List Ben) (before outer : List OpenContainer) (t : Tree) → old ≡ [] → WasPut Place.Item t before (in_list (trees_view old) ∷ outer) → ⊥
no_item old before outer t e w =
    let put : in_list (trees_view old) ∷ outer ≡ in_list (add_tree w.0 t) ∷ w.1 = w.3 in
    let trees : trees_view old ≡ add_tree w.0 t = cc in
    none_added w.0 t (sym (ap trees_view e) ∙ trees)

-- the pairs without the first that has a key
abbrev without : List ℕ → TreePairs → TreePairs
without k no_pairs = no_pairs
without k (pair q t ps) = cond (bytes_eq k q) ps (pair q t (without k ps))

entries_view-cond : (b : Bool) (es fs : List Entry) → entries_view (cond b es fs) ≡ cond b (entries_view es) (entries_view fs)
entries_view-cond true es fs = refl
entries_view-cond false es fs = refl

entries_view-remove : (k : List ℕ) (es : List Entry) → entries_view (remove_entry (has_bytes k) es) ≡ without k (entries_view es)
entries_view-remove k [] = refl
entries_view-remove k (e ∷ es) =
    entries_view-cond (is_eq (slice_cmp nat_cmp k e.0.items)) es (e ∷ remove_entry (has_bytes k) es) ∙ rw (is_eq-slice_cmp, entries_view-remove k es)

same_key : (k : List ℕ) → bytes_eq k k ≡ true
same_key k = grind (arith, bytes_eq-Decides)

neither : (a b : Bool) → a || b ≡ false → (a ≡ false) × (b ≡ false)
neither true b e = absurd (cc)
neither false b e = (refl, e)

put_at_order : (o : Ordering) (k q : List ℕ) (t u : Tree) (ps more : TreePairs) → slice_cmp nat_cmp k q ≡ o → bytes_eq k q ≡ false → without k more ≡ ps
    → without k (match_ordering o (pair k t (pair q u ps)) (pair q t ps) (pair q u more)) ≡ pair q u ps
put_at_order Less k q t u ps more is other back = ap (λ b. cond b (pair q u ps) (pair k t (without k (pair q u ps)))) (same_key k)
put_at_order Equal k q t u ps more is other back =
    let equal : true ≡ bytes_eq k q = sym (ap is_eq is) ∙ is_eq-slice_cmp k q in
    let never : true ≡ false = equal ∙ other in
    absurd (cc)
put_at_order Greater k q t u ps more is other back =
    ap (λ b. cond b more (pair q u (without k more))) other ∙ ap (pair q u) back

put_without : (ps : TreePairs) (k : List ℕ) (t : Tree) → holds_key k ps ≡ false → without k (put_sorted ps k t) ≡ ps
put_without no_pairs k t none = ap (λ b. cond b no_pairs (pair k t no_pairs)) (same_key k)
put_without (pair q u ps) k t none =
    let both = neither (bytes_eq k q) (holds_key k ps) none in
    put_at_order (slice_cmp nat_cmp k q) k q t u ps (put_sorted ps k t) refl both.0 (put_without ps k t both.1)

field_at_order : (o : Ordering) (k q : List ℕ) (t u : Tree) (ps more : TreePairs) → slice_cmp nat_cmp k q ≡ o → bytes_eq k q ≡ false → field k more ≡ Some t
    → field k (match_ordering o (pair k t (pair q u ps)) (pair q t ps) (pair q u more)) ≡ Some t
field_at_order Less k q t u ps more is other found = ap (λ b. cond b (Some t) (field k (pair q u ps))) (same_key k)
field_at_order Equal k q t u ps more is other found =
    let equal : true ≡ bytes_eq k q = sym (ap is_eq is) ∙ is_eq-slice_cmp k q in
    let never : true ≡ false = equal ∙ other in
    absurd (cc)
field_at_order Greater k q t u ps more is other found = ap (λ b. cond b (Some u) (field k more)) other ∙ found

put_field_at : (ps : TreePairs) (k : List ℕ) (t : Tree) → holds_key k ps ≡ false → field k (put_sorted ps k t) ≡ Some t
put_field_at no_pairs k t none = ap (λ b. cond b (Some t) None) (same_key k)
put_field_at (pair q u ps) k t none =
    let both = neither (bytes_eq k q) (holds_key k ps) none in
    field_at_order (slice_cmp nat_cmp k q) k q t u ps (put_sorted ps k t) refl both.0 (put_field_at ps k t both.1)

pub value_out : (key : Key) (es rest : List Entry) (value : Option Ben) (before outer : List OpenContainer) (t : Tree) → rest ≡ remove_entry (has_bytes key.items) es
    → value ≡ lookup (has_bytes key.items) es → WasPut (Place.Value key) t before (at_key (entries_view es) ∷ outer)
    → (before ≡ at_value (entries_view rest) key.items ∷ outer) × (option_map tree_view value ≡ Some t) × (holds_key key.items (entries_view rest) ≡ false)
value_out key es rest value before outer t taken found w =
    let k = key.items in
    let put : at_key (entries_view es) ∷ outer ≡ at_key (put_sorted w.0 k t) ∷ w.1 = w.3 in
    let pairs : entries_view es ≡ put_sorted w.0 k t = cc in
    let around : outer ≡ w.1 = cc in
    let back : entries_view rest ≡ w.0 = ap entries_view taken ∙ entries_view-remove k es ∙ ap (without k) pairs ∙ put_without w.0 k t w.4 in (
      w.2 ∙ ap (λ fs. at_value w.0 k ∷ fs) (sym around) ∙ ap (λ ps. at_value ps k ∷ outer) (sym back),
      ap (option_map tree_view) found ∙ field-entries_view k es ∙ ap (field k) pairs ∙ put_field_at w.0 k t w.4,
      ap (holds_key k) back ∙ w.4,
    )

pub value_out_of : (o : Option Key) (key : Key) (es rest : List Entry) (value : Option Ben) (before outer : List OpenContainer) (t : Tree) → rest ≡ remove_entry (has_bytes key.items) es
    → value ≡ lookup (has_bytes key.items) es → WasPut (Place.Value key) t before (dictionary_view (entries_view es) o ∷ outer)
    → (before ≡ at_value (entries_view rest) key.items ∷ outer) × (option_map tree_view value ≡ Some t) × (holds_key key.items (entries_view rest) ≡ false)
value_out_of None key es rest value before outer t taken found w = value_out key es rest value before outer t taken found w
value_out_of (Some k) key es rest value before outer t taken found w =
    let put : at_value (entries_view es) k.items ∷ outer ≡ at_key (put_sorted w.0 key.items t) ∷ w.1 = w.3 in
    absurd (cc)

pub some_value : (value : Ben) (o : Option Ben) (t : Tree) → o ≡ Some value → option_map tree_view o ≡ Some t → tree_view value ≡ t
some_value value o t e is = let same : Some (tree_view value) ≡ Some t = sym (ap (option_map tree_view) e) ∙ is in cc

pub no_value : (o : Option Ben) (t : Tree) → o ≡ None → option_map tree_view o ≡ Some t → ⊥
no_value o t e is = let never : None ≡ Some t = sym (ap (option_map tree_view) e) ∙ is in absurd (cc)

none_put : (place : Place) (t : Tree) (before : List OpenContainer) → WasPut place t before [] → ⊥
none_put Place.Item t before w = let never : [] ≡ in_list (add_tree w.0 t) ∷ w.1 = w.3 in absurd (cc)
none_put Place.Key t before w = let never : [] ≡ at_value w.0 w.1 ∷ w.2 = w.4 in absurd (cc)
none_put (Place.Value key) t before w = let never : [] ≡ at_key (put_sorted w.0 key.items t) ∷ w.1 = w.3 in absurd (cc)

-- something is open where a value was put
pub some_live : (n : ℕ) (xs : List container.OpenContainer) (place : Place) (t : Tree) (before : List OpenContainer) → WasPut place t before (frames_view (take n xs)) → 0 < n
some_live zero xs place t before w = absurd (none_put place t before w)
some_live (suc n) xs place t before w = omega arith
