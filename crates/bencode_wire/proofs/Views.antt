-- A reader's lists and maps beside the data that they stand for.
use Rattle.std.proofs.Common.{◌≡◌, ℕ, List, [], ◌∷◌, ◌++◌, Vec, Global, Option, Some, Ordering, Less, Equal, Greater, nat_cmp, is_eq, cond, Bool, true, false, ◌||◌, refl, sym, ap, ◌∙◌, subst, append_assoc, append-nil}
use Rattle.std.proofs.lemmas.Cmp.{nat_list_cmp_total}
use Rattle.std.proofs.lemmas.Map.Text.{is_eq-slice_cmp}
use Rattle.std.specs.Prelude.{is_some}
use Rattle.std.specs.Cmp.Lexicographic.{slice_cmp}
use Rattle.std.specs.List.{AllByRecursion}
use Rattle.std.specs.List.Sorted.{IsStrictlySortedBy}
use Rattle.std.specs.Map.{lookup, keys_of}
use Rattle.std.specs.Ordering.{match_ordering, ordering_reverse}
use Rattle.std.specs.BTreeMap.{insert_entry, is_at}
use Rattle.bencode_wire.specs.Tree.{tree, TreePairs, no_pairs, pair, add_tree, holds_key}
use Rattle.bencode_wire.specs.Spelling.{put_sorted, put_tree_pairs, sorted}
use Rattle.bencode_wire.specs.Inside.View.{tree_view, trees_view, entries_view}
use Rattle.bencode_wire.specs.declared.ben.Ben.{Ben}

abbrev pub Key : Type 0
Key = Vec ℕ Global

abbrev pub Entry : Type 0
Entry = Key × Ben

abbrev pub key_cmp : Key → Key → Ordering
key_cmp a b = slice_cmp nat_cmp a.items b.items

-- a pushed value comes last
pub trees_view-push : (vs : List Ben) (v : Ben) → trees_view (vs ++ v ∷ []) ≡ add_tree (trees_view vs) (tree_view v)
trees_view-push [] v = refl
trees_view-push (w ∷ vs) v = ap (tree (tree_view w)) (trees_view-push vs v)

entries_view-match_ordering : (o : Ordering) (a b c : List Entry)
    → entries_view (match_ordering o a b c) ≡ match_ordering o (entries_view a) (entries_view b) (entries_view c)
entries_view-match_ordering Less a b c = refl
entries_view-match_ordering Equal a b c = refl
entries_view-match_ordering Greater a b c = refl

-- an insert puts the pair in
pub entries_view-insert_entry : (es : List Entry) (k : Key) (v : Ben)
    → entries_view (insert_entry key_cmp es k v) ≡ put_sorted (entries_view es) k.items (tree_view v)
entries_view-insert_entry [] k v = refl
entries_view-insert_entry (e ∷ es) k v = entries_view-match_ordering (key_cmp k e.0) _ _ _ ∙ rw (entries_view-insert_entry es k v)

is_some-cond : {X : Type 0} → (b : Bool) (x : X) (rest : Option X) → is_some (cond b (Some x) rest) ≡ b || is_some rest
is_some-cond true x rest = refl
is_some-cond false x rest = refl

-- a map has a key where its pairs have it
pub holds_key-entries_view : (k : List ℕ) (es : List Entry)
    → is_some (lookup (is_at (λ (q : Key). slice_cmp nat_cmp k q.items)) es) ≡ holds_key k (entries_view es)
holds_key-entries_view k [] = refl
holds_key-entries_view k (e ∷ es) =
    is_some-cond (is_eq (slice_cmp nat_cmp k e.0.items)) e.1 _ ∙ rw (is_eq-slice_cmp, holds_key-entries_view k es)

below_middle : (first : Entry) (es : List Entry) (e : Entry) (more : List Entry)
    → AllByRecursion (λ y. key_cmp first.0 y ≡ Less) (keys_of (es ++ e ∷ more)) → key_cmp first.0 e.0 ≡ Less
below_middle first [] e more h = h.0
below_middle first (x ∷ es) e more h = below_middle first es e more h.1

-- a key that is above those before it goes last
pub put_last : (done : List Entry) (e : Entry) (more : List Entry) → IsStrictlySortedBy key_cmp (keys_of (done ++ e ∷ more))
    → put_sorted (entries_view done) e.0.items (tree_view e.1) ≡ entries_view (done ++ e ∷ [])
unfolding IsStrictlySortedBy
put_last [] e more h = refl
put_last (first ∷ done) e more h =
    let above : slice_cmp nat_cmp e.0.items first.0.items ≡ Greater =
    nat_list_cmp_total.antisymm e.0.items first.0.items ∙ ap ordering_reverse (below_middle first done e more h.0) in
    rw above (ap (pair first.0.items (tree_view first.1)) (put_last done e more h.1))

-- the pairs, each value with its own sorted
abbrev pub each_sorted : TreePairs → TreePairs
each_sorted no_pairs = no_pairs
each_sorted (pair k t ps) = pair k (sorted t) (each_sorted ps)

put_last_sorted : (done : List Entry) (e : Entry) (more : List Entry) → IsStrictlySortedBy key_cmp (keys_of (done ++ e ∷ more))
    → put_sorted (each_sorted (entries_view done)) e.0.items (sorted (tree_view e.1)) ≡ each_sorted (entries_view (done ++ e ∷ []))
unfolding IsStrictlySortedBy
put_last_sorted [] e more h = refl
put_last_sorted (first ∷ done) e more h =
    let above : slice_cmp nat_cmp e.0.items first.0.items ≡ Greater =
    nat_list_cmp_total.antisymm e.0.items first.0.items ∙ ap ordering_reverse (below_middle first done e more h.0) in
    rw above (ap (pair first.0.items (sorted (tree_view first.1))) (put_last_sorted done e more h.1))

put_pairs_behind : (done more : List Entry) → IsStrictlySortedBy key_cmp (keys_of (done ++ more))
    → put_tree_pairs (each_sorted (entries_view done)) (entries_view more) ≡ each_sorted (entries_view (done ++ more))
put_pairs_behind done [] h = sym (ap (λ es. each_sorted (entries_view es)) (append-nil done))
put_pairs_behind done (e ∷ more) h =
    let regroup : (done ++ e ∷ []) ++ more ≡ done ++ e ∷ more = append_assoc done (e ∷ []) more in
    ap (λ ps. put_tree_pairs ps (entries_view more)) (put_last_sorted done e more h)
    ∙ put_pairs_behind (done ++ e ∷ []) more (subst (λ es. IsStrictlySortedBy key_cmp (keys_of es)) (sym regroup) h)
    ∙ ap (λ es. each_sorted (entries_view es)) regroup

-- a map's pairs stand sorted
pub put_tree_pairs-entries_view : (es : List Entry) → IsStrictlySortedBy key_cmp (keys_of es)
    → put_tree_pairs no_pairs (entries_view es) ≡ each_sorted (entries_view es)
put_tree_pairs-entries_view es h = put_pairs_behind [] es h
