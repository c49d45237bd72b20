-- A total order of values that ties equal values and no others. The places of a map's pairs are
-- kept in the order of their keys.
use Rattle.std.specs.Prelude.{ℕ, ℤ, List, [], ◌∷◌, if◌then◌else◌}
use Rattle.std.specs.declared.cmp.Ordering.{Ordering}
use Rattle.std.specs.declared.cmp.Ordering.TheVariants.{Less, Greater}
use Rattle.std.specs.Ordering.{nat_cmp, int_cmp, ordering_then, match_ordering}
use Rattle.std.specs.Cmp.Lexicographic.{slice_cmp}
use Rattle.value_data.specs.Datum.{OwnerData, shared, tenant, Datum, nil, boolean, integer, string}
use Rattle.value_data.specs.Datum.{keyword, symbol, list, vector, map, ref, atom, agent, var, fault}
use Rattle.value_data.specs.Datum.{Items, no_items, item, Pairs, no_pairs, pair}
use Rattle.value_data.specs.Same.{size}
use Rattle.value_data.specs.Inside.Hash.{hash, items_hash}

-- what a value is compared by
pub data SortKey : Type 0 where
  number : ℕ → SortKey
  signed : ℤ → SortKey
  text : List ℕ → SortKey
  both : SortKey → SortKey → SortKey

-- Of two parts the first decides, and then the second. Parts of different kinds meet only where one
-- list ends before another, and where the owners of refs are compared, since what all share has
-- another kind than a tenant.
abbrev pub order : SortKey → SortKey → Ordering
order (number m) (number n) = nat_cmp m n
order (number m) b = Less
order (signed m) (number n) = Greater
order (signed m) (signed n) = int_cmp m n
order (signed m) b = Less
order (text s) (text t) = slice_cmp nat_cmp s t
order (text s) (both c d) = Less
order (text s) b = Greater
order (both a b) (both c d) = ordering_then (order a c) (order b d)
order (both a b) c = Greater

-- puts one among others that ascend, unless it is there
abbrev pub with_sort_key : SortKey → List SortKey → List SortKey
with_sort_key x [] = x ∷ []
with_sort_key x (y ∷ ys) = match_ordering (order x y) (x ∷ y ∷ ys) (y ∷ ys) (y ∷ with_sort_key x ys)

abbrev pub sorted_keys : List SortKey → List SortKey
sorted_keys [] = []
sorted_keys (x ∷ xs) = with_sort_key x (sorted_keys xs)

abbrev pub chain : List SortKey → SortKey
chain [] = number 0
chain (x ∷ xs) = both x (chain xs)

abbrev pub owner_sort_key : OwnerData → SortKey
owner_sort_key shared = number 0
owner_sort_key (tenant t) = text (t ∷ [])

-- a list and a vector are of one kind
abbrev pub kind : Datum → ℕ
kind nil = 0
kind (boolean b) = 1
kind (integer n) = 2
kind (string s) = 3
kind (keyword s) = 4
kind (symbol s) = 5
kind (list ds) = 6
kind (vector ds) = 6
kind (map ps) = 7
kind (ref owner n) = 8
kind (atom n) = 9
kind (agent n) = 10
kind (var space name) = 11
kind (fault class told) = 12

-- Values go by their kinds, and those of one kind by what stands in them. Items and pairs go by
-- their hash first, which is kept, and then items in turn, and pairs in the order of their keys.
abbrev mutual
  pub content : Datum → SortKey
  content nil = number 0
  content (boolean b) = number (if b then 1 else 0)
  content (integer n) = signed n
  content (string s) = text s
  content (keyword s) = text s
  content (symbol s) = text s
  content (list ds) = both (number (items_hash 7 ds)) (items_sort_key ds)
  content (vector ds) = both (number (items_hash 7 ds)) (items_sort_key ds)
  content (map ps) = both (number (hash (map ps)))
      (both (number (size ps)) (chain (sorted_keys (rows ps))))
  content (ref owner n) = both (owner_sort_key owner) (number n)
  content (atom n) = number n
  content (agent n) = number n
  content (var space name) = both (text space) (text name)
  content (fault class told) = both (text class) (text told)

  pub items_sort_key : Items → SortKey
  items_sort_key no_items = number 0
  items_sort_key (item d ds) = both (both (number (kind d)) (content d)) (items_sort_key ds)

  pub rows : Pairs → List SortKey
  rows no_pairs = []
  rows (pair k v ps) = both (both (number (kind k)) (content k))
      (both (number (kind v)) (content v)) ∷ rows ps

abbrev pub sort_key : Datum → SortKey
sort_key d = both (number (kind d)) (content d)
