-- When two values are equal.
use Rattle.std.specs.Prelude.{ℕ, ◌+◌, Bool, true, false, ◌&&◌, ◌||◌, ◌==◌, bytes_eq}
use Rattle.std.specs.Bool.{beq}
use Rattle.std.specs.Ordering.{int_eq}
use Rattle.value_data.specs.Datum.{OwnerData, shared, tenant, Datum, nil, boolean, integer, string}
use Rattle.value_data.specs.Datum.{keyword, symbol, list, vector, map, ref, atom, agent, var, fault}
use Rattle.value_data.specs.Datum.{Items, no_items, item, Pairs, no_pairs, pair}

abbrev pub same_owner : OwnerData → OwnerData → Bool
same_owner shared shared = true
same_owner (tenant t) (tenant u) = t == u
same_owner _ _ = false

-- how many pairs there are
abbrev pub size : Pairs → ℕ
size no_pairs = 0
size (pair k v ps) = 1 + size ps

-- whether one of the pairs has a key and a value that pass
abbrev pub has_pair : (Datum → Bool) → (Datum → Bool) → Pairs → Bool
has_pair key value no_pairs = false
has_pair key value (pair k v ps) = (key k && value v) || has_pair key value ps

abbrev pub each_pair : (Datum → Datum → Bool) → Pairs → Bool
each_pair test no_pairs = true
each_pair test (pair k v ps) = test k v && each_pair test ps

-- A list and a vector are equal where their items are, in order. Maps are equal where they have as
-- many pairs, and each pair of either has an equal one in the other. References go by kind, owner
-- and number, and all else by kind and content.
abbrev mutual
  pub same : Datum → Datum → Bool
  same nil nil = true
  same (boolean b) (boolean c) = beq b c
  same (integer m) (integer n) = int_eq m n
  same (string s) (string t) = bytes_eq s t
  same (keyword s) (keyword t) = bytes_eq s t
  same (symbol s) (symbol t) = bytes_eq s t
  same (list ds) (list es) = same_items ds es
  same (list ds) (vector es) = same_items ds es
  same (vector ds) (list es) = same_items ds es
  same (vector ds) (vector es) = same_items ds es
  same (map ps) (map qs) = size ps == size qs && (within ps qs && each_pair (is_pair_among ps) qs)
  same (ref o m) (ref p n) = same_owner o p && m == n
  same (atom m) (atom n) = m == n
  same (agent m) (agent n) = m == n
  same (var s m) (var t n) = bytes_eq s t && bytes_eq m n
  same (fault s m) (fault t n) = bytes_eq s t && bytes_eq m n
  same _ _ = false

  pub same_items : Items → Items → Bool
  same_items no_items no_items = true
  same_items (item d ds) (item e es) = same d e && same_items ds es
  same_items _ _ = false

  -- each pair of the first map has an equal one in the second
  pub within : Pairs → Pairs → Bool
  within no_pairs qs = true
  within (pair k v ps) qs = has_pair (same k) (same v) qs && within ps qs

  -- one of the pairs has this key and this value
  pub is_pair_among : Pairs → Datum → Datum → Bool
  is_pair_among no_pairs l w = false
  is_pair_among (pair k v ps) l w = (same k l && same v w) || is_pair_among ps l w
