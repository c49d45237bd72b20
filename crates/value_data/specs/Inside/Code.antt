-- Codes of values, by which a model can hold them: a value is written as its nodes, each behind its
-- parts, and read back by a stack.
use Rattle.std.specs.Prelude.{◌≡◌, List, [], ◌∷◌, refl}
use Rattle.std.proofs.Common.{◌∙◌, ap}
use Rattle.std.specs.Coded.{Coded, code_by}
use Rattle.value_data.specs.Datum.{Datum, nil, boolean, integer, string, keyword, symbol, list}
use Rattle.value_data.specs.Datum.{vector, map, ref, atom, agent, var, fault, Items, no_items, item}
use Rattle.value_data.specs.Datum.{Pairs, no_pairs, pair}
use Rattle.value_data.specs.Inside.CodedNodes.{CodedNode, nodes_code, n_nil, n_boolean, n_integer}
use Rattle.value_data.specs.Inside.CodedNodes.{n_string}
use Rattle.value_data.specs.Inside.CodedNodes.{n_keyword, n_symbol, n_ref, n_atom, n_agent, n_var}
use Rattle.value_data.specs.Inside.CodedNodes.{n_fault}
use Rattle.value_data.specs.Inside.CodedNodes.{n_list, n_vector, n_map, n_no_items, n_item}
use Rattle.value_data.specs.Inside.CodedNodes.{n_no_pairs}
use Rattle.value_data.specs.Inside.CodedNodes.{n_pair}

-- the nodes of a value, before those that follow
abbrev mutual
  pub write : Datum → List CodedNode → List CodedNode
  write nil ns = n_nil ∷ ns
  write (boolean b) ns = n_boolean b ∷ ns
  write (integer n) ns = n_integer n ∷ ns
  write (string s) ns = n_string s ∷ ns
  write (keyword s) ns = n_keyword s ∷ ns
  write (symbol s) ns = n_symbol s ∷ ns
  write (list ds) ns = write_items ds (n_list ∷ ns)
  write (vector ds) ns = write_items ds (n_vector ∷ ns)
  write (map ps) ns = write_pairs ps (n_map ∷ ns)
  write (ref owner number) ns = n_ref owner number ∷ ns
  write (atom number) ns = n_atom number ∷ ns
  write (agent number) ns = n_agent number ∷ ns
  write (var space name) ns = n_var space name ∷ ns
  write (fault class text) ns = n_fault class text ∷ ns

  pub write_items : Items → List CodedNode → List CodedNode
  write_items no_items ns = n_no_items ∷ ns
  write_items (item d ds) ns = write_items ds (write d (n_item ∷ ns))

  pub write_pairs : Pairs → List CodedNode → List CodedNode
  write_pairs no_pairs ns = n_no_pairs ∷ ns
  write_pairs (pair k v ps) ns = write_pairs ps (write k (write v (n_pair ∷ ns)))

-- what was read and waits for its node
pub data StackEntry : Type 0 where
  one : Datum → StackEntry
  some_items : Items → StackEntry
  some_pairs : Pairs → StackEntry

abbrev pub with_node : CodedNode → List StackEntry → List StackEntry
with_node n_nil ps = one nil ∷ ps
with_node (n_boolean b) ps = one (boolean b) ∷ ps
with_node (n_integer n) ps = one (integer n) ∷ ps
with_node (n_string s) ps = one (string s) ∷ ps
with_node (n_keyword s) ps = one (keyword s) ∷ ps
with_node (n_symbol s) ps = one (symbol s) ∷ ps
with_node (n_ref owner number) ps = one (ref owner number) ∷ ps
with_node (n_atom number) ps = one (atom number) ∷ ps
with_node (n_agent number) ps = one (agent number) ∷ ps
with_node (n_var space name) ps = one (var space name) ∷ ps
with_node (n_fault class text) ps = one (fault class text) ∷ ps
with_node n_list (some_items ds ∷ ps) = one (list ds) ∷ ps
with_node n_vector (some_items ds ∷ ps) = one (vector ds) ∷ ps
with_node n_map (some_pairs qs ∷ ps) = one (map qs) ∷ ps
with_node n_no_items ps = some_items no_items ∷ ps
with_node n_item (one d ∷ some_items ds ∷ ps) = some_items (item d ds) ∷ ps
with_node n_no_pairs ps = some_pairs no_pairs ∷ ps
with_node n_pair (one v ∷ one k ∷ some_pairs qs ∷ ps) = some_pairs (pair k v qs) ∷ ps
with_node _ ps = ps

abbrev pub read : List CodedNode → List StackEntry → List StackEntry
read [] ps = ps
read (n ∷ ns) ps = read ns (with_node n ps)

mutual
  pub read-write : (d : Datum) (ns : List CodedNode) (ps : List StackEntry)
      → read (write d ns) ps ≡ read ns (one d ∷ ps)
  read-write nil ns ps = refl
  read-write (boolean b) ns ps = refl
  read-write (integer n) ns ps = refl
  read-write (string s) ns ps = refl
  read-write (keyword s) ns ps = refl
  read-write (symbol s) ns ps = refl
  read-write (list ds) ns ps = read-write_items ds (n_list ∷ ns) ps
  read-write (vector ds) ns ps = read-write_items ds (n_vector ∷ ns) ps
  read-write (map qs) ns ps = read-write_pairs qs (n_map ∷ ns) ps
  read-write (ref owner number) ns ps = refl
  read-write (atom number) ns ps = refl
  read-write (agent number) ns ps = refl
  read-write (var space name) ns ps = refl
  read-write (fault class text) ns ps = refl

  pub read-write_items : (ds : Items) (ns : List CodedNode) (ps : List StackEntry)
      → read (write_items ds ns) ps ≡ read ns (some_items ds ∷ ps)
  read-write_items no_items ns ps = refl
  read-write_items (item d ds) ns ps =
      read-write_items ds (write d (n_item ∷ ns)) ps
      ∙ read-write d (n_item ∷ ns) (some_items ds ∷ ps)

  pub read-write_pairs : (qs : Pairs) (ns : List CodedNode) (ps : List StackEntry)
      → read (write_pairs qs ns) ps ≡ read ns (some_pairs qs ∷ ps)
  read-write_pairs no_pairs ns ps = refl
  read-write_pairs (pair k v qs) ns ps =
      read-write_pairs qs (write k (write v (n_pair ∷ ns))) ps
      ∙ read-write k (write v (n_pair ∷ ns)) (some_pairs qs ∷ ps)
      ∙ read-write v (n_pair ∷ ns) (one k ∷ some_pairs qs ∷ ps)

abbrev pub read_datum : List StackEntry → Datum
read_datum (one d ∷ ps) = d
read_datum _ = nil

abbrev pub read_items : List StackEntry → Items
read_items (some_items ds ∷ ps) = ds
read_items _ = no_items

abbrev pub read_pairs : List StackEntry → Pairs
read_pairs (some_pairs qs ∷ ps) = qs
read_pairs _ = no_pairs

pub datum-read : (d : Datum) → read_datum (read (write d []) []) ≡ d
datum-read d = ap read_datum (read-write d [] [])

pub items-read : (ds : Items) → read_items (read (write_items ds []) []) ≡ ds
items-read ds = ap read_items (read-write_items ds [] [])

pub pairs-read : (qs : Pairs) → read_pairs (read (write_pairs qs []) []) ≡ qs
pairs-read qs = ap read_pairs (read-write_pairs qs [] [])

abbrev pub datum_code : Coded Datum
datum_code = code_by (List CodedNode) nodes_code (λ d. write d [])
    (λ ns. read_datum (read ns [])) datum-read

abbrev pub items_code : Coded Items
items_code = code_by (List CodedNode) nodes_code (λ ds. write_items ds [])
    (λ ns. read_items (read ns [])) items-read

abbrev pub pairs_code : Coded Pairs
pairs_code = code_by (List CodedNode) nodes_code (λ qs. write_pairs qs [])
    (λ ns. read_pairs (read ns [])) pairs-read
