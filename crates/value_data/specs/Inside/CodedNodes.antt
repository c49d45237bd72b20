-- Nodes, of which a value is written, and their codes.
use Rattle.std.specs.Prelude.{◌≡◌, ℕ, ℤ, pos, List, [], ◌∷◌, Bool, true, false, if◌then◌else◌, ◌==◌}
use Rattle.std.specs.Prelude.{unsigned_abs, refl}
use Rattle.std.specs.Coded.{Coded, code_by, coded×, coded_ℕ, coded_ℤ, coded_list, coded_option}
use Rattle.std.specs.Prelude.{Option, Some, None}
use Rattle.value_data.specs.Datum.{OwnerData, shared, tenant}

abbrev pub owner_number : OwnerData → Option ℕ
owner_number shared = None
owner_number (tenant t) = Some t

abbrev pub numbered_owner : Option ℕ → OwnerData
numbered_owner None = shared
numbered_owner (Some t) = tenant t

pub numbered_owner-owner_number : (o : OwnerData) → numbered_owner (owner_number o) ≡ o
numbered_owner-owner_number shared = refl
numbered_owner-owner_number (tenant t) = refl

abbrev pub owner_code : Coded OwnerData
owner_code = code_by (Option ℕ) (coded_option coded_ℕ) owner_number numbered_owner
    numbered_owner-owner_number

-- a value that has no parts, or what to do with the parts that were read last
pub data CodedNode : Type 0 where
  n_nil : CodedNode
  n_boolean : Bool → CodedNode
  n_integer : ℤ → CodedNode
  n_string : List ℕ → CodedNode
  n_keyword : List ℕ → CodedNode
  n_symbol : List ℕ → CodedNode
  n_ref : OwnerData → ℕ → CodedNode
  n_atom : ℕ → CodedNode
  n_agent : ℕ → CodedNode
  n_var : List ℕ → List ℕ → CodedNode
  n_fault : List ℕ → List ℕ → CodedNode
  n_list : CodedNode
  n_vector : CodedNode
  n_map : CodedNode
  n_no_items : CodedNode
  n_item : CodedNode
  n_no_pairs : CodedNode
  n_pair : CodedNode

-- a node as its kind, its number and its texts
abbrev pub NodeFields : Type 0
NodeFields = ℕ × (ℤ × (List ℕ × List ℕ))

abbrev pub node_fields : ℕ → ℤ → List ℕ → List ℕ → NodeFields
node_fields kind n s t = (kind, (n, (s, t)))

abbrev pub fields_of_node : CodedNode → NodeFields
fields_of_node n_nil = node_fields 0 (pos 0) [] []
fields_of_node (n_boolean b) = node_fields 1 (pos (if b then 1 else 0)) [] []
fields_of_node (n_integer n) = node_fields 2 n [] []
fields_of_node (n_string s) = node_fields 3 (pos 0) s []
fields_of_node (n_keyword s) = node_fields 4 (pos 0) s []
fields_of_node (n_symbol s) = node_fields 5 (pos 0) s []
fields_of_node (n_ref shared n) = node_fields 6 (pos n) [] []
fields_of_node (n_ref (tenant t) n) = node_fields 7 (pos n) (t ∷ []) []
fields_of_node (n_atom n) = node_fields 8 (pos n) [] []
fields_of_node (n_agent n) = node_fields 9 (pos n) [] []
fields_of_node (n_var s t) = node_fields 10 (pos 0) s t
fields_of_node (n_fault s t) = node_fields 11 (pos 0) s t
fields_of_node n_list = node_fields 12 (pos 0) [] []
fields_of_node n_vector = node_fields 13 (pos 0) [] []
fields_of_node n_map = node_fields 14 (pos 0) [] []
fields_of_node n_no_items = node_fields 15 (pos 0) [] []
fields_of_node n_item = node_fields 16 (pos 0) [] []
fields_of_node n_no_pairs = node_fields 17 (pos 0) [] []
fields_of_node n_pair = node_fields 18 (pos 0) [] []

abbrev pub first_number : List ℕ → ℕ
first_number [] = 0
first_number (n ∷ ns) = n

abbrev pub node_of_fields : NodeFields → CodedNode
node_of_fields r =
    if r.0 == 0 then n_nil else (
    if r.0 == 1 then n_boolean (unsigned_abs r.1.0 == 1) else (
    if r.0 == 2 then n_integer r.1.0 else (
    if r.0 == 3 then n_string r.1.1.0 else (
    if r.0 == 4 then n_keyword r.1.1.0 else (
    if r.0 == 5 then n_symbol r.1.1.0 else (
    if r.0 == 6 then n_ref shared (unsigned_abs r.1.0) else (
    if r.0 == 7 then n_ref (tenant (first_number r.1.1.0)) (unsigned_abs r.1.0) else (
    if r.0 == 8 then n_atom (unsigned_abs r.1.0) else (
    if r.0 == 9 then n_agent (unsigned_abs r.1.0) else (
    if r.0 == 10 then n_var r.1.1.0 r.1.1.1 else (
    if r.0 == 11 then n_fault r.1.1.0 r.1.1.1 else (
    if r.0 == 12 then n_list else (
    if r.0 == 13 then n_vector else (
    if r.0 == 14 then n_map else (
    if r.0 == 15 then n_no_items else (
    if r.0 == 16 then n_item else (
    if r.0 == 17 then n_no_pairs else n_pair)))))))))))))))))

pub node_of_fields-fields_of_node : (n : CodedNode) → node_of_fields (fields_of_node n) ≡ n
node_of_fields-fields_of_node n_nil = refl
node_of_fields-fields_of_node (n_boolean true) = refl
node_of_fields-fields_of_node (n_boolean false) = refl
node_of_fields-fields_of_node (n_integer n) = refl
node_of_fields-fields_of_node (n_string s) = refl
node_of_fields-fields_of_node (n_keyword s) = refl
node_of_fields-fields_of_node (n_symbol s) = refl
node_of_fields-fields_of_node (n_ref shared n) = refl
node_of_fields-fields_of_node (n_ref (tenant t) n) = refl
node_of_fields-fields_of_node (n_atom n) = refl
node_of_fields-fields_of_node (n_agent n) = refl
node_of_fields-fields_of_node (n_var s t) = refl
node_of_fields-fields_of_node (n_fault s t) = refl
node_of_fields-fields_of_node n_list = refl
node_of_fields-fields_of_node n_vector = refl
node_of_fields-fields_of_node n_map = refl
node_of_fields-fields_of_node n_no_items = refl
node_of_fields-fields_of_node n_item = refl
node_of_fields-fields_of_node n_no_pairs = refl
node_of_fields-fields_of_node n_pair = refl

abbrev pub nodes_code : Coded (List CodedNode)
nodes_code =
    coded_list (code_by NodeFields (coded× coded_ℕ
    (coded× coded_ℤ (coded× (coded_list coded_ℕ) (coded_list coded_ℕ)))) fields_of_node
    node_of_fields node_of_fields-fields_of_node)
