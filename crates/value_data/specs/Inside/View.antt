-- The data that a `Value` stands for. A list's, a vector's and a map's stand in it already.
use Rattle.std.specs.Prelude.{List, map as each}
use Rattle.std.specs.Arc.{arc_str_bytes}
use Rattle.value_data.specs.Datum.{OwnerData, shared, tenant, Datum, nil, boolean, integer, string}
use Rattle.value_data.specs.Datum.{keyword, symbol, list, vector, map, ref, atom, agent, var, fault}
use Rattle.value_data.specs.Datum.{Items, Pairs}
use Rattle.value_data.specs.Listed.{items_of, pairs_of}
use Rattle.value_data.specs.declared.value.Owner.{Owner}
use Rattle.value_data.specs.declared.value.Value.{Value}

abbrev pub owner_view : Owner → OwnerData
owner_view Owner.Shared = shared
owner_view (Owner.Tenant t) = tenant t

abbrev pub view : Value → Datum
view Value.Nil = nil
view (Value.Bool b) = boolean b
view (Value.Int n) = integer n
view (Value.Str s) = string (arc_str_bytes s)
view (Value.Keyword s) = keyword (arc_str_bytes s)
view (Value.Symbol s) = symbol (arc_str_bytes s)
view (Value.List s) = list s.items
view (Value.Vector s) = vector s.items
view (Value.Map t) = map t.pairs
view (Value.Ref r) = ref (owner_view r.owner) r.number
view (Value.Atom n) = atom n
view (Value.Agent n) = agent n
view (Value.Var space name) = var (arc_str_bytes space) (arc_str_bytes name)
view (Value.Fault class text) = fault (arc_str_bytes class) (arc_str_bytes text)

abbrev pub views : List Value → List Datum
views = each view

abbrev pub items_view : List Value → Items
items_view vs = items_of (each view vs)

abbrev pub pair_view : Value × Value → Datum × Datum
pair_view p = (view p.0, view p.1)

abbrev pub pairs_view : List (Value × Value) → Pairs
pairs_view ps = pairs_of (each pair_view ps)
