-- What stands in a node is smaller than what the node holds.
use Rattle.std.specs.Prelude.{◌+◌, ◌≤◌, max, List, [], ◌∷◌}
use Rattle.std.proofs.Common.{arith}
use denote.Param.Weighed.{most}
use Rattle.value_data.specs.Inside.Nodes.{held_count, items_held, held}
use Rattle.value_data.specs.declared.value.Value.{Value}
use Rattle.value_data.specs.declared.value.Value.TheVariants as is
use Rattle.value_data.specs.declared.value.ItemsShape.{ItemsShape}
use Rattle.value_data.specs.declared.value.ItemsShape.TheVariants as shape
use Rattle.value_data.specs.declared.value.Entries.TheDeep.{deep-Value, deep-ItemsShape}
use Rattle.value_data.specs.declared.value.Entries.TheDeep.{deep-Entries}
use Rattle.value_data.specs.declared.value.Entries.TheInside.{Inside}
use Rattle.value_data.specs.Inside.Held.{EntriesData}

deep_le-held_count : (v : Value) → deep-Value v ≤ held_count v
deep_le-held_count is.Nil = omega arith
deep_le-held_count (is.Bool b) = omega arith
deep_le-held_count (is.Int n) = omega arith
deep_le-held_count (is.Str s) = omega arith
deep_le-held_count (is.Keyword s) = omega arith
deep_le-held_count (is.Symbol s) = omega arith
deep_le-held_count (is.List ds) = omega arith
deep_le-held_count (is.Vector ds) = omega arith
deep_le-held_count (is.Map ps) = omega arith
deep_le-held_count (is.Ref r) = omega arith
deep_le-held_count (is.Atom n) = omega arith
deep_le-held_count (is.Agent n) = omega arith
deep_le-held_count (is.Var space name) = omega arith
deep_le-held_count (is.Fault class text) = omega arith

most_le-items_held : (vs : List Value) → most deep-Value vs ≤ items_held vs
most_le-items_held [] = omega arith
most_le-items_held (v ∷ vs) = omega (arith, deep_le-held_count v, most_le-items_held vs)

pub shape-falls : (s : ItemsShape) → max (max (deep-ItemsShape s) 0) 0 ≤ held s
shape-falls (shape.Leaf v) = omega (arith, most_le-items_held v.items)
shape-falls (shape.Fork l r) = omega arith

pub entries-fall : (a : Inside) → deep-Entries a ≤ 1 + a.keys.held + a.values.held
entries-fall a = omega arith

pub pairs-fall : (e : EntriesData) → max (max (e.held + 1) 0) 0 ≤ 1 + e.held
pairs-fall e = omega arith
