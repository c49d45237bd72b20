-- What the nodes hold, and what they keep of it.
use Rattle.std.specs.Prelude.{◌≡◌, ℕ, ◌+◌, ◌<◌, ◌^◌, true, List, [], ◌∷◌, ◌++◌, length}
use Rattle.value_data.specs.Datum.{Datum, Pairs}
use Rattle.std.specs.List.{zip}
use Rattle.value_data.specs.Listed.{listed, items_of, pairs_of}
use Rattle.value_data.specs.Inside.Held.{ItemsTreeData, SequenceData, EntriesData, TableData}
use Rattle.value_data.specs.Inside.View.{views}
use Rattle.value_data.specs.Inside.Placed.{are_distinct}
use Rattle.value_data.specs.Inside.Index.{Indexes}
use Rattle.value_data.specs.Inside.Fits.{FitsItems, FitsPeaks}
use Rattle.value_data.specs.Inside.Seen.{MayFit}
use Rattle.value_data.specs.declared.edits.Edited.{Edited}
use Rattle.value_data.specs.declared.value.Value.{Value}
use Rattle.value_data.specs.declared.value.ItemsShape.{ItemsShape}
use Rattle.value_data.specs.declared.value.ItemsNode.{ItemsNode}
use Rattle.value_data.specs.declared.value.PairsNode.{PairsNode}

-- how many nodes and values stand in a value
abbrev pub held_count : Value → ℕ
held_count (Value.List s) = 1 + s.held
held_count (Value.Vector s) = 1 + s.held
held_count (Value.Map t) = 1 + t.held
held_count _ = 1

abbrev pub items_held : List Value → ℕ
items_held [] = 0
items_held (v ∷ vs) = held_count v + items_held vs

abbrev pub held : ItemsShape → ℕ
held (ItemsShape.Leaf v) = items_held v.items
held (ItemsShape.Fork l r) = 1 + l.held + r.held

-- the items from left to right
abbrev pub shown : ItemsShape → List Datum
shown (ItemsShape.Leaf v) = views v.items
shown (ItemsShape.Fork l r) = l.items ++ r.items

abbrev pub seen : ItemsNode → ItemsTreeData
seen n = record { items = shown n.shape; held = held n.shape }

-- the same as a list or a vector has them
abbrev pub seen_items : ItemsNode → SequenceData
seen_items n = record { items = items_of (shown n.shape); held = held n.shape }

-- The number and the measure are those of the items. There are fewer than a vector has at most.
pub record KeepsItems (n : ItemsNode) : Type 0 where
  pub counted : n.len ≡ length (shown n.shape)
  pub measured : FitsItems n.measure (shown n.shape)
  pub bounded : n.len < 2 ^ 63

-- each key beside its value
abbrev pub seen_entries : SequenceData → SequenceData → EntriesData
seen_entries ks vs = record {
  listed = zip (listed ks.items) (listed vs.items);
  held = 1 + ks.held + vs.held;
}

abbrev pub AreEven : SequenceData → SequenceData → Type 0
AreEven ks vs = length (listed vs.items) ≡ length (listed ks.items)

abbrev pub entry_pairs : EntriesData → Pairs
entry_pairs e = pairs_of e.listed

abbrev pub seen_pairs : PairsNode → TableData
seen_pairs n = record { pairs = entry_pairs n.entries; held = 1 + n.entries.held }

pub record KeepsPairs (n : PairsNode) : Type 0 where
  pub peaked : FitsPeaks n.peaks (entry_pairs n.entries)
  pub distinct : are_distinct (entry_pairs n.entries) ≡ true
  pub indexed : Indexes n.index (entry_pairs n.entries)

-- the same of pairs that are being changed
pub record KeepsEdited (e : Edited) : Type 0 where
  pub peaked : MayFit e.peaks (entry_pairs e.entries)
  pub distinct : are_distinct (entry_pairs e.entries) ≡ true
  pub indexed : Indexes e.index (entry_pairs e.entries)
