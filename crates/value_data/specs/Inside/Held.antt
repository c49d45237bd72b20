-- What shared nodes are seen as: what a program sees of them, and how many nodes and values stand in
-- them at any depth.
use Rattle.std.specs.Prelude.{ℕ, List, refl}
use Rattle.std.specs.Coded.{Coded, code_by, coded×, coded_ℕ, coded_list}
use Rattle.value_data.specs.Datum.{Datum, Items, Pairs}
use Rattle.value_data.specs.Inside.Code.{datum_code, items_code, pairs_code}

pub record ItemsTreeData : Type 0 where
  pub items : List Datum
  pub held : ℕ

pub record SequenceData : Type 0 where
  pub items : Items
  pub held : ℕ

pub record EntriesData : Type 0 where
  pub listed : List (Datum × Datum)
  pub held : ℕ

pub record TableData : Type 0 where
  pub pairs : Pairs
  pub held : ℕ

abbrev pub tree_code : Coded ItemsTreeData
tree_code =
    code_by (List Datum × ℕ) (coded× (coded_list datum_code) coded_ℕ) (λ t. (t.items, t.held))
    (λ p. record { items = p.0; held = p.1 }) (λ _. refl)

abbrev pub sequence_code : Coded SequenceData
sequence_code =
    code_by (Items × ℕ) (coded× items_code coded_ℕ) (λ s. (s.items, s.held))
    (λ p. record { items = p.0; held = p.1 }) (λ _. refl)

abbrev pub entries_code : Coded EntriesData
entries_code =
    code_by (List (Datum × Datum) × ℕ)
    (coded× (coded_list (coded× datum_code datum_code)) coded_ℕ) (λ e. (e.listed, e.held))
    (λ p. record { listed = p.0; held = p.1 }) (λ _. refl)

abbrev pub table_code : Coded TableData
table_code =
    code_by (Pairs × ℕ) (coded× pairs_code coded_ℕ) (λ t. (t.pairs, t.held))
    (λ p. record { pairs = p.0; held = p.1 }) (λ _. refl)
