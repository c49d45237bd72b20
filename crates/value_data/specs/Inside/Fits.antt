-- A measure that was taken of items, and the peaks of pairs.
use Rattle.std.specs.Prelude.{◌≡◌, List}
use Rattle.value_data.specs.Datum.{Datum, Pairs}
use Rattle.value_data.specs.Listed.{items_of}
use Rattle.value_data.specs.Measures.{capped, items_weight, items_nesting, are_plain}
use Rattle.value_data.specs.Inside.Hash.{factor, addend, peak}
use Rattle.value_data.specs.declared.node_measures.ItemsMeasure.{ItemsMeasure}
use Rattle.value_data.specs.declared.node_measures.Peaks.{Peaks}

pub record FitsItems (m : ItemsMeasure) (ds : List Datum) : Type 0 where
  pub weighed : m.weight ≡ capped (items_weight (items_of ds))
  pub nested : m.nesting ≡ capped (items_nesting (items_of ds))
  pub all_plain : m.plain ≡ are_plain (items_of ds)
  pub factored : m.factor ≡ factor ds
  pub added : m.addend ≡ addend ds

-- a map's hash is made of its size and these four
pub record FitsPeaks (m : Peaks) (ps : Pairs) : Type 0 where
  pub first : m.first ≡ peak 0xD6E8FEB86659FD93 ps
  pub second : m.second ≡ peak 0x2917014799A6026D ps
  pub third : m.third ≡ peak 0xBF58476D1CE4E5B9 ps
  pub fourth : m.fourth ≡ peak 0x40A7B892E31B1A47 ps
